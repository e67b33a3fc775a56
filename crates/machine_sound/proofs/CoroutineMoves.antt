-- Moves that end, fail, suspend, resume and close coroutines.
use Rattle.std.proofs.Common.{ℕ, ◌<◌, ◌≤◌, ◌≡◌, inl, inr, ⊎_elim, List, [], ◌∷◌, ◌++◌, Option, Some, None, refl, subst, sym, ap, ◌∙◌, length, drop, map, arith, Bool, true, false, cond}
use Rattle.std.specs.Prelude.{slice_get, slice_set, nat_lt, codes, flat_map, ◌&&◌}
use Rattle.std.proofs.lemmas.Bool.{cases_eq}
use Rattle.std.proofs.lemmas.Bool.Decides.{nat_tests}
use Rattle.std.proofs.lemmas.List.{map-set}
use Rattle.int_core.specs.Value.{Value, object, a_coroutine, is_object, shape, bind, last, greatest_string}
use Rattle.int_core.specs.Limits.{greatest_resumes}
use Rattle.machine_core.specs.World.{closed, open_at, Frame, lua, closing, Coroutine, fresh, suspended, in_progress, normal, dead, failed, World, Stack, stack_of}
use Rattle.machine_core.specs.Text.{Arg, read, written, arg}
use Rattle.machine_core.specs.Moves.{take_moving, see_top, end_coroutine, fail_coroutine, suspend, resume, CallShape, is_entered, is_primitive, not_paid, not_entered, TopShape, lua_top, no_top, top_shape, top_now, runs_main, resumed, refused, pending_values, all_closed_from, put_coroutine, back_to_resumer, bury, suspend_running, wait_for_another, go_into, ends_as, starts_in, can_start, resumes, coroutine_number, enters, made, move}
use Rattle.machine_sound.specs.Sound.{Each, sizes, Valid, FrameOk, FrameWaits, AllWait, CoroutineOk, runs, resumed_another, apart, standing, ChainOk, registers_in, registers_of, CellOk, Solid, Settled, StackWaits}
use Rattle.machine_sound.specs.Safe.{waiting, in_resumed, between, handing, Is, IsPhase, after_end, after_resuming, after_handing, Ready, MoveGood}
use Rattle.machine_sound.proofs.Lists.{each_none, each_set, bind_at, get_set_same, get_set_other, length_set, get_map, get_there, last_push, some_is, each_drop}
use Rattle.machine_sound.proofs.Values.{arg_valid, nth_ok, le_of}
use Rattle.machine_sound.proofs.Grow.{Grows, grows_self, grows_then, values_on, valid_on, each_waits_on}
use Rattle.machine_sound.proofs.Waits.{with_moving, moving_grows, moving_solid, moving_waits, waits_stack, EnteredAs, enters_good}
use Rattle.machine_sound.proofs.Held.{lua_settles}
use Rattle.machine_sound.proofs.Moves.{made_so}
use Rattle.machine_sound.proofs.WaitingMoves.{WaitingGood, top_is}
use Rattle.machine_sound.proofs.Chains.{chain_forward}
use Rattle.machine_sound.proofs.Coroutines.{with_coroutines, coroutines_grow, coroutines_solid, registers_by, registers_are, CellsLeft, buried_cells, pendings_valid, goes_back}
use Rattle.machine_sound.proofs.Frames.{stack_is}

-- endings

dead_cells : (n : ℕ) (W : World) (s : Solid n W) (h : StackWaits n W) (d : Coroutine) → CellsLeft n W h.coroutine d (all_closed_from h.coroutine 0 h.frames W.cells)
dead_cells n W s h d = buried_cells n W s h.coroutine (in_progress h.frames) d h.frames h.running refl (s.coroutines h.coroutine (in_progress h.frames) h.running)

ends_is : (n : ℕ) (W : World) (h : StackWaits n W) (c : Coroutine) → ends_as W c ≡ Some (back_to_resumer (put_coroutine (record W { cells = all_closed_from h.coroutine 0 h.frames W.cells }) h.coroutine c))
unfolding bury
ends_is n W h c = bind_at _ (stack_of W) (record { coroutine = h.coroutine; frames = h.frames }) (waits_stack n W h)

main_of : (W : World) (o : Option Frame) (b : Bool) → top_shape W o ≡ no_top b → runs_main W ≡ b
main_of W None b e = cc
main_of W (Some (closing v vs)) b e = absurd (cc)
main_of W _ b e = absurd (cc)

pub end_coroutine_waits : (n : ℕ) → WaitingGood n end_coroutine
end_coroutine_waits n (Some (no_top b)) env W i r =
    let h = i.phase.all in
    let g = goes_back n W i.solid h dead refl tt (all_closed_from h.coroutine 0 h.frames W.cells) (dead_cells n W i.solid h dead) in
    let m = main_of W (last h.frames) b i.phase.top in
    record {
      event = record { in_main = b; is = refl };
      world = g.world;
      is = bind_at (λ V. made V [] (runs_main W)) (ends_as W dead) _ (ends_is n W h dead) ∙ ap (λ V. made V [] (runs_main W)) g.is ∙ ap (made g.world []) m;
      holds = made_so n (waiting (Some (no_top b))) (after_end b) env [] W g.world i g.grows g.solid (g.phase b m) (each_none (Valid (sizes n g.world)));
    }
end_coroutine_waits n _ env W i r = absurd r

suspend_is : (W : World) (s : Stack) → suspend_running W s ≡ back_to_resumer (put_coroutine (record W { cells = W.cells }) s.coroutine (suspended s.frames))
unfolding suspend_running
suspend_is W s = refl

pub suspend_waits : (n : ℕ) → WaitingGood n suspend
suspend_waits n s env W i r =
    let h = i.phase.all in
    let z = sizes n W in
    let fr = i.solid.coroutines h.coroutine (in_progress h.frames) h.running in
    let left : CellsLeft n W h.coroutine (suspended h.frames) W.cells = record {
      count = refl;
      still_open = λ i e g r x. x;
      closed_ok = λ j v e. i.solid.cells j (closed v) e;
      there = λ j g r x. subst (λ m. r < m) (registers_are W.coroutines h.coroutine g (in_progress h.frames) h.running) (i.solid.cells j (open_at h.coroutine g r) x);
    } in
    let g = goes_back n W i.solid h (suspended h.frames) refl (record { right = fr; waits = h.waits }) W.cells left in
    record {
      event = runs_main W;
      world = g.world;
      is = bind_at _ (stack_of W) (record { coroutine = h.coroutine; frames = h.frames }) (waits_stack n W h) ∙ ap (λ V. made V [] (runs_main W)) (suspend_is W (record { coroutine = h.coroutine; frames = h.frames }) ∙ g.is);
      holds = made_so n (waiting s) (after_end (runs_main W)) env [] W g.world i g.grows g.solid (g.phase (runs_main W) refl) (each_none (Valid (sizes n g.world)));
    }

pub fail_resumed : (n : ℕ) (x : Arg) (env : List Value) (W : World) → Is n in_resumed env W → Ready in_resumed env (fail_coroutine x) → MoveGood n in_resumed env (fail_coroutine x) W
fail_resumed n x env W i r =
    let h = i.phase.all in
    let z = sizes n W in
    let fr = i.solid.coroutines h.coroutine (in_progress h.frames) h.running in
    let d = failed (arg env x) (flat_map pending_values h.frames) in
    let g = goes_back n W i.solid h d refl (arg_valid z env x i.valid r, pendings_valid z h.frames fr.each) (all_closed_from h.coroutine 0 h.frames W.cells) (dead_cells n W i.solid h d) in
    record {
      event = tt;
      world = g.world;
      is = bind_at _ (stack_of W) (record { coroutine = h.coroutine; frames = h.frames }) (waits_stack n W h) ∙ bind_at (λ V. made V [] tt) (ends_as W d) _ (ends_is n W h d) ∙ ap (λ V. made V [] tt) g.is;
      holds = made_so n in_resumed (waiting None) env [] W g.world i g.grows g.solid (g.phase false i.phase.resumed_one) (each_none (Valid (sizes n g.world)));
    }

pub fail_waits : (n : ℕ) (x : Arg) → WaitingGood n (fail_coroutine x)
fail_waits n x (Some (no_top b)) env W i r =
    let h = i.phase.all in
    let z = sizes n W in
    let fr = i.solid.coroutines h.coroutine (in_progress h.frames) h.running in
    let d = failed (arg env x) (flat_map pending_values h.frames) in
    let g = goes_back n W i.solid h d refl (arg_valid z env x i.valid r.1, pendings_valid z h.frames fr.each) (all_closed_from h.coroutine 0 h.frames W.cells) (dead_cells n W i.solid h d) in
    let m = main_of W (last h.frames) b i.phase.top in
    record {
      event = record { in_main = b; is = refl };
      world = g.world;
      is = bind_at _ (stack_of W) (record { coroutine = h.coroutine; frames = h.frames }) (waits_stack n W h) ∙ bind_at (λ V. made V [] tt) (ends_as W d) _ (ends_is n W h d) ∙ ap (λ V. made V [] tt) g.is;
      holds = made_so n (waiting (Some (no_top b))) (after_end b) env [] W g.world i g.grows g.solid (g.phase b m) (each_none (Valid (sizes n g.world)));
    }
fail_waits n x _ env W i r = absurd r.0

pub take_moving_resumed : (n : ℕ) (env : List Value) (W : World) → Is n in_resumed env W → MoveGood n in_resumed env take_moving W
take_moving_resumed n env W i =
    let V = with_moving W [] W.fuel in
    record {
      event = W.moving;
      world = V;
      is = refl;
      holds = made_so n in_resumed in_resumed env W.moving W V i (moving_grows n W [] W.fuel) (moving_solid n W [] W.fuel i.solid (each_none (Valid (sizes n W)))) (record { all = moving_waits n W [] W.fuel i.phase.all; resumed_one = i.phase.resumed_one }) (values_on (sizes n W) (sizes n V) (moving_grows n W [] W.fuel) W.moving i.solid.moving);
    }

-- handing over

handed_phase : (n : ℕ) (W : World) → Solid n W → (h : StackWaits n W) (k : TopShape) → top_shape W (last h.frames) ≡ k → IsPhase n (after_handing k) W
handed_phase n W s h lua_top e = lua_settles n W s (record { all = h; top = e })
handed_phase n W s h _ e = record { all = h; top = e }

pub see_top_handing : (n : ℕ) (env : List Value) (W : World) → Is n handing env W → MoveGood n handing env see_top W
see_top_handing n env W i = ⊎_elim
    (λ (h : StackWaits n W). record {
      event = top_shape W (last h.frames);
      world = W;
      is = bind_at (λ top. made W [] top) (top_now W) (top_shape W (last h.frames)) (top_is n W h);
      holds = made_so n handing (after_handing (top_shape W (last h.frames))) env [] W W i (grows_self (sizes n W)) i.solid (handed_phase n W i.solid h (top_shape W (last h.frames)) refl) (each_none (Valid (sizes n W)));
    })
    (λ (k : Settled n W).
    let t = k.is_top in
    let e : top_now W ≡ Some lua_top = bind_at (λ (s : Stack). Some (top_shape W (last s.frames))) (stack_of W) _ (stack_is W t.coroutine (t.base ++ lua t.top ∷ []) t.last t.frames) ∙ ap (λ o. Some (top_shape W o)) (last_push t.base (lua t.top)) in
    record {
      event = lua_top;
      world = W;
      is = bind_at (λ top. made W [] top) (top_now W) lua_top e;
      holds = made_so n handing between env [] W W i (grows_self (sizes n W)) i.solid k (each_none (Valid (sizes n W)));
    })
    i.phase

-- a coroutine that is named

pub coroutine_is : (v : Value) → shape v ≡ is_object a_coroutine → (m : ℕ) × (v ≡ object a_coroutine m)
coroutine_is (object a_coroutine m) e = (m, refl)
coroutine_is _ e = absurd (cc)

pub record Named (n : ℕ) (env : List Value) (W : World) (x : Arg) : Type 0 where
  pub number : ℕ
  pub is_number : coroutine_number (arg env x) ≡ Some number
  pub coroutine : Coroutine
  pub there : slice_get W.coroutines number ≡ Some coroutine

pub named_there : (n : ℕ) (env : List Value) (W : World) (x : Arg) → Each (Valid (sizes n W)) env → shape (arg env x) ≡ is_object a_coroutine → Named n env W x
named_there n env W x v e =
    let c = coroutine_is (arg env x) e in
    let b : c.0 < length W.coroutines = subst (Valid (sizes n W)) c.1 (valid x e) in
    let g = get_there W.coroutines c.0 b in
    record { number = c.0; is_number = ap coroutine_number c.1; coroutine = g.0; there = g.1 }
  where
    valid : (x : Arg) → shape (arg env x) ≡ is_object a_coroutine → Valid (sizes n W) (arg env x)
    valid (read k) h = nth_ok (Valid (sizes n W)) tt env k v
    valid (written p) h = absurd (cc)

-- resuming

module _ (n : ℕ) (W : World) (s : Solid n W) (h : StackWaits n W) (co : ℕ) (c : Coroutine) (gs : List Frame) (there : slice_get W.coroutines co ≡ Some c) (a : standing c ≡ apart) (same : (g : ℕ) → registers_in gs g ≡ registers_by c g) (k : AllWait (sizes n W) gs) (l : length W.chain ≤ greatest_resumes) where
  abbrev held : List Coroutine
  held = slice_set W.coroutines h.coroutine (normal h.frames)

  abbrev cos : List Coroutine
  cos = slice_set held co (in_progress gs)

  differ : h.coroutine ≡ co → ⊥
  differ e = let q : c ≡ in_progress h.frames = some_is there (ap (slice_get W.coroutines) (sym e) ∙ h.running) in let r = ap standing q in absurd (let x : apart ≡ runs = sym a ∙ r in cc)

  still : slice_get held co ≡ Some c
  still = get_set_other W.coroutines h.coroutine co (normal h.frames) differ ∙ there

  pub size : length cos ≡ length W.coroutines
  size = length_set held co (in_progress gs) ∙ length_set W.coroutines h.coroutine (normal h.frames)

  standings : map standing cos ≡ slice_set (slice_set (map standing W.coroutines) h.coroutine resumed_another) co runs
  standings = map-set standing held co (in_progress gs) ∙ ap (λ l. slice_set l co runs) (map-set standing W.coroutines h.coroutine (normal h.frames))

  chained : ChainOk W.main (map standing cos) (W.chain ++ co ∷ [])
  chained = subst (λ st. ChainOk W.main st (W.chain ++ co ∷ [])) (sym standings)
      (chain_forward W.main (map standing W.coroutines) W.chain h.coroutine co s.chain h.last (get_map standing W.coroutines h.coroutine (in_progress h.frames) h.running) (get_map standing W.coroutines co c there ∙ ap Some a) l)

  here : slice_get cos co ≡ Some (in_progress gs)
  here = get_set_same held co c (in_progress gs) still

  registers_same : (e g : ℕ) → registers_of cos e g ≡ registers_of W.coroutines e g
  registers_same e g = ⊎_elim
      (λ (q : e ≡ co). subst (λ e. registers_of cos e g ≡ registers_of W.coroutines e g) (sym q) (registers_are cos co g (in_progress gs) here ∙ same g ∙ sym (registers_are W.coroutines co g c there)))
      (λ q. rw (get_set_other held co e (in_progress gs) (λ k. q (sym k)), registers_of)
      (⊎_elim
      (λ (p : e ≡ h.coroutine). subst (λ e. registers_of held e g ≡ registers_of W.coroutines e g) (sym p) (registers_are held h.coroutine g (normal h.frames) (get_set_same W.coroutines h.coroutine (in_progress h.frames) (normal h.frames) h.running) ∙ sym (registers_are W.coroutines h.coroutine g (in_progress h.frames) h.running)))
      (λ p. rw (get_set_other W.coroutines h.coroutine e (normal h.frames) (λ k. p (sym k)), registers_of) refl) (cases_eq e h.coroutine)))
      (cases_eq e co)

  cells_ok : Each (CellOk (sizes n W) cos) W.cells
  cells_ok i (closed v) e = s.cells i (closed v) e
  cells_ok i (open_at d g r) e = subst (λ m. r < m) (sym (registers_same d g)) (s.cells i (open_at d g r) e)

  abbrev pub resumed_world : World
  resumed_world = with_coroutines n W s W.cells cos (W.chain ++ co ∷ []) refl size

  pub resumed_grows : Grows (sizes n W) (sizes n resumed_world)
  resumed_grows = coroutines_grow n W s W.cells cos (W.chain ++ co ∷ []) refl size

  pub resumed_solid : Solid n resumed_world
  resumed_solid = coroutines_solid n W s W.cells cos (W.chain ++ co ∷ []) refl size cells_ok s.one_each
      (each_set (CoroutineOk (sizes n W)) held co (in_progress gs) (each_set (CoroutineOk (sizes n W)) W.coroutines h.coroutine (normal h.frames) s.coroutines (record { right = s.coroutines h.coroutine (in_progress h.frames) h.running; waits = h.waits })) k.right) chained

  pub resumed_waits : StackWaits n resumed_world
  resumed_waits = record { coroutine = co; frames = gs; last = last_push W.chain co; running = here; waits = each_waits_on (sizes n W) (sizes n resumed_world) resumed_grows gs k.waits }

suspended_is : (W : World) (s : Stack) (co : ℕ) (gs : List Frame) (vs : List Value) → starts_in (wait_for_another W s) co (suspended gs) vs ≡ made (record W { coroutines = slice_set (slice_set W.coroutines s.coroutine (normal s.frames)) co (in_progress gs); chain = W.chain ++ co ∷ []; moving = vs }) [] (resumed is_entered)
unfolding put_coroutine wait_for_another go_into
suspended_is W s co gs vs = refl

fresh_is : (W : World) (s : Stack) (co : ℕ) (body : Value) (vs : List Value) → starts_in (wait_for_another W s) co (fresh body) vs ≡ bind (enters (record W { coroutines = slice_set (slice_set W.coroutines s.coroutine (normal s.frames)) co (in_progress []); chain = W.chain ++ co ∷ [] }) body vs) (λ d. made d.world [] (resumed d.told))
unfolding put_coroutine wait_for_another go_into
fresh_is W s co body vs = refl

resumed_phase : (n : ℕ) (P V : World) (h : StackWaits n P) (c : CallShape) → EnteredAs n P V c → IsPhase n (after_resuming (resumed c)) V
resumed_phase n P V h is_entered k = inr k
resumed_phase n P V h (is_primitive m) k = k
resumed_phase n P V h not_paid k = absurd k
resumed_phase n P V h (not_entered text) k = rw k (record { all = h; top = tt })

pub resume_waits : (n : ℕ) (x : Arg) (slot : ℕ) → WaitingGood n (resume x slot)
resume_waits n x slot s env W i r = from (named_there n env W x i.valid r).coroutine (named_there n env W x i.valid r).there
  where
    number : ℕ
    number = (named_there n env W x i.valid r).number

    is : (c : Coroutine) → slice_get W.coroutines (named_there n env W x i.valid r).number ≡ Some c → move (resume x slot) env W ≡ resumes W (record { coroutine = i.phase.all.coroutine; frames = i.phase.all.frames }) (named_there n env W x i.valid r).number c (drop slot env)
    is c e = bind_at _ (stack_of W) (record { coroutine = i.phase.all.coroutine; frames = i.phase.all.frames }) (waits_stack n W i.phase.all) ∙ bind_at _ (coroutine_number (arg env x)) (named_there n env W x i.valid r).number (named_there n env W x i.valid r).is_number ∙ bind_at _ (slice_get W.coroutines (named_there n env W x i.valid r).number) c e

    refuses : (text : List ℕ) → length text ≤ greatest_string → move (resume x slot) env W ≡ made W [] (refused text) → MoveGood n (waiting s) env (resume x slot) W
    refuses text l e = record { event = record { outcome = refused text; right = l }; world = W; is = e; holds = made_so n (waiting s) (waiting None) env [] W W i (grows_self (sizes n W)) i.solid (record { all = i.phase.all; top = tt }) (each_none (Valid (sizes n W))) }

    limit : (c : Coroutine) → can_start c ≡ true → (b : Bool) → nat_lt greatest_resumes (length W.chain) ≡ b → resumes W (record { coroutine = i.phase.all.coroutine; frames = i.phase.all.frames }) (named_there n env W x i.valid r).number c (drop slot env) ≡ cond b (made W [] (refused (codes "too many nested resumes"))) (starts_in (wait_for_another W (record { coroutine = i.phase.all.coroutine; frames = i.phase.all.frames })) (named_there n env W x i.valid r).number c (drop slot env))
    limit c t b e = ap (λ t. cond (t && nat_lt greatest_resumes (length W.chain)) (made W [] (refused (codes "too many nested resumes"))) (starts_in (cond t (wait_for_another W (record { coroutine = i.phase.all.coroutine; frames = i.phase.all.frames })) W) (named_there n env W x i.valid r).number c (drop slot env))) t
        ∙ ap (λ b. cond b (made W [] (refused (codes "too many nested resumes"))) (starts_in (wait_for_another W (record { coroutine = i.phase.all.coroutine; frames = i.phase.all.frames })) (named_there n env W x i.valid r).number c (drop slot env))) e

    low : nat_lt greatest_resumes (length W.chain) ≡ false → length W.chain ≤ greatest_resumes
    low e = grind (arith, nat_tests)

    goes : (c : Coroutine) → slice_get W.coroutines (named_there n env W x i.valid r).number ≡ Some c → (b : Bool) → nat_lt greatest_resumes (length W.chain) ≡ b → can_start c ≡ true → MoveGood n (waiting s) env (resume x slot) W
    goes c e true l t = refuses (codes "too many nested resumes") (le_of _ greatest_string refl) (is c e ∙ limit c t true l)
    goes (suspended gs) e false l t =
        let co = (named_there n env W x i.valid r).number in
        let h = i.phase.all in
        let k : AllWait (sizes n W) gs = i.solid.coroutines co (suspended gs) e in
        let P = resumed_world n W i.solid h co (suspended gs) gs e refl (λ g. refl) k (low l) in
        let g = resumed_grows n W i.solid h co (suspended gs) gs e refl (λ g. refl) k (low l) in
        let ps = resumed_solid n W i.solid h co (suspended gs) gs e refl (λ g. refl) k (low l) in
        let pw = resumed_waits n W i.solid h co (suspended gs) gs e refl (λ g. refl) k (low l) in
        let V = with_moving P (drop slot env) P.fuel in
        let valid = values_on (sizes n W) (sizes n P) g (drop slot env) (each_drop (Valid (sizes n W)) slot env i.valid) in
        record {
          event = record { outcome = resumed is_entered; right = tt };
          world = V;
          is = is (suspended gs) e ∙ limit (suspended gs) refl false l ∙ suspended_is W (record { coroutine = h.coroutine; frames = h.frames }) co gs (drop slot env);
          holds = made_so n (waiting s) handing env [] W V i (grows_then (sizes n W) (sizes n P) (sizes n V) g (moving_grows n P (drop slot env) P.fuel)) (moving_solid n P (drop slot env) P.fuel ps valid) (inl (moving_waits n P (drop slot env) P.fuel pw)) (each_none (Valid (sizes n V)));
        }
    goes (fresh body) e false l t =
        let co = (named_there n env W x i.valid r).number in
        let h = i.phase.all in
        let z = sizes n W in
        let ok : CoroutineOk z (fresh body) = i.solid.coroutines co (fresh body) e in
        let k : AllWait z [] = record { right = record { each = each_none (FrameOk z); depth = omega arith }; waits = each_none (FrameWaits z) } in
        let P = resumed_world n W i.solid h co (fresh body) [] e refl (λ g. refl) k (low l) in
        let g = resumed_grows n W i.solid h co (fresh body) [] e refl (λ g. refl) k (low l) in
        let ps = resumed_solid n W i.solid h co (fresh body) [] e refl (λ g. refl) k (low l) in
        let pw = resumed_waits n W i.solid h co (fresh body) [] e refl (λ g. refl) k (low l) in
        let vs = drop slot env in
        let y = enters_good n P ps pw vs (values_on z (sizes n P) g vs (each_drop (Valid z) slot env i.valid)) body (valid_on z (sizes n P) g body ok.0) ok.1 in
        record {
          event = record { outcome = resumed y.shape; right = tt };
          world = y.world;
          is = is (fresh body) e ∙ limit (fresh body) refl false l ∙ fresh_is W (record { coroutine = h.coroutine; frames = h.frames }) co body vs ∙ bind_at (λ d. made d.world [] (resumed d.told)) (enters P body vs) _ y.is;
          holds = made_so n (waiting s) (after_resuming (resumed y.shape)) env [] W y.world i (grows_then z (sizes n P) (sizes n y.world) g y.grows) y.solid (resumed_phase n P y.world pw y.shape y.as') (each_none (Valid (sizes n y.world)));
        }
    goes (in_progress gs) e false l t = absurd (cc)
    goes (normal gs) e false l t = absurd (cc)
    goes dead e false l t = absurd (cc)
    goes (failed v vs) e false l t = absurd (cc)

    from : (c : Coroutine) → slice_get W.coroutines (named_there n env W x i.valid r).number ≡ Some c → MoveGood n (waiting s) env (resume x slot) W
    from (fresh body) e = goes (fresh body) e (nat_lt greatest_resumes (length W.chain)) refl refl
    from (suspended gs) e = goes (suspended gs) e (nat_lt greatest_resumes (length W.chain)) refl refl
    from (in_progress gs) e = refuses (codes "cannot resume non-suspended coroutine") (le_of _ greatest_string refl) (is (in_progress gs) e)
    from (normal gs) e = refuses (codes "cannot resume non-suspended coroutine") (le_of _ greatest_string refl) (is (normal gs) e)
    from dead e = refuses (codes "cannot resume dead coroutine") (le_of _ greatest_string refl) (is dead e)
    from (failed v vs) e = refuses (codes "cannot resume dead coroutine") (le_of _ greatest_string refl) (is (failed v vs) e)

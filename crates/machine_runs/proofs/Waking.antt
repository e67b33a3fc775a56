-- A turn from a sound world in which main is to be resumed.
use Rattle.std.proofs.Common.{ℕ, zero, suc, ◌<◌, ◌≤◌, ◌≡◌, ⊎_elim, List, [], ◌∷◌, ◌++◌, Option, Some, None, refl, subst, sym, ap, ◌∙◌, length, map, arith}
use Rattle.std.specs.Prelude.{slice_get, slice_set, IsTrue}
use Rattle.std.proofs.lemmas.Bool.{cases_eq}
use Rattle.std.proofs.lemmas.List.{map-set}
use Rattle.int_core.specs.Value.{Value, bind, last}
use Rattle.int_core.specs.Limits.{greatest_depth}
use Rattle.machine_core.specs.World.{closed, open_at, Frame, lua, Coroutine, fresh, suspended, in_progress, World, Stack, stack_of}
use Rattle.machine_core.specs.Moves.{made, Made, CallShape, is_entered, is_primitive, not_paid, not_entered, TopShape, lua_top, top_shape, top_now, resumed, starts_in, can_start, enters, put_coroutine, go_into, Ending, Row, Outcome, trapped, ends, run}
use Rattle.machine_core.specs.MachineStep.{after_resume, and_then, steps}
use Rattle.machine_core.specs.FrameRows.{handed, hand_over}
use Rattle.machine_sound.specs.Sound.{Each, sizes, Valid, FrameOk, FrameWaits, AllWait, CoroutineOk, Standing, runs, resumed_another, standing, ChainOk, registers_in, registers_of, CellOk, Solid, Settled, StackWaits, idle, on_top, all_wait, Sound}
use Rattle.machine_sound.specs.Laws.{SoundAfter, StepGood, PrimitivesSafe}
use Rattle.machine_sound.proofs.Lists.{each_none, each_set, bind_at, get_set_same, get_set_other, length_set, get_map, last_push}
use Rattle.machine_sound.proofs.Grow.{Grows, values_on, valid_on, each_waits_on}
use Rattle.machine_sound.proofs.Waits.{with_moving, moving_grows, moving_solid, moving_waits, EnteredAs, Entered, enters_good}
use Rattle.machine_sound.proofs.Held.{lua_settles}
use Rattle.machine_sound.proofs.WaitingMoves.{top_is}
use Rattle.machine_sound.proofs.Coroutines.{with_coroutines, coroutines_grow, coroutines_solid, registers_by, registers_are}
use Rattle.machine_sound.proofs.Frames.{stack_is}
use Rattle.machine_sound.proofs.Steps.{runs_good, then_good}
use Rattle.machine_sound.proofs.Budgets.{solid_budget}
use Rattle.machine_runs.specs.Runs.{resumed_main, after_waking, wakes, with_budget, turn}
use Rattle.machine_runs.specs.Laws.{MayTurn}

-- the chain of main alone

module _ (main : Option ℕ) (st : List Standing) (co : ℕ) (h : ChainOk main st []) (m : main ≡ Some co) (c : Standing) (there : slice_get st co ≡ Some c) where
  new : List Standing
  new = slice_set st co runs

  here : slice_get (slice_set st co runs) co ≡ Some runs
  here = get_set_same st co c runs there

  one_of : (i d : ℕ) → slice_get (co ∷ []) i ≡ Some d → (i ≡ 0) × (co ≡ d)
  one_of zero d e = (refl, cc)
  one_of (suc i) d e = absurd (cc)

  chain_alone : ChainOk main (slice_set st co runs) (co ∷ [])
  chain_alone = record {
    first = λ d e. m ∙ e;
    last_runs = λ i d e l. subst (λ d. slice_get (slice_set st co runs) d ≡ Some runs) (one_of i d e).1 here;
    before = λ i d e l. absurd (let k = (one_of i d e).0 in omega arith);
    running_in = λ d e. ⊎_elim
        (λ (q : co ≡ d). (0, ap Some q))
        (λ q. absurd (nobody runs d (sym (get_set_other st co d runs q) ∙ e) (λ f. h.running_in d f)))
        (cases_eq co d);
    normal_in = λ d e. ⊎_elim
        (λ (q : co ≡ d). absurd (differ (sym here ∙ subst (λ d. slice_get (slice_set st co runs) d ≡ Some resumed_another) (sym q) e)))
        (λ q. absurd (nobody resumed_another d (sym (get_set_other st co d runs q) ∙ e) (λ f. h.normal_in d f)))
        (cases_eq co d);
    once = λ i j d a b. (one_of i d a).0 ∙ sym (one_of j d b).0;
    bound = omega arith;
  }
    where
      nobody : (s : Standing) (d : ℕ) → slice_get st d ≡ Some s → (slice_get st d ≡ Some s → (i : ℕ) × (slice_get {X = ℕ} [] i ≡ Some d)) → ⊥
      nobody s d e f = let k = (f e).1 in absurd (cc)

      differ : Some runs ≡ Some resumed_another → ⊥
      differ e = absurd (cc)

-- main runs with some frames

module _ (n : ℕ) (W : World) (s : Solid n W) (idle : W.chain ≡ []) (co : ℕ) (m : W.main ≡ Some co) (c : Coroutine) (gs : List Frame) (there : slice_get W.coroutines co ≡ Some c) (same : (g : ℕ) → registers_in gs g ≡ registers_by c g) (k : AllWait (sizes n W) gs) where
  abbrev cos : List Coroutine
  cos = slice_set W.coroutines co (in_progress gs)

  size : length (slice_set W.coroutines co (in_progress gs)) ≡ length W.coroutines
  size = length_set W.coroutines co (in_progress gs)

  running : slice_get (slice_set W.coroutines co (in_progress gs)) co ≡ Some (in_progress gs)
  running = get_set_same W.coroutines co c (in_progress gs) there

  chained : ChainOk W.main (map standing (slice_set W.coroutines co (in_progress gs))) (W.chain ++ co ∷ [])
  chained = subst (λ ch. ChainOk W.main (map standing (slice_set W.coroutines co (in_progress gs))) (ch ++ co ∷ [])) (sym idle)
      (subst (λ st. ChainOk W.main st (co ∷ [])) (sym (map-set standing W.coroutines co (in_progress gs)))
      (chain_alone W.main (map standing W.coroutines) co (subst (λ ch. ChainOk W.main (map standing W.coroutines) ch) idle s.chain) m (standing c) (get_map standing W.coroutines co c there)))

  registers_same : (e g : ℕ) → registers_of (slice_set W.coroutines co (in_progress gs)) e g ≡ registers_of W.coroutines e g
  registers_same e g = ⊎_elim
      (λ (q : e ≡ co). subst (λ e. registers_of (slice_set W.coroutines co (in_progress gs)) e g ≡ registers_of W.coroutines e g) (sym q)
      (registers_are (slice_set W.coroutines co (in_progress gs)) co g (in_progress gs) running ∙ same g ∙ sym (registers_are W.coroutines co g c there)))
      (λ q. rw (get_set_other W.coroutines co e (in_progress gs) (λ k. q (sym k)), registers_of) refl)
      (cases_eq e co)

  cells_ok : Each (CellOk (sizes n W) (slice_set W.coroutines co (in_progress gs))) W.cells
  cells_ok i (closed v) e = s.cells i (closed v) e
  cells_ok i (open_at d g r) e = subst (λ m. r < m) (sym (registers_same d g)) (s.cells i (open_at d g r) e)

  abbrev woken_world : World
  woken_world = with_coroutines n W s W.cells cos (W.chain ++ co ∷ []) refl size

  woken_grows : Grows (sizes n W) (sizes n woken_world)
  woken_grows = coroutines_grow n W s W.cells cos (W.chain ++ co ∷ []) refl size

  woken_solid : Solid n woken_world
  woken_solid = coroutines_solid n W s W.cells cos (W.chain ++ co ∷ []) refl size cells_ok s.one_each (each_set (CoroutineOk (sizes n W)) W.coroutines co (in_progress gs) s.coroutines k.right) chained

  woken_waits : StackWaits n woken_world
  woken_waits = record { coroutine = co; frames = gs; last = last_push W.chain co; running = running; waits = each_waits_on (sizes n W) (sizes n woken_world) woken_grows gs k.waits }

-- what moves is handed to what is on top

handed_good : (n : ℕ) (V : World) (k : TopShape) → Solid n V → StackWaits n V → (k ≡ lua_top → Settled n V) → StepGood n (run (handed k) [] V)
handed_good n V lua_top s h f = record { sound = record { solid = s; rests = on_top (f refl) }; ready = f refl }
handed_good n V _ s h f = record { sound = record { solid = s; rests = all_wait h }; ready = h }

hand_over_is : (V : World) (k : TopShape) → top_now V ≡ Some k → run hand_over [] V ≡ run (handed k) [] V
hand_over_is V k e = ap (λ o. elim (bind {A = TopShape} o (λ top. made V [] top)) as (λ _. Outcome) [ None ↦ trapped | Some d ↦ run (handed d.told) ([] ++ d.values) d.world ]) e

waits_good : (n : ℕ) (V : World) → Solid n V → StackWaits n V → StepGood n (run hand_over [] V)
waits_good n V s h = subst (StepGood n) (sym (hand_over_is V (top_shape V (last h.frames)) (top_is n V h)))
    (handed_good n V (top_shape V (last h.frames)) s h (λ e. lua_settles n V s (record { all = h; top = e })))

entered_good : (n : ℕ) (V : World) → Solid n V → Settled n V → StepGood n (run hand_over [] V)
entered_good n V s k =
    let t = k.is_top in
    let e : top_now V ≡ Some lua_top = bind_at (λ (s : Stack). Some (top_shape V (last s.frames))) (stack_of V) _ (stack_is V t.coroutine (t.base ++ lua t.top ∷ []) t.last t.frames) ∙ ap (λ o. Some (top_shape V o)) (last_push t.base (lua t.top)) in
    subst (StepGood n) (sym (hand_over_is V lua_top e)) (record { sound = record { solid = s; rests = on_top k }; ready = k })

suspended_is : (W : World) (co : ℕ) (gs : List Frame) (vs : List Value) → starts_in W co (suspended gs) vs ≡ made (record W { coroutines = slice_set W.coroutines co (in_progress gs); chain = W.chain ++ co ∷ []; moving = vs }) [] (resumed is_entered)
unfolding put_coroutine go_into
suspended_is W co gs vs = refl

fresh_is : (W : World) (co : ℕ) (body : Value) (vs : List Value) → starts_in W co (fresh body) vs ≡ bind (enters (record W { coroutines = slice_set W.coroutines co (in_progress []); chain = W.chain ++ co ∷ [] }) body vs) (λ d. made d.world [] (resumed d.told))
unfolding put_coroutine go_into
fresh_is W co body vs = refl

-- what was entered
called_good : (n : ℕ) (P : World) (o : Option (Made CallShape)) → Entered n P 0 o → StepGood n (after_waking (bind o (λ d. made d.world [] (resumed d.told))))
called_good n P o y = subst (λ o. StepGood n (after_waking (bind o (λ d. made d.world [] (resumed d.told))))) (sym y.is) (from y.shape y.as' y.room)
  where
    from : (c : CallShape) → EnteredAs n P y.world c → ((text : List ℕ) → c ≡ not_entered text → greatest_depth ≤ 0) → StepGood n (run (after_resume (resumed c)) [] y.world)
    from is_entered a r = entered_good n y.world y.solid a
    from (is_primitive m) a r = record { sound = record { solid = y.solid; rests = all_wait a.all }; ready = a }
    from not_paid a r = absurd a
    from (not_entered text) a r = absurd (let k = r text refl in omega arith)

no_frames : (n : ℕ) (W : World) → AllWait (sizes n W) []
no_frames n W = record { right = record { each = each_none (FrameOk (sizes n W)); depth = omega arith }; waits = each_none (FrameWaits (sizes n W)) }

module _ (n : ℕ) (W : World) (s : Solid n W) (idle : W.chain ≡ []) (co : ℕ) (m : W.main ≡ Some co) where
  U : World
  U = with_moving W [] W.fuel

  us : Solid n (with_moving W [] W.fuel)
  us = moving_solid n W [] W.fuel s (each_none (Valid (sizes n W)))

  starts_good : (c : Coroutine) → slice_get W.coroutines co ≡ Some c → IsTrue (can_start c) → StepGood n (after_waking (starts_in (with_moving W [] W.fuel) co c W.moving))
  unfolding woken_waits
  starts_good (suspended gs) e t =
      let k : AllWait (sizes n (with_moving W [] W.fuel)) gs = us.coroutines co (suspended gs) e in
      let P = woken_world n (with_moving W [] W.fuel) us idle co m (suspended gs) gs e (λ g. refl) k in
      let ps = woken_solid n (with_moving W [] W.fuel) us idle co m (suspended gs) gs e (λ g. refl) k in
      let pw = woken_waits n (with_moving W [] W.fuel) us idle co m (suspended gs) gs e (λ g. refl) k in
      let g = woken_grows n (with_moving W [] W.fuel) us idle co m (suspended gs) gs e (λ g. refl) k in
      let valid = values_on (sizes n (with_moving W [] W.fuel)) (sizes n P) g W.moving (values_on (sizes n W) (sizes n (with_moving W [] W.fuel)) (moving_grows n W [] W.fuel) W.moving s.moving) in
      let V = with_moving P W.moving P.fuel in
      subst (λ o. StepGood n (after_waking o)) (sym (suspended_is (with_moving W [] W.fuel) co gs W.moving)) (waits_good n V (moving_solid n P W.moving P.fuel ps valid) (moving_waits n P W.moving P.fuel pw))
  starts_good (fresh body) e t =
      let z = sizes n (with_moving W [] W.fuel) in
      let ok : CoroutineOk z (fresh body) = us.coroutines co (fresh body) e in
      let k = no_frames n (with_moving W [] W.fuel) in
      let P = woken_world n (with_moving W [] W.fuel) us idle co m (fresh body) [] e (λ g. refl) k in
      let ps = woken_solid n (with_moving W [] W.fuel) us idle co m (fresh body) [] e (λ g. refl) k in
      let pw = woken_waits n (with_moving W [] W.fuel) us idle co m (fresh body) [] e (λ g. refl) k in
      let g = woken_grows n (with_moving W [] W.fuel) us idle co m (fresh body) [] e (λ g. refl) k in
      let valid = values_on z (sizes n P) g W.moving (values_on (sizes n W) z (moving_grows n W [] W.fuel) W.moving s.moving) in
      subst (λ o. StepGood n (after_waking o)) (sym (fresh_is (with_moving W [] W.fuel) co body W.moving))
      (called_good n P (enters P body W.moving) (enters_good n P ps pw W.moving valid body (valid_on z (sizes n P) g body ok.0) ok.1))
  starts_good _ e t = absurd (cc)

pub wakes_good : (n : ℕ) (W : World) → Sound n W → MayTurn W → StepGood n (wakes W)
unfolding wakes
wakes_good n W s t = subst (λ o. StepGood n (after_waking o)) (sym is) (starts_good n W s.solid t.idle t.main t.is_main t.coroutine t.there t.waits)
  where
    is : resumed_main W ≡ starts_in (with_moving W [] W.fuel) t.main t.coroutine W.moving
    is = bind_at (λ co. bind (slice_get W.coroutines co) (λ c. starts_in (record W { moving = [] }) co c W.moving)) W.main t.main t.is_main
        ∙ bind_at (λ c. starts_in (record W { moving = [] }) t.main c W.moving) (slice_get W.coroutines t.main) t.coroutine t.there

-- the budget, and what is printed, do not count

pub budget_solid : (n : ℕ) (W : World) (budget : ℕ) → Solid n W → Solid n (with_budget W budget)
budget_solid n W budget s = solid_budget n W [] budget s

pub budget_turn : (W : World) (budget : ℕ) → MayTurn W → MayTurn (with_budget W budget)
budget_turn W budget t = record { idle = t.idle; main = t.main; is_main = t.is_main; coroutine = t.coroutine; there = t.there; waits = t.waits }

pub turn_good : (n : ℕ) (rows : ℕ → Row) → PrimitivesSafe n rows → (count : ℕ) (W : World) (budget : ℕ) → Sound n W → MayTurn W → StepGood n (turn rows count W budget)
turn_good n rows p count W budget s t =
    then_good n (wakes (with_budget W budget)) (steps rows count)
    (wakes_good n (with_budget W budget) (record { solid = budget_solid n W budget s.solid; rests = idle t.idle }) (budget_turn W budget t))
    (runs_good n rows p count)

-- The move that begins to close the variables of a coroutine that does not run.
use Rattle.std.proofs.Common.{ℕ, ◌+◌, ◌<◌, ◌≤◌, ◌≡◌, ⊎_elim, List, [], ◌∷◌, ◌++◌, Option, Some, None, refl, subst, sym, ap, ◌∙◌, length, arith, Bool, true, false, cond}
use Rattle.std.specs.Prelude.{slice_get, slice_set, nat_le, codes, flat_map}
use Rattle.std.proofs.lemmas.Bool.{cases_eq}
use Rattle.int_core.specs.Value.{Value, greatest_string}
use Rattle.int_core.specs.Limits.{greatest_depth, stack_overflow}
use Rattle.machine_core.specs.World.{Cell, closed, open_at, Frame, closing, Coroutine, fresh, suspended, in_progress, normal, dead, failed, World, frames_of, Stack, stack_of, push}
use Rattle.machine_core.specs.Text.{Arg, arg}
use Rattle.machine_core.specs.Moves.{begin_closing, is_entered, not_entered, top_shape, ResumeShape, resumed, refused, pending_values, all_closed_from, put_coroutine, bury, closes_in, closes_coroutine, coroutine_number, Made, made, move}
use Rattle.machine_sound.specs.Sound.{Each, sizes, Valid, OptionOk, FrameWaits, AllWait, CoroutineOk, runs, apart, standing, ChainOk, registers_of, CellOk, Solid, StackWaits, registers_in}
use Rattle.machine_sound.specs.Safe.{waiting, ResumeEvent, after_beginning, MoveGood, IsPhase}
use Rattle.machine_sound.proofs.Lists.{each_none, each_set, each_push, bind_at, get_set_other, length_set, last_push, map_set, some_is}
use Rattle.machine_sound.proofs.Values.{le_of}
use Rattle.machine_sound.proofs.Grow.{Grows, grows_self, grows_then, values_on, valid_on, option_on, each_waits_on}
use Rattle.machine_sound.proofs.Waits.{waits_stack, pushed, pushed_grows, pushed_solid, pushed_there, push_is}
use Rattle.machine_sound.proofs.Moves.{made_so}
use Rattle.machine_sound.proofs.WaitingMoves.{WaitingGood}
use Rattle.machine_sound.proofs.Coroutines.{with_coroutines, coroutines_grow, coroutines_solid, registers_are, CellsLeft, buried_cells, pendings_valid}
use Rattle.machine_sound.proofs.CoroutineMoves.{named_there}

-- a coroutine that does not run is dead now
module _ (n : ℕ) (W : World) (s : Solid n W) (h : StackWaits n W) (co : ℕ) (c : Coroutine) (there : slice_get W.coroutines co ≡ Some c) (a : standing c ≡ apart) (cells : List Cell) (left : CellsLeft n W co dead cells) where
  abbrev cos : List Coroutine
  cos = slice_set W.coroutines co dead

  pub size : length cos ≡ length W.coroutines
  size = length_set W.coroutines co dead

  differ : h.coroutine ≡ co → ⊥
  differ e = let q : c ≡ in_progress h.frames = some_is there (ap (slice_get W.coroutines) (sym e) ∙ h.running) in absurd (let x : apart ≡ runs = sym a ∙ ap standing q in cc)

  cells_ok : Each (CellOk (sizes n W) cos) cells
  cells_ok i (closed v) e = left.closed_ok i v e
  cells_ok i (open_at d g r) e = ⊎_elim
      (λ (q : d ≡ co). (let l = left.there i g r (subst (λ d. slice_get cells i ≡ Some (open_at d g r)) q e) in absurd (omega arith)))
      (λ q. subst (λ m. r < m) (sym (rw (get_set_other W.coroutines co d dead (λ k. q (sym k)), registers_of) refl)) (s.cells i (open_at d g r) (left.still_open i d g r e)))
      (cases_eq d co)

  abbrev pub dead_world : World
  dead_world = with_coroutines n W s cells cos W.chain left.count size

  pub dead_grows : Grows (sizes n W) (sizes n dead_world)
  dead_grows = coroutines_grow n W s cells cos W.chain left.count size

  pub dead_solid : Solid n dead_world
  dead_solid = coroutines_solid n W s cells cos W.chain left.count size cells_ok (λ i j d g r x y. s.one_each i j d g r (left.still_open i d g r x) (left.still_open j d g r y))
      (each_set (CoroutineOk (sizes n W)) W.coroutines co dead s.coroutines tt)
      (subst (λ st. ChainOk W.main st W.chain) (sym (map_set standing W.coroutines co c dead there (sym a))) s.chain)

  pub dead_running : slice_get cos h.coroutine ≡ Some (in_progress h.frames)
  dead_running = get_set_other W.coroutines co h.coroutine dead (λ e. differ (sym e)) ∙ h.running

  abbrev pub dead_waits : StackWaits n dead_world
  dead_waits = record { coroutine = h.coroutine; frames = h.frames; last = h.last; running = dead_running; waits = each_waits_on (sizes n W) (sizes n dead_world) dead_grows h.frames h.waits }

-- a closing frame on top, or no room for it
pub record Begun (n : ℕ) (W : World) (o : Option (Made ResumeShape)) : Type 0 where
  pub event : ResumeEvent
  pub world : World
  pub is : o ≡ Some (record { world = world; values = []; told = event.outcome })
  pub grows : Grows (sizes n W) (sizes n world)
  pub solid : Solid n world
  pub phase : IsPhase n (after_beginning event.outcome) world

-- of the world before W, and V, in which the coroutine is dead
begins : (n : ℕ) (W V : World) (ws : Solid n W) (wh : StackWaits n W) (gv : Grows (sizes n W) (sizes n V)) (s : Solid n V) (h : StackWaits n V) → wh.coroutine ≡ h.coroutine → wh.frames ≡ h.frames → (e : Option Value) (vs : List Value) → OptionOk (Valid (sizes n V)) e → Each (Valid (sizes n V)) vs → Begun n W (closes_in W V (record { coroutine = h.coroutine; frames = h.frames }) e vs)
begins n W V ws wh gv s h same_co same_frames e vs a b = from (nat_le (length h.frames + 1) greatest_depth) refl
  where
    is : (q : Bool) → nat_le (length h.frames + 1) greatest_depth ≡ q → closes_in W V (record { coroutine = h.coroutine; frames = h.frames }) e vs ≡ cond q (made (push V (record { coroutine = h.coroutine; frames = h.frames }) (closing e vs)) [] (resumed is_entered)) (made W [] (resumed (not_entered stack_overflow)))
    is q k = ap (λ q. cond q (made (push V (record { coroutine = h.coroutine; frames = h.frames }) (closing e vs)) [] (resumed is_entered)) (made W [] (resumed (not_entered stack_overflow))))
        (ap (λ (o : Option Stack). elim o as (λ _. Bool) [ None ↦ false | Some s ↦ nat_le (length s.frames + 1) greatest_depth ]) (waits_stack n W wh) ∙ ap (λ (fs : List Frame). nat_le (length fs + 1) greatest_depth) same_frames ∙ k)

    from : (q : Bool) → nat_le (length h.frames + 1) greatest_depth ≡ q → Begun n W (closes_in W V (record { coroutine = h.coroutine; frames = h.frames }) e vs)
    from true k =
        let room : length h.frames < greatest_depth = (let l = le_of (length h.frames + 1) greatest_depth k in omega arith) in
        let x = closing e vs in
        let U = pushed n V s h x (a, b) room in
        let g = pushed_grows n V s h x (a, b) room in
        record {
          event = record { outcome = resumed is_entered; right = tt };
          world = U;
          is = is true k ∙ ap (λ U. made U [] (resumed is_entered)) (push_is V (record { coroutine = h.coroutine; frames = h.frames }) x);
          grows = grows_then (sizes n W) (sizes n V) (sizes n U) gv g;
          solid = pushed_solid n V s h x (a, b) room;
          phase = record {
            all = record { coroutine = h.coroutine; frames = h.frames ++ x ∷ []; last = h.last; running = pushed_there n V s h x (a, b) room; waits = each_push (FrameWaits (sizes n U)) h.frames x (each_waits_on (sizes n V) (sizes n U) g h.frames h.waits) tt };
            top = ap (top_shape U) (last_push h.frames x);
          };
        }
    from false k = record { event = record { outcome = resumed (not_entered stack_overflow); right = tt }; world = W; is = is false k; grows = grows_self (sizes n W); solid = ws; phase = record { all = wh; top = tt } }

fresh_closes : (W : World) (s : Stack) (co : ℕ) (v : Value) → closes_coroutine W s co (fresh v) ≡ closes_in W (record W { coroutines = slice_set W.coroutines co dead }) s None []
unfolding put_coroutine
fresh_closes W s co v = refl

failed_closes : (W : World) (s : Stack) (co : ℕ) (v : Value) (vs : List Value) → closes_coroutine W s co (failed v vs) ≡ closes_in W (record W { coroutines = slice_set W.coroutines co dead }) s (Some v) vs
unfolding put_coroutine
failed_closes W s co v vs = refl

suspended_closes : (W : World) (s : Stack) (co : ℕ) (gs : List Frame) → closes_coroutine W s co (suspended gs) ≡ closes_in W (record W { cells = all_closed_from co 0 gs W.cells; coroutines = slice_set W.coroutines co dead }) s None (flat_map pending_values gs)
unfolding put_coroutine bury
suspended_closes W s co gs = refl

-- where a coroutine has no frames no cell is open in it
no_cells : (n : ℕ) (W : World) (s : Solid n W) (co : ℕ) (c : Coroutine) → slice_get W.coroutines co ≡ Some c → frames_of c ≡ None → CellsLeft n W co dead W.cells
no_cells n W s co c e k = record {
  count = refl;
  still_open = λ i d g r x. x;
  closed_ok = λ i v x. s.cells i (closed v) x;
  there = λ i g r x. subst (λ m. r < m) (registers_are W.coroutines co g c e ∙ ap (λ o. elim o as (λ _. ℕ) [ None ↦ 0 | Some frames ↦ registers_in frames g ]) k) (s.cells i (open_at co g r) x);
}

pub begin_closing_waits : (n : ℕ) (x : Arg) → WaitingGood n (begin_closing x)
begin_closing_waits n x s env W i r = from (named_there n env W x i.valid r).coroutine (named_there n env W x i.valid r).there
  where
    is : (c : Coroutine) → slice_get W.coroutines (named_there n env W x i.valid r).number ≡ Some c → move (begin_closing x) env W ≡ closes_coroutine W (record { coroutine = i.phase.all.coroutine; frames = i.phase.all.frames }) (named_there n env W x i.valid r).number c
    is c e = bind_at _ (stack_of W) (record { coroutine = i.phase.all.coroutine; frames = i.phase.all.frames }) (waits_stack n W i.phase.all) ∙ bind_at _ (coroutine_number (arg env x)) (named_there n env W x i.valid r).number (named_there n env W x i.valid r).is_number ∙ bind_at _ (slice_get W.coroutines (named_there n env W x i.valid r).number) c e

    refuses : (text : List ℕ) → length text ≤ greatest_string → move (begin_closing x) env W ≡ made W [] (refused text) → MoveGood n (waiting s) env (begin_closing x) W
    refuses text l e = record { event = record { outcome = refused text; right = l }; world = W; is = e; holds = made_so n (waiting s) (waiting None) env [] W W i (grows_self (sizes n W)) i.solid (record { all = i.phase.all; top = tt }) (each_none (Valid (sizes n W))) }

    begun : (o : Option (Made ResumeShape)) → move (begin_closing x) env W ≡ o → Begun n W o → MoveGood n (waiting s) env (begin_closing x) W
    begun o e b = record { event = b.event; world = b.world; is = e ∙ b.is; holds = made_so n (waiting s) (after_beginning b.event.outcome) env [] W b.world i b.grows b.solid b.phase (each_none (Valid (sizes n b.world))) }

    buried : (c : Coroutine) (e : slice_get W.coroutines (named_there n env W x i.valid r).number ≡ Some c) (a : standing c ≡ apart) (cells : List Cell) (left : CellsLeft n W (named_there n env W x i.valid r).number dead cells) (er : Option Value) (vs : List Value) → OptionOk (Valid (sizes n W)) er → Each (Valid (sizes n W)) vs
        → move (begin_closing x) env W ≡ closes_in W (record W { cells = cells; coroutines = slice_set W.coroutines (named_there n env W x i.valid r).number dead }) (record { coroutine = i.phase.all.coroutine; frames = i.phase.all.frames }) er vs → MoveGood n (waiting s) env (begin_closing x) W
    buried c e a cells left er vs p q m =
        let co = (named_there n env W x i.valid r).number in
        let V = dead_world n W i.solid i.phase.all co c e a cells left in
        let g = dead_grows n W i.solid i.phase.all co c e a cells left in
        begun (closes_in W V (record { coroutine = i.phase.all.coroutine; frames = i.phase.all.frames }) er vs) m
        (begins n W V i.solid i.phase.all g (dead_solid n W i.solid i.phase.all co c e a cells left) (dead_waits n W i.solid i.phase.all co c e a cells left) refl refl er vs (option_on (sizes n W) (sizes n V) g (Valid (sizes n W)) (Valid (sizes n V)) (valid_on (sizes n W) (sizes n V) g) er p) (values_on (sizes n W) (sizes n V) g vs q))

    from : (c : Coroutine) → slice_get W.coroutines (named_there n env W x i.valid r).number ≡ Some c → MoveGood n (waiting s) env (begin_closing x) W
    from (fresh v) e = buried (fresh v) e refl W.cells (no_cells n W i.solid _ (fresh v) e refl) None [] tt (each_none (Valid (sizes n W))) (is (fresh v) e ∙ fresh_closes W (record { coroutine = i.phase.all.coroutine; frames = i.phase.all.frames }) _ v)
    from (failed v vs) e =
        let ok : CoroutineOk (sizes n W) (failed v vs) = i.solid.coroutines _ (failed v vs) e in
        buried (failed v vs) e refl W.cells (no_cells n W i.solid _ (failed v vs) e refl) (Some v) vs ok.0 ok.1 (is (failed v vs) e ∙ failed_closes W (record { coroutine = i.phase.all.coroutine; frames = i.phase.all.frames }) _ v vs)
    from (suspended gs) e =
        let ok : AllWait (sizes n W) gs = i.solid.coroutines _ (suspended gs) e in
        buried (suspended gs) e refl (all_closed_from (named_there n env W x i.valid r).number 0 gs W.cells) (buried_cells n W i.solid _ (suspended gs) dead gs e refl ok.right) None (flat_map pending_values gs) tt (pendings_valid (sizes n W) gs ok.right.each)
        (is (suspended gs) e ∙ suspended_closes W (record { coroutine = i.phase.all.coroutine; frames = i.phase.all.frames }) _ gs)
    from dead e = begun (closes_in W W (record { coroutine = i.phase.all.coroutine; frames = i.phase.all.frames }) None []) (is dead e) (begins n W W i.solid i.phase.all (grows_self (sizes n W)) i.solid i.phase.all refl refl None [] tt (each_none (Valid (sizes n W))))
    from (in_progress gs) e = refuses (codes "cannot close a running coroutine") (le_of _ greatest_string refl) (is (in_progress gs) e)
    from (normal gs) e = refuses (codes "cannot close a normal coroutine") (le_of _ greatest_string refl) (is (normal gs) e)

-- A turn that ends with a yield leaves main waiting for a line.
use Rattle.std.proofs.Common.{ℕ, zero, suc, ◌≡◌, ◌⊎◌, inl, inr, ⊎_elim, List, [], ◌∷◌, ◌++◌, Option, Some, None, refl, subst, sym, ap, ◌∙◌, length, arith, Bool, true, false, cond}
use Rattle.std.specs.Prelude.{slice_get, slice_set, nat_eq}
use Rattle.std.proofs.lemmas.Bool.Decides.{nat_tests}
use Rattle.int_core.specs.Value.{boolean, Value, bind, last}
use Rattle.int_core.specs.Ask.{values}
use Rattle.code_core.specs.Prototype.{Prototype}
use Rattle.library_rows.specs.Look.{Look}
use Rattle.library_rows.specs.Library.{Primitive, coroutine_yield, prelude_build, Entry, all_entries, row_of}
use Rattle.machine_core.specs.World.{Function, Wait, running, for_call, for_iterator, for_value, for_truth, dropped, for_concat, for_close, returning, leaving, LuaFrame, Frame, lua, suspended, in_progress, World, Stack, stack_of}
use Rattle.machine_core.specs.Text.{written, Text}
use Rattle.machine_core.specs.InstructionRows.{text_at, after, told_values}
use Rattle.machine_core.specs.Moves.{Made, made, ResumeShape, take_moving, give_with, see_top, runs_main, put_coroutine, back_to_resumer, suspend_running, Ending, go, returned, asks, calls_primitive, raised, unwinding, spent, main_yielded, main_returned, main_failed, Row, traps, stop, act, Outcome, trapped, ends, run}
use Rattle.machine_core.specs.FrameRows.{then, hand_over, goes_on_by, expand, asked_row, raised_row, unwound, handed_to, at_once, by_asking}
use Rattle.machine_core.specs.MachineStep.{after_resume, yield_row, look_row, woken, lua_step, frame_step, top_step, from_world, step, and_then, steps}
use Rattle.machine_core.specs.PrimitiveRows.{own_row, primitive_row, row_numbered}
use Rattle.machine_sound.specs.Sound.{StackWaits, idle, Sound}
use Rattle.machine_sound.specs.Laws.{SoundAfter, StepGood, PrimitivesSafe}
use Rattle.machine_sound.proofs.Lists.{get_set_same}
use Rattle.machine_sound.proofs.Waits.{waits_stack}
use Rattle.machine_sound.proofs.Steps.{steps_good}
use Rattle.machine_runs.specs.Runs.{resumed_main, after_waking, wakes, with_budget, turn}
use Rattle.machine_runs.specs.Laws.{MayTurn, NeverYields}
use Rattle.machine_core.proofs.RowWalk.{IsNoYield}
use Rattle.machine_runs.proofs.Yields.{Silent, ends_so, silent_run, silent_text, silent_rows, silent_look, silent_own, silent_rest_of_yield}
use Rattle.machine_runs.proofs.Waking.{wakes_good, budget_solid, budget_turn, turn_good}
use Rattle.machine_runs.proofs.Runs.{end_stays}

-- no yield comes of it
abbrev Quiet : Outcome → Type 0
Quiet o = (V : World) → o ≡ ends main_yielded V → ⊥

quiet_of : (r : Row) (env : List Value) (W : World) → Silent r → Quiet (run r env W)
quiet_of r env W s V h = silent_run r env W main_yielded V s h

from_quiet : (W : World) (o : Outcome) → Quiet o → Quiet (from_world W o)
from_quiet W (ends spent X) q V h = absurd (ends_so spent main_yielded W V tt h)
from_quiet W (ends (calls_primitive n) X) q V h = q V h
from_quiet W _ q V h = q V h

-- steps of Lua frames

woken_quiet : (W : World) (s : Stack) (f : LuaFrame) (t : Text) (vs : List Value) → Quiet (run (goes_on_by t) vs (woken W s f))
woken_quiet W s f t vs = quiet_of (goes_on_by t) vs (woken W s f) (silent_text by_asking t)

lua_quiet : (W : World) (s : Stack) (f : LuaFrame) (p : Prototype) (w : Wait Value) → Quiet (lua_step W s f p w)
lua_quiet W s f p running = quiet_of (expand (text_at p f.own.pc)) [] W (silent_text at_once (text_at p f.own.pc))
lua_quiet W s f p for_call = woken_quiet W s f (after {V = Value} for_call p f.own.pc (values W.moving)) (told_values for_call (values W.moving))
lua_quiet W s f p for_iterator = woken_quiet W s f (after {V = Value} for_iterator p f.own.pc (values W.moving)) (told_values for_iterator (values W.moving))
lua_quiet W s f p for_value = woken_quiet W s f (after {V = Value} for_value p f.own.pc (values W.moving)) (told_values for_value (values W.moving))
lua_quiet W s f p for_truth = woken_quiet W s f (after {V = Value} for_truth p f.own.pc (values W.moving)) (told_values for_truth (values W.moving))
lua_quiet W s f p dropped = woken_quiet W s f (after {V = Value} dropped p f.own.pc (values W.moving)) (told_values dropped (values W.moving))
lua_quiet W s f p (for_concat left) = woken_quiet W s f (after {V = Value} (for_concat left) p f.own.pc (values W.moving)) (told_values (for_concat left) (values W.moving))
lua_quiet W s f p for_close = woken_quiet W s f (after {V = Value} for_close p f.own.pc (values W.moving)) (told_values for_close (values W.moving))
lua_quiet W s f p (returning count) = woken_quiet W s f (after {V = Value} (returning count) p f.own.pc (values W.moving)) (told_values (returning count) (values W.moving))
lua_quiet W s f p (leaving e) = woken_quiet W s f (after {V = Value} (leaving e) p f.own.pc (values W.moving)) (told_values (leaving e) (values W.moving))

abbrev stepped : Option Outcome → Outcome
stepped o = elim o [ None ↦ trapped | Some o ↦ o ]

quiet_some : (o : Option Function) (f : Function → Outcome) → ((g : Function) → Quiet (f g)) → Quiet (stepped (bind o (λ g. Some (f g))))
quiet_some None f q V h = absurd (cc)
quiet_some (Some g) f q V h = q g V h

frame_quiet : (W : World) (s : Stack) (f : Frame) → Quiet (stepped (frame_step W s f))
frame_quiet W s (lua f) = quiet_some (slice_get W.functions f.function) (λ g. lua_step W s f g.code f.wait) (λ g. lua_quiet W s f g.code f.wait)
frame_quiet W s _ = λ V h. absurd (cc)

quiet_bind : {A : Type 0} (o : Option A) (f : A → Option Outcome) → ((a : A) → Quiet (stepped (f a))) → Quiet (stepped (bind o f))
quiet_bind None f q V h = absurd (cc)
quiet_bind (Some a) f q V h = q a V h

top_quiet : (W : World) → Quiet (stepped (top_step W))
top_quiet W = quiet_bind (stack_of W) (λ s. bind (last s.frames) (frame_step W s)) (λ s. quiet_bind (last s.frames) (frame_step W s) (frame_quiet W s))

-- the yield of the main coroutine

-- it waits where it has yielded, and no coroutine runs
pub record HasYielded (V : World) : Type 0 where
  pub idle : V.chain ≡ []
  pub main : ℕ
  pub is_main : V.main ≡ Some main
  pub frames : List Frame
  pub there : slice_get V.coroutines main ≡ Some (suspended frames)

may_turn : (V : World) → HasYielded V → MayTurn V
may_turn V y = record { idle = y.idle; main = y.main; is_main = y.is_main; coroutine = suspended y.frames; there = y.there; waits = refl }

one_of : (ch : List ℕ) (co : ℕ) → nat_eq (length ch) 1 ≡ true → last ch ≡ Some co → ch ≡ co ∷ []
one_of [] co n l = absurd (cc)
one_of (x ∷ []) co n l = let k : Some x ≡ Some co = l in let e : x ≡ co = cc in ap (λ x. x ∷ []) e
one_of (x ∷ y ∷ ch) co n l = absurd (grind (arith, nat_tests))

back_alone : (U : World) (co : ℕ) → U.chain ≡ co ∷ [] → back_to_resumer U ≡ record U { chain = [] }
unfolding back_to_resumer
back_alone U co e = rw e refl

main_waits : (W : World) (co : ℕ) (fs : List Frame) → W.chain ≡ co ∷ [] → W.main ≡ Some co → slice_get W.coroutines co ≡ Some (in_progress fs) → HasYielded (suspend_running W (record { coroutine = co; frames = fs }))
unfolding suspend_running put_coroutine
main_waits W co fs e m c = subst HasYielded (sym (back_alone (record W { coroutines = slice_set W.coroutines co (suspended fs) }) co e))
    (record { idle = refl; main = co; is_main = m; frames = fs; there = get_set_same W.coroutines co (in_progress fs) (suspended fs) c })

yielded_is : (W : World) (s : Stack) (b : Bool) → stack_of W ≡ Some s → runs_main W ≡ b
    → run yield_row [] W ≡ run (cond b (stop main_yielded) (act take_moving (λ v _. then (give_with (written (boolean true) ∷ []) v) hand_over))) [] (suspend_running W s)
yielded_is W s b e r =
    ap (λ o. elim (bind {A = Stack} o (λ s. made (suspend_running W s) [] (runs_main W))) as (λ _. Outcome) [ None ↦ trapped | Some d ↦ run (cond d.told (stop main_yielded) (act take_moving (λ v _. then (give_with (written (boolean true) ∷ []) v) hand_over))) ([] ++ d.values) d.world ]) e
    ∙ ap (λ b. run (cond b (stop main_yielded) (act take_moving (λ v _. then (give_with (written (boolean true) ∷ []) v) hand_over))) [] (suspend_running W s)) r

ended_in : (e : Ending) (W V : World) → ends e W ≡ ends e V → W ≡ V
ended_in e W V h = ap (world_of W) h
  where
    world_of : World → Outcome → World
    world_of W trapped = W
    world_of W (ends d V) = V

yield_leaves : (n : ℕ) (W V : World) → Sound n W → StackWaits n W → run yield_row [] W ≡ ends main_yielded V → HasYielded V
yield_leaves n W V s h y = from (runs_main W) refl
  where
    from : (b : Bool) → runs_main W ≡ b → HasYielded V
    from true r =
        let q = yielded_is W (record { coroutine = h.coroutine; frames = h.frames }) true (waits_stack n W h) r in
        let one = one_of W.chain h.coroutine r h.last in
        subst HasYielded (ended_in main_yielded (suspend_running W (record { coroutine = h.coroutine; frames = h.frames })) V (sym q ∙ y))
        (main_waits W h.coroutine h.frames one (s.solid.chain.first h.coroutine (ap (λ ch. slice_get ch 0) one)) h.running)
    from false r =
        let q = yielded_is W (record { coroutine = h.coroutine; frames = h.frames }) false (waits_stack n W h) r in
        absurd (silent_run (act take_moving (λ v _. then (give_with (written (boolean true) ∷ []) v) hand_over)) [] (suspend_running W (record { coroutine = h.coroutine; frames = h.frames })) main_yielded V silent_rest_of_yield (sym q ∙ y))

-- rows of primitives

module _ (build : Row) (b : NeverYields build) where
  -- a row is that of `coroutine.yield`, or no yield comes of it
  abbrev YieldsOrNot : Row → Type 0
  YieldsOrNot r = ((W : World) → Quiet (run r [] W)) ⊎ (r ≡ yield_row)

  of_own : (p : Primitive) → YieldsOrNot (own_row build p)
  of_own coroutine_yield = inr refl
  of_own prelude_build = inl (λ W V h. b W V h)
  of_own p = inl (λ W. quiet_of (own_row traps p) [] W (silent_own p (λ e. absurd (cc))))

  of_primitive : (p : Primitive) → YieldsOrNot (primitive_row build p)
  of_primitive p = from (row_of p)
    where
      from : (o : Option Look) → YieldsOrNot (elim o as (λ _. Row) [ Some l ↦ look_row l | None ↦ own_row build p ])
      from (Some l) = inl (λ W. quiet_of (look_row l) [] W (silent_look l))
      from None = of_own p

  of_number : (k : ℕ) → YieldsOrNot (row_numbered build k)
  of_number k = from (slice_get all_entries k)
    where
      from : (o : Option (Entry Primitive)) → YieldsOrNot (elim (elim o as (λ _. Option Primitive) [ None ↦ None | Some e ↦ Some e.entry ]) as (λ _. Row) [ None ↦ traps | Some p ↦ primitive_row build p ])
      from None = inl (λ W V h. absurd (cc))
      from (Some e) = of_primitive e.entry

  step_leaves : (n : ℕ) (e : Ending) (W V : World) → SoundAfter n e W → IsNoYield e → step (row_numbered build) e W ≡ ends main_yielded V → HasYielded V
  step_leaves n go W V s q h = absurd (from_quiet W (stepped (top_step W)) (top_quiet W) V h)
  step_leaves n returned W V s q h = absurd (from_quiet W _ (quiet_of (act see_top (λ _ top. handed_to top)) [] W (λ n t. silent_rows.of_handed t)) V h)
  step_leaves n asks W V s q h = absurd (from_quiet W _ (quiet_of asked_row [] W silent_rows.of_asked) V h)
  step_leaves n raised W V s q h = absurd (from_quiet W _ (quiet_of raised_row [] W silent_rows.of_raised) V h)
  step_leaves n unwinding W V s q h = absurd (from_quiet W _ (quiet_of (act see_top (λ _ top. unwound top)) [] W (λ n t. silent_rows.of_unwound t)) V h)
  step_leaves n (calls_primitive k) W V s q h = from (of_number k)
    where
      came : (o : Outcome) → from_world W o ≡ ends main_yielded V → o ≡ ends main_yielded V
      came trapped h = h
      came (ends spent X) h = absurd (ends_so spent main_yielded W V tt h)
      came (ends go X) h = h
      came (ends returned X) h = h
      came (ends asks X) h = h
      came (ends (calls_primitive n) X) h = h
      came (ends raised X) h = h
      came (ends unwinding X) h = h
      came (ends main_yielded X) h = h
      came (ends main_returned X) h = h
      came (ends main_failed X) h = h

      from : YieldsOrNot (row_numbered build k) → HasYielded V
      from x = ⊎_elim
          (λ (f : (W : World) → Quiet (run (row_numbered build k) [] W)). absurd (from_quiet W (run (row_numbered build k) [] W) (f W) V h))
          (λ (e : row_numbered build k ≡ yield_row). yield_leaves n W V s.sound s.ready.all (ap (λ r. run r [] W) (sym e) ∙ came (run (row_numbered build k) [] W) h)) x
  step_leaves n spent W V s q h = absurd (ends_so spent main_yielded W V tt h)
  step_leaves n main_returned W V s q h = absurd (ends_so main_returned main_yielded W V tt h)
  step_leaves n main_failed W V s q h = absurd (ends_so main_failed main_yielded W V tt h)
  step_leaves n main_yielded W V s q h = absurd q

  yields_or_not : (e : Ending) → (e ≡ main_yielded) ⊎ IsNoYield e
  yields_or_not main_yielded = inl refl
  yields_or_not _ = inr tt

  module _ (n : ℕ) (p : PrimitivesSafe n (row_numbered build)) (V : World) where
    -- from a step's outcome on
    goes_leaves : (m : ℕ) (o : Outcome) → StepGood n o → ((X : World) → o ≡ ends main_yielded X → HasYielded X)
        → ((e : Ending) (X : World) → SoundAfter n e X → IsNoYield e → steps (row_numbered build) m e X ≡ ends main_yielded V → HasYielded V)
        → and_then o (steps (row_numbered build) m) ≡ ends main_yielded V → HasYielded V
    goes_leaves m trapped g here more h = absurd g
    goes_leaves m (ends e X) g here more h = ⊎_elim
        (λ (q : e ≡ main_yielded).
        subst HasYielded (ended_in main_yielded X V (sym (end_stays (row_numbered build) m main_yielded X refl) ∙ ap (λ e. steps (row_numbered build) m e X) (sym q) ∙ h)) (here X (ap (λ e. ends e X) q)))
        (λ q. more e X g q h)
        (yields_or_not e)

    steps_leave : (m : ℕ) (e : Ending) (W : World) → SoundAfter n e W → IsNoYield e → steps (row_numbered build) m e W ≡ ends main_yielded V → HasYielded V
    steps_leave zero e W s q h = absurd (ends_so e main_yielded W V q h)
    steps_leave (suc m) e W s q h = goes_leaves m (step (row_numbered build) e W) (steps_good n (row_numbered build) p e W s) (λ X k. step_leaves n e W X s q k) (steps_leave m) h

    wakes_quiet : (o : Option (Made ResumeShape)) → Quiet (after_waking o)
    wakes_quiet None X h = absurd (cc)
    wakes_quiet (Some d) X h = silent_run (after_resume d.told) [] d.world main_yielded X (silent_rows.of_resumed d.told) h

    wake_never : (W : World) → Quiet (wakes W)
    unfolding wakes
    wake_never W = wakes_quiet (resumed_main W)

    turn_leaves : (count : ℕ) (W : World) (budget : ℕ) → Sound n W → MayTurn W → turn (row_numbered build) count W budget ≡ ends main_yielded V → HasYielded V
    turn_leaves count W budget s t h = goes_leaves count (wakes (with_budget W budget))
        (wakes_good n (with_budget W budget) (record { solid = budget_solid n W budget s.solid; rests = idle t.idle }) (budget_turn W budget t))
        (λ X k. absurd (wake_never (with_budget W budget) X k)) (steps_leave count) h

    sound_at : (o : Outcome) → StepGood n o → o ≡ ends main_yielded V → Sound n V
    sound_at trapped g e = absurd g
    sound_at (ends d X) g e = subst (Sound n) (world_is e) g.sound
      where
        world_is : ends d X ≡ ends main_yielded V → X ≡ V
        world_is e = ap (world_of X) e
          where
            world_of : World → Outcome → World
            world_of W trapped = W
            world_of W (ends d V) = V

  pub turn_suspends : (n : ℕ) → PrimitivesSafe n (row_numbered build) → (count : ℕ) (W : World) (budget : ℕ) (V : World) → Sound n W → MayTurn W → turn (row_numbered build) count W budget ≡ ends main_yielded V → HasYielded V
  turn_suspends n p count W budget V s t h = turn_leaves n p V count W budget s t h

  pub turn_yields : (n : ℕ) → PrimitivesSafe n (row_numbered build) → (count : ℕ) (W : World) (budget : ℕ) (V : World) → Sound n W → MayTurn W
      → turn (row_numbered build) count W budget ≡ ends main_yielded V → Sound n V × MayTurn V
  turn_yields n p count W budget V s t h = (sound_at n p V (turn (row_numbered build) count W budget) (turn_good n (row_numbered build) p count W budget s t) h, may_turn V (turn_suspends n p count W budget V s t h))

-- Rows, steps and runs leave all functions as they are.
use Rattle.std.proofs.Common.{ℕ, zero, suc, ◌≡◌, List, [], ◌∷◌, ◌++◌, Option, Some, None, refl, subst, sym, ◌∙◌, ap, length}
use Rattle.std.specs.Prelude.{slice_get, drop, option_map}
use Rattle.int_core.specs.Value.{Value, bind, last}
use Rattle.int_core.specs.Ask.{values}
use Rattle.code_core.specs.Prototype.{Prototype}
use Rattle.list_laws.proofs.Items.{some_same}
use Rattle.machine_core.specs.World.{Wait, running, for_call, for_iterator, for_value, for_truth, dropped, for_concat, for_close, returning, leaving, Frame, lua, Coroutine, LuaFrame, World, Stack, stack_of, put_top, put_frames}
use Rattle.machine_core.specs.InstructionRows.{text_at, after, told_values}
use Rattle.machine_core.specs.Moves.{see_top, Made, ResumeShape, Ending, go, returned, asks, calls_primitive, raised, unwinding, spent, main_yielded, main_returned, main_failed, Row, traps, stop, only, act, Outcome, trapped, ends, starts_in, move, run}
use Rattle.machine_core.specs.FrameRows.{expand, goes_on_by, handed_to, asked_row, raised_row, unwound}
use Rattle.machine_core.specs.MachineStep.{after_resume, woken, lua_step, frame_step, from_world, step_by, step, and_then, steps}
use Rattle.machine_runs.specs.Opening.{handed_line}
use Rattle.machine_runs.specs.Runs.{resumed_main, after_waking, wakes, with_budget, turn, Run, turn_text, closes, has_returned, has_failed, has_spent, is_suspended, behind, suspends, at_end, run_from, onward, CodeRun, CodeOnward}
use Rattle.functions_stay.specs.Laws.{Keeps, KeepsIfMade, KeepsAtEnd, RowsKeep, StepsKeep, RunsKeep, OnwardKeeps}
use Rattle.functions_stay.proofs.Moves.{same, still, keeps_then, kept_after, starts_kept, moves_keep}

pub none_some : {A : Type 0} (x : A) → None ≡ Some x → ⊥
none_some x e = cc

pub map_some : {A B : Type 0} (f : A → B) (o : Option A) (y : B) → option_map f o ≡ Some y → (x : A) × (o ≡ Some x) × (f x ≡ y)
map_some f None y e = absurd (none_some y e)
map_some f (Some x) y e = (x, refl, some_same (f x) y e)

kept_end : (W V : World) (o : Outcome) → Keeps W V → KeepsAtEnd V o → KeepsAtEnd W o
kept_end W V trapped k h = tt
kept_end W V (ends e X) k h = keeps_then W V X k h

pub rows_keep : RowsKeep
rows_keep traps env W = tt
rows_keep (stop e) env W = still W
rows_keep (only slot r) env W = rows_keep r (drop slot env) W
rows_keep (act m k) env W = by (move m env W) (moves_keep m env W) (λ d. rows_keep (k (length env) d.told) (env ++ d.values) d.world)
  where
    by : (o : Option (Made _)) → KeepsIfMade W o → ((d : Made _) → KeepsAtEnd d.world (run (k (length env) d.told) (env ++ d.values) d.world))
        → KeepsAtEnd W (elim o [ None ↦ trapped | Some d ↦ run (k (length env) d.told) (env ++ d.values) d.world ])
    by None h f = tt
    by (Some d) h f = kept_end W d.world (run (k (length env) d.told) (env ++ d.values) d.world) h (f d)

woken_kept : (W : World) (s : Stack) (f : LuaFrame) → Keeps W (woken W s f)
unfolding woken put_top put_frames
woken_kept W s f = same W (woken W s f) refl refl refl

goes_kept : (W : World) (s : Stack) (f : LuaFrame) (p : Prototype) (w : Wait Value) → KeepsAtEnd W (run (goes_on_by (after w p f.own.pc (values W.moving))) (told_values w (values W.moving)) (woken W s f))
goes_kept W s f p w = kept_end W (woken W s f) _ (woken_kept W s f) (rows_keep (goes_on_by (after w p f.own.pc (values W.moving))) (told_values w (values W.moving)) (woken W s f))

lua_kept : (W : World) (s : Stack) (f : LuaFrame) (p : Prototype) (w : Wait Value) → KeepsAtEnd W (lua_step W s f p w)
lua_kept W s f p running = rows_keep (expand (text_at p f.own.pc)) [] W
lua_kept W s f p for_call = goes_kept W s f p for_call
lua_kept W s f p for_iterator = goes_kept W s f p for_iterator
lua_kept W s f p for_value = goes_kept W s f p for_value
lua_kept W s f p for_truth = goes_kept W s f p for_truth
lua_kept W s f p dropped = goes_kept W s f p dropped
lua_kept W s f p (for_concat n) = goes_kept W s f p (for_concat n)
lua_kept W s f p for_close = goes_kept W s f p for_close
lua_kept W s f p (returning n) = goes_kept W s f p (returning n)
lua_kept W s f p (leaving e) = goes_kept W s f p (leaving e)

abbrev KeptIfThere : World → Option Outcome → Type 0
KeptIfThere W None = Unit {0}
KeptIfThere W (Some o) = KeepsAtEnd W o

there_bind : {A : Type 0} (W : World) (o : Option A) (f : A → Option Outcome) → ((a : A) → KeptIfThere W (f a)) → KeptIfThere W (bind o f)
there_bind W None f h = tt
there_bind W (Some a) f h = h a

frame_kept : (W : World) (s : Stack) (f : Frame) → KeptIfThere W (frame_step W s f)
frame_kept W s (lua f) = there_bind W (slice_get W.functions f.function) _ (λ g. lua_kept W s f g.code f.wait)
frame_kept W s _ = tt

from_kept : (W : World) (o : Outcome) → KeepsAtEnd W o → KeepsAtEnd W (from_world W o)
from_kept W trapped h = tt
from_kept W (ends spent V) h = still W
from_kept W (ends (calls_primitive n) V) h = h
from_kept W _ h = h

module _ (primitives : ℕ → Row) where
  by_kept : (e : Ending) (W : World) → KeepsAtEnd W (step_by primitives e W)
  by_kept go W = there (bind (stack_of W) (λ s. bind (last s.frames) (frame_step W s))) (there_bind W (stack_of W) _ (λ s. there_bind W (last s.frames) _ (λ f. frame_kept W s f)))
    where
      there : (o : Option Outcome) → KeptIfThere W o → KeepsAtEnd W (elim o [ None ↦ trapped | Some o ↦ o ])
      there None h = tt
      there (Some o) h = h
  by_kept returned W = rows_keep (act see_top (λ _ top. handed_to top)) [] W
  by_kept asks W = rows_keep asked_row [] W
  by_kept (calls_primitive n) W = rows_keep (primitives n) [] W
  by_kept raised W = rows_keep raised_row [] W
  by_kept unwinding W = rows_keep (act see_top (λ _ top. unwound top)) [] W
  by_kept _ W = still W

  step_kept : (e : Ending) (W : World) → KeepsAtEnd W (step primitives e W)
  step_kept e W = from_kept W (step_by primitives e W) (by_kept e W)

  then_kept : (W : World) (o : Outcome) (f : Ending → World → Outcome) → KeepsAtEnd W o → ((e : Ending) (V : World) → KeepsAtEnd V (f e V)) → KeepsAtEnd W (and_then o f)
  then_kept W trapped f h k = tt
  then_kept W (ends e V) f h k = kept_end W V (f e V) h (k e V)

  pub steps_kept : (count : ℕ) (e : Ending) (W : World) → KeepsAtEnd W (steps primitives count e W)
  steps_kept zero e W = still W
  steps_kept (suc count) e W = then_kept W (step primitives e W) (steps primitives count) (step_kept e W) (λ d V. steps_kept count d V)

  main_kept : (W : World) → KeepsIfMade W (resumed_main W)
  main_kept W = by W.main
    where
      within : (co : ℕ) (o : Option Coroutine) → KeepsIfMade W (bind o (λ c. starts_in (record W { moving = [] }) co c W.moving))
      within co None = tt
      within co (Some c) = by_start (starts_kept (record W { moving = [] }) co c W.moving) (same W (record W { moving = [] }) refl refl refl)
        where
          by_start : KeepsIfMade (record W { moving = [] }) (starts_in (record W { moving = [] }) co c W.moving) → Keeps W (record W { moving = [] })
              → KeepsIfMade W (starts_in (record W { moving = [] }) co c W.moving)
          by_start h k = kept_after W (record W { moving = [] }) (starts_in (record W { moving = [] }) co c W.moving) k h

      by : (m : Option ℕ) → KeepsIfMade W (bind m (λ co. bind (slice_get W.coroutines co) (λ c. starts_in (record W { moving = [] }) co c W.moving)))
      by None = tt
      by (Some co) = within co (slice_get W.coroutines co)

  waking_kept : (W : World) (d : Option (Made ResumeShape)) → KeepsIfMade W d → KeepsAtEnd W (after_waking d)
  waking_kept W None h = tt
  waking_kept W (Some d) h = kept_end W d.world (run (after_resume d.told) [] d.world) h (rows_keep (after_resume d.told) [] d.world)

  wakes_kept : (W : World) → KeepsAtEnd W (wakes W)
  unfolding wakes
  wakes_kept W = waking_kept W (resumed_main W) (main_kept W)

  turn_kept : (count : ℕ) (W : World) (budget : ℕ) → KeepsAtEnd W (turn primitives count W budget)
  turn_kept count W budget =
      then_kept W (wakes (with_budget W budget)) (steps primitives count) (kept_end W (with_budget W budget) (wakes (with_budget W budget)) (same W (with_budget W budget) refl refl refl) (wakes_kept (with_budget W budget)))
      (λ e V. steps_kept count e V)

  -- runs

  handed_kept : (W : World) (line : List ℕ) → Keeps W (handed_line W line)
  unfolding handed_line
  handed_kept W line = same W (handed_line W line) refl refl refl

  closed_kept : (W : World) (x r : Run) → Keeps W x.last → Some x ≡ Some r → Keeps W r.last
  closed_kept W x r k e = subst (λ (r : Run). Keeps W r.last) (some_same x r e) k

  end_kept : (W : World) (o : Outcome) (goes : World → Option Run) (r : Run) → KeepsAtEnd W o → at_end o goes ≡ Some r → ((V : World) (y : Run) → goes V ≡ Some y → Keeps V y.last) → Keeps W r.last
  end_kept W (ends main_yielded V) goes r h e f =
      let m = map_some (behind (turn_text main_yielded V)) (goes V) r e in
      subst (λ (r : Run). Keeps W r.last) m.2 (keeps_then W V m.0.last h (f V m.0 m.1))
  end_kept W (ends main_returned V) goes r h e f = closed_kept W (closes main_returned has_returned V) r h e
  end_kept W (ends main_failed V) goes r h e f = closed_kept W (closes main_failed has_failed V) r h e
  end_kept W (ends spent V) goes r h e f = closed_kept W (closes spent has_spent V) r h e
  end_kept W (ends (calls_primitive n) V) goes r h e f = absurd (none_some r e)
  end_kept W _ goes r h e f = absurd (none_some r e)

  suspended_kept : (V : World) (y : Run) → suspends V ≡ Some y → Keeps V y.last
  suspended_kept V y e = closed_kept V (record { printed = []; close = is_suspended; last = V }) y (still V) e

  from_run : (count : ℕ) (input : List (List ℕ)) (W : World) (budget : ℕ) (r : Run) → run_from primitives count W input budget ≡ Some r → Keeps W r.last
  from_run count [] W budget r e = end_kept W (turn primitives count W budget) suspends r (turn_kept count W budget) e suspended_kept
  from_run count (line ∷ more) W budget r e =
      end_kept W (turn primitives count W budget) (λ V. run_from primitives count (handed_line V line) more budget) r (turn_kept count W budget) e
      (λ V y k. keeps_then V (handed_line V line) y.last (handed_kept V line) (from_run count more (handed_line V line) budget y k))

  pub run_kept : (W : World) (input : List (List ℕ)) (budget : ℕ) (r : Run) → CodeRun primitives W input budget r → Keeps W r.last
  run_kept W input budget r c = from_run c.count input W budget r c.gives

  pub onward_kept : (W : World) (input : List (List ℕ)) (budget : ℕ) (r : Run) → CodeOnward primitives W input budget r → Keeps W r.last
  onward_kept W [] budget r c = suspended_kept W r c.gives
  onward_kept W (line ∷ more) budget r c = keeps_then W (handed_line W line) r.last (handed_kept W line) (from_run c.count more (handed_line W line) budget r c.gives)

pub steps_keep : StepsKeep
steps_keep primitives count e W = steps_kept primitives count e W

pub runs_keep : RunsKeep
runs_keep primitives W input budget r c = run_kept primitives W input budget r c

pub onward_keeps : OnwardKeeps
onward_keeps primitives W input budget r c = onward_kept primitives W input budget r c

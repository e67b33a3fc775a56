-- Tables stay tables in rows, steps and runs.
use Rattle.std.proofs.Common.{ℕ, zero, suc, ◌≡◌, List, [], ◌∷◌, ◌++◌, Option, Some, None, refl, subst, length, drop}
use Rattle.std.specs.Prelude.{slice_get, option_map}
use Rattle.int_core.specs.Value.{Value, bind, last}
use Rattle.int_core.specs.Ask.{values}
use Rattle.code_core.specs.Prototype.{Prototype}
use Rattle.list_laws.proofs.Items.{some_same}
use Rattle.machine_core.specs.World.{Wait, running, for_call, for_iterator, for_value, for_truth, dropped, for_concat, for_close, returning, leaving, LuaFrame, Frame, lua, Coroutine, World, Stack, stack_of, put_top, put_frames}
use Rattle.machine_core.specs.InstructionRows.{text_at, after, told_values}
use Rattle.machine_core.specs.Moves.{Made, Told, ResumeShape, Ending, go, returned, asks, calls_primitive, raised, unwinding, spent, main_yielded, main_returned, main_failed, Row, traps, stop, only, act, Outcome, trapped, ends, starts_in, move, run}
use Rattle.machine_core.specs.FrameRows.{at_once, by_asking, expand, goes_on_by, asked_row, raised_row, results_row, unwinding_row}
use Rattle.machine_core.specs.MachineStep.{after_resume, woken, lua_step, frame_step, from_world, step_by, step, and_then, steps}
use Rattle.machine_runs.specs.Opening.{handed_line}
use Rattle.machine_runs.specs.Runs.{resumed_main, after_waking, wakes, with_budget, turn, Run, turn_text, closes, has_returned, has_failed, has_spent, is_suspended, behind, suspends, at_end, run_from}
use Rattle.tables_stay.specs.Laws.{AreTables, TablesAtEnd, AllKeep, RowsKeep, StepsKeep, TurnsKeep, RunsKeep, OnwardKeeps}
use Rattle.tables_stay.proofs.Moves.{TablesIfMade, starts_kept, moves_keep}
use Rattle.tables_stay.proofs.Rows.{text_keeps, kept_rows}

none_some : {A : Type 0} (x : A) → None ≡ Some x → ⊥
none_some x e = cc

map_some : {A B : Type 0} (f : A → B) (o : Option A) (y : B) → option_map f o ≡ Some y → (x : A) × (o ≡ Some x) × (f x ≡ y)
map_some f None y e = absurd (none_some y e)
map_some f (Some x) y e = (x, refl, some_same (f x) y e)

pub rows_keep : RowsKeep
rows_keep traps k env W h = tt
rows_keep (stop e) k env W h = h
rows_keep (only slot r) k env W h = rows_keep r k (drop slot env) W h
rows_keep (act m next) k env W h = by (move m env W) (moves_keep m k.0 env W h) (λ d g. rows_keep (next (length env) d.told) (k.1 (length env) d.told) (env ++ d.values) d.world g)
  where
    by : (o : Option (Made (Told m))) → TablesIfMade o → ((d : Made (Told m)) → AreTables d.world.heap → TablesAtEnd (run (next (length env) d.told) (env ++ d.values) d.world))
        → TablesAtEnd (elim o as (λ _. Outcome) [ None ↦ trapped | Some d ↦ run (next (length env) d.told) (env ++ d.values) d.world ])
    by None g f = tt
    by (Some d) g f = f d g

-- a step

woken_kept : (W : World) (s : Stack) (f : LuaFrame) → AreTables W.heap → AreTables (woken W s f).heap
unfolding woken put_top put_frames
woken_kept W s f h = h

goes_kept : (W : World) (s : Stack) (f : LuaFrame) (p : Prototype) (w : Wait Value) → AreTables W.heap → TablesAtEnd (run (goes_on_by (after w p f.own.pc (values W.moving))) (told_values w (values W.moving)) (woken W s f))
goes_kept W s f p w h = rows_keep (goes_on_by (after w p f.own.pc (values W.moving))) (text_keeps by_asking (after w p f.own.pc (values W.moving))) (told_values w (values W.moving)) (woken W s f) (woken_kept W s f h)

lua_kept : (W : World) (s : Stack) (f : LuaFrame) (p : Prototype) (w : Wait Value) → AreTables W.heap → TablesAtEnd (lua_step W s f p w)
lua_kept W s f p running h = rows_keep (expand (text_at p f.own.pc)) (text_keeps at_once (text_at p f.own.pc)) [] W h
lua_kept W s f p for_call h = goes_kept W s f p for_call h
lua_kept W s f p for_iterator h = goes_kept W s f p for_iterator h
lua_kept W s f p for_value h = goes_kept W s f p for_value h
lua_kept W s f p for_truth h = goes_kept W s f p for_truth h
lua_kept W s f p dropped h = goes_kept W s f p dropped h
lua_kept W s f p (for_concat n) h = goes_kept W s f p (for_concat n) h
lua_kept W s f p for_close h = goes_kept W s f p for_close h
lua_kept W s f p (returning n) h = goes_kept W s f p (returning n) h
lua_kept W s f p (leaving e) h = goes_kept W s f p (leaving e) h

abbrev TablesIfThere : Option Outcome → Type 0
TablesIfThere None = Unit {0}
TablesIfThere (Some o) = TablesAtEnd o

there_bind : {A : Type 0} (o : Option A) (f : A → Option Outcome) → ((a : A) → TablesIfThere (f a)) → TablesIfThere (bind o f)
there_bind None f h = tt
there_bind (Some a) f h = h a

frame_kept : (W : World) (s : Stack) (f : Frame) → AreTables W.heap → TablesIfThere (frame_step W s f)
frame_kept W s (lua f) h = there_bind (slice_get W.functions f.function) _ (λ g. lua_kept W s f g.code f.wait h)
frame_kept W s _ h = tt

from_kept : (W : World) (o : Outcome) → AreTables W.heap → TablesAtEnd o → TablesAtEnd (from_world W o)
from_kept W trapped h k = tt
from_kept W (ends spent V) h k = h
from_kept W (ends (calls_primitive n) V) h k = k
from_kept W _ h k = k

then_kept : (o : Outcome) (f : Ending → World → Outcome) → TablesAtEnd o → ((e : Ending) (V : World) → AreTables V.heap → TablesAtEnd (f e V)) → TablesAtEnd (and_then o f)
then_kept trapped f h k = tt
then_kept (ends e V) f h k = k e V h

module _ (primitives : ℕ → Row) (keep : AllKeep primitives) where
  by_kept : (e : Ending) (W : World) → AreTables W.heap → TablesAtEnd (step_by primitives e W)
  by_kept go W h = there (bind (stack_of W) (λ s. bind (last s.frames) (frame_step W s))) (there_bind (stack_of W) _ (λ s. there_bind (last s.frames) _ (λ f. frame_kept W s f h)))
    where
      there : (o : Option Outcome) → TablesIfThere o → TablesAtEnd (elim o as (λ _. Outcome) [ None ↦ trapped | Some o ↦ o ])
      there None k = tt
      there (Some o) k = k
  by_kept returned W h = rows_keep results_row (tt, λ n top. kept_rows.of_handed top) [] W h
  by_kept asks W h = rows_keep asked_row kept_rows.of_asked [] W h
  by_kept (calls_primitive n) W h = rows_keep (primitives n) (keep n) [] W h
  by_kept raised W h = rows_keep raised_row kept_rows.of_raised [] W h
  by_kept unwinding W h = rows_keep unwinding_row (tt, λ n top. kept_rows.of_unwound top) [] W h
  by_kept _ W h = h

  steps_kept : (count : ℕ) (e : Ending) (W : World) → AreTables W.heap → TablesAtEnd (steps primitives count e W)
  steps_kept zero e W h = h
  steps_kept (suc count) e W h = then_kept (step primitives e W) (steps primitives count) (from_kept W (step_by primitives e W) h (by_kept e W h)) (λ d V k. steps_kept count d V k)

  -- a turn

  main_kept : (W : World) → AreTables W.heap → TablesIfMade (resumed_main W)
  main_kept W h = by W.main
    where
      within : (co : ℕ) (o : Option Coroutine) → TablesIfMade (bind o (λ c. starts_in (record W { moving = [] }) co c W.moving))
      within co None = tt
      within co (Some c) = starts_kept (record W { moving = [] }) co c W.moving h

      by : (m : Option ℕ) → TablesIfMade (bind m (λ co. bind (slice_get W.coroutines co) (λ c. starts_in (record W { moving = [] }) co c W.moving)))
      by None = tt
      by (Some co) = within co (slice_get W.coroutines co)

  waking_kept : (d : Option (Made ResumeShape)) → TablesIfMade d → TablesAtEnd (after_waking d)
  waking_kept None h = tt
  waking_kept (Some d) h = rows_keep (after_resume d.told) (kept_rows.of_resumed d.told) [] d.world h

  wakes_kept : (W : World) → AreTables W.heap → TablesAtEnd (wakes W)
  unfolding wakes
  wakes_kept W h = waking_kept (resumed_main W) (main_kept W h)

  turn_kept : (count : ℕ) (W : World) (budget : ℕ) → AreTables W.heap → TablesAtEnd (turn primitives count W budget)
  turn_kept count W budget h = then_kept (wakes (with_budget W budget)) (steps primitives count) (wakes_kept (with_budget W budget) h) (λ e V k. steps_kept count e V k)

  -- runs

  handed_kept : (W : World) (line : List ℕ) → AreTables W.heap → AreTables (handed_line W line).heap
  unfolding handed_line
  handed_kept W line h = h

  closed_kept : (x r : Run) → AreTables x.last.heap → Some x ≡ Some r → AreTables r.last.heap
  closed_kept x r h e = subst (λ (r : Run). AreTables r.last.heap) (some_same x r e) h

  end_kept : (o : Outcome) (goes : World → Option Run) (r : Run) → TablesAtEnd o → at_end o goes ≡ Some r → ((V : World) (y : Run) → AreTables V.heap → goes V ≡ Some y → AreTables y.last.heap) → AreTables r.last.heap
  end_kept (ends main_yielded V) goes r h e f =
      let m = map_some (behind (turn_text main_yielded V)) (goes V) r e in
      subst (λ (r : Run). AreTables r.last.heap) m.2 (f V m.0 h m.1)
  end_kept (ends main_returned V) goes r h e f = closed_kept (closes main_returned has_returned V) r h e
  end_kept (ends main_failed V) goes r h e f = closed_kept (closes main_failed has_failed V) r h e
  end_kept (ends spent V) goes r h e f = closed_kept (closes spent has_spent V) r h e
  end_kept (ends (calls_primitive n) V) goes r h e f = absurd (none_some r e)
  end_kept _ goes r h e f = absurd (none_some r e)

  suspended_kept : (V : World) (y : Run) → AreTables V.heap → suspends V ≡ Some y → AreTables y.last.heap
  suspended_kept V y h e = closed_kept (record { printed = []; close = is_suspended; last = V }) y h e

  from_run : (count : ℕ) (input : List (List ℕ)) (W : World) (budget : ℕ) (r : Run) → AreTables W.heap → run_from primitives count W input budget ≡ Some r → AreTables r.last.heap
  from_run count [] W budget r h e = end_kept (turn primitives count W budget) suspends r (turn_kept count W budget h) e suspended_kept
  from_run count (line ∷ more) W budget r h e =
      end_kept (turn primitives count W budget) (λ V. run_from primitives count (handed_line V line) more budget) r (turn_kept count W budget h) e
      (λ V y g k. from_run count more (handed_line V line) budget y (handed_kept V line g) k)

pub steps_keep : StepsKeep
steps_keep primitives keep count e W h = steps_kept primitives keep count e W h

pub turns_keep : TurnsKeep
turns_keep primitives keep count W budget h = turn_kept primitives keep count W budget h

pub runs_keep : RunsKeep
runs_keep primitives keep W input budget r h c = from_run primitives keep c.count input W budget r h c.gives

pub onward_keeps : OnwardKeeps
onward_keeps primitives keep W [] budget r h c = suspended_kept primitives keep W r h c.gives
onward_keeps primitives keep W (line ∷ more) budget r h c = from_run primitives keep c.count more (handed_line W line) budget r (handed_kept primitives keep W line h) c.gives

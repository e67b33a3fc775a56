-- A whole turn: main is resumed, and some steps follow.
use Rattle.std.proofs.Common.{ℕ, ◌≡◌, [], ap, sym, subst, ◌∙◌, length}
use Rattle.library_rows.specs.Library.{all_entries}
use Rattle.machine_core.specs.World.{World}
use Rattle.machine_core.specs.Moves.{main_yielded, Ending, Row, Outcome, ends}
use Rattle.machine_core.specs.MachineStep.{steps, and_then}
use Rattle.machine_core.specs.PrimitiveRows.{row_numbered}
use Rattle.machine_sound.specs.Sound.{Sound, idle}
use Rattle.machine_sound.specs.Laws.{SoundAfter, StepGood, PrimitivesSafe}
use Rattle.machine_runs.specs.Laws.{MayTurn, NeverYields, WakesSoundly, YieldsLeaveMainWaiting}
use Rattle.machine_runs.specs.Runs.{wakes}
use Rattle.machine_runs.proofs.Waking.{budget_solid, budget_turn}
use Rattle.lua_heap.specs.declared.world.World.{World as Memory}
use Rattle.lua_heap.specs.Plain.{plain}
use Rattle.move_laws.specs.Memory.{InOrder, IsSound}
use Rattle.step_laws.specs.Steps.{IsReady}
use Rattle.step_laws.specs.Turns.{MayGoOn}
use Rattle.lua_session.specs.Resuming.{Resumes}
use Rattle.lua_driver.specs.Turns.{Reaches, Turns}

-- nothing has been printed in this turn
pub quiet_may : (old new : Memory) → MayGoOn old → new ≡ record old { printed = new.printed } → new.printed.items ≡ [] → MayGoOn new
quiet_may old new m r p = record {
  sound = subst (Sound (length all_entries)) (sym is) (record { solid = budget_solid (length all_entries) (plain old 0) 0 m.sound.solid; rests = idle m.may.idle });
  order = subst InOrder (sym r) (record { codes = m.order.codes; listed = m.order.listed });
  may = subst MayTurn (sym is) (budget_turn (plain old 0) 0 m.may);
}
  where
    is : plain new 0 ≡ record (plain old 0) { printed = [] }
    is = ap (λ (W : Memory). plain W 0) r ∙ ap (λ bytes. record (plain old 0) { printed = bytes }) p

pub sound_of : (W : Memory) → MayGoOn W → IsSound W
sound_of W m = record { primitives = length all_entries; sound = m.sound; order = m.order }

ended_well : (n : ℕ) (o : Outcome) (e : Ending) (V : World) → StepGood n o → o ≡ ends e V → SoundAfter n e V
ended_well n o e V g h = subst (StepGood n) h g

-- the first step may be done
pub ready_by : WakesSoundly → (old new : Memory) (e : Ending) → MayGoOn old → Resumes old new e → InOrder new → IsReady (length all_entries) e new
ready_by law old new e m r o =
    record { after = ended_well (length all_entries) (wakes (plain old 0)) e (plain new 0) (law (length all_entries) (plain old 0) m.sound m.may) (r.is 0); order = o }

pub turned : (rows : ℕ → Row) (old quiet mid new : Memory) (budget left : ℕ) (begun ended : Ending) → quiet ≡ record old { printed = quiet.printed } → quiet.printed.items ≡ [] → Resumes quiet mid begun → Reaches rows begun mid budget new left ended
    → Turns rows old new budget ended
turned rows old quiet mid new budget left begun ended r p w s = record {
  count = s.count;
  left = left;
  is =
      ap (λ W. and_then (wakes W) (steps rows s.count)) (sym is)
      ∙ ap (λ o. and_then o (steps rows s.count)) (w.is budget)
      ∙ s.is;
}
  where
    is : plain quiet budget ≡ record (plain old budget) { printed = [] }
    is = ap (λ (W : Memory). plain W budget) r ∙ ap (λ bytes. record (plain old budget) { printed = bytes }) p

-- at a yield main waits again

pub waits_again : YieldsLeaveMainWaiting → (build : Row) → NeverYields build → PrimitivesSafe (length all_entries) (row_numbered build) → (old new : Memory) (budget : ℕ) (ending : Ending) → MayGoOn old → Turns (row_numbered build) old new budget ending → ending ≡ main_yielded → MayTurn (plain new 0)
waits_again law build silent safe old new budget ending m t y =
    let k = (law build silent (length all_entries) safe t.count (plain old 0) budget (plain new t.left) m.sound m.may (t.is ∙ ap (λ e. ends e (plain new t.left)) y)).1 in
    record { idle = k.idle; main = k.main; is_main = k.is_main; coroutine = k.coroutine; there = k.there; waits = k.waits }

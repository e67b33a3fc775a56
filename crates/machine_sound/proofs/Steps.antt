-- No step of a sound world traps.
use Rattle.std.proofs.Common.{ℕ, zero, suc, [], None}
use Rattle.machine_core.specs.World.{World}
use Rattle.machine_core.specs.Moves.{Ending, go, returned, asks, calls_primitive, raised, unwinding, Row, Outcome, trapped, ends, act, see_top, run}
use Rattle.machine_core.specs.FrameRows.{asked_row, raised_row, unwound, handed_to}
use Rattle.machine_core.specs.MachineStep.{step_by, step, steps, and_then}
use Rattle.machine_sound.specs.Sound.{sizes, Valid, Solid, StackWaits}
use Rattle.machine_sound.specs.Safe.{waiting, Safe, Good}
use Rattle.machine_sound.specs.Laws.{SoundAfter, StepGood, StepsGood, RunsGood, SafeIsGood}
use Rattle.machine_sound.proofs.Lists.{each_none}
use Rattle.machine_sound.proofs.All.{all_rows_good}
use Rattle.machine_sound.proofs.LuaSteps.{from_world_good, go_good}
use Rattle.machine_sound.proofs.FrameRowsSafe.{returned_safe, asked_safe, raised_safe, unwinding_safe}

-- a row that begins where all frames wait
pub from_waiting : (n : ℕ) (r : Row) (W : World) → Solid n W → StackWaits n W → Safe (waiting None) [] r → Good n (run r [] W)
from_waiting n r W s h k = all_rows_good n r (waiting None) [] W (record { solid = s; phase = record { all = h; top = tt }; valid = each_none (Valid (sizes n W)) }) k

pub steps_good : StepsGood
steps_good n rows p go W s = go_good n rows W s.sound s.ready
steps_good n rows p returned W s = from_world_good n W (step_by rows returned W) s.sound (from_waiting n (act see_top (λ _ top. handed_to top)) W s.sound.solid s.ready returned_safe)
steps_good n rows p (calls_primitive k) W s = from_world_good n W (step_by rows (calls_primitive k) W) s.sound (p k s.ready.there W s.sound.solid s.ready.all)
steps_good n rows p asks W s = from_world_good n W (step_by rows asks W) s.sound (from_waiting n asked_row W s.sound.solid s.ready asked_safe)
steps_good n rows p raised W s = from_world_good n W (step_by rows raised W) s.sound (from_waiting n raised_row W s.sound.solid s.ready raised_safe)
steps_good n rows p unwinding W s = from_world_good n W (step_by rows unwinding W) s.sound (from_waiting n (act see_top (λ _ top. unwound top)) W s.sound.solid s.ready unwinding_safe)
steps_good n rows p _ W s = s

pub then_good : (n : ℕ) (o : Outcome) (f : Ending → World → Outcome) → StepGood n o → ((e : Ending) (W : World) → SoundAfter n e W → StepGood n (f e W)) → StepGood n (and_then o f)
then_good n trapped f g k = absurd g
then_good n (ends e W) f g k = k e W g

pub runs_good : RunsGood
runs_good n rows p zero e W s = s
runs_good n rows p (suc m) e W s = then_good n (step rows e W) (steps rows m) (steps_good n rows p e W s) (λ e W s. runs_good n rows p m e W s)

pub safe_is_good : SafeIsGood
safe_is_good n r k W s h = from_waiting n r W s h k

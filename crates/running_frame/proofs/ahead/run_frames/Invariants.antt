use Rattle.std.proofs.Common.{◌≡◌, [], length}
use Rattle.library_rows.specs.Library.{all_entries}
use Rattle.lua_heap.specs.Plain.{plain}
use Rattle.machine_core.specs.Moves.{go}
use Rattle.machine_focus.specs.Focus.{Reaches}
use Rattle.step_laws.specs.Steps.{IsReady}
use Rattle.running_frame.specs.Apart.{held_apart}
use Rattle.running_frame.proofs.ahead.run_frames.Given as goal

abbrev pub ghost-cross_frames : goal.ghost-cross_frames
ghost-cross_frames g a = record { rows = g.rows; world = a.world.now }

abbrev pub ghost-run_frame : goal.ghost-run_frame
ghost-run_frame g a = held_apart (length all_entries) g.rows a.world.now

abbrev pub invariant-loop : goal.invariant-loop
invariant-loop g l = record {
  reaches : Reaches g.rows (plain l.initial.world l.initial.budget) (plain l.world l.budget);
  ready : IsReady (length all_entries) go l.world;
  still : l.world.moving.items ≡ [];
}

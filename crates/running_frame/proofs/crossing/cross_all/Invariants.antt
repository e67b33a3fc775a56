use Rattle.lua_heap.specs.Plain.{plain}
use Rattle.machine_focus.specs.Focus.{Reaches}
use Rattle.running_frame.specs.Crossing.{MayCross, world_around}
use Rattle.running_frame.proofs.crossing.cross_all.Given as goal

abbrev pub ghost-cross_next : goal.ghost-cross_next
ghost-cross_next g a = g.outside

abbrev pub invariant-loop : goal.invariant-loop
invariant-loop g l = record {
  reaches : Reaches g.outside.rows (plain (world_around g.outside l.initial.stack l.around l.initial.tables l.initial.cells) l.initial.budget) (plain (world_around g.outside l.stack l.around l.tables l.cells) l.budget);
  may : MayCross g.outside (world_around g.outside l.stack l.around l.tables l.cells) l.stack;
}

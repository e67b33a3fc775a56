use Rattle.std.specs.Prelude.{length}
use Rattle.library_rows.specs.Library.{all_entries}
use Rattle.running_frame.specs.Crossing.{world_around}
use Rattle.running_frame.specs.Apart.{held_apart}
use Rattle.running_frame.proofs.crossing.cross_next.Given as goal

abbrev pub ghost-cross_frame : goal.ghost-cross_frame
ghost-cross_frame g a = held_apart (length all_entries) g.outside.rows (world_around g.outside a.stack.now a.around a.tables.now a.cells.now)

use Rattle.std.proofs.Common.{◌≡◌, length, take}
use Rattle.machine_coroutines.specs.Burying.{ClosesEach}
use Rattle.machine_coroutines.proofs.burying.close_all.Given as goal

abbrev pub invariant-loop-listed : goal.invariant-loop-listed
invariant-loop-listed l = record {
  closed : ClosesEach l.stack (take l.listed-index l.stack.open_cells) l.initial.cells.objects l.cells.objects;
  size : length l.cells.objects ≡ length l.initial.cells.objects;
}

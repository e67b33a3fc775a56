use Rattle.std.proofs.Common.{◌≡◌, ◌+◌, drop}
use Rattle.machine_objects.specs.Filling.{filled_rows}
use Rattle.machine_objects.proofs.filling.fill_rows.Given as goal

abbrev pub invariant-loop-v : goal.invariant-loop-v
invariant-loop-v l = record {
  at : l.index ≡ l.last + l.v-index;
  rows : filled_rows l.index (drop l.v-index l.values) l.table.rows ≡ filled_rows l.last l.values l.fn.table.rows;
  metatable : l.table.metatable ≡ l.fn.table.metatable;
}

use Rattle.std.proofs.Common.{◌≡◌, ◌+◌, drop, length}
use Rattle.lib_base.specs.Sorting.{HasPlaces, rows_put}
use Rattle.lib_base.proofs.sorting.rewrite_rows.Given as goal

abbrev pub invariant-loop-at : goal.invariant-loop-at
invariant-loop-at l =
    HasPlaces l.table.rows (length l.values)
    × (rows_put l.table.rows (l.at + 1) (drop l.at l.values) ≡ rows_put l.fn.table.rows 1 l.values)
    × (l.table.metatable ≡ l.fn.table.metatable)

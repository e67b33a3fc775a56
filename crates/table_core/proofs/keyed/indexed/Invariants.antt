use Rattle.std.proofs.Common.{◌≡◌, take}
use Rattle.table_core.proofs.keyed.indexed.Given as goal

abbrev pub invariant-loop-at : goal.invariant-loop-at
invariant-loop-at l = l.many.value.rows.entries ≡ take l.at l.few.items

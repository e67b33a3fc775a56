use Rattle.std.proofs.Common.{take}
use Rattle.table_core.specs.Places.{IsAbsent}
use Rattle.table_core.proofs.keyed.place_among.Given as goal

abbrev pub invariant-loop-at : goal.invariant-loop-at
invariant-loop-at l = IsAbsent (take l.at l.rows) l.key

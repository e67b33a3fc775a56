use Rattle.std.proofs.Common.{◌≡◌, ◌+◌, [], None, drop, map}
use Rattle.lua_heap.specs.Reading.{row, value}
use Rattle.lib_base.specs.Numbering.{numbered_from}
use Rattle.lib_base.proofs.numbering.numbered_table.Given as goal

abbrev pub invariant-loop-at : goal.invariant-loop-at
invariant-loop-at l =
    let vs = map (value l.world.strings) l.values in
    (numbered_from (l.at + l.first) (drop l.at vs) (map (row l.world.strings) l.table.rows) ≡ numbered_from l.first vs []) × (l.table.metatable ≡ None)

use Rattle.std.proofs.Common.{◌≡◌, map, take}
use Rattle.lua_heap.specs.Reading.{row as read_row}
use Rattle.lua_opening.specs.Opened.{meant}
use Rattle.lua_opening.proofs.comparing.has_rows.Given as goal

abbrev pub invariant-rows : goal.invariant-rows
invariant-rows l = take l.at (map (read_row l.strings) l.held.rows) ≡ take l.at (map (λ r. meant r.0.now r.1) l.rows)

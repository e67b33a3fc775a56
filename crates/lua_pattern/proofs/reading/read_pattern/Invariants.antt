use Rattle.std.proofs.Common.{◌≡◌, length}
use Rattle.lua_pattern.specs.Reading.{items_from, items_of}
use Rattle.lua_pattern.proofs.Readings.{with_items}
use Rattle.lua_pattern.proofs.reading.read_pattern.Given as goal

-- the items of the pattern are those that are read and those of the bytes from here on
abbrev pub invariant-loop-byte : goal.invariant-loop-byte
invariant-loop-byte l = items_of l.fn.pattern ≡ with_items l.items.items (items_from 0 l.scope l.cursor)

abbrev pub decreases-loop-byte : goal.decreases-loop-byte
decreases-loop-byte l = length l.cursor

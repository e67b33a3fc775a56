use Rattle.std.proofs.Common.{◌≡◌, length}
use Rattle.lua_pattern.specs.Reading.{parts_from, set_from, set_of}
use Rattle.lua_pattern.proofs.Parts.{with_parts}
use Rattle.lua_pattern.proofs.set.read_set.Given as goal

-- the set is what has been read and what the bytes from here on spell
abbrev pub invariant-loop-byte : goal.invariant-loop-byte
invariant-loop-byte l = set_from l.fn.cursor ≡ set_of l.inverted (with_parts l.parts.items (parts_from 0 l.cursor))

abbrev pub decreases-loop-byte : goal.decreases-loop-byte
decreases-loop-byte l = length l.cursor

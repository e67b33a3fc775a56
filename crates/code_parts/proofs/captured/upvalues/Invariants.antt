-- The upvalues so far and those that are left are all.
use Rattle.std.proofs.Common.{◌≡◌, ◌++◌, map, drop}
use Rattle.code_of.specs.CodeOf.{upvalue}
use Rattle.code_parts.proofs.captured.upvalues.Given as goal

abbrev pub invariant-loop-name : goal.invariant-loop-name
invariant-loop-name l = l.list.items ++ map upvalue (drop l.name-index l.names) ≡ map upvalue l.names

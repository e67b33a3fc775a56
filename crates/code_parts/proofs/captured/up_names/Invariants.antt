-- The names so far and those that are left are all.
use Rattle.std.proofs.Common.{◌≡◌, ◌++◌, map, drop, Some}
use Rattle.code_parts.proofs.captured.up_names.Given as goal

abbrev pub invariant-loop-name : goal.invariant-loop-name
invariant-loop-name l = l.list.items ++ map (λ name. Some name.text) (drop l.name-index l.names) ≡ map (λ name. Some name.text) l.names

-- The lines so far and those that are left are all.
use Rattle.std.proofs.Common.{◌≡◌, ◌++◌, map, drop}
use Rattle.code_of.specs.CodeOf.{far_lines}
use Rattle.code_parts.proofs.lines.far_lines.Given as goal

abbrev pub invariant-loop-place : goal.invariant-loop-place
invariant-loop-place l = l.list.items ++ far_lines l.place l.before (map (λ s. s.line) (drop l.place l.steps)) ≡ far_lines 0 l.from (map (λ s. s.line) l.steps)

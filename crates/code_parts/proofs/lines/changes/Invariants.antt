-- The distances so far and those of the lines that are left are those of all.
use Rattle.std.proofs.Common.{◌≡◌, ◌++◌, map, drop}
use Rattle.code_of.specs.CodeOf.{changes}
use Rattle.code_parts.proofs.lines.changes.Given as goal

abbrev pub invariant-loop-step : goal.invariant-loop-step
invariant-loop-step l = l.list.items ++ changes l.before (map (λ s. s.line) (drop l.step-index l.steps)) ≡ changes l.from (map (λ s. s.line) l.steps)

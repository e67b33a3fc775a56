-- The instructions so far and those that are left are all.
use Rattle.std.proofs.Common.{◌≡◌, ◌++◌, map, drop}
use Rattle.code_parts.proofs.assembling.instructions.Given as goal

abbrev pub invariant-loop-step : goal.invariant-loop-step
invariant-loop-step l = l.list.items ++ map (λ s. s.instruction) (drop l.step-index l.steps) ≡ map (λ s. s.instruction) l.steps

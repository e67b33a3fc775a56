-- The code that is left needs what the whole code needs.
use Rattle.std.proofs.Common.{◌≡◌, map, drop}
use Rattle.code_of.specs.CodeOf.{room}
use Rattle.code_parts.proofs.registers.room.Given as goal

abbrev pub invariant-loop-step : goal.invariant-loop-step
invariant-loop-step l = room (map (λ s. s.instruction) (drop l.step-index l.steps)) l.room ≡ room (map (λ s. s.instruction) l.steps) l.least

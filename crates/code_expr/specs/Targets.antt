-- The instruction that stores a local in a global name, as a step.
use Rattle.std.specs.Prelude.{Option, Some, None}
use Rattle.code_of.specs.Coded.{Coded}
use Rattle.code_emitter.specs.declared.emitter.Step.{Step}
use Rattle.code_emitter.specs.Listing.{step}

abbrev pub stored_step : Option Coded → Option Step
stored_step None = None
stored_step (Some x) = Some (step x)

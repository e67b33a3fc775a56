use Rattle.std.proofs.Common.{◌^◌}
use Rattle.source_builds.specs.Builds.{code_builds}
use Rattle.loaded_code.proofs.Loaded.{code_ok, code_within}
use Rattle.loaded_code.proofs.law.loading_is_safe.Goals as goal

pub returns-clause-code : goal.returns-clause-code
returns-clause-code c = code_ok

pub returns-clause-safe : goal.returns-clause-safe
returns-clause-safe c = λ builds are. c.library_is_safe.ensures.loads (code_builds builds) (code_ok builds are)

pub returns-clause-falls : goal.returns-clause-falls
returns-clause-falls c = λ builds are. c.primitives_fall.ensures.loads (code_builds builds) (2 ^ 64) (code_within builds are)

pub returns-clause-silent : goal.returns-clause-silent
returns-clause-silent c = λ builds. c.loads_never_yield.ensures (code_builds builds)

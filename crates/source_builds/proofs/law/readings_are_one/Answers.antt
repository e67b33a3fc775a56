use Rattle.source_builds.proofs.OneReading as one
use Rattle.source_builds.proofs.Lookups.{what_is_met_is_built}
use Rattle.source_builds.proofs.law.readings_are_one.Goals as goal

pub returns-clause-one : goal.returns-clause-one
returns-clause-one c = one.readings_are_one

pub returns-clause-built : goal.returns-clause-built
returns-clause-built c = what_is_met_is_built

-- Readings are one, so what a run meets can be built so.
use Rattle.std.specs.Prelude.{◌≡◌, ℕ, List}
use Rattle.tree_core.specs.Tree.{Body}
use Rattle.load_rows.specs.Loading.{Built, Builds}
use Rattle.source_builds.specs.Builds.{BuildsSources}
use Rattle.source_builds.specs.Readings.{IsReading, Met, HasMet, AsRead}

-- a source has one reading
abbrev pub ReadingsAreOne : Type 0
ReadingsAreOne = (source : List ℕ) (one other : Built Body) → IsReading source one → IsReading source other → one ≡ other

-- whatever was met, sources can be built so
abbrev pub WhatIsMetIsBuilt : Type 0
WhatIsMetIsBuilt = (met : List Met) → (builds : Builds Body) × BuildsSources builds × HasMet builds met

-- What holds of a run that loads sources. Nothing here says of all texts at once what they are built to: a run meets some, each of which has a reading,
-- and what is said of the run holds wherever sources are built as those that it met.
use Rattle.std.specs.Prelude.{◌≡◌, ℕ, List, [], ◌∷◌, Some, None}
use Rattle.tree_core.specs.Tree.{Block, Body}
use Rattle.scope_core.specs.Places.{placed}
use Rattle.compile_text.specs.Source.{IsSource, IsRefused}
use Rattle.compile_text.specs.declared.fault.TextFault.TheVariants.{Source, Rule}
use Rattle.load_rows.specs.Loading.{Built, built, refused_at, Builds}
use Rattle.source_builds.specs.Builds.{BuildsSources}

-- the placed tree of a source; or the line at which it is refused, and the static rule that it breaks there
pub data IsReading (source : List ℕ) : Built Body → Type 0 where
  has_tree : (tree : Block) → IsSource source tree → IsReading source (built (placed tree))
  is_refused : (line : ℕ) → IsRefused source (Source line) → IsReading source (refused_at line None)
  breaks_rule : (rule line : ℕ) → IsRefused source (Rule rule line) → IsReading source (refused_at line (Some rule))

-- a source that was met under a name, and its reading
pub record Met : Type 0 where
  pub name : List ℕ
  pub source : List ℕ
  pub reading : Built Body
  pub is : IsReading source reading

abbrev pub HasMet : Builds Body → List Met → Type 0
HasMet builds [] = Unit {0}
HasMet builds (m ∷ ms) = (builds m.name m.source ≡ m.reading) × HasMet builds ms

-- some sources were met, and wherever these are built to their readings, and sources alone to trees, this holds
pub record AsRead (P : Builds Body → Type 0) : Type 0 where
  pub met : List Met
  pub holds : (builds : Builds Body) → BuildsSources builds → HasMet builds met → P builds

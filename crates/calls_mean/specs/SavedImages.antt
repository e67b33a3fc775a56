-- What a script was saved as that waits for a line.
use Rattle.std.specs.Prelude.{◌≡◌, ℕ, List, length, Option}
use Rattle.tree_core.specs.Tree.{Block, Body}
use Rattle.tree_activation.specs.Work.{State}
use Rattle.code_core.specs.Prototype.{Prototype}
use Rattle.library_rows.specs.Library.{Entry}
use Rattle.library_rows.specs.PreludeText.{function_keys}
use Rattle.load_rows.specs.Loading.{Builds}
use Rattle.lua_meaning.specs.Meaning.{Meaning}
use Rattle.machine_runs.specs.Runs.{is_suspended, Run}
use Rattle.source_builds.specs.Builds.{BuildsSources}
use Rattle.scripts_mean.specs.Scripts.{Does, MeansSo, Begins}
use Rattle.sessions_join.specs.Sessions.{IsSaved}
use Rattle.calls_mean.specs.Images.{StandsFor}

-- the run of a script's code waits for a line, and is saved
pub record IsSavedScript (builds : Builds Body) (source : List ℕ) (tree : Block) (prelude : List (Entry Body)) (compiled : List (Entry Prototype)) (given : Option (List ℕ)) (lines : List (List ℕ)) (budget : ℕ) (bytes : List ℕ) : Type 0 where
  pub begins : Begins source tree prelude compiled given lines
  pub all_there : length compiled ≡ length function_keys
  pub run : Run
  pub runs : Does builds tree given lines budget compiled run
  pub waits : run.close ≡ is_suspended
  pub saved : IsSaved compiled run.last bytes

abbrev pub SavedImagesStand : Type 0
SavedImagesStand =
    (builds : Builds Body) → BuildsSources builds → (source : List ℕ) (tree : Block) (prelude : List (Entry Body)) (compiled : List (Entry Prototype)) (given : Option (List ℕ)) (lines : List (List ℕ)) (budget : ℕ) (bytes : List ℕ)
    → IsSavedScript builds source tree prelude compiled given lines budget bytes
    → (m : Meaning Body State) → MeansSo builds tree given lines budget prelude m → StandsFor builds compiled bytes m

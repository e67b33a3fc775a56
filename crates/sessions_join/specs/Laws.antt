-- That sessions one after another do what one run does on all their lines.
use Rattle.std.specs.Prelude.{◌≡◌, ℕ, ◌≤◌, List, length, Option}
use Rattle.std.specs.List.{flat_map}
use Rattle.int_core.specs.Value.{greatest_string}
use Rattle.code_core.specs.Prototype.{Prototype}
use Rattle.code_core.specs.Check.{IsChecked}
use Rattle.library_rows.specs.Library.{Entry, all_entries}
use Rattle.machine_core.specs.Moves.{Row}
use Rattle.machine_core.specs.PrimitiveRows.{row_numbered}
use Rattle.machine_sound.specs.Sound.{Each}
use Rattle.machine_sound.specs.Laws.{PrimitivesSafe}
use Rattle.machine_alike.specs.Laws.{NoneMade}
use Rattle.machine_ends.specs.Laws.{FallsFrom}
use Rattle.machine_runs.specs.Laws.{NeverYields}
use Rattle.machine_runs.specs.Opening.{opening, begun}
use Rattle.machine_runs.specs.Runs.{Close, Run, CodeRun}
use Rattle.image_core.specs.Image.{PermKey}
use Rattle.image_bytes.specs.Bytes.{Reader}
use Rattle.session_images.specs.Laws.{IsLibrary}
use Rattle.images_stand.specs.Sessions.{KnowsLibraries}
use Rattle.sessions_join.specs.Sessions.{Sessions}

-- what is known of the row of `build`, the function of the libraries on which the others do not hang
pub record IsFit (build : Row) : Type 0 where
  pub makes_none : NoneMade build
  pub least : ℕ
  pub falls : FallsFrom least build
  pub silent : NeverYields build
  pub safe : PrimitivesSafe (length all_entries) (row_numbered build)

-- strings can hold all lines of all sessions
abbrev pub AreShort : List (List (List ℕ)) → Type 0
AreShort inputs = Each (λ (lines : List (List ℕ)). Each (λ (line : List ℕ). length line ≤ greatest_string) lines) inputs

-- all lines in their order
abbrev pub all_lines : List (List (List ℕ)) → List (List ℕ)
all_lines inputs = flat_map (λ lines. lines) inputs

-- one run of code
pub record IsOneRun (build : Row) (prelude : List (Entry Prototype)) (code : Prototype) (lines : List (List ℕ)) (budget : ℕ) (printed : List ℕ) (close : Close) : Type 0 where
  pub run : Run
  pub runs : CodeRun (row_numbered build) (begun (opening prelude) code) lines budget run
  pub prints : run.printed ≡ printed
  pub closes : run.close ≡ close

abbrev pub SessionsAreOneRun : Type 0
SessionsAreOneRun =
    (build : Row) → IsFit build → (R : Reader) → KnowsLibraries R → (code_named : PermKey → Option Prototype) (prelude : List (Entry Prototype)) → IsLibrary prelude → (code : Prototype) → IsChecked code
    → (budget : ℕ) (inputs : List (List (List ℕ))) (printed : List ℕ) (close : Close) → AreShort inputs
    → Sessions R code_named prelude (row_numbered build) budget code inputs printed close → IsOneRun build prelude code (all_lines inputs) budget printed close

-- That no script changes the environment of the prelude.
use Rattle.std.specs.Prelude.{ℕ, ◌≤◌, List, length, IsTrue}
use Rattle.int_core.specs.Value.{greatest_string}
use Rattle.code_core.specs.Prototype.{Prototype, list_of}
use Rattle.code_core.specs.Check.{IsChecked}
use Rattle.library_rows.specs.Library.{Entry, all_entries}
use Rattle.load_rows.specs.Loading.{Builds}
use Rattle.lua_meaning.specs.Libraries.{environment_table, environment}
use Rattle.lua_meaning.specs.Opening.{prelude_of}
use Rattle.machine_core.specs.World.{World}
use Rattle.machine_core.specs.Moves.{Row, Outcome, trapped, ends, Ending}
use Rattle.machine_core.specs.MachineStep.{steps}
use Rattle.machine_core.specs.PrimitiveRows.{row_numbered, load_row}
use Rattle.machine_sound.specs.Sound.{Each, Sound}
use Rattle.machine_sound.specs.Laws.{SoundAfter, PrimitivesSafe}
use Rattle.machine_runs.specs.Opening.{opening, begun}
use Rattle.machine_runs.specs.Runs.{Run, CodeRun, CodeOnward}
use Rattle.machine_runs.specs.Laws.{PreludeOk, MayTurn}
use Rattle.session_images.specs.Prelude.{HasPrelude}
use Rattle.prelude_stays.specs.Guards.{Guard}
use Rattle.prelude_stays.specs.Kept.{Home, Keeps}
use Rattle.prelude_guard.specs.Checks.{is_guarded, all_guarded}

-- that of a prelude: the number of its cell is 0
abbrev pub home_of : List (Entry Prototype) → Home
home_of prelude = record { table = environment_table; made = environment prelude; cell = 0; functions = length prelude }

-- the code of each of its functions passes the test
abbrev pub PreludeGuarded : List (Entry Prototype) → Type 0
PreludeGuarded prelude = Each (λ (e : Entry Prototype). IsTrue (is_guarded e.entry)) prelude

-- no value that a script reaches is the environment, whatever is known of each function
abbrev pub Stays : Home → World → Type 0
Stays h W = (guards : List Guard) × Keeps h guards W

abbrev pub StaysAtEnd : Home → Outcome → Type 0
StaysAtEnd h trapped = Unit {0}
StaysAtEnd h (ends e W) = Stays h W

-- it is so in the world before a script, and where a script begins, whatever its code
abbrev pub OpeningStays : Type 0
OpeningStays = (prelude : List (Entry Prototype)) → PreludeGuarded prelude → Stays (home_of prelude) (opening prelude)

abbrev pub BegunStays : Type 0
BegunStays = (h : Home) (W : World) (main : Prototype) → Stays h W → Stays h (begun W main)

abbrev pub library : Builds Prototype → ℕ → Row
library builds n = row_numbered (load_row builds) n

-- steps of sound worlds keep it so
abbrev pub StepsStay : Type 0
StepsStay = (builds : Builds Prototype) (h : Home) → PrimitivesSafe (length all_entries) (library builds) → (count : ℕ) (e : Ending) (W : World) → SoundAfter (length all_entries) e W → Stays h W
    → StaysAtEnd h (steps (library builds) count e W)

-- and so do runs, on lines that are no longer than a string may be
abbrev pub RunsStay : Type 0
RunsStay = (builds : Builds Prototype) (h : Home) → PrimitivesSafe (length all_entries) (library builds) → (W : World) (input : List (List ℕ)) (budget : ℕ) (r : Run)
    → Sound (length all_entries) W → MayTurn W → Each (λ line. length line ≤ greatest_string) input → Stays h W → CodeRun (library builds) W input budget r → Stays h r.last

abbrev pub OnwardStays : Type 0
OnwardStays = (builds : Builds Prototype) (h : Home) → PrimitivesSafe (length all_entries) (library builds) → (W : World) (input : List (List ℕ)) (budget : ℕ) (r : Run)
    → Sound (length all_entries) W → MayTurn W → Each (λ line. length line ≤ greatest_string) input → Stays h W → CodeOnward (library builds) W input budget r → Stays h r.last

-- A run of a script has the prelude at its end as it was made, whatever the script's code is
abbrev pub RunsHavePrelude : Type 0
RunsHavePrelude = (builds : Builds Prototype) → PrimitivesSafe (length all_entries) (library builds) → (prelude : List (Entry Prototype)) → PreludeOk prelude → PreludeGuarded prelude → (main : Prototype) → IsChecked main
    → (input : List (List ℕ)) (budget : ℕ) (r : Run) → Each (λ line. length line ≤ greatest_string) input → CodeRun (library builds) (begun (opening prelude) main) input budget r → HasPrelude prelude r.last

-- the functions of a prelude whose code passes the test, by their names
abbrev pub GuardedCode : Type 0
GuardedCode = (prelude : Prototype) → IsTrue (all_guarded prelude) → PreludeGuarded (prelude_of (list_of prelude.inner))

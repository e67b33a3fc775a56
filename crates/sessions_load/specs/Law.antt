-- That a session is loaded from what it was saved as.
use Rattle.std.specs.Prelude.{◌≡◌, ℕ, List, length}
use Rattle.code_core.specs.Check.{IsChecked}
use Rattle.code_core.specs.Prototype.{Prototype}
use Rattle.library_rows.specs.Library.{Entry, all_entries}
use Rattle.load_rows.specs.Loading.{Builds}
use Rattle.machine_core.specs.World.{World}
use Rattle.machine_core.specs.Moves.{Row}
use Rattle.machine_core.specs.PrimitiveRows.{load_row, row_numbered}
use Rattle.machine_sound.specs.Sound.{Sound}
use Rattle.machine_runs.specs.Laws.{AreShort, MayTurn}
use Rattle.machine_runs.specs.Opening.{opening, begun}
use Rattle.machine_runs.specs.Runs.{is_suspended, Run, CodeRun, CodeOnward}
use Rattle.session_images.specs.Laws.{IsLibrary}
use Rattle.session_images.specs.Prelude.{HasPrelude}
use Rattle.prelude_stays.specs.Laws.{home_of, PreludeGuarded, Stays}
use Rattle.images_stand.specs.Sessions.{KnowsPrelude}
use Rattle.lua_saving.specs.Saving.{session_codes, IsSession, HasYielded}
use Rattle.sessions_join.specs.Sessions.{IsSaved}
use Rattle.sessions_join.specs.Laws.{IsFit}

-- the loading of sessions has the code of the prelude's functions by their keys
abbrev pub PreludesAreKnown : Type 0
PreludesAreKnown = (prelude : List (Entry Prototype)) → KnowsPrelude prelude (session_codes prelude)

-- the bytes are accepted: there is a session of them, whose main coroutine waits where it has yielded
pub record IsLoadable (prelude : List (Entry Prototype)) (bytes : List ℕ) : Type 0 where
  pub session : World
  pub holds : IsSession prelude bytes session
  pub waits : HasYielded session

-- code that runs until it waits for a line, and is saved then
abbrev pub RunIsLoadable : Type 0
RunIsLoadable =
    (build : Row) → IsFit build → (prelude : List (Entry Prototype)) → IsLibrary prelude → (code : Prototype) → IsChecked code → (lines : List (List ℕ)) (budget : ℕ) (run : Run) → AreShort lines
    → CodeRun (row_numbered build) (begun (opening prelude) code) lines budget run → run.close ≡ is_suspended → (bytes : List ℕ) → IsSaved prelude run.last bytes → IsLoadable prelude bytes

-- and a session that was loaded, from whatever bytes, and goes on until it waits for a line again
abbrev pub OnwardIsLoadable : Type 0
OnwardIsLoadable =
    (build : Row) → IsFit build → (prelude : List (Entry Prototype)) → IsLibrary prelude → (image : List ℕ) (session : World) → IsSession prelude image session → HasYielded session
    → (lines : List (List ℕ)) (budget : ℕ) (run : Run) → AreShort lines → CodeOnward (row_numbered build) session lines budget run → run.close ≡ is_suspended
    → (bytes : List ℕ) → IsSaved prelude run.last bytes → IsLoadable prelude bytes

-- it goes on, on any lines and with any budget
abbrev pub LoadedGoesOn : Type 0
LoadedGoesOn =
    (build : Row) → IsFit build → (prelude : List (Entry Prototype)) (image : List ℕ) (session : World) → IsSession prelude image session → (lines : List (List ℕ)) (budget : ℕ) → AreShort lines
    → (run : Run) × CodeOnward (row_numbered build) session lines budget run

-- A world that waits for a line, in which the prelude is as it was made, and no value that a script reaches is the prelude's environment: so no script changes it
-- from there on
pub record KeepsPrelude (prelude : List (Entry Prototype)) (W : World) : Type 0 where
  pub sound : Sound (length all_entries) W
  pub waits : MayTurn W
  pub has : HasPrelude prelude W
  pub stays : Stays (home_of prelude) W

-- Where the prelude's code passes the test, it is so where a run of code waits for a line
abbrev pub RunKeepsPrelude : Type 0
RunKeepsPrelude =
    (builds : Builds Prototype) → IsFit (load_row builds) → (prelude : List (Entry Prototype)) → IsLibrary prelude → PreludeGuarded prelude → (code : Prototype) → IsChecked code → (lines : List (List ℕ)) (budget : ℕ) (run : Run) → AreShort lines
    → CodeRun (row_numbered (load_row builds)) (begun (opening prelude) code) lines budget run → run.close ≡ is_suspended → KeepsPrelude prelude run.last

-- and where a session waits for a line again that was loaded from the bytes of such a world
abbrev pub OnwardKeepsPrelude : Type 0
OnwardKeepsPrelude =
    (builds : Builds Prototype) → IsFit (load_row builds) → (prelude : List (Entry Prototype)) → IsLibrary prelude → PreludeGuarded prelude → (W : World) → KeepsPrelude prelude W → (bytes : List ℕ) → IsSaved prelude W bytes
    → (session : World) → IsSession prelude bytes session → (lines : List (List ℕ)) (budget : ℕ) (run : Run) → AreShort lines
    → CodeOnward (row_numbered (load_row builds)) session lines budget run → run.close ≡ is_suspended → KeepsPrelude prelude run.last

-- Sessions in worlds that agree do the same, turn by turn; so a session that was saved and loaded goes on as it would have.
use Rattle.std.specs.Prelude.{◌≡◌, ℕ, List, Option, Some}
use Rattle.int_core.specs.Value.{Value}
use Rattle.machine_core.specs.World.{World}
use Rattle.machine_core.specs.Moves.{Row}
use Rattle.machine_alike.specs.Agree.{Pairs, SameValues, Agree, Extends}
use Rattle.machine_alike.specs.Laws.{NoneMade, SameOutcome}
use Rattle.machine_runs.specs.Runs.{turn, Run, CodeRun, CodeOnward}
use Rattle.image_core.specs.Image.{Item}
use Rattle.image_core.specs.Records.{parts_in_order, image_by}
use Rattle.image_core.specs.Loading.{Target, loading}
use Rattle.image_load.specs.Session.{session_roots, session_loaded, CanResume}

-- both print the same and end alike, in worlds that agree again
pub record SameRun (p : Pairs) (r s : Run) : Type 0 where
  pub printed : r.printed ≡ s.printed
  pub close : r.close ≡ s.close
  pub now : Pairs
  pub more : Extends p now
  pub last : Agree now r.last s.last

abbrev pub TurnsAlike : Type 0
TurnsAlike = (rows : ℕ → Row) → ((n : ℕ) → NoneMade (rows n)) → (p : Pairs) (W X : World) → Agree p W X → SameValues p W.moving X.moving → (count budget : ℕ)
    → SameOutcome p (turn rows count W budget) (turn rows count X budget)

abbrev pub RunsAlike : Type 0
RunsAlike = (rows : ℕ → Row) → ((n : ℕ) → NoneMade (rows n)) → (p : Pairs) (W X : World) → Agree p W X → SameValues p W.moving X.moving → (input : List (List ℕ)) (budget : ℕ) (r : Run)
    → CodeRun rows W input budget r → (s : Run) × CodeRun rows X input budget s × SameRun p r s

abbrev pub OnwardAlike : Type 0
OnwardAlike = (rows : ℕ → Row) → ((n : ℕ) → NoneMade (rows n)) → (p : Pairs) (W X : World) → Agree p W X → (input : List (List ℕ)) (budget : ℕ) (r : Run)
    → CodeOnward rows W input budget r → (s : Run) × CodeOnward rows X input budget s × SameRun p r s

-- on any further lines, with any budget
abbrev pub SavedSessionsGoOn : Type 0
SavedSessionsGoOn = (rows : ℕ → Row) → ((n : ℕ) → NoneMade (rows n)) → (base : Pairs) (W V X : World) (T : Target) (name : Value → Option Item) → CanResume base W V T name
    → session_loaded T (image_by W name (session_roots W)) V ≡ Some X → (input : List (List ℕ)) (budget : ℕ) (r : Run)
    → CodeOnward rows W input budget r
    → (s : Run) × CodeOnward rows X input budget s × SameRun (loading base T (parts_in_order W name (session_roots W)) (image_by W name (session_roots W)).records) r s

-- That functions stay as they were made.
use Rattle.std.specs.Prelude.{◌≡◌, ℕ, List, ◌++◌, Option, Some, None}
use Rattle.int_core.specs.Value.{Value}
use Rattle.machine_core.specs.World.{Function, World}
use Rattle.machine_core.specs.Moves.{Ending, Made, Move, move, Row, Outcome, trapped, ends, run}
use Rattle.machine_core.specs.MachineStep.{steps}
use Rattle.machine_runs.specs.Runs.{Run, CodeRun, CodeOnward}

-- new functions come last, and the prelude's are the same ones
pub record Keeps (W V : World) : Type 0 where
  pub made : List Function
  pub functions : V.functions ≡ W.functions ++ made
  pub environment : V.prelude_environment ≡ W.prelude_environment
  pub prelude : V.prelude_functions ≡ W.prelude_functions

abbrev pub KeepsIfMade : {A : Type 0} → World → Option (Made A) → Type 0
KeepsIfMade W None = Unit {0}
KeepsIfMade W (Some d) = Keeps W d.world

abbrev pub KeepsAtEnd : World → Outcome → Type 0
KeepsAtEnd W trapped = Unit {0}
KeepsAtEnd W (ends e V) = Keeps W V

abbrev pub MovesKeep : Type 0
MovesKeep = (m : Move) (env : List Value) (W : World) → KeepsIfMade W (move m env W)

abbrev pub RowsKeep : Type 0
RowsKeep = (r : Row) (env : List Value) (W : World) → KeepsAtEnd W (run r env W)

abbrev pub StepsKeep : Type 0
StepsKeep = (primitives : ℕ → Row) (count : ℕ) (e : Ending) (W : World) → KeepsAtEnd W (steps primitives count e W)

abbrev pub RunsKeep : Type 0
RunsKeep = (primitives : ℕ → Row) (W : World) (input : List (List ℕ)) (budget : ℕ) (r : Run) → CodeRun primitives W input budget r → Keeps W r.last

abbrev pub OnwardKeeps : Type 0
OnwardKeeps = (primitives : ℕ → Row) (W : World) (input : List (List ℕ)) (budget : ℕ) (r : Run) → CodeOnward primitives W input budget r → Keeps W r.last

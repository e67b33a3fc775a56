-- That turns of code end.
use Rattle.std.specs.Prelude.{◌≡◌, ℕ, ◌+◌, ◌*◌, ◌≤◌, ◌<◌, ◌⊎◌, true, List, [], length}
use Rattle.int_core.specs.Value.{greatest_string}
use Rattle.code_core.specs.Prototype.{Prototype, instruction_count}
use Rattle.load_rows.specs.Loading.{Builds, built}
use Rattle.machine_core.specs.World.{World}
use Rattle.machine_core.specs.Moves.{Ending, Row, ends, run}
use Rattle.machine_core.specs.MachineStep.{step, steps}
use Rattle.machine_core.specs.PrimitiveRows.{row_numbered, load_row}
use Rattle.machine_sound.specs.Sound.{Each, Sound}
use Rattle.machine_sound.specs.Laws.{SoundAfter, PrimitivesSafe}
use Rattle.machine_runs.specs.Runs.{is_end, has_ended, turn, Run, CodeRun}
use Rattle.machine_runs.specs.Laws.{MayTurn, NeverYields}
use Rattle.machine_ends.specs.Measure.{Within, world_weight, measure}
use Rattle.machine_ends.specs.Falls.{anywhere, Falls}
use Rattle.std.specs.Prelude.{None}

-- the row of a primitive, which is called where a unit has been paid
abbrev pub PrimitiveFalls : Row → Type 0
PrimitiveFalls r = Falls (anywhere true 100 None) r

-- what it comes to, of which the functions of a world have at most so many instructions before and after: the measure is smaller, or the turn has ended
abbrev pub FallsWithin : (most : ℕ) → Row → Type 0
FallsWithin most r = (e : Ending) (W V : World) → Within most W → run r [] W ≡ ends e V → (is_end e ≡ true) ⊎ (Within most V × measure most e V < world_weight most W + (40 * most + 100))

-- and so from some number on
abbrev pub FallsFrom : (least : ℕ) → Row → Type 0
FallsFrom least r = (most : ℕ) → least ≤ most → FallsWithin most r

abbrev pub PrimitivesFall : Type 0
PrimitivesFall = (r : Row) → PrimitiveFalls r → (most : ℕ) → FallsWithin most r

-- no source is built to more instructions than so many
abbrev pub BuildsWithin : (most : ℕ) → Builds Prototype → Type 0
BuildsWithin most builds = (name source : List ℕ) (p : Prototype) → length name ≤ greatest_string → builds name source ≡ built p → instruction_count p ≤ most

-- the row of `build`, which makes functions of them
abbrev pub LoadFalls : Type 0
LoadFalls = (builds : Builds Prototype) (least : ℕ) → BuildsWithin least builds → FallsFrom least (load_row builds)

-- a step that is no end makes the measure smaller, or ends the turn
abbrev pub StepsFall : Type 0
StepsFall = (build : Row) (most : ℕ) → FallsWithin most build → (e d : Ending) (W V : World) → Within most W → step (row_numbered build) e W ≡ ends d V
    → (is_end d ≡ true) ⊎ (Within most V × measure most d V < measure most e W)

-- so from a sound world some number of steps leads to the end of the turn
abbrev pub StepsEnd : Type 0
StepsEnd = (build : Row) (least : ℕ) → FallsFrom least build → (primitives : ℕ) → PrimitivesSafe primitives (row_numbered build) → (e : Ending) (W : World) → SoundAfter primitives e W
    → (n : ℕ) × (has_ended (steps (row_numbered build) n e W) ≡ true)

abbrev pub TurnsEnd : Type 0
TurnsEnd = (build : Row) (least : ℕ) → FallsFrom least build → (primitives : ℕ) → PrimitivesSafe primitives (row_numbered build) → (W : World) (budget : ℕ) → Sound primitives W → MayTurn W
    → (n : ℕ) × (has_ended (turn (row_numbered build) n W budget) ≡ true)

-- and code runs on any lines that are no longer than a string may be
abbrev pub EveryCodeRuns : Type 0
EveryCodeRuns = (build : Row) (least : ℕ) → FallsFrom least build → NeverYields build → (primitives : ℕ) → PrimitivesSafe primitives (row_numbered build) → (W : World) (input : List (List ℕ)) (budget : ℕ)
    → Sound primitives W → MayTurn W → Each (λ (line : List ℕ). length line ≤ greatest_string) input → (r : Run) × CodeRun (row_numbered build) W input budget r

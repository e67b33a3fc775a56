-- What is proved of sound worlds.
use Rattle.std.specs.Prelude.{ℕ, ◌<◌, ◌≤◌, ◌≡◌, List, [], length, Some, None}
use Rattle.int_core.specs.Value.{greatest_string}
use Rattle.code_core.specs.Prototype.{Prototype}
use Rattle.load_rows.specs.Loading.{Builds, built}
use Rattle.library_rows.specs.Look.{Look}
use Rattle.library_rows.specs.Library.{Primitive, all_entries, row_of}
use Rattle.int_core.specs.Ask.{values}
use Rattle.machine_core.specs.World.{running, World, Place, place_of}
use Rattle.machine_core.specs.InstructionRows.{text_at, rest_at, told_values}
use Rattle.machine_core.specs.FrameRows.{expand, goes_on_by}
use Rattle.machine_core.specs.Moves.{Ending, go, Row, Outcome, trapped, ends, run}
use Rattle.machine_core.specs.MachineStep.{woken, look_row, step, steps}
use Rattle.machine_core.specs.PrimitiveRows.{row_numbered, load_row}
use Rattle.machine_sound.specs.Sound.{Solid, StackWaits, Sound}
use Rattle.machine_sound.specs.Safe.{waiting, LookOk, LoadedOk, Safe, EndIs, Good}

-- a sound world, and what else is known of it after a row that ended so
pub record SoundAfter (primitives : ℕ) (ending : Ending) (W : World) : Type 0 where
  pub sound : Sound primitives W
  pub ready : EndIs primitives ending W

-- an outcome that is no trap, in a sound world
abbrev pub StepGood : ℕ → Outcome → Type 0
StepGood primitives trapped = ⊥
StepGood primitives (ends ending W) = SoundAfter primitives ending W

-- the row of a primitive starts where all frames wait
abbrev pub PrimitiveSafe : Row → Type 0
PrimitiveSafe r = Safe (waiting None) [] r

-- what it comes to in each solid world where all frames wait; a safe row is so
abbrev pub PrimitiveGood : ℕ → Row → Type 0
PrimitiveGood primitives r = (W : World) → Solid primitives W → StackWaits primitives W → Good primitives (run r [] W)

abbrev pub SafeIsGood : Type 0
SafeIsGood = (primitives : ℕ) (r : Row) → PrimitiveSafe r → PrimitiveGood primitives r

-- the rows of all primitives are so
abbrev pub PrimitivesSafe : ℕ → (ℕ → Row) → Type 0
PrimitivesSafe primitives rows = (n : ℕ) → n < primitives → PrimitiveGood primitives (rows n)

-- a row that looks at values and tables alone is safe where what it writes out is right
abbrev pub LookRowsSafe : Type 0
LookRowsSafe = (l : Look) → LookOk l → PrimitiveSafe (look_row l)

-- the row of `build` is safe where each source is built to code of which a function can be made

abbrev pub BuildsOk : Builds Prototype → Type 0
BuildsOk builds = (name source : List ℕ) (p : Prototype) → length name ≤ greatest_string → builds name source ≡ built p → LoadedOk p

abbrev pub LoadRowSafe : Type 0
LoadRowSafe = (builds : Builds Prototype) → BuildsOk builds → PrimitiveSafe (load_row builds)

-- and so all primitives are, where each such row is, and that of `build`
abbrev pub LibrarySafe : Type 0
LibrarySafe = (build : Row) → PrimitiveGood (length all_entries) build → ((p : Primitive) (l : Look) → row_of p ≡ Some l → PrimitiveGood (length all_entries) (look_row l)) → PrimitivesSafe (length all_entries) (row_numbered build)

-- from a sound world no step traps, and the world is sound after it, as its ending says; so it is where the budget is spent
abbrev pub StepsGood : Type 0
StepsGood = (primitives : ℕ) (rows : ℕ → Row) → PrimitivesSafe primitives rows → (ending : Ending) (W : World) → SoundAfter primitives ending W → StepGood primitives (step rows ending W)

-- and so any number of steps
abbrev pub RunsGood : Type 0
RunsGood = (primitives : ℕ) (rows : ℕ → Row) → PrimitivesSafe primitives rows → (n : ℕ) (ending : Ending) (W : World) → SoundAfter primitives ending W → StepGood primitives (steps rows n ending W)

-- the text of the instruction at which the frame on top runs does not trap
abbrev pub RunningTextsGood : Type 0
RunningTextsGood = (primitives : ℕ) (W : World) (p : Place) → Sound primitives W → place_of W ≡ Some p → p.top.wait ≡ running → Good primitives (run (expand (text_at p.function.code p.top.own.pc)) [] W)

-- what is left of an instruction does not trap where the answer of its callee moves
abbrev pub WaitingTextsGood : Type 0
WaitingTextsGood = (primitives : ℕ) (W : World) (p : Place) → Sound primitives W → place_of W ≡ Some p → (p.top.wait ≡ running → ⊥)
    → Good primitives (run (goes_on_by (rest_at p.top.wait p.function.code p.top.own.pc)) (told_values p.top.wait (values W.moving)) (woken W p.stack p.top))

-- a sound world with a Lua frame on top can do a step
abbrev pub GoesFromSound : Type 0
GoesFromSound = (primitives : ℕ) (W : World) (p : Place) → Sound primitives W → place_of W ≡ Some p → SoundAfter primitives go W

-- there is a sound world with a running function
abbrev pub SomeWorldSound : Type 0
SomeWorldSound = (primitives : ℕ) × (W : World) × SoundAfter primitives go W

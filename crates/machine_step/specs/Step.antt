-- Steps of the machine with its library, and steps that cost nothing.
use Rattle.std.specs.Prelude.{ℕ}
use Rattle.source_builds.specs.Readings.{AsRead}
use Rattle.loaded_code.specs.Laws.{library}
use Rattle.machine_core.specs.Moves.{Ending, go, Row}
use Rattle.lua_heap.specs.declared.world.World.{World as Memory}
use Rattle.step_laws.specs.Steps.{Does}

-- a step leads from one world and budget to others, and ends so, wherever sources are built as it met them
abbrev pub Did : (from : Ending) → (old : Memory) → (fuel : ℕ) → (new : Memory) → (left : ℕ) → (to : Ending) → Type 0
Did from old fuel new left to = AsRead (λ builds. Does (library builds) from old fuel new left to)

-- the Lua frame on top does its step, whatever the functions of the libraries are
pub record Goes (old : Memory) (fuel : ℕ) (new : Memory) (left : ℕ) (to : Ending) : Type 0 where
  pub is : (rows : ℕ → Row) → Does rows go old fuel new left to

-- a step leads from one world to another whatever these are, and leaves of the budget what there was
pub record Passes (from : Ending) (old new : Memory) (to : Ending) : Type 0 where
  pub is : (rows : ℕ → Row) (fuel : ℕ) → Does rows from old fuel new fuel to

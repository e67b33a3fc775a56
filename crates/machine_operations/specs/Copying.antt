-- The first operand of an operation, which may go to a register as well.
use Rattle.std.specs.Prelude.{◌≡◌, ◌<◌, ℕ, List, [], ◌∷◌, Option, Some, None, length}
use Rattle.int_core.specs.Value.{Value}
use Rattle.machine_core.specs.World.{Place, place_of}
use Rattle.machine_core.specs.Text.{Arg, arg, Own, write_register}
use Rattle.machine_core.specs.FrameRows.{prepares}
use Rattle.machine_core.specs.Moves.{blamed, Ending, Row}
use Rattle.table_core.specs.declared.value.Value.{Value as Kept}
use Rattle.lua_heap.specs.declared.world.World.{World as Memory}
use Rattle.lua_heap.specs.Plain.{plain}
use Rattle.lua_heap.specs.Reading.{value}
use Rattle.move_laws.specs.Memory.{IsSafe, Leads}
use Rattle.machine_calls.specs.declared.preparing.Prepared.{Prepared}
use Rattle.machine_calls.specs.declared.preparing.Prepared.TheVariants.{Nothing, Copied}

-- the register is one of the frame on top: that of SELF is, in checked code
abbrev pub CanCopy : Memory → Option ℕ → Type 0
CanCopy W None = Unit {0}
CanCopy W (Some register) = (place : Place) → place_of (plain W 0) ≡ Some place → register < length place.top.own.registers

abbrev pub moves_for : Option ℕ → Arg → List Own
moves_for None x = []
moves_for (Some register) x = write_register register x ∷ []

abbrev pub prepared_by : Option ℕ → Kept → Prepared
prepared_by None first = Nothing
prepared_by (Some register) first = Copied register first

-- a row goes on from there, safe as it was; the function on top is the same, and so is its place in an error's text
pub record Copies (old new : Memory) (also : Option ℕ) (first : Kept) : Type 0 where
  pub leads : (env : List Value) (x : Arg) → arg env x ≡ value old.strings first → (row : Row) (last : Memory) (ending : Ending) → Leads row env new last ending
      → Leads (prepares (moves_for also x) row) env old last ending
  pub safe : (env : List Value) (x : Arg) → arg env x ≡ value old.strings first → (row : Row) → IsSafe (prepares (moves_for also x) row) env old → IsSafe row env new
  pub function : (was is : Place) → place_of (plain old 0) ≡ Some was → place_of (plain new 0) ≡ Some is → is.function ≡ was.function
  pub blames : (fuel : ℕ) (text : List ℕ) → blamed (plain new fuel) text ≡ blamed (plain old fuel) text

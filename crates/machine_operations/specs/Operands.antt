-- Operands that are read, and the operation on their values.
use Rattle.std.specs.Prelude.{◌≡◌, ℕ, Bool, true, false, List, [], ◌∷◌, ◌++◌, map}
use Rattle.int_core.specs.Value.{Value}
use Rattle.machine_core.specs.Text.{Arg, args_of, Text}
use Rattle.machine_core.specs.FrameRows.{expand}
use Rattle.machine_core.specs.Moves.{run}
use Rattle.machine_sound.specs.Sound.{Each, sizes, Valid, Sound}
use Rattle.table_core.specs.declared.value.Value.{Value as Kept}
use Rattle.lua_heap.specs.declared.world.World.{World as Memory}
use Rattle.lua_heap.specs.Plain.{plain}
use Rattle.lua_heap.specs.Reading.{value}
use Rattle.instruction_forms.specs.declared.operand.Operands.{Operands}
use Rattle.instruction_forms.specs.declared.operand.Operation.{Operation}
use Rattle.instruction_forms.specs.declared.operand.Operation.TheVariants.{Index, Store, Arithmetic, Length, Equal, Less, LessEqual}
use Rattle.instruction_forms.specs.Forms.{with_operands}
use Rattle.move_laws.specs.Memory.{IsSafe}
use Rattle.machine_operations.specs.declared.operands.Values.{Values}
use Rattle.machine_operations.specs.declared.operands.Values.TheVariants.{One, Two, Three}

abbrev pub list_of : Values → List Kept
list_of (One v) = v ∷ []
list_of (Two v w) = v ∷ w ∷ []
list_of (Three v w u) = v ∷ w ∷ u ∷ []

abbrev pub first_value : Values → Kept
first_value (One v) = v
first_value (Two v w) = v
first_value (Three v w u) = v

abbrev pub ordered : Bool → Kept → Kept → Values
ordered true v w = Two w v
ordered false v w = Two v w

-- operands are read where a row goes on with them
pub record AreRead (W : Memory) (xs : Operands) : Type 0 where
  pub more : List Arg → Text
  pub safe : IsSafe (expand (with_operands xs more)) [] W

-- what a row goes on with: the values that were read, and how the operands are named among them and others behind. In a sound world they are valid
pub record ReadsAll (W : Memory) (xs : Operands) (vs : Values) : Type 0 where
  pub values : List Value
  pub named : List Arg
  pub goes : (more : List Arg → Text) (fuel : ℕ) → run (expand (with_operands xs more)) [] (plain W fuel) ≡ run (expand (more named)) values (plain W fuel)
  pub are : (behind : List Value) → args_of (values ++ behind) named ≡ map (value W.strings) (list_of vs)
  pub valid : (primitives : ℕ) → Sound primitives (plain W 0) → Each (Valid (sizes primitives (plain W 0))) (map (value W.strings) (list_of vs))

-- an operation takes so many operands
abbrev pub takes : Operation → Values → Bool
takes Index (Two v w) = true
takes Store (Three v w u) = true
takes (Arithmetic operator) (Two v w) = true
takes Length (One v) = true
takes Equal (Two v w) = true
takes Less (Two v w) = true
takes LessEqual (Two v w) = true
takes _ _ = false

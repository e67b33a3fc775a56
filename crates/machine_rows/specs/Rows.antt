-- What rows on a world in memory suppose, and what they read.
use Rattle.std.specs.Prelude.{◌≡◌, ◌+◌, ◌<◌, ◌^◌, ℕ, List, [], ◌++◌, Some, IsSome, length}
use Rattle.code_core.specs.Check.{extra_at}
use Rattle.code_core.specs.Prototype.{Prototype}
use Rattle.int_core.specs.Value.{Value}
use Rattle.machine_core.specs.World.{Place, place_of}
use Rattle.machine_core.specs.Text.{Arg, arg, Text}
use Rattle.machine_core.specs.FrameRows.{expand}
use Rattle.machine_core.specs.Moves.{run}
use Rattle.machine_sound.specs.Sound.{sizes, Valid, Sound}
use Rattle.table_core.specs.declared.value.Value.{Value as Kept}
use Rattle.lua_heap.specs.declared.world.World.{World as Memory}
use Rattle.lua_heap.specs.Cells.{CellsAreListed}
use Rattle.lua_heap.specs.Codes.{AreCodes}
use Rattle.lua_heap.specs.Plain.{plain}
use Rattle.lua_heap.specs.Reading.{value}
use Rattle.instruction_forms.specs.declared.form.Form.{Form}
use Rattle.instruction_forms.specs.declared.operand.Operand.{Operand}
use Rattle.instruction_forms.specs.Forms.{text_of, with_operand}
use Rattle.move_laws.specs.Memory.{InOrder, IsSafe, StandsAt}
use Rattle.machine_moves.specs.Code.{HasCode}

-- the world in memory is one that its own calls have made, and a function with checked code is on top
pub record HasFunction (W : Memory) : Type 0 where
  pub codes : AreCodes W.strings W.codes
  pub listed : CellsAreListed W
  pub frame : HasCode W

-- the frame on top is at this place, and an instruction of this form does not trap there, whatever the code
pub record MayDo (W : Memory) (pc : ℕ) (form : Form) : Type 0 where
  pub at : StandsAt W pc
  pub room : pc + 2 < 2 ^ 64
  pub order : InOrder W
  pub safe : (p : Prototype) → IsSafe (expand (text_of p pc form)) [] W

-- a word behind the instruction carries a number for it
pub record HasExtra (W : Memory) (pc : ℕ) : Type 0 where
  pub place : Place
  pub is : place_of (plain W 0) ≡ Some place
  pub there : IsSome (extra_at place.function.code pc)

-- and that is the number
pub record IsExtra (W : Memory) (pc n : ℕ) : Type 0 where
  pub place : Place
  pub is : place_of (plain W 0) ≡ Some place
  pub extra : extra_at place.function.code pc ≡ Some n

-- a value is read where a row goes on with it
pub record IsRead (W : Memory) (from : Operand) : Type 0 where
  pub more : Arg → Text
  pub env : List Value
  pub safe : IsSafe (expand (with_operand from more)) env W

-- what a row goes on with: the values that were read, and how the operand is named among them. In a sound world it is valid
pub record Reads (W : Memory) (from : Operand) (v : Kept) : Type 0 where
  pub values : List Value
  pub named : ℕ → Arg
  pub goes : (more : Arg → Text) (env : List Value) (fuel : ℕ)
      → run (expand (with_operand from more)) env (plain W fuel) ≡ run (expand (more (named (length env)))) (env ++ values) (plain W fuel)
  pub is : (env : List Value) → arg (env ++ values) (named (length env)) ≡ value W.strings v
  pub stays : (env more : List Value) → arg (env ++ values ++ more) (named (length env)) ≡ value W.strings v
  pub valid : (primitives : ℕ) → Sound primitives (plain W 0) → Valid (sizes primitives (plain W 0)) (value W.strings v)

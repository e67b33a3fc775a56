-- Returns of a value or of none.
use Rattle.std.specs.Prelude.{◌≡◌, ◌≤◌, ℕ, suc, false, List, [], ◌∷◌, length, map}
use Rattle.code_core.specs.Instruction.{a_of}
use Rattle.int_core.specs.Value.{Value, boolean, is_known, nil}
use Rattle.machine_core.specs.Text.{read_registers, see_pending}
use Rattle.machine_core.specs.Moves.{on_own}
use Rattle.table_core.specs.declared.value.Value.{Value as Kept}
use Rattle.instruction_forms.specs.declared.form.Form.{Form}
use Rattle.instruction_forms.specs.declared.form.Form.TheVariants.{Return, ReturnSome}
use Rattle.lua_heap.specs.declared.world.World.{World as Memory}
use Rattle.lua_heap.specs.Reading.{value}
use Rattle.move_laws.specs.Memory.{Makes}
use Rattle.running_frame.specs.declared.place.Here.{Here}
use Rattle.machine_step.specs.Places.{RunsForm}
use Rattle.lua_driver.specs.Here.{RunsHere}
use Rattle.lua_driver.specs.declared.returning.Returned.{Returned}
use Rattle.lua_driver.specs.declared.returning.Returned.TheVariants.{Nothing, One, More}

-- instructions that return the values of so many registers from one on: RETURN is told one more
pub data ReturnsFrom (from count : ℕ) : Form → Type 0 where
  without_number : ReturnsFrom from count (ReturnSome from count)
  by_number : (told : ℕ) → told ≡ suc count → ReturnsFrom from count (Return from told)

-- a frame that runs at this word returns so many values
pub record ReturnsFew (here : Here) (count : ℕ) : Type 0 where
  pub form : Form
  pub runs : RunsHere here form
  pub returns : ReturnsFrom (a_of here.word) count form

abbrev pub AreTold : List Kept → Returned → Type 0
AreTold values Nothing = values ≡ []
AreTold values (One v) = values ≡ v ∷ []
AreTold values More = Unit {0}

-- the frame on top runs at an instruction that returns these values, and none of its variables is to be closed
pub record Returns (W : Memory) (values : List Kept) : Type 0 where
  pub pc : ℕ
  pub from : ℕ
  pub count : ℕ
  pub form : Form
  pub runs : RunsForm W pc form
  pub returns : ReturnsFrom from count form
  pub none : (env : List Value) → Makes W W (on_own (see_pending 0)) env [] (is_known (boolean false))
  pub gives : (env : List Value) → Makes W W (on_own (read_registers from count)) env (map (value W.strings) values) (is_known nil)
  pub few : length values ≤ 1

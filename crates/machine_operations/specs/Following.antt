-- What becomes of the value of an operation, which a row names as its first one, or of none.
use Rattle.std.specs.Prelude.{◌≡◌, ℕ, pos, List, Some}
use Rattle.code_core.specs.declared.instruction.Instruction.{Instruction}
use Rattle.code_core.specs.Check.{in_front}
use Rattle.code_core.specs.Instruction.{a_of}
use Rattle.int_core.specs.Value.{Value}
use Rattle.machine_core.specs.World.{Place, place_of}
use Rattle.machine_core.specs.Text.{arg, read, go_by}
use Rattle.machine_core.specs.InstructionRows.{to_register}
use Rattle.machine_core.specs.FrameRows.{expand}
use Rattle.machine_core.specs.Moves.{go}
use Rattle.table_core.specs.declared.value.Value.{Value as Kept}
use Rattle.lua_heap.specs.declared.world.World.{World as Memory}
use Rattle.lua_heap.specs.Plain.{plain}
use Rattle.lua_heap.specs.Reading.{value}
use Rattle.instruction_forms.specs.declared.form.After.{After}
use Rattle.instruction_forms.specs.Forms.{follows}
use Rattle.move_laws.specs.Memory.{IsSafe, Leads}

pub record MayFollow (W : Memory) (pc : ℕ) (after : After) (v : Kept) : Type 0 where
  pub place : Place
  pub is : place_of (plain W 0) ≡ Some place
  pub env : List Value
  pub named : arg env (read 0) ≡ value W.strings v
  pub safe : IsSafe (expand (follows place.function.code pc after)) env W

pub record Follows (old new : Memory) (pc : ℕ) (after : After) (v : Kept) : Type 0 where
  pub leads : (place : Place) → place_of (plain old 0) ≡ Some place → (env : List Value) → arg env (read 0) ≡ value old.strings v
      → Leads (expand (follows place.function.code pc after)) env old new go

-- it goes to a register

pub record MayKeep (W : Memory) (to : ℕ) (v : Kept) : Type 0 where
  pub env : List Value
  pub named : arg env (read 0) ≡ value W.strings v
  pub safe : IsSafe (expand (to_register to (read 0))) env W

pub record Keeps (old new : Memory) (to : ℕ) (v : Kept) : Type 0 where
  pub leads : (env : List Value) → arg env (read 0) ≡ value old.strings v → Leads (expand (to_register to (read 0))) env old new go

pub record MayGo (W : Memory) (ahead : ℕ) : Type 0 where
  pub env : List Value
  pub safe : IsSafe (expand (go_by (pos ahead))) env W

-- an instruction stands in front of the place, and that is its register

pub record HasFront (W : Memory) (pc : ℕ) : Type 0 where
  pub place : Place
  pub is : place_of (plain W 0) ≡ Some place
  pub word : Instruction
  pub there : in_front place.function.code pc ≡ Some word

pub record IsFront (W : Memory) (pc register : ℕ) : Type 0 where
  pub place : Place
  pub is : place_of (plain W 0) ≡ Some place
  pub word : Instruction
  pub there : in_front place.function.code pc ≡ Some word
  pub register_is : register ≡ a_of word

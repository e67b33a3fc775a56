-- What becomes of an operation that is not asked of a handler.
use Rattle.std.specs.Prelude.{◌≡◌, ◌<◌, ◌+◌, ◌^◌, ℕ, List, Option, Some, drop}
use Rattle.int_core.specs.Value.{Value}
use Rattle.machine_core.specs.World.{Place, place_of}
use Rattle.machine_core.specs.Text.{Arg, arg, read}
use Rattle.machine_core.specs.FrameRows.{expand, prepares, raises}
use Rattle.machine_core.specs.Moves.{Ending, only}
use Rattle.table_core.specs.declared.value.Value.{Value as Kept}
use Rattle.lua_stack.specs.declared.frame.Wait.{Wait}
use Rattle.lua_stack.specs.declared.frame.Wait.TheVariants.{ForValue, ForTruth, Dropped}
use Rattle.lua_heap.specs.declared.world.World.{World as Memory}
use Rattle.lua_heap.specs.Errors.{HasText}
use Rattle.lua_heap.specs.Plain.{plain}
use Rattle.lua_heap.specs.Reading.{value}
use Rattle.instruction_forms.specs.declared.form.After.{After}
use Rattle.instruction_forms.specs.declared.form.After.TheVariants.{ToRegister, ToRegisterBefore, Next as NoValue, Tests}
use Rattle.instruction_forms.specs.Forms.{follows}
use Rattle.meta_ops.specs.declared.fault.Fault.{Fault}
use Rattle.meta_ops.specs.Outcome.{fault_text}
use Rattle.move_laws.specs.Memory.{InOrder, IsSafe, IsSound, Leads, StandsAt}
use Rattle.machine_errors.specs.Raising.{CanLeave}
use Rattle.machine_operations.specs.Copying.{CanCopy, moves_for}

-- for what a frame waits while a handler is called
abbrev pub wait_kept : After → Wait
wait_kept (ToRegister register) = ForValue
wait_kept ToRegisterBefore = ForValue
wait_kept NoValue = Dropped
wait_kept (Tests wanted) = ForTruth

-- the first operand and the value of the operation, as a row names them
pub record AreNamed (W : Memory) (env : List Value) (x : Arg) (slot : ℕ) (first v : Kept) : Type 0 where
  pub copied : arg env x ≡ value W.strings first
  pub found : arg (drop slot env) (read 0) ≡ value W.strings v

pub record MayEnd (W : Memory) (pc : ℕ) (also : Option ℕ) (first : Kept) (after : After) (v : Kept) : Type 0 where
  pub place : Place
  pub is : place_of (plain W 0) ≡ Some place
  pub env : List Value
  pub x : Arg
  pub slot : ℕ
  pub names : AreNamed W env x slot first v
  pub safe : IsSafe (prepares (moves_for also x) (only slot (expand (follows place.function.code pc after)))) env W

-- the frame may go on with the value of an operation, once the first operand is copied
pub record CanEnd (W : Memory) (pc : ℕ) (also : Option ℕ) (first : Kept) (after : After) (v : Kept) : Type 0 where
  pub order : InOrder W
  pub whole : CanLeave W
  pub at : StandsAt W pc
  pub room : pc + 2 < 2 ^ 64
  pub copy : CanCopy W also
  pub safe : MayEnd W pc also first after v

-- or be left with an error
pub record CanFail (W : Memory) (also : Option ℕ) (first : Kept) : Type 0 where
  pub sound : IsSound W
  pub whole : CanLeave W
  pub copy : CanCopy W also
  pub held : HasText W.strings first

pub record EndsSo (old new : Memory) (pc : ℕ) (also : Option ℕ) (first : Kept) (after : After) (v : Kept) (ending : Ending) : Type 0 where
  pub leads : (place : Place) → place_of (plain old 0) ≡ Some place → (env : List Value) (x : Arg) (slot : ℕ) → AreNamed old env x slot first v
      → Leads (prepares (moves_for also x) (only slot (expand (follows place.function.code pc after)))) env old new ending

pub record FailsSo (old new : Memory) (also : Option ℕ) (first : Kept) (cause : Fault) (ending : Ending) : Type 0 where
  pub leads : (env : List Value) (x : Arg) → arg env x ≡ value old.strings first → Leads (prepares (moves_for also x) (raises (fault_text old.strings cause))) env old new ending

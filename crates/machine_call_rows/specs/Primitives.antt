-- Calls of primitives whose arguments do not move yet.
use Rattle.std.specs.Prelude.{◌≡◌, ◌≤◌, ◌+◌, ◌-◌, ◌∷◌, ℕ, List, [], length}
use Rattle.code_core.specs.Prototype.{Prototype}
use Rattle.machine_core.specs.FrameRows.{expand}
use Rattle.machine_core.specs.Moves.{calls_primitive, on_own}
use Rattle.machine_core.specs.Text.{read_register}
use Rattle.int_core.specs.Value.{Value, shape}
use Rattle.instruction_forms.specs.Forms.{text_of}
use Rattle.instruction_forms.specs.declared.form.Form.TheVariants.{TailCall}
use Rattle.table_core.specs.declared.value.Value.{Value as Kept}
use Rattle.table_core.specs.declared.value.Value.TheVariants.{Prim}
use Rattle.lua_stack.specs.declared.frame.Wait.{Wait as KeptWait}
use Rattle.lua_heap.specs.declared.world.World.{World as Memory}
use Rattle.lua_heap.specs.Reading.{value}
use Rattle.move_laws.specs.Memory.{HasStack, Makes, Steps}
use Rattle.machine_calls.specs.declared.preparing.Prepared.TheVariants.{GivenUp}
use Rattle.machine_calls.specs.Preparing.{ReadyFor}
use Rattle.machine_call_rows.specs.declared.calls.CallAt.{CallAt}
use Rattle.machine_call_rows.specs.Rows.{CallSteps, IsWaitOfCall, ReadsValues}

-- a primitive is called that is given these arguments, at most six, and the budget is not spent
pub record MayCallPrimitive (W : Memory) (fuel function count number : ℕ) (arguments : List Kept) : Type 0 where
  pub called : Kept
  pub is : called ≡ Prim number
  pub register : (env : List Value) → Makes W W (on_own (read_register function)) env (value W.strings called ∷ []) (shape (value W.strings called))
  pub values : ReadsValues W (function + 1) count arguments
  pub few : length arguments ≤ 6
  pub left : fuel ≡ 0 → ⊥

-- the frame waits, and a unit of the budget is paid; with the arguments on their way it is the world to which the row of the call leads
pub record CallsPrimitive (old new : Memory) (fuel : ℕ) (at : CallAt) (number : ℕ) (arguments : List Kept) : Type 0 where
  pub wait : KeptWait
  pub waits : IsWaitOfCall at.iterates wait
  pub ready : ReadyFor old new wait (GivenUp at.keeps)
  pub few : length arguments ≤ 6
  pub steps : (sent : Memory) → sent ≡ record new { moving = sent.moving } → sent.moving.items ≡ arguments → CallSteps at old fuel sent (fuel - 1) (calls_primitive number)

-- the same in place of the frame on top, which is gone
pub record TailCallsPrimitive (old new : Memory) (fuel function count number : ℕ) (arguments : List Kept) : Type 0 where
  pub few : length arguments ≤ 6
  pub running : HasStack new
  pub steps : (sent : Memory) → sent ≡ record new { moving = sent.moving } → sent.moving.items ≡ arguments
      → (p : Prototype) (pc : ℕ) → Steps (expand (text_of p pc (TailCall function count))) [] old fuel sent (fuel - 1) (calls_primitive number)

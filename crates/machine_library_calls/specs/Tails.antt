-- Calls in place of a Lua frame.
use Rattle.std.specs.Prelude.{◌≡◌, ℕ, [], length}
use Rattle.library_rows.specs.Library.{all_entries}
use Rattle.machine_core.specs.Moves.{go}
use Rattle.lua_heap.specs.declared.world.World.{World as Memory}
use Rattle.instruction_forms.specs.declared.form.Form.TheVariants.{TailCall}
use Rattle.step_laws.specs.Steps.{IsReady}
use Rattle.machine_step.specs.Places.{RunsForm}

-- the Lua frame on top runs at such a call
pub record RunsTail (W : Memory) (function count : ℕ) : Type 0 where
  pub pc : ℕ
  pub runs : RunsForm W pc (TailCall function count)

-- and no value moves
pub record IsAtTailCall (W : Memory) (function count : ℕ) : Type 0 where
  pub ready : IsReady (length all_entries) go W
  pub tail : RunsTail W function count
  pub still : W.moving.items ≡ []

-- What the loop over one frame's instructions does not change, what one of them is, and where a CLOSE is nothing but a place that is passed.
use Rattle.std.specs.Prelude.{◌≡◌, ◌<◌, ◌≤◌, ◌+◌, ℕ, List, length, Option, Some, None, slice_get}
use Rattle.code_core.specs.declared.instruction.Instruction.{Instruction}
use Rattle.code_core.specs.Instruction.{a_of}
use Rattle.lua_heap.specs.declared.world.Cell.{Cell}
use Rattle.lua_heap.specs.declared.world.Cell.TheVariants.{Open}
use Rattle.machine_core.specs.MachineStep.{step}
use Rattle.machine_core.specs.Moves.{Row, ends, go}
use Rattle.machine_core.specs.Text.{last_pending}
use Rattle.machine_arms_tables.specs.Frame.{Code, Moment, StepsOn, world_at}
use Rattle.machine_view.specs.View.{Around}
use Rattle.table_core.specs.declared.value.CoroId.{CoroId}

pub record Running : Type 0 where
  pub around : Around
  pub string_metatable : Option ℕ

-- one step of the machine leads from one moment to another, whatever the rows of the primitives are
pub record IsStep (g : Running) (m n : Moment) : Type 0 where
  pub is : (rows : ℕ → Row) → step rows go (world_at g.around g.string_metatable m) ≡ ends go (world_at g.around g.string_metatable n)

-- so it does, and the world is sound after it
pub record StepsOnce (g : Running) (k : Code) (m n : Moment) : Type 0 where
  pub steps : StepsOn g.around g.string_metatable k m n
  pub one : IsStep g m n

-- no cell is open at this register of the frame that runs or above, and none of its variables there is still to be closed
pub record ClosesNothing (g : Around) (cells : List Cell) (register : ℕ) : Type 0 where
  pub below : (id : ℕ) (co : CoroId) (at : ℕ) → slice_get cells id ≡ Some (Open co (length g.context.below) at) → co.0 ≡ g.context.coroutine → at < register
  pub pending : last_pending register g.pending ≡ None

-- a CLOSE at this place, of what is known to be at or above such a register, goes on behind itself
pub record PassesClose (w : Instruction) (pc : ℕ) (closed_from : Option ℕ) (to : ℕ) : Type 0 where
  pub register : ℕ
  pub known : closed_from ≡ Some register
  pub at_least : register ≤ a_of w
  pub next : to ≡ pc + 1

-- What is told of the value of a variable in a frame below.
use Rattle.std.specs.Prelude.{◌≡◌, ℕ, List, None, length}
use Rattle.table_core.specs.declared.value.CellId.{CellId}
use Rattle.lua_stack.specs.declared.frame.OpenCell.{OpenCell}
use Rattle.lua_stack.specs.Frames.{KeptStack, RegisterIs}
use Rattle.lua_heap.specs.declared.world.Cell.{Cell}
use Rattle.machine_loop.specs.declared.memo.Known.{Known}
use Rattle.machine_loop.specs.declared.memo.Memo.{Memo}
use Rattle.running_frame.specs.Storing.{StandsBelow}

-- the variable of an upvalue stands in a register of this coroutine, in a frame below the last one, and has this value
pub record KnowsBelow (co : ℕ) (upvalues : List CellId) (s : KeptStack) (cells : List Cell) (known : Known) : Type 0 where
  pub variable : OpenCell
  pub stands : StandsBelow co upvalues (length s.frames) cells known.upvalue variable
  pub has : RegisterIs s variable.frame variable.register known.value

-- no value is known
pub record KnowsNothing (memo : Memo) : Type 0 where
  pub first : memo.first ≡ None
  pub second : memo.second ≡ None
  pub third : memo.third ≡ None

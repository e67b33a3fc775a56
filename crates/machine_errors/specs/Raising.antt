-- Errors that are raised in memory.
use Rattle.std.specs.Prelude.{◌≡◌, ◌≤◌, ℕ, List, [], ◌∷◌, length, Some}
use Rattle.code_core.specs.Check.{IsChecked}
use Rattle.int_core.specs.Value.{Value}
use Rattle.machine_core.specs.World.{leaving, LuaFrame, lua, Place, place_of, put_top}
use Rattle.machine_core.specs.Text.{blanked, is_pending}
use Rattle.machine_core.specs.Moves.{blamed}
use Rattle.table_core.specs.declared.value.Value.{Value as Kept}
use Rattle.lua_stack.specs.Frames.{with_opened, with_registers, with_wait}
use Rattle.lua_heap.specs.declared.world.World.{World as Memory}
use Rattle.lua_heap.specs.Plain.{plain}
use Rattle.lua_heap.specs.Reading.{value}

-- one value that moves: a text behind the place of the function on top of the one world, as the other one reads it
pub record IsBlamed (old new : Memory) (text : List ℕ) (error : List Kept) : Type 0 where
  pub thrown : Kept
  pub one : error ≡ thrown ∷ []
  pub says : (fuel : ℕ) → value new.strings thrown ≡ blamed (plain old fuel) text

-- the Lua frame on top runs checked code and has the registers of it, as in a sound world
pub record CanLeave (W : Memory) : Type 0 where
  pub place : Place
  pub is : place_of (plain W 0) ≡ Some place
  pub checked : IsChecked place.function.code
  pub room : place.function.code.own.stack ≤ length place.top.own.registers

-- a frame that is to be left with an error
abbrev pub left_with : (stack : ℕ) → (error : Value) → LuaFrame → LuaFrame
left_with stack error t = with_wait (leaving error) (with_opened 0 (with_registers (blanked (is_pending t.own.pending) 0 stack t.own.registers) t))

-- the Lua frame on top becomes so, whatever the budget is
pub record LeavesWith (old new : Memory) (stack : ℕ) (error : Value) : Type 0 where
  pub is : (at : Place) → place_of (plain old 0) ≡ Some at → (fuel : ℕ) → put_top (plain old fuel) at.stack (lua (left_with stack error at.top)) ≡ plain new fuel

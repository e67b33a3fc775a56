-- What is on top of the running stack.
use Rattle.std.specs.Prelude.{◌≡◌, Bool, true, false}
use Rattle.int_core.specs.Value.{Value}
use Rattle.machine_core.specs.World.{Frame}
use Rattle.table_core.specs.declared.value.CoroId.{CoroId}
use Rattle.table_core.specs.declared.value.Value.{Value as Kept}
use Rattle.lua_stack.specs.declared.frame.Top.{Top}
use Rattle.lua_stack.specs.declared.frame.Top.TheVariants.{Missing, Lua, Pcall, Xpcall, Handler, Closing}
use Rattle.lua_stack.specs.Frames.{KeptFrame, kept_pcall, kept_xpcall, kept_handler, KeptStack, IsTop, frame_of}
use Rattle.lua_heap.specs.declared.world.World.{World as Memory}
use Rattle.machine_moves.specs.declared.tops.Over.{Over}
use Rattle.machine_moves.specs.declared.tops.Over.TheVariants.{Pcall as OverPcall, Xpcall as OverXpcall, Handler as OverHandler}
use Rattle.move_laws.specs.Memory.{Runs}
-- how it looks to a row
pub use Rattle.lua_stack.specs.Frames.{shape_of}

pub record TopIs (W : Memory) (top : Top) : Type 0 where
  pub co : CoroId
  pub stack : KeptStack
  pub runs : Runs W co stack
  pub is : IsTop stack top

abbrev pub is_other : Top → Bool
is_other Missing = false
is_other Lua = false
is_other Pcall = true
is_other (Xpcall h) = true
is_other Handler = true
is_other Closing = true

-- a frame that is no Lua function's
pub record HasOther (W : Memory) : Type 0 where
  pub top : Top
  pub seen : TopIs W top
  pub other : is_other top ≡ true

abbrev pub kept_over : Over → KeptFrame
kept_over OverPcall = kept_pcall
kept_over (OverXpcall h) = kept_xpcall h
kept_over OverHandler = kept_handler

abbrev pub frame_pushed : (Kept → Value) → Over → Frame
frame_pushed value over = frame_of value (kept_over over)

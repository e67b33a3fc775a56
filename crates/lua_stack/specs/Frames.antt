-- What contracts see of a coroutine's stack: its frames from the bottom, with the values that are kept, and its open cells in the order of
-- their frames and registers. `frames` reads them as the machine's frames, by what the kept values stand for.
use Rattle.std.specs.Prelude.{◌≡◌, ◌+◌, ◌-◌, ◌<◌, ◌≤◌, ℕ, suc, Bool, cond, ◌&&◌, nat_eq, nat_lt, length, List, [], ◌∷◌, ◌++◌, map, filter, flat_map, Option, Some, None, slice_get, slice_set}
use Rattle.int_core.specs.Value.{Value, known, nil, bind, last, range}
use Rattle.code_core.specs.Prototype.{Prototype}
use Rattle.machine_core.specs.Text.{blanked}
use Rattle.machine_core.specs.Moves.{new_frame, pending_values, TopShape, lua_top, pcall_top, xpcall_top, handler_top, closing_top, no_top, top_shape, handler_value, runs_main}
use Rattle.machine_core.specs.World.{Wait, running, for_call, for_iterator, for_value, for_truth, dropped, for_concat, for_close, returning, leaving, LuaFrame, Frame, lua, pcall, xpcall, handler, closing, lua_frame, write_in_frame, World}
use Rattle.table_core.specs.declared.value.Value.{Value as Kept}
use Rattle.table_core.specs.declared.value.Value.TheVariants.{Nil}
use Rattle.table_core.specs.declared.value.FuncId.{FuncId}
use Rattle.table_core.specs.declared.value.CellId.{CellId}
use Rattle.lua_stack.specs.declared.frame.Wait.{Wait as KeptWait}
use Rattle.lua_stack.specs.declared.frame.Wait.TheVariants.{Running, ForCall, ForIterator, ForValue, ForTruth, Dropped, ForConcat, ForClose, Returning, Leaving}
use Rattle.lua_stack.specs.declared.frame.OpenCell.{OpenCell}
use Rattle.lua_stack.specs.declared.frame.LuaState.{LuaState}
use Rattle.lua_stack.specs.declared.frame.Shape.{Shape}
use Rattle.lua_stack.specs.declared.frame.Top.{Top}
use Rattle.lua_stack.specs.declared.frame.Top.TheVariants.{Missing as TopMissing, Lua as TopLua, Pcall as TopPcall, Xpcall as TopXpcall, Handler as TopHandler, Closing as TopClosing}

pub record KeptLua : Type 0 where
  pub function : FuncId
  pub wait : KeptWait
  pub pc : ℕ
  pub registers : List Kept
  pub varargs : List Kept
  pub pending : List ℕ
  pub opened : ℕ

pub data KeptFrame : Type 0 where
  kept_lua : KeptLua → KeptFrame
  kept_pcall : KeptFrame
  kept_xpcall : (message_handler : Kept) → KeptFrame
  kept_handler : KeptFrame
  kept_closing : (error : Option Kept) → (left : List Kept) → KeptFrame

pub record KeptStack : Type 0 where
  pub frames : List KeptFrame
  pub open_cells : List OpenCell

module _ (value : Kept → Value) where
  abbrev pub wait_of : KeptWait → Wait Value
  wait_of Running = running
  wait_of ForCall = for_call
  wait_of ForIterator = for_iterator
  wait_of ForValue = for_value
  wait_of ForTruth = for_truth
  wait_of Dropped = dropped
  wait_of (ForConcat left) = for_concat left
  wait_of ForClose = for_close
  wait_of (Returning count) = returning count
  wait_of (Leaving error) = leaving (value error)

  abbrev pub lua_of : KeptLua → LuaFrame
  lua_of t = record {
    function = t.function.0;
    wait = wait_of t.wait;
    own = record { pc = t.pc; registers = map value t.registers; varargs = map value t.varargs; pending = t.pending; opened = t.opened };
  }

  abbrev pub error_of : Option Kept → Option Value
  error_of None = None
  error_of (Some e) = Some (value e)

  abbrev pub frame_of : KeptFrame → Frame
  frame_of (kept_lua t) = lua (lua_of t)
  frame_of kept_pcall = pcall
  frame_of (kept_xpcall h) = xpcall (value h)
  frame_of kept_handler = handler
  frame_of (kept_closing error left) = closing (error_of error) (map value left)

  -- the machine's frames, from the bottom
  abbrev pub frames : KeptStack → List Frame
  frames s = map frame_of s.frames

-- the frame on top is a Lua frame, however the values are read
pub record HasLuaTop (s : KeptStack) : Type 0 where
  pub value : Kept → Value
  pub below : List Frame
  pub top : LuaFrame
  pub is : frames value s ≡ below ++ lua top ∷ []

-- and it has at least so many registers
pub record HasRegisters (s : KeptStack) (count : ℕ) : Type 0 where
  pub value : Kept → Value
  pub below : List Frame
  pub top : LuaFrame
  pub is : frames value s ≡ below ++ lua top ∷ []
  pub room : count ≤ length top.own.registers

-- The frame on top is a Lua frame and becomes what a change makes of it, by each reading of the values; all else stays
pub record TopBecomes (old new : KeptStack) (change : (Kept → Value) → LuaFrame → LuaFrame) : Type 0 where
  pub top : (f : Kept → Value) → f Nil ≡ known nil → (below : List Frame) (t : LuaFrame) → frames f old ≡ below ++ lua t ∷ [] → frames f new ≡ below ++ lua (change f t) ∷ []
  pub cells : new.open_cells ≡ old.open_cells

abbrev pub with_pc : ℕ → LuaFrame → LuaFrame
with_pc pc t = record t { own = record t.own { pc = pc } }

abbrev pub with_wait : Wait Value → LuaFrame → LuaFrame
with_wait wait t = record t { wait = wait }

abbrev pub with_opened : ℕ → LuaFrame → LuaFrame
with_opened opened t = record t { own = record t.own { opened = opened } }

abbrev pub with_registers : List Value → LuaFrame → LuaFrame
with_registers registers t = record t { own = record t.own { registers = registers } }

abbrev pub with_pending : List ℕ → LuaFrame → LuaFrame
with_pending pending t = record t { own = record t.own { pending = pending } }

-- what holds of the frame on top, where it is a Lua frame, by each reading of the values
abbrev pub OnTop : KeptStack → ((Kept → Value) → LuaFrame → Type 0) → Type 0
OnTop s P = (f : Kept → Value) (below : List Frame) (t : LuaFrame) → frames f s ≡ below ++ lua t ∷ [] → P f t

-- what the frame on top is
abbrev pub top_is : Option KeptFrame → Top
top_is None = TopMissing
top_is (Some (kept_lua t)) = TopLua
top_is (Some kept_pcall) = TopPcall
top_is (Some (kept_xpcall h)) = TopXpcall h
top_is (Some kept_handler) = TopHandler
top_is (Some (kept_closing error left)) = TopClosing

abbrev pub IsTop : KeptStack → Top → Type 0
IsTop s top = top ≡ top_is (last s.frames)

-- where a frame is in its code, if it is a Lua frame
abbrev pub kept_place : Option KeptFrame → Option (FuncId × ℕ)
kept_place None = None
kept_place (Some (kept_lua t)) = Some (t.function, t.pc)
kept_place (Some kept_pcall) = None
kept_place (Some (kept_xpcall h)) = None
kept_place (Some kept_handler) = None
kept_place (Some (kept_closing error left)) = None

-- a frame without its values, if it is a Lua frame
abbrev pub kept_state : Option KeptFrame → Option LuaState
kept_state None = None
kept_state (Some (kept_lua t)) = Some (record { function = t.function; wait = t.wait; pc = t.pc; size = length t.registers })
kept_state (Some kept_pcall) = None
kept_state (Some (kept_xpcall h)) = None
kept_state (Some kept_handler) = None
kept_state (Some (kept_closing error left)) = None

-- calls

-- what is told of a function's code is so
pub record IsShapeOf (p : Prototype) (shape : Shape) : Type 0 where
  pub params : p.own.params ≡ shape.params
  pub is_vararg : p.own.vararg ≡ shape.vararg
  pub size : p.own.stack ≡ shape.stack

-- a function's frame is on top of those that were there
pub record Enters (old new : KeptStack) (function : FuncId) (shape : Shape) (arguments : List Kept) : Type 0 where
  pub entered : (f : Kept → Value) → f Nil ≡ known nil → (p : Prototype) → IsShapeOf p shape → frames f new ≡ frames f old ++ new_frame function.0 p (map f arguments) ∷ []
  pub cells : new.open_cells ≡ old.open_cells

abbrev pub cut_at : ℕ → ℕ → LuaFrame → LuaFrame
cut_at register stack t = with_opened 0 (with_registers (blanked (λ i. nat_lt i register) 0 stack t.own.registers) t)

-- what a frame gives up for a call: its registers from one on, and what is pending among them
abbrev pub given_up : ℕ → ℕ → LuaFrame → LuaFrame
given_up register stack t = cut_at register stack (with_pending (filter (λ q. nat_lt q register) t.own.pending) t)

-- The Lua frame that was on top waits, without what it gave up from the register of the function that it calls; that function's frame is on
-- top, and its arguments are the registers behind
pub record Calls (old new : KeptStack) (register given : ℕ) (wait : KeptWait) (stack : ℕ) (function : FuncId) (shape : Shape) : Type 0 where
  pub called : (f : Kept → Value) → f Nil ≡ known nil → (p : Prototype) → IsShapeOf p shape → (below : List Frame) (t : LuaFrame) → frames f old ≡ below ++ lua t ∷ []
      → frames f new ≡ below ++ lua (with_wait (wait_of f wait) (given_up register stack t)) ∷ new_frame function.0 p (range (suc register) given t.own.registers) ∷ []
  pub cells : new.open_cells ≡ old.open_cells

-- so it is where the frame keeps the registers of its arguments, since it gives up those from another register on alone
pub record CallsBehind (old new : KeptStack) (register given keeps : ℕ) (wait : KeptWait) (stack : ℕ) (function : FuncId) (shape : Shape) : Type 0 where
  pub called : (f : Kept → Value) → f Nil ≡ known nil → (p : Prototype) → IsShapeOf p shape → (below : List Frame) (t : LuaFrame) → frames f old ≡ below ++ lua t ∷ []
      → frames f new ≡ below ++ lua (with_wait (wait_of f wait) (given_up keeps stack t)) ∷ new_frame function.0 p (range (suc register) given t.own.registers) ∷ []
  pub cells : new.open_cells ≡ old.open_cells

-- a function's frame is in place of the Lua frame that was on top, whose registers behind one are its arguments
pub record Replaces (old new : KeptStack) (register given : ℕ) (function : FuncId) (shape : Shape) : Type 0 where
  pub replaced : (f : Kept → Value) → f Nil ≡ known nil → (p : Prototype) → IsShapeOf p shape → (below : List Frame) (t : LuaFrame) → frames f old ≡ below ++ lua t ∷ []
      → frames f new ≡ below ++ new_frame function.0 p (range (suc register) given t.own.registers) ∷ []
  pub cells : new.open_cells ≡ old.open_cells

-- open cells

-- a cell stands in front of a register of a frame
pub record IsBelow (frame register : ℕ) (c : OpenCell) : Type 0 where
  pub frame_at_most : c.frame ≤ frame
  pub register_less : frame ≤ c.frame → c.register < register

abbrev pub AllBelow : (frame register : ℕ) → List OpenCell → Type 0
AllBelow frame register [] = Unit {0}
AllBelow frame register (c ∷ cs) = IsBelow frame register c × AllBelow frame register cs

-- each stands behind a register of a frame
abbrev pub AllAbove : (frame register : ℕ) → List OpenCell → Type 0
AllAbove frame register [] = Unit {0}
AllAbove frame register (c ∷ cs) = (frame ≤ c.frame) × (c.frame ≤ frame → register < c.register) × AllAbove frame register cs

-- the cell that is open at a register of a frame
abbrev pub cell_at : (frame register : ℕ) → List OpenCell → Option CellId
cell_at frame register [] = None
cell_at frame register (c ∷ cs) = cond (nat_eq c.frame frame && nat_eq c.register register) (Some c.cell) (cell_at frame register cs)

abbrev pub opened_at : CellId → (frame register : ℕ) → OpenCell
opened_at cell frame register = record { cell = cell; frame = frame; register = register }

-- the number of the frame on top
abbrev pub top_number : KeptStack → ℕ
top_number s = length s.frames - 1

pub record HasOpen (s : KeptStack) (frame register : ℕ) : Type 0 where
  pub cell : CellId
  pub is : cell_at frame register s.open_cells ≡ Some cell

-- the frame on top has no open cell at a register or above
pub record NoneFrom (s : KeptStack) (register : ℕ) : Type 0 where
  pub below : AllBelow (top_number s) register s.open_cells

-- a cell is put in its place among the others
pub record Adds (old new : List OpenCell) (c : OpenCell) : Type 0 where
  pub before : List OpenCell
  pub after : List OpenCell
  pub was : old ≡ before ++ after
  pub is : new ≡ before ++ c ∷ after
  pub below : AllBelow c.frame c.register before
  pub above : AllAbove c.frame c.register after

-- the last cell is one of the frame on top, at a register or above, and it is gone
pub record TakesLast (old new : KeptStack) (register : ℕ) (c : OpenCell) : Type 0 where
  pub cells : old.open_cells ≡ new.open_cells ++ c ∷ []
  pub frame : c.frame ≡ top_number old
  pub register_at_least : register ≤ c.register
  pub room : HasRegisters old (c.register + 1)

-- the register of a frame
abbrev pub register_in : (frame register : ℕ) → List Frame → Option Value
register_in frame register fs = bind (bind (slice_get fs frame) lua_frame) (λ t. slice_get t.own.registers register)

-- what stands in it, by each reading of the values
pub record RegisterIs (s : KeptStack) (frame register : ℕ) (v : Kept) : Type 0 where
  pub reads : (f : Kept → Value) → register_in frame register (frames f s) ≡ Some (f v)

-- it is written, and all else stays
pub record RegisterBecomes (old new : KeptStack) (frame register : ℕ) (v : Kept) : Type 0 where
  pub writes : (f : Kept → Value) (g : Frame) → slice_get (frames f old) frame ≡ Some g → frames f new ≡ slice_set (frames f old) frame (write_in_frame register (f v) g)
  pub cells : new.open_cells ≡ old.open_cells

-- frames of `coroutine.close`

-- one is on top
pub record HasClosingTop (s : KeptStack) : Type 0 where
  pub below : List KeptFrame
  pub error : Option Kept
  pub left : List Kept
  pub is : s.frames ≡ below ++ kept_closing error left ∷ []

-- what holds of it
abbrev pub OnClosing : KeptStack → (List KeptFrame → Option Kept → List Kept → Type 0) → Type 0
OnClosing s P = (below : List KeptFrame) (error : Option Kept) (left : List Kept) → s.frames ≡ below ++ kept_closing error left ∷ [] → P below error left

-- the first frame that is no Lua frame
abbrev pub kept_catcher : List KeptFrame → Option KeptFrame
kept_catcher [] = None
kept_catcher (kept_lua t ∷ fs) = kept_catcher fs
kept_catcher (kept_pcall ∷ fs) = Some kept_pcall
kept_catcher (kept_xpcall h ∷ fs) = Some (kept_xpcall h)
kept_catcher (kept_handler ∷ fs) = Some kept_handler
kept_catcher (kept_closing error left ∷ fs) = Some (kept_closing error left)

-- the values of pending registers, frame by frame from the bottom
pub record ArePending (s : KeptStack) (values : List Kept) : Type 0 where
  pub read : (f : Kept → Value) → f Nil ≡ known nil → map f values ≡ flat_map pending_values (frames f s)

-- what the machine is told of a frame on top, and of one that catches an error

abbrev pub shape_of : (in_main : Bool) → Top → TopShape
shape_of in_main TopMissing = no_top in_main
shape_of in_main TopLua = lua_top
shape_of in_main TopPcall = pcall_top
shape_of in_main (TopXpcall h) = xpcall_top
shape_of in_main TopHandler = handler_top
shape_of in_main TopClosing = closing_top

abbrev pub handlers_of : (Kept → Value) → Top → List Value
handlers_of f TopMissing = []
handlers_of f TopLua = []
handlers_of f TopPcall = []
handlers_of f (TopXpcall h) = f h ∷ []
handlers_of f TopHandler = []
handlers_of f TopClosing = []

pub record Tells (top : Top) (frame : (Kept → Value) → Option Frame) : Type 0 where
  pub shape : (f : Kept → Value) (W : World) → top_shape W (frame f) ≡ shape_of (runs_main W) top
  pub handlers : (f : Kept → Value) → handler_value (frame f) ≡ handlers_of f top

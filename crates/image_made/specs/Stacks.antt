-- Stacks that are made, and the cells that are open in them.
use Rattle.std.specs.Prelude.{ℕ, ◌≡◌, ◌≤◌, ◌<◌, List, [], ◌∷◌, ◌++◌, Option, Some, None, map, length, slice_get}
use Rattle.std.specs.Option.{option_map}
use Rattle.image_core.specs.Image.{FrameItem, Record}
use Rattle.image_core.specs.Loading.{Target, frame_made, coroutine_made}
use Rattle.int_core.specs.Value.{Value, nil, known}
use Rattle.machine_core.specs.World.{LuaFrame, Frame, lua, running}
use Rattle.table_core.specs.declared.value.Value.{Value as Kept}
use Rattle.table_core.specs.declared.value.Value.TheVariants.{Nil}
use Rattle.table_core.specs.declared.value.FuncId.{FuncId}
use Rattle.table_core.specs.declared.value.CellId.{CellId}
use Rattle.table_core.specs.declared.value.CoroId.{CoroId}
use Rattle.lua_stack.specs.declared.frame.OpenCell.{OpenCell}
use Rattle.lua_stack.specs.Frames.{KeptStack, Adds, HasRegisters, cell_at, frames, opened_at, top_number}
use Rattle.lua_heap.specs.declared.world.Coro.{Coro}
use Rattle.lua_heap.specs.Cells.{IsOnce, open_cells_in}
use Rattle.lua_heap.specs.Plain.{coroutine}
use Rattle.lua_heap.specs.Reading.{value}
use Rattle.image_made.specs.declared.stack.Opening.{Opening}
use Rattle.image_made.specs.declared.making.Maker.{Maker}
use Rattle.image_made.specs.Making.{IsMaker}

-- a Lua function's frame that has begun
abbrev pub begun : FuncId → (registers varargs : List Kept) → (Kept → Value) → LuaFrame
begun function registers varargs f = record {
  function = function.0;
  wait = running;
  own = record { pc = 0; registers = map f registers; varargs = map f varargs; pending = []; opened = 0 };
}

-- a Lua function's frame is put on top
pub record Puts (old new : KeptStack) (make : (Kept → Value) → LuaFrame) : Type 0 where
  pub frames : (f : Kept → Value) → f Nil ≡ known nil → frames f new ≡ frames f old ++ lua (make f) ∷ []
  pub cells : new.open_cells ≡ old.open_cells

-- as values are read that are all nil
abbrev pub nils : Kept → Value
nils v = known nil

-- the frame on top is a Lua frame with so many registers
pub record HasFrame (s : KeptStack) (size : ℕ) : Type 0 where
  pub below : List Frame
  pub top : LuaFrame
  pub is : frames nils s ≡ below ++ lua top ∷ []
  pub room : size ≤ length top.own.registers

-- the frame on top has so many registers, where it has any
pub record HasRoom (s : KeptStack) (size : ℕ) : Type 0 where
  pub room : 0 < size → HasRegisters s size

-- a frame is put on top, which has so many registers
pub record Pushes (maker : Maker) (texts : List (List ℕ)) (f : FrameItem) (old new : KeptStack) (size : ℕ) : Type 0 where
  pub frames : (T : Target) (rs : List Record) → IsMaker T rs maker → frames (value texts) new ≡ frames (value texts) old ++ frame_made T rs f ∷ []
  pub cells : new.open_cells ≡ old.open_cells
  pub room : HasRoom new size
  pub there : 0 < length new.frames

-- a cell is opened at a register of the frame on top, which had none
pub record Opens (old new : KeptStack) (o : Opening) : Type 0 where
  pub frames : new.frames ≡ old.frames
  pub free : cell_at (top_number old) o.register old.open_cells ≡ None
  pub adds : Adds old.open_cells new.open_cells (opened_at o.cell (top_number old) o.register)

-- a stack of coroutine `own` lists the cells that are opened at places `from` up to `to`, and no other
pub record Lists (own : CoroId) (openings : List Opening) (from to : ℕ) (cells : List OpenCell) : Type 0 where
  pub order : from ≤ to
  pub each : (i : ℕ) (o : Opening) → from ≤ i → i < to → slice_get openings i ≡ Some o → (o.coro ≡ own) × (cell_at o.frame o.register cells ≡ Some o.cell)
  pub only : (frame register : ℕ) (cell : CellId) → cell_at frame register cells ≡ Some cell
      → (i : ℕ) × (slice_get openings i ≡ Some (record { coro = own; frame = frame; register = register; cell = cell }))
  pub once : IsOnce cells

pub record OpensMore (own : CoroId) (openings : List Opening) (from to : ℕ) (old new : KeptStack) : Type 0 where
  pub frames : new.frames ≡ old.frames
  pub lists : (first : ℕ) → Lists own openings first from old.open_cells → Lists own openings first to new.open_cells

-- a stack with these frames
pub record MakesStack (maker : Maker) (texts : List (List ℕ)) (own : CoroId) (openings : List Opening) (from to : ℕ) (fs : List FrameItem) (s : KeptStack) : Type 0 where
  pub frames : (T : Target) (rs : List Record) → IsMaker T rs maker → frames (value texts) s ≡ map (frame_made T rs) fs
  pub lists : Lists own openings from to s.open_cells

-- a coroutine's list of open cells, where it has a stack
abbrev pub ListsIn : Option (List OpenCell) → CoroId → List Opening → (from to : ℕ) → Type 0
ListsIn None own openings from to = to ≡ from
ListsIn (Some cells) own openings from to = Lists own openings from to cells

abbrev pub ListsOf : Option Coro → CoroId → List Opening → (from to : ℕ) → Type 0
ListsOf None own openings from to = to ≡ from
ListsOf (Some c) own openings from to = ListsIn (open_cells_in c) own openings from to

-- the coroutine of a record, where it is one
pub record MakesCoroutine (maker : Maker) (texts : List (List ℕ)) (own : CoroId) (openings : List Opening) (from to : ℕ) (r : Record) (c : Option Coro) : Type 0 where
  pub reads : (T : Target) (rs : List Record) → IsMaker T rs maker → option_map (coroutine texts) c ≡ coroutine_made T rs r
  pub lists : ListsOf c own openings from to

-- Worlds in which no value that a script reaches is the environment of the prelude.
use Rattle.std.specs.Prelude.{◌≡◌, ◌≢◌, ◌≤◌, ℕ, false, List, length, Option, Some, None, slice_get}
use Rattle.int_core.specs.Value.{Value, known, object, a_table, a_function, a_coroutine, nth, bind}
use Rattle.int_core.specs.Heap.{Table, Heap}
use Rattle.machine_core.specs.World.{Function, Cell, closed, open_at, Wait, leaving, LuaFrame, Frame, lua, pcall, xpcall, handler, closing, Coroutine, fresh, suspended, in_progress, normal, dead, failed, World, frames_of, lua_frame}
use Rattle.machine_sound.specs.Sound.{Each, OptionOk}
use Rattle.prelude_stays.specs.Guards.{Guard, IsGuarded}

-- the environment: its table by number, what it was made as, the number of the cell that the prelude's functions share, and how many functions these are
pub record Home : Type 0 where
  pub table : ℕ
  pub made : Table
  pub cell : ℕ
  pub functions : ℕ

-- a value that is not the table of this number
abbrev pub Apart : ℕ → Value → Type 0
Apart e (known p) = Unit {0}
Apart e (object a_table n) = n ≢ e
Apart e (object a_function n) = Unit {0}
Apart e (object a_coroutine n) = Unit {0}

abbrev pub RowOk : ℕ → Value × Value → Type 0
RowOk e row = Apart e row.0 × Apart e row.1

abbrev pub MetaOk : ℕ → Option ℕ → Type 0
MetaOk e m = OptionOk (λ n. n ≢ e) m

-- no key, value or metatable is it
pub record TableOk (e : ℕ) (t : Table) : Type 0 where
  pub rows : Each (RowOk e) t.rows
  pub metatable : MetaOk e t.metatable

-- it is as it was made, has no metatable, and no table reaches it
pub record HeapOk (h : Home) (H : Heap) : Type 0 where
  pub made : slice_get H.tables h.table ≡ Some h.made
  pub bare : h.made.metatable ≡ None
  pub tables : Each (TableOk h.table) H.tables
  pub strings : MetaOk h.table H.string_metatable

-- frames, by what is known of each function: `guards` has it by the functions' numbers

abbrev pub WaitOk : ℕ → Wait Value → Type 0
WaitOk e (leaving v) = Apart e v
WaitOk e w = Unit {0}

abbrev pub RegistersOk : ℕ → Guard → List Value → Type 0
RegistersOk e g vs = (r : ℕ) → g.registers r ≡ false → Apart e (nth vs r)

pub record LuaOk (e : ℕ) (guards : List Guard) (f : LuaFrame) : Type 0 where
  pub guard : Guard
  pub there : slice_get guards f.function ≡ Some guard
  pub registers : RegistersOk e guard f.own.registers
  pub varargs : Each (Apart e) f.own.varargs
  pub pending : Each (λ r. guard.registers r ≡ false) f.own.pending
  pub wait : WaitOk e f.wait

abbrev pub FrameOk : ℕ → List Guard → Frame → Type 0
FrameOk e guards (lua f) = LuaOk e guards f
FrameOk e guards pcall = Unit {0}
FrameOk e guards (xpcall h) = Apart e h
FrameOk e guards handler = Unit {0}
FrameOk e guards (closing error left) = OptionOk (Apart e) error × Each (Apart e) left

abbrev pub CoroutineOk : ℕ → List Guard → Coroutine → Type 0
CoroutineOk e guards (fresh body) = Apart e body
CoroutineOk e guards (suspended frames) = Each (FrameOk e guards) frames
CoroutineOk e guards (in_progress frames) = Each (FrameOk e guards) frames
CoroutineOk e guards (normal frames) = Each (FrameOk e guards) frames
CoroutineOk e guards dead = Unit {0}
CoroutineOk e guards (failed error pending) = Apart e error × Each (Apart e) pending

-- cells

-- the function of the Lua frame at a place
abbrev pub function_at : List Coroutine → (coroutine frame : ℕ) → Option ℕ
function_at coroutines co n = bind (bind (bind (bind (slice_get coroutines co) frames_of) (λ frames. slice_get frames n)) lua_frame) (λ f. Some f.function)

pub record OpenOk (guards : List Guard) (coroutines : List Coroutine) (co n register : ℕ) : Type 0 where
  pub function : ℕ
  pub stands : function_at coroutines co n ≡ Some function
  pub guard : Guard
  pub there : slice_get guards function ≡ Some guard
  pub apart : guard.registers register ≡ false

abbrev pub CellOk : ℕ → List Guard → List Coroutine → Cell → Type 0
CellOk e guards coroutines (closed v) = Apart e v
CellOk e guards coroutines (open_at co n register) = OpenOk guards coroutines co n register

-- the cell of this number does not hold the environment
pub record IsApart (e : ℕ) (guards : List Guard) (coroutines : List Coroutine) (cells : List Cell) (number : ℕ) : Type 0 where
  pub cell : Cell
  pub there : slice_get cells number ≡ Some cell
  pub right : CellOk e guards coroutines cell

-- functions

-- only its guarded upvalues may hold the environment, and none but the prelude's functions has the cell that these share
pub record FunctionOk (h : Home) (guards : List Guard) (W : World) (n : ℕ) (f : Function) : Type 0 where
  pub guard : Guard
  pub there : slice_get guards n ≡ Some guard
  pub code : IsGuarded guard f.code
  pub cells : (i c : ℕ) → slice_get f.cells i ≡ Some c → guard.upvalues i ≡ false → IsApart h.table guards W.coroutines W.cells c
  pub apart : h.functions ≤ n → (i c : ℕ) → slice_get f.cells i ≡ Some c → c ≢ h.cell

pub record Keeps (h : Home) (guards : List Guard) (W : World) : Type 0 where
  pub count : length guards ≡ length W.functions
  pub heap : HeapOk h W.heap
  pub functions : (n : ℕ) (f : Function) → slice_get W.functions n ≡ Some f → FunctionOk h guards W n f
  pub cell : slice_get W.cells h.cell ≡ Some (closed (object a_table h.table))
  pub globals : W.globals ≢ h.table
  pub coroutines : Each (CoroutineOk h.table guards) W.coroutines
  pub moving : Each (Apart h.table) W.moving

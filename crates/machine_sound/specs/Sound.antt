-- Sound worlds. All code is checked. Every id, which is the number of an object, names an object of its kind, every primitive is one of the machine's (those
-- below a number, `primitives`), and a function has as many cells as its code has upvalues. No string and no stack of frames is too long. The chain of coroutines is as
-- resuming leaves it. Every Lua frame fits the instruction at which it waits, but the one that runs, which fits its place. An open cell names a register that is there, and no
-- register has two. `Solid` is what holds of this at every moment of a step, `Settled` how the frame on top stands between two steps.
use Rattle.std.specs.Prelude.{ℕ, suc, ◌+◌, ◌<◌, ◌≤◌, ◌≡◌, Bool, true, false, max, List, [], ◌∷◌, ◌++◌, length, map, Option, Some, None, nat_le, slice_get, IsTrue, IsSome}
use Rattle.int_core.specs.Value.{Plain, string, primitive, Value, known, object, a_table, a_function, a_coroutine, greatest_string, bind, last}
use Rattle.int_core.specs.Heap.{Table}
use Rattle.int_core.specs.Operations.{is_function}
use Rattle.code_core.specs.declared.opcode.Opcode.{Opcode}
use Rattle.code_core.specs.declared.opcode.Opcode.TheVariants.{GetTabUp, GetTable, GetI, GetField, SetTabUp, SetTable, SetI, SetField, OpSelf, MmBin, MmBinI, MmBinK, Unm, BNot, Len, Concat, Close, Eq, Lt, Le, EqK, EqI, LtI, LeI, GtI, GeI, Call, Return, Return0, Return1, TForCall, ExtraArg}
use Rattle.code_core.specs.declared.instruction.Instruction.{Instruction}
use Rattle.code_core.specs.Instruction.{opcode_of, a_of, b_of}
use Rattle.code_core.specs.Prototype.{Prototype}
use Rattle.code_core.specs.Check.{IsChecked, at, Mark, fixed, open_from, mark}
use Rattle.machine_core.specs.World.{Function, Cell, closed, open_at, Wait, running, for_call, for_iterator, for_value, for_truth, dropped, for_concat, for_close, returning, leaving, LuaFrame, Frame, lua, pcall, xpcall, handler, closing, Coroutine, fresh, suspended, in_progress, normal, dead, failed, World, frames_of, lua_frame, find_open, OneEach}
use Rattle.machine_core.specs.Text.{behind}
use Rattle.int_core.specs.Limits.{greatest_depth, greatest_resumes}

-- what holds of each item of a list
abbrev pub Each : {A : Type 0} → (A → Type 0) → List A → Type 0
Each {A} P xs = (i : ℕ) (x : A) → slice_get xs i ≡ Some x → P x

-- what ids are looked up in
pub record Sizes : Type 0 where
  pub primitives : ℕ
  pub tables : ℕ
  pub functions : List Function
  pub cells : ℕ
  pub coroutines : ℕ

abbrev pub sizes : ℕ → World → Sizes
sizes primitives W = record {
  primitives = primitives;
  tables = length W.heap.tables;
  functions = W.functions;
  cells = length W.cells;
  coroutines = length W.coroutines;
}

-- values

abbrev pub PlainOk : ℕ → Plain → Type 0
PlainOk primitives (string bytes) = length bytes ≤ greatest_string
PlainOk primitives (primitive n) = n < primitives
PlainOk primitives _ = Unit {0}

-- every id names an object of its kind, and no string is too long
abbrev pub Valid : Sizes → Value → Type 0
Valid z (known p) = PlainOk z.primitives p
Valid z (object a_table n) = n < z.tables
Valid z (object a_function n) = n < length z.functions
Valid z (object a_coroutine n) = n < z.coroutines

abbrev pub OptionOk : {A : Type 0} → (A → Type 0) → Option A → Type 0
OptionOk P None = Unit {0}
OptionOk P (Some x) = P x

-- objects

pub record TableOk (z : Sizes) (t : Table) : Type 0 where
  pub rows : Each (λ row. Valid z row.0 × Valid z row.1) t.rows
  pub metatable : OptionOk (λ m. m < z.tables) t.metatable

-- code is checked, and a function has as many cells as its code has upvalues
pub record FunctionOk (z : Sizes) (f : Function) : Type 0 where
  pub code : IsChecked f.code
  pub count : length f.cells ≡ length f.code.own.upvalues
  pub cells : Each (λ c. c < z.cells) f.cells

abbrev pub WaitOk : Sizes → Wait Value → Type 0
WaitOk z (leaving e) = Valid z e
WaitOk z _ = Unit {0}

-- a Lua frame, whether it runs or waits: it has at least its code's registers, and its pending registers are among these
pub record LuaOk (z : Sizes) (f : LuaFrame) : Type 0 where
  pub function : Function
  pub there : slice_get z.functions f.function ≡ Some function
  pub stack : function.code.own.stack ≤ length f.own.registers
  pub registers : Each (Valid z) f.own.registers
  pub varargs : Each (Valid z) f.own.varargs
  pub pending : Each (λ r. r < function.code.own.stack) f.own.pending
  pub error : WaitOk z f.wait

abbrev pub FrameOk : Sizes → Frame → Type 0
FrameOk z (lua f) = LuaOk z f
FrameOk z pcall = Unit {0}
FrameOk z (xpcall h) = Valid z h
FrameOk z handler = Unit {0}
FrameOk z (closing e left) = OptionOk (Valid z) e × Each (Valid z) left

-- waits

-- the instructions that a frame may wait at; of the operands of a CONCAT at least two have been taken
abbrev pub waits_at : {V : Type 0} → Wait V → Opcode → Instruction → Bool
waits_at for_call Call w = true
waits_at for_iterator TForCall w = true
waits_at for_value GetTabUp w = true
waits_at for_value GetTable w = true
waits_at for_value GetI w = true
waits_at for_value GetField w = true
waits_at for_value OpSelf w = true
waits_at for_value MmBin w = true
waits_at for_value MmBinI w = true
waits_at for_value MmBinK w = true
waits_at for_value Unm w = true
waits_at for_value BNot w = true
waits_at for_value Len w = true
waits_at for_truth Eq w = true
waits_at for_truth Lt w = true
waits_at for_truth Le w = true
waits_at for_truth EqK w = true
waits_at for_truth EqI w = true
waits_at for_truth LtI w = true
waits_at for_truth LeI w = true
waits_at for_truth GtI w = true
waits_at for_truth GeI w = true
waits_at dropped SetTabUp w = true
waits_at dropped SetTable w = true
waits_at dropped SetI w = true
waits_at dropped SetField w = true
waits_at (for_concat left) Concat w = nat_le (left + 2) (b_of w)
waits_at for_close Close w = true
waits_at (returning count) Return w = true
waits_at (returning count) Return0 w = true
waits_at (returning count) Return1 w = true
waits_at (leaving e) op w = true
waits_at _ _ _ = false

-- how many registers a waiting frame has: those of its code, and the results of one that returns may stand past them
abbrev pub waiting_size : {V : Type 0} → Wait V → Instruction → (stack : ℕ) → ℕ
waiting_size (returning count) w stack = max stack (behind (a_of w) count)
waiting_size _ w stack = stack

-- below which register its pending ones are: a call keeps those below its function
abbrev pub kept_below : {V : Type 0} → Wait V → Instruction → (stack : ℕ) → ℕ
kept_below for_call w stack = a_of w
kept_below for_iterator w stack = a_of w + 4
kept_below _ w stack = stack

-- a frame fits its wait, and has no open list
pub record LuaWaits (z : Sizes) (f : LuaFrame) : Type 0 where
  pub function : Function
  pub there : slice_get z.functions f.function ≡ Some function
  pub instruction : Instruction
  pub at_pc : at function.code f.own.pc ≡ Some instruction
  pub opcode : Opcode
  pub is_opcode : opcode_of instruction ≡ Some opcode
  pub fits : IsTrue (waits_at f.wait opcode instruction)
  pub size : length f.own.registers ≡ waiting_size f.wait instruction function.code.own.stack
  pub kept : Each (λ r. r < kept_below f.wait instruction function.code.own.stack) f.own.pending
  pub opened : f.own.opened ≡ 0

abbrev pub FrameWaits : Sizes → Frame → Type 0
FrameWaits z (lua f) = LuaWaits z f
FrameWaits z _ = Unit {0}

-- coroutines

-- all frames are right, and they are not too many
pub record FramesOk (z : Sizes) (frames : List Frame) : Type 0 where
  pub each : Each (FrameOk z) frames
  pub depth : length frames ≤ greatest_depth

pub record AllWait (z : Sizes) (frames : List Frame) : Type 0 where
  pub right : FramesOk z frames
  pub waits : Each (FrameWaits z) frames

abbrev pub CoroutineOk : Sizes → Coroutine → Type 0
CoroutineOk z (fresh body) = Valid z body × IsTrue (is_function body)
CoroutineOk z (suspended frames) = AllWait z frames
CoroutineOk z (in_progress frames) = FramesOk z frames
CoroutineOk z (normal frames) = AllWait z frames
CoroutineOk z dead = Unit {0}
CoroutineOk z (failed e pending) = Valid z e × Each (Valid z) pending

-- how a coroutine stands to the chain
pub data Standing : Type 0 where
  runs : Standing
  resumed_another : Standing
  apart : Standing

abbrev pub standing : Coroutine → Standing
standing (in_progress frames) = runs
standing (normal frames) = resumed_another
standing _ = apart

-- the first of the chain is the main coroutine, the last one runs, those before it resumed each other, and no other coroutine does either
pub record ChainOk (main : Option ℕ) (standings : List Standing) (chain : List ℕ) : Type 0 where
  pub first : (co : ℕ) → slice_get chain 0 ≡ Some co → main ≡ Some co
  pub last_runs : (i co : ℕ) → slice_get chain i ≡ Some co → suc i ≡ length chain → slice_get standings co ≡ Some runs
  pub before : (i co : ℕ) → slice_get chain i ≡ Some co → suc i < length chain → slice_get standings co ≡ Some resumed_another
  pub running_in : (co : ℕ) → slice_get standings co ≡ Some runs → (i : ℕ) × (slice_get chain i ≡ Some co)
  pub normal_in : (co : ℕ) → slice_get standings co ≡ Some resumed_another → (i : ℕ) × (slice_get chain i ≡ Some co)
  pub once : (i j co : ℕ) → slice_get chain i ≡ Some co → slice_get chain j ≡ Some co → i ≡ j
  pub bound : length chain ≤ suc greatest_resumes

-- cells

-- how many registers the frame of a number has; none where no Lua frame is there
abbrev pub registers_in : List Frame → ℕ → ℕ
registers_in frames n = elim (bind (slice_get frames n) lua_frame) [ None ↦ 0 | Some f ↦ length f.own.registers ]

abbrev pub registers_of : List Coroutine → ℕ → ℕ → ℕ
registers_of coroutines co n = elim (bind (slice_get coroutines co) frames_of) [ None ↦ 0 | Some frames ↦ registers_in frames n ]

-- an open cell names a Lua frame and a register of it that are there
abbrev pub CellOk : Sizes → List Coroutine → Cell → Type 0
CellOk z coroutines (closed v) = Valid z v
CellOk z coroutines (open_at co frame register) = register < registers_of coroutines co frame

pub record RootsOk (z : Sizes) (W : World) : Type 0 where
  pub string_metatable : OptionOk (λ m. m < z.tables) W.heap.string_metatable
  pub globals : W.globals < z.tables
  pub prelude_environment : W.prelude_environment < z.tables
  pub prelude_functions : Each (λ f. f < length z.functions) W.prelude_functions
  pub special_key : length W.special_key ≤ greatest_string
  pub main : OptionOk (λ co. co < z.coroutines) W.main

-- what holds at every moment
pub record Solid (primitives : ℕ) (W : World) : Type 0 where
  pub tables : Each (TableOk (sizes primitives W)) W.heap.tables
  pub functions : Each (FunctionOk (sizes primitives W)) W.functions
  pub cells : Each (CellOk (sizes primitives W) W.coroutines) W.cells
  pub one_each : OneEach W.cells
  pub coroutines : Each (CoroutineOk (sizes primitives W)) W.coroutines
  pub chain : ChainOk W.main (map standing W.coroutines) W.chain
  pub moving : Each (Valid (sizes primitives W)) W.moving
  pub roots : RootsOk (sizes primitives W) W

-- the frame on top

-- what a row knows of a Lua frame on top: its code and place, how many registers it has, how many values of an open list; below which
-- register its pending ones are, and those at which cells are open; registers that have a cell; and whether it runs or waits
pub record Top : Type 0 where
  pub code : Prototype
  pub pc : ℕ
  pub size : ℕ
  pub opened : ℕ
  pub pending : ℕ
  pub cells : ℕ
  pub captured : List ℕ
  pub runs : Bool

abbrev pub RunsOrWaits : Bool → Sizes → LuaFrame → Type 0
RunsOrWaits true z f = f.wait ≡ running
RunsOrWaits false z f = LuaWaits z f

pub record TopIs (primitives : ℕ) (t : Top) (W : World) : Type 0 where
  pub coroutine : ℕ
  pub base : List Frame
  pub top : LuaFrame
  pub function : Function
  pub last : last W.chain ≡ Some coroutine
  pub frames : slice_get W.coroutines coroutine ≡ Some (in_progress (base ++ lua top ∷ []))
  pub there : slice_get W.functions top.function ≡ Some function
  pub below : Each (FrameWaits (sizes primitives W)) base
  pub code : function.code ≡ t.code
  pub pc : top.own.pc ≡ t.pc
  pub size : length top.own.registers ≡ t.size
  pub opened : top.own.opened ≡ t.opened
  pub pending : Each (λ r. r < t.pending) top.own.pending
  pub cells : (i r : ℕ) → slice_get W.cells i ≡ Some (open_at coroutine (length base) r) → r < t.cells
  pub captured : Each (λ r. IsSome (find_open coroutine (length base) r W.cells)) t.captured
  pub wait : RunsOrWaits t.runs (sizes primitives W) top

-- the registers of a running frame are those of its code, and an open list may stand past them; where there is none it has no values
abbrev pub MarkFits : Mark → (stack size opened : ℕ) → Type 0
MarkFits fixed stack size opened = (size ≡ stack) × (opened ≡ 0)
MarkFits (open_from r) stack size opened = size ≡ max stack (r + opened)

abbrev pub is_extra : Opcode → Bool
is_extra ExtraArg = true
is_extra _ = false

-- a running frame fits its place, which is no EXTRAARG: that only carries a number for the instruction in front of it
pub record Fits (t : Top) : Type 0 where
  pub instruction : Instruction
  pub at_pc : at t.code t.pc ≡ Some instruction
  pub opcode : Opcode
  pub is_opcode : opcode_of instruction ≡ Some opcode
  pub no_extra : is_extra opcode ≡ false
  pub fits_mark : MarkFits (mark t.code t.pc) t.code.own.stack t.size t.opened
  pub cells : t.cells ≤ t.code.own.stack

abbrev pub FitsIfRuns : Bool → Top → Type 0
FitsIfRuns true t = Fits t
FitsIfRuns false t = Unit {0}

-- the Lua frame on top fits its place, or its wait
pub record Settled (primitives : ℕ) (W : World) : Type 0 where
  pub top : Top
  pub is_top : TopIs primitives top W
  pub fits : FitsIfRuns top.runs top

-- every frame of the running coroutine waits
pub record StackWaits (primitives : ℕ) (W : World) : Type 0 where
  pub coroutine : ℕ
  pub frames : List Frame
  pub last : last W.chain ≡ Some coroutine
  pub running : slice_get W.coroutines coroutine ≡ Some (in_progress frames)
  pub waits : Each (FrameWaits (sizes primitives W)) frames

-- how a world rests between two steps, whatever the last one ended with: no coroutine runs; the frame on top is a Lua frame, which fits its
-- place or its wait; or all frames of the running coroutine wait
pub data Rests (primitives : ℕ) (W : World) : Type 0 where
  idle : W.chain ≡ [] → Rests primitives W
  on_top : Settled primitives W → Rests primitives W
  all_wait : StackWaits primitives W → Rests primitives W

pub record Sound (primitives : ℕ) (W : World) : Type 0 where
  pub solid : Solid primitives W
  pub rests : Rests primitives W

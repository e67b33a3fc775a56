-- Returns to a Lua frame that waits for a call and takes at most two values, as changes of a stack.
use Rattle.std.specs.Prelude.{◌≡◌, ◌+◌, ◌<◌, ◌≤◌, ℕ, suc, Bool, true, false, [], ◌∷◌, ◌++◌, List, Option, Some, None, length, map, slice_get}
use Rattle.code_core.specs.declared.instruction.Instruction.{Instruction}
use Rattle.code_core.specs.declared.opcode.Opcode.{Opcode}
use Rattle.code_core.specs.declared.opcode.Opcode.TheVariants.{Call, MmBin, MmBinI, MmBinK, Return, Return0, Return1, TForCall}
use Rattle.code_core.specs.Instruction.{a_of, b_of, c_of, opcode_of}
use Rattle.int_core.specs.Value.{Value, known, last, nil, nth, range, without_last, write_all}
use Rattle.machine_core.specs.World.{running, LuaFrame}
use Rattle.machine_core.specs.Text.{behind}
use Rattle.table_core.specs.declared.value.Value.{Value as Kept}
use Rattle.table_core.specs.declared.value.Value.TheVariants.{Nil}
use Rattle.lua_stack.specs.declared.frame.LuaState.{LuaState}
use Rattle.lua_stack.specs.declared.frame.Wait.{Wait as KeptWait}
use Rattle.lua_stack.specs.declared.frame.Wait.TheVariants.{Dropped, ForCall, ForIterator, ForValue}
use Rattle.lua_stack.specs.Frames.{KeptFrame, KeptLua, KeptStack, OnTop, TopBecomes, kept_lua, with_pc, with_registers, with_wait}
use Rattle.lua_heap.specs.declared.codes.Code.{Code}
use Rattle.lua_heap.specs.declared.world.Func.{Func}
use Rattle.frame_calls.specs.Arguments.{IsInFront, ListEnds}
use Rattle.frame_calls.specs.Calling.{Program, one_less}
use Rattle.frame_calls.specs.Standing.{IsClosedFrom}
use Rattle.frame_calls.specs.declared.returning.Given.{Given}
use Rattle.frame_calls.specs.declared.returning.Taker.{Taker}

-- how many values an instruction returns, where it says so
abbrev pub count_of : Option Opcode → (b : ℕ) → Option ℕ
count_of (Some Return) b = one_less b
count_of (Some Return0) b = Some 0
count_of (Some Return1) b = Some 1
count_of _ b = None

-- how many values a RETURN returns, where it says so
abbrev pub said_of : Option Opcode → (b : ℕ) → Option ℕ
said_of (Some Return) b = one_less b
said_of _ b = None

-- the first two of some values, nil where there are fewer, by each reading of the values
abbrev pub AreFirst : (values : (Kept → Value) → List Value) → Given → Type 0
AreFirst values g = (f : Kept → Value) → f Nil ≡ known nil → range 0 2 (values f) ≡ f g.first ∷ f g.second ∷ []

-- the value at a place of a list, nil where there is none
abbrev pub ReadsAt : List Kept → (at : ℕ) → Kept → Type 0
ReadsAt values at v = (f : Kept → Value) → f Nil ≡ known nil → nth (map f values) at ≡ f v

-- they are those of so many registers from one on
pub record IsGiven (registers : List Kept) (register count : ℕ) (g : Given) : Type 0 where
  pub room : behind register count ≤ length registers
  pub two : AreFirst (λ f. range register count (map f registers)) g

-- what is known of a frame that waits
pub record IsCallerIn (t : KeptLua) (c : LuaState) : Type 0 where
  pub waits : t.wait ≡ c.wait
  pub function : t.function ≡ c.function
  pub pc : t.pc ≡ c.pc
  pub size : length t.registers ≡ c.size

-- it is the one below the frame on top
pub record IsCaller (s : KeptStack) (c : LuaState) : Type 0 where
  pub frame : KeptLua
  pub at : last (without_last s.frames) ≡ Some (kept_lua frame)
  pub knows : IsCallerIn frame c

-- an operator whose operands are no integers: it stands after the instruction for which it works
abbrev pub is_operator : Opcode → Bool
is_operator MmBin = true
is_operator MmBinI = true
is_operator MmBinK = true
is_operator _ = false

-- what the instruction at a place wants for which a frame waits: a CALL one value fewer than it says, a TFORCALL as many, in the registers after its own four, an
-- instruction that a handler gives its value that one in its register, or an operator in that of the instruction before it, and a store nothing
pub data Wants (words : List Instruction) (pc : ℕ) (w : Instruction) (t : Taker) : KeptWait → Type 0 where
  by_call : opcode_of w ≡ Some Call → t.register ≡ a_of w → c_of w ≡ suc t.count → Wants words pc w t ForCall
  by_iterator : opcode_of w ≡ Some TForCall → t.register ≡ a_of w + 4 → t.count ≡ c_of w → Wants words pc w t ForIterator
  by_value : (op : Opcode) → opcode_of w ≡ Some op → is_operator op ≡ false → t.register ≡ a_of w → t.count ≡ 1 → Wants words pc w t ForValue
  by_operator : (op : Opcode) → opcode_of w ≡ Some op → is_operator op ≡ true → (before : Instruction) → IsInFront words pc before → t.register ≡ a_of before → t.count ≡ 1
      → Wants words pc w t ForValue
  by_store : (op : Opcode) → opcode_of w ≡ Some op → t.count ≡ 0 → Wants words pc w t Dropped

-- what it wants wherever it stands
abbrev pub WantsAnywhere : Instruction → Taker → KeptWait → Type 0
WantsAnywhere w t wait = (words : List Instruction) (pc : ℕ) → Wants words pc w t wait

-- the one at its place wants at most two values, in registers of the frame
pub record IsTaker (words : List Instruction) (c : LuaState) (t : Taker) : Type 0 where
  pub word : Instruction
  pub at_pc : slice_get words c.pc ≡ Some word
  pub wants : Wants words c.pc word t c.wait
  pub few : t.count ≤ 2
  pub room : t.register + t.count ≤ c.size
  pub next : t.to ≡ c.pc + 1
  pub within : t.to < length words

-- the code of a frame's function is there, and its instructions take so what comes
pub record TakesBy (program : Program) (c : LuaState) (Takes : List Instruction → Type 0) : Type 0 where
  pub func : Func
  pub func_there : slice_get program.funcs c.function.0 ≡ Some func
  pub code : Code
  pub code_there : slice_get program.codes.list.items func.code.0 ≡ Some code
  pub takes : Takes code.words.items

abbrev pub TakesIn : Program → LuaState → Taker → Type 0
TakesIn program c t = TakesBy program c (λ words. IsTaker words c t)

-- the frame below the one on top is a Lua frame with at least so many registers
pub record HasBelow (s : KeptStack) (count : ℕ) : Type 0 where
  pub caller : LuaState
  pub calls : IsCaller s caller
  pub room : count ≤ caller.size

-- the frame on top is a Lua frame with at least so many registers
pub record HasKept (s : KeptStack) (count : ℕ) : Type 0 where
  pub below : List KeptFrame
  pub top : KeptLua
  pub is : s.frames ≡ below ++ kept_lua top ∷ []
  pub room : count ≤ length top.registers

-- the frame gets what it wants of two values, and runs on
abbrev pub taken : Taker → (first second : Value) → LuaFrame → LuaFrame
taken taker v w t = with_pc taker.to (with_wait running (with_registers (write_all taker.register (range 0 taker.count (v ∷ w ∷ [])) t.own.registers) t))

-- the frame below the one on top is a Lua frame that takes so what comes
pub record IsTakerBelow (s : KeptStack) (Takes : LuaState → Type 0) : Type 0 where
  pub caller : LuaState
  pub calls : IsCaller s caller
  pub takes : Takes caller

-- the frame on top is gone, and the one below has taken what it wants of so many of its values, from a register on
pub record HandsBack (s u : KeptStack) (register count : ℕ) (taker : Taker) : Type 0 where
  pub registers : List Kept
  pub are : OnTop s (λ f t. map f registers ≡ t.own.registers)
  pub given : Given
  pub gives : IsGiven registers register count given
  pub popped : KeptStack
  pub pops : popped.frames ≡ without_last s.frames
  pub hands : TopBecomes popped u (λ f t. taken taker (f given.first) (f given.second) t)
  pub listed : u.open_cells ≡ s.open_cells

-- nothing was open or to be closed in it, and the register is the one that the instruction names
pub record GivesBack (s u : KeptStack) (program : Program) (w : Instruction) (count : ℕ) : Type 0 where
  pub closed : IsClosedFrom s 0
  pub taker : Taker
  pub below : IsTakerBelow s (λ c. TakesIn program c taker)
  pub back : HandsBack s u (a_of w) count taker

-- an instruction does so that says how many values it returns
pub record ReturnsIn (s u : KeptStack) (program : Program) (w : Instruction) : Type 0 where
  pub count : ℕ
  pub is : count_of (opcode_of w) (b_of w) ≡ Some count
  pub gives_back : GivesBack s u program w count

-- a RETURN gives all values from a register up to the end of an open list to a frame that wants at most two
pub record ReturnsOpen (s u : KeptStack) (program : Program) (words : List Instruction) (pc : ℕ) (w : Instruction) : Type 0 where
  pub is_return : opcode_of w ≡ Some Return
  pub takes_all : b_of w ≡ 0
  pub end : ℕ
  pub list : ListEnds s words pc end
  pub count : ℕ
  pub all : end ≡ a_of w + count
  pub gives_back : GivesBack s u program w count

-- Calls of Lua functions as changes of a stack.
use Rattle.std.specs.Prelude.{◌≡◌, IfSome, ◌+◌, ◌<◌, ◌≤◌, ℕ, zero, suc, Bool, true, false, List, Option, Some, None, length, map, slice_get}
use Rattle.code_core.specs.declared.instruction.Instruction.{Instruction}
use Rattle.code_core.specs.declared.opcode.Opcode.{Opcode}
use Rattle.code_core.specs.declared.opcode.Opcode.TheVariants.{Call, TailCall, TForCall}
use Rattle.code_core.specs.Instruction.{a_of, opcode_of}
use Rattle.int_core.specs.Limits.{greatest_depth}
use Rattle.machine_core.specs.World.{Function}
use Rattle.table_core.specs.declared.value.FuncId.{FuncId}
use Rattle.table_core.specs.declared.value.Value.{Value as Kept}
use Rattle.table_core.specs.declared.value.Value.TheVariants.{Func as a_func}
use Rattle.lua_stack.specs.declared.frame.Shape.{Shape}
use Rattle.lua_stack.specs.declared.frame.Wait.TheVariants.{ForCall, ForIterator}
use Rattle.lua_stack.specs.Frames.{Calls, CallsBehind, HasLuaTop, HasRegisters, KeptStack, NoneFrom, OnTop, Replaces}
use Rattle.lua_heap.specs.declared.codes.Code.{Code}
use Rattle.lua_heap.specs.declared.codes.Codes.{Codes}
use Rattle.lua_heap.specs.declared.world.Func.{Func}
use Rattle.lua_heap.specs.declared.world.World.{World as Memory}
use Rattle.frame_calls.specs.declared.calling.LuaFunction.{LuaFunction}
use Rattle.frame_calls.specs.declared.stop.Functions.{Functions}
use Rattle.frame_calls.specs.declared.stop.Stop.{Stop}
use Rattle.frame_calls.specs.Arguments.{AreArguments}
use Rattle.frame_calls.specs.Standing.{IsClosedFrom}

abbrev pub is_call : Option Opcode → Bool
is_call (Some Call) = true
is_call _ = false

-- one less than a number of values that is counted from one: 0 stands for an open list
abbrev pub one_less : ℕ → Option ℕ
one_less zero = None
one_less (suc n) = Some n

-- the functions of a world in memory, and the code that they run
pub record Program : Type 0 where
  pub funcs : List Func
  pub codes : Codes

abbrev pub program_of : Functions → Program
program_of functions = record { funcs = functions.funcs.now.objects; codes = functions.codes.now }

abbrev pub program_in : Memory → Program
program_in W = record { funcs = W.funcs.objects; codes = W.codes }

-- the code of each function is there
pub record HaveCode (program : Program) : Type 0 where
  pub code_there : (n : ℕ) (f : Func) → slice_get program.funcs n ≡ Some f → f.code.0 < length program.codes.list.items

-- a Lua frame is on top of a stack, nothing of it is open or to be closed from the register on that is told, and functions have their code
pub record MayLeave (s : KeptStack) (stop : Stop) : Type 0 where
  pub top : HasLuaTop s
  pub codes : HaveCode (program_of stop.functions)
  pub closed : IfSome stop.closed (λ register. IsClosedFrom s register)

-- a Lua function stands in a register, with so many registers after it
pub record HoldsCallee (registers : List Kept) (register given : ℕ) (id : FuncId) : Type 0 where
  pub holds : slice_get registers register ≡ Some (a_func id)
  pub room : register + 1 + given ≤ length registers

-- the code of a function is there
pub record HasCode (program : Program) (id : FuncId) (code : Code) : Type 0 where
  pub func : Func
  pub func_there : slice_get program.funcs id.0 ≡ Some func
  pub code_there : slice_get program.codes.list.items func.code.0 ≡ Some code

-- what is told of it is so
pub record HasShapeIn (program : Program) (id : FuncId) (shape : Shape) : Type 0 where
  pub code : Code
  pub there : HasCode program id code
  pub is : shape ≡ record { params = code.params; vararg = code.vararg; stack = code.stack }
  pub params : shape.params ≤ shape.stack

-- this function stands in a register of the frame on top, with so many registers after it, and what is told of its code is so
pub record IsCallee (s : KeptStack) (program : Program) (register given : ℕ) (callee : LuaFunction) : Type 0 where
  pub registers : List Kept
  pub are : OnTop s (λ f t. map f registers ≡ t.own.registers)
  pub holds : HoldsCallee registers register given callee.id
  pub has : HasShapeIn program callee.id callee.shape

-- it may be entered over that frame, of which so many registers are its code's: they are there, the frame keeps those in front of one, and none is open from `free` on
pub record MayEnter (s : KeptStack) (program : Program) (size register given keeps free : ℕ) (callee : LuaFunction) : Type 0 where
  pub is : IsCallee s program register given callee
  pub arguments : HasRegisters s (register + 1 + given)
  pub all : HasRegisters s size
  pub within : keeps ≤ size
  pub none_open : NoneFrom s free
  pub room : length s.frames + 1 ≤ greatest_depth

-- the Lua function in a register is entered with the values that are given to it
pub record EntersIn (s u : KeptStack) (size : ℕ) (program : Program) (words : List Instruction) (pc : ℕ) (w : Instruction) : Type 0 where
  pub given : ℕ
  pub arguments : AreArguments s words pc w given
  pub callee : LuaFunction
  pub is : IsCallee s program (a_of w) given callee
  pub calls : Calls s u (a_of w) given ForCall size callee.id callee.shape
  pub room : length s.frames + 1 ≤ greatest_depth

-- a CALL does so for a unit of the budget
pub record CallsIn (s u : KeptStack) (size : ℕ) (program : Program) (words : List Instruction) (pc : ℕ) (w : Instruction) (fuel left : ℕ) : Type 0 where
  pub is_call : opcode_of w ≡ Some Call
  pub paid : fuel ≡ suc left
  pub enters : EntersIn s u size program words pc w

-- the Lua function in a register is entered with the values of the two after it, which the frame keeps
pub record IteratesOver (s u : KeptStack) (size : ℕ) (program : Program) (w : Instruction) : Type 0 where
  pub callee : LuaFunction
  pub is : IsCallee s program (a_of w) 2 callee
  pub calls : CallsBehind s u (a_of w) 2 (a_of w + 4) ForIterator size callee.id callee.shape
  pub room : length s.frames + 1 ≤ greatest_depth

-- a TFORCALL does so for a unit of the budget
pub record IteratesIn (s u : KeptStack) (size : ℕ) (program : Program) (w : Instruction) (fuel left : ℕ) : Type 0 where
  pub is_iteration : opcode_of w ≡ Some TForCall
  pub paid : fuel ≡ suc left
  pub enters : IteratesOver s u size program w

-- it takes the place of the frame on top, in which nothing is open or to be closed
pub record ReplacesIn (s u : KeptStack) (program : Program) (words : List Instruction) (pc : ℕ) (w : Instruction) : Type 0 where
  pub given : ℕ
  pub arguments : AreArguments s words pc w given
  pub callee : LuaFunction
  pub is : IsCallee s program (a_of w) given callee
  pub closed : IsClosedFrom s 0
  pub replaces : Replaces s u (a_of w) given callee.id callee.shape
  pub room : length s.frames ≤ greatest_depth

-- a TAILCALL does so for a unit of the budget
pub record TailCallsIn (s u : KeptStack) (program : Program) (words : List Instruction) (pc : ℕ) (w : Instruction) (fuel left : ℕ) : Type 0 where
  pub is_tail_call : opcode_of w ≡ Some TailCall
  pub paid : fuel ≡ suc left
  pub enters : ReplacesIn s u program words pc w

-- a function of the machine's world, by its code in memory
pub record KnownFunction (functions : List Function) (id : ℕ) (code : Code) : Type 0 where
  pub function : Function
  pub is : slice_get functions id ≡ Some function
  pub words : code.words.items ≡ function.code.own.code
  pub params : code.params ≡ function.code.own.params
  pub vararg : code.vararg ≡ function.code.own.vararg
  pub stack : code.stack ≡ function.code.own.stack

-- the functions in memory are those of the machine's world, and their code is there
pub record AreFunctions (functions : List Function) (program : Program) : Type 0 where
  pub have : HaveCode program
  pub known : (id : ℕ) (func : Func) (code : Code) → slice_get program.funcs id ≡ Some func → slice_get program.codes.list.items func.code.0 ≡ Some code → KnownFunction functions id code

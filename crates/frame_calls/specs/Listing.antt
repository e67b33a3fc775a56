-- Extra arguments in registers, as an open list or at most two of them, as changes of a stack.
use Rattle.std.specs.Prelude.{◌≡◌, ◌⊎◌, ◌+◌, ◌<◌, ◌≤◌, ℕ, Bool, true, false, List, Option, Some, None, length, map}
use Rattle.code_core.specs.declared.instruction.Instruction.{Instruction}
use Rattle.code_core.specs.declared.opcode.Opcode.{Opcode}
use Rattle.code_core.specs.declared.opcode.Opcode.TheVariants.{VarArg}
use Rattle.code_core.specs.Instruction.{a_of, c_of, opcode_of}
use Rattle.int_core.specs.Value.{range, write_all}
use Rattle.machine_core.specs.World.{running}
use Rattle.table_core.specs.declared.value.Value.{Value as Kept}
use Rattle.lua_stack.specs.Frames.{KeptStack, OnTop, TopBecomes, with_opened, with_pc, with_registers, with_wait}
use Rattle.frame_calls.specs.Calling.{one_less}

abbrev pub is_list : Option Opcode → Bool
is_list (Some VarArg) = true
is_list _ = false

-- the arguments beyond the parameters are a list that is open from a register on, and the frame on top goes on after
pub record ListsVarargs (s u : KeptStack) (words : List Instruction) (pc : ℕ) (w : Instruction) : Type 0 where
  pub is_vararg : opcode_of w ≡ Some VarArg
  pub all : c_of w ≡ 0
  pub registers : List Kept
  pub are : OnTop s (λ f t. map f registers ≡ t.own.registers)
  pub room : a_of w < length registers
  pub within : pc + 1 < length words
  pub becomes : TopBecomes s u (λ f t. with_pc (pc + 1) (with_opened (length t.own.varargs) (with_registers (write_all (a_of w) t.own.varargs t.own.registers) t)))

-- how many of them an instruction wants, where it says so
abbrev pub taken_of : Option Opcode → (c : ℕ) → Option ℕ
taken_of (Some VarArg) c = one_less c
taken_of _ c = None

-- so many of them, nil where there are fewer, stand in the registers from one on, and the frame on top goes on after
pub record TakesVarargs (s u : KeptStack) (words : List Instruction) (pc : ℕ) (w : Instruction) : Type 0 where
  pub count : ℕ
  pub is : taken_of (opcode_of w) (c_of w) ≡ Some count
  pub registers : List Kept
  pub are : OnTop s (λ f t. map f registers ≡ t.own.registers)
  pub room : a_of w + count ≤ length registers
  pub within : pc + 1 < length words
  pub becomes : TopBecomes s u (λ f t. with_pc (pc + 1) (with_wait running (with_registers (write_all (a_of w) (range 0 count t.own.varargs) t.own.registers) t)))

-- one or the other
abbrev pub WritesVarargs : (s u : KeptStack) → List Instruction → (pc : ℕ) → Instruction → Type 0
WritesVarargs s u words pc w = ListsVarargs s u words pc w ⊎ TakesVarargs s u words pc w

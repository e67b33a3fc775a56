-- What each opcode names in its fields: registers, constants, upvalues, places (lopcodes.h of Lua 5.4).
use Rattle.std.specs.Prelude.{ℕ, ◌+◌, ◌-◌, ◌==◌, ℤ, pos, ◌+ℤ◌, ◌-ℤ◌, Bool, true, false, if◌then◌else◌, List, [], ◌∷◌, ◌++◌, Option, Some, None}
use Rattle.code_core.specs.declared.opcode.Opcode.{Opcode}
use Rattle.code_core.specs.declared.opcode.Opcode.TheVariants.{Move, LoadI, LoadF, LoadK, LoadKx, LoadFalse, LFalseSkip, LoadTrue, LoadNil, GetUpval, SetUpval, GetTabUp, GetTable, GetI, GetField, SetTabUp, SetTable, SetI, SetField, NewTable, OpSelf, AddI, AddK, SubK, MulK, ModK, PowK, DivK, IDivK, BAndK, BOrK, BXorK, ShrI, ShlI, Add, Sub, Mul, Mod, Pow, Div, IDiv, BAnd, BOr, BXor, Shl, Shr, MmBin, MmBinI, MmBinK, Unm, BNot, Not, Len, Concat, Close, Tbc, Jmp, Eq, Lt, Le, EqK, EqI, LtI, LeI, GtI, GeI, Test, TestSet, Call, TailCall, Return, Return0, Return1, ForLoop, ForPrep, TForPrep, TForCall, TForLoop, SetList, Closure, VarArg, ExtraArg}
use Rattle.code_core.specs.declared.instruction.Instruction.{Instruction}
use Rattle.code_core.specs.Instruction.{a_of, b_of, c_of, k_of, bx_of, sj_of}

-- the opcodes of code on whole numbers: all but LOADF, POWK, DIVK, POW and DIV, which make floats
abbrev pub is_whole : Opcode → Bool
is_whole LoadF = false
is_whole PowK = false
is_whole DivK = false
is_whole Pow = false
is_whole Div = false
is_whole _ = true

-- the last of n registers from a, where there is one
abbrev pub last_of : ℕ → ℕ → List ℕ
last_of a n = (if n == 0 then [] else (a + (n - 1)) ∷ [])

-- the register C, unless k makes it a constant
abbrev pub register_or_constant : Instruction → List ℕ
register_or_constant w = (if k_of w then [] else c_of w ∷ [])

-- the registers that are read or written; of some in a row, the last
abbrev pub registers : Opcode → Instruction → List ℕ
registers Move w = a_of w ∷ b_of w ∷ []
registers LoadI w = a_of w ∷ []
registers LoadK w = a_of w ∷ []
registers LoadKx w = a_of w ∷ []
registers LoadFalse w = a_of w ∷ []
registers LFalseSkip w = a_of w ∷ []
registers LoadTrue w = a_of w ∷ []
registers LoadNil w = (a_of w + b_of w) ∷ []
registers GetUpval w = a_of w ∷ []
registers SetUpval w = a_of w ∷ []
registers GetTabUp w = a_of w ∷ []
registers GetTable w = a_of w ∷ b_of w ∷ c_of w ∷ []
registers GetI w = a_of w ∷ b_of w ∷ []
registers GetField w = a_of w ∷ b_of w ∷ []
registers SetTabUp w = register_or_constant w
registers SetTable w = a_of w ∷ b_of w ∷ register_or_constant w
registers SetI w = a_of w ∷ register_or_constant w
registers SetField w = a_of w ∷ register_or_constant w
registers NewTable w = a_of w ∷ []
registers OpSelf w = (a_of w + 1) ∷ b_of w ∷ register_or_constant w
registers AddI w = a_of w ∷ b_of w ∷ []
registers AddK w = a_of w ∷ b_of w ∷ []
registers SubK w = a_of w ∷ b_of w ∷ []
registers MulK w = a_of w ∷ b_of w ∷ []
registers ModK w = a_of w ∷ b_of w ∷ []
registers IDivK w = a_of w ∷ b_of w ∷ []
registers BAndK w = a_of w ∷ b_of w ∷ []
registers BOrK w = a_of w ∷ b_of w ∷ []
registers BXorK w = a_of w ∷ b_of w ∷ []
registers ShrI w = a_of w ∷ b_of w ∷ []
registers ShlI w = a_of w ∷ b_of w ∷ []
registers Add w = a_of w ∷ b_of w ∷ c_of w ∷ []
registers Sub w = a_of w ∷ b_of w ∷ c_of w ∷ []
registers Mul w = a_of w ∷ b_of w ∷ c_of w ∷ []
registers Mod w = a_of w ∷ b_of w ∷ c_of w ∷ []
registers IDiv w = a_of w ∷ b_of w ∷ c_of w ∷ []
registers BAnd w = a_of w ∷ b_of w ∷ c_of w ∷ []
registers BOr w = a_of w ∷ b_of w ∷ c_of w ∷ []
registers BXor w = a_of w ∷ b_of w ∷ c_of w ∷ []
registers Shl w = a_of w ∷ b_of w ∷ c_of w ∷ []
registers Shr w = a_of w ∷ b_of w ∷ c_of w ∷ []
registers MmBin w = a_of w ∷ b_of w ∷ []
registers MmBinI w = a_of w ∷ []
registers MmBinK w = a_of w ∷ []
registers Unm w = a_of w ∷ b_of w ∷ []
registers BNot w = a_of w ∷ b_of w ∷ []
registers Not w = a_of w ∷ b_of w ∷ []
registers Len w = a_of w ∷ b_of w ∷ []
registers Concat w = a_of w ∷ last_of (a_of w) (b_of w)
registers Close w = a_of w ∷ []
registers Tbc w = a_of w ∷ []
registers Eq w = a_of w ∷ b_of w ∷ []
registers Lt w = a_of w ∷ b_of w ∷ []
registers Le w = a_of w ∷ b_of w ∷ []
registers EqK w = a_of w ∷ []
registers EqI w = a_of w ∷ []
registers LtI w = a_of w ∷ []
registers LeI w = a_of w ∷ []
registers GtI w = a_of w ∷ []
registers GeI w = a_of w ∷ []
registers Test w = a_of w ∷ []
registers TestSet w = a_of w ∷ b_of w ∷ []
registers Call w = a_of w ∷ last_of (a_of w) (b_of w) ++ last_of (a_of w) (c_of w - 1)
registers TailCall w = a_of w ∷ last_of (a_of w) (b_of w)
registers Return w = last_of (a_of w) (b_of w - 1)
registers Return1 w = a_of w ∷ []
registers ForLoop w = (a_of w + 3) ∷ []
registers ForPrep w = (a_of w + 3) ∷ []
registers TForPrep w = (a_of w + 3) ∷ []
registers TForCall w = (a_of w + 6) ∷ (a_of w + 3 + c_of w) ∷ []
registers TForLoop w = (a_of w + 4) ∷ []
registers SetList w = (a_of w + b_of w) ∷ []
registers Closure w = a_of w ∷ []
registers VarArg w = (if c_of w == 0 then a_of w ∷ [] else last_of (a_of w) (c_of w - 1))
registers _ w = []

-- what a constant has to be
pub data Wanted : Type 0 where
  anything : Wanted
  name : Wanted
  integer : Wanted

-- the constants that are used, each by its number; `extra` is the field of the next instruction, where that is an EXTRAARG
abbrev pub constants : Opcode → Instruction → Option ℕ → List (Wanted × ℕ)
constants LoadK w extra = (anything, bx_of w) ∷ []
constants LoadKx w (Some number) = (anything, number) ∷ []
constants GetTabUp w extra = (name, c_of w) ∷ []
constants GetField w extra = (name, c_of w) ∷ []
constants SetTabUp w extra = (name, b_of w) ∷ (if k_of w then (anything, c_of w) ∷ [] else [])
constants SetField w extra = (name, b_of w) ∷ (if k_of w then (anything, c_of w) ∷ [] else [])
constants SetTable w extra = (if k_of w then (anything, c_of w) ∷ [] else [])
constants SetI w extra = (if k_of w then (anything, c_of w) ∷ [] else [])
constants OpSelf w extra = (if k_of w then (name, c_of w) ∷ [] else [])
constants AddK w extra = (integer, c_of w) ∷ []
constants SubK w extra = (integer, c_of w) ∷ []
constants MulK w extra = (integer, c_of w) ∷ []
constants ModK w extra = (integer, c_of w) ∷ []
constants IDivK w extra = (integer, c_of w) ∷ []
constants BAndK w extra = (integer, c_of w) ∷ []
constants BOrK w extra = (integer, c_of w) ∷ []
constants BXorK w extra = (integer, c_of w) ∷ []
constants MmBinK w extra = (integer, b_of w) ∷ []
constants EqK w extra = (anything, b_of w) ∷ []
constants _ w extra = []

-- the upvalues that are read or written, or whose table is
abbrev pub upvalues : Opcode → Instruction → List ℕ
upvalues GetUpval w = b_of w ∷ []
upvalues SetUpval w = b_of w ∷ []
upvalues GetTabUp w = b_of w ∷ []
upvalues SetTabUp w = a_of w ∷ []
upvalues _ w = []

-- the place to which an instruction at `pc` may jump; offsets count from the next instruction
abbrev pub target : ℕ → Opcode → Instruction → Option ℤ
target pc LFalseSkip w = Some (pos (pc + 2))
target pc Jmp w = Some (pos (pc + 1) +ℤ sj_of w)
target pc ForLoop w = Some (pos (pc + 1) -ℤ pos (bx_of w))
target pc ForPrep w = Some (pos (pc + 2 + bx_of w))
target pc TForPrep w = Some (pos (pc + 1 + bx_of w))
target pc TForLoop w = Some (pos (pc + 1) -ℤ pos (bx_of w))
target pc _ w = None

-- the second half of the pair that an opcode begins
abbrev pub second_half : Opcode → Instruction → Option Opcode
second_half LoadKx w = Some ExtraArg
second_half NewTable w = Some ExtraArg
second_half SetList w = (if k_of w then Some ExtraArg else None)
second_half AddI w = Some MmBinI
second_half ShrI w = Some MmBinI
second_half ShlI w = Some MmBinI
second_half AddK w = Some MmBinK
second_half SubK w = Some MmBinK
second_half MulK w = Some MmBinK
second_half ModK w = Some MmBinK
second_half IDivK w = Some MmBinK
second_half BAndK w = Some MmBinK
second_half BOrK w = Some MmBinK
second_half BXorK w = Some MmBinK
second_half Add w = Some MmBin
second_half Sub w = Some MmBin
second_half Mul w = Some MmBin
second_half Mod w = Some MmBin
second_half IDiv w = Some MmBin
second_half BAnd w = Some MmBin
second_half BOr w = Some MmBin
second_half BXor w = Some MmBin
second_half Shl w = Some MmBin
second_half Shr w = Some MmBin
second_half Eq w = Some Jmp
second_half Lt w = Some Jmp
second_half Le w = Some Jmp
second_half EqK w = Some Jmp
second_half EqI w = Some Jmp
second_half LtI w = Some Jmp
second_half LeI w = Some Jmp
second_half GtI w = Some Jmp
second_half GeI w = Some Jmp
second_half Test w = Some Jmp
second_half TestSet w = Some Jmp
second_half TForCall w = Some TForLoop
second_half _ w = None

-- the opcodes that stand nowhere but in the second half of a pair
abbrev pub stands_second : Opcode → Bool
stands_second MmBin = true
stands_second MmBinI = true
stands_second MmBinK = true
stands_second TForLoop = true
stands_second ExtraArg = true
stands_second _ = false

-- the events of arithmetic (ltm.h): add 6, sub 7, mul 8, mod 9, idiv 12, band 13, bor 14, bxor 15, shl 16, shr 17
abbrev pub events : List ℕ
events = 6 ∷ 7 ∷ 8 ∷ 9 ∷ 12 ∷ 13 ∷ 14 ∷ 15 ∷ 16 ∷ 17 ∷ []

-- the register from which an instruction leaves an open list
abbrev pub opens : Opcode → Instruction → Option ℕ
opens Call w = (if c_of w == 0 then Some (a_of w) else None)
opens VarArg w = (if c_of w == 0 then Some (a_of w) else None)
opens TailCall w = Some (a_of w)
opens _ w = None

-- an instruction that takes an open list up to its last value
abbrev pub takes_list : Opcode → Instruction → Bool
takes_list Call w = b_of w == 0
takes_list TailCall w = b_of w == 0
takes_list Return w = b_of w == 0
takes_list SetList w = b_of w == 0
takes_list _ w = false

abbrev pub is_return : Opcode → Bool
is_return Return = true
is_return Return0 = true
is_return Return1 = true
is_return _ = false

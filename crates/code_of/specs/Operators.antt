-- The code of operators and names, whose operands stand in registers or are numerals (lopcodes.h of Lua 5.4).
use Rattle.std.specs.Prelude.{ℕ, ◌+◌, ◌-◌, Bool, true, false, cond, List, [], ◌∷◌, ◌++◌, nat_lt}
use Rattle.tree_core.specs.declared.name.Place.{Place}
use Rattle.tree_core.specs.declared.name.Place.TheVariants.{Unset, Upvalue, GlobalIn, GlobalOf}
use Rattle.tree_core.specs.declared.name.Place.TheVariants.{Local as LocalPlace}
use Rattle.tree_core.specs.declared.operator.UnOp.{UnOp}
use Rattle.tree_core.specs.declared.operator.UnOp.TheVariants.{Neg, BitNot, Not as Negation, Len as Length}
use Rattle.tree_core.specs.declared.operator.BinOp.{BinOp}
use Rattle.tree_core.specs.declared.operator.BinOp.TheVariants.{Add as Plus, Sub as Minus, Mul as Times, Mod as Modulo, Idiv, Band, Bor, Bxor, Shl as ShiftLeft, Shr as ShiftRight, Concat as Join, Eq as Equal, Ne, Lt as Less, Le as AtMost, Gt, Ge}
use Rattle.code_core.specs.declared.opcode.Opcode.{Opcode}
use Rattle.code_core.specs.declared.opcode.Opcode.TheVariants.{Move, LoadNil, LFalseSkip, LoadTrue, GetUpval, GetTabUp, GetTable, GetField, OpSelf, Add, Sub, Mul, Mod, IDiv, BAnd, BOr, BXor, Shl, Shr, AddI, ShrI, MmBin, MmBinI, Unm, BNot, Not, Len, Concat, Eq, Lt, Le, EqI, LtI, LeI, GtI, GeI}
use Rattle.code_core.specs.declared.proto.Const.{Const}
use Rattle.code_core.specs.declared.proto.Const.TheVariants.{Str}
use Rattle.code_core.specs.Instruction.{abc}
use Rattle.code_of.specs.Coded.{Coded, with_abc, jump_over}
use Rattle.code_of.specs.Constants.{number_in, loads}

-- A name's value goes to register r, which is nil where its place is unset; what its last instruction reads stands in the registers from t on. A global name is
-- read by its key, which is a constant of the instruction where its number has 8 bits, from `_ENV`, which is a local or an upvalue

abbrev pub global_code : (number u : ℕ) → (key : List Coded) → (r t line : ℕ) → List Coded
global_code number u key r t line =
    cond (nat_lt number 256) (with_abc GetTabUp r u number line ∷ [])
    (with_abc GetUpval t u 0 line ∷ (key ++ with_abc GetTable r t (t + 1) line ∷ []))

abbrev pub local_global_code : (number n : ℕ) → (key : List Coded) → (r t line : ℕ) → List Coded
local_global_code number n key r t line =
    cond (nat_lt number 256) (with_abc GetField r n number line ∷ []) (key ++ with_abc GetTable r n t line ∷ [])

abbrev pub name_into : List Const → Place → List ℕ → (r t line : ℕ) → List Coded
name_into constants Unset text r t line = with_abc LoadNil r 0 0 line ∷ []
name_into constants (LocalPlace n) text r t line = with_abc Move r n 0 line ∷ []
name_into constants (Upvalue u) text r t line = with_abc GetUpval r u 0 line ∷ []
name_into constants (GlobalIn n) text r t line = local_global_code (number_in constants (Str text)) n (loads constants (Str text) t line) r t line
name_into constants (GlobalOf u) text r t line = global_code (number_in constants (Str text)) u (loads constants (Str text) (t + 1) line) r t line

abbrev pub name_code : List Const → Place → List ℕ → (t line : ℕ) → List Coded
name_code constants place text t line = name_into constants place text t t line

-- a method's object stands in register x, which is t or below it; register t gets the method, and the object goes to t + 1. The method's name is read as
-- a constant where its number has 8 bits, else from register t + 2: SELF writes t + 1 before it looks the name up

abbrev pub method_code : (number : ℕ) → (key : List Coded) → (x t line : ℕ) → List Coded
method_code number key x t line =
    cond (nat_lt number 256) ((abc OpSelf t x number true, line) ∷ []) (key ++ with_abc OpSelf t x (t + 2) line ∷ [])

abbrev pub self_code : List Const → List ℕ → (x t line : ℕ) → List Coded
self_code constants text x t line = method_code (number_in constants (Str text)) (loads constants (Str text) (t + 2) line) x t line

-- the operand of a prefix operator stands in register x, and the result goes to t

abbrev pub prefix_opcode : UnOp → Opcode
prefix_opcode Neg = Unm
prefix_opcode BitNot = BNot
prefix_opcode Negation = Not
prefix_opcode Length = Len

abbrev pub prefix_code : UnOp → (x t line : ℕ) → List Coded
prefix_code op x t line = with_abc (prefix_opcode op) t x 0 line ∷ []

-- the operands stand in registers x and y, and the result goes to t. MMBIN names the event by its number in ltm.h

abbrev pub arithmetic_code : Opcode → (event x y t line : ℕ) → List Coded
arithmetic_code op event x y t line = with_abc op t x y line ∷ with_abc MmBin x y event line ∷ []

-- true where the comparison of x and y comes to k
abbrev pub truth_code : Opcode → (x y : ℕ) → (k : Bool) → (t line : ℕ) → List Coded
truth_code op x y k t line = (abc op x y 0 k, line) ∷ jump_over 1 line ∷ with_abc LFalseSkip t 0 0 line ∷ with_abc LoadTrue t 0 0 line ∷ []

-- the operands of `..` stand in t and t + 1
abbrev pub operator_code : BinOp → (x y t line : ℕ) → List Coded
operator_code Plus x y t line = arithmetic_code Add 6 x y t line
operator_code Minus x y t line = arithmetic_code Sub 7 x y t line
operator_code Times x y t line = arithmetic_code Mul 8 x y t line
operator_code Modulo x y t line = arithmetic_code Mod 9 x y t line
operator_code Idiv x y t line = arithmetic_code IDiv 12 x y t line
operator_code Band x y t line = arithmetic_code BAnd 13 x y t line
operator_code Bor x y t line = arithmetic_code BOr 14 x y t line
operator_code Bxor x y t line = arithmetic_code BXor 15 x y t line
operator_code ShiftLeft x y t line = arithmetic_code Shl 16 x y t line
operator_code ShiftRight x y t line = arithmetic_code Shr 17 x y t line
operator_code Join x y t line = with_abc Concat t 2 0 line ∷ []
operator_code Equal x y t line = truth_code Eq x y true t line
operator_code Ne x y t line = truth_code Eq x y false t line
operator_code Less x y t line = truth_code Lt x y true t line
operator_code AtMost x y t line = truth_code Le x y true t line
operator_code Gt x y t line = truth_code Lt y x true t line
operator_code Ge x y t line = truth_code Le y x true t line

-- The second operand is a numeral in the instruction. A difference is the sum with the opposite, and bits are moved up by moving them down by the opposite; the event is told the
-- numeral itself

abbrev pub sum_code : Opcode → (field event x n t line : ℕ) → List Coded
sum_code op field event x n t line = with_abc op t x field line ∷ with_abc MmBinI x (n + 127) event line ∷ []

abbrev pub number_opcode : BinOp → Opcode
number_opcode Less = LtI
number_opcode AtMost = LeI
number_opcode Gt = GtI
number_opcode Ge = GeI
number_opcode _ = EqI

abbrev pub number_code : BinOp → (x n t line : ℕ) → List Coded
number_code Plus x n t line = sum_code AddI (n + 127) 6 x n t line
number_code Minus x n t line = sum_code AddI (127 - n) 7 x n t line
number_code ShiftLeft x n t line = sum_code ShrI (127 - n) 16 x n t line
number_code ShiftRight x n t line = sum_code ShrI (n + 127) 17 x n t line
number_code Equal x n t line = truth_code EqI x (n + 127) true t line
number_code Ne x n t line = truth_code EqI x (n + 127) false t line
number_code Less x n t line = truth_code LtI x (n + 127) true t line
number_code AtMost x n t line = truth_code LeI x (n + 127) true t line
number_code Gt x n t line = truth_code GtI x (n + 127) true t line
number_code Ge x n t line = truth_code GeI x (n + 127) true t line
number_code _ x n t line = []

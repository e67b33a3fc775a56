-- Where the operands of an operator, or an object and its key, stand. The second one may be a numeral in the instruction, and a local stays in its own register where nothing is
-- evaluated between its turn and the instruction; any other operand has a register of its own.
use Rattle.std.specs.Prelude.{ℕ, zero, suc, ◌+◌, ℤ, pos, negsuc, Bool, true, false, not, ◌||◌, cond, List, [], ◌++◌, max, nat_le, Option, Some, None}
use Rattle.tree_core.specs.declared.name.Place.{Place}
use Rattle.tree_core.specs.declared.name.Place.TheVariants.{Local as LocalPlace}
use Rattle.tree_core.specs.declared.operator.BinOp.{BinOp}
use Rattle.tree_core.specs.declared.operator.BinOp.TheVariants.{Add as Plus, Sub as Minus, Shl as ShiftLeft, Shr as ShiftRight, Concat as Join, Eq as Equal, Ne, Lt as Less, Le as AtMost, Gt, Ge}
use Rattle.tree_core.specs.Tree.{Exp, Nil, True, False, Int, Str, Var, Index, Unary, Binary, Paren, Exps, EndExps, MoreExps}
use Rattle.code_of.specs.Coded.{Coded}
use Rattle.code_of.specs.Truths.{is_compared}

-- the local that an expression names, in brackets or not

abbrev pub local_at : Place → Option ℕ
local_at (LocalPlace r) = Some r
local_at _ = None

abbrev pub local_of : Exp → Option ℕ
local_of (Var line name) = local_at name.place
local_of (Paren line e) = local_of e
local_of _ = None

-- the local that is all of a list
abbrev pub lone_local : Exps → Option ℕ
lone_local (MoreExps e EndExps) = local_of e
lone_local _ = None

-- the greatest numeral that may stand in an operator's instruction, whose fields sB and sC have 127 added; that of `-` and `<<` stands there as its opposite
abbrev pub greatest : BinOp → Option ℕ
greatest Plus = Some 128
greatest Minus = Some 127
greatest ShiftLeft = Some 127
greatest ShiftRight = Some 128
greatest Equal = Some 128
greatest Ne = Some 128
greatest Less = Some 128
greatest AtMost = Some 128
greatest Gt = Some 128
greatest Ge = Some 128
greatest _ = None

abbrev pub up_to : (most : ℕ) → ℤ → Option ℕ
up_to most (pos n) = cond (nat_le n most) (Some n) None
up_to most (negsuc n) = None

abbrev pub numeral_of : Exp → (most : Option ℕ) → Option ℕ
numeral_of (Int line z) (Some most) = up_to most z
numeral_of _ _ = None

-- SHRI moves the bits up by the opposite of its number, which is at least 1
abbrev pub from_one : Option ℕ → Option ℕ
from_one (Some (suc n)) = Some (suc n)
from_one (Some zero) = None
from_one None = None

-- the second operand of an operator, where it is a numeral in the instruction
abbrev pub operand_numeral : BinOp → Exp → Option ℕ
operand_numeral ShiftLeft d = from_one (numeral_of d (greatest ShiftLeft))
operand_numeral op d = numeral_of d (greatest op)

-- `..` joins registers that follow each other
abbrev pub joins : BinOp → Bool
joins Join = true
joins _ = false

-- the second operand is a numeral, a local, or made in the register above the first one's
pub data Second : Type 0 where
  a_number : (n : ℕ) → Second
  a_local : (r : ℕ) → Second
  made : Second

abbrev pub second_by : (number local : Option ℕ) → Second
second_by (Some n) local = a_number n
second_by None (Some r) = a_local r
second_by None None = made

abbrev pub second_of : BinOp → Exp → Second
second_of op d = cond (joins op) made (second_by (operand_numeral op d) (local_of d))

-- the key of a field: GETI holds numbers up to 255
abbrev pub key_operand : Exp → Second
key_operand key = second_by (numeral_of key (Some 255)) (local_of key)

-- Some expressions have one instruction at their end that writes their value: a constant, a name, an operator that is neither a comparison, `..`, `and` nor `or`,
-- and a field, in brackets or not. Where a local is assigned such a value alone, it goes straight to the local's register

abbrev pub computes : BinOp → Bool
computes op = not (joins op || is_compared op)

-- an integer, a string, nil or a Boolean, written as such
abbrev pub is_literal : Exp → Bool
is_literal (Int line z) = true
is_literal (Str line bytes) = true
is_literal (Nil line) = true
is_literal (True line) = true
is_literal (False line) = true
is_literal _ = false

abbrev pub is_direct : Exp → Bool
is_direct (Var line name) = true
is_direct (Unary line op e) = true
is_direct (Binary line op e d) = computes op
is_direct (Index line object key) = true
is_direct (Paren line e) = is_direct e
is_direct e = is_literal e

abbrev pub target_local : Exp → Option ℕ
target_local (Var line name) = local_at name.place
target_local _ = None

abbrev pub assigned : (targets es : Exps) → Option ℕ
assigned (MoreExps x EndExps) (MoreExps e EndExps) = cond (is_direct e) (target_local x) None
assigned _ _ = None

-- where two values go to two targets, the second one goes to a local so too: it is stored first
abbrev pub second_assigned : (targets es : Exps) → Option ℕ
second_assigned (MoreExps x (MoreExps y EndExps)) (MoreExps e (MoreExps d EndExps)) = cond (is_direct d) (target_local y) None
second_assigned _ _ = None

-- the register of a local that is the first operand; any other one is made in register t
abbrev pub first_of : Second → Exp → Option ℕ
first_of made e = None
first_of (a_number n) e = local_of e
first_of (a_local r) e = local_of e

abbrev pub seat : Option ℕ → (t : ℕ) → ℕ
seat None t = t
seat (Some r) t = r

abbrev pub unless : Option ℕ → List Coded → List Coded
unless None code = code
unless (Some r) code = []

-- an operand that is alone, of which the code is given, and what is done then with its register
abbrev pub operand_code : Option ℕ → (first : List Coded) → (t : ℕ) → (by_register : ℕ → List Coded) → List Coded
operand_code at first t by_register = unless at first ++ by_register (seat at t)

-- the second operand and what is done then, with its register or with its number
abbrev pub second_code : Second → (code : List Coded) → (t : ℕ) → (by_register by_number : ℕ → List Coded) → List Coded
second_code made code t by_register by_number = code ++ by_register (t + 1)
second_code (a_local r) code t by_register by_number = by_register r
second_code (a_number n) code t by_register by_number = by_number n

-- both operands, of which the code is given
abbrev pub operands_code : Second → Option ℕ → (first second : List Coded) → (t : ℕ) → (by_register by_number : (x y : ℕ) → List Coded) → List Coded
operands_code second at first_code code t by_register by_number =
    unless at first_code ++ second_code second code t (by_register (seat at t)) (by_number (seat at t))

-- how many registers they take from t on, and `own` what is done with them
abbrev pub operands_room : (own : ℕ) → Second → Option ℕ → (first second : ℕ) → ℕ
operands_room own made at first second = max first (1 + second)
operands_room own (a_local r) None first second = first
operands_room own (a_local r) (Some x) first second = own
operands_room own (a_number n) None first second = first
operands_room own (a_number n) (Some x) first second = own

-- The code of an operator between two operands. The second one is a constant in the instruction where its number in the table has 8 bits, else it is a numeral in the instruction
-- or stands in a register.
use Rattle.std.specs.Prelude.{ℕ, Bool, true, false, cond, List, [], ◌∷◌, ◌++◌, length, nat_lt, Option, Some, None}
use Rattle.tree_core.specs.declared.operator.BinOp.{BinOp}
use Rattle.tree_core.specs.declared.operator.BinOp.TheVariants.{Add as Plus, Sub as Minus, Mul as Times, Mod as Modulo, Idiv, Band, Bor, Bxor, Eq as Equal, Ne}
use Rattle.tree_core.specs.Tree.{Exp}
use Rattle.code_core.specs.declared.opcode.Opcode.{Opcode}
use Rattle.code_core.specs.declared.opcode.Opcode.TheVariants.{AddK, SubK, MulK, ModK, IDivK, BAndK, BOrK, BXorK, MmBinK, EqK}
use Rattle.code_core.specs.declared.proto.Const.{Const}
use Rattle.code_of.specs.Coded.{Coded, with_abc}
use Rattle.code_of.specs.Constants.{number_in}
use Rattle.code_of.specs.ConstantOperands.{constant_of}
use Rattle.code_of.specs.Operands.{local_of, second_of, first_of, seat, unless, operands_code, operands_room}
use Rattle.code_of.specs.Operators.{operator_code, number_code, truth_code}
use Rattle.code_of.specs.Stores.{short_number}
use Rattle.code_of.specs.FieldReads.{object_room}

-- the number of a constant that is in the table, if it has 8 bits
abbrev pub short_in : List Const → Const → Option ℕ
short_in constants x = cond (nat_lt (number_in constants x) (length constants)) (short_number (number_in constants x)) None

abbrev pub short_of : List Const → Option Const → Option ℕ
short_of constants None = None
short_of constants (Some x) = short_in constants x

-- the number of the constant that is the second operand
abbrev pub constant_in : List Const → BinOp → Exp → Option ℕ
constant_in constants op d = short_of constants (constant_of op d)

-- the first operand stands in register x, and the result goes to t. MMBINK names the event by its number in ltm.h

abbrev pub constant_arithmetic : Opcode → (event x number t line : ℕ) → List Coded
constant_arithmetic op event x number t line = with_abc op t x number line ∷ with_abc MmBinK x number event line ∷ []

abbrev pub constant_code : BinOp → (x number t line : ℕ) → List Coded
constant_code Plus x number t line = constant_arithmetic AddK 6 x number t line
constant_code Minus x number t line = constant_arithmetic SubK 7 x number t line
constant_code Times x number t line = constant_arithmetic MulK 8 x number t line
constant_code Modulo x number t line = constant_arithmetic ModK 9 x number t line
constant_code Idiv x number t line = constant_arithmetic IDivK 12 x number t line
constant_code Band x number t line = constant_arithmetic BAndK 13 x number t line
constant_code Bor x number t line = constant_arithmetic BOrK 14 x number t line
constant_code Bxor x number t line = constant_arithmetic BXorK 15 x number t line
constant_code Equal x number t line = truth_code EqK x number true t line
constant_code Ne x number t line = truth_code EqK x number false t line
constant_code _ x number t line = []

-- Both operands, of which the code is given, and what is done with them. A first operand that is a local stays in its register beside a constant
abbrev pub operation_by : (constant : Option ℕ) → BinOp → (e d : Exp) → (first second : List Coded) → (t : ℕ) → (by_constant by_register by_number : (x y : ℕ) → List Coded) → List Coded
operation_by (Some number) op e d first second t by_constant by_register by_number = unless (local_of e) first ++ by_constant (seat (local_of e) t) number
operation_by None op e d first second t by_constant by_register by_number = operands_code (second_of op d) (first_of (second_of op d) e) first second t by_register by_number

-- the result goes to register r, and the operands that are made to t and t + 1
abbrev pub operation_code : (constant : Option ℕ) → BinOp → (e d : Exp) → (first second : List Coded) → (r t line : ℕ) → List Coded
operation_code constant op e d first second r t line =
    operation_by constant op e d first second t (λ x number. constant_code op x number r line) (λ x y. operator_code op x y r line) (λ x n. number_code op x n r line)

-- how many registers are taken from t on, and `own` what is done with the operands
abbrev pub operation_room : (own : ℕ) → (constant : Option ℕ) → BinOp → (e d : Exp) → (first second : ℕ) → ℕ
operation_room own (Some number) op e d first second = object_room own (local_of e) first
operation_room own None op e d first second = operands_room own (second_of op d) (first_of (second_of op d) e) first second

-- Where operands stand once they are written.
use Rattle.std.specs.Prelude.{ℕ, ◌+◌, List, ◌++◌, Option, Some, None}
use Rattle.tree_core.specs.Tree.{Exp, Index, Unary, Binary, Paren}
use Rattle.code_of.specs.Coded.{Coded}
use Rattle.code_of.specs.Expressions.{made_by}
use Rattle.code_of.specs.Operands.{Second, a_number, a_local, made, seat, unless}
use Rattle.code_emitter.specs.declared.operands.Operands.{Operands}
use Rattle.code_emitter.specs.declared.operands.Second.{Second as Standing}
use Rattle.code_emitter.specs.declared.operands.Second.TheVariants.{Constant, Number, Register}

abbrev pub number_of_second : Second → Option ℕ
number_of_second (a_number n) = Some n
number_of_second _ = None

abbrev pub local_of_second : Second → Option ℕ
local_of_second (a_local r) = Some r
local_of_second _ = None

-- a second operand that is not made
abbrev pub staying : Second → Option Standing
staying (a_number n) = Some (Number n)
staying (a_local r) = Some (Register r)
staying made = None

-- one that may be a constant in the instruction, of which the number is known
abbrev pub operation_staying : Option ℕ → Second → Option Standing
operation_staying (Some number) s = Some (Constant number)
operation_staying None s = staying s

-- the second operand of an operator whose result goes to register t
abbrev pub standing : Second → (t : ℕ) → Standing
standing (a_number n) t = Number n
standing (a_local r) t = Register r
standing made t = Register (t + 1)

-- Both operands, where it is known whether and where the second one stays, and the local that the first one names: their code, how many functions
-- they make, and where they stand

abbrev pub stays_code : Option Standing → (local : Option ℕ) → (first second : List Coded) → List Coded
stays_code None local first second = first ++ second
stays_code (Some x) local first second = unless local first

abbrev pub stays_made : Option Standing → (first second : ℕ) → ℕ
stays_made None first second = first + second
stays_made (Some x) first second = first

abbrev pub stays_at : Option Standing → (local : Option ℕ) → (t : ℕ) → Operands
stays_at None local t = record { first = t; second = Register (t + 1) }
stays_at (Some x) local t = record { first = seat local t; second = x }

-- how many functions an expression makes whose value goes straight to a register
abbrev pub made_directly : Exp → ℕ
made_directly (Paren line e) = made_directly e
made_directly (Unary line op e) = made_by e
made_directly (Index line object key) = made_by object + made_by key
made_directly (Binary line op e d) = made_by e + made_by d
made_directly _ = 0

-- the code of both operands
abbrev pub seated_code : Second → Option ℕ → (first second : List Coded) → List Coded
seated_code made at first second = first ++ second
seated_code (a_local r) at first second = unless at first
seated_code (a_number n) at first second = unless at first

-- what is done with them, by how the second one stands
abbrev pub done_code : Standing → (x : ℕ) → (by_constant by_register by_number : (x y : ℕ) → List Coded) → List Coded
done_code (Constant n) x by_constant by_register by_number = by_constant x n
done_code (Number n) x by_constant by_register by_number = by_number x n
done_code (Register y) x by_constant by_register by_number = by_register x y

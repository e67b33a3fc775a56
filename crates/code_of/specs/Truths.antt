-- Instructions that find a truth, and how operators compare.
use Rattle.std.specs.Prelude.{ℕ, Bool, true, false, cond, List, [], ◌∷◌, Option, Some, None}
use Rattle.tree_core.specs.declared.operator.UnOp.{UnOp}
use Rattle.tree_core.specs.declared.operator.UnOp.TheVariants.{Not as Negation}
use Rattle.tree_core.specs.declared.operator.BinOp.{BinOp}
use Rattle.tree_core.specs.declared.operator.BinOp.TheVariants.{Eq as Equal, Ne, Lt as Less, Le as AtMost, Gt, Ge}
use Rattle.tree_core.specs.Tree.{Exp, Nil, True, False, Int, Str, Vararg, Function, Var, Index, Call, Method, Unary, Binary, And, Or, Paren, Table}
use Rattle.code_core.specs.declared.opcode.Opcode.{Opcode}
use Rattle.code_core.specs.declared.opcode.Opcode.TheVariants.{LoadFalse, LoadTrue, Test, TestSet, Eq, Lt, Le}
use Rattle.code_core.specs.Instruction.{abc}
use Rattle.code_of.specs.Coded.{Coded, with_abc, jump_over}

-- an instruction that finds a truth of x and y, and the jump behind it, which is taken where that truth is `field` and else passed
abbrev pub jump_if : Opcode → (x y : ℕ) → (field : Bool) → (ahead line : ℕ) → List Coded
jump_if op x y field ahead line = (abc op x y 0 field, line) ∷ jump_over ahead line ∷ []

-- one of two
abbrev pub pick : {A : Type 0} → (second : Bool) → A → A → A
pick true x y = y
pick false x y = x

-- How an operator compares: by which opcode, whether with its operands swapped (`a > b` is `b < a`), and which finding of the instruction makes
-- the operator true (`~=` is true where EQ finds false). For an operator that does not compare it is `other`.
abbrev pub compared : {A : Type 0} → BinOp → A → (Opcode → (swapped wanted : Bool) → A) → A
compared Equal other by = by Eq false true
compared Ne other by = by Eq false false
compared Less other by = by Lt false true
compared AtMost other by = by Le false true
compared Gt other by = by Lt true true
compared Ge other by = by Le true true
compared _ other by = other

abbrev pub is_compared : BinOp → Bool
is_compared op = compared op false (λ opcode swapped wanted. true)

abbrev pub is_not : UnOp → Bool
is_not Negation = true
is_not _ = false

-- the line that an expression has in the tree
abbrev pub line_of : Exp → ℕ
line_of (Nil line) = line
line_of (True line) = line
line_of (False line) = line
line_of (Int line n) = line
line_of (Str line bytes) = line
line_of (Vararg line) = line
line_of (Function line body) = line
line_of (Var line name) = line
line_of (Index line object key) = line
line_of (Call line f es) = line
line_of (Method line object name es) = line
line_of (Unary line op e) = line
line_of (Binary line op e d) = line
line_of (And line e d) = line
line_of (Or line e d) = line
line_of (Paren line e) = line
line_of (Table line fs) = line

-- where the truth is k, register t gets the value and the jump is taken; else it is passed. A local's value goes there by the test, and any other value is there already
abbrev pub set_if : Option ℕ → (k : Bool) → (ahead t line : ℕ) → List Coded
set_if None k ahead t line = jump_if Test t 0 k ahead line
set_if (Some x) k ahead t line = (abc TestSet t x 0 k, line) ∷ jump_over ahead line ∷ []

-- register t gets a truth that is known, and the jump is taken
abbrev pub load_truth : (k : Bool) → (ahead t line : ℕ) → List Coded
load_truth k ahead t line = with_abc (cond k LoadTrue LoadFalse) t 0 0 line ∷ jump_over ahead line ∷ []

-- Each expression has code, and so have values that are wanted.
use Rattle.std.proofs.Common.{◌≡◌, ℕ, suc, ◌+◌, ◌≤◌, Bool, true, false, cond, List, [], ◌∷◌, ◌++◌, length, Option, Some, None, refl, arith, length-append}
use Rattle.std.specs.Prelude.{nat_lt}
use Rattle.tree_core.specs.declared.name.Place.{Place}
use Rattle.tree_core.specs.declared.name.Place.TheVariants.{Unset, Upvalue, GlobalIn, GlobalOf}
use Rattle.tree_core.specs.declared.name.Place.TheVariants.{Local as LocalPlace}
use Rattle.tree_core.specs.declared.operator.BinOp.{BinOp}
use Rattle.tree_core.specs.declared.operator.BinOp.TheVariants.{Add as Plus, Mul as Times, Mod as Modulo, Idiv, Band, Bor, Bxor, Concat as Join}
use Rattle.tree_core.specs.Tree.{Exp, Int, Str, Var, Index, Call, Method, Unary, Binary, And, Or, Paren, Exps, EndExps, MoreExps}
use Rattle.code_core.specs.declared.opcode.Opcode.TheVariants.{LoadI, LoadK, LoadKx, ExtraArg, GetUpval, GetTabUp, GetTable, GetI, GetField, Call as CallCode}
use Rattle.code_core.specs.declared.proto.Const.{Const}
use Rattle.code_core.specs.declared.proto.Const.TheVariants.{Int as IntConst, Str as StrConst}
use Rattle.code_core.specs.Instruction.{op_ax}
use Rattle.code_of.specs.Coded.{Coded, with_abc, with_abx}
use Rattle.code_of.specs.Constants.{number_in, is_small, small_field, loads_numbered, loads}
use Rattle.code_of.specs.Operands.{local_of, joins, operand_numeral, Second, a_number, a_local, made, second_of, key_operand, first_of, unless, seat, operands_code}
use Rattle.code_of.specs.Stores.{name_in}
use Rattle.code_of.specs.FieldReads.{read_code}
use Rattle.code_of.specs.Operators.{name_code, self_code, prefix_code, operator_code, number_code}
use Rattle.code_of.specs.Expressions.{made_by, list_field, field_of, exp_code, exps_code, kept_by}
use Rattle.code_of.specs.Operations.{constant_in, constant_code, operation_code}
use Rattle.code_of.specs.Chains.{chain_code}
use Rattle.code_of.proofs.Operations.{constant_is, operand_form, constant_some}
use Rattle.code_of.proofs.Operands.{numeral_none, second_number}

some_behind : (xs ys : List Coded) → 1 ≤ length ys → 1 ≤ length (xs ++ ys)
some_behind xs ys h = let sum = length-append xs ys in omega (arith, sum, h)

some_before : (xs ys : List Coded) → 1 ≤ length xs → 1 ≤ length (xs ++ ys)
some_before xs ys h = let sum = length-append xs ys in omega (arith, sum, h)

one_some : (b : Bool) (xs ys : List Coded) → 1 ≤ length xs → 1 ≤ length ys → 1 ≤ length (cond b xs ys)
one_some true xs ys h k = h
one_some false xs ys h k = k

numbered_some : (number t line : ℕ) → 1 ≤ length (loads_numbered number t line)
numbered_some number t line = by (nat_lt number 131072)
  where
    by : (b : Bool) → 1 ≤ length (cond b (with_abx LoadK t number line ∷ []) (with_abx LoadKx t 0 line ∷ (op_ax ExtraArg number, line) ∷ []))
    by true = omega arith
    by false = omega arith

operator_some : (op : BinOp) (x y t line : ℕ) → 1 ≤ length (operator_code op x y t line)
operator_some Plus x y t line = omega arith
operator_some _ x y t line = omega arith

-- an operator that takes no numeral is never asked for one
number_some : (op : BinOp) (d : Exp) (m : ℕ) → operand_numeral op d ≡ Some m → (x n t line : ℕ) → 1 ≤ length (number_code op x n t line)
number_some Times d m e x n t line = absurd (numeral_none d m e)
number_some Modulo d m e x n t line = absurd (numeral_none d m e)
number_some Idiv d m e x n t line = absurd (numeral_none d m e)
number_some Band d m e x n t line = absurd (numeral_none d m e)
number_some Bor d m e x n t line = absurd (numeral_none d m e)
number_some Bxor d m e x n t line = absurd (numeral_none d m e)
number_some Join d m e x n t line = absurd (numeral_none d m e)
number_some _ d m e x n t line = omega arith

operands_some : (s : Second) (at : Option ℕ) (first code : List Coded) (t : ℕ) (by num : (x y : ℕ) → List Coded) → ((x y : ℕ) → 1 ≤ length (by x y)) → ((n : ℕ) → s ≡ a_number n → (x : ℕ) → 1 ≤ length (num x n))
    → 1 ≤ length (operands_code s at first code t by num)
operands_some made at first code t by num e d = some_behind (unless at first) _ (some_behind code (by (seat at t) (t + 1)) (e (seat at t) (t + 1)))
operands_some (a_local r) at first code t by num e d = some_behind (unless at first) (by (seat at t) r) (e (seat at t) r)
operands_some (a_number n) at first code t by num e d = some_behind (unless at first) (num (seat at t) n) (d n refl (seat at t))

read_some : (name : Option ℕ) (object key : Exp) (first second : List Coded) (r t line : ℕ) → 1 ≤ length (read_code name object key first second r t line)
read_some (Some number) object key first second r t line = some_behind (unless (local_of object) first) (with_abc GetField r (seat (local_of object) t) number line ∷ []) (omega arith)
read_some None object key first second r t line = operands_some (key_operand key) (first_of (key_operand key) object) first second t (λ x y. with_abc GetTable r x y line ∷ []) (λ x n. with_abc GetI r x n line ∷ []) (λ x y. omega arith) (λ n is x. omega arith)

operation_some : (cs : List Const) (op : BinOp) (e d : Exp) (first second : List Coded) (r t line : ℕ) (o : Option ℕ) → constant_in cs op d ≡ o → 1 ≤ length (operation_code o op e d first second r t line)
operation_some cs op e d first second r t line (Some number) h =
    let f = constant_is cs op d number h in
    some_behind (unless (local_of e) first) (constant_code op (seat (local_of e) t) number r line) (constant_some op d f.value (operand_form op d f.value f.is) (seat (local_of e) t) number r line)
operation_some cs op e d first second r t line None h =
    operands_some (second_of op d) (first_of (second_of op d) e) first second t (λ x y. operator_code op x y r line) (λ x n. number_code op x n r line)
    (λ x y. operator_some op x y r line) (λ n is x. number_some op d n (second_number op d n is) x n r line)

module _ (cs : List Const) where
  name_some : (place : Place) (text : List ℕ) (t line : ℕ) → 1 ≤ length (name_code cs place text t line)
  name_some Unset text t line = omega arith
  name_some (LocalPlace n) text t line = omega arith
  name_some (Upvalue u) text t line = omega arith
  name_some (GlobalIn n) text t line = by (nat_lt (number_in cs (StrConst text)) 256)
    where
      by : (b : Bool) → 1 ≤ length (cond b (with_abc GetField t n (number_in cs (StrConst text)) line ∷ []) (loads cs (StrConst text) t line ++ with_abc GetTable t n t line ∷ []))
      by true = omega arith
      by false = some_behind (loads cs (StrConst text) t line) (with_abc GetTable t n t line ∷ []) (omega arith)
  name_some (GlobalOf u) text t line = by (nat_lt (number_in cs (StrConst text)) 256)
    where
      by : (b : Bool) → 1 ≤ length (cond b (with_abc GetTabUp t u (number_in cs (StrConst text)) line ∷ []) (with_abc GetUpval t u 0 line ∷ (loads cs (StrConst text) (t + 1) line ++ with_abc GetTable t t (t + 1) line ∷ [])))
      by true = omega arith
      by false = omega arith

  pub exp_some : (e : Exp) (t j c : ℕ) → 1 ≤ length (exp_code cs e t j c)
  exp_some (Int line n) t j c = by (is_small n)
    where
      by : (b : Bool) → 1 ≤ length (cond b (with_abx LoadI t (small_field n) line ∷ []) (loads cs (IntConst n) t line))
      by true = omega arith
      by false = numbered_some (number_in cs (IntConst n)) t line
  exp_some (Str line bytes) t j c = numbered_some (number_in cs (StrConst bytes)) t line
  exp_some (Var line name) t j c = name_some name.place name.text t line
  exp_some (Index line object key) t j c = read_some (name_in cs key) object key (exp_code cs object t j 2) (exp_code cs key (t + 1) (j + made_by object) 2) t t line
  exp_some (Call line f es) t j c = some_before (exp_code cs f t j 2) _ (exp_some f t j 2)
  exp_some (Method line object name es) t j c =
      let x = seat (local_of object) t in
      some_behind (unless (local_of object) (exp_code cs object t j 2)) _
      (some_behind (self_code cs name.text x t line) _ (some_behind (exps_code cs es None (t + 2) (j + made_by object) line) (with_abc CallCode t (list_field 1 es) c line ∷ []) (omega arith)))
  exp_some (Unary line op e) t j c = some_behind (unless (local_of e) (exp_code cs e t j 2)) (prefix_code op (seat (local_of e) t) t line) (omega arith)
  exp_some (Binary line op e d) t j c =
      let first = exp_code cs e t j 2 in
      let second = exp_code cs d (t + 1) (j + made_by e) 2 in
      one_some (joins op) (chain_code line d first second t) (operation_code (constant_in cs op d) op e d first second t t line) (some_before first _ (exp_some e t j 2))
      (operation_some cs op e d first second t t line (constant_in cs op d) refl)
  exp_some (And line e d) t j c =
      let second = exp_code cs d t (j + made_by e) 2 in
      some_behind (kept_by cs e (exp_code cs e t j 2) false (length second) t j) second (exp_some d t (j + made_by e) 2)
  exp_some (Or line e d) t j c =
      let second = exp_code cs d t (j + made_by e) 2 in
      some_behind (kept_by cs e (exp_code cs e t j 2) true (length second) t j) second (exp_some d t (j + made_by e) 2)
  exp_some (Paren line e) t j c = exp_some e t j 2
  exp_some _ t j c = omega arith

  -- where a value is wanted, there is code
  pub values_some : (es : Exps) (n t j line : ℕ) → 1 ≤ length (exps_code cs es (Some (suc n)) t j line)
  values_some EndExps n t j line = omega arith
  values_some (MoreExps e es) n t j line = some_before (exp_code cs e t j (field_of e es (Some (suc n)))) _ (exp_some e t j (field_of e es (Some (suc n))))

-- The code of a condition, and of a first operand whose value is kept, is short where the code of the values is. The laws of the parts are given.
use Rattle.std.proofs.Common.{◌≡◌, ℕ, ◌+◌, ◌*◌, ◌≤◌, Bool, true, false, cond, not, List, ◌++◌, length, refl, arith, length-append}
use Rattle.tree_core.specs.declared.operator.UnOp.{UnOp}
use Rattle.tree_core.specs.declared.operator.UnOp.TheVariants.{Not as Negation}
use Rattle.tree_core.specs.declared.operator.BinOp.{BinOp}
use Rattle.tree_core.specs.declared.operator.BinOp.TheVariants.{Eq as Equal, Ne, Lt as Less, Le as AtMost, Gt, Ge}
use Rattle.tree_core.specs.Tree.{Exp, True, Unary, Binary, And, Or, Paren}
use Rattle.tree_terms.specs.Weight.{weight}
use Rattle.code_core.specs.declared.opcode.Opcode.{Opcode}
use Rattle.code_core.specs.declared.opcode.Opcode.TheVariants.{Test, Eq, Lt, Le, EqK, EqI, LtI, LeI, GtI, GeI}
use Rattle.code_core.specs.declared.proto.Const.{Const}
use Rattle.code_of.specs.Coded.{Coded}
use Rattle.code_of.specs.Conditions.{value_test, test_code, keep_code}
use Rattle.code_of.specs.Expressions.{made_by, exp_code, kept_value}
use Rattle.code_of.specs.Operands.{local_of, unless}
use Rattle.code_of.specs.Operations.{constant_in, operation_by}
use Rattle.code_of.specs.Truths.{jump_if, is_compared, line_of, set_if, load_truth}
use Rattle.code_of.proofs.Operands.{unless_short, operand_short}
use Rattle.code_of.proofs.Operations.{operation_short}
use Rattle.code_of.proofs.Truths.{set_sized}

-- a test and its jump pay for what an expression leaves over

module _ (cs : List Const) where
  abbrev pub ValueShort : Exp → Type 0
  ValueShort e = (t j : ℕ) → length (exp_code cs e t j 2) + 2 ≤ 6 * weight e

  abbrev pub Short : Exp → Type 0
  Short e = (k : Bool) (ahead t j : ℕ) → length (test_code cs e k ahead t j) ≤ 6 * weight e

  pub value_short : (e : Exp) → ValueShort e → (k : Bool) (ahead t j : ℕ) → length (value_test cs e k ahead t j) ≤ 6 * weight e
  value_short e law k ahead t j = omega (arith, law t j, operand_short (local_of e) (exp_code cs e t j 2) t (λ x. jump_if Test x 0 (not k) ahead (line_of e)) 2 (λ x. omega arith))

  pub not_short : (line : ℕ) (op : UnOp) (e : Exp) → ValueShort (Unary line op e) → Short e → Short (Unary line op e)
  not_short line Negation e value h k ahead t j = let a = h (not k) ahead t j in omega (arith, a)
  not_short line op e value h k ahead t j = value_short (Unary line op e) value k ahead t j

  -- a comparison leaves two instructions over
  module _ (line : ℕ) (op : BinOp) (e d : Exp) (short_e : ValueShort e) (short_d : ValueShort d) (ahead t j : ℕ) where
    abbrev compare_code : (x y : ℕ → ℕ → ℕ) → (opcode number_op : Opcode) → (field : Bool) → List Coded
    compare_code x y opcode number_op field =
        operation_by (constant_in cs op d) op e d (exp_code cs e t j 2) (exp_code cs d (t + 1) (j + made_by e) 2) t
        (λ m n. jump_if EqK m n field ahead line) (λ m n. jump_if opcode (x m n) (y m n) field ahead line) (λ m n. jump_if number_op m (n + 127) field ahead line)

    compare_short : (x y : ℕ → ℕ → ℕ) (opcode number_op : Opcode) (field : Bool) → length (compare_code x y opcode number_op field) + 2 ≤ 6 * weight (Binary line op e d)
    compare_short x y opcode number_op field =
        omega (
          arith,
          short_e t j,
          short_d (t + 1) (j + made_by e),
          operation_short (constant_in cs op d) op e d (exp_code cs e t j 2) (exp_code cs d (t + 1) (j + made_by e) 2) t (λ m n. jump_if EqK m n field ahead line) (λ m n. jump_if opcode (x m n) (y m n) field ahead line) (λ m n. jump_if number_op m (n + 127) field ahead line) 2 (λ m n. omega arith) (λ m n. omega arith) (λ m n. omega arith),
        )

  compared_short : (line : ℕ) (op : BinOp) (e d : Exp) → ValueShort e → ValueShort d → is_compared op ≡ true → (k : Bool) (ahead t j : ℕ) → length (test_code cs (Binary line op e d) k ahead t j) + 2 ≤ 6 * weight (Binary line op e d)
  compared_short line Equal e d a b is k ahead t j = compare_short line Equal e d a b ahead t j (λ x y. x) (λ x y. y) Eq EqI (not k)
  compared_short line Ne e d a b is k ahead t j = compare_short line Ne e d a b ahead t j (λ x y. x) (λ x y. y) Eq EqI k
  compared_short line Less e d a b is k ahead t j = compare_short line Less e d a b ahead t j (λ x y. x) (λ x y. y) Lt LtI (not k)
  compared_short line AtMost e d a b is k ahead t j = compare_short line AtMost e d a b ahead t j (λ x y. x) (λ x y. y) Le LeI (not k)
  compared_short line Gt e d a b is k ahead t j = compare_short line Gt e d a b ahead t j (λ x y. y) (λ x y. x) Lt GtI (not k)
  compared_short line Ge e d a b is k ahead t j = compare_short line Ge e d a b ahead t j (λ x y. y) (λ x y. x) Le GeI (not k)
  compared_short line _ e d a b is k ahead t j = absurd (cc)

  pub binary_short : (line : ℕ) (op : BinOp) (e d : Exp) → ValueShort (Binary line op e d) → ValueShort e → ValueShort d → Short (Binary line op e d)
  binary_short line Equal e d value a b k ahead t j = let h = compared_short line Equal e d a b refl k ahead t j in omega (arith, h)
  binary_short line Ne e d value a b k ahead t j = let h = compared_short line Ne e d a b refl k ahead t j in omega (arith, h)
  binary_short line Less e d value a b k ahead t j = let h = compared_short line Less e d a b refl k ahead t j in omega (arith, h)
  binary_short line AtMost e d value a b k ahead t j = let h = compared_short line AtMost e d a b refl k ahead t j in omega (arith, h)
  binary_short line Gt e d value a b k ahead t j = let h = compared_short line Gt e d a b refl k ahead t j in omega (arith, h)
  binary_short line Ge e d value a b k ahead t j = let h = compared_short line Ge e d a b refl k ahead t j in omega (arith, h)
  binary_short line op e d value a b k ahead t j = value_short (Binary line op e d) value k ahead t j

  pub true_short : (line : ℕ) → Short (True line)
  true_short line true ahead t j = omega arith
  true_short line false ahead t j = omega arith

  pub paren_short : (line : ℕ) (e : Exp) → Short e → Short (Paren line e)
  paren_short line e h k ahead t j = let a = h k ahead t j in omega (arith, a)

  pub and_short : (line : ℕ) (e d : Exp) → Short e → Short d → Short (And line e d)
  and_short line e d short_e short_d k ahead t j =
      let second = test_code cs d k ahead t (j + made_by e) in
      let front = test_code cs e true (length second + cond k ahead 0) t j in
      omega (arith, short_e true (length second + cond k ahead 0) t j, short_d k ahead t (j + made_by e), length-append front second)

  pub or_short : (line : ℕ) (e d : Exp) → Short e → Short d → Short (Or line e d)
  or_short line e d short_e short_d k ahead t j =
      let second = test_code cs d k ahead t (j + made_by e) in
      let front = test_code cs e false (length second + cond k 0 ahead) t j in
      omega (arith, short_e false (length second + cond k 0 ahead) t j, short_d k ahead t (j + made_by e), length-append front second)

  -- a first operand, whose value is kept

  abbrev pub KeepShort : Exp → Type 0
  KeepShort e = (k : Bool) (ahead t j : ℕ) → length (keep_code cs e k ahead t j) ≤ 6 * weight e

  pub leaf_short : (e : Exp) → ValueShort e → (k : Bool) (ahead t j : ℕ) → length (kept_value e (exp_code cs e t j 2) k ahead t) ≤ 6 * weight e
  leaf_short e law k ahead t j =
      let value = exp_code cs e t j 2 in
      omega (
        arith,
        law t j,
        unless_short (local_of e) value,
        set_sized (local_of e) k ahead t (line_of e),
        length-append (unless (local_of e) value) (set_if (local_of e) k ahead t (line_of e)),
      )

  -- the condition, and what loads its truth
  truth_keeps : (e : Exp) (k : Bool) (ahead t j : ℕ) → length (test_code cs e k 2 t j) + 2 ≤ 6 * weight e → length (test_code cs e k 2 t j ++ load_truth k ahead t (line_of e)) ≤ 6 * weight e
  truth_keeps e k ahead t j h = omega (arith, h, length-append (test_code cs e k 2 t j) (load_truth k ahead t (line_of e)))

  pub unary_keeps : (line : ℕ) (op : UnOp) (e : Exp) → ValueShort (Unary line op e) → Short e → KeepShort (Unary line op e)
  unary_keeps line Negation e value h k ahead t j = truth_keeps (Unary line Negation e) k ahead t j (let a = h (not k) 2 t j in omega (arith, a))
  unary_keeps line op e value h k ahead t j = leaf_short (Unary line op e) value k ahead t j

  pub binary_keeps : (line : ℕ) (op : BinOp) (e d : Exp) → ValueShort (Binary line op e d) → ValueShort e → ValueShort d → KeepShort (Binary line op e d)
  binary_keeps line Equal e d value a b k ahead t j = truth_keeps (Binary line Equal e d) k ahead t j (compared_short line Equal e d a b refl k 2 t j)
  binary_keeps line Ne e d value a b k ahead t j = truth_keeps (Binary line Ne e d) k ahead t j (compared_short line Ne e d a b refl k 2 t j)
  binary_keeps line Less e d value a b k ahead t j = truth_keeps (Binary line Less e d) k ahead t j (compared_short line Less e d a b refl k 2 t j)
  binary_keeps line AtMost e d value a b k ahead t j = truth_keeps (Binary line AtMost e d) k ahead t j (compared_short line AtMost e d a b refl k 2 t j)
  binary_keeps line Gt e d value a b k ahead t j = truth_keeps (Binary line Gt e d) k ahead t j (compared_short line Gt e d a b refl k 2 t j)
  binary_keeps line Ge e d value a b k ahead t j = truth_keeps (Binary line Ge e d) k ahead t j (compared_short line Ge e d a b refl k 2 t j)
  binary_keeps line op e d value a b k ahead t j = leaf_short (Binary line op e d) value k ahead t j

  pub paren_keeps : (line : ℕ) (e : Exp) → KeepShort e → KeepShort (Paren line e)
  paren_keeps line e h k ahead t j = let a = h k ahead t j in omega (arith, a)

  pub and_keeps : (line : ℕ) (e d : Exp) → Short e → KeepShort e → KeepShort d → KeepShort (And line e d)
  and_keeps line e d test_e keep_e keep_d false ahead t j =
      let second = keep_code cs d false ahead t (j + made_by e) in
      let front = keep_code cs e false (length second + ahead) t j in
      omega (arith, keep_e false (length second + ahead) t j, keep_d false ahead t (j + made_by e), length-append front second)
  and_keeps line e d test_e keep_e keep_d true ahead t j =
      let second = keep_code cs d true ahead t (j + made_by e) in
      let front = test_code cs e true (length second) t j in
      omega (arith, test_e true (length second) t j, keep_d true ahead t (j + made_by e), length-append front second)

  pub or_keeps : (line : ℕ) (e d : Exp) → Short e → KeepShort e → KeepShort d → KeepShort (Or line e d)
  or_keeps line e d test_e keep_e keep_d false ahead t j =
      let second = keep_code cs d false ahead t (j + made_by e) in
      let front = test_code cs e false (length second) t j in
      omega (arith, test_e false (length second) t j, keep_d false ahead t (j + made_by e), length-append front second)
  or_keeps line e d test_e keep_e keep_d true ahead t j =
      let second = keep_code cs d true ahead t (j + made_by e) in
      let front = keep_code cs e true (length second + ahead) t j in
      omega (arith, keep_e true (length second + ahead) t j, keep_d true ahead t (j + made_by e), length-append front second)

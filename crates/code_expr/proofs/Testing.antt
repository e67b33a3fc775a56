-- Conditions by their forms.
use Rattle.std.proofs.Common.{◌≡◌, ℕ, ◌+◌, Bool, true, false, List, ◌++◌, length, Option, Some, None, Result, Vec, Global, refl, sym, ap, ap₂, ◌∙◌, cond, arith, subst}
use Rattle.std.specs.Prelude.{not, IfOk, IfSome}
use Rattle.std.specs.declared.alloc.AllocError.{AllocError}
use Rattle.std.proofs.lemmas.Result.{IfOk-weaker}
use Rattle.tree_core.specs.declared.operator.BinOp.{BinOp}
use Rattle.tree_core.specs.declared.operator.UnOp.TheVariants.{Not as Negation}
use Rattle.tree_core.specs.Tree.{Exp, True, Unary, Binary, And, Or, Paren}
use Rattle.code_core.specs.declared.opcode.Opcode.{Opcode}
use Rattle.code_core.specs.declared.opcode.Opcode.TheVariants.{Test, EqK}
use Rattle.code_core.specs.declared.proto.Const.{Const}
use Rattle.code_of.specs.Coded.{Coded}
use Rattle.code_of.specs.Truths.{jump_if, pick, compared, is_not, line_of}
use Rattle.code_of.specs.Conditions.{value_test, test_code}
use Rattle.code_of.specs.Expressions.{exp_code, made_by}
use Rattle.code_of.specs.Operands.{local_of, second_of, seat, unless}
use Rattle.code_of.specs.Operations.{constant_in, operation_by}
use Rattle.code_of.specs.Operators.{number_opcode}
use Rattle.code_emitter.specs.declared.comparisons.Comparison.{Comparison}
use Rattle.code_emitter.specs.Leading.{led_on, Opened}
use Rattle.code_emitter.specs.Listing.{Listing, followed}
use Rattle.code_emitter.specs.declared.operands.Operands.{Operands}
use Rattle.code_emitter.specs.Operands.{operation_staying, stays_code, stays_made, stays_at, done_code}
use Rattle.code_emitter.specs.Comparing.{compared_by, constant_test, registers_test, number_test}
use Rattle.code_expr.specs.Testing.{is_valued, compared_code, far, either_test, Tests}
use Rattle.code_emitter.proofs.ConstantSeats.{operation_apart, operation_makes}
use Rattle.code_emitter.proofs.Leading.{opened_remade, opened_coded, opened_behind, opened_from, opened_both, opened_past}

abbrev Places : Type 0
Places = Result (Vec ℕ Global) AllocError

abbrev Compares : Option Comparison → BinOp → Type 0
Compares o op = (other : List Coded) (by : Opcode → Bool → Bool → List Coded) → compared op other by ≡ compared_by o other by

pub operator_is : (o : Option Comparison) (c : Comparison) (op : BinOp) → o ≡ Some c → IfSome o (λ x. x.op ≡ op) → c.op ≡ op
operator_is o c op is h = subst (λ x. IfSome x (λ y. y.op ≡ op)) is h

-- brackets, `not`, and `and` and `or`, by their parts

module _ (s q : Listing) (w : Bool) (t : ℕ) (r : Places) (x : Exp) (line : ℕ) where
  pub paren_tests : (e : Exp) → x ≡ Paren line e → IfOk r (λ places. Tests s q e w t places.items) → IfOk r (λ places. Tests s q x w t places.items)
  paren_tests e is h = subst (λ y. IfOk r (λ places. Tests s q y w t places.items)) (sym is) h

  pub not_tests : (e : Exp) → x ≡ Unary line Negation e → IfOk r (λ places. Tests s q e (not w) t places.items) → IfOk r (λ places. Tests s q x w t places.items)
  not_tests e is h = subst (λ y. IfOk r (λ places. Tests s q y w t places.items)) (sym is) h

  pub and_tests :
      (e d : Exp) → x ≡ And line e d → IfOk r (λ places. Opened s q (λ ahead. either_test s.constants false e d w ahead t s.made) (made_by e + made_by d) places.items)
      → IfOk r (λ places. Tests s q x w t places.items)
  and_tests e d is h = subst (λ y. IfOk r (λ places. Tests s q y w t places.items)) (sym is) h

  pub or_tests :
      (e d : Exp) → x ≡ Or line e d → IfOk r (λ places. Opened s q (λ ahead. either_test s.constants true e d w ahead t s.made) (made_by e + made_by d) places.items)
      → IfOk r (λ places. Tests s q x w t places.items)
  or_tests e d is h = subst (λ y. IfOk r (λ places. Tests s q y w t places.items)) (sym is) h

module _ (s q : Listing) (w : Bool) (t : ℕ) (r : Places) where
  pub by_value_tests :
      (e : Exp) → ((ahead : ℕ) → value_test s.constants e w ahead t s.made ≡ test_code s.constants e w ahead t s.made)
      → IfOk r (λ places. Opened s q (λ ahead. value_test s.constants e w ahead t s.made) (made_by e) places.items) → IfOk r (λ places. Tests s q e w t places.items)
  by_value_tests e same = IfOk-weaker r (λ places. Opened s q (λ ahead. value_test s.constants e w ahead t s.made) (made_by e) places.items) (λ places. Tests s q e w t places.items)
      (λ places o. opened_coded s q _ _ (made_by e) places.items same o)

  abbrev by_comparison : (line : ℕ) → (op : BinOp) → (e d : Exp) → (ahead : ℕ) → Opcode → Bool → Bool → List Coded
  by_comparison line op e d ahead opcode swapped wanted =
      let k = cond wanted (not w) w in
      operation_by (constant_in s.constants op d) op e d (exp_code s.constants e t s.made 2) (exp_code s.constants d (t + 1) (s.made + made_by e) 2) t
      (λ x n. jump_if EqK x n k ahead line) (λ x y. jump_if opcode (pick swapped x y) (pick swapped y x) k ahead line) (λ x n. jump_if (number_opcode op) x (n + 127) k ahead line)

  pub comparison_tests :
      (op : BinOp) (o : Option Comparison) (c : Comparison) (line : ℕ) (e d : Exp) → Compares o op → o ≡ Some c → c.op ≡ op
      → IfOk r (λ places. Opened s q (λ ahead. compared_code s.constants c e d w ahead t s.made line) (made_by e + made_by d) places.items) → IfOk r (λ places. Tests s q (Binary line op e d) w t places.items)
  comparison_tests op o c line e d is o_is op_is = IfOk-weaker r (λ places. Opened s q (λ ahead. compared_code s.constants c e d w ahead t s.made line) (made_by e + made_by d) places.items) (λ places. Tests s q (Binary line op e d) w t places.items)
      (λ places x. opened_coded s q _ _ (made_by e + made_by d) places.items
      (λ ahead. ap (λ o. by_comparison line o e d ahead c.opcode c.swapped c.wanted) op_is
      ∙ sym (is (value_test s.constants (Binary line op e d) w ahead t s.made) (by_comparison line op e d ahead)
      ∙ ap (λ p. compared_by p (value_test s.constants (Binary line op e d) w ahead t s.made) (by_comparison line op e d ahead)) o_is)) x)

  pub other_tests :
      (op : BinOp) (o : Option Comparison) (line : ℕ) (e d : Exp) → Compares o op → o ≡ None
      → IfOk r (λ places. Opened s q (λ ahead. value_test s.constants (Binary line op e d) w ahead t s.made) (made_by e + made_by d) places.items) → IfOk r (λ places. Tests s q (Binary line op e d) w t places.items)
  other_tests op o line e d is o_is = by_value_tests (Binary line op e d)
      (λ ahead. sym (is (value_test s.constants (Binary line op e d) w ahead t s.made) (by_comparison line op e d ahead)
      ∙ ap (λ p. compared_by p (value_test s.constants (Binary line op e d) w ahead t s.made) (by_comparison line op e d ahead)) o_is))

-- an expression that is tested by its value

valued_prefix : (b : Bool) (x y : List Coded) → not b ≡ true → y ≡ cond b x y
valued_prefix true x y h = absurd (cc)
valued_prefix false x y h = refl

pub valued_is : (cs : List Const) (e : Exp) (w : Bool) (t j : ℕ) → is_valued e ≡ true → (ahead : ℕ) → value_test cs e w ahead t j ≡ test_code cs e w ahead t j
valued_is cs (Unary line op e) w t j h ahead = valued_prefix (is_not op) (test_code cs e (not w) ahead t j) (value_test cs (Unary line op e) w ahead t j) h
valued_is cs (True line) w t j h ahead = absurd (cc)
valued_is cs (Binary line op e d) w t j h ahead = absurd (cc)
valued_is cs (And line e d) w t j h ahead = absurd (cc)
valued_is cs (Or line e d) w t j h ahead = absurd (cc)
valued_is cs (Paren line e) w t j h ahead = absurd (cc)
valued_is cs _ w t j h ahead = refl

-- a value that is tested, and two that are compared

pub value_opened :
    (s r q : Listing) (e : Exp) (w : Bool) (t x line : ℕ) (places : List ℕ) → line ≡ line_of e → x ≡ seat (local_of e) t → r ≡ followed s (unless (local_of e) (exp_code s.constants e t s.made 2)) (made_by e)
    → Opened r q (λ ahead. jump_if Test x 0 (not w) ahead line) 0 places → Opened s q (λ ahead. value_test s.constants e w ahead t s.made) (made_by e) places
value_opened s r q e w t x line places line_is x_is e1 o =
    let value = unless (local_of e) (exp_code s.constants e t s.made 2) in
    opened_remade s q (λ ahead. value_test s.constants e w ahead t s.made) (made_by e + 0) (made_by e) places (omega arith)
    (opened_coded s q (λ ahead. value ++ jump_if Test x 0 (not w) ahead line) (λ ahead. value_test s.constants e w ahead t s.made) (made_by e + 0) places
    (λ ahead. ap₂ (λ y n. value ++ jump_if Test y 0 (not w) ahead n) x_is line_is)
    (opened_behind s r q value (made_by e) (λ ahead. jump_if Test x 0 (not w) ahead line) 0 places e1 o))

-- the operands of a comparison stand there, and then they are compared
pub compared_opened :
    (s r u : Listing) (c : Comparison) (w k : Bool) (t line : ℕ) (e d : Exp) (o : Operands) (places : List ℕ)
    → r ≡ followed s (stays_code (operation_staying (constant_in s.constants c.op d) (second_of c.op d)) (local_of e) (exp_code s.constants e t s.made 2) (exp_code s.constants d (t + 1) (s.made + made_by e) 2))
    (stays_made (operation_staying (constant_in s.constants c.op d) (second_of c.op d)) (made_by e) (made_by d))
    → o ≡ stays_at (operation_staying (constant_in s.constants c.op d) (second_of c.op d)) (local_of e) t → k ≡ cond c.wanted (not w) w
    → Opened r u (λ ahead. done_code o.second o.first (constant_test k ahead line) (registers_test c k ahead line) (number_test c k ahead line)) 0 places
    → Opened s u (λ ahead. compared_code s.constants c e d w ahead t s.made line) (made_by e + made_by d) places
compared_opened s r u c w k t line e d o places seats_is o_is k_is opened =
    let stays = operation_staying (constant_in s.constants c.op d) (second_of c.op d) in
    let at = stays_at stays (local_of e) t in
    let left = exp_code s.constants e t s.made 2 in
    let right = exp_code s.constants d (t + 1) (s.made + made_by e) 2 in
    let front = stays_code stays (local_of e) left right in
    let made = stays_made stays (made_by e) (made_by d) in
    let q = cond c.wanted (not w) w in
    let makes = operation_makes s.constants c.op d (made_by e) in
    opened_remade s u (λ ahead. compared_code s.constants c e d w ahead t s.made line) (made + 0) (made_by e + made_by d) places (omega (arith, makes))
    (opened_coded s u (λ ahead. front ++ done_code o.second o.first (constant_test k ahead line) (registers_test c k ahead line) (number_test c k ahead line)) (λ ahead. compared_code s.constants c e d w ahead t s.made line) (made + 0) places
    (λ ahead. ap (λ x. front ++ done_code x.second x.first (constant_test k ahead line) (registers_test c k ahead line) (number_test c k ahead line)) o_is
    ∙ ap (λ b. front ++ done_code at.second at.first (constant_test b ahead line) (registers_test c b ahead line) (number_test c b ahead line)) k_is
    ∙ sym (operation_apart e left right t (constant_test q ahead line) (registers_test c q ahead line) (number_test c q ahead line) (constant_in s.constants c.op d) c.op d))
    (opened_behind s r u front made (λ ahead. done_code o.second o.first (constant_test k ahead line) (registers_test c k ahead line) (number_test c k ahead line)) 0 places seats_is opened))

-- the first operand of `and` and `or` decides where both truths are the same, and its jumps lead to the end of the second one; else they lead away with those of the second one

decided_here : (decides wanted : Bool) (s r q t : Listing) (a b : ℕ → List Coded) (m n : ℕ) (ps qs : List ℕ) → decides ≡ wanted → Opened s r a m ps → Opened r q b n qs → t ≡ led_on q ps (length q.steps)
    → Opened s t (λ ahead. a (length (b ahead) + far decides wanted ahead) ++ b ahead) (m + n) qs
decided_here false false s r q t a b m n ps qs is o u t_is = opened_past s r q t a b m n ps qs o u t_is
decided_here true true s r q t a b m n ps qs is o u t_is = opened_past s r q t a b m n ps qs o u t_is
decided_here false true s r q t a b m n ps qs is o u t_is = absurd (cc)
decided_here true false s r q t a b m n ps qs is o u t_is = absurd (cc)

decided_away : (decides wanted : Bool) (s r q : Listing) (a b : ℕ → List Coded) (m n : ℕ) (ps qs : List ℕ) → (decides ≡ wanted → ⊥) → Opened s r a m ps → Opened r q b n qs
    → Opened s q (λ ahead. a (length (b ahead) + far decides wanted ahead) ++ b ahead) (m + n) (qs ++ ps)
decided_away false true s r q a b m n ps qs apart o u = opened_both s r q a b m n ps qs o u
decided_away true false s r q a b m n ps qs apart o u = opened_both s r q a b m n ps qs o u
decided_away false false s r q a b m n ps qs apart o u = absurd (apart refl)
decided_away true true s r q a b m n ps qs apart o u = absurd (apart refl)

-- `and` and `or`, of which the second operand is what the first one's place makes it

second_opened : (s r q : Listing) (w : Bool) (t : ℕ) (e d : Exp) (ps qs : List ℕ) (k : Bool) → Tests s r e k t ps → Tests r q d w t qs → Opened r q (λ ahead. test_code s.constants d w ahead t (s.made + made_by e)) (made_by d) qs
second_opened s r q w t e d ps qs k o u = opened_from r q (λ c j ahead. test_code c d w ahead t j) (made_by d) qs s.constants (s.made + made_by e) o.constants_is o.made_is u

pub either_here :
    (s r q p : Listing) (decides w : Bool) (t there : ℕ) (e d : Exp) (ps qs : List ℕ) → decides ≡ w → Tests s r e (not decides) t ps → Tests r q d w t qs → there ≡ length q.steps → p ≡ led_on q ps there
    → Opened s p (λ ahead. either_test s.constants decides e d w ahead t s.made) (made_by e + made_by d) qs
either_here s r q p decides w t there e d ps qs is o u there_is led =
    decided_here decides w s r q p (λ n. test_code s.constants e (not decides) n t s.made) (λ ahead. test_code s.constants d w ahead t (s.made + made_by e)) (made_by e) (made_by d) ps qs is o
    (second_opened s r q w t e d ps qs (not decides) o u) (led ∙ ap (led_on q ps) there_is)

pub either_away :
    (s r q : Listing) (decides w : Bool) (t : ℕ) (e d : Exp) (ps qs : List ℕ) → (decides ≡ w → ⊥) → Tests s r e (not decides) t ps → Tests r q d w t qs
    → Opened s q (λ ahead. either_test s.constants decides e d w ahead t s.made) (made_by e + made_by d) (qs ++ ps)
either_away s r q decides w t e d ps qs differ o u =
    decided_away decides w s r q (λ n. test_code s.constants e (not decides) n t s.made) (λ ahead. test_code s.constants d w ahead t (s.made + made_by e)) (made_by e) (made_by d) ps qs differ o
    (second_opened s r q w t e d ps qs (not decides) o u)

-- First operands of `and` and `or`, by their forms.
use Rattle.std.proofs.Common.{◌≡◌, ℕ, ◌+◌, Bool, true, false, List, ◌++◌, length, Some, None, Result, Vec, Global, refl, sym, ap, ap₂, ◌∙◌, cond, arith, subst}
use Rattle.std.specs.Prelude.{not, IfOk}
use Rattle.std.specs.declared.alloc.AllocError.{AllocError}
use Rattle.std.proofs.lemmas.Result.{IfOk-weaker}
use Rattle.std.proofs.lemmas.List.{length-append, length-map}
use Rattle.tree_core.specs.declared.operator.UnOp.{UnOp}
use Rattle.tree_core.specs.declared.operator.UnOp.TheVariants.{Neg, BitNot, Not as Negation, Len as Length}
use Rattle.tree_core.specs.Tree.{Exp, Unary, Binary, And, Or, Paren}
use Rattle.code_core.specs.declared.opcode.Opcode.TheVariants.{Test, TestSet}
use Rattle.code_core.specs.declared.proto.Const.{Const}
use Rattle.code_of.specs.Coded.{Coded}
use Rattle.code_of.specs.Truths.{jump_if, is_not, is_compared, line_of, set_if, load_truth}
use Rattle.code_of.specs.Conditions.{test_code, keep_code}
use Rattle.code_of.specs.Expressions.{exp_code, kept_value, made_by}
use Rattle.code_of.specs.Operands.{local_of, unless}
use Rattle.code_of.proofs.Operands.{local_makes}
use Rattle.code_emitter.specs.Leading.{led_on, Opened}
use Rattle.code_emitter.specs.Listing.{Listing, followed, step, steps}
use Rattle.code_expr.specs.Testing.{is_plain, is_truth, kept_truth, either_keep, either_value, Tests, Keeps}
use Rattle.code_emitter.proofs.Leading.{opened_remade, opened_coded, opened_behind, opened_both, opened_past, opened_led, opened_from}

abbrev Places : Type 0
Places = Result (Vec ℕ Global) AllocError

-- an operand whose value is made, or stays

leaf_by : (b : Bool) (x y : List Coded) → b ≡ false → y ≡ cond b x y
leaf_by true x y h = absurd (cc)
leaf_by false x y h = refl

pub leaf_is : (cs : List Const) (e : Exp) (k : Bool) (t j : ℕ) → is_plain e ≡ true → is_truth e ≡ false → (ahead : ℕ) → kept_value e (exp_code cs e t j 2) k ahead t ≡ keep_code cs e k ahead t j
leaf_is cs (Unary line op e) k t j plain h ahead = leaf_by (is_not op) (test_code cs e (not k) 2 t j ++ load_truth k ahead t line) (kept_value (Unary line op e) (exp_code cs (Unary line op e) t j 2) k ahead t) h
leaf_is cs (Binary line op e d) k t j plain h ahead = leaf_by (is_compared op) (kept_truth cs (Binary line op e d) k ahead t j) (kept_value (Binary line op e d) (exp_code cs (Binary line op e d) t j 2) k ahead t) h
leaf_is cs (And line e d) k t j plain h ahead = absurd (cc)
leaf_is cs (Or line e d) k t j plain h ahead = absurd (cc)
leaf_is cs (Paren line e) k t j plain h ahead = absurd (cc)
leaf_is cs _ k t j plain h ahead = refl

-- a comparison or `not`

truth_by : (b : Bool) (x y : List Coded) → b ≡ true → x ≡ cond b x y
truth_by true x y h = refl
truth_by false x y h = absurd (cc)

truth_unary : (cs : List Const) (line : ℕ) (op : UnOp) (e : Exp) (k : Bool) (ahead t j : ℕ) → is_not op ≡ true → kept_truth cs (Unary line op e) k ahead t j ≡ keep_code cs (Unary line op e) k ahead t j
truth_unary cs line Negation e k ahead t j h = refl
truth_unary cs line Neg e k ahead t j h = absurd (cc)
truth_unary cs line BitNot e k ahead t j h = absurd (cc)
truth_unary cs line Length e k ahead t j h = absurd (cc)

pub truth_is : (cs : List Const) (e : Exp) (k : Bool) (t j : ℕ) → is_truth e ≡ true → (ahead : ℕ) → kept_truth cs e k ahead t j ≡ keep_code cs e k ahead t j
truth_is cs (Unary line op e) k t j h ahead = truth_unary cs line op e k ahead t j h
truth_is cs (Binary line op e d) k t j h ahead = truth_by (is_compared op) (kept_truth cs (Binary line op e d) k ahead t j) (kept_value (Binary line op e d) (exp_code cs (Binary line op e d) t j 2) k ahead t) h
truth_is cs _ k t j h ahead = absurd (cc)

module _ (s q : Listing) (e : Exp) (k : Bool) (t : ℕ) (r : Places) where
  pub truth_keeps : is_truth e ≡ true → IfOk r (λ places. Opened s q (λ ahead. kept_truth s.constants e k ahead t s.made) (made_by e) places.items) → IfOk r (λ places. Keeps s q e k t places.items)
  truth_keeps is = IfOk-weaker r (λ places. Opened s q (λ ahead. kept_truth s.constants e k ahead t s.made) (made_by e) places.items) (λ places. Keeps s q e k t places.items)
      (λ places o. opened_coded s q _ _ (made_by e) places.items (truth_is s.constants e k t s.made is) o)

  -- brackets, and `and` and `or`, by their parts

  pub paren_keeps : (line : ℕ) (d : Exp) → e ≡ Paren line d → IfOk r (λ places. Keeps s q d k t places.items) → IfOk r (λ places. Keeps s q e k t places.items)
  paren_keeps line d is h = subst (λ x. IfOk r (λ places. Keeps s q x k t places.items)) (sym is) h

  pub and_keeps :
      (line : ℕ) (a b : Exp) → e ≡ And line a b → IfOk r (λ places. Opened s q (λ ahead. either_keep s.constants false a b k ahead t s.made) (made_by a + made_by b) places.items)
      → IfOk r (λ places. Keeps s q e k t places.items)
  and_keeps line a b is h = subst (λ x. IfOk r (λ places. Keeps s q x k t places.items)) (sym is) h

  pub or_keeps :
      (line : ℕ) (a b : Exp) → e ≡ Or line a b → IfOk r (λ places. Opened s q (λ ahead. either_keep s.constants true a b k ahead t s.made) (made_by a + made_by b) places.items)
      → IfOk r (λ places. Keeps s q e k t places.items)
  or_keeps line a b is h = subst (λ x. IfOk r (λ places. Keeps s q x k t places.items)) (sym is) h

  -- the code of a leaf
  abbrev leaf_code : (ahead : ℕ) → List Coded
  leaf_code ahead = kept_value e (exp_code s.constants e t s.made 2) k ahead t

  pub leaf_keeps : is_plain e ≡ true → is_truth e ≡ false → IfOk r (λ places. Opened s q leaf_code (made_by e) places.items) → IfOk r (λ places. Keeps s q e k t places.items)
  leaf_keeps plain is = IfOk-weaker r (λ places. Opened s q leaf_code (made_by e) places.items) (λ places. Keeps s q e k t places.items)
      (λ places o. opened_coded s q _ _ (made_by e) places.items (leaf_is s.constants e k t s.made plain is) o)

  -- a local
  pub local_keeps : (x line : ℕ) → local_of e ≡ Some x → line ≡ line_of e → IfOk r (λ places. Opened s q (λ ahead. jump_if TestSet t x k ahead line) 0 places.items) → IfOk r (λ places. Opened s q leaf_code (made_by e) places.items)
  local_keeps x line is line_is = IfOk-weaker r (λ places. Opened s q (λ ahead. jump_if TestSet t x k ahead line) 0 places.items) (λ places. Opened s q leaf_code (made_by e) places.items)
      (λ places o. opened_remade s q leaf_code 0 (made_by e) places.items (sym (local_makes e x is))
      (opened_coded s q (λ ahead. jump_if TestSet t x k ahead line) leaf_code 0 places.items
      (λ ahead. ap (λ n. jump_if TestSet t x k ahead n) line_is ∙ ap (λ at. unless at (exp_code s.constants e t s.made 2) ++ set_if at k ahead t (line_of e)) (sym is)) o))

-- a value that is made in the register, and tested there
pub made_keeps :
    (s r q : Listing) (e : Exp) (k : Bool) (t line : ℕ) (places : List ℕ) → local_of e ≡ None → line ≡ line_of e → r ≡ followed s (exp_code s.constants e t s.made 2) (made_by e)
    → Opened r q (λ ahead. jump_if Test t 0 k ahead line) 0 places → Opened s q (λ ahead. kept_value e (exp_code s.constants e t s.made 2) k ahead t) (made_by e) places
made_keeps s r q e k t line places is line_is r_is o =
    let value = exp_code s.constants e t s.made 2 in
    opened_remade s q (λ ahead. kept_value e value k ahead t) (made_by e + 0) (made_by e) places (omega arith)
    (opened_coded s q (λ ahead. value ++ jump_if Test t 0 k ahead line) (λ ahead. kept_value e value k ahead t) (made_by e + 0) places
    (λ ahead. ap (λ n. value ++ jump_if Test t 0 k ahead n) line_is ∙ ap (λ at. unless at value ++ set_if at k ahead t (line_of e)) (sym is))
    (opened_behind s r q value (made_by e) (λ ahead. jump_if Test t 0 k ahead line) 0 places r_is o))

-- the second operand stands where the first one ends
second_keeps : (s r q : Listing) (k : Bool) (t : ℕ) (e d : Exp) (first : ℕ → List Coded) (ps qs : List ℕ) → Opened s r first (made_by e) ps → Keeps r q d k t qs → Opened r q (λ ahead. keep_code s.constants d k ahead t (s.made + made_by e)) (made_by d) qs
second_keeps s r q k t e d first ps qs o u = opened_from r q (λ c j ahead. keep_code c d k ahead t j) (made_by d) qs s.constants (s.made + made_by e) o.constants_is o.made_is u

pub no_further : (n : ℕ) → n + 0 ≡ n
no_further n = omega arith

-- a value of either operand is kept

pub both_keep :
    (s r q : Listing) (decides k : Bool) (t : ℕ) (e d : Exp) (ps qs : List ℕ) → decides ≡ k → Keeps s r e decides t ps → Keeps r q d k t qs
    → Opened s q (λ ahead. either_keep s.constants decides e d k ahead t s.made) (made_by e + made_by d) (qs ++ ps)
both_keep s r q false false t e d ps qs is o u =
    opened_both s r q (λ n. keep_code s.constants e false n t s.made) (λ ahead. keep_code s.constants d false ahead t (s.made + made_by e)) (made_by e) (made_by d) ps qs o (second_keeps s r q false t e d _ ps qs o u)
both_keep s r q true true t e d ps qs is o u =
    opened_both s r q (λ n. keep_code s.constants e true n t s.made) (λ ahead. keep_code s.constants d true ahead t (s.made + made_by e)) (made_by e) (made_by d) ps qs o (second_keeps s r q true t e d _ ps qs o u)
both_keep s r q false true t e d ps qs is o u = absurd (cc)
both_keep s r q true false t e d ps qs is o u = absurd (cc)

-- the first operand is only tested, and its jumps are led to the end of the second one

past_keeps :
    (s r q p : Listing) (wants k : Bool) (t : ℕ) (e d : Exp) (ps qs : List ℕ) → Tests s r e wants t ps → Keeps r q d k t qs → p ≡ led_on q ps (length q.steps)
    → Opened s p (λ ahead. test_code s.constants e wants (length (keep_code s.constants d k ahead t (s.made + made_by e))) t s.made ++ keep_code s.constants d k ahead t (s.made + made_by e)) (made_by e + made_by d) qs
past_keeps s r q p wants k t e d ps qs o u led =
    let first = λ (n : ℕ). test_code s.constants e wants n t s.made in
    let second = λ (ahead : ℕ). keep_code s.constants d k ahead t (s.made + made_by e) in
    opened_coded s p (λ ahead. first (length (second ahead) + 0) ++ second ahead) (λ ahead. first (length (second ahead)) ++ second ahead) (made_by e + made_by d) qs
    (λ ahead. ap (λ n. first n ++ second ahead) (no_further (length (second ahead))))
    (opened_past s r q p first second (made_by e) (made_by d) ps qs o (second_keeps s r q k t e d _ ps qs o u) led)

-- a condition whose jumps lead past the load of its truth
pub loaded_keeps :
    (s r q p : Listing) (e : Exp) (k : Bool) (t there line : ℕ) (ps qs : List ℕ) → line ≡ line_of e → Tests s r e k t ps → Opened r q (λ ahead. load_truth k ahead t line) 0 qs → there ≡ length q.steps → p ≡ led_on q ps there
    → Opened s p (λ ahead. kept_truth s.constants e k ahead t s.made) (made_by e) qs
loaded_keeps s r q p e k t there line ps qs line_is o u there_is led =
    let first = λ (n : ℕ). test_code s.constants e k n t s.made in
    opened_remade s p (λ ahead. kept_truth s.constants e k ahead t s.made) (made_by e + 0) (made_by e) qs (omega arith)
    (opened_coded s p (λ ahead. first (length (load_truth k ahead t line) + 0) ++ load_truth k ahead t line) (λ ahead. kept_truth s.constants e k ahead t s.made) (made_by e + 0) qs
    (λ ahead. ap (λ n. first 2 ++ load_truth k ahead t n) line_is)
    (opened_past s r q p first (λ ahead. load_truth k ahead t line) (made_by e) 0 ps qs o u (led ∙ ap (led_on q ps) there_is)))

pub one_keeps :
    (s r q p : Listing) (decides k : Bool) (t there : ℕ) (e d : Exp) (ps qs : List ℕ) → (decides ≡ k → ⊥) → Tests s r e (not decides) t ps → Keeps r q d k t qs → there ≡ length q.steps → p ≡ led_on q ps there
    → Opened s p (λ ahead. either_keep s.constants decides e d k ahead t s.made) (made_by e + made_by d) qs
one_keeps s r q p false true t there e d ps qs differ o u there_is led = past_keeps s r q p true true t e d ps qs o u (led ∙ ap (led_on q ps) there_is)
one_keeps s r q p true false t there e d ps qs differ o u there_is led = past_keeps s r q p false false t e d ps qs o u (led ∙ ap (led_on q ps) there_is)
one_keeps s r q p false false t there e d ps qs differ o u there_is led = absurd (differ refl)
one_keeps s r q p true true t there e d ps qs differ o u there_is led = absurd (differ refl)

-- a value that is wanted: the first operand's jumps are led to the end of the second one's code
pub either_written :
    (s r q p : Listing) (decides : Bool) (t there : ℕ) (e d : Exp) (places : List ℕ) → Keeps s r e decides t places → q ≡ followed r (exp_code r.constants d t r.made 2) (made_by d) → there ≡ length q.steps → p ≡ led_on q places there
    → p ≡ followed s (either_value s.constants decides e d t s.made) (made_by e + made_by d)
either_written s r q p decides t there e d places o q_is there_is led =
    let second = exp_code s.constants d t (s.made + made_by e) 2 in
    let behind : q ≡ followed r second (made_by d) = q_is ∙ ap₂ (λ c j. followed r (exp_code c d t j 2) (made_by d)) o.constants_is o.made_is in
    let end : there ≡ length r.steps + length second =
    there_is ∙ ap (λ y. length y.steps) behind ∙ length-append r.steps (steps second) ∙ ap (λ n. length r.steps + n) (length-map second step) in
    opened_led s r q p (λ ahead. keep_code s.constants e decides ahead t s.made) (made_by e) places second (made_by d) there (length second) o behind end led

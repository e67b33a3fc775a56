-- The code of a condition, and of a first operand whose value is kept, is a piece where its jumps lead to a place that may be landed on. The laws of the parts are given.
use Rattle.std.proofs.Common.{◌≡◌, ℕ, ◌+◌, ◌<◌, ◌≤◌, ◌^◌, lit<, Bool, true, false, not, List, ◌++◌, length, Option, Some, None, refl, arith, length-append}
use Rattle.tree_core.specs.declared.operator.UnOp.{UnOp}
use Rattle.tree_core.specs.declared.operator.UnOp.TheVariants.{Not as Negation}
use Rattle.tree_core.specs.declared.operator.BinOp.{BinOp}
use Rattle.tree_core.specs.declared.operator.BinOp.TheVariants.{Eq as Equal, Ne, Lt as Less, Le as AtMost, Gt, Ge}
use Rattle.tree_core.specs.Tree.{Exp, True, Unary, Binary, And, Or, Paren}
use Rattle.code_core.specs.declared.opcode.Opcode.{Opcode}
use Rattle.code_core.specs.declared.opcode.Opcode.TheVariants.{LoadFalse, LoadTrue, Jmp, Test, TestSet, Eq, Lt, Le, EqK}
use Rattle.code_core.specs.declared.proto.Const.{Const}
use Rattle.code_core.specs.Prototype.{Prototype, Prototypes}
use Rattle.code_of.specs.Coded.{Coded}
use Rattle.code_of.specs.Constants.{with_any, of_exp}
use Rattle.code_of.specs.ConstantOperands.{constant_of}
use Rattle.code_of.specs.Operations.{constant_in, operation_by}
use Rattle.code_of.proofs.Operations.{constant_is}
use Rattle.code_of.specs.Expressions.{made_by, exp_code, kept_value}
use Rattle.code_of.specs.Truths.{jump_if, pick, line_of, set_if, load_truth}
use Rattle.code_of.proofs.Truths.{set_sized}
use Rattle.code_of.specs.Conditions.{value_test, test_code, keep_code}
use Rattle.code_of.specs.Operands.{local_of, Second, a_number, a_local, made, second_of, first_of, seat, unless, operands_code, operand_numeral}
use Rattle.code_of.specs.Operators.{number_opcode}
use Rattle.code_of.proofs.Operands.{numeral_form, second_number, second_local, first_local}
use Rattle.code_of.specs.CodeOf.{from_exp}
use Rattle.code_checked.specs.Near.{ExpIsNear}
use Rattle.code_checked.proofs.Pieces.{closed, Land, Piece, both, nothing}
use Rattle.code_checked.proofs.Words.{simple, simple_load_true, simple_load_false, IsFirst, first_test, first_test_set, first_eq, first_lt, first_le, first_eq_i, first_lt_i, first_le_i, first_gt_i, first_ge_i}
use Rattle.code_checked.proofs.Found.{Grows, grows_then, grows_any}
use Rattle.code_checked.proofs.ConstantOperators.{equal_over}
use Rattle.code_checked.proofs.Loads.{Whole, Functions}
use Rattle.code_checked.proofs.Seams.{ending}
use Rattle.code_checked.proofs.Jumping.{over_piece, test_over}
use Rattle.code_checked.proofs.Growing.{grows_exp, after_exp}
use Rattle.code_checked.proofs.ExpForms.{OneLaw, exp_register, local_near, seat_near, standing_piece}

picked : (second : Bool) (x y : ℕ) → x < 2 ^ 8 → y < 2 ^ 8 → pick second x y < 2 ^ 8
picked true x y h g = g
picked false x y h g = h

module _ (p : Prototype) (W : Whole p) (source : Option (List ℕ)) where
  -- code whose jumps lead to place q, which is `ahead` places past its end
  abbrev pub Leads : (code : ℕ → List Coded) → Exp → (H : Type 0) → (ahead t j pc : ℕ) → Type 0
  Leads code e H ahead t j pc =
      (size q : ℕ) (cs : List Const) (rest : Prototypes) → ExpIsNear source p e size t → size ≤ t → Grows (of_exp e cs) p.own.constants → Functions p j (from_exp source e rest)
      → (H → length (code ahead) + ahead < 2 ^ 24) → q ≡ pc + length (code ahead) + ahead → (H → Land p q) → Piece p H closed closed pc (code ahead)

  -- the code of the value is a piece, whatever its jumps suppose
  abbrev pub OneAll : Exp → Type 1
  OneAll e = (H : Type 0) → OneLaw p W source H e

  abbrev pub TestLaw : Exp → Type 1
  TestLaw e = (H : Type 0) (k : Bool) (ahead t j pc : ℕ) → Leads (λ ahead. test_code p.own.constants e k ahead t j) e H ahead t j pc

  pub value_law : (e : Exp) → OneAll e → (H : Type 0) (k : Bool) (ahead t j pc : ℕ) → Leads (λ ahead. value_test p.own.constants e k ahead t j) e H ahead t j pc
  value_law e law H k ahead t j pc size q cs rest near le g fs short place to =
      let value = unless (local_of e) (exp_code p.own.constants e t j 2) in
      let x = seat (local_of e) t in
      let sum = length-append value (jump_if Test x 0 (not k) ahead (line_of e)) in
      let r = exp_register source p e size t near in
      both p (standing_piece p W source H e (law H) t j pc size cs rest near le g fs)
      (test_over p Test (first_test p) x 0 (not k) ahead (pc + length value) q (line_of e) (seat_near source p e size t (omega (arith, r)) near) (lit< tt) (λ h. let f = short h in omega (arith, f)) (omega (arith, place, sum)) to)

  pub paren_law : (line : ℕ) (e : Exp) → TestLaw e → TestLaw (Paren line e)
  paren_law line e law H k ahead t j pc size q cs rest near le g fs short place to = law H k ahead t j pc size q cs rest near.1 le g fs short place to

  pub not_law : (line : ℕ) (op : UnOp) (e : Exp) → OneAll (Unary line op e) → TestLaw e → TestLaw (Unary line op e)
  not_law line Negation e value law H k ahead t j pc size q cs rest near le g fs short place to = law H (not k) ahead t j pc size q cs rest near.1 le g fs short place to
  not_law line op e value law H k ahead t j pc size q cs rest near le g fs short place to = value_law (Unary line op e) value H k ahead t j pc size q cs rest near le g fs short place to

  -- both operands lead to one place, or the first one leads past the second
  module _ (e d : Exp) (law_e : TestLaw e) (law_d : TestLaw d) where
    abbrev second_test : (k : Bool) → (ahead t j : ℕ) → List Coded
    second_test k ahead t j = test_code p.own.constants d k ahead t (j + made_by e)

    away_law : (first_wants k : Bool) (H : Type 0) (ahead t j pc size q : ℕ) (cs : List Const) (rest : Prototypes) → ExpIsNear source p e size t → ExpIsNear source p d size t → size ≤ t → Grows (of_exp d (of_exp e cs)) p.own.constants → Functions p j (from_exp source e (from_exp source d rest))
        → (H → length (test_code p.own.constants e first_wants (length (second_test k ahead t j) + ahead) t j ++ second_test k ahead t j) + ahead < 2 ^ 24)
        → q ≡ pc + length (test_code p.own.constants e first_wants (length (second_test k ahead t j) + ahead) t j ++ second_test k ahead t j) + ahead → (H → Land p q)
        → Piece p H closed closed pc (test_code p.own.constants e first_wants (length (second_test k ahead t j) + ahead) t j ++ second_test k ahead t j)
    away_law first_wants k H ahead t j pc size q cs rest near_e near_d le g fs short place to =
        let second = second_test k ahead t j in
        let first = test_code p.own.constants e first_wants (length second + ahead) t j in
        let sum = length-append first second in
        both p (law_e H first_wants (length second + ahead) t j pc size q cs (from_exp source d rest) near_e le (grows_then (of_exp e cs) (of_exp d (of_exp e cs)) p.own.constants (grows_exp d (of_exp e cs)) g) fs (λ h. let f = short h in omega (arith, f, sum)) (omega (arith, place, sum)) to)
        (law_d H k ahead t (j + made_by e) (pc + length first) size q (of_exp e cs) rest near_d le g (after_exp source p e j (from_exp source d rest) fs) (λ h. let f = short h in omega (arith, f, sum)) (omega (arith, place, sum)) to)

    past_law : (first_wants k : Bool) (H : Type 0) (ahead t j pc size q : ℕ) (cs : List Const) (rest : Prototypes) → ExpIsNear source p e size t → ExpIsNear source p d size t → size ≤ t → Grows (of_exp d (of_exp e cs)) p.own.constants → Functions p j (from_exp source e (from_exp source d rest))
        → (H → length (test_code p.own.constants e first_wants (length (second_test k ahead t j) + 0) t j ++ second_test k ahead t j) + ahead < 2 ^ 24)
        → q ≡ pc + length (test_code p.own.constants e first_wants (length (second_test k ahead t j) + 0) t j ++ second_test k ahead t j) + ahead → (H → Land p q)
        → Piece p H closed closed pc (test_code p.own.constants e first_wants (length (second_test k ahead t j) + 0) t j ++ second_test k ahead t j)
    past_law first_wants k H ahead t j pc size q cs rest near_e near_d le g fs short place to =
        let second = second_test k ahead t j in
        let first = test_code p.own.constants e first_wants (length second + 0) t j in
        let sum = length-append first second in
        let end : ℕ = pc + length (first ++ second) in
        let G : Type 0 = H × Land p end in
        let inner : Piece p G closed closed pc (first ++ second) =
        both p (law_e G first_wants (length second + 0) t j pc size end cs (from_exp source d rest) near_e le (grows_then (of_exp e cs) (of_exp d (of_exp e cs)) p.own.constants (grows_exp d (of_exp e cs)) g) fs (λ h. let f = short h.0 in omega (arith, f, sum)) (omega (arith, sum)) (λ h. h.1))
        (law_d G k ahead t (j + made_by e) (pc + length first) size q (of_exp e cs) rest near_d le g (after_exp source p e j (from_exp source d rest) fs) (λ h. let f = short h.0 in omega (arith, f, sum)) (omega (arith, place, sum)) (λ h. to h.0)) in
        ending p end refl inner

    pub and_law : (line : ℕ) → TestLaw (And line e d)
    and_law line H true ahead t j pc size q cs rest near le g fs short place to = away_law true true H ahead t j pc size q cs rest near.1.0 near.1.1 le g fs short place to
    and_law line H false ahead t j pc size q cs rest near le g fs short place to = past_law true false H ahead t j pc size q cs rest near.1.0 near.1.1 le g fs short place to

    pub or_law : (line : ℕ) → TestLaw (Or line e d)
    or_law line H true ahead t j pc size q cs rest near le g fs short place to = past_law false true H ahead t j pc size q cs rest near.1.0 near.1.1 le g fs short place to
    or_law line H false ahead t j pc size q cs rest near le g fs short place to = away_law false false H ahead t j pc size q cs rest near.1.0 near.1.1 le g fs short place to

  -- comparisons
  module _ (line : ℕ) (op : BinOp) (e d : Exp) (law_e : OneAll e) (law_d : OneAll d) where
    abbrev by_registers : Opcode → (swapped field : Bool) → (ahead x y : ℕ) → List Coded
    by_registers opcode swapped field ahead x y = jump_if opcode (pick swapped x y) (pick swapped y x) field ahead line

    abbrev by_number : (field : Bool) → (ahead x n : ℕ) → List Coded
    by_number field ahead x n = jump_if (number_opcode op) x (n + 127) field ahead line

    abbrev by_constant : (field : Bool) → (ahead x n : ℕ) → List Coded
    by_constant field ahead x n = jump_if EqK x n field ahead line

    abbrev operation_test : Option ℕ → Opcode → (swapped field : Bool) → (ahead t j : ℕ) → List Coded
    operation_test o opcode swapped field ahead t j =
        operation_by o op e d (exp_code p.own.constants e t j 2) (exp_code p.own.constants d (t + 1) (j + made_by e) 2) t (by_constant field ahead) (by_registers opcode swapped field ahead) (by_number field ahead)

    abbrev compared_code : Second → Option ℕ → Opcode → (swapped field : Bool) → (ahead t j : ℕ) → List Coded
    compared_code s at opcode swapped field ahead t j =
        operands_code s at (exp_code p.own.constants e t j 2) (exp_code p.own.constants d (t + 1) (j + made_by e) 2) t (by_registers opcode swapped field ahead) (by_number field ahead)

    compare_law : (opcode : Opcode) → IsFirst p opcode Jmp → IsFirst p (number_opcode op) Jmp → (swapped field : Bool) → (H : Type 0) (ahead t j pc : ℕ)
        → Leads (λ ahead. operation_test (constant_in p.own.constants op d) opcode swapped field ahead t j) (Binary line op e d) H ahead t j pc
    compare_law opcode is_first number_first swapped field H ahead t j pc size q cs rest near le g fs short place to = operation (constant_in p.own.constants op d) refl short place
      where
        first : List Coded
        first = exp_code p.own.constants e t j 2

        second : List Coded
        second = exp_code p.own.constants d (t + 1) (j + made_by e) 2

        tf : t + 1 < 2 ^ 8
        tf = let r = near.0 in omega (arith, r)

        made_so_far : List Const
        made_so_far = with_any (constant_of op d) (of_exp e cs)

        first_piece : Piece p H closed closed pc first
        first_piece =
            law_e H t j pc size cs (from_exp source d rest) near.1.0 le
            (grows_then (of_exp e cs) made_so_far p.own.constants (grows_any (constant_of op d) (of_exp e cs)) (grows_then made_so_far (of_exp d made_so_far) p.own.constants (grows_exp d made_so_far) g)) fs

        compared : (x y at : ℕ) → x < 2 ^ 8 → y < 2 ^ 8 → (H → ahead < 2 ^ 24) → q ≡ at + 2 + ahead → Piece p H closed closed at (by_registers opcode swapped field ahead x y)
        compared x y at xf yf few is = test_over p opcode is_first (pick swapped x y) (pick swapped y x) field ahead at q line (picked swapped x y xf yf) (picked swapped y x yf xf) few is to

        numbered : (x n at : ℕ) → operand_numeral op d ≡ Some n → x < 2 ^ 8 → (H → ahead < 2 ^ 24) → q ≡ at + 2 + ahead → Piece p H closed closed at (by_number field ahead x n)
        numbered x n at e xf few is = let small = (numeral_form op d n e).small in test_over p (number_opcode op) number_first x (n + 127) field ahead at q line xf (omega (arith, small)) few is to

        by : (s : Second) (at : Option ℕ) → second_of op d ≡ s → first_of s e ≡ at → (H → length (compared_code s at opcode swapped field ahead t j) + ahead < 2 ^ 24) → q ≡ pc + length (compared_code s at opcode swapped field ahead t j) + ahead
            → Piece p H closed closed pc (compared_code s at opcode swapped field ahead t j)
        by made (Some x) is at_is short place = absurd (cc)
        by made None is at_is short place =
            let last = by_registers opcode swapped field ahead t (t + 1) in
            let a = length-append first (second ++ last) in
            let b = length-append second last in
            both p first_piece
            (both p (law_d H (t + 1) (j + made_by e) (pc + length first) size made_so_far rest near.1.1 (omega (arith, le)) g (after_exp source p e j (from_exp source d rest) fs))
            (compared t (t + 1) (pc + length first + length second) (omega (arith, tf)) tf (λ h. let f = short h in omega (arith, f)) (omega (arith, place, a, b))))
        by (a_local r) None is at_is short place =
            let a = length-append first (by_registers opcode swapped field ahead t r) in
            both p first_piece (compared t r (pc + length first) (omega (arith, tf)) (local_near source p d size (t + 1) r (second_local op d r is) near.1.1) (λ h. let f = short h in omega (arith, f)) (omega (arith, place, a)))
        by (a_local r) (Some x) is at_is short place =
            compared x r pc (local_near source p e size t x (first_local (a_local r) e x at_is) near.1.0) (local_near source p d size (t + 1) r (second_local op d r is) near.1.1) (λ h. let f = short h in omega (arith, f)) (omega (arith, place))
        by (a_number n) None is at_is short place =
            let a = length-append first (by_number field ahead t n) in
            both p first_piece (numbered t n (pc + length first) (second_number op d n is) (omega (arith, tf)) (λ h. let f = short h in omega (arith, f)) (omega (arith, place, a)))
        by (a_number n) (Some x) is at_is short place =
            numbered x n pc (second_number op d n is) (local_near source p e size t x (first_local (a_number n) e x at_is) near.1.0) (λ h. let f = short h in omega (arith, f)) (omega (arith, place))

        equalled : (x n at : ℕ) → constant_in p.own.constants op d ≡ Some n → x < 2 ^ 8 → (H → ahead < 2 ^ 24) → q ≡ at + 2 + ahead → Piece p H closed closed at (by_constant field ahead x n)
        equalled x n at is xf few place_is =
            let f = constant_is p.own.constants op d n is in
            let below = f.short in
            equal_over p x n field ahead at q line f.value xf (omega (arith, below)) few f.there place_is to

        beside : (n : ℕ) (at : Option ℕ) → constant_in p.own.constants op d ≡ Some n → local_of e ≡ at → (H → length (unless at first ++ by_constant field ahead (seat at t) n) + ahead < 2 ^ 24)
            → q ≡ pc + length (unless at first ++ by_constant field ahead (seat at t) n) + ahead → Piece p H closed closed pc (unless at first ++ by_constant field ahead (seat at t) n)
        beside n None is at_is short place =
            let a = length-append first (by_constant field ahead t n) in
            both p first_piece (equalled t n (pc + length first) is (omega (arith, tf)) (λ h. let f = short h in omega (arith, f)) (omega (arith, place, a)))
        beside n (Some x) is at_is short place = equalled x n pc is (local_near source p e size t x at_is near.1.0) (λ h. let f = short h in omega (arith, f)) (omega (arith, place))

        operation : (o : Option ℕ) → constant_in p.own.constants op d ≡ o → (H → length (operation_test o opcode swapped field ahead t j) + ahead < 2 ^ 24) → q ≡ pc + length (operation_test o opcode swapped field ahead t j) + ahead
            → Piece p H closed closed pc (operation_test o opcode swapped field ahead t j)
        operation (Some n) is short place = beside n (local_of e) is refl short place
        operation None is short place = by (second_of op d) (first_of (second_of op d) e) refl refl short place

  pub binary_law : (line : ℕ) (op : BinOp) (e d : Exp) → OneAll (Binary line op e d) → OneAll e → OneAll d → TestLaw (Binary line op e d)
  binary_law line Equal e d value law_e law_d H k ahead t j pc = compare_law line Equal e d law_e law_d Eq (first_eq p) (first_eq_i p) false (not k) H ahead t j pc
  binary_law line Ne e d value law_e law_d H k ahead t j pc = compare_law line Ne e d law_e law_d Eq (first_eq p) (first_eq_i p) false k H ahead t j pc
  binary_law line Less e d value law_e law_d H k ahead t j pc = compare_law line Less e d law_e law_d Lt (first_lt p) (first_lt_i p) false (not k) H ahead t j pc
  binary_law line AtMost e d value law_e law_d H k ahead t j pc = compare_law line AtMost e d law_e law_d Le (first_le p) (first_le_i p) false (not k) H ahead t j pc
  binary_law line Gt e d value law_e law_d H k ahead t j pc = compare_law line Gt e d law_e law_d Lt (first_lt p) (first_gt_i p) true (not k) H ahead t j pc
  binary_law line Ge e d value law_e law_d H k ahead t j pc = compare_law line Ge e d law_e law_d Le (first_le p) (first_ge_i p) true (not k) H ahead t j pc
  binary_law line op e d value law_e law_d H k ahead t j pc = value_law (Binary line op e d) value H k ahead t j pc

  pub true_law : (line : ℕ) → TestLaw (True line)
  true_law line H true ahead t j pc size q cs rest near le g fs short place to = nothing p
  true_law line H false ahead t j pc size q cs rest near le g fs short place to = over_piece p ahead pc q line (λ h. let f = short h in omega (arith, f)) place to

  -- a first operand, whose value is kept

  abbrev pub KeepLaw : Exp → Type 1
  KeepLaw e = (H : Type 0) (k : Bool) (ahead t j pc : ℕ) → Leads (λ ahead. keep_code p.own.constants e k ahead t j) e H ahead t j pc

  pub leaf_law : (e : Exp) → OneAll e → (H : Type 0) (k : Bool) (ahead t j pc : ℕ) → Leads (λ ahead. kept_value e (exp_code p.own.constants e t j 2) k ahead t) e H ahead t j pc
  leaf_law e law H k ahead t j pc size q cs rest near le g fs short place to =
      let value = unless (local_of e) (exp_code p.own.constants e t j 2) in
      let sum = length-append value (set_if (local_of e) k ahead t (line_of e)) in
      let two = set_sized (local_of e) k ahead t (line_of e) in
      both p (standing_piece p W source H e (law H) t j pc size cs rest near le g fs)
      (set_piece (local_of e) refl (pc + length value) (λ h. let f = short h in omega (arith, f)) (omega (arith, place, sum, two)))
    where
      tf : t < 2 ^ 8
      tf = let r = exp_register source p e size t near in omega (arith, r)

      set_piece : (at : Option ℕ) → local_of e ≡ at → (from : ℕ) → (H → ahead < 2 ^ 24) → q ≡ from + 2 + ahead → Piece p H closed closed from (set_if at k ahead t (line_of e))
      set_piece None is from few place = test_over p Test (first_test p) t 0 k ahead from q (line_of e) tf (lit< tt) few place to
      set_piece (Some x) is from few place = test_over p TestSet (first_test_set p) t x k ahead from q (line_of e) tf (local_near source p e size t x is near) few place to

  -- the condition leads past what loads its truth
  truth_law : (e : Exp) → TestLaw e → (H : Type 0) (k : Bool) (ahead t j pc : ℕ) → Leads (λ ahead. test_code p.own.constants e k 2 t j ++ load_truth k ahead t (line_of e)) e H ahead t j pc
  truth_law e law H k ahead t j pc size q cs rest near le g fs short place to =
      let front = test_code p.own.constants e k 2 t j in
      let last = load_truth k ahead t (line_of e) in
      let sum = length-append front last in
      let end : ℕ = pc + length (front ++ last) in
      let G : Type 0 = H × Land p end in
      let inner : Piece p G closed closed pc (front ++ last) =
      both p (law G k 2 t j pc size end cs rest near le g fs (λ h. let f = short h.0 in omega (arith, f, sum)) (omega (arith, sum)) (λ h. h.1))
      (load_piece G (λ h. h.0) k (pc + length front) (omega (arith, place, sum))) in
      ending p end refl inner
    where
      tf : t < 2 ^ 8
      tf = let r = exp_register source p e size t near in omega (arith, r)

      -- what loads the truth, and the jump behind it
      load_piece : (G : Type 0) → (G → H) → (k : Bool) (from : ℕ) → q ≡ from + 2 + ahead → Piece p G closed closed from (load_truth k ahead t (line_of e))
      load_piece G given true from place = both p (simple p LoadTrue (simple_load_true p) t 0 0 (line_of e) tf (lit< tt) (lit< tt)) (over_piece p ahead (from + 1) q (line_of e) (λ h. let f = short (given h) in omega (arith, f)) (omega (arith, place)) (λ h. to (given h)))
      load_piece G given false from place = both p (simple p LoadFalse (simple_load_false p) t 0 0 (line_of e) tf (lit< tt) (lit< tt)) (over_piece p ahead (from + 1) q (line_of e) (λ h. let f = short (given h) in omega (arith, f)) (omega (arith, place)) (λ h. to (given h)))

  pub unary_kept : (line : ℕ) (op : UnOp) (e : Exp) → OneAll (Unary line op e) → TestLaw e → KeepLaw (Unary line op e)
  unary_kept line Negation e value law H k ahead t j pc size q cs rest near le g fs short place to = truth_law (Unary line Negation e) (not_law line Negation e value law) H k ahead t j pc size q cs rest near le g fs short place to
  unary_kept line op e value law H k ahead t j pc size q cs rest near le g fs short place to = leaf_law (Unary line op e) value H k ahead t j pc size q cs rest near le g fs short place to

  pub binary_kept : (line : ℕ) (op : BinOp) (e d : Exp) → OneAll (Binary line op e d) → OneAll e → OneAll d → KeepLaw (Binary line op e d)
  binary_kept line Equal e d value law_e law_d H k ahead t j pc size q cs rest near le g fs short place to = truth_law (Binary line Equal e d) (binary_law line Equal e d value law_e law_d) H k ahead t j pc size q cs rest near le g fs short place to
  binary_kept line Ne e d value law_e law_d H k ahead t j pc size q cs rest near le g fs short place to = truth_law (Binary line Ne e d) (binary_law line Ne e d value law_e law_d) H k ahead t j pc size q cs rest near le g fs short place to
  binary_kept line Less e d value law_e law_d H k ahead t j pc size q cs rest near le g fs short place to = truth_law (Binary line Less e d) (binary_law line Less e d value law_e law_d) H k ahead t j pc size q cs rest near le g fs short place to
  binary_kept line AtMost e d value law_e law_d H k ahead t j pc size q cs rest near le g fs short place to = truth_law (Binary line AtMost e d) (binary_law line AtMost e d value law_e law_d) H k ahead t j pc size q cs rest near le g fs short place to
  binary_kept line Gt e d value law_e law_d H k ahead t j pc size q cs rest near le g fs short place to = truth_law (Binary line Gt e d) (binary_law line Gt e d value law_e law_d) H k ahead t j pc size q cs rest near le g fs short place to
  binary_kept line Ge e d value law_e law_d H k ahead t j pc size q cs rest near le g fs short place to = truth_law (Binary line Ge e d) (binary_law line Ge e d value law_e law_d) H k ahead t j pc size q cs rest near le g fs short place to
  binary_kept line op e d value law_e law_d H k ahead t j pc size q cs rest near le g fs short place to = leaf_law (Binary line op e d) value H k ahead t j pc size q cs rest near le g fs short place to

  pub paren_kept : (line : ℕ) (e : Exp) → KeepLaw e → KeepLaw (Paren line e)
  paren_kept line e law H k ahead t j pc size q cs rest near le g fs short place to = law H k ahead t j pc size q cs rest near.1 le g fs short place to

  module _ (e d : Exp) (test_e : TestLaw e) (keep_e : KeepLaw e) (keep_d : KeepLaw d) where
    abbrev second_kept : (k : Bool) → (ahead t j : ℕ) → List Coded
    second_kept k ahead t j = keep_code p.own.constants d k ahead t (j + made_by e)

    abbrev front_kept : (k : Bool) → (ahead t j : ℕ) → List Coded
    front_kept k ahead t j = keep_code p.own.constants e k (length (second_kept k ahead t j) + ahead) t j

    abbrev front_tested : (wants k : Bool) → (ahead t j : ℕ) → List Coded
    front_tested wants k ahead t j = test_code p.own.constants e wants (length (second_kept k ahead t j)) t j

    -- a value of either operand is kept
    kept_away : (k : Bool) (H : Type 0) (ahead t j pc size q : ℕ) (cs : List Const) (rest : Prototypes) → ExpIsNear source p e size t → ExpIsNear source p d size t → size ≤ t → Grows (of_exp d (of_exp e cs)) p.own.constants → Functions p j (from_exp source e (from_exp source d rest))
        → (H → length (front_kept k ahead t j ++ second_kept k ahead t j) + ahead < 2 ^ 24) → q ≡ pc + length (front_kept k ahead t j ++ second_kept k ahead t j) + ahead → (H → Land p q)
        → Piece p H closed closed pc (front_kept k ahead t j ++ second_kept k ahead t j)
    kept_away k H ahead t j pc size q cs rest near_e near_d le g fs short place to =
        let second = second_kept k ahead t j in
        let front = front_kept k ahead t j in
        let sum = length-append front second in
        both p (keep_e H k (length second + ahead) t j pc size q cs (from_exp source d rest) near_e le (grows_then (of_exp e cs) (of_exp d (of_exp e cs)) p.own.constants (grows_exp d (of_exp e cs)) g) fs (λ h. let f = short h in omega (arith, f, sum)) (omega (arith, place, sum)) to)
        (keep_d H k ahead t (j + made_by e) (pc + length front) size q (of_exp e cs) rest near_d le g (after_exp source p e j (from_exp source d rest) fs) (λ h. let f = short h in omega (arith, f, sum)) (omega (arith, place, sum)) to)

    -- the first one is only tested, and leads past the second one
    kept_past : (wants k : Bool) (H : Type 0) (ahead t j pc size q : ℕ) (cs : List Const) (rest : Prototypes) → ExpIsNear source p e size t → ExpIsNear source p d size t → size ≤ t → Grows (of_exp d (of_exp e cs)) p.own.constants → Functions p j (from_exp source e (from_exp source d rest))
        → (H → length (front_tested wants k ahead t j ++ second_kept k ahead t j) + ahead < 2 ^ 24) → q ≡ pc + length (front_tested wants k ahead t j ++ second_kept k ahead t j) + ahead → (H → Land p q)
        → Piece p H closed closed pc (front_tested wants k ahead t j ++ second_kept k ahead t j)
    kept_past wants k H ahead t j pc size q cs rest near_e near_d le g fs short place to =
        let second = second_kept k ahead t j in
        let front = front_tested wants k ahead t j in
        let sum = length-append front second in
        let end : ℕ = pc + length (front ++ second) in
        let G : Type 0 = H × Land p end in
        let inner : Piece p G closed closed pc (front ++ second) =
        both p (test_e G wants (length second) t j pc size end cs (from_exp source d rest) near_e le (grows_then (of_exp e cs) (of_exp d (of_exp e cs)) p.own.constants (grows_exp d (of_exp e cs)) g) fs (λ h. let f = short h.0 in omega (arith, f, sum)) (omega (arith, sum)) (λ h. h.1))
        (keep_d G k ahead t (j + made_by e) (pc + length front) size q (of_exp e cs) rest near_d le g (after_exp source p e j (from_exp source d rest) fs) (λ h. let f = short h.0 in omega (arith, f, sum)) (omega (arith, place, sum)) (λ h. to h.0)) in
        ending p end refl inner

    pub and_kept : (line : ℕ) → KeepLaw (And line e d)
    and_kept line H false ahead t j pc size q cs rest near le g fs short place to = kept_away false H ahead t j pc size q cs rest near.1.0 near.1.1 le g fs short place to
    and_kept line H true ahead t j pc size q cs rest near le g fs short place to = kept_past true true H ahead t j pc size q cs rest near.1.0 near.1.1 le g fs short place to

    pub or_kept : (line : ℕ) → KeepLaw (Or line e d)
    or_kept line H true ahead t j pc size q cs rest near le g fs short place to = kept_away true H ahead t j pc size q cs rest near.1.0 near.1.1 le g fs short place to
    or_kept line H false ahead t j pc size q cs rest near le g fs short place to = kept_past false false H ahead t j pc size q cs rest near.1.0 near.1.1 le g fs short place to

-- Pieces of operators whose operands stand in registers, and of tests.
use Rattle.std.proofs.Common.{◌≡◌, ℕ, suc, ◌+◌, ◌-◌, ◌<◌, ◌≤◌, ◌^◌, lit<, Some, Bool, true, false, ◌==◌, [], ◌∷◌, refl, ap, subst, ◌∙◌, arith}
use Rattle.std.specs.List.{list_any}
use Rattle.tree_core.specs.declared.operator.UnOp.{UnOp}
use Rattle.tree_core.specs.declared.operator.UnOp.TheVariants.{Neg, BitNot, Not as Negation, Len as Length}
use Rattle.tree_core.specs.declared.operator.BinOp.{BinOp}
use Rattle.tree_core.specs.declared.operator.BinOp.TheVariants.{Add as Plus, Sub as Minus, Mul as Times, Mod as Modulo, Idiv, Band, Bor, Bxor, Shl as ShiftLeft, Shr as ShiftRight, Concat as Join, Eq as Equal, Ne, Lt as Less, Le as AtMost, Gt, Ge}
use Rattle.tree_core.specs.Tree.{Exp}
use Rattle.code_core.specs.declared.opcode.Opcode.{Opcode}
use Rattle.code_core.specs.declared.opcode.Opcode.TheVariants.{LFalseSkip, LoadTrue, Add, Sub, Mul, Mod, IDiv, BAnd, BOr, BXor, Shl, Shr, AddI, ShrI, MmBin, MmBinI, EqI, LtI, LeI, GtI, GeI, Unm, BNot, Not, Len, Concat, Eq, Lt, Le, Jmp}
use Rattle.code_core.specs.Instruction.{abc, op_ax}
use Rattle.code_core.specs.Fields.{events}
use Rattle.code_core.specs.Prototype.{Prototype}
use Rattle.code_core.proofs.FieldLemmas.{opcode_of-abc, opcode_of-ax, c_of-abc}
use Rattle.code_of.specs.Coded.{with_abc, jump_over}
use Rattle.code_of.specs.Operands.{operand_numeral}
use Rattle.code_of.specs.Operators.{prefix_code, arithmetic_code, truth_code, operator_code, sum_code, number_code}
use Rattle.code_of.proofs.Operands.{numeral_is, numeral_none, shift_is}
use Rattle.code_checked.proofs.Pieces.{closed, Land, Piece}
use Rattle.code_checked.proofs.Units.{Single, one_jump, two, two_jump}
use Rattle.code_checked.proofs.Words.{abc_fits, ax_fits, pair, simple, IsFirst, first_add, first_sub, first_mul, first_mod, first_i_div, first_b_and, first_b_or, first_b_xor, first_shl, first_shr, first_eq, first_lt, first_le, first_add_i, first_shr_i, first_eq_i, first_lt_i, first_le_i, first_gt_i, first_ge_i, last_event, last_number_event, last_jump, simple_unm, simple_b_not, simple_not, simple_len, simple_concat, simple_load_true, lone, alone_false_skip}
use Rattle.code_checked.proofs.Seams.{lands_over, ending, three}

module _ (p : Prototype) where
  pub prefix_piece : {H : Type 0} {pc : ℕ} (op : UnOp) (x t line : ℕ) → x < 2 ^ 8 → t < 2 ^ 8 → Piece p H closed closed pc (prefix_code op x t line)
  prefix_piece Neg x t line xf tf = simple p Unm (simple_unm p) t x 0 line tf xf (lit< tt)
  prefix_piece BitNot x t line xf tf = simple p BNot (simple_b_not p) t x 0 line tf xf (lit< tt)
  prefix_piece Negation x t line xf tf = simple p Not (simple_not p) t x 0 line tf xf (lit< tt)
  prefix_piece Length x t line xf tf = simple p Len (simple_len p) t x 0 line tf xf (lit< tt)

  -- an operation and its event
  arithmetic_piece : {H : Type 0} {pc : ℕ} (op : Opcode) → IsFirst p op MmBin → (event x y t line : ℕ) → list_any (λ e. event == e) events ≡ true → event < 2 ^ 8 → x < 2 ^ 8 → y < 2 ^ 8 → t < 2 ^ 8
      → Piece p H closed closed pc (arithmetic_code op event x y t line)
  arithmetic_piece {H} {pc} op first event x y t line known ef xf yf tf =
      two p closed (abc op t x y false) (abc MmBin x y event false) line line (record {
        couple = pair p op MmBin first (last_event p) (abc op t x y false) (abc MmBin x y event false) (opcode_of-abc op t x y false) (abc_fits op t x y false tf xf yf)
            (opcode_of-abc MmBin x y event false) (abc_fits MmBin x y event false xf yf ef)
            (ap (λ c. list_any (λ e. c == e) events) (c_of-abc MmBin x y event false xf yf ef) ∙ known);
        still = λ pc. refl;
      })

  -- with a numeral
  sum_piece : {H : Type 0} {pc : ℕ} (op : Opcode) → IsFirst p op MmBinI → (field event x n t line : ℕ) → list_any (λ e. event == e) events ≡ true → event < 2 ^ 8 → field < 2 ^ 8 → n ≤ 128 → x < 2 ^ 8 → t < 2 ^ 8
      → Piece p H closed closed pc (sum_code op field event x n t line)
  sum_piece {H} {pc} op first field event x n t line known ef ff small xf tf =
      let nf : n + 127 < 2 ^ 8 = omega (arith, small) in
      two p closed (abc op t x field false) (abc MmBinI x (n + 127) event false) line line (record {
        couple = pair p op MmBinI first (last_number_event p) (abc op t x field false) (abc MmBinI x (n + 127) event false) (opcode_of-abc op t x field false) (abc_fits op t x field false tf xf ff)
            (opcode_of-abc MmBinI x (n + 127) event false) (abc_fits MmBinI x (n + 127) event false xf nf ef)
            (ap (λ c. list_any (λ e. c == e) events) (c_of-abc MmBinI x (n + 127) event false xf nf ef) ∙ known);
        still = λ pc. refl;
      })

  -- a test and a jump over n instructions, to place q
  pub test_piece : {H : Type 0} (op : Opcode) → IsFirst p op Jmp → (a b : ℕ) (k : Bool) (n pc q line : ℕ) → a < 2 ^ 8 → b < 2 ^ 8 → n < 2 ^ 24 → q ≡ pc + 2 + n → (H → Land p q)
      → Piece p H closed closed pc ((abc op a b 0 k, line) ∷ jump_over n line ∷ [])
  test_piece {H} op first a b k n pc q line af bf nf e to =
      two_jump p closed (abc op a b 0 k) (op_ax Jmp (16777215 + n)) line line
      (pair p op Jmp first (last_jump p) (abc op a b 0 k) (op_ax Jmp (16777215 + n)) (opcode_of-abc op a b 0 k) (abc_fits op a b 0 k af bf (lit< tt)) (opcode_of-ax Jmp (16777215 + n)) (ax_fits Jmp (16777215 + n) (omega (arith, nf))) refl)
      (λ h. lands_over p (suc pc) n q nf (omega (arith, e)) (to h))

  abbrev skip : (t : ℕ) → t < 2 ^ 8 → Single p closed closed (abc LFalseSkip t 0 0 false)
  skip t tf = lone p LFalseSkip (alone_false_skip p) (abc LFalseSkip t 0 0 false) (opcode_of-abc LFalseSkip t 0 0 false) (abc_fits LFalseSkip t 0 0 false tf (lit< tt) (lit< tt)) (λ extra. refl) refl

  pub skip_piece : {H : Type 0} {pc : ℕ} (t line : ℕ) → t < 2 ^ 8 → (H → Land p (pc + 2)) → Piece p H closed closed pc (with_abc LFalseSkip t 0 0 line ∷ [])
  skip_piece {H} {pc} t line tf to = one_jump p closed (abc LFalseSkip t 0 0 false) line (skip t tf) to

  truth_piece : {H : Type 0} {pc : ℕ} (op : Opcode) → IsFirst p op Jmp → (x y : ℕ) (k : Bool) (t line : ℕ) → x < 2 ^ 8 → y < 2 ^ 8 → t < 2 ^ 8 → Piece p H closed closed pc (truth_code op x y k t line)
  truth_piece {H} {pc} op first x y k t line xf yf tf =
      ending p (pc + 4) refl
      (three p (pc + 2) (pc + 3) refl (omega arith)
      (test_piece op first x y k 1 pc (pc + 3) line xf yf (lit< tt) (omega arith) (λ h. h.2))
      (skip_piece t line tf (λ h. let e : pc + 4 ≡ pc + 2 + 2 = omega arith in subst (λ q. Land p q) e h.0.1))
      (simple p LoadTrue (simple_load_true p) t 0 0 line tf (lit< tt) (lit< tt)))

  pub operator_piece : {H : Type 0} {pc : ℕ} (op : BinOp) (x y t line : ℕ) → x < 2 ^ 8 → y < 2 ^ 8 → t < 2 ^ 8 → Piece p H closed closed pc (operator_code op x y t line)
  operator_piece Plus x y t line xf yf tf = arithmetic_piece Add (first_add p) 6 x y t line refl (lit< tt) xf yf tf
  operator_piece Minus x y t line xf yf tf = arithmetic_piece Sub (first_sub p) 7 x y t line refl (lit< tt) xf yf tf
  operator_piece Times x y t line xf yf tf = arithmetic_piece Mul (first_mul p) 8 x y t line refl (lit< tt) xf yf tf
  operator_piece Modulo x y t line xf yf tf = arithmetic_piece Mod (first_mod p) 9 x y t line refl (lit< tt) xf yf tf
  operator_piece Idiv x y t line xf yf tf = arithmetic_piece IDiv (first_i_div p) 12 x y t line refl (lit< tt) xf yf tf
  operator_piece Band x y t line xf yf tf = arithmetic_piece BAnd (first_b_and p) 13 x y t line refl (lit< tt) xf yf tf
  operator_piece Bor x y t line xf yf tf = arithmetic_piece BOr (first_b_or p) 14 x y t line refl (lit< tt) xf yf tf
  operator_piece Bxor x y t line xf yf tf = arithmetic_piece BXor (first_b_xor p) 15 x y t line refl (lit< tt) xf yf tf
  operator_piece ShiftLeft x y t line xf yf tf = arithmetic_piece Shl (first_shl p) 16 x y t line refl (lit< tt) xf yf tf
  operator_piece ShiftRight x y t line xf yf tf = arithmetic_piece Shr (first_shr p) 17 x y t line refl (lit< tt) xf yf tf
  operator_piece Join x y t line xf yf tf = simple p Concat (simple_concat p) t 2 0 line tf (lit< tt) (lit< tt)
  operator_piece Equal x y t line xf yf tf = truth_piece Eq (first_eq p) x y true t line xf yf tf
  operator_piece Ne x y t line xf yf tf = truth_piece Eq (first_eq p) x y false t line xf yf tf
  operator_piece Less x y t line xf yf tf = truth_piece Lt (first_lt p) x y true t line xf yf tf
  operator_piece AtMost x y t line xf yf tf = truth_piece Le (first_le p) x y true t line xf yf tf
  operator_piece Gt x y t line xf yf tf = truth_piece Lt (first_lt p) y x true t line yf xf tf
  operator_piece Ge x y t line xf yf tf = truth_piece Le (first_le p) y x true t line yf xf tf

  -- a numeral is at most 128, and its field fits
  number_truth : {H : Type 0} {pc : ℕ} (op : Opcode) → IsFirst p op Jmp → (x n : ℕ) (k : Bool) (t line : ℕ) → n ≤ 128 → x < 2 ^ 8 → t < 2 ^ 8 → Piece p H closed closed pc (truth_code op x (n + 127) k t line)
  number_truth op first x n k t line small xf tf = truth_piece op first x (n + 127) k t line xf (omega (arith, small)) tf

  pub number_piece : {H : Type 0} {pc : ℕ} (op : BinOp) (d : Exp) (x n t line : ℕ) → operand_numeral op d ≡ Some n → x < 2 ^ 8 → t < 2 ^ 8 → Piece p H closed closed pc (number_code op x n t line)
  number_piece Plus d x n t line e xf tf = let small = (numeral_is d 128 n e).small in sum_piece AddI (first_add_i p) (n + 127) 6 x n t line refl (lit< tt) (omega (arith, small)) small xf tf
  number_piece Minus d x n t line e xf tf = let small = (numeral_is d 127 n e).small in sum_piece AddI (first_add_i p) (127 - n) 7 x n t line refl (lit< tt) (omega arith) (omega (arith, small)) xf tf
  number_piece ShiftLeft d x n t line e xf tf = let small = (shift_is d n e).0.small in sum_piece ShrI (first_shr_i p) (127 - n) 16 x n t line refl (lit< tt) (omega arith) (omega (arith, small)) xf tf
  number_piece ShiftRight d x n t line e xf tf = let small = (numeral_is d 128 n e).small in sum_piece ShrI (first_shr_i p) (n + 127) 17 x n t line refl (lit< tt) (omega (arith, small)) small xf tf
  number_piece Equal d x n t line e xf tf = number_truth EqI (first_eq_i p) x n true t line (numeral_is d 128 n e).small xf tf
  number_piece Ne d x n t line e xf tf = number_truth EqI (first_eq_i p) x n false t line (numeral_is d 128 n e).small xf tf
  number_piece Less d x n t line e xf tf = number_truth LtI (first_lt_i p) x n true t line (numeral_is d 128 n e).small xf tf
  number_piece AtMost d x n t line e xf tf = number_truth LeI (first_le_i p) x n true t line (numeral_is d 128 n e).small xf tf
  number_piece Gt d x n t line e xf tf = number_truth GtI (first_gt_i p) x n true t line (numeral_is d 128 n e).small xf tf
  number_piece Ge d x n t line e xf tf = number_truth GeI (first_ge_i p) x n true t line (numeral_is d 128 n e).small xf tf
  number_piece _ d x n t line e xf tf = absurd (numeral_none d n e)

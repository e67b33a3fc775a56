-- Pieces of operators whose second operand is a constant.
use Rattle.std.proofs.Common.{◌≡◌, ℕ, suc, ◌+◌, ◌<◌, ◌^◌, lit<, ℤ, Bool, true, false, not, ◌&&◌, ◌==◌, List, [], ◌∷◌, Option, Some, None, slice_get, refl, ap, subst, ◌∙◌, arith}
use Rattle.std.specs.List.{list_any, list_all}
use Rattle.tree_core.specs.declared.operator.BinOp.{BinOp}
use Rattle.tree_core.specs.declared.operator.BinOp.TheVariants.{Add as Plus, Sub as Minus, Mul as Times, Mod as Modulo, Idiv, Band, Bor, Bxor, Eq as Equal, Ne}
use Rattle.tree_core.specs.Tree.{Exp}
use Rattle.code_core.specs.declared.opcode.Opcode.{Opcode}
use Rattle.code_core.specs.declared.opcode.Opcode.TheVariants.{AddK, SubK, MulK, ModK, IDivK, BAndK, BOrK, BXorK, MmBinK, EqK, Jmp, LoadTrue}
use Rattle.code_core.specs.declared.instruction.Instruction.{Instruction}
use Rattle.code_core.specs.declared.proto.Const.{Const}
use Rattle.code_core.specs.declared.proto.Const.TheVariants.{Int as IntConst}
use Rattle.code_core.specs.Instruction.{abc, op_ax, c_of}
use Rattle.code_core.specs.Fields.{is_whole, integer, anything, constants, upvalues, target, second_half, stands_second, events, opens, takes_list}
use Rattle.code_core.specs.Prototype.{Prototype}
use Rattle.code_core.specs.Check.{function_there, varargs_fit}
use Rattle.code_core.proofs.FieldLemmas.{opcode_of-abc, opcode_of-ax, b_of-abc, c_of-abc}
use Rattle.code_of.specs.Coded.{with_abc, jump_over}
use Rattle.code_of.specs.ConstantOperands.{constant_by}
use Rattle.code_of.specs.Operations.{constant_code, constant_arithmetic}
use Rattle.code_of.specs.Operators.{truth_code}
use Rattle.code_of.proofs.Operations.{arithmetic_integer}
use Rattle.code_checked.proofs.Pieces.{closed, Land, Piece}
use Rattle.code_checked.proofs.Units.{Couple, leaves_none, begins_none, extra_of, two, two_jump}
use Rattle.code_checked.proofs.Words.{abc_fits, ax_fits, list_none, simple, simple_load_true, joined, joined_eq_k, last_jump}
use Rattle.code_checked.proofs.Loads.{is_used, constant_test}
use Rattle.code_checked.proofs.Operators.{skip_piece}
use Rattle.code_checked.proofs.Seams.{lands_over, ending, three}

module _ (p : Prototype) where
  -- an instruction of arithmetic with a constant begins a pair
  record TakesInteger (op : Opcode) : Type 0 where
    whole : is_whole op ≡ true
    alone : stands_second op ≡ false
    constant : (w : Instruction) (extra : Option ℕ) → constants op w extra ≡ (integer, c_of w) ∷ []
    upvalue : (w : Instruction) → upvalues op w ≡ []
    inner : (w : Instruction) → function_there p op w ≡ true
    half : (w : Instruction) → second_half op w ≡ Some MmBinK
    gives : (w : Instruction) → opens op w ≡ None
    takes : (w : Instruction) → takes_list op w ≡ false
    still : (pc : ℕ) (w : Instruction) → target pc op w ≡ None
    varargs : (pc : ℕ) → varargs_fit p pc op ≡ not (pc == 0 && p.own.vararg)

  abbrev summed : (op : Opcode) → TakesInteger op → (event x n t : ℕ) (z : ℤ) → list_any (λ e. event == e) events ≡ true → event < 2 ^ 8 → x < 2 ^ 8 → n < 2 ^ 8 → t < 2 ^ 8 → slice_get p.own.constants n ≡ Some (IntConst z)
      → Couple p closed (abc op t x n false) (abc MmBinK x n event false)
  summed op s event x n t z known ef xf nf tf there = record {
    opcode = op;
    is = opcode_of-abc op t x n false;
    whole = s.whole;
    fits = abc_fits op t x n false tf xf nf;
    alone = s.alone;
    constant = ap (list_all (is_used p)) (s.constant (abc op t x n false) (extra_of p (abc MmBinK x n event false)))
        ∙ ap (λ c. list_all (is_used p) ((integer, c) ∷ [])) (c_of-abc op t x n false tf xf nf) ∙ constant_test p integer n (IntConst z) there refl;
    upvalue = list_none p _ _ (s.upvalue (abc op t x n false));
    inner = s.inner (abc op t x n false);
    still = λ pc. s.still pc (abc op t x n false);
    gives = s.gives (abc op t x n false);
    takes = s.takes (abc op t x n false);
    varargs = λ pc h. s.varargs pc ∙ h;
    second = MmBinK;
    half = s.half (abc op t x n false);
    agree = ap (λ c. list_any (λ e. c == e) events) (c_of-abc MmBinK x n event false xf nf ef) ∙ known;
    second_is = opcode_of-abc MmBinK x n event false;
    second_whole = refl;
    second_fits = abc_fits MmBinK x n event false xf nf ef;
    second_constant = λ extra. ap (λ c. list_all (is_used p) ((integer, c) ∷ [])) (b_of-abc MmBinK x n event false xf nf) ∙ constant_test p integer n (IntConst z) there refl;
    second_upvalue = refl;
    second_inner = refl;
    second_half_none = refl;
    second_gives = refl;
    second_takes = refl;
    second_varargs = λ pc h. h;
  }

  summed_piece : {H : Type 0} {pc : ℕ} (op : Opcode) → TakesInteger op → (event x n t line : ℕ) (z : ℤ) → list_any (λ e. event == e) events ≡ true → event < 2 ^ 8 → x < 2 ^ 8 → n < 2 ^ 8 → t < 2 ^ 8 → slice_get p.own.constants n ≡ Some (IntConst z)
      → Piece p H closed closed pc (constant_arithmetic op event x n t line)
  summed_piece {H} {pc} op s event x n t line z known ef xf nf tf there =
      two p closed (abc op t x n false) (abc MmBinK x n event false) line line (record { couple = summed op s event x n t z known ef xf nf tf there; still = λ pc. refl })

  add_k : TakesInteger AddK
  add_k = record { whole = refl; alone = refl; constant = λ w extra. refl; upvalue = λ w. refl; inner = λ w. refl; half = λ w. refl; gives = λ w. refl; takes = λ w. refl; still = λ pc w. refl; varargs = λ pc. refl }

  sub_k : TakesInteger SubK
  sub_k = record { whole = refl; alone = refl; constant = λ w extra. refl; upvalue = λ w. refl; inner = λ w. refl; half = λ w. refl; gives = λ w. refl; takes = λ w. refl; still = λ pc w. refl; varargs = λ pc. refl }

  mul_k : TakesInteger MulK
  mul_k = record { whole = refl; alone = refl; constant = λ w extra. refl; upvalue = λ w. refl; inner = λ w. refl; half = λ w. refl; gives = λ w. refl; takes = λ w. refl; still = λ pc w. refl; varargs = λ pc. refl }

  mod_k : TakesInteger ModK
  mod_k = record { whole = refl; alone = refl; constant = λ w extra. refl; upvalue = λ w. refl; inner = λ w. refl; half = λ w. refl; gives = λ w. refl; takes = λ w. refl; still = λ pc w. refl; varargs = λ pc. refl }

  i_div_k : TakesInteger IDivK
  i_div_k = record { whole = refl; alone = refl; constant = λ w extra. refl; upvalue = λ w. refl; inner = λ w. refl; half = λ w. refl; gives = λ w. refl; takes = λ w. refl; still = λ pc w. refl; varargs = λ pc. refl }

  b_and_k : TakesInteger BAndK
  b_and_k = record { whole = refl; alone = refl; constant = λ w extra. refl; upvalue = λ w. refl; inner = λ w. refl; half = λ w. refl; gives = λ w. refl; takes = λ w. refl; still = λ pc w. refl; varargs = λ pc. refl }

  b_or_k : TakesInteger BOrK
  b_or_k = record { whole = refl; alone = refl; constant = λ w extra. refl; upvalue = λ w. refl; inner = λ w. refl; half = λ w. refl; gives = λ w. refl; takes = λ w. refl; still = λ pc w. refl; varargs = λ pc. refl }

  b_xor_k : TakesInteger BXorK
  b_xor_k = record { whole = refl; alone = refl; constant = λ w extra. refl; upvalue = λ w. refl; inner = λ w. refl; half = λ w. refl; gives = λ w. refl; takes = λ w. refl; still = λ pc w. refl; varargs = λ pc. refl }

  -- EQK and the jump behind it, over m instructions to place q
  abbrev equalled : (x n : ℕ) (k : Bool) (m : ℕ) (v : Const) → x < 2 ^ 8 → n < 2 ^ 8 → m < 2 ^ 24 → slice_get p.own.constants n ≡ Some v → Couple p closed (abc EqK x n 0 k) (op_ax Jmp (16777215 + m))
  equalled x n k m v xf nf mf there =
      joined p closed EqK Jmp (joined_eq_k p) (last_jump p) (abc EqK x n 0 k) (op_ax Jmp (16777215 + m)) (opcode_of-abc EqK x n 0 k) (abc_fits EqK x n 0 k xf nf (lit< tt))
      (ap (λ c. list_all (is_used p) ((anything, c) ∷ [])) (b_of-abc EqK x n 0 k xf nf) ∙ constant_test p anything n v there refl)
      refl refl (opcode_of-ax Jmp (16777215 + m)) (ax_fits Jmp (16777215 + m) (omega (arith, mf))) refl

  equal_piece : {H : Type 0} (x n : ℕ) (k : Bool) (m pc q line : ℕ) (v : Const) → x < 2 ^ 8 → n < 2 ^ 8 → m < 2 ^ 24 → slice_get p.own.constants n ≡ Some v → q ≡ pc + 2 + m → (H → Land p q)
      → Piece p H closed closed pc ((abc EqK x n 0 k, line) ∷ jump_over m line ∷ [])
  equal_piece {H} x n k m pc q line v xf nf mf there e to =
      two_jump p closed (abc EqK x n 0 k) (op_ax Jmp (16777215 + m)) line line (equalled x n k m v xf nf mf there) (λ h. lands_over p (suc pc) m q mf (omega (arith, e)) (to h))

  pub equal_over : {H : Type 0} (x n : ℕ) (k : Bool) (m pc q line : ℕ) (v : Const) → x < 2 ^ 8 → n < 2 ^ 8 → (H → m < 2 ^ 24) → slice_get p.own.constants n ≡ Some v → q ≡ pc + 2 + m → (H → Land p q)
      → Piece p H closed closed pc ((abc EqK x n 0 k, line) ∷ jump_over m line ∷ [])
  equal_over {H} x n k m pc q line v xf nf short there e to = record {
    starts = record { opcode = EqK; is = opcode_of-abc EqK x n 0 k; alone = refl };
    ends = (leaves_none Jmp (op_ax Jmp (16777215 + m)) (opcode_of-ax Jmp (16777215 + m)) refl, begins_none Jmp Jmp (op_ax Jmp (16777215 + m)) (opcode_of-ax Jmp (16777215 + m)) refl);
    kept = λ h. (equal_piece {H = H} x n k m pc q line v xf nf (short h) there e to).kept h;
  }

  equal_truth : {H : Type 0} {pc : ℕ} (x n : ℕ) (k : Bool) (t line : ℕ) (v : Const) → x < 2 ^ 8 → n < 2 ^ 8 → t < 2 ^ 8 → slice_get p.own.constants n ≡ Some v → Piece p H closed closed pc (truth_code EqK x n k t line)
  equal_truth {H} {pc} x n k t line v xf nf tf there =
      ending p (pc + 4) refl
      (three p (pc + 2) (pc + 3) refl (omega arith)
      (equal_piece x n k 1 pc (pc + 3) line v xf nf (lit< tt) there (omega arith) (λ h. h.2))
      (skip_piece p t line tf (λ h. let e : pc + 4 ≡ pc + 2 + 2 = omega arith in subst (λ q. Land p q) e h.0.1))
      (simple p LoadTrue (simple_load_true p) t 0 0 line tf (lit< tt) (lit< tt)))

  pub constant_piece : {H : Type 0} {pc : ℕ} (op : BinOp) (d : Exp) (v : Const) (x n t line : ℕ) → constant_by op d ≡ Some v → slice_get p.own.constants n ≡ Some v → x < 2 ^ 8 → n < 2 ^ 8 → t < 2 ^ 8 → Piece p H closed closed pc (constant_code op x n t line)
  constant_piece Plus d v x n t line is there xf nf tf = let i = arithmetic_integer Plus d v refl is in summed_piece AddK add_k 6 x n t line i.0 refl (lit< tt) xf nf tf (there ∙ ap Some i.1)
  constant_piece Minus d v x n t line is there xf nf tf = let i = arithmetic_integer Minus d v refl is in summed_piece SubK sub_k 7 x n t line i.0 refl (lit< tt) xf nf tf (there ∙ ap Some i.1)
  constant_piece Times d v x n t line is there xf nf tf = let i = arithmetic_integer Times d v refl is in summed_piece MulK mul_k 8 x n t line i.0 refl (lit< tt) xf nf tf (there ∙ ap Some i.1)
  constant_piece Modulo d v x n t line is there xf nf tf = let i = arithmetic_integer Modulo d v refl is in summed_piece ModK mod_k 9 x n t line i.0 refl (lit< tt) xf nf tf (there ∙ ap Some i.1)
  constant_piece Idiv d v x n t line is there xf nf tf = let i = arithmetic_integer Idiv d v refl is in summed_piece IDivK i_div_k 12 x n t line i.0 refl (lit< tt) xf nf tf (there ∙ ap Some i.1)
  constant_piece Band d v x n t line is there xf nf tf = let i = arithmetic_integer Band d v refl is in summed_piece BAndK b_and_k 13 x n t line i.0 refl (lit< tt) xf nf tf (there ∙ ap Some i.1)
  constant_piece Bor d v x n t line is there xf nf tf = let i = arithmetic_integer Bor d v refl is in summed_piece BOrK b_or_k 14 x n t line i.0 refl (lit< tt) xf nf tf (there ∙ ap Some i.1)
  constant_piece Bxor d v x n t line is there xf nf tf = let i = arithmetic_integer Bxor d v refl is in summed_piece BXorK b_xor_k 15 x n t line i.0 refl (lit< tt) xf nf tf (there ∙ ap Some i.1)
  constant_piece Equal d v x n t line is there xf nf tf = equal_truth x n true t line v xf nf tf there
  constant_piece Ne d v x n t line is there xf nf tf = equal_truth x n false t line v xf nf tf there
  constant_piece _ d v x n t line is there xf nf tf = absurd (cc)

-- Pieces that jump. A function's code is short, so how far they jump fits its field; this is known once the code is at its place.
use Rattle.std.proofs.Common.{◌≡◌, ℕ, ◌+◌, ◌-◌, ◌<◌, ◌^◌, Bool, List, [], ◌∷◌, length, refl, arith}
use Rattle.std.proofs.lemmas.Option.{slice_get_within}
use Rattle.code_core.specs.declared.opcode.Opcode.{Opcode}
use Rattle.code_core.specs.declared.opcode.Opcode.TheVariants.{Jmp}
use Rattle.code_core.specs.Instruction.{abc, op_ax}
use Rattle.code_core.specs.Prototype.{Prototype}
use Rattle.code_core.proofs.FieldLemmas.{opcode_of-abc, opcode_of-ax}
use Rattle.code_of.specs.Coded.{Coded, jump_over, jump_back}
use Rattle.code_checked.proofs.Pieces.{Seam, closed, Land, Piece, supposing}
use Rattle.code_checked.proofs.Units.{Single, one_jump, leaves_none, begins_none}
use Rattle.code_checked.proofs.Words.{ax_fits, IsFirst, lone, alone_jump}
use Rattle.code_checked.proofs.Loads.{Whole}
use Rattle.code_checked.proofs.Seams.{lands_over, lands_back}
use Rattle.code_checked.proofs.Operators.{test_piece}

module _ (p : Prototype) where
  -- code behind which something stands is not the whole
  pub within : {H : Type 0} {f : Seam} {pc : ℕ} {xs : List Coded} → Whole p → Piece p (H × (pc + length xs < 2 ^ 24)) f closed pc xs → Piece p H f closed pc xs
  within {H} {f} {pc} {xs} W a = record {
    starts = a.starts;
    ends = a.ends;
    kept = λ h has front behind.
        let below = slice_get_within p.own.code (pc + length xs) behind.word behind.here in
        let short = W.short in
        a.kept (h, omega (arith, below, short)) has front behind;
  }

  pub shortly : {H : Type 0} {f : Seam} {pc : ℕ} {xs : List Coded} → Whole p → Piece p (H × (length xs < 2 ^ 24)) f closed pc xs → Piece p H f closed pc xs
  shortly {H} {f} {pc} {xs} W a = within W (supposing p (λ h. let below = h.1 in (h.0, omega (arith, below))) a)

  abbrev pub jump : (w : ℕ) → w < 2 ^ 25 → Single p closed closed (op_ax Jmp w)
  jump w fits = lone p Jmp (alone_jump p) (op_ax Jmp w) (opcode_of-ax Jmp w) (ax_fits Jmp w fits) (λ extra. refl) refl

  pub over_piece : {H : Type 0} (n pc q line : ℕ) → (H → n < 2 ^ 24) → q ≡ pc + 1 + n → (H → Land p q) → Piece p H closed closed pc (jump_over n line ∷ [])
  over_piece {H} n pc q line short e to = record {
    starts = record { opcode = Jmp; is = opcode_of-ax Jmp (16777215 + n); alone = refl };
    ends = (leaves_none Jmp (op_ax Jmp (16777215 + n)) (opcode_of-ax Jmp (16777215 + n)) refl, begins_none Jmp Jmp (op_ax Jmp (16777215 + n)) (opcode_of-ax Jmp (16777215 + n)) refl);
    kept = λ h. (let nf = short h in
        let s = jump (16777215 + n) (omega (arith, nf)) in
        (one_jump p {H = H} {pc = pc} closed (op_ax Jmp (16777215 + n)) line s (λ h. lands_over p pc n q (short h) e (to h))).kept h);
  }

  pub back_piece : {H : Type 0} (n pc q line : ℕ) → (H → n < 2 ^ 24) → q + n ≡ pc + 1 → (H → Land p q) → Piece p H closed closed pc (jump_back n line ∷ [])
  back_piece {H} n pc q line short e to =
      one_jump p {H = H} {pc = pc} closed (op_ax Jmp (16777215 - n)) line (jump (16777215 - n) (omega arith)) (λ h. lands_back p pc n q (short h) e (to h))

  -- a test and a jump over n instructions, to place q
  pub test_over : {H : Type 0} (op : Opcode) → IsFirst p op Jmp → (a b : ℕ) (k : Bool) (n pc q line : ℕ) → a < 2 ^ 8 → b < 2 ^ 8 → (H → n < 2 ^ 24) → q ≡ pc + 2 + n → (H → Land p q)
      → Piece p H closed closed pc ((abc op a b 0 k, line) ∷ jump_over n line ∷ [])
  test_over {H} op first a b k n pc q line af bf short e to = record {
    starts = record { opcode = op; is = opcode_of-abc op a b 0 k; alone = first.alone };
    ends = (leaves_none Jmp (op_ax Jmp (16777215 + n)) (opcode_of-ax Jmp (16777215 + n)) refl, begins_none Jmp Jmp (op_ax Jmp (16777215 + n)) (opcode_of-ax Jmp (16777215 + n)) refl);
    kept = λ h. (test_piece p {H = H} op first a b k n pc q line af bf (short h) e to).kept h;
  }

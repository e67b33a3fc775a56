-- The forms of statements with blocks are pieces, where their parts are. `q` is the place behind a statement.
use Rattle.std.proofs.Common.{◌≡◌, ℕ, suc, ◌+◌, ◌<◌, ◌^◌, lit<, false, pos, ◌-ℤ◌, List, [], ◌∷◌, ◌++◌, length, Some, refl, sym, ap, subst, ◌∙◌, arith, length-append, append_assoc}
use Rattle.code_core.specs.declared.opcode.Opcode.TheVariants.{ForLoop, ForPrep, TForPrep, TForCall, TForLoop, Close}
use Rattle.code_core.specs.Instruction.{abc, abx}
use Rattle.code_core.specs.Prototype.{Prototype}
use Rattle.code_core.proofs.FieldLemmas.{opcode_of-abc, opcode_of-abx, a_of-abc, a_of-abx, bx_of-abx}
use Rattle.code_of.specs.Coded.{Coded, with_abc, with_abx, jump_back}
use Rattle.code_of.specs.Parts.{while_code, repeat_code, past, arm_code, counting_code, iterating_code}
use Rattle.code_checked.proofs.Pieces.{closed, Land, Lands, Piece, both, nothing}
use Rattle.code_checked.proofs.Units.{Single, one_jump, two_jump}
use Rattle.code_checked.proofs.Words.{abc_fits, abx_fits, pair, simple, simple_close, first_iterate, last_iterate, lone, alone_for_loop, alone_for_prep, alone_t_for_prep}
use Rattle.code_checked.proofs.Loads.{Whole}
use Rattle.code_checked.proofs.Seams.{alike, beginning, ending, three, back_to}
use Rattle.code_checked.proofs.Jumping.{shortly, over_piece, back_piece}
use Rattle.std.proofs.Common.{eq-eqb}

module _ (p : Prototype) (W : Whole p) where
  pub while_piece : {G : Type 0} (test : ℕ → List Coded) (block : List Coded) (line pc q : ℕ) → pc + length (while_code test block line) ≡ q
      → ((H : Type 0) → (H → length (test (length block + 1)) + (length block + 1) < 2 ^ 24) → (H → G × Land p q) → Piece p H closed closed pc (test (length block + 1)))
      → ((H : Type 0) → (H → G × Land p q) → Piece p H closed closed (pc + length (test (length block + 1))) block) → Piece p G closed closed pc (while_code test block line)
  while_piece {G} test block line pc q e a b =
      let first : List Coded = test (length block + 1) in
      let n : ℕ = length first + length block + 1 in
      let back : List Coded = jump_back n line ∷ [] in
      let s1 = length-append first (block ++ back) in
      let s2 = length-append block back in
      let H : Type 0 = ((G × Land p q) × Land p pc) × (length (while_code test block line) < 2 ^ 24) in
      let inner : Piece p H closed closed pc (while_code test block line) =
      both p (a H (λ h. let f = h.1 in omega (arith, f, s1, s2)) (λ h. h.0.0))
      (both p (b H (λ h. h.0.0)) (back_piece p n (pc + length first + length block) pc line (λ h. let f = h.1 in omega (arith, f, s1, s2)) (omega arith) (λ h. h.0.1))) in
      ending p q e (beginning p (shortly p W inner))

  pub repeat_piece : {G : Type 0} (test : ℕ → List Coded) (block close : List Coded) (line pc q : ℕ) → pc + length (repeat_code test block close line) ≡ q
      → ((H : Type 0) → (H → G × Land p q) → Piece p H closed closed pc block)
      → ((H : Type 0) (r : ℕ) → (H → length (test (length close + 1)) + (length close + 1) < 2 ^ 24) → r ≡ pc + length block + length (test (length close + 1)) + (length close + 1) → (H → Land p r) → Piece p H closed closed (pc + length block) (test (length close + 1)))
      → ((H : Type 0) (r : ℕ) → Piece p H closed closed r close) → Piece p G closed closed pc (repeat_code test block close line)
  repeat_piece {G} test block close line pc q e a b c =
      let final : List Coded = test (length close + 1) in
      let n : ℕ = length block + length final + length close + 1 in
      let back : Coded = jump_back n line in
      let front : List Coded = block ++ final in
      let middle : List Coded = close ++ back ∷ [] in
      let same : front ++ (middle ++ close) ≡ repeat_code test block close line =
      append_assoc block final (middle ++ close) ∙ ap (λ l. block ++ (final ++ l)) (append_assoc close (back ∷ []) close) in
      let s1 = length-append block final in
      let s3 = length-append close (back ∷ []) in
      let s4 = length-append front (middle ++ close) in
      let s5 = length-append middle close in
      let all : length (front ++ (middle ++ close)) ≡ length (repeat_code test block close line) = ap length same in
      let begin : ℕ = pc + length front in
      let last : ℕ = begin + length middle in
      let H : Type 0 = (((G × Land p q) × Land p pc) × (length (front ++ (middle ++ close)) < 2 ^ 24)) × Land p begin × Land p last in
      let inner : Piece p (((G × Land p q) × Land p pc) × (length (front ++ (middle ++ close)) < 2 ^ 24)) closed closed pc (front ++ (middle ++ close)) =
      three p begin last refl refl
      (both p (a H (λ h. h.0.0.0)) (b H last (λ h. let f = h.0.1 in omega (arith, f, s1, s3, s4, s5)) (omega (arith, s1, s3)) (λ h. h.2)))
      (both p (c H begin) (back_piece p n (begin + length close) pc line (λ h. let f = h.0.1 in omega (arith, f, s1, s3, s4, s5)) (omega (arith, s1)) (λ h. h.0.0.1)))
      (c H last) in
      ending p q e (beginning p (alike p same (shortly p W inner)))

  past_piece : {H : Type 0} (rest : List Coded) (line pc q : ℕ) → q ≡ pc + length (past rest line) + length rest → (H → length rest < 2 ^ 24) → (H → Land p q) → Piece p H closed closed pc (past rest line)
  past_piece [] line pc q e short to = nothing p
  past_piece (x ∷ rest) line pc q e short to = over_piece p (length (x ∷ rest)) pc q line short e to

  pub arm_piece : {G : Type 0} (test : ℕ → List Coded) (block rest : List Coded) (line pc : ℕ)
      → ((H : Type 0) (r : ℕ) → (H → length (test (length block + length (past rest line))) + (length block + length (past rest line)) < 2 ^ 24)
      → r ≡ pc + length (test (length block + length (past rest line))) + (length block + length (past rest line)) → (H → G × Land p r) → Piece p H closed closed pc (test (length block + length (past rest line))))
      → ((H : Type 0) → (H → G) → Piece p H closed closed (pc + length (test (length block + length (past rest line)))) block)
      → ((H : Type 0) → (H → G) → Piece p H closed closed (pc + length (test (length block + length (past rest line))) + length block + length (past rest line)) rest)
      → Piece p G closed closed pc (arm_code test block rest line)
  arm_piece {G} test block rest line pc a b c =
      let over : List Coded = past rest line in
      let first : List Coded = test (length block + length over) in
      let middle : List Coded = block ++ over in
      let same : first ++ (middle ++ rest) ≡ arm_code test block rest line = ap (λ l. first ++ l) (append_assoc block over rest) in
      let s2 = length-append block over in
      let s4 = length-append first (middle ++ rest) in
      let s5 = length-append middle rest in
      let all : length (first ++ (middle ++ rest)) ≡ length (arm_code test block rest line) = ap length same in
      let begin : ℕ = pc + length first in
      let last : ℕ = begin + length block + length over in
      let q : ℕ = pc + length (first ++ (middle ++ rest)) in
      let H : Type 0 = ((G × Land p q) × (length (first ++ (middle ++ rest)) < 2 ^ 24)) × Land p begin × Land p last in
      let inner : Piece p ((G × Land p q) × (length (first ++ (middle ++ rest)) < 2 ^ 24)) closed closed pc (first ++ (middle ++ rest)) =
      three p begin last refl (omega (arith, s2))
      (a H last (λ h. let f = h.0.1 in omega (arith, f, s2, s4, s5)) (omega arith) (λ h. (h.0.0.0, h.2)))
      (both p (b H (λ h. h.0.0.0)) (past_piece rest line (begin + length block) q (omega (arith, s2, s4, s5)) (λ h. let f = h.0.1 in omega (arith, f, s4, s5)) (λ h. h.0.0.1)))
      (c H (λ h. h.0.0.0)) in
      alike p same (ending p q refl (shortly p W inner))

  -- loops of `for`

  abbrev prepare : (t bx : ℕ) → t < 2 ^ 8 → bx < 2 ^ 17 → Single p closed closed (abx ForPrep t bx)
  prepare t bx tf bf = lone p ForPrep (alone_for_prep p) (abx ForPrep t bx) (opcode_of-abx ForPrep t bx) (abx_fits ForPrep t bx tf bf) (λ extra. refl) refl

  abbrev again : (t bx : ℕ) → t < 2 ^ 8 → bx < 2 ^ 17 → Single p closed closed (abx ForLoop t bx)
  again t bx tf bf = lone p ForLoop (alone_for_loop p) (abx ForLoop t bx) (opcode_of-abx ForLoop t bx) (abx_fits ForLoop t bx tf bf) (λ extra. refl) refl

  abbrev prepare_generic : (t bx : ℕ) → t < 2 ^ 8 → bx < 2 ^ 17 → Single p closed closed (abx TForPrep t bx)
  prepare_generic t bx tf bf = lone p TForPrep (alone_t_for_prep p) (abx TForPrep t bx) (opcode_of-abx TForPrep t bx) (abx_fits TForPrep t bx tf bf) (λ extra. refl) refl

  prepare_piece : {H : Type 0} (t bx pc q line : ℕ) → t < 2 ^ 8 → bx < 2 ^ 17 → q ≡ pc + 2 + bx → (H → Land p q) → Piece p H closed closed pc (with_abx ForPrep t bx line ∷ [])
  prepare_piece {H} t bx pc q line tf bf e to =
      one_jump p closed (abx ForPrep t bx) line (prepare t bx tf bf) (λ h. subst (λ z. Lands p (Some z)) (ap pos (e ∙ ap (λ b. pc + 2 + b) (sym (bx_of-abx ForPrep t bx tf bf)))) (to h))

  prepare_generic_piece : {H : Type 0} (t bx pc q line : ℕ) → t < 2 ^ 8 → bx < 2 ^ 17 → q ≡ pc + 1 + bx → (H → Land p q) → Piece p H closed closed pc (with_abx TForPrep t bx line ∷ [])
  prepare_generic_piece {H} t bx pc q line tf bf e to =
      one_jump p closed (abx TForPrep t bx) line (prepare_generic t bx tf bf) (λ h. subst (λ z. Lands p (Some z)) (ap pos (e ∙ ap (λ b. pc + 1 + b) (sym (bx_of-abx TForPrep t bx tf bf)))) (to h))

  back_place : (pc bx q w : ℕ) → q + bx ≡ pc + 1 → w ≡ bx → pos q ≡ pos (pc + 1) -ℤ pos w
  back_place pc bx q w e same = sym (ap (λ n. pos (pc + 1) -ℤ pos n) same ∙ ap (λ n. pos n -ℤ pos bx) (sym e) ∙ back_to q bx)

  again_piece : {H : Type 0} (t bx pc q line : ℕ) → t < 2 ^ 8 → bx < 2 ^ 17 → q + bx ≡ pc + 1 → (H → Land p q) → Piece p H closed closed pc (with_abx ForLoop t bx line ∷ [])
  again_piece {H} t bx pc q line tf bf e to =
      one_jump p closed (abx ForLoop t bx) line (again t bx tf bf) (λ h. subst (λ z. Lands p (Some z)) (back_place pc bx q _ e (bx_of-abx ForLoop t bx tf bf)) (to h))

  again_generic_piece : {H : Type 0} (t n bx pc q line : ℕ) → t < 2 ^ 8 → n < 2 ^ 8 → bx < 2 ^ 17 → q + bx ≡ pc + 2 → (H → Land p q) → Piece p H closed closed pc (with_abc TForCall t 0 n line ∷ with_abx TForLoop t bx line ∷ [])
  again_generic_piece {H} t n bx pc q line tf nf bf e to =
      two_jump p closed (abc TForCall t 0 n false) (abx TForLoop t bx) line line
      (pair p TForCall TForLoop (first_iterate p) (last_iterate p) (abc TForCall t 0 n false) (abx TForLoop t bx) (opcode_of-abc TForCall t 0 n false) (abc_fits TForCall t 0 n false tf (lit< tt) nf)
      (opcode_of-abx TForLoop t bx) (abx_fits TForLoop t bx tf bf)
      (eq-eqb _ _ (a_of-abc TForCall t 0 n false tf ∙ sym (a_of-abx TForLoop t bx tf))))
      (λ h. subst (λ z. Lands p (Some z)) (back_place (suc pc) bx q _ (omega (arith, e)) (bx_of-abx TForLoop t bx tf bf)) (to h))

  pub counting_piece : {G : Type 0} (start block : List Coded) (t line pc q : ℕ) → t < 2 ^ 8 → length block + 2 < 2 ^ 17 → pc + length (counting_code start block t line) ≡ q
      → ((H : Type 0) → (H → G × Land p q) → Piece p H closed closed pc start) → ((H : Type 0) → (H → G × Land p q) → Piece p H closed closed (pc + length start + 1) block) → Piece p G closed closed pc (counting_code start block t line)
  counting_piece {G} start block t line pc q tf near e a b =
      let x : Coded = with_abx ForPrep t (length block) line in
      let z : Coded = with_abx ForLoop t (length block + 1) line in
      let front : List Coded = start ++ x ∷ [] in
      let same : front ++ (block ++ z ∷ []) ≡ counting_code start block t line = append_assoc start (x ∷ []) (block ++ z ∷ []) in
      let s1 = length-append start (x ∷ []) in
      let s2 = length-append start (x ∷ (block ++ z ∷ [])) in
      let s3 = length-append block (z ∷ []) in
      let begin : ℕ = pc + length start + 1 in
      let last : ℕ = begin + length block in
      let H : Type 0 = (G × Land p q) × Land p begin × Land p last in
      let inner : Piece p (G × Land p q) closed closed pc (front ++ (block ++ z ∷ [])) =
      three p begin last (omega (arith, s1)) refl
      (both p (a H (λ h. h.0)) (prepare_piece t (length block) (pc + length start) q line tf (omega (arith, near)) (omega (arith, e, s2, s3)) (λ h. h.0.1)))
      (b H (λ h. h.0))
      (again_piece t (length block + 1) last begin line tf (omega (arith, near)) (omega arith) (λ h. h.1)) in
      ending p q e (alike p same inner)

  pub iterating_piece : {G : Type 0} (start block : List Coded) (t n line pc q : ℕ) → t < 2 ^ 8 → n < 2 ^ 8 → length block + 2 < 2 ^ 17 → pc + length (iterating_code start block t n line) ≡ q
      → ((H : Type 0) → (H → G × Land p q) → Piece p H closed closed pc start) → ((H : Type 0) → (H → G × Land p q) → Piece p H closed closed (pc + length start + 1) block) → Piece p G closed closed pc (iterating_code start block t n line)
  iterating_piece {G} start block t n line pc q tf nf near e a b =
      let x : Coded = with_abx TForPrep t (length block) line in
      let tail : List Coded = with_abc TForCall t 0 n line ∷ with_abx TForLoop t (length block + 2) line ∷ with_abc Close t 0 0 line ∷ [] in
      let front : List Coded = start ++ x ∷ [] in
      let same : front ++ (block ++ tail) ≡ iterating_code start block t n line = append_assoc start (x ∷ []) (block ++ tail) in
      let s1 = length-append start (x ∷ []) in
      let s2 = length-append start (x ∷ (block ++ tail)) in
      let s3 = length-append block tail in
      let begin : ℕ = pc + length start + 1 in
      let last : ℕ = begin + length block in
      let H : Type 0 = (G × Land p q) × Land p begin × Land p last in
      let inner : Piece p (G × Land p q) closed closed pc (front ++ (block ++ tail)) =
      three p begin last (omega (arith, s1)) refl
      (both p (a H (λ h. h.0)) (prepare_generic_piece t (length block) (pc + length start) last line tf (omega (arith, near)) (omega arith) (λ h. h.2)))
      (b H (λ h. h.0))
      (both p (again_generic_piece t n (length block + 2) last begin line tf nf near (omega arith) (λ h. h.1)) (simple p Close (simple_close p) t 0 0 line tf (lit< tt) (lit< tt))) in
      ending p q e (alike p same inner)

-- Bytes of a format that stand for themselves, many at once.
use Rattle.std.proofs.Common.{◌≡◌, ℕ, suc, ◌+◌, ◌-◌, ◌≤◌, ◌<◌, Bool, true, false, List, [], ◌∷◌, ◌++◌, length, drop, take, map, Err, refl, sym, ap, ◌∙◌, append_assoc, arith}
use Rattle.std.specs.Prelude.{◌==◌, cond, nat_le, not}
use Rattle.std.specs.List.{prefix_len}
use Rattle.std.proofs.lemmas.Bool.Decides.{nat_tests}
use Rattle.int_core.specs.Value.{Shape}
use Rattle.library_rows.specs.Formats.{Piece as Part, literal, filled_in, letters, onto, pieces}
use Rattle.library_rows.specs.Plainly.{too_large}
use Rattle.text_functions.proofs.Pieces.{Made, after, after_both, after_nothing, onto_fits, onto_refused}
use Rattle.lib_string.specs.declared.format_reading.Piece.{Piece}
use Rattle.lib_string.specs.declared.format_reading.Piece.TheVariants as a_piece
use Rattle.lib_string.specs.Pieces.{is_literal, letter_in, parts_of}
use Rattle.lib_string.proofs.Parts.{literal_first}

-- The bytes in front of the first `%`.

not_so : (b : Bool) → not b ≡ true → b ≡ false
not_so true h = absurd (cc)
not_so false h = refl

pub some_literal : (b : ℕ) (text : List ℕ) → (b == 37) ≡ false → 0 < prefix_len is_literal (b ∷ text)
some_literal b text other = by (is_literal b) (ap not other)
  where
    by : (t : Bool) → t ≡ true → 0 < cond t (1 + prefix_len is_literal text) 0
    by true e = omega arith
    by false e = absurd (cc)

run_by : (c : ℕ) (text : List ℕ) (t : Bool) → is_literal c ≡ t → pieces 0 text ≡ map literal (take (prefix_len is_literal text) text) ++ pieces 0 (drop (prefix_len is_literal text) text)
    → pieces 0 (c ∷ text) ≡ map literal (take (cond t (1 + prefix_len is_literal text) 0) (c ∷ text)) ++ pieces 0 (drop (cond t (1 + prefix_len is_literal text) 0) (c ∷ text))
run_by c text false e behind = refl
run_by c text true e behind =
    let one : suc (prefix_len is_literal text) ≡ 1 + prefix_len is_literal text = omega arith in
    literal_first c text (not_so (c == 37) e) ∙ ap (λ ps. literal c ∷ ps) behind ∙ ap (λ n. map literal (take n (c ∷ text)) ++ pieces 0 (drop n (c ∷ text))) one

pub run_first : (text : List ℕ) → pieces 0 text ≡ map literal (take (prefix_len is_literal text) text) ++ pieces 0 (drop (prefix_len is_literal text) text)
run_first [] = refl
run_first (c ∷ text) = run_by c text (is_literal c) refl (run_first text)

-- They have no letters.

no_letters : (bytes : List ℕ) (ps : List Part) → letters (map literal bytes ++ ps) ≡ letters ps
no_letters [] ps = refl
no_letters (b ∷ bytes) ps = no_letters bytes ps

pub letters_first : (p : Piece) (ps : List Part) → letters (parts_of p ++ ps) ≡ letter_in p ++ letters ps
letters_first (a_piece.Literal b) ps = refl
letters_first (a_piece.Literals bytes) ps = no_letters bytes.now ps
letters_first (a_piece.Conversion c) ps = refl
letters_first a_piece.Broken ps = refl

-- the letters so far with those of one piece more
pub letters_go_on : (all rest behind old new : List ℕ) (p : Piece) → letters (pieces 0 all) ≡ old ++ letters (pieces 0 rest) → pieces 0 rest ≡ parts_of p ++ pieces 0 behind → new ≡ old ++ letter_in p
    → letters (pieces 0 all) ≡ new ++ letters (pieces 0 behind)
letters_go_on all rest behind old new p so front added =
    so ∙ ap (λ ps. old ++ letters ps) front ∙ ap (λ ls. old ++ ls) (letters_first p (pieces 0 behind))
    ∙ sym (append_assoc old (letter_in p) (letters (pieces 0 behind))) ∙ ap (λ text. text ++ letters (pieces 0 behind)) (sym added)

-- Filled in one after another they have room where all have.

onto_nothing : (room : ℕ) (rest : ℕ → Made) → onto room [] rest ≡ rest room
onto_nothing room rest =
    let same : room - 0 ≡ room = omega arith in
    onto_fits room [] rest (omega arith) ∙ after_nothing (rest (room - 0)) ∙ ap rest same

module _ (room b : ℕ) (bytes : List ℕ) (rest : ℕ → Made) where
  abbrev second : ℕ → Made
  second left = onto left bytes rest

  both_fit : suc (length bytes) ≤ room → onto room (b ∷ []) second ≡ onto room (b ∷ bytes) rest
  both_fit h =
      let left : room - 1 - length bytes ≡ room - suc (length bytes) = omega arith in
      onto_fits room (b ∷ []) second (omega (arith, h)) ∙ ap (after (b ∷ [])) (onto_fits (room - 1) bytes rest (omega (arith, h))) ∙ after_both (b ∷ []) bytes (rest (room - 1 - length bytes))
      ∙ ap (λ n. after (b ∷ bytes) (rest n)) left ∙ sym (onto_fits room (b ∷ bytes) rest (omega (arith, h)))

  second_refused : room < suc (length bytes) → 1 ≤ room → onto room (b ∷ []) second ≡ onto room (b ∷ bytes) rest
  second_refused h k =
      onto_fits room (b ∷ []) second (omega (arith, k)) ∙ ap (after (b ∷ [])) (onto_refused (room - 1) bytes rest (omega (arith, h, k)))
      ∙ sym (onto_refused room (b ∷ bytes) rest (omega (arith, h)))

  first_refused : room < 1 → onto room (b ∷ []) second ≡ onto room (b ∷ bytes) rest
  first_refused k = onto_refused room (b ∷ []) second (omega (arith, k)) ∙ sym (onto_refused room (b ∷ bytes) rest (omega (arith, k)))

  onto_both : onto room (b ∷ []) second ≡ onto room (b ∷ bytes) rest
  onto_both = by (nat_le (suc (length bytes)) room) (nat_le 1 room) refl refl
    where
      by : (t u : Bool) → nat_le (suc (length bytes)) room ≡ t → nat_le 1 room ≡ u → onto room (b ∷ []) second ≡ onto room (b ∷ bytes) rest
      by true u e f =
          let h : suc (length bytes) ≤ room = grind (arith, nat_tests) in
          both_fit h
      by false true e f =
          let h : room < suc (length bytes) = grind (arith, nat_tests) in
          let k : 1 ≤ room = grind (arith, nat_tests) in
          second_refused h k
      by false false e f =
          let k : room < 1 = grind (arith, nat_tests) in
          first_refused k

same_later : (room : ℕ) (text : List ℕ) (r s : ℕ → Made) → r (room - length text) ≡ s (room - length text) → onto room text r ≡ onto room text s
same_later room text r s e = ap (λ made. elim (nat_le (length text) room) as (λ _. Made) [ true ↦ after text made | false ↦ Err too_large ]) e

pub run_is : (bytes : List ℕ) (ps : List Part) (ss : List Shape) (i room : ℕ) → filled_in (map literal bytes ++ ps) ss i room ≡ onto room bytes (λ left. filled_in ps ss i left)
run_is [] ps ss i room = sym (onto_nothing room (λ left. filled_in ps ss i left))
run_is (b ∷ bytes) ps ss i room =
    same_later room (b ∷ []) (λ left. filled_in (map literal bytes ++ ps) ss i left) (λ left. onto left bytes (λ last. filled_in ps ss i last)) (run_is bytes ps ss i (room - 1))
    ∙ onto_both room b bytes (λ left. filled_in ps ss i left)

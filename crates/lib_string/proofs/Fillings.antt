-- A format that is filled in, a piece at a time.
use Rattle.std.proofs.Common.{◌≡◌, ℕ, ◌+◌, ◌-◌, ◌<◌, ◌≤◌, ◌⊎◌, inl, inr, Bool, true, false, List, [], ◌++◌, length, length-append, Result, Ok, Err, refl, sym, ap, subst, ◌∙◌, arith}
use Rattle.std.specs.Prelude.{nat_le}
use Rattle.std.proofs.lemmas.Bool.Decides.{nat_tests}
use Rattle.int_core.specs.Value.{Shape, greatest_string}
use Rattle.library_rows.specs.Formats.{Piece as Part, filled_in, onto, pieces, then_ok}
use Rattle.library_rows.specs.Plainly.{too_large}
use Rattle.text_functions.proofs.Pieces.{Made, after, IsSoFar, at_first, piece_fits, piece_is_refused, all_there}
use Rattle.library_arguments.specs.declared.refusal.Fault.{Fault}
use Rattle.library_arguments.specs.declared.refusal.Fault.TheVariants.{Refused, Memory}
use Rattle.library_arguments.specs.declared.refusal.Refusal.{Refusal}
use Rattle.library_arguments.specs.Refusals.{refusal_text}
use Rattle.lib_string.specs.declared.format_reading.Piece.{Piece}
use Rattle.lib_string.specs.declared.format_reading.Piece.TheVariants as a_piece
use Rattle.lib_string.specs.Pieces.{IsFilled, IsText, next_place, parts_of, piece_text, with_more, with_room}
use Rattle.lib_string.proofs.Expansions.{same_rest}
use Rattle.lib_string.proofs.Runs.{run_is}

abbrev by_room : List ℕ → List ℕ → Bool → Made
by_room text bytes b = elim b as (λ _. Made) [ true ↦ Ok (text ++ bytes) | false ↦ Err too_large ]

-- a text that has room, or has none

room_there : (old new : List ℕ) (r : Made) → with_more old r ≡ Ok new → length new ≤ greatest_string → with_room old r ≡ Ok new
room_there old new (Err why) e h = absurd (cc)
room_there old new (Ok bytes) e h =
    let is : old ++ bytes ≡ new = cc in
    let fits : nat_le (length old + length bytes) greatest_string ≡ true =
    let len : length old + length bytes ≤ greatest_string = omega (arith, ap length is, length-append old bytes) in grind (arith, nat_tests) in
    ap (by_room old bytes) fits ∙ e

room_missing : (old new : List ℕ) (r : Made) → with_more old r ≡ Ok new → greatest_string < length new → with_room old r ≡ Err too_large
room_missing old new (Err why) e h = absurd (cc)
room_missing old new (Ok bytes) e h =
    let is : old ++ bytes ≡ new = cc in
    let large : nat_le (length old + length bytes) greatest_string ≡ false =
    let len : greatest_string < length old + length bytes = omega (arith, ap length is, length-append old bytes) in grind (arith, nat_tests) in
    ap (by_room old bytes) large

room_refused : (old why : List ℕ) (r : Made) → with_more old r ≡ Err why → with_room old r ≡ Err why
room_refused old why (Err text) e = e
room_refused old why (Ok bytes) e = absurd (cc)

filled_first : (p : Piece) (ps : List Part) (ss : List Shape) (i room : ℕ) → filled_in (parts_of p ++ ps) ss i room ≡ then_ok (piece_text p ss i) (λ text. onto room text (λ left. filled_in ps ss (next_place p i) left))
filled_first (a_piece.Literal b) ps ss i room = refl
filled_first (a_piece.Literals bytes) ps ss i room = run_is bytes.now ps ss i room
filled_first (a_piece.Conversion c) ps ss i room = refl
filled_first a_piece.Broken ps ss i room = refl

-- the text so far, and the format that is left
pub record IsFilledSoFar (ss : List Shape) (all rest text : List ℕ) (place : ℕ) : Type 0 where
  pub so_far : IsSoFar (filled_in (pieces 0 all) ss 2 greatest_string) text (λ room. filled_in (pieces 0 rest) ss place room)

pub nothing_filled : (ss : List Shape) (all : List ℕ) → IsFilledSoFar ss all all [] 2
nothing_filled ss all = record { so_far = at_first (λ room. filled_in (pieces 0 all) ss 2 room) }

pub all_filled : (ss : List Shape) (all rest text : List ℕ) (place : ℕ) → IsFilledSoFar ss all rest text place → rest ≡ [] → filled_in (pieces 0 all) ss 2 greatest_string ≡ Ok text
all_filled ss all rest text place so e =
    all_there _ text (subst (λ bytes. IsSoFar (filled_in (pieces 0 all) ss 2 greatest_string) text (λ room. filled_in (pieces 0 bytes) ss place room)) e so.so_far)

module _ (ss : List Shape) (all rest text : List ℕ) (place : ℕ) (so : IsFilledSoFar ss all rest text place) (p : Piece) (behind : List ℕ) (front : pieces 0 rest ≡ parts_of p ++ pieces 0 behind) where
  abbrev Whole : Made
  Whole = filled_in (pieces 0 all) ss 2 greatest_string

  abbrev later : ℕ → Made
  later left = filled_in (pieces 0 behind) ss (next_place p place) left

  here : IsSoFar Whole text (λ room. then_ok (piece_text p ss place) (λ bytes. onto room bytes later))
  here = same_rest Whole text (λ room. filled_in (pieces 0 rest) ss place room) (λ room. then_ok (piece_text p ss place) (λ bytes. onto room bytes later)) so.so_far
      (λ room. ap (λ ps. filled_in ps ss place room) front ∙ filled_first p (pieces 0 behind) ss place room)

  -- the piece by what it comes to
  told : (r : Made) → piece_text p ss place ≡ r → IsSoFar Whole text (λ room. then_ok r (λ bytes. onto room bytes later))
  told r is = same_rest Whole text (λ room. then_ok (piece_text p ss place) (λ bytes. onto room bytes later)) (λ room. then_ok r (λ bytes. onto room bytes later)) here
      (λ room. ap (λ r. then_ok r (λ bytes. onto room bytes later)) is)

  fits_by : (bytes new : List ℕ) (b : Bool) → nat_le (length text + length bytes) greatest_string ≡ b → by_room text bytes b ≡ Ok new → IsSoFar Whole text (λ room. onto room bytes later) → IsSoFar Whole new later
  fits_by bytes new true is e now =
      let fits : length text + length bytes ≤ greatest_string = grind (arith, nat_tests) in
      let same : text ++ bytes ≡ new = cc in
      subst (λ t. IsSoFar Whole t later) same (piece_fits Whole text bytes later now fits)
  fits_by bytes new false is e now = absurd (cc)

  piece_filled : (new : List ℕ) → with_room text (piece_text p ss place) ≡ Ok new → IsFilledSoFar ss all behind new (next_place p place)
  piece_filled new e = by (piece_text p ss place) refl e
    where
      by : (r : Made) → piece_text p ss place ≡ r → with_room text r ≡ Ok new → IsFilledSoFar ss all behind new (next_place p place)
      by (Err why) is e = absurd (cc)
      by (Ok bytes) is e = record { so_far = fits_by bytes new (nat_le (length text + length bytes) greatest_string) refl e (told (Ok bytes) is) }

  refused_by : (bytes why : List ℕ) (b : Bool) → nat_le (length text + length bytes) greatest_string ≡ b → by_room text bytes b ≡ Err why → IsSoFar Whole text (λ room. onto room bytes later) → Whole ≡ Err why
  refused_by bytes why true is e now = absurd (cc)
  refused_by bytes why false is e now =
      let large : greatest_string < length text + length bytes = grind (arith, nat_tests) in
      piece_is_refused Whole text bytes later now large ∙ e

  piece_refused : (why : List ℕ) → with_room text (piece_text p ss place) ≡ Err why → Whole ≡ Err why
  piece_refused why e = by (piece_text p ss place) refl e
    where
      by : (r : Made) → piece_text p ss place ≡ r → with_room text r ≡ Err why → Whole ≡ Err why
      by (Err other) is e = (told (Err other) is).whole_is ∙ e
      by (Ok bytes) is e = refused_by bytes why (nat_le (length text + length bytes) greatest_string) refl e (told (Ok bytes) is)

  -- a piece that is refused, or for which there is no memory
  pub piece_fails : (A : Type 0) (fault : Fault) (new : List ℕ) → IsText {A = A} (Err fault) new (with_more text (piece_text p ss place)) → IsFilled (Err fault) Whole
  piece_fails A (Refused why) new e = piece_refused (refusal_text why) (room_refused text (refusal_text why) (piece_text p ss place) e)
  piece_fails A Memory new e = tt

  -- a text that would be too long
  pub piece_too_long : (why : Refusal) (new : List ℕ) → with_more text (piece_text p ss place) ≡ Ok new → greatest_string < length new → refusal_text why ≡ too_large → IsFilled (Err (Refused why)) Whole
  piece_too_long why new e large is = piece_refused (refusal_text why) (room_missing text new (piece_text p ss place) e large ∙ ap (λ text. Err text) (sym is))

  -- the number of the next argument by another name
  pub piece_filled_at : (new : List ℕ) (next : ℕ) → next ≡ next_place p place → with_more text (piece_text p ss place) ≡ Ok new → length new ≤ greatest_string → IsFilledSoFar ss all behind new next
  piece_filled_at new next is e short = subst (λ n. IsFilledSoFar ss all behind new n) (sym is) (piece_filled new (room_there text new (piece_text p ss place) e short))

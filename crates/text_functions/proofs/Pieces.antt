-- A text that is made piece by piece: what is there so far, and what the rest comes to in the room that is left.
use Rattle.std.proofs.Common.{ℕ, ◌+◌, ◌-◌, ◌≤◌, ◌<◌, ◌≡◌, Bool, true, false, List, [], ◌++◌, length, length-append, Result, Ok, Err, refl, sym, ap, ◌∙◌, append_assoc, arith, rules}
use Rattle.std.specs.Prelude.{nat_le}
use Rattle.std.proofs.lemmas.Bool.Decides.{nat_tests}
use Rattle.int_core.specs.Value.{greatest_string}
use Rattle.library_rows.specs.Formats.{then_ok, onto}
use Rattle.library_rows.specs.Plainly.{too_large}

abbrev pub Made : Type 0
Made = Result (List ℕ) (List ℕ)

-- a text and what follows it
abbrev pub after : List ℕ → Made → Made
after text rest = then_ok rest (λ more. Ok (text ++ more))

pub after_nothing : (r : Made) → after [] r ≡ r
after_nothing (Ok more) = refl
after_nothing (Err why) = refl

pub after_both : (a b : List ℕ) (r : Made) → after a (after b r) ≡ after (a ++ b) r
after_both a b (Ok more) = ap (λ bytes. Ok bytes) (sym (append_assoc a b more))
after_both a b (Err why) = refl

is_within : (m n : ℕ) → m ≤ n → nat_le m n ≡ true
is_within m n h = grind (arith, nat_tests)

is_beyond : (m n : ℕ) → n < m → nat_le m n ≡ false
is_beyond m n h = grind (arith, nat_tests)

chosen : (b c : Bool) (x y : Made) → b ≡ c → elim b as (λ _. Made) [ true ↦ x | false ↦ y ] ≡ elim c as (λ _. Made) [ true ↦ x | false ↦ y ]
chosen b c x y e = ap (λ (d : Bool). elim d as (λ _. Made) [ true ↦ x | false ↦ y ]) e

-- a piece that has room, and one that has none

pub onto_fits : (room : ℕ) (piece : List ℕ) (rest : ℕ → Made) → length piece ≤ room → onto room piece rest ≡ after piece (rest (room - length piece))
onto_fits room piece rest h = chosen (nat_le (length piece) room) true (after piece (rest (room - length piece))) (Err too_large) (is_within (length piece) room h)

pub onto_refused : (room : ℕ) (piece : List ℕ) (rest : ℕ → Made) → room < length piece → onto room piece rest ≡ Err too_large
onto_refused room piece rest h = chosen (nat_le (length piece) room) false (after piece (rest (room - length piece))) (Err too_large) (is_beyond (length piece) room h)

-- the whole is what is there so far and the rest
pub record IsSoFar (whole : Made) (text : List ℕ) (rest : ℕ → Made) : Type 0 where
  pub short : length text ≤ greatest_string
  pub whole_is : whole ≡ after text (rest (greatest_string - length text))

pub at_first : (rest : ℕ → Made) → IsSoFar (rest greatest_string) [] rest
at_first rest = record { short = omega arith; whole_is = sym (after_nothing (rest greatest_string)) }

pub piece_fits : (whole : Made) (text piece : List ℕ) (rest : ℕ → Made) → IsSoFar whole text (λ room. onto room piece rest) → length text + length piece ≤ greatest_string → IsSoFar whole (text ++ piece) rest
piece_fits whole text piece rest so h = record {
  short = omega (arith, length-append text piece);
  whole_is =
      let room : ℕ = greatest_string - length text in
      let one : onto room piece rest ≡ after piece (rest (room - length piece)) = onto_fits room piece rest (omega arith) in
      let left : room - length piece ≡ greatest_string - length (text ++ piece) = omega (arith, length-append text piece) in
      so.whole_is ∙ ap (λ r. after text r) one ∙ after_both text piece (rest (room - length piece)) ∙ ap (λ n. after (text ++ piece) (rest n)) left;
}

pub piece_is_refused : (whole : Made) (text piece : List ℕ) (rest : ℕ → Made) → IsSoFar whole text (λ room. onto room piece rest) → greatest_string < length text + length piece → whole ≡ Err too_large
piece_is_refused whole text piece rest so h =
    let room : ℕ = greatest_string - length text in
    let short = so.short in
    let one : onto room piece rest ≡ Err too_large = onto_refused room piece rest (omega arith) in
    so.whole_is ∙ ap (λ r. after text r) one

pub all_there : (whole : Made) (text : List ℕ) → IsSoFar whole text (λ room. Ok []) → whole ≡ Ok text
all_there whole text so = so.whole_is ∙ ap (λ bytes. Ok bytes) (search (rules))

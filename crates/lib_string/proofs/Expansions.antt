-- A replacement, a byte at a time.
use Rattle.std.proofs.Common.{◌≡◌, ℕ, suc, ◌+◌, ◌-◌, ◌<◌, ◌≤◌, Bool, true, false, List, [], ◌∷◌, ◌++◌, length, Option, Some, None, Ok, Err, refl, ap, subst, ◌∙◌, arith}
use Rattle.std.specs.Prelude.{◌==◌, codes}
use Rattle.int_core.specs.Value.{Shape, string, greatest_string}
use Rattle.library_rows.specs.Plainly.{error, too_large}
use Rattle.library_rows.specs.Arguments.{argument, one, with}
use Rattle.library_rows.specs.Formats.{is_decimal, onto}
use Rattle.library_rows.specs.Searches.{capture_text, escaped, expanded, expansion}
use Rattle.text_functions.proofs.Pieces.{Made, after, IsSoFar, at_first, piece_fits, piece_is_refused, all_there}

-- what follows may be said in another way
pub same_rest : (whole : Made) (text : List ℕ) (r s : ℕ → Made) → IsSoFar whole text r → ((room : ℕ) → r room ≡ s room) → IsSoFar whole text s
same_rest whole text r s so e = record { short = so.short; whole_is = so.whole_is ∙ ap (after text) (e (greatest_string - length text)) }

by_percent : (t : Bool) (x y : Made) (u : Bool) → t ≡ u → elim t as (λ _. Made) [ true ↦ x | false ↦ y ] ≡ elim u as (λ _. Made) [ true ↦ x | false ↦ y ]
by_percent t x y u e = ap (λ (b : Bool). elim b as (λ _. Made) [ true ↦ x | false ↦ y ]) e

-- the text so far, and the replacement that is left
pub record IsExpandedSoFar (cs : List Shape) (all rest text : List ℕ) : Type 0 where
  pub so_far : IsSoFar (expanded cs false all greatest_string) text (λ room. expanded cs false rest room)

pub nothing_expanded : (cs : List Shape) (all : List ℕ) → IsExpandedSoFar cs all all []
nothing_expanded cs all = record { so_far = at_first (λ room. expanded cs false all room) }

module _ (cs : List Shape) (all rest text : List ℕ) (so : IsExpandedSoFar cs all rest text) where
  pub all_expanded : rest ≡ [] → expansion all cs ≡ one (string text)
  all_expanded e = ap (λ r. with r (λ bytes. one (string bytes))) (all_there _ text (subst (λ bytes. IsSoFar (expanded cs false all greatest_string) text (λ room. expanded cs false bytes room)) e so.so_far))

  module _ (b : ℕ) (behind : List ℕ) (front : rest ≡ b ∷ behind) where
    here : IsSoFar (expanded cs false all greatest_string) text (λ room. expanded cs false (b ∷ behind) room)
    here = subst (λ bytes. IsSoFar (expanded cs false all greatest_string) text (λ room. expanded cs false bytes room)) front so.so_far

    -- a byte for itself
    literal : (b == 37) ≡ false → IsSoFar (expanded cs false all greatest_string) text (λ room. onto room (b ∷ []) (λ left. expanded cs false behind left))
    literal other = same_rest _ text _ _ here (λ room. by_percent (b == 37) (expanded cs true behind room) (onto room (b ∷ []) (λ left. expanded cs false behind left)) false other)

    pub literal_fits : (b == 37) ≡ false → length text + 1 ≤ greatest_string → IsExpandedSoFar cs all behind (text ++ b ∷ [])
    literal_fits other fits = record { so_far = piece_fits _ text (b ∷ []) (λ left. expanded cs false behind left) (literal other) fits }

    pub literal_refused : (b == 37) ≡ false → greatest_string < length text + 1 → expansion all cs ≡ error too_large
    literal_refused other large = ap (λ r. with r (λ bytes. one (string bytes))) (piece_is_refused _ text (b ∷ []) (λ left. expanded cs false behind left) (literal other) large)

    escape : (b == 37) ≡ true → IsSoFar (expanded cs false all greatest_string) text (λ room. expanded cs true behind room)
    escape same = same_rest _ text _ _ here (λ room. by_percent (b == 37) (expanded cs true behind room) (onto room (b ∷ []) (λ left. expanded cs false behind left)) true same)

    failed : (why : List ℕ) (r : ℕ → Made) → IsSoFar (expanded cs false all greatest_string) text r → ((room : ℕ) → r room ≡ Err why) → expansion all cs ≡ error why
    failed why r now e = ap (λ r. with r (λ bytes. one (string bytes))) (now.whole_is ∙ ap (after text) (e (greatest_string - length text)))

    pub lone_escape : (b == 37) ≡ true → behind ≡ [] → expansion all cs ≡ error (codes "invalid use of '%' in replacement string")
    lone_escape same e = failed (codes "invalid use of '%' in replacement string") _ (subst (λ bytes. IsSoFar (expanded cs false all greatest_string) text (λ room. expanded cs true bytes room)) e (escape same)) (λ room. refl)

    module _ (same : (b == 37) ≡ true) (code : ℕ) (later : List ℕ) (second : behind ≡ code ∷ later) where
      coded : IsSoFar (expanded cs false all greatest_string) text (λ room. expanded cs true (code ∷ later) room)
      coded = subst (λ bytes. IsSoFar (expanded cs false all greatest_string) text (λ room. expanded cs true bytes room)) second (escape same)

      pub escape_refused : (why : List ℕ) → escaped cs code ≡ Err why → expansion all cs ≡ error why
      escape_refused why e = failed why _ coded (λ room. ap (λ r. elim r as (λ _. Made) [ Err why ↦ Err why | Ok bytes ↦ onto room bytes (λ left. expanded cs false later left) ]) e)

      piece : (bytes : List ℕ) → escaped cs code ≡ Ok bytes → IsSoFar (expanded cs false all greatest_string) text (λ room. onto room bytes (λ left. expanded cs false later left))
      piece bytes e = same_rest _ text _ _ coded (λ room. ap (λ r. elim r as (λ _. Made) [ Err why ↦ Err why | Ok bytes ↦ onto room bytes (λ left. expanded cs false later left) ]) e)

      pub escape_fits : (bytes : List ℕ) → escaped cs code ≡ Ok bytes → length text + length bytes ≤ greatest_string → IsExpandedSoFar cs all later (text ++ bytes)
      escape_fits bytes e fits = record { so_far = piece_fits _ text bytes (λ left. expanded cs false later left) (piece bytes e) fits }

      pub escape_too_large : (bytes : List ℕ) → escaped cs code ≡ Ok bytes → greatest_string < length text + length bytes → expansion all cs ≡ error too_large
      escape_too_large bytes e large = ap (λ r. with r (λ bytes. one (string bytes))) (piece_is_refused _ text bytes (λ left. expanded cs false later left) (piece bytes e) large)

-- A place in the middle of a sequence.
use Rattle.std.proofs.Common.{◌≡◌, ℕ, zero, suc, ◌+◌, ℤ, pos, negsuc, Bool, true, false, List, refl, ap}
use Rattle.std.specs.Prelude.{codes}
use Rattle.library_rows.specs.Plainly.{Outcome, error}
use Rattle.library_rows.specs.Codepoints.{continues_at, moved, place_or_nil, sequences_back, sequences_on}

abbrev by_byte : Outcome → Bool → Outcome
by_byte otherwise b = elim b as (λ _. Outcome) [ true ↦ error (codes "initial position is a continuation byte") | false ↦ otherwise ]

pub moved_inside : (s : List ℕ) (n : ℤ) (at : ℕ) → ¬ (n ≡ pos 0) → continues_at s at ≡ true → moved s n at ≡ error (codes "initial position is a continuation byte")
moved_inside s (pos zero) at other inside = absurd (other refl)
moved_inside s (pos (suc n)) at other inside = ap (by_byte (place_or_nil (sequences_on s n at))) inside
moved_inside s (negsuc n) at other inside = ap (by_byte (place_or_nil (sequences_back s (n + 1) at))) inside

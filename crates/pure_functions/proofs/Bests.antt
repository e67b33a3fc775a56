-- The best of some integers, one argument after another.
use Rattle.std.proofs.Common.{◌≡◌, ℕ, zero, suc, ◌+◌, ◌<◌, List, [], ◌∷◌, length, drop, Result, Ok, Err, refl, ap, sym, ◌∙◌, arith}
use Rattle.std.specs.Prelude.{ℤ, Bool}
use Rattle.int_core.specs.Value.{Shape, integer}
use Rattle.integer_functions.specs.Told.{better_of}
use Rattle.library_rows.specs.Arguments.{argument, integer_argument, one, with}
use Rattle.library_rows.specs.Integers.{best, best_of}
use Rattle.library_rows.specs.Plainly.{Outcome, error}

next_argument : (ss : List Shape) (at : ℕ) → at < length ss → drop at ss ≡ argument ss (suc at) ∷ drop (suc at) ss
next_argument [] at h = absurd (omega (arith, h))
next_argument (s ∷ ss) zero h = refl
next_argument (s ∷ ss) (suc at) h = next_argument ss at (omega (arith, h))

module _ (better : ℤ → ℤ → Bool) (f : List ℕ) (ss : List Shape) where
  pub best_refused : (text : List ℕ) → integer_argument f 1 (argument ss 1) ≡ Err text → best_of better f ss ≡ error text
  best_refused text e = by ss e
    where
      by : (ss : List Shape) → integer_argument f 1 (argument ss 1) ≡ Err text → best_of better f ss ≡ error text
      by [] e = ap (λ r. with r (λ n. one (integer n))) e
      by (s ∷ ss) e = ap (λ r. with r (λ n. best better f 2 n ss)) e

  pub best_begins : (n : ℤ) → integer_argument f 1 (argument ss 1) ≡ Ok n → best_of better f ss ≡ best better f 2 n (drop 1 ss)
  best_begins n e = by ss e
    where
      by : (ss : List Shape) → integer_argument f 1 (argument ss 1) ≡ Ok n → best_of better f ss ≡ best better f 2 n (drop 1 ss)
      by [] e = ap (λ r. with r (λ n. one (integer n))) e
      by (s ∷ ss) e = ap (λ r. with r (λ n. best better f 2 n ss)) e

  module _ (at : ℕ) (n : ℤ) (h : at < length ss) where
    abbrev told : Result ℤ (List ℕ) → Outcome
    told r = with r (λ m. best better f (suc (suc at)) (better_of better n m) (drop (suc at) ss))

    pub one_better : (m : ℤ) → integer_argument f (at + 1) (argument ss (at + 1)) ≡ Ok m → best better f (suc at) n (drop at ss) ≡ best better f (suc (at + 1)) (better_of better n m) (drop (at + 1) ss)
    one_better m e =
        let q : at + 1 ≡ suc at = omega arith in
        ap (best better f (suc at) n) (next_argument ss at h) ∙ ap told (sym (ap (λ i. integer_argument f i (argument ss i)) q) ∙ e)
        ∙ ap (λ i. best better f (suc i) (better_of better n m) (drop i ss)) (sym q)

    pub one_refused : (text : List ℕ) → integer_argument f (at + 1) (argument ss (at + 1)) ≡ Err text → best better f (suc at) n (drop at ss) ≡ error text
    one_refused text e =
        let q : at + 1 ≡ suc at = omega arith in
        ap (best better f (suc at) n) (next_argument ss at h) ∙ ap told (sym (ap (λ i. integer_argument f i (argument ss i)) q) ∙ e)

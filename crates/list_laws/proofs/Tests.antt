-- What tests on numbers answer.
use Rattle.std.proofs.Common.{ℕ, ◌<◌, ◌≤◌, ◌≡◌, ◌≢◌, arith, Bool, true, false, ◌||◌, refl, ◌&&◌, ap₂, ◌⊎◌, inl, inr, ⊎_elim, zero, suc, ◌==◌, ap}
use Rattle.std.specs.Prelude.{true, false, nat_eq, nat_lt, nat_le}
use Rattle.std.proofs.lemmas.Bool.Decides.{nat_tests}

pub eq_refl : (n : ℕ) → nat_eq n n ≡ true
eq_refl n = grind (arith, nat_tests)

pub eq_not : (m n : ℕ) → m ≢ n → nat_eq m n ≡ false
eq_not m n h = grind (arith, nat_tests)

pub eq_true : (m n : ℕ) → nat_eq m n ≡ true → m ≡ n
eq_true m n h = grind (arith, nat_tests)

pub lt_true : (m n : ℕ) → m < n → nat_lt m n ≡ true
lt_true m n h = grind (arith, nat_tests)

pub lt_not : (m n : ℕ) → (m < n → ⊥) → nat_lt m n ≡ false
lt_not m n h = grind (arith, nat_tests)

pub lt_is : (m n : ℕ) → nat_lt m n ≡ true → m < n
lt_is m n h = grind (arith, nat_tests)

pub lt_off : (m n : ℕ) → nat_lt m n ≡ false → m < n → ⊥
lt_off m n h l = grind (arith, nat_tests)

pub le_off : (m n : ℕ) → nat_le m n ≡ false → m ≤ n → ⊥
le_off m n h l = grind (arith, nat_tests)

pub or_left : (b c : Bool) → b ≡ true → (b || c) ≡ true
or_left true c e = refl
or_left false c e = absurd (cc)

pub or_right : (b c : Bool) → c ≡ true → (b || c) ≡ true
or_right true c e = refl
or_right false c e = e

pub both_true : (a b : Bool) → a ≡ true → b ≡ true → (a && b) ≡ true
both_true a b h k = ap₂ (λ a b. a && b) h k

pub split : (i count : ℕ) → (i < count) ⊎ (count ≤ i)
split zero zero = inr (omega arith)
split zero (suc count) = inl (omega arith)
split (suc i) zero = inr (omega arith)
split (suc i) (suc count) = ⊎_elim (λ h. inl (omega arith)) (λ h. inr (omega arith)) (split i count)

pub is_zero : (n : ℕ) → n ≡ 0 → (n == 0) ≡ true
is_zero n e = ap (λ n. n == 0) e

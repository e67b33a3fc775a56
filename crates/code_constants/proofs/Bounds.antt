-- Numbers within a bound, and beyond it.
use Rattle.std.proofs.Common.{leb-true, lt-ltb, ltb-true, ◌≡◌, ℕ, zero, suc, ◌<◌, ◌≤◌, pos, Bool, true, false, cond, Some, None, refl, ap, arith}
use Rattle.std.specs.Prelude.{nat_le, nat_lt}
use borrow.Author.Tests.{le-leb}
use Rattle.code_of.specs.Operands.{up_to, from_one}
use Rattle.code_of.specs.Stores.{short_number}

-- numerals

pub below : (most n : ℕ) → n ≤ most → up_to most (pos n) ≡ Some n
below most n h = ap (λ b. cond b (Some n) None) (le-leb n most h)

pub above : (most n : ℕ) → most < n → up_to most (pos n) ≡ None
above most n h = by (nat_le n most) refl
  where
    by : (b : Bool) → nat_le n most ≡ b → cond b (Some n) None ≡ None
    by false e = refl
    by true e = let le = leb-true n most e in absurd (omega (arith, le, h))

pub one_or_more : (n : ℕ) → 1 ≤ n → from_one (Some n) ≡ Some n
one_or_more zero h = absurd (omega (arith, h))
one_or_more (suc n) h = refl

pub less_than_one : (n : ℕ) → n < 1 → from_one (Some n) ≡ None
less_than_one zero h = refl
less_than_one (suc n) h = absurd (omega (arith, h))

-- numbers of 8 bits

pub near : (n : ℕ) → n < 256 → short_number n ≡ Some n
near n h = ap (λ b. cond b (Some n) None) (lt-ltb n 256 h)

pub far : (n : ℕ) → 256 ≤ n → short_number n ≡ None
far n h = by (nat_lt n 256) refl
  where
    by : (b : Bool) → nat_lt n 256 ≡ b → cond b (Some n) None ≡ None
    by false e = refl
    by true e = let less = ltb-true n 256 e in absurd (omega (arith, less, h))

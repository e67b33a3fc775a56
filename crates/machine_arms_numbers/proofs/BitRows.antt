-- The rounds of a numerical loop.
use Rattle.std.proofs.Common.{◌≡◌, ℕ, zero, suc, ◌/◌, ◌^◌, ◌<◌, ◌∙◌, sym, ap, refl, arith, true, false}
use Rattle.std.proofs.lemmas.Bool.Decides.{nat_tests}
use Rattle.std.proofs.lemmas.Nat.{div_below}
use Rattle.std.specs.Prelude.{ℤ, pos, negsuc, neg_ℤ, ◌-ℤ◌, int_le}
use Rattle.std.specs.Int.{w64, cast_signed}
use Rattle.std.specs.Int.RustNames.{unsigned_abs}
use Rattle.int_core.specs.Arithmetic.{wrapped, floor_over}
use Rattle.int_core.proofs.WrappedLemmas.{wrapped-pos_below}
use Rattle.machine_core.specs.InstructionRows.{rounds}

-- the rounds of a loop

quotient_below : (d s : ℕ) → d < 2 ^ 64 → d / suc s < 2 ^ 64
quotient_below d s l = div_below d (suc s) (2 ^ 64) (omega arith) (omega arith)

rounds_up : (from limit : ℤ) (s d : ℕ) → pos d ≡ limit -ℤ from → d < 2 ^ 64 → cast_signed w64 (d / suc s) ≡ rounds from limit (pos (suc s))
rounds_up from limit s d e l = sym (wrapped-pos_below (d / suc s) (quotient_below d s l)) ∙ ap (λ z. wrapped (floor_over z (suc s))) e

rounds_down : (from limit : ℤ) (s d : ℕ) → pos d ≡ from -ℤ limit → d < 2 ^ 64 → cast_signed w64 (d / suc s) ≡ rounds from limit (negsuc s)
rounds_down from limit s d e l =
    let z : pos d ≡ neg_ℤ (limit -ℤ from) = e ∙ turned from limit in
    sym (wrapped-pos_below (d / suc s) (quotient_below d s l)) ∙ ap (λ z. wrapped (floor_over z (suc s))) z
  where
    turned : (a b : ℤ) → a -ℤ b ≡ neg_ℤ (b -ℤ a)
    turned a b = grind arith

pub up_so : (from limit step : ℤ) (d u : ℕ) (k : ℤ) → (step ≡ pos 0 → ⊥) → int_le (pos 0) step ≡ true → pos d ≡ limit -ℤ from → d < 2 ^ 64 → u ≡ unsigned_abs step → k ≡ cast_signed w64 (d / u) → k ≡ rounds from limit step
up_so from limit (pos zero) d u k n b e l f q = absurd (n refl)
up_so from limit (pos (suc s)) d u k n b e l f q = q ∙ ap (λ u. cast_signed w64 (d / u)) f ∙ rounds_up from limit s d e l
up_so from limit (negsuc s) d u k n b e l f q = absurd (cc)

pub down_so : (from limit step : ℤ) (d u : ℕ) (k : ℤ) → (step ≡ pos 0 → ⊥) → int_le (pos 0) step ≡ false → pos d ≡ from -ℤ limit → d < 2 ^ 64 → u ≡ unsigned_abs step → k ≡ cast_signed w64 (d / u) → k ≡ rounds from limit step
down_so from limit (negsuc s) d u k n b e l f q = q ∙ ap (λ u. cast_signed w64 (d / u)) f ∙ rounds_down from limit s d e l
down_so from limit (pos s) d u k n b e l f q = let t : int_le (pos 0) (pos s) ≡ true = grind (arith, nat_tests) in absurd (cc)

-- Places of sequences, a sequence at a time.
use Rattle.std.proofs.Common.{◌≡◌, ℕ, zero, suc, ◌+◌, ◌-◌, ◌<◌, ◌≤◌, Bool, true, false, List, length, Option, Some, None, refl, ap, ◌∙◌, arith}
use Rattle.std.specs.Prelude.{nat_lt}
use Rattle.std.proofs.lemmas.Bool.Decides.{nat_tests}
use Rattle.library_rows.specs.Codepoints.{continues_at, continued, sequence_start, sequences_back, sequences_on}

-- at 0, or at a byte that continues nothing, a sequence starts
pub starts_here : (s : List ℕ) (at : ℕ) → continues_at s at ≡ false → sequence_start s at ≡ at
starts_here s zero h = refl
starts_here s (suc at) h = by (continues_at s (suc at)) h
  where
    by : (t : Bool) → t ≡ false → elim t as (λ _. ℕ) [ true ↦ sequence_start s at | false ↦ suc at ] ≡ suc at
    by false e = refl
    by true e = absurd (cc)

pub starts_before : (s : List ℕ) (at : ℕ) → 0 < at → continues_at s at ≡ true → sequence_start s at ≡ sequence_start s (at - 1)
starts_before s zero p h = absurd (omega arith)
starts_before s (suc at) p h = by (continues_at s (suc at)) h ∙ ap (sequence_start s) (omega arith)
  where
    by : (t : Bool) → t ≡ true → elim t as (λ _. ℕ) [ true ↦ sequence_start s at | false ↦ suc at ] ≡ sequence_start s at
    by true e = refl
    by false e = absurd (cc)

pub starts_first : (s : List ℕ) (at : ℕ) → at ≤ 0 → sequence_start s at ≡ at
starts_first s zero h = refl
starts_first s (suc at) h = absurd (omega arith)

-- so many are left of all
left : (many done : ℕ) → done < many → many - done ≡ suc (many - (done + 1))
left many done h = omega arith

pub on_more : (s : List ℕ) (many done at : ℕ) → done < many → at < length s → sequences_on s (many - done) at ≡ sequences_on s (many - (done + 1)) (at + (1 + continued s (at + 1)))
on_more s many done at h within =
    ap (λ k. sequences_on s k at) (left many done h) ∙ by (nat_lt at (length s)) (grind (arith, nat_tests)) ∙ ap (sequences_on s (many - (done + 1))) (omega arith)
  where
    by : (t : Bool) → t ≡ true → elim t as (λ _. Option ℕ) [ true ↦ sequences_on s (many - (done + 1)) (at + 1 + continued s (at + 1)) | false ↦ None ] ≡ sequences_on s (many - (done + 1)) (at + 1 + continued s (at + 1))
    by true e = refl
    by false e = absurd (cc)

pub on_past : (s : List ℕ) (many done at : ℕ) → done < many → length s ≤ at → sequences_on s (many - done) at ≡ None
on_past s many done at h past = ap (λ k. sequences_on s k at) (left many done h) ∙ by (nat_lt at (length s)) (grind (arith, nat_tests))
  where
    by : (t : Bool) → t ≡ false → elim t as (λ _. Option ℕ) [ true ↦ sequences_on s (many - (done + 1)) (at + 1 + continued s (at + 1)) | false ↦ None ] ≡ None
    by false e = refl
    by true e = absurd (cc)

pub on_all : (s : List ℕ) (many done at : ℕ) → many ≤ done → sequences_on s (many - done) at ≡ Some at
on_all s many done at h = let e : many - done ≡ zero = omega arith in ap (λ k. sequences_on s k at) e

pub back_more : (s : List ℕ) (many done at : ℕ) → done < many → 0 < at → sequences_back s (many - done) at ≡ sequences_back s (many - (done + 1)) (sequence_start s (at - 1))
back_more s many done zero h some = absurd (omega arith)
back_more s many done (suc at) h some =
    ap (λ k. sequences_back s k (suc at)) (left many done h) ∙ ap (λ k. sequences_back s (many - (done + 1)) (sequence_start s k)) (omega arith)

pub back_past : (s : List ℕ) (many done at : ℕ) → done < many → at ≡ 0 → sequences_back s (many - done) at ≡ None
back_past s many done zero h none = ap (λ k. sequences_back s k zero) (left many done h)
back_past s many done (suc at) h none = absurd (omega arith)

pub back_all : (s : List ℕ) (many done at : ℕ) → many ≤ done → sequences_back s (many - done) at ≡ Some at
back_all s many done at h = let e : many - done ≡ zero = omega arith in ap (λ k. sequences_back s k at) e

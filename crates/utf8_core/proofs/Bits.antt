-- The bits of a sequence, a byte at a time.
use Rattle.std.proofs.Common.{◌≡◌, ℕ, zero, suc, ◌+◌, ◌-◌, ◌*◌, ◌<◌, ◌≤◌, Bool, true, List, length, take, get_or, length-take, get_or-take, refl, add-one, arith}
use Rattle.std.proofs.lemmas.Bool.Decides.{nat_tests}
use Rattle.std.proofs.lemmas.List.Sums.{fold_more, prefix_len_passes}
use Rattle.std.specs.List.{AllPass, prefix_len}
use Rattle.library_rows.specs.Codepoints.{is_continuation, joined_bits}

-- what the bits of so many bytes are below
abbrev pub limit : ℕ → ℕ
limit zero = 128
limit (suc i) = limit i * 64

pub limit_is_small : (i : ℕ) → i < 5 → limit i ≤ 2147483648
limit_is_small (suc (suc (suc (suc (suc i))))) h = absurd (omega arith)
limit_is_small _ h = omega arith

pub continues : (b : ℕ) → is_continuation b ≡ true → (128 ≤ b) × (b < 192)
continues b h = (grind (arith, nat_tests), grind (arith, nat_tests))

pub one_more_byte : (bits : ℕ) (bytes : List ℕ) (i n : ℕ) → i < length bytes → n ≡ joined_bits bits (take i bytes) → n * 64 + (get_or bytes i 0 - 128) ≡ joined_bits bits (take (i + 1) bytes)
one_more_byte bits bytes i n h e = rw (fold_more (λ m b. m * 64 + (b - 128)) bits bytes i 0 h, ← e) refl

next_limit : (i n b : ℕ) → n < limit i → b < 192 → n * 64 + (b - 128) < limit i * 64
next_limit i n b small byte = omega arith

pub below_limit : (i n b : ℕ) → n < limit i → b < 192 → n * 64 + (b - 128) < limit (i + 1)
below_limit i n b small byte = rw add-one (next_limit i n b small byte)

pub front_passes : (p : ℕ → Bool) (text : List ℕ) (n : ℕ) → n ≤ prefix_len p text → AllPass p (take n text)
front_passes p text n h k d l =
    let inside : k < n = omega (arith, length-take n text) in
    let within : k < prefix_len p text = omega arith in
    rw (get_or-take) (prefix_len_passes p text k d within)

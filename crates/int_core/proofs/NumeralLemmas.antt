-- What digits spell, a digit at a time.
use Rattle.std.proofs.Common.{◌≡◌, ℕ, zero, suc, ◌+◌, ◌-◌, ◌*◌, ◌%◌, ◌^◌, ◌<◌, ◌≤◌, Bool, true, false, min, List, length, take, get_or, length-take, get_or-take, ◌∙◌, sym, ap, refl, arith}
use Rattle.std.proofs.lemmas.Bool.Decides.{nat_tests}
use Rattle.std.proofs.lemmas.Int.{int_wrap_fits}
use Rattle.std.proofs.lemmas.List.Sums.{fold_more, prefix_len_passes}
use Rattle.std.specs.Prelude.{pos, negsuc, neg_ℤ, Some, nat_lt, FitsSigned, if◌then◌else◌}
use Rattle.std.specs.Int.{w64, cast_signed, int_wrap}
use Rattle.std.specs.Char.{digit_value, is_digit}
use Rattle.std.specs.List.{AllPass, prefix_len}
use Rattle.int_core.specs.Arithmetic.{wrapped, neg}
use Rattle.int_core.specs.Numeral.{signed, digits_value, integer_within}
use Rattle.int_core.proofs.WrappedLemmas.{wrapped-pos, wrapped-pos_below}
use Rattle.int_core.proofs.FloorLemmas.{wrapped-neg}

pub digits_value-more : (base : ℕ) (digits : List ℕ) (i : ℕ) → i < length digits → digits_value base (take (i + 1) digits) ≡ digits_value base (take i digits) * base + digit_value (get_or digits i 0)
digits_value-more base digits i h = fold_more (λ n c. n * base + digit_value c) 0 digits i 0 h

pub digit-below : (base c : ℕ) → is_digit c base ≡ true → digit_value c < base
digit-below base c h = grind (arith, nat_tests)

capped_step : (v n d m r : ℕ) → n ≡ min v (2 ^ 64 - 1) → m ≡ min (n * 10) (2 ^ 64 - 1) → r ≡ min (m + d) (2 ^ 64 - 1) → r ≡ min (v * 10 + d) (2 ^ 64 - 1)
capped_step v n d m r e f g = omega arith

pub capped-more : (digits : List ℕ) (i n d m r : ℕ) → i < length digits → d ≡ digit_value (get_or digits i 0) → n ≡ min (digits_value 10 (take i digits)) (2 ^ 64 - 1) → m ≡ min (n * 10) (2 ^ 64 - 1) → r ≡ min (m + d) (2 ^ 64 - 1) → r ≡ min (digits_value 10 (take (i + 1) digits)) (2 ^ 64 - 1)
capped-more digits i n d m r h digit e f g =
    rw (digits_value-more 10 digits i h, ← digit) (capped_step (digits_value 10 (take i digits)) n d m r e f g)

wrapped_step : (v n d : ℕ) → n ≡ v % 2 ^ 64 → ((n * 16) % 2 ^ 64 + d) % 2 ^ 64 ≡ (v * 16 + d) % 2 ^ 64
wrapped_step v n d e = omega arith

pub wrapped-more : (digits : List ℕ) (i n d : ℕ) → i < length digits → d ≡ digit_value (get_or digits i 0) → n ≡ digits_value 16 (take i digits) % 2 ^ 64 → ((n * 16) % 2 ^ 64 + d) % 2 ^ 64 ≡ digits_value 16 (take (i + 1) digits) % 2 ^ 64
wrapped-more digits i n d h digit e =
    rw (digits_value-more 16 digits i h, ← digit) (wrapped_step (digits_value 16 (take i digits)) n d e)

pub wrapped-signed : (negative : Bool) (n : ℕ) → n < 2 ^ 64 → wrapped (signed negative n) ≡ (if negative then neg (cast_signed w64 n) else cast_signed w64 n)
wrapped-signed false n h = wrapped-pos_below n h
wrapped-signed true n h = sym (wrapped-neg (pos n)) ∙ ap (λ z. wrapped (neg_ℤ z)) (wrapped-pos_below n h)

wrapped-pos-mod : (n : ℕ) → wrapped (pos (n % 2 ^ 64)) ≡ wrapped (pos n)
wrapped-pos-mod n = wrapped-pos_below (n % 2 ^ 64) (omega arith) ∙ sym (wrapped-pos n)

pub wrapped-signed-mod : (negative : Bool) (n : ℕ) → wrapped (signed negative (n % 2 ^ 64)) ≡ wrapped (signed negative n)
wrapped-signed-mod false n = wrapped-pos-mod n
wrapped-signed-mod true n =
    sym (wrapped-neg (pos (n % 2 ^ 64)))
    ∙ ap (λ z. wrapped (neg_ℤ z)) (wrapped-pos-mod n)
    ∙ wrapped-neg (pos n)

pub minus_within : (n : ℕ) → n ≤ 2 ^ 63 → Some (wrapped (signed true n)) ≡ integer_within true n
unfolding int_wrap
minus_within zero h = refl
minus_within (suc n) h =
    let within : nat_lt n (2 ^ 63) ≡ true = grind (arith, nat_tests) in
    let fits : FitsSigned w64 (negsuc n) = record { sfits = omega arith } in
    rw within (ap Some (int_wrap_fits w64 (negsuc n) fits))

pub prefix_len_passes_all : (p : ℕ → Bool) (text : List ℕ) → AllPass p (take (prefix_len p text) text)
prefix_len_passes_all p text k d h =
    let within : k < prefix_len p text = omega (arith, length-take (prefix_len p text) text) in
    rw (get_or-take) (prefix_len_passes p text k d within)

-- Zeros, spaces and digits one after another.
use Rattle.std.proofs.Common.{◌≡◌, ℕ, zero, suc, ◌+◌, ◌-◌, Bool, true, false, cond, List, [], ◌∷◌, ◌++◌, length, length-append, refl, sym, ap, ◌∙◌, append_assoc, add-one, arith}
use Rattle.std.specs.List.{repeat}
use Rattle.library_rows.specs.Formats.{Conversion, has, in_width, or_zero}

pub length_repeat : (n b : ℕ) → length (repeat n (b ∷ [])) ≡ n
length_repeat zero b = refl
length_repeat (suc n) b = let h = length_repeat n b in omega (arith, h)

at_end : (n b : ℕ) → repeat n (b ∷ []) ++ b ∷ [] ≡ b ∷ repeat n (b ∷ [])
at_end zero b = refl
at_end (suc n) b = ap (λ bs. b ∷ bs) (at_end n b)

-- one more byte at the end
pub one_more : (before bytes : List ℕ) (n b : ℕ) → bytes ≡ before ++ repeat n (b ∷ []) → bytes ++ b ∷ [] ≡ before ++ repeat (n + 1) (b ∷ [])
one_more before bytes n b is =
    ap (λ bs. bs ++ b ∷ []) is ∙ append_assoc before (repeat n (b ∷ [])) (b ∷ []) ∙ ap (λ bs. before ++ bs) (at_end n b) ∙ ap (λ k. before ++ repeat k (b ∷ [])) (sym (add-one n))

-- what is put in so many bytes

pub all_length : (before digits : List ℕ) (zeros : ℕ) → length (before ++ (repeat zeros (48 ∷ []) ++ digits)) ≡ length before + (zeros + length digits)
all_length before digits zeros =
    let z = length_repeat zeros 48 in
    omega (arith, z, length-append before (repeat zeros (48 ∷ []) ++ digits), length-append (repeat zeros (48 ∷ [])) digits)

-- the three forms of a field
first_form : (t : Bool) (x y : List ℕ) → t ≡ true → cond t x y ≡ x
first_form true x y e = refl
first_form false x y e = absurd (cc)

second_form : (t u : Bool) (x y z : List ℕ) → t ≡ false → u ≡ true → cond t x (cond u y z) ≡ y
second_form false true x y z e f = refl
second_form true u x y z e f = absurd (cc)
second_form false false x y z e f = absurd (cc)

third_form : (t u : Bool) (x y z : List ℕ) → t ≡ false → u ≡ false → cond t x (cond u y z) ≡ z
third_form false false x y z e f = refl
third_form true u x y z e f = absurd (cc)
third_form false true x y z e f = absurd (cc)

pub padded_right : (c : Conversion) (zeros : Bool) (old before body new : List ℕ) (fill : ℕ) → fill ≡ or_zero c.width - length (before ++ body) → has c.flags 45 ≡ true → new ≡ (old ++ (before ++ body)) ++ repeat fill (32 ∷ [])
    → new ≡ old ++ in_width c zeros before body
padded_right c zeros old before body new fill fill_is left is =
    is ∙ append_assoc old (before ++ body) (repeat fill (32 ∷ [])) ∙ ap (λ k. old ++ (before ++ body ++ repeat k (32 ∷ []))) fill_is
    ∙ ap (λ bytes. old ++ bytes) (sym (first_form (has c.flags 45) _ _ left))

pub padded_zeros : (c : Conversion) (zeros : Bool) (old before body new : List ℕ) (fill : ℕ) → fill ≡ or_zero c.width - length (before ++ body) → has c.flags 45 ≡ false → zeros ≡ true → new ≡ ((old ++ before) ++ repeat fill (48 ∷ [])) ++ body
    → new ≡ old ++ in_width c zeros before body
padded_zeros c zeros old before body new fill fill_is right filled is =
    is ∙ append_assoc (old ++ before) (repeat fill (48 ∷ [])) body ∙ append_assoc old before (repeat fill (48 ∷ []) ++ body) ∙ ap (λ bytes. old ++ bytes) (sym (append_assoc before (repeat fill (48 ∷ [])) body))
    ∙ ap (λ k. old ++ (before ++ repeat k (48 ∷ []) ++ body)) fill_is ∙ ap (λ bytes. old ++ bytes) (sym (second_form (has c.flags 45) zeros _ _ _ right filled))

pub padded_left : (c : Conversion) (zeros : Bool) (old before body new : List ℕ) (fill : ℕ) → fill ≡ or_zero c.width - length (before ++ body) → has c.flags 45 ≡ false → zeros ≡ false → new ≡ (old ++ repeat fill (32 ∷ [])) ++ (before ++ body)
    → new ≡ old ++ in_width c zeros before body
padded_left c zeros old before body new fill fill_is right spaces is =
    is ∙ append_assoc old (repeat fill (32 ∷ [])) (before ++ body) ∙ ap (λ bytes. old ++ bytes) (sym (append_assoc (repeat fill (32 ∷ [])) before body))
    ∙ ap (λ k. old ++ (repeat k (32 ∷ []) ++ before ++ body)) fill_is ∙ ap (λ bytes. old ++ bytes) (sym (third_form (has c.flags 45) zeros _ _ _ right spaces))

-- The row of a value's text.
use Rattle.std.proofs.Common.{◌≡◌, ℕ, ◌<◌, ◌≤◌, List, [], ◌∷◌, length, Bool, true, false, refl, ap, sym, ◌∙◌, arith}
use Rattle.std.specs.Prelude.{cond, ℤ, ◌&&◌, nat_le}
use Rattle.std.proofs.lemmas.Bool.Decides.{nat_tests}
use Rattle.int_core.specs.Heap.{Heap}
use Rattle.int_core.specs.Operations.{integer_text}
use Rattle.int_core.specs.Value.{Value, known, integer, string, Shape, is_known, is_object, shape, nth, greatest_string}
use Rattle.library_rows.specs.Arguments.{one}
use Rattle.library_rows.specs.Base.{texts, text_of_shape}
use Rattle.library_rows.specs.Look.{Look, written, gives, refuses, done, refused, looked}
use Rattle.library_rows.specs.Plainly.{told_as, too_large}
use Rattle.lib_base.specs.Texts.{IsShown, shown_of, name_in}

-- one text within the limit, or the error
module _ (text : List ℕ) (env : List Value) (H : Heap) where
  abbrev told : Bool → Look
  told b = cond (b && true) (gives (written (string text) ∷ [])) (refuses too_large)

  pub one_text : length text ≤ greatest_string → looked (told_as (one (string text))) env H ≡ done H (known (string text) ∷ [])
  one_text h = ap (λ b. looked (told b) env H) (within (length text) greatest_string h)
    where
      within : (m n : ℕ) → m ≤ n → nat_le m n ≡ true
      within m n h = grind (arith, nat_tests)

  pub too_long_text : greatest_string < length text → looked (told_as (one (string text))) env H ≡ refused too_large
  too_long_text h = ap (λ b. looked (told b) env H) (beyond (length text) greatest_string h)
    where
      beyond : (m n : ℕ) → n < m → nat_le m n ≡ false
      beyond m n h = grind (arith, nat_tests)

module _ (vs : List Value) (H : Heap) where
  told_alike : (text : List ℕ) (env env' : List Value) → looked (told_as (one (string text))) env H ≡ looked (told_as (one (string text))) env' H
  told_alike text env env' = by (nat_le (length text) greatest_string)
    where
      by : (b : Bool) → looked (told text env H b) env H ≡ looked (told text env H b) env' H
      by true = refl
      by false = refl

  text_is : looked texts vs H ≡ looked (told_as (one (string (shown_of (shape (nth vs 0)) (shape (name_in H (nth vs 0))))))) vs H
  text_is = by (shape (nth vs 0))
    where
      by : (s : Shape) → looked (text_of_shape s) vs H ≡ looked (told_as (one (string (shown_of s (shape (name_in H (nth vs 0))))))) vs H
      by (is_known p) = refl
      by (is_object kind) = told_alike (shown_of (is_object kind) (shape (name_in H (nth vs 0)))) _ vs

  pub shown_is : (text : List ℕ) → IsShown vs H text → length text ≤ greatest_string → looked texts vs H ≡ done H (known (string text) ∷ [])
  shown_is text s h = text_is ∙ ap (λ text. looked (told_as (one (string text))) vs H) (sym s.is) ∙ one_text text vs H h

  pub shown_too_long : (text : List ℕ) → IsShown vs H text → greatest_string < length text → looked texts vs H ≡ refused too_large
  shown_too_long text s h = text_is ∙ ap (λ text. looked (told_as (one (string text))) vs H) (sym s.is) ∙ too_long_text text vs H h

-- an integer is shown by its digits
pub digits_shown : (vs : List Value) (H : Heap) (n : ℤ) → nth vs 0 ≡ known (integer n) → IsShown vs H (integer_text n)
digits_shown vs H n e = record { is = sym (ap (λ v. shown_of (shape v) (shape (name_in H v))) e) }

-- a string is its own text
pub own_text_is : (vs : List Value) (H : Heap) (bytes : List ℕ) → nth vs 0 ≡ known (string bytes) → length bytes ≤ greatest_string → looked texts vs H ≡ done H (nth vs 0 ∷ [])
own_text_is vs H bytes e h =
    shown_is vs H bytes (record { is = sym (ap (λ v. shown_of (shape v) (shape (name_in H v))) e) }) h ∙ ap (λ v. done H (v ∷ [])) (sym e)

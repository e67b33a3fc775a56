-- The arguments of `char`, one after another.
use Rattle.std.proofs.Common.{◌≡◌, ℕ, suc, ◌+◌, ◌<◌, ◌≤◌, List, [], ◌∷◌, ◌++◌, length, drop, get_or, Result, Ok, Err, refl, sym, ap, subst, ◌∙◌, append_assoc, append-nil, add-one}
use Rattle.std.proofs.Math.Path.{fun_ext}
use Rattle.std.proofs.lemmas.List.{drop_more, at_drop_all}
use Rattle.std.specs.Prelude.{codes, map}
use Rattle.int_core.specs.Value.{Shape as Seen}
use Rattle.library_rows.specs.Arguments.{integer_argument, with}
use Rattle.library_rows.specs.Plainly.{Outcome, error}
use Rattle.library_rows.specs.Strings.{byte_in, chars}
use Rattle.library_arguments.specs.declared.shape.Shape.{Shape}
use Rattle.library_arguments.specs.Shapes.{shape_of, shapes_of}
use Rattle.library_arguments.proofs.Readings.{with_then}
use Rattle.lib_string.specs.Bytes.{byte_argument}

chars_first : (n : ℕ) (s : Seen) (ss : List Seen) (k : List ℕ → Outcome) → chars n (s ∷ ss) k ≡ with (byte_argument n s) (λ b. chars (suc n) ss (λ bytes. k (b ∷ bytes)))
chars_first n s ss k = with_then (integer_argument (codes "char") n s) (byte_in n) (λ b. chars (suc n) ss (λ bytes. k (b ∷ bytes)))

-- what all arguments come to is what the rest of them come to behind the bytes so far
pub record AreChars (all : List Shape) (place : ℕ) (bytes : List ℕ) : Type 0 where
  pub same : (k : List ℕ → Outcome) → chars 1 (shapes_of all) k ≡ chars (place + 1) (shapes_of (drop place all)) (λ more. k (bytes ++ more))

pub no_chars : (all : List Shape) → AreChars all 0 []
no_chars all = record { same = λ k. refl }

module _ (all : List Shape) (place : ℕ) (bytes : List ℕ) (usual : Shape) (so : AreChars all place bytes) (here : place < length all) where
  next : (k : List ℕ → Outcome) → chars 1 (shapes_of all) k
      ≡ with (byte_argument (place + 1) (shape_of (get_or all place usual))) (λ b. chars (suc (place + 1)) (shapes_of (drop (place + 1) all)) (λ more. k (bytes ++ b ∷ more)))
  next k =
      let rest : drop place all ≡ get_or all place usual ∷ drop (place + 1) all = drop_more all place usual here in
      so.same k ∙ ap (λ ss. chars (place + 1) (shapes_of ss) (λ more. k (bytes ++ more))) rest
      ∙ chars_first (place + 1) (shape_of (get_or all place usual)) (shapes_of (drop (place + 1) all)) (λ more. k (bytes ++ more))

  pub one_more_char : (b : ℕ) → byte_argument (place + 1) (shape_of (get_or all place usual)) ≡ Ok b → AreChars all (place + 1) (bytes ++ b ∷ [])
  one_more_char b e = record {
    same = λ k. next k ∙ ap (λ r. with r (λ b. chars (suc (place + 1)) (shapes_of (drop (place + 1) all)) (λ more. k (bytes ++ b ∷ more)))) e
        ∙ ap (λ n. chars n (shapes_of (drop (place + 1) all)) (λ more. k (bytes ++ b ∷ more))) (sym (add-one (place + 1)))
        ∙ ap (chars (place + 1 + 1) (shapes_of (drop (place + 1) all))) (fun_ext (λ more. ap k (sym (append_assoc bytes (b ∷ []) more))));
  }

  pub no_char : (text : List ℕ) (k : List ℕ → Outcome) → byte_argument (place + 1) (shape_of (get_or all place usual)) ≡ Err text → chars 1 (shapes_of all) k ≡ error text
  no_char text k e = next k ∙ ap (λ r. with r (λ b. chars (suc (place + 1)) (shapes_of (drop (place + 1) all)) (λ more. k (bytes ++ b ∷ more)))) e

pub all_chars : (all : List Shape) (place : ℕ) (bytes : List ℕ) (k : List ℕ → Outcome) → AreChars all place bytes → length all ≤ place → chars 1 (shapes_of all) k ≡ k bytes
all_chars all place bytes k so past =
    so.same k ∙ ap (λ rest. chars (place + 1) (shapes_of rest) (λ more. k (bytes ++ more))) (at_drop_all (λ shapes. shapes) all place past) ∙ ap k (append-nil bytes)

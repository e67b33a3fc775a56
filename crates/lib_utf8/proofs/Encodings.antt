-- The arguments of `char`, one after another, and the sequences of their numbers.
use Rattle.std.proofs.Common.{◌≡◌, ℕ, zero, suc, ◌+◌, ◌<◌, ◌≤◌, Bool, true, false, List, [], ◌∷◌, ◌++◌, length, length-append, drop, get_or, Result, Ok, Err, refl, sym, ap, ◌∙◌, append_assoc, append-nil, add-one, arith}
use Rattle.std.proofs.Math.Path.{fun_ext}
use Rattle.std.proofs.lemmas.List.{drop_more, at_drop_all}
use Rattle.std.proofs.lemmas.Bool.Decides.{nat_tests}
use Rattle.std.specs.Prelude.{◌&&◌, codes, cond, nat_le}
use Rattle.std.specs.List.{flat_map}
use Rattle.int_core.specs.Value.{Shape as Seen, string, greatest_string}
use Rattle.library_rows.specs.Arguments.{integer_argument, one, with}
use Rattle.library_rows.specs.Codepoints.{code_in, encode, encodes}
use Rattle.library_rows.specs.Plainly.{Outcome, error, too_large}
use Rattle.library_arguments.specs.declared.shape.Shape.{Shape}
use Rattle.library_arguments.specs.Answers.{within_limit}
use Rattle.library_arguments.specs.Shapes.{shape_of, shapes_of}
use Rattle.library_arguments.proofs.Readings.{with_then}
use Rattle.lib_utf8.specs.Codes.{code_argument}

encodes_first : (n : ℕ) (s : Seen) (ss : List Seen) (k : List ℕ → Outcome) → encodes n (s ∷ ss) k ≡ with (code_argument n s) (λ code. encodes (suc n) ss (λ bytes. k (encode code ++ bytes)))
encodes_first n s ss k = with_then (integer_argument (codes "char") n s) (code_in n) (λ code. encodes (suc n) ss (λ bytes. k (encode code ++ bytes)))

flat_end : (numbers : List ℕ) (code : ℕ) → flat_map encode (numbers ++ code ∷ []) ≡ flat_map encode numbers ++ encode code
flat_end [] code = append-nil (encode code)
flat_end (n ∷ numbers) code = ap (λ bytes. encode n ++ bytes) (flat_end numbers code) ∙ sym (append_assoc (encode n) (flat_map encode numbers) (encode code))

-- what all arguments come to is what the rest of them come to behind the numbers so far
pub record AreEncoded (all : List Shape) (place : ℕ) (numbers : List ℕ) : Type 0 where
  pub same : (k : List ℕ → Outcome) → encodes 1 (shapes_of all) k ≡ encodes (place + 1) (shapes_of (drop place all)) (λ more. k (flat_map encode numbers ++ more))

pub none_encoded : (all : List Shape) → AreEncoded all 0 []
none_encoded all = record { same = λ k. refl }

module _ (all : List Shape) (place : ℕ) (numbers : List ℕ) (usual : Shape) (so : AreEncoded all place numbers) (here : place < length all) where
  next : (k : List ℕ → Outcome) → encodes 1 (shapes_of all) k
      ≡ with (code_argument (place + 1) (shape_of (get_or all place usual))) (λ code. encodes (suc (place + 1)) (shapes_of (drop (place + 1) all)) (λ more. k (flat_map encode numbers ++ (encode code ++ more))))
  next k =
      let rest : drop place all ≡ get_or all place usual ∷ drop (place + 1) all = drop_more all place usual here in
      so.same k ∙ ap (λ ss. encodes (place + 1) (shapes_of ss) (λ more. k (flat_map encode numbers ++ more))) rest
      ∙ encodes_first (place + 1) (shape_of (get_or all place usual)) (shapes_of (drop (place + 1) all)) (λ more. k (flat_map encode numbers ++ more))

  pub one_more_code : (code : ℕ) → code_argument (place + 1) (shape_of (get_or all place usual)) ≡ Ok code → AreEncoded all (place + 1) (numbers ++ code ∷ [])
  one_more_code code e = record {
    same = λ k. next k
        ∙ ap (λ r. with r (λ code. encodes (suc (place + 1)) (shapes_of (drop (place + 1) all)) (λ more. k (flat_map encode numbers ++ (encode code ++ more))))) e
        ∙ ap (λ n. encodes n (shapes_of (drop (place + 1) all)) (λ more. k (flat_map encode numbers ++ (encode code ++ more)))) (sym (add-one (place + 1)))
        ∙ ap (encodes (place + 1 + 1) (shapes_of (drop (place + 1) all))) (fun_ext (λ more. ap k (sym (append_assoc (flat_map encode numbers) (encode code) more) ∙ ap (λ bytes. bytes ++ more) (sym (flat_end numbers code)))));
  }

  pub no_code : (text : List ℕ) (k : List ℕ → Outcome) → code_argument (place + 1) (shape_of (get_or all place usual)) ≡ Err text → encodes 1 (shapes_of all) k ≡ error text
  no_code text k e = next k ∙ ap (λ r. with r (λ code. encodes (suc (place + 1)) (shapes_of (drop (place + 1) all)) (λ more. k (flat_map encode numbers ++ (encode code ++ more))))) e

pub all_encoded : (all : List Shape) (place : ℕ) (numbers : List ℕ) (k : List ℕ → Outcome) → AreEncoded all place numbers → length all ≤ place → encodes 1 (shapes_of all) k ≡ k (flat_map encode numbers)
all_encoded all place numbers k so past =
    so.same k ∙ ap (λ rest. encodes (place + 1) (shapes_of rest) (λ more. k (flat_map encode numbers ++ more))) (at_drop_all (λ shapes. shapes) all place past) ∙ ap k (append-nil (flat_map encode numbers))

-- a text that has no room for one of its pieces is too long as a whole
pub too_long : (all : List ℕ) (at : ℕ) (text : List ℕ) → at < length all → text ++ flat_map encode (drop at all) ≡ flat_map encode all → greatest_string < length text + length (encode (get_or all at 0))
    → within_limit (one (string (flat_map encode all))) ≡ error too_large
too_long all at text here so large =
    let code : ℕ = get_or all at 0 in
    let rest : flat_map encode (drop at all) ≡ encode code ++ flat_map encode (drop (at + 1) all) = ap (flat_map encode) (drop_more all at 0 here) in
    let parts : length (flat_map encode all) ≡ length text + (length (encode code) + length (flat_map encode (drop (at + 1) all))) =
    ap length (sym so ∙ ap (λ bytes. text ++ bytes) rest) ∙ length-append text (encode code ++ flat_map encode (drop (at + 1) all)) ∙ ap (λ n. length text + n) (length-append (encode code) (flat_map encode (drop (at + 1) all))) in
    by (nat_le (length (flat_map encode all)) greatest_string) (grind (arith, nat_tests))
  where
    by : (b : Bool) → b ≡ false → cond (b && true) (one (string (flat_map encode all))) (error too_large) ≡ error too_large
    by false e = refl
    by true e = absurd (cc)

-- one more number below 2^31
pub small_end : (numbers : List ℕ) (code : ℕ) → ((k : ℕ) → k < length numbers → get_or numbers k 0 < 2147483648) → code < 2147483648
    → (k : ℕ) → k < length (numbers ++ code ∷ []) → get_or (numbers ++ code ∷ []) k 0 < 2147483648
small_end [] code h small zero lt = small
small_end [] code h small (suc k) lt = absurd (omega arith)
small_end (n ∷ numbers) code h small zero lt = h 0 (omega arith)
small_end (n ∷ numbers) code h small (suc k) lt = small_end numbers code (λ j l. h (suc j) (omega arith)) small k (omega arith)

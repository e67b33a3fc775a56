-- Raw equality is equality, and each integer is a value of its own.
use Rattle.std.proofs.Common.{arith, ℕ, ◌≡◌, Bool, true, false, refl, subst, sym, ◌∙◌, ap, ap₂, ℤ, pos, negsuc, true≢false}
use Rattle.std.proofs.lemmas.Bool.{and_parts, false_from_ne_true}
use Rattle.std.proofs.lemmas.Bool.Decides.{nat_tests}
use Rattle.std.specs.Prelude.{nat_eq}
use Rattle.std.proofs.lemmas.Slice.Eq.{bytes_eq-Decides}
use Rattle.int_core.specs.Value.{Plain, nil, boolean, integer, string, primitive, Kind, a_table, a_function, a_coroutine, Value, known, object, same, same_plain, same_kind, same_integer, same_truth, table_values}
use Rattle.int_core.proofs.RowsLemmas.{AreValues}

pub number_is : (m n : ℕ) → nat_eq m n ≡ true → m ≡ n
number_is m n h = grind (arith, nat_tests)

pub number_self : (n : ℕ) → nat_eq n n ≡ true
number_self n = grind (arith, nat_tests)

pub integer_is : (m n : ℤ) → same_integer m n ≡ true → m ≡ n
integer_is (pos m) (pos n) h = ap pos (number_is m n h)
integer_is (negsuc m) (negsuc n) h = ap negsuc (number_is m n h)
integer_is (pos m) (negsuc n) h = absurd (cc)
integer_is (negsuc m) (pos n) h = absurd (cc)

pub integer_self : (n : ℤ) → same_integer n n ≡ true
integer_self (pos n) = number_self n
integer_self (negsuc n) = number_self n

truth_is : (a b : Bool) → same_truth a b ≡ true → a ≡ b
truth_is true true h = refl
truth_is false false h = refl
truth_is true false h = absurd (cc)
truth_is false true h = absurd (cc)

plain_is : (p q : Plain) → same_plain p q ≡ true → p ≡ q
plain_is nil nil h = refl
plain_is (boolean a) (boolean b) h = ap boolean (truth_is a b h)
plain_is (integer m) (integer n) h = ap integer (integer_is m n h)
plain_is (string s) (string t) h = ap string ((bytes_eq-Decides s t).0 h)
plain_is (primitive m) (primitive n) h = ap primitive (number_is m n h)
plain_is _ _ h = absurd (cc)

pub kind_is : (k l : Kind) → same_kind k l ≡ true → k ≡ l
kind_is a_table a_table h = refl
kind_is a_function a_function h = refl
kind_is a_coroutine a_coroutine h = refl
kind_is _ _ h = absurd (cc)

pub value_is : (a b : Value) → same a b ≡ true → a ≡ b
value_is (known p) (known q) h = ap known (plain_is p q h)
value_is (object k m) (object l n) h = let both = and_parts (same_kind k l) (nat_eq m n) h in ap₂ object (kind_is k l both.0) (number_is m n both.1)
value_is (known p) (object l n) h = absurd (cc)
value_is (object k m) (known q) h = absurd (cc)

pub value_self : (v : Value) → same v v ≡ true
value_self (known nil) = refl
value_self (known (boolean true)) = refl
value_self (known (boolean false)) = refl
value_self (known (integer (pos n))) = number_self n
value_self (known (integer (negsuc n))) = number_self n
value_self (known (string s)) = (bytes_eq-Decides s s).1 refl
value_self (known (primitive n)) = number_self n
value_self (object a_table n) = number_self n
value_self (object a_function n) = number_self n
value_self (object a_coroutine n) = number_self n

pub are_values : AreValues table_values
are_values = record { same_equal = value_is; same_refl = value_self; integer_own = λ m n e. cc }

-- raw equality has no direction
pub flipped : (v w : Value) → same v w ≡ false → same w v ≡ false
flipped v w h = false_from_ne_true (same w v) (λ e. true≢false (sym (value_self w) ∙ subst (λ x. same x w ≡ false) (sym (value_is w v e)) h))

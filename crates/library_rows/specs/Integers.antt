-- The functions of `math` on integers (Lua 5.4 manual, 6.7).
use Rattle.std.specs.Prelude.{ℕ, zero, suc, ℤ, pos, negsuc, Bool, true, false, nat_lt, int_lt, int_rem, List, [], ◌∷◌, codes}
use Rattle.std.specs.Int.{w64, cast_unsigned}
use Rattle.int_core.specs.Arithmetic.{neg}
use Rattle.int_core.specs.Value.{boolean, integer, string, Shape, is_known}
use Rattle.library_rows.specs.Look.{no_word}
use Rattle.library_rows.specs.Plainly.{Outcome, error}
use Rattle.library_rows.specs.Arguments.{argument, bad_argument, integer_argument, with, one, nothing}

-- the least integer has no opposite, and stays
abbrev pub absolute : ℤ → ℤ
absolute (pos n) = pos n
absolute (negsuc n) = neg (negsuc n)

abbrev pub math_abs_row : List Shape → Outcome
math_abs_row ss = with (integer_argument (codes "abs") 1 (argument ss 1)) (λ n. one (integer (absolute n)))

-- the last of some integers that none is better than, where n is the best so far and the next argument has the number i
abbrev pub best : (ℤ → ℤ → Bool) → List ℕ → ℕ → ℤ → List Shape → Outcome
best better f i n [] = one (integer n)
best better f i n (s ∷ ss) = with (integer_argument f i s) (λ m. best better f (suc i) (elim (better m n) [ true ↦ m | false ↦ n ]) ss)

-- at least one argument is wanted
abbrev pub best_of : (ℤ → ℤ → Bool) → List ℕ → List Shape → Outcome
best_of better f [] = with (integer_argument f 1 no_word) (λ n. one (integer n))
best_of better f (s ∷ ss) = with (integer_argument f 1 s) (λ n. best better f 2 n ss)

abbrev pub math_max_row : List Shape → Outcome
math_max_row ss = best_of (λ m n. int_lt n m) (codes "max") ss

abbrev pub math_min_row : List Shape → Outcome
math_min_row ss = best_of (λ m n. int_lt m n) (codes "min") ss

-- what is left of a division that rounds towards 0
abbrev pub remainder : ℤ → ℤ → Outcome
remainder a (pos zero) = error (bad_argument 2 (codes "fmod") (codes "zero"))
remainder a b = one (integer (int_rem a b))

abbrev pub math_fmod_row : List Shape → Outcome
math_fmod_row ss = with (integer_argument (codes "fmod") 1 (argument ss 1)) (λ a. with (integer_argument (codes "fmod") 2 (argument ss 2)) (λ b. remainder a b))

abbrev pub math_tointeger_row : List Shape → Outcome
math_tointeger_row ss = elim (argument ss 1) [
  | is_known p ↦ elim p [ integer n ↦ one (integer n) | _ ↦ nothing ]
  | _ ↦ nothing
]

abbrev pub math_type_row : List Shape → Outcome
math_type_row ss = elim (argument ss 1) [
  | is_known p ↦ elim p [ integer n ↦ one (string (codes "integer")) | _ ↦ nothing ]
  | _ ↦ nothing
]

-- both as numbers from 0 to 2^64 - 1
abbrev pub math_ult_row : List Shape → Outcome
math_ult_row ss = with (integer_argument (codes "ult") 1 (argument ss 1)) (λ m. with (integer_argument (codes "ult") 2 (argument ss 2)) (λ n.
    one (boolean (nat_lt (cast_unsigned w64 m) (cast_unsigned w64 n)))))

-- How rows read their arguments, and the errors of wrong ones. A missing argument counts as nil.
use Rattle.std.specs.Prelude.{ℕ, suc, ℤ, Bool, true, false, List, [], ◌∷◌, ◌++◌, Option, Some, None, Result, Ok, Err, slice_get, codes, decimal}
use Rattle.int_core.specs.Value.{Plain, nil, a_table, known, Shape, is_known, is_object}
use Rattle.int_core.specs.Operations.{type_name, number_in, text_of}
use Rattle.library_rows.specs.Look.{Look, refuses, no_word}
use Rattle.library_rows.specs.Plainly.{Outcome, results, error}

-- arguments by their places, from 1
abbrev pub argument : List Shape → ℕ → Shape
argument ss (suc i) = elim (slice_get ss i) [ None ↦ no_word | Some s ↦ s ]
argument ss _ = no_word

abbrev pub bad_argument : ℕ → List ℕ → List ℕ → List ℕ
bad_argument i f what = codes "bad argument #" ++ decimal i ++ codes " to '" ++ f ++ codes "' (" ++ what ++ codes ")"

abbrev pub wrong_type : ℕ → List ℕ → List ℕ → Shape → List ℕ
wrong_type i f expected s = bad_argument i f (expected ++ codes " expected, got " ++ type_name s)

-- the integer that a value is, or that a string spells
abbrev pub number_of : Shape → Option ℤ
number_of (is_known p) = number_in (known p)
number_of (is_object kind) = None

-- the text of a string or an integer
abbrev pub bytes_of : Shape → Option (List ℕ)
bytes_of (is_known p) = text_of (known p)
bytes_of (is_object kind) = None

abbrev pub plain_of : Shape → Plain
plain_of (is_known p) = p
plain_of (is_object kind) = nil

abbrev pub is_absent : Shape → Bool
is_absent (is_known nil) = true
is_absent _ = false

abbrev pub is_table : Shape → Bool
is_table (is_object a_table) = true
is_table _ = false

-- the argument i of f, or the text of its error

abbrev pub integer_argument : List ℕ → ℕ → Shape → Result ℤ (List ℕ)
integer_argument f i s = elim (number_of s) [ None ↦ Err (wrong_type i f (codes "number") s) | Some n ↦ Ok n ]

abbrev pub text_argument : List ℕ → ℕ → Shape → Result (List ℕ) (List ℕ)
text_argument f i s = elim (bytes_of s) [ None ↦ Err (wrong_type i f (codes "string") s) | Some text ↦ Ok text ]

-- nil stands for a value of its own
abbrev pub integer_or : ℤ → List ℕ → ℕ → Shape → Result ℤ (List ℕ)
integer_or default f i s = elim (is_absent s) [ true ↦ Ok default | false ↦ integer_argument f i s ]

abbrev pub text_or : List ℕ → List ℕ → ℕ → Shape → Result (List ℕ) (List ℕ)
text_or default f i s = elim (is_absent s) [ true ↦ Ok default | false ↦ text_argument f i s ]

-- what comes after an argument, or its error

abbrev pub with : {A : Type 0} → Result A (List ℕ) → (A → Outcome) → Outcome
with (Ok x) k = k x
with (Err text) k = error text

abbrev pub with_look : {A : Type 0} → Result A (List ℕ) → (A → Look) → Look
with_look (Ok x) k = k x
with_look (Err text) k = refuses text

abbrev pub one : Plain → Outcome
one p = results (p ∷ [])

abbrev pub nothing : Outcome
nothing = results (nil ∷ [])

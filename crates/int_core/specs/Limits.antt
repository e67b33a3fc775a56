-- The limits on strings, frames and coroutines, and how a text names the position at which an error was raised (Lua 5.4 manual, 2.3 and 6.1).
use Rattle.std.specs.Prelude.{ℕ, Bool, cond, ◌||◌, List, [], ◌∷◌, ◌++◌, length, nat_eq, nat_le, codes, decimal}
use Rattle.int_core.specs.Value.{string, Value, known, greatest_string}

-- whether a string is no longer than any may be
abbrev pub string_fits : List ℕ → Bool
string_fits bytes = nat_le (length bytes) greatest_string

-- a text as a string; one that is too long gives another text
abbrev pub limited : List ℕ → Value
limited text = known (string (cond (string_fits text) text (codes "resulting string too large")))

-- the most frames of a coroutine
abbrev pub greatest_depth : ℕ
greatest_depth = 100000

abbrev pub stack_overflow : List ℕ
stack_overflow = codes "stack overflow"

-- how many coroutines, beside the main one, may have resumed each other
abbrev pub greatest_resumes : ℕ
greatest_resumes = 200

-- positions: a source's name stands without its first `@` or `=`

abbrev pub is_mark : ℕ → Bool
is_mark c = nat_eq c 64 || nat_eq c 61

abbrev pub source_name : List ℕ → List ℕ
source_name [] = []
source_name (c ∷ name) = cond (is_mark c) name (c ∷ name)

abbrev pub position : List ℕ → (line : ℕ) → List ℕ
position source line = source_name source ++ codes ":" ++ decimal line ++ codes ": "

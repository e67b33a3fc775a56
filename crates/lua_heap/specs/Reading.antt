-- The values that are kept, in the words of the machine's meaning: a string's number stands for its bytes, the numbers of objects for these.
use Rattle.std.specs.Prelude.{ℕ, zero, suc, ◌+◌, List, [], ◌∷◌, Option, Some, None, slice_get}
use Rattle.int_core.specs.Value.{nil, boolean, integer, string, primitive, a_table, a_function, a_coroutine, Value, known, object, greatest_string}
use Rattle.table_core.specs.declared.value.Value.{Value as Kept}
use Rattle.table_core.specs.declared.value.Value.TheVariants.{Nil, Bool as Boolean, Int, Str, Prim, Table, Func, Coro}

abbrev pub zeros : ℕ → List ℕ
zeros zero = []
zeros (suc n) = 0 ∷ zeros n

-- a number that no string has stands for a text that is too long to be any string's, another one for each number
unfoldable pub too_long : ℕ → List ℕ
too_long n = zeros (suc greatest_string + n)

abbrev pub text_or : ℕ → Option (List ℕ) → List ℕ
text_or n None = too_long n
text_or n (Some text) = text

abbrev pub text_of : List (List ℕ) → ℕ → List ℕ
text_of texts n = text_or n (slice_get texts n)

abbrev pub value : List (List ℕ) → Kept → Value
value texts Nil = known nil
value texts (Boolean b) = known (boolean b)
value texts (Int n) = known (integer n)
value texts (Str id) = known (string (text_of texts id.0))
value texts (Prim n) = known (primitive n)
value texts (Table id) = object a_table id.0
value texts (Func id) = object a_function id.0
value texts (Coro id) = object a_coroutine id.0

abbrev pub row : List (List ℕ) → Kept × Kept → Value × Value
row texts r = (value texts r.0, value texts r.1)

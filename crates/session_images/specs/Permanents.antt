-- The permanents of every session (Eris's manual, permanent values): the functions of the libraries, each by its key.
use Rattle.std.specs.Prelude.{ℕ, suc, List, [], ◌∷◌, ◌++◌, map}
use Rattle.int_core.specs.Value.{primitive, a_function, Value, known, object}
use Rattle.library_rows.specs.Library.{key_of, all_entries}
use Rattle.library_rows.specs.PreludeText.{function_keys}
use Rattle.image_core.specs.Image.{Perm, text_key}

-- values by their numbers, from a number on
abbrev pub by_keys : (value_at : ℕ → Value) (number : ℕ) → List (List ℕ) → List Perm
by_keys value_at n [] = []
by_keys value_at n (key ∷ keys) = record { object = value_at n; key = text_key key } ∷ by_keys value_at (suc n) keys

abbrev pub primitive_value : ℕ → Value
primitive_value n = known (primitive n)

abbrev pub function_value : ℕ → Value
function_value n = object a_function n

-- the primitives, and the prelude's functions, which come first among all functions in the order of its text
unfoldable pub base_permanents : List Perm
base_permanents = by_keys primitive_value 0 (map key_of all_entries) ++ by_keys function_value 0 function_keys

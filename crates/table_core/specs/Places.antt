-- Rows at their places: which key stands where, and what a write to a key's row makes of the rows.
use Rattle.std.specs.Prelude.{◌≡◌, ◌≢◌, ◌↔◌, ℕ, ◌+◌, ◌<◌, ◌≤◌, List, ◌∷◌, ◌++◌, [], ◌^◌, Some, length, pos, false, slice_get, slice_set}
use Rattle.std.specs.List.{IsDistinct}
use Rattle.std.specs.Map.{keys_of}
use Rattle.int_core.specs.Rows.{has_row}
use Rattle.table_core.specs.declared.value.Value.{Value}
use Rattle.table_core.specs.declared.value.Value.TheVariants.{Int}
use Rattle.table_core.specs.Value.{lua_values, value_eq}

abbrev pub Rows : Type 0
Rows = List (Value × Value)

abbrev pub IsAbsent : Rows → Value → Type 0
IsAbsent rows key = has_row lua_values rows key ≡ false

-- a row has this key and this value
pub record HasRow (rows : Rows) (key value : Value) : Type 0 where
  pub at : ℕ
  pub found : slice_get rows at ≡ Some (key, value)

-- the row at this place has this key
pub record HasKeyAt (rows : Rows) (key : Value) (at : ℕ) : Type 0 where
  pub value : Value
  pub found : slice_get rows at ≡ Some (key, value)

-- a row of this key had the one value and has the other now
pub record IsReplaced (old new : Rows) (key was value : Value) : Type 0 where
  pub at : ℕ
  pub found : slice_get old at ≡ Some (key, was)
  pub now : new ≡ slice_set old at (key, value)

-- values under the integers behind n
abbrev pub numbered : ℕ → List Value → Rows
numbered n [] = []
numbered n (value ∷ values) = (Int (pos (n + 1)), value) ∷ numbered (n + 1) values

-- rows in two parts: values under 1, 2, 3 and so on, and rows that do not go on with these keys
pub record AreSplit (values : List Value) (keyed : Rows) : Type 0 where
  pub distinct : IsDistinct value_eq (keys_of (numbered 0 values ++ keyed))
  pub longest : slice_get (keys_of keyed) 0 ≢ Some (Int (pos (length values + 1)))
  pub few : length values + length keyed < 2 ^ 63

-- n is the length of the longest prefix of rows whose keys are 1, 2, 3 and so on
pub record IsNumberedPrefix (rows : Rows) (n : ℕ) : Type 0 where
  pub within : n ≤ length rows
  pub numbered : (i : ℕ) → i < n → slice_get (keys_of rows) i ≡ Some (Int (pos (i + 1)))
  pub ends : slice_get (keys_of rows) n ≢ Some (Int (pos (n + 1)))

-- the place at which a key's row stands among values under 1, 2, 3 and so on: a greater number for any other key
abbrev pub IsPlaceOf : Value → ℕ → Type 0
IsPlaceOf key at = (place : ℕ) → place < 2 ^ 63 → (at ≡ place) ↔ (key ≡ Int (pos (place + 1)))

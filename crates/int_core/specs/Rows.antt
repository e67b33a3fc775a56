-- A table as a list of rows (key, value) with distinct keys (Lua 5.4 manual, 2.1, 3.4.7 and 6.1).
-- A row whose value is nil is cleared: no key is found there, and it keeps its place until a new key comes while cleared rows outnumber the others.
use Rattle.std.specs.Prelude.{◌≡◌, ℕ, zero, suc, ◌+◌, ◌<◌, Bool, true, false, not, if◌then◌else◌, nat_lt, List, [], ◌∷◌, ◌++◌, length, filter, count_by, find, position, drop, Option, Some, unwrap_or, option_map, ℤ, pos}
use Rattle.std.specs.List.{IsDistinct, list_any}
use Rattle.std.specs.Map.{keys_of, lookup, set_value}

-- what a table asks of its values: which are equal, which one is nil, and which one an integer is
pub record Values (V : Type 0) : Type 0 where
  pub same : V → V → Bool
  pub nil : V
  pub integer : ℤ → V

module _ {V : Type 0} (values : Values V) where
  abbrev pub is_nil : V → Bool
  is_nil v = values.same v values.nil

  abbrev pub is_cleared : V × V → Bool
  is_cleared row = is_nil row.1

  abbrev pub is_filled : V × V → Bool
  is_filled row = not (is_nil row.1)

  abbrev pub has_row : List (V × V) → V → Bool
  has_row rows key = list_any (values.same key) (keys_of rows)

  -- no key has two rows, and nil has none
  pub record AreRows (rows : List (V × V)) : Type 0 where
    pub distinct : IsDistinct values.same (keys_of rows)
    pub no_nil : has_row rows values.nil ≡ false

  -- the value of the key's row, or nil
  abbrev pub get : List (V × V) → V → V
  get rows key = unwrap_or (lookup (values.same key) rows) values.nil

  -- the rows that stay where a new key comes
  abbrev pub kept : List (V × V) → List (V × V)
  kept rows = if nat_lt (count_by is_filled rows) (count_by is_cleared rows) then filter is_filled rows else rows

  -- a key that has a row takes the value there, cleared or not; nil for a new key does nothing; another new key goes last
  abbrev pub set : List (V × V) → V → V → List (V × V)
  set rows key value =
      if has_row rows key then set_value (values.same key) rows value
      else if is_nil value then rows
      else kept rows ++ (key, value) ∷ []

  -- the rows behind the key's row, or all of them for nil; none where the key has no row
  abbrev pub rows_after : List (V × V) → V → Option (List (V × V))
  rows_after rows key =
      if is_nil key then Some rows
      else option_map (λ at. drop (at + 1) rows) (position (values.same key) (keys_of rows))

  -- the first filled row after the key's row, or none at the end; and nothing where the key has no row
  abbrev pub next : List (V × V) → V → Option (Option (V × V))
  next rows key = option_map (find is_filled) (rows_after rows key)

  -- the value at the integer behind n
  abbrev pub behind : List (V × V) → ℕ → V
  behind rows n = get rows (values.integer (pos (n + 1)))

  -- n is the least border: the integer behind it has no value, and each one up to it has
  pub record IsBorder (rows : List (V × V)) (n : ℕ) : Type 0 where
    pub ends : is_nil (behind rows n) ≡ true
    pub filled : (m : ℕ) → m < n → is_nil (behind rows m) ≡ false

  -- the least border, computed: it is at most the number of rows
  abbrev pub border_from : List (V × V) → ℕ → ℕ → ℕ
  border_from rows zero n = n
  border_from rows (suc left) n = if is_nil (behind rows n) then n else border_from rows left (n + 1)

  abbrev pub border : List (V × V) → ℕ
  border rows = border_from rows (length rows) 0

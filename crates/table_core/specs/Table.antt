-- What contracts see of a table (Lua 5.4 manual, 2.1 and 2.4).
use Rattle.std.specs.Prelude.{◌≡◌, ◌≢◌, ◌+◌, ◌<◌, ◌^◌, ℕ, List, Option, count_by, length, pos, true, false}
use Rattle.int_core.specs.Rows.{AreRows, behind, is_cleared}
use Rattle.table_core.specs.declared.value.Value.{Value}
use Rattle.table_core.specs.declared.value.Value.TheVariants.{Int}
use Rattle.table_core.specs.declared.value.TableId.{TableId}
use Rattle.table_core.specs.Value.{is_nil, lua_values}

-- the rows in their order, cleared ones included, and the metatable
pub record Contents : Type 0 where
  pub rows : List (Value × Value)
  pub metatable : Option TableId

-- what a table keeps: its rows are rows, fewer than 2^63, and it knows how many of them are cleared
pub record IsKept (rows : List (Value × Value)) (cleared : ℕ) : Type 0 where
  pub are_rows : AreRows lua_values rows
  pub counted : cleared ≡ count_by (is_cleared lua_values) rows
  pub few : length rows < 2 ^ 63

-- n was the border before the key was written
pub record IsBorderBeside (rows : List (Value × Value)) (key : Value) (n : ℕ) : Type 0 where
  pub ends : key ≢ Int (pos (n + 1)) → is_nil (behind lua_values rows n) ≡ true
  pub filled : (m : ℕ) → m < n → key ≢ Int (pos (m + 1)) → is_nil (behind lua_values rows m) ≡ false

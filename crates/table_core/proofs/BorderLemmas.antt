-- What a write at one key makes of the border.
use Rattle.std.proofs.Common.{◌≡◌, ◌≢◌, ℕ, ◌+◌, ◌<◌, ◌^◌, false, refl, List, [], ◌∷◌, ◌++◌, filter, length, arith}
use Rattle.std.specs.Prelude.{pos, Some}
use Rattle.std.specs.List.{IsDistinct}
use Rattle.std.specs.Map.{keys_of, lookup, set_value}
use Rattle.int_core.specs.Rows.{IsBorder, border, get, has_row, is_filled}
use Rattle.int_core.proofs.RowsLemmas.{IsBorder-same, border-is, filled_fit, get-filter, lookup-append_other, lookup-append_same, lookup-set_value_other, lookup-set_value_same}
use Rattle.table_core.specs.declared.value.Value.{Value}
use Rattle.table_core.specs.declared.value.Value.TheVariants.{Int}
use Rattle.table_core.specs.Table.{IsBorderBeside}
use Rattle.table_core.specs.Value.{lua_values, value_eq}
use Rattle.table_core.proofs.ValueLemmas.{lua_values-AreValues}

abbrev Rows : Type 0
Rows = List (Value × Value)

-- a write leaves what the other keys find
beside-by_write : (rows after : Rows) (key : Value) (n : ℕ) → IsBorder lua_values rows n → ((other : Value) → key ≢ other → lookup (value_eq other) after ≡ lookup (value_eq other) rows) → IsBorderBeside after key n
beside-by_write rows after key n was kept = record {
  ends = λ away. rw (kept (Int (pos (n + 1))) away) was.ends;
  filled = λ m under away. rw (kept (Int (pos (m + 1))) away) (was.filled m under);
}

pub beside-replaced : (rows after : Rows) (key w : Value) (n : ℕ) → IsBorder lua_values rows n → after ≡ set_value (value_eq key) rows w → IsBorderBeside after key n
beside-replaced rows after key w n was now =
    beside-by_write rows after key n was (λ other differ. rw now (lookup-set_value_other lua_values lua_values-AreValues key other differ rows w))

pub get-replaced : (rows after : Rows) (key was w : Value) → lookup (value_eq key) rows ≡ Some was → after ≡ set_value (value_eq key) rows w → get lua_values after key ≡ w
get-replaced rows after key was w found now =
    rw (now, lookup-set_value_same lua_values lua_values-AreValues (value_eq key) rows was w found) refl

pub beside-grown : (rows grown : Rows) (key w : Value) (n : ℕ) → IsBorder lua_values rows n → grown ≡ rows ++ (key, w) ∷ [] → IsBorderBeside grown key n
beside-grown rows grown key w n was added =
    beside-by_write rows grown key n was (λ other differ. rw added (lookup-append_other lua_values lua_values-AreValues key other differ rows w))

pub get-grown : (rows grown : Rows) (key w : Value) → has_row lua_values rows key ≡ false → grown ≡ rows ++ (key, w) ∷ [] → get lua_values grown key ≡ w
get-grown rows grown key w absent added =
    rw (added, lookup-append_same lua_values lua_values-AreValues rows key w absent) refl

-- dropping the cleared rows leaves the border
pub border-filter : (rows : Rows) (n : ℕ) → IsDistinct value_eq (keys_of rows) → IsBorder lua_values rows n → IsBorder lua_values (filter (is_filled lua_values) rows) n
border-filter rows n distinct is = record {
  ends = rw (get-filter lua_values lua_values-AreValues rows (Int (pos (n + 1))) distinct) is.ends;
  filled = λ m under. rw (get-filter lua_values lua_values-AreValues rows (Int (pos (m + 1))) distinct) (is.filled m under);
}

pub border-known : (rows : Rows) (n : ℕ) → IsBorder lua_values rows n → border lua_values rows ≡ n
border-known rows n is = IsBorder-same lua_values lua_values-AreValues rows (border lua_values rows) n (border-is lua_values lua_values-AreValues rows) is

pub border-few : (rows : Rows) (n : ℕ) → IsBorder lua_values rows n → length rows < 2 ^ 63 → n < 2 ^ 63
border-few rows n is few = omega (arith, filled_fit lua_values lua_values-AreValues n rows is.filled)

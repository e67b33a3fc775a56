-- New tables of values at whole numbers.
use Rattle.std.specs.Prelude.{ℕ, suc, ◌+◌, ◌-◌, pos, List, [], ◌∷◌, length, codes}
use Rattle.int_core.specs.Rows.{set}
use Rattle.int_core.specs.Value.{Value, known, integer, string, table_values}

-- values put at the integers from one on
abbrev pub numbered_from : ℕ → List Value → List (Value × Value) → List (Value × Value)
numbered_from i [] rows = rows
numbered_from i (v ∷ vs) rows = numbered_from (suc i) vs (set table_values rows (known (integer (pos i))) v)

-- the values from the first number on, and the last one at `n`
abbrev pub numbered_rows : ℕ → List Value → List (Value × Value)
numbered_rows first vs = set table_values (numbered_from first vs []) (known (string (codes "n"))) (known (integer (pos (length vs + first - 1))))

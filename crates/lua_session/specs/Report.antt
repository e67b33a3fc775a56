-- What a report of values in memory supposes.
use Rattle.std.specs.Prelude.{ℕ, List, [], ◌∷◌}
use Rattle.table_core.specs.declared.value.Value.{Value as Kept}
use Rattle.lua_heap.specs.Errors.{HasText}

-- strings of values are there
abbrev pub HaveTexts : List (List ℕ) → List Kept → Type 0
HaveTexts texts [] = Unit {0}
HaveTexts texts (v ∷ vs) = HasText texts v × HaveTexts texts vs

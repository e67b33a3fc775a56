-- Errors among values that move.
use Rattle.std.specs.Prelude.{List, [], ◌∷◌}
use Rattle.table_core.specs.declared.value.Value.{Value}

abbrev pub first_or : List Value → Value → Value
first_or [] other = other
first_or (v ∷ vs) other = v

-- What moves where a message handler fails.
use Rattle.std.specs.Prelude.{◌≡◌, List, [], ◌∷◌, map, codes}
use Rattle.int_core.specs.Value.{Value, known, string}
use Rattle.table_core.specs.declared.value.Value.{Value as Kept}

abbrev pub IsFailure : (Kept → Value) → List Kept → Type 0
IsFailure f failure = map f failure ≡ known (string (codes "error in error handling")) ∷ []

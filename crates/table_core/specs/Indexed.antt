-- Few rows in a list, or all of them in an index map once that is made.
use Rattle.std.specs.Prelude.{List, Option, Some, None}
use Rattle.std.specs.declared.alloc.Global.{Global}
use Rattle.std.specs.declared.boxed.Box.{Box}
use Rattle.table_core.specs.declared.indexed.Indexed.{Indexed}
use Rattle.table_core.specs.declared.value.Value.{Value}

abbrev pub rows_of : List (Value × Value) → Option (Box Indexed Global) → List (Value × Value)
rows_of few None = few
rows_of few (Some many) = many.value.rows.entries

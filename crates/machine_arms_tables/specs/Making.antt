-- Tables that are made.
use Rattle.std.specs.Prelude.{◌≡◌, List, [], ◌∷◌, ◌++◌, None}
use Rattle.table_core.specs.Table.{Contents}

-- a table without a row and without a metatable stands behind the others
pub record AddsEmpty (old new : List Contents) : Type 0 where
  pub table : Contents
  pub rows : table.rows ≡ []
  pub metatable : table.metatable ≡ None
  pub added : new ≡ old ++ table ∷ []

-- That a world has the prelude as it was made: what the libraries' functions and the prelude's environment reach.
use Rattle.std.specs.Prelude.{◌≡◌, ℕ, ◌≤◌, List, length, Some, slice_get}
use Rattle.int_core.specs.Value.{a_table, object}
use Rattle.code_core.specs.Prototype.{Prototype}
use Rattle.library_rows.specs.Library.{Entry}
use Rattle.lua_meaning.specs.Libraries.{environment_table, environment}
use Rattle.machine_core.specs.World.{Function, closed, World}
use Rattle.machine_runs.specs.Opening.{numbers, prelude_function}

-- the number of the cell that all functions of the prelude share
abbrev pub environment_cell : ℕ
environment_cell = 0

-- its functions are the first ones, and stay so whatever code does
pub record HasFunctions (prelude : List (Entry Prototype)) (W : World) : Type 0 where
  pub number : W.prelude_environment ≡ environment_table
  pub names : W.prelude_functions ≡ numbers 0 (length prelude)
  pub functions : (n : ℕ) (e : Entry Prototype) → slice_get prelude n ≡ Some e → slice_get W.functions n ≡ Some (prelude_function e)

-- The environment and its cell are as in the world before a script, and no other function has the cell: a function that the prelude makes has one of its own
-- for its variable `_ENV`.
pub record IsUntouched (prelude : List (Entry Prototype)) (W : World) : Type 0 where
  pub table : slice_get W.heap.tables environment_table ≡ Some (environment prelude)
  pub cell : slice_get W.cells environment_cell ≡ Some (closed (object a_table environment_table))
  pub apart : (n : ℕ) (f : Function) → length prelude ≤ n → slice_get W.functions n ≡ Some f → (i : ℕ) → slice_get f.cells i ≡ Some environment_cell → ⊥

pub record HasPrelude (prelude : List (Entry Prototype)) (W : World) : Type 0 where
  pub known : HasFunctions prelude W
  pub untouched : IsUntouched prelude W

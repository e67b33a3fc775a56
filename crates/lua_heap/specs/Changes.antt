-- What calls change of a world: in memory, and in the words of the machine's meaning.
use Rattle.std.specs.Prelude.{◌≡◌, ℕ, List, [], ◌∷◌, ◌++◌, Option, Some, slice_get}
use Rattle.int_core.specs.Value.{Value, bind}
use Rattle.int_core.specs.Heap.{Table}
use Rattle.machine_core.specs.World.{Function, Cell, Coroutine, World, read_cell, write_cell}
use Rattle.machine_sound.specs.Sound.{Sound}
use Rattle.table_core.specs.Table.{Contents}
use Rattle.lua_heap.specs.declared.world.Cell.{Cell as KeptCell}
use Rattle.lua_heap.specs.declared.world.Coro.{Coro}
use Rattle.lua_heap.specs.declared.world.Func.{Func}
use Rattle.lua_heap.specs.declared.world.World.{World as Memory}
use Rattle.lua_heap.specs.Strings.{interned}
use Rattle.lua_heap.specs.Codes.{functions, AreCodes}
use Rattle.lua_heap.specs.Plain.{table, function, cell, coroutine, plain}

-- new objects go last

abbrev pub with_table : Table → World → World
with_table t W = record W { heap = record W.heap { tables = W.heap.tables ++ t ∷ [] } }

abbrev pub with_function : Function → World → World
with_function f W = record W { functions = W.functions ++ f ∷ [] }

abbrev pub with_cell : Cell → World → World
with_cell c W = record W { cells = W.cells ++ c ∷ [] }

abbrev pub with_coroutine : Coroutine → World → World
with_coroutine c W = record W { coroutines = W.coroutines ++ c ∷ [] }

pub record AddsTable (old new : Memory) (t : Contents) : Type 0 where
  pub objects : new.tables.objects ≡ old.tables.objects ++ t ∷ []
  pub rest : new ≡ record old { tables = new.tables }
  pub plain : (fuel : ℕ) → plain new fuel ≡ with_table (table old.strings t) (plain old fuel)

pub record AddsFunction (old new : Memory) (f : Func) : Type 0 where
  pub objects : new.funcs.objects ≡ old.funcs.objects ++ f ∷ []
  pub rest : new ≡ record old { funcs = new.funcs }
  pub plain : (fuel : ℕ) → plain new fuel ≡ with_function (function (functions old.codes) f) (plain old fuel)

pub record AddsCell (old new : Memory) (c : KeptCell) : Type 0 where
  pub objects : new.cells.objects ≡ old.cells.objects ++ c ∷ []
  pub rest : new ≡ record old { cells = new.cells }
  pub plain : (fuel : ℕ) → plain new fuel ≡ with_cell (cell old.strings c) (plain old fuel)

pub record AddsCoroutine (old new : Memory) (c : Coro) : Type 0 where
  pub objects : new.coros.objects ≡ old.coros.objects ++ c ∷ []
  pub rest : new ≡ record old { coros = new.coros }
  pub plain : (fuel : ℕ) → plain new fuel ≡ with_coroutine (coroutine old.strings c) (plain old fuel)

-- strings

-- a sound world reads the same, and code stays what it was
pub record Interns (old new : Memory) (text : List ℕ) : Type 0 where
  pub strings : new.strings ≡ interned old.strings text
  pub rest : new ≡ record old { strings = new.strings }
  pub plain : (primitives fuel : ℕ) → Sound primitives (plain old fuel) → plain new fuel ≡ plain old fuel
  pub codes : AreCodes old.strings old.codes → AreCodes new.strings new.codes

-- cells

-- the value of the cell of a number
abbrev pub value_in : World → ℕ → Option Value
value_in W n = bind (slice_get W.cells n) (read_cell W)

-- the cell of a number gets a value, in the register where it is open
abbrev pub with_value_in : World → ℕ → Value → Option World
with_value_in W n v = bind (slice_get W.cells n) (λ c. Some (write_cell W n c v))

-- printed bytes

pub record Prints (old new : Memory) (bytes : List ℕ) : Type 0 where
  pub printed : new.printed.items ≡ old.printed.items ++ bytes
  pub plain : (fuel : ℕ) → plain new fuel ≡ record (plain old fuel) { printed = old.printed.items ++ bytes }

-- Which objects the records of an image become.
use Rattle.std.specs.Prelude.{ℕ, ◌≡◌, ◌+◌, cond, List, Option, Some, None, length, slice_get}
use Rattle.int_core.specs.Value.{nil, a_table, a_function, a_coroutine, Value, known, object}
use Rattle.image_core.specs.Image.{Record}
use Rattle.image_core.specs.Loading.{kind_in, is_of, is_cell, Target, new_number, new_cell, numbered_value}
use Rattle.lua_heap.specs.declared.world.World.{World as Memory}
use Rattle.image_made.specs.declared.place.Place.{Place}
use Rattle.image_made.specs.declared.place.Place.TheVariants.{Table, Func, Cell, Coro}
use Rattle.image_made.specs.declared.place.Next.{Next}

-- a target counts the objects of a world in memory
pub record Starts (T : Target) (W : Memory) : Type 0 where
  pub tables : T.tables ≡ length W.tables.objects
  pub functions : T.functions ≡ length W.funcs.objects
  pub coroutines : T.coroutines ≡ length W.coros.objects
  pub cells : T.cells ≡ length W.cells.objects

-- the value that an object is; a cell is none
abbrev pub value_at : Place → Value
value_at (Table id) = object a_table id.0
value_at (Func id) = object a_function id.0
value_at (Cell id) = known nil
value_at (Coro id) = object a_coroutine id.0

abbrev pub value_in : Option Place → Value
value_in None = known nil
value_in (Some p) = value_at p

abbrev pub CellIs : Place → ℕ → Type 0
CellIs (Table id) n = Unit {0}
CellIs (Func id) n = Unit {0}
CellIs (Cell id) n = id.0 ≡ n
CellIs (Coro id) n = Unit {0}

abbrev pub CoroutineIs : Place → ℕ → Type 0
CoroutineIs (Table id) n = Unit {0}
CoroutineIs (Func id) n = Unit {0}
CoroutineIs (Cell id) n = Unit {0}
CoroutineIs (Coro id) n = id.0 ≡ n

-- the object of record n
pub record IsPlace (T : Target) (rs : List Record) (n : ℕ) (r : Record) (place : Place) : Type 0 where
  pub value : value_at place ≡ numbered_value T rs n (kind_in r)
  pub cell : CellIs place (new_cell T rs n)
  pub coroutine : CoroutineIs place (new_number T rs a_coroutine n)

-- the objects of the first records
pub record AreFirstPlaces (T : Target) (rs : List Record) (passed : ℕ) (places : List Place) : Type 0 where
  pub count : length places ≡ passed
  pub each : (n : ℕ) (place : Place) → slice_get places n ≡ Some place → (r : Record) × (slice_get rs n ≡ Some r) × IsPlace T rs n r place

abbrev pub ArePlaces : Target → List Record → List Place → Type 0
ArePlaces T rs places = AreFirstPlaces T rs (length rs) places

-- the numbers that the next objects get, where n records were passed
pub record IsNext (T : Target) (rs : List Record) (n : ℕ) (next : Next) : Type 0 where
  pub tables : next.tables ≡ new_number T rs a_table n
  pub funcs : next.funcs ≡ new_number T rs a_function n
  pub cells : next.cells ≡ new_cell T rs n
  pub coros : next.coros ≡ new_number T rs a_coroutine n

-- the object of a record, and the numbers behind it
pub record Numbers (old new : Next) (r : Record) (place : Place) : Type 0 where
  pub value : (T : Target) (rs : List Record) (n : ℕ) → IsNext T rs n old → IsPlace T rs n r place
  pub tables : new.tables ≡ cond (is_of a_table r) (old.tables + 1) old.tables
  pub funcs : new.funcs ≡ cond (is_of a_function r) (old.funcs + 1) old.funcs
  pub cells : new.cells ≡ cond (is_cell r) (old.cells + 1) old.cells
  pub coros : new.coros ≡ cond (is_of a_coroutine r) (old.coros + 1) old.coros

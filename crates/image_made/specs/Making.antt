-- What is made of what a record says, by which objects the numbers of records stand for.
use Rattle.std.specs.Prelude.{ℕ, ◌≡◌, List, Option, None, map, length}
use Rattle.std.specs.Option.{option_map}
use Rattle.int_core.specs.Value.{Kind}
use Rattle.image_core.specs.Image.{PermKey, Item, Record}
use Rattle.image_core.specs.Loading.{Target, value_made, row_made, table_number, wait_made, new_cell}
use Rattle.image_saved.specs.Permanents.{object_named}
use Rattle.image_records.specs.Names.{perms_of}
use Rattle.machine_core.specs.World.{Wait}
use Rattle.table_core.specs.declared.value.Value.{Value as Kept}
use Rattle.table_core.specs.declared.value.CellId.{CellId}
use Rattle.table_core.specs.Table.{Contents}
use Rattle.lua_heap.specs.Reading.{value, row as row_read}
use Rattle.lua_heap.specs.Plain.{table}
use Rattle.lua_stack.specs.declared.frame.Wait.{Wait as KeptWait}
use Rattle.lua_stack.specs.Frames.{wait_of}
use Rattle.image_made.specs.declared.making.Maker.{Maker}
use Rattle.image_made.specs.Places.{ArePlaces}

-- what values are made by is that of a target and these records
pub record IsMaker (T : Target) (rs : List Record) (maker : Maker) : Type 0 where
  pub places : ArePlaces T rs maker.places.now
  pub names : (kind : Kind) (key : PermKey) → T.named kind key ≡ object_named (perms_of maker.known.now) key
  pub environment : T.environment ≡ maker.environment.0

pub record Makes (maker : Maker) (texts : List (List ℕ)) (item : Item) (v : Kept) : Type 0 where
  pub is : (T : Target) (rs : List Record) → IsMaker T rs maker → value texts v ≡ value_made T rs item

pub record MakesAll (maker : Maker) (texts : List (List ℕ)) (items : List Item) (vs : List Kept) : Type 0 where
  pub count : length vs ≡ length items
  pub is : (T : Target) (rs : List Record) → IsMaker T rs maker → map (value texts) vs ≡ map (value_made T rs) items

pub record MakesError (maker : Maker) (texts : List (List ℕ)) (error : Option Item) (o : Option Kept) : Type 0 where
  pub is : (T : Target) (rs : List Record) → IsMaker T rs maker → option_map (value texts) o ≡ option_map (value_made T rs) error

pub record MakesCells (maker : Maker) (records : List ℕ) (cells : List CellId) : Type 0 where
  pub is : (T : Target) (rs : List Record) → IsMaker T rs maker → map (λ c. c.0) cells ≡ map (new_cell T rs) records

pub record MakesRow (maker : Maker) (texts : List (List ℕ)) (row : Item × Item) (r : Kept × Kept) : Type 0 where
  pub is : (T : Target) (rs : List Record) → IsMaker T rs maker → row_read texts r ≡ row_made T rs row

pub record MakesRows (maker : Maker) (texts : List (List ℕ)) (rows : List (Item × Item)) (t : Contents) : Type 0 where
  pub is : (T : Target) (rs : List Record) → IsMaker T rs maker → table texts t ≡ record { rows = map (row_made T rs) rows; metatable = None }

pub record MakesTable (maker : Maker) (texts : List (List ℕ)) (rows : List (Item × Item)) (metatable : Item) (t : Contents) : Type 0 where
  pub is : (T : Target) (rs : List Record) → IsMaker T rs maker → table texts t ≡ record { rows = map (row_made T rs) rows; metatable = table_number (value_made T rs metatable) }

pub record MakesWait (maker : Maker) (texts : List (List ℕ)) (w : Wait Item) (kept : KeptWait) : Type 0 where
  pub is : (T : Target) (rs : List Record) → IsMaker T rs maker → wait_of (value texts) kept ≡ wait_made T rs w

-- What an image holds: its roots, and records that name each other by their places in the list.
use Rattle.std.specs.Prelude.{ℕ, ℤ, List, Option}
use Rattle.int_core.specs.Value.{Plain, Kind, Value}
use Rattle.machine_core.specs.World.{Wait}
use Rattle.code_core.specs.Prototype.{Prototype}

-- the name of a permanent
pub data PermKey : Type 0 where
  number_key : ℤ → PermKey
  text_key : List ℕ → PermKey

pub record Perm : Type 0 where
  pub object : Value
  pub key : PermKey

-- a value as it stands in an image; a primitive is never plain there
pub data Item : Type 0 where
  plain : Plain → Item
  numbered : (record_number : ℕ) → Item
  permanent : Kind → PermKey → Item
  environment : Item

pub record LuaFrameItem : Type 0 where
  pub function : Item
  pub pc : ℕ
  pub wait : Wait Item
  pub varargs : List Item
  pub registers : List Item
  pub pending : List ℕ
  -- how many values its open list has: 0 where it waits
  pub opened : ℕ

pub data FrameItem : Type 0 where
  lua_item : LuaFrameItem → FrameItem
  pcall_item : FrameItem
  xpcall_item : Item → FrameItem
  handler_item : FrameItem
  closing_item : Option Item → List Item → FrameItem

pub data Record : Type 0 where
  table_record : List (Item × Item) → (metatable : Item) → Record
  function_record : Prototype → (cells : List ℕ) → Record
  closed_record : Item → Record
  open_record : (coroutine frame register : ℕ) → Record
  fresh_record : Item → Record
  suspended_record : List FrameItem → Record
  dead_record : Record
  failed_record : Item → List Item → Record
  -- what no image holds: a coroutine that runs or resumed another, or an object that is not there
  no_record : Record

pub record Image : Type 0 where
  pub roots : List Item
  pub records : List Record

-- What is held of an image, in the words of its definition.
use Rattle.std.specs.Prelude.{ℕ, map, Option}
use Rattle.std.specs.Option.{option_map}
use Rattle.int_core.specs.Value as value
use Rattle.machine_core.specs.World as world
use Rattle.image_core.specs.Image as image
use Rattle.image_records.specs.declared.record.Key.{Key}
use Rattle.image_records.specs.declared.record.Key.TheVariants.{Number, Text}
use Rattle.image_records.specs.declared.record.Kind.{Kind}
use Rattle.image_records.specs.declared.record.Kind.TheVariants as kind_of
use Rattle.image_records.specs.declared.record.Sort.{Sort}
use Rattle.image_records.specs.declared.record.Sort.TheVariants as sort_of
use Rattle.image_records.specs.declared.record.Item.{Item}
use Rattle.image_records.specs.declared.record.Item.TheVariants.{Nil, Bool as Boolean, Int, Str, Numbered, Permanent, Environment}
use Rattle.image_records.specs.declared.record.Wait.{Wait}
use Rattle.image_records.specs.declared.record.Wait.TheVariants.{ForCall, ForIterator, ForValue, ForTruth, Dropped, ForConcat, ForClose, Returning, Leaving}
use Rattle.image_records.specs.declared.record.LuaFrame.{LuaFrame}
use Rattle.image_records.specs.declared.record.Frame.{Frame}
use Rattle.image_records.specs.declared.record.Frame.TheVariants.{Lua, Pcall, Xpcall, Handler, Closing}
use Rattle.image_records.specs.declared.record.Record.{Record}
use Rattle.image_records.specs.declared.record.Record.TheVariants as record_of
use Rattle.image_records.specs.declared.record.Image.{Image}

abbrev pub key : Key → image.PermKey
key (Number n) = image.number_key n
key (Text text) = image.text_key text.now

abbrev pub kind : Kind → value.Kind
kind kind_of.Table = value.a_table
kind kind_of.Function = value.a_function
kind kind_of.Coroutine = value.a_coroutine

-- the byte that tells the sort of a record
abbrev pub sort : Sort → ℕ
sort sort_of.Table = 1
sort sort_of.Function = 2
sort sort_of.Cell = 3
sort sort_of.Coroutine = 4

abbrev pub item : Item → image.Item
item Nil = image.plain value.nil
item (Boolean b) = image.plain (value.boolean b)
item (Int n) = image.plain (value.integer n)
item (Str text) = image.plain (value.string text.now)
item (Numbered n) = image.numbered n
item (Permanent k name) = image.permanent (kind k) (key name)
item Environment = image.environment

abbrev pub row : Item × Item → image.Item × image.Item
row r = (item r.0, item r.1)

abbrev pub wait : Wait → world.Wait image.Item
wait ForCall = world.for_call
wait ForIterator = world.for_iterator
wait ForValue = world.for_value
wait ForTruth = world.for_truth
wait Dropped = world.dropped
wait (ForConcat left) = world.for_concat left
wait ForClose = world.for_close
wait (Returning count) = world.returning count
wait (Leaving e) = world.leaving (item e)

abbrev pub lua_frame : LuaFrame → image.LuaFrameItem
lua_frame f = record {
  function = item f.function;
  pc = f.pc;
  wait = wait f.wait;
  varargs = map item f.varargs.items;
  registers = map item f.registers.items;
  pending = f.pending.items;
  opened = 0;
}

abbrev pub error : Option Item → Option image.Item
error o = option_map item o

abbrev pub frame : Frame → image.FrameItem
frame (Lua f) = image.lua_item (lua_frame f)
frame Pcall = image.pcall_item
frame (Xpcall h) = image.xpcall_item (item h)
frame Handler = image.handler_item
frame (Closing e left) = image.closing_item (error e) (map item left.items)

abbrev pub record_read : Record → image.Record
record_read (record_of.Table rows metatable) = image.table_record (map row rows.items) (item metatable)
record_read (record_of.Function code cells) = image.function_record code cells.items
record_read (record_of.Closed i) = image.closed_record (item i)
record_read (record_of.Open co at register) = image.open_record co at register
record_read (record_of.Fresh body) = image.fresh_record (item body)
record_read (record_of.Suspended frames) = image.suspended_record (map frame frames.items)
record_read record_of.Dead = image.dead_record
record_read (record_of.Failed e pending) = image.failed_record (item e) (map item pending.items)

abbrev pub image_read : Image → image.Image
image_read I = record { roots = map item I.roots.items; records = map record_read I.records.items }

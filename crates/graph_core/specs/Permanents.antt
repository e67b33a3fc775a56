-- Permanents in memory, as the list that the definition of images knows.
use Rattle.std.specs.Prelude.{ℕ, List, map, Option, Some, None}
use Rattle.int_core.specs.Value.{primitive, a_table, a_function, a_coroutine, Value, known, object}
use Rattle.table_core.specs.declared.value.Value.{Value as Kept}
use Rattle.table_core.specs.declared.value.Value.TheVariants as kept
use Rattle.image_core.specs.Image.{PermKey, number_key, text_key, Perm}
use Rattle.graph_core.specs.declared.permanents.Permanent.{Permanent}
use Rattle.graph_core.specs.declared.permanents.PermanentSort.{PermanentSort}
use Rattle.graph_core.specs.declared.permanents.PermanentSort.TheVariants.{Primitive, Table, Func, Coro}
use Rattle.graph_core.specs.declared.permanents.PermanentKey.{PermanentKey}
use Rattle.graph_core.specs.declared.permanents.PermanentKey.TheVariants.{Number, Text}
use Rattle.graph_core.specs.declared.permanents.Permanents.{Permanents}

abbrev pub value_of : PermanentSort → ℕ → Value
value_of Primitive n = known (primitive n)
value_of Table n = object a_table n
value_of Func n = object a_function n
value_of Coro n = object a_coroutine n

abbrev pub object_read : Permanent → Value
object_read o = value_of o.sort o.number

abbrev pub key_read : PermanentKey → PermKey
key_read (Number n) = number_key n
key_read (Text text) = text_key text.items

abbrev pub permanent : Permanent × PermanentKey → Perm
permanent e = record { object = object_read e.0; key = key_read e.1 }

abbrev pub permanents : Permanents → List Perm
permanents p = map permanent p.keys.entries

-- what may be a permanent
abbrev pub stands_for : Kept → Option Permanent
stands_for kept.Nil = None
stands_for (kept.Bool b) = None
stands_for (kept.Int n) = None
stands_for (kept.Str id) = None
stands_for (kept.Prim n) = Some (record { sort = Primitive; number = n })
stands_for (kept.Table id) = Some (record { sort = Table; number = id.0 })
stands_for (kept.Func id) = Some (record { sort = Func; number = id.0 })
stands_for (kept.Coro id) = Some (record { sort = Coro; number = id.0 })

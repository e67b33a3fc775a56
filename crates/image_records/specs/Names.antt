-- What is known of permanents by their keys.
use Rattle.std.specs.Prelude.{Bool, true, false, cond, List, [], ◌∷◌, ◌++◌, map, Option, Some, None}
use Rattle.std.specs.Borrow.{Bor}
use Rattle.code_core.specs.Prototype.{Prototype}
use Rattle.int_core.specs.Value.{nil, primitive, Kind, a_table, a_function, a_coroutine, Value, known, object}
use Rattle.table_core.specs.declared.value.Value.{Value as Kept}
use Rattle.table_core.specs.declared.value.Value.TheVariants.{Prim, Table, Func, Coro}
use Rattle.table_core.specs.declared.value.TableId.{TableId}
use Rattle.image_core.specs.Image.{PermKey, Perm}
use Rattle.image_saved.specs.Permanents.{same_key}
use Rattle.image_records.specs.declared.record.Key.{Key}
use Rattle.image_records.specs.declared.known.Named.{Named}
use Rattle.image_records.specs.declared.known.Known.{Known}
use Rattle.image_records.specs.Views.{key}

-- what sort of object a permanent is: a primitive counts as a function
abbrev pub sort_of_object : Value → Option Kind
sort_of_object (known (primitive n)) = Some a_function
sort_of_object (known p) = None
sort_of_object (object kind n) = Some kind

-- what a list of names in memory says

abbrev pub object_of : Kept → Value
object_of (Prim n) = known (primitive n)
object_of (Table id) = object a_table id.0
object_of (Func id) = object a_function id.0
object_of (Coro id) = object a_coroutine id.0
object_of _ = known nil

abbrev pub perm : Key × Named → Perm
perm e = record { object = object_of e.1.object; key = key e.0 }

-- the permanents in the order in which they were added
abbrev pub entries_of : Known → List (Key × Named)
entries_of k = k.objects.entries

abbrev pub environment_of : Known → TableId
environment_of k = k.environment

abbrev pub perms_of : Known → List Perm
perms_of k = map perm (entries_of k)

abbrev pub proto_of : Option (Bor Prototype) → Option Prototype
proto_of None = None
proto_of (Some p) = Some p.now

-- the code of the first with this key
abbrev pub code_in : List (Key × Named) → PermKey → Option Prototype
code_in [] name = None
code_in (e ∷ es) name = cond (same_key (key e.0) name) (proto_of e.1.code) (code_in es name)

abbrev pub code_of : Known → PermKey → Option Prototype
code_of k name = code_in (entries_of k) name

-- what was found by a key
abbrev pub found_object : Option Named → Value
found_object None = known nil
found_object (Some n) = object_of n.object

abbrev pub found_code : Option Named → Option Prototype
found_code None = None
found_code (Some n) = proto_of n.code

-- a permanent goes last, where its key is a new one
abbrev pub has_key : List (Key × Named) → PermKey → Bool
has_key [] name = false
has_key (e ∷ es) name = cond (same_key (key e.0) name) true (has_key es name)

abbrev pub added : List (Key × Named) → Key × Named → List (Key × Named)
added es e = cond (has_key es (key e.0)) es (es ++ e ∷ [])

-- The forms of vectors: a call over a heap, and what it comes to.
use Rattle.std.proofs.Common.{ℕ, List, [], Some, None}
use Prim.Native.String.{String}
use Rattle.std.specs.Prelude.{◌-◌, pos, negsuc, Bool, codes}
use Rattle.int_core.specs.Value.{nil, boolean, integer, string, a_table, Value, known, object}
use Rattle.int_core.specs.Heap.{Table, Heap}
use Rattle.library_rows.specs.Look.{Done, done, refused, looked}
use Rattle.library_rows.specs.Library.{Primitive, row_of}

abbrev pub str : String → Value
str s = known (string (codes s))

abbrev pub bytes : List ℕ → Value
bytes s = known (string s)

abbrev pub int : ℕ → Value
int n = known (integer (pos n))

-- the integer that is n below 0
abbrev pub minus : ℕ → Value
minus n = known (integer (negsuc (n - 1)))

abbrev pub nil_value : Value
nil_value = known nil

abbrev pub truth : Bool → Value
truth b = known (boolean b)

abbrev pub no_tables : Heap
no_tables = record { tables = []; string_metatable = None }

abbrev pub table : List (Value × Value) → Table
table rows = record { rows = rows; metatable = None }

abbrev pub tables : List Table → Heap
tables ts = record { tables = ts; string_metatable = None }

-- the first table of a heap
abbrev pub first : Value
first = object a_table 0

abbrev pub runs : Primitive → List Value → Heap → Done
runs p vs H = elim (row_of p) [ None ↦ refused [] | Some l ↦ looked l vs H ]

abbrev pub call : Primitive → List Value → Done
call p vs = runs p vs no_tables

abbrev pub values : List Value → Done
values vs = done no_tables vs

abbrev pub fails : String → Done
fails text = refused (codes text)

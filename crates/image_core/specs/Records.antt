-- The image of a world: what its roots reach, in the order of first visit, each object with its fields (Eris's manual, `eris.persist` and permanent values:
-- all that a value reaches is written, shared objects once, and a permanent value by its key alone).
use Rattle.std.specs.Prelude.{ℕ, Bool, false, cond, ◌&&◌, List, [], ◌∷◌, ◌++◌, map, flat_map, Option, Some, None, option_map, unwrap_or, nat_eq, slice_get}
use Rattle.int_core.specs.Value.{nil, Kind, a_table, a_function, a_coroutine, Value, known, object, same, same_kind}
use Rattle.int_core.specs.Heap.{Table}
use Rattle.machine_core.specs.World.{Function, Cell, closed, open_at, Wait, running, for_call, for_iterator, for_value, for_truth, dropped, for_concat, for_close, returning, leaving, LuaFrame, Frame, lua, pcall, xpcall, handler, closing, Coroutine, fresh, suspended, in_progress, normal, dead, failed, World, read_cell}
use Rattle.image_core.specs.Visit.{met, place, order, greatest_count}
use Rattle.image_core.specs.Image.{PermKey, Perm, Item, plain, numbered, permanent, environment, LuaFrameItem, FrameItem, lua_item, pcall_item, xpcall_item, handler_item, closing_item, Record, table_record, function_record, closed_record, open_record, fresh_record, suspended_record, dead_record, failed_record, no_record, Image}

-- what has a record
pub data Part : Type 0 where
  an_object : Kind → ℕ → Part
  a_cell : ℕ → Part

abbrev pub same_part : Part → Part → Bool
same_part (an_object k m) (an_object l n) = same_kind k l && nat_eq m n
same_part (a_cell m) (a_cell n) = nat_eq m n
same_part _ _ = false

-- fields: what a record names, in the order in which it stands there

pub data Field : Type 0 where
  of_value : Value → Field
  of_cell : ℕ → Field
  of_coroutine : ℕ → Field

abbrev pub row_fields : Value × Value → List Field
row_fields row = of_value row.0 ∷ of_value row.1 ∷ []

abbrev pub metatable_value : Option ℕ → Value
metatable_value None = known nil
metatable_value (Some m) = object a_table m

abbrev pub table_fields : Table → List Field
table_fields t = flat_map row_fields t.rows ++ of_value (metatable_value t.metatable) ∷ []

abbrev pub wait_fields : Wait Value → List Field
wait_fields (leaving e) = of_value e ∷ []
wait_fields _ = []

abbrev pub error_fields : Option Value → List Field
error_fields None = []
error_fields (Some e) = of_value e ∷ []

abbrev pub frame_fields : Frame → List Field
frame_fields (lua f) = of_value (object a_function f.function) ∷ (map of_value f.own.varargs ++ (map of_value f.own.registers ++ wait_fields f.wait))
frame_fields pcall = []
frame_fields (xpcall h) = of_value h ∷ []
frame_fields handler = []
frame_fields (closing e left) = error_fields e ++ map of_value left

abbrev pub coroutine_fields : Coroutine → List Field
coroutine_fields (fresh body) = of_value body ∷ []
coroutine_fields (suspended frames) = flat_map frame_fields frames
coroutine_fields (in_progress frames) = []
coroutine_fields (normal frames) = []
coroutine_fields dead = []
coroutine_fields (failed e pending) = of_value e ∷ map of_value pending

abbrev pub present : World → Cell → Value
present W c = unwrap_or (read_cell W c) (known nil)

-- a cell that is open in a coroutine of the image names it; any other counts as its present value
abbrev pub cell_fields : World → (ℕ → Bool) → Cell → List Field
cell_fields W inside (closed v) = of_value v ∷ []
cell_fields W inside (open_at co frame register) = cond (inside co) (of_coroutine co ∷ []) (of_value (present W (open_at co frame register)) ∷ [])

abbrev pub if_there : {A : Type 0} → (A → List Field) → Option A → List Field
if_there f None = []
if_there f (Some x) = f x

abbrev pub fields : World → (ℕ → Bool) → Part → List Field
fields W inside (an_object a_table n) = if_there table_fields (slice_get W.heap.tables n)
fields W inside (an_object a_function n) = if_there (λ f. map of_cell f.cells) (slice_get W.functions n)
fields W inside (an_object a_coroutine n) = if_there coroutine_fields (slice_get W.coroutines n)
fields W inside (a_cell n) = if_there (cell_fields W inside) (slice_get W.cells n)

-- names: the prelude's environment, and the permanents, of several keys of one object the first

abbrev pub key_of : List Perm → Value → Option PermKey
key_of [] v = None
key_of (p ∷ ps) v = cond (same p.object v) (Some p.key) (key_of ps v)

abbrev pub sort_of : Value → Kind
sort_of (known p) = a_function
sort_of (object kind n) = kind

abbrev pub named : ℕ → List Perm → Value → Option Item
named env perms v = cond (same (object a_table env) v) (Some environment) (option_map (permanent (sort_of v)) (key_of perms v))

-- parts: the fields that have records of their own

abbrev pub value_parts : Value → List Part
value_parts (known p) = []
value_parts (object kind n) = an_object kind n ∷ []

abbrev pub unless_named : Option Item → List Part → List Part
unless_named None parts = parts
unless_named (Some i) parts = []

abbrev pub field_parts : (Value → Option Item) → Field → List Part
field_parts name (of_value v) = unless_named (name v) (value_parts v)
field_parts name (of_cell n) = a_cell n ∷ []
field_parts name (of_coroutine n) = an_object a_coroutine n ∷ []

abbrev pub parts : World → (Value → Option Item) → (ℕ → Bool) → Part → List Part
parts W name inside o = flat_map (field_parts name) (fields W inside o)

abbrev pub visited : World → (Value → Option Item) → (ℕ → Bool) → List Value → List Part
visited W name inside roots = order same_part (parts W name inside) greatest_count (flat_map (λ v. field_parts name (of_value v)) roots)

-- which coroutines are reached is found first, where every open cell counts as its present value
abbrev pub is_reached : World → (Value → Option Item) → List Value → ℕ → Bool
is_reached W name roots co = met same_part (visited W name (λ _. false) roots) (an_object a_coroutine co)

abbrev pub parts_in_order : World → (Value → Option Item) → List Value → List Part
parts_in_order W name roots = visited W name (is_reached W name roots) roots

-- records

pub record Naming : Type 0 where
  pub name : Value → Option Item
  pub number : Part → ℕ
  pub inside : ℕ → Bool

abbrev pub unnamed_item : Naming → Value → Item
unnamed_item N (known p) = plain p
unnamed_item N (object kind n) = numbered (N.number (an_object kind n))

abbrev pub or_item : Option Item → Item → Item
or_item None i = i
or_item (Some j) i = j

abbrev pub item : Naming → Value → Item
item N v = or_item (N.name v) (unnamed_item N v)

abbrev pub wait_item : Naming → Wait Value → Wait Item
wait_item N running = running
wait_item N for_call = for_call
wait_item N for_iterator = for_iterator
wait_item N for_value = for_value
wait_item N for_truth = for_truth
wait_item N dropped = dropped
wait_item N (for_concat left) = for_concat left
wait_item N for_close = for_close
wait_item N (returning count) = returning count
wait_item N (leaving e) = leaving (item N e)

abbrev pub lua_frame_item : Naming → LuaFrame → LuaFrameItem
lua_frame_item N f = record {
  function = item N (object a_function f.function);
  pc = f.own.pc;
  wait = wait_item N f.wait;
  varargs = map (item N) f.own.varargs;
  registers = map (item N) f.own.registers;
  pending = f.own.pending;
  opened = f.own.opened;
}

abbrev pub frame_item : Naming → Frame → FrameItem
frame_item N (lua f) = lua_item (lua_frame_item N f)
frame_item N pcall = pcall_item
frame_item N (xpcall h) = xpcall_item (item N h)
frame_item N handler = handler_item
frame_item N (closing e left) = closing_item (option_map (item N) e) (map (item N) left)

abbrev pub row_item : Naming → Value × Value → Item × Item
row_item N row = (item N row.0, item N row.1)

abbrev pub record_of_table : Naming → Table → Record
record_of_table N t = table_record (map (row_item N) t.rows) (item N (metatable_value t.metatable))

abbrev pub record_of_function : Naming → Function → Record
record_of_function N f = function_record f.code (map (λ c. N.number (a_cell c)) f.cells)

abbrev pub record_of_coroutine : Naming → Coroutine → Record
record_of_coroutine N (fresh body) = fresh_record (item N body)
record_of_coroutine N (suspended frames) = suspended_record (map (frame_item N) frames)
record_of_coroutine N (in_progress frames) = no_record
record_of_coroutine N (normal frames) = no_record
record_of_coroutine N dead = dead_record
record_of_coroutine N (failed e pending) = failed_record (item N e) (map (item N) pending)

abbrev pub record_of_cell : Naming → World → Cell → Record
record_of_cell N W (closed v) = closed_record (item N v)
record_of_cell N W (open_at co frame register) = cond (N.inside co) (open_record (N.number (an_object a_coroutine co)) frame register) (closed_record (item N (present W (open_at co frame register))))

abbrev pub or_none : {A : Type 0} → (A → Record) → Option A → Record
or_none f None = no_record
or_none f (Some x) = f x

abbrev pub record_of : Naming → World → Part → Record
record_of N W (an_object a_table n) = or_none (record_of_table N) (slice_get W.heap.tables n)
record_of N W (an_object a_function n) = or_none (record_of_function N) (slice_get W.functions n)
record_of N W (an_object a_coroutine n) = or_none (record_of_coroutine N) (slice_get W.coroutines n)
record_of N W (a_cell n) = or_none (record_of_cell N W) (slice_get W.cells n)

-- the image of what the roots reach

abbrev pub naming : World → (Value → Option Item) → List Value → Naming
naming W name roots = record { name = name; number = λ o. unwrap_or (place same_part (parts_in_order W name roots) o) 0; inside = is_reached W name roots }

abbrev pub image_by : World → (Value → Option Item) → List Value → Image
image_by W name roots = record { roots = map (item (naming W name roots)) roots; records = map (record_of (naming W name roots) W) (parts_in_order W name roots) }

abbrev pub image_of : World → List Value → List Perm → Image
image_of W roots perms = image_by W (named W.prelude_environment perms) roots

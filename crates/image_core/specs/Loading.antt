-- A world with the objects of an image after its own (Eris's manual, `eris.unpersist`: what is read has the shape of what was written, and permanent values are put in by their keys).
use Rattle.std.specs.Prelude.{ℕ, zero, suc, ◌+◌, Bool, true, false, cond, List, [], ◌∷◌, ◌++◌, map, Option, Some, None, option_map, slice_get}
use Rattle.int_core.specs.Value.{nil, Kind, a_table, a_function, a_coroutine, Value, known, object, same_kind, bind}
use Rattle.int_core.specs.Heap.{Table}
use Rattle.machine_core.specs.World.{Function, Cell, closed, open_at, Wait, running, for_call, for_iterator, for_value, for_truth, dropped, for_concat, for_close, returning, leaving, LuaFrame, Frame, lua, pcall, xpcall, handler, closing, Coroutine, fresh, suspended, dead, failed, World}
use Rattle.machine_alike.specs.Agree.{Pairs}
use Rattle.image_core.specs.Visit.{place}
use Rattle.image_core.specs.Image.{PermKey, Item, plain, numbered, permanent, environment, LuaFrameItem, FrameItem, lua_item, pcall_item, xpcall_item, handler_item, closing_item, Record, table_record, function_record, closed_record, open_record, fresh_record, suspended_record, dead_record, failed_record}
use Rattle.image_core.specs.Records.{Part, an_object, a_cell, same_part}

-- which sort of object a record is of
abbrev pub kind_in : Record → Option Kind
kind_in (table_record rows metatable) = Some a_table
kind_in (function_record code cells) = Some a_function
kind_in (fresh_record body) = Some a_coroutine
kind_in (suspended_record frames) = Some a_coroutine
kind_in dead_record = Some a_coroutine
kind_in (failed_record e pending) = Some a_coroutine
kind_in _ = None

abbrev pub is_kind : Kind → Option Kind → Bool
is_kind kind None = false
is_kind kind (Some k) = same_kind k kind

abbrev pub is_of : Kind → Record → Bool
is_of kind r = is_kind kind (kind_in r)

abbrev pub is_cell : Record → Bool
is_cell (closed_record i) = true
is_cell (open_record co frame register) = true
is_cell _ = false

-- how many of a sort stand in front of place n
abbrev pub rank : {A : Type 0} → (A → Bool) → List A → ℕ → ℕ
rank is [] n = 0
rank is (x ∷ xs) zero = 0
rank is (x ∷ xs) (suc n) = cond (is x) (suc (rank is xs n)) (rank is xs n)

-- the world that an image is loaded into: how many objects it has, its permanents by sort and key, and the prelude's environment
pub record Target : Type 0 where
  pub tables : ℕ
  pub functions : ℕ
  pub coroutines : ℕ
  pub cells : ℕ
  pub named : Kind → PermKey → Value
  pub environment : ℕ

abbrev pub count_in : Target → Kind → ℕ
count_in T a_table = T.tables
count_in T a_function = T.functions
count_in T a_coroutine = T.coroutines

abbrev pub new_number : Target → List Record → Kind → ℕ → ℕ
new_number T records kind n = count_in T kind + rank (is_of kind) records n

abbrev pub new_cell : Target → List Record → ℕ → ℕ
new_cell T records n = T.cells + rank is_cell records n

abbrev pub numbered_value : Target → List Record → ℕ → Option Kind → Value
numbered_value T records n None = known nil
numbered_value T records n (Some kind) = object kind (new_number T records kind n)

abbrev pub value_made : Target → List Record → Item → Value
value_made T records (plain p) = known p
value_made T records (numbered n) = numbered_value T records n (bind (slice_get records n) kind_in)
value_made T records (permanent kind key) = T.named kind key
value_made T records environment = object a_table T.environment

abbrev pub table_number : Value → Option ℕ
table_number (object a_table n) = Some n
table_number _ = None

abbrev pub function_number : Value → ℕ
function_number (object a_function n) = n
function_number _ = 0

abbrev pub row_made : Target → List Record → Item × Item → Value × Value
row_made T records row = (value_made T records row.0, value_made T records row.1)

abbrev pub table_made : Target → List Record → Record → Option Table
table_made T records (table_record rows m) = Some (record { rows = map (row_made T records) rows; metatable = table_number (value_made T records m) })
table_made T records _ = None

abbrev pub function_made : Target → List Record → Record → Option Function
function_made T records (function_record code cells) = Some (record { code = code; cells = map (new_cell T records) cells })
function_made T records _ = None

abbrev pub wait_made : Target → List Record → Wait Item → Wait Value
wait_made T records running = running
wait_made T records for_call = for_call
wait_made T records for_iterator = for_iterator
wait_made T records for_value = for_value
wait_made T records for_truth = for_truth
wait_made T records dropped = dropped
wait_made T records (for_concat left) = for_concat left
wait_made T records for_close = for_close
wait_made T records (returning count) = returning count
wait_made T records (leaving e) = leaving (value_made T records e)

abbrev pub lua_frame_made : Target → List Record → LuaFrameItem → LuaFrame
lua_frame_made T records f = record {
  function = function_number (value_made T records f.function);
  wait = wait_made T records f.wait;
  own = record {
    pc = f.pc;
    registers = map (value_made T records) f.registers;
    varargs = map (value_made T records) f.varargs;
    pending = f.pending;
    opened = f.opened;
  };
}

abbrev pub frame_made : Target → List Record → FrameItem → Frame
frame_made T records (lua_item f) = lua (lua_frame_made T records f)
frame_made T records pcall_item = pcall
frame_made T records (xpcall_item h) = xpcall (value_made T records h)
frame_made T records handler_item = handler
frame_made T records (closing_item e left) = closing (option_map (value_made T records) e) (map (value_made T records) left)

abbrev pub coroutine_made : Target → List Record → Record → Option Coroutine
coroutine_made T records (fresh_record body) = Some (fresh (value_made T records body))
coroutine_made T records (suspended_record frames) = Some (suspended (map (frame_made T records) frames))
coroutine_made T records dead_record = Some dead
coroutine_made T records (failed_record e pending) = Some (failed (value_made T records e) (map (value_made T records) pending))
coroutine_made T records _ = None

abbrev pub cell_made : Target → List Record → Record → Option Cell
cell_made T records (closed_record i) = Some (closed (value_made T records i))
cell_made T records (open_record co frame register) = Some (open_at (new_number T records a_coroutine co) frame register)
cell_made T records _ = None

-- what is made of those of a sort
abbrev pub chosen : {A B : Type 0} → (A → Option B) → List A → List B
chosen f [] = []
chosen f (x ∷ xs) = elim (f x) [ None ↦ chosen f xs | Some y ↦ y ∷ chosen f xs ]

abbrev pub loaded : Target → List Record → World → World
loaded T records V = record V {
  heap = record V.heap { tables = V.heap.tables ++ chosen (table_made T records) records };
  functions = V.functions ++ chosen (function_made T records) records;
  coroutines = V.coroutines ++ chosen (coroutine_made T records) records;
  cells = V.cells ++ chosen (cell_made T records) records;
}

-- what is paired: what was, and each object that was written with the one that was made of its record
abbrev pub or_number : Option ℕ → Option ℕ → Option ℕ
or_number None n = n
or_number (Some m) n = Some m

abbrev pub loading : Pairs → Target → List Part → List Record → Pairs
loading base T written records = record {
  objects = λ kind i. or_number (base.objects kind i) (option_map (new_number T records kind) (place same_part written (an_object kind i)));
  cells = λ i. or_number (base.cells i) (option_map (new_cell T records) (place same_part written (a_cell i)));
}

-- The items of a table in ascending order.
use Rattle.std.specs.Prelude.{◌≡◌, ℕ, suc, ◌+◌, ◌<◌, ℤ, pos, Bool, true, false, List, [], ◌∷◌, length, map, unwrap_or, Some, Result, Ok, Err, slice_get, codes}
use Rattle.std.specs.List.{list_all}
use Rattle.int_core.specs.Heap.{Heap}
use Rattle.int_core.specs.Rows.{has_row, set}
use Rattle.int_core.specs.Value.{Value, known, integer, object, a_table, nil, Shape, shape}
use Rattle.library_rows.specs.Arguments.{bad_argument, is_absent, plain_of}
use Rattle.library_rows.specs.Base.{can_be_sorted, sorted, told_number}
use Rattle.library_rows.specs.Look.{border_in, border_told, put_field}
use Rattle.library_rows.specs.Plainly.{fits_length}
use Rattle.library_arguments.specs.Refusals.{refusal_text}
use Rattle.library_arguments.specs.declared.refusal.Fault.{Fault}
use Rattle.library_arguments.specs.declared.refusal.Fault.TheVariants.{Refused, Memory as NoMemory}
use Rattle.library_arguments.specs.declared.refusal.Refusal.{Refusal}
use Rattle.std.specs.declared.alloc.Global.{Global}
use Rattle.std.specs.declared.vec.Vec.{Vec}
use Rattle.table_core.specs.Table.{Contents}
use Rattle.table_core.specs.Value.{lua_values}
use Rattle.table_core.specs.declared.value.TableId.{TableId}
use Rattle.table_core.specs.declared.value.Value.{Value as Kept}
use Rattle.table_core.specs.declared.value.Value.TheVariants.{Int, Str}
use Rattle.lua_heap.specs.declared.world.World.{World as Memory}
use Rattle.lua_heap.specs.Reading.{value}
use Rattle.lib_base.specs.Lists.{items_from}
use Rattle.lib_base.specs.declared.sorting.Items.{Items}
use Rattle.lib_base.specs.declared.sorting.Items.TheVariants.{Integers, Texts}
use Rattle.pure_functions.specs.Answers.{heap_of}
use Rattle.pure_functions.specs.Shapes.{IsThere}

-- of one value

abbrev pub is_integer : Kept → Bool
is_integer (Int n) = true
is_integer _ = false

abbrev pub is_text : Kept → Bool
is_text (Str id) = true
is_text _ = false

abbrev pub is_item : Items → Kept → Bool
is_item Integers = is_integer
is_item Texts = is_text

abbrev pub number_of : Kept → ℤ
number_of (Int n) = n
number_of _ = pos 0

abbrev pub bytes_of : List (List ℕ) → Kept → List ℕ
bytes_of texts (Str id) = unwrap_or (slice_get texts id.0) []
bytes_of texts _ = []

-- strings that values name are there
abbrev pub AreThere : List (List ℕ) → List Kept → Type 0
AreThere texts [] = Unit {0}
AreThere texts (v ∷ vs) = IsThere texts v × AreThere texts vs

-- there is no comparator, or it is refused
abbrev pub NamesNoComparator : Value → Result (Unit {0}) Refusal → Type 0
NamesNoComparator v (Ok none) = v ≡ known nil
NamesNoComparator v (Err why) = (is_absent (shape v) ≡ false) × (refusal_text why ≡ bad_argument 2 (codes "sort") (codes "comparator not supported"))

-- what the row sees of values, and what it sorts

abbrev pub shapes_in : List (List ℕ) → List Kept → List Shape
shapes_in texts vs = map shape (map (value texts) vs)

abbrev pub IsSortedOf : List (List ℕ) → List Kept → List Kept → Type 0
IsSortedOf texts old new = map (value texts) new ≡ map known (sorted (map plain_of (shapes_in texts old)))

pub record GoesInOrder (texts : List (List ℕ)) (old new : List Kept) : Type 0 where
  pub can : can_be_sorted (shapes_in texts old) ≡ true
  pub are : IsSortedOf texts old new
  pub len : length new ≡ length old

abbrev pub refuses_items : List ℕ
refuses_items = bad_argument 1 (codes "sort") (codes "sort takes only integers or only strings")

-- put in order, or refused
abbrev pub IsInOrder : List (List ℕ) → List Kept → List Kept → Result (Unit {0}) Refusal → Type 0
IsInOrder texts old new (Ok done) = GoesInOrder texts old new
IsInOrder texts old new (Err why) = (can_be_sorted (shapes_in texts old) ≡ false) × (refusal_text why ≡ refuses_items)

-- the items of a table

abbrev pub items_in : Heap → Value → ℕ
items_in H t = told_number (border_told (border_in H t))

abbrev pub item_shapes : Heap → Value → List Shape
item_shapes H t = map shape (items_from H t (items_in H t) 1)

abbrev pub HasPlaces : List (Kept × Kept) → ℕ → Type 0
HasPlaces rows n = (m : ℕ) → m < n → has_row lua_values rows (Int (pos (m + 1))) ≡ true

abbrev pub TableHasPlaces : List Contents → TableId → ℕ → Type 0
TableHasPlaces ts id n = (t : Contents) → slice_get ts id.0 ≡ Some t → HasPlaces t.rows n

pub record AreItems (W : Memory) (id : TableId) (vs : List Kept) : Type 0 where
  pub can : can_be_sorted (item_shapes (heap_of W) (object a_table id.0)) ≡ true
  pub fit : list_all fits_length (map plain_of (item_shapes (heap_of W) (object a_table id.0))) ≡ true
  pub are : map (value W.strings) vs ≡ map known (sorted (map plain_of (item_shapes (heap_of W) (object a_table id.0))))
  pub there : TableHasPlaces W.tables.objects id (length vs)

-- the items in ascending order, or the error; want of memory says nothing
abbrev pub AreSorted : Memory → TableId → Result (Vec Kept Global) Fault → Type 0
AreSorted W id (Ok vs) = AreItems W id vs.items
AreSorted W id (Err (Refused why)) = (can_be_sorted (item_shapes (heap_of W) (object a_table id.0)) ≡ false) × (refusal_text why ≡ refuses_items)
AreSorted W id (Err NoMemory) = Unit {0}

-- values put one after another at i and the integers behind it

abbrev pub rows_put : List (Kept × Kept) → ℕ → List Kept → List (Kept × Kept)
rows_put rows i [] = rows
rows_put rows i (v ∷ vs) = rows_put (set lua_values rows (Int (pos i)) v) (suc i) vs

abbrev pub fields_put : Heap → Value → ℕ → List Value → Heap
fields_put H t i [] = H
fields_put H t i (v ∷ vs) = fields_put (put_field H t (known (integer (pos i))) v) t (suc i) vs

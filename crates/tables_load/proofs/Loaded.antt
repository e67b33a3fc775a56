-- What is loaded from an image that was accepted has tables; so has a session.
use Rattle.std.proofs.Common.{arith, ℕ, zero, suc, ◌+◌, ◌<◌, ◌≤◌, ◌≡◌, ⊎_elim, List, [], ◌∷◌, ◌++◌, Option, Some, None, refl, subst, ap, length, map, Bool, true, false, cond}
use Rattle.std.specs.Prelude.{slice_get}
use Rattle.std.proofs.lemmas.List.{length-map}
use Rattle.int_core.specs.Rows.{AreRows}
use Rattle.int_core.specs.Value.{nil, string, integer, Kind, a_table, a_function, a_coroutine, Value, known, object, table_values}
use Rattle.int_core.specs.Heap.{Table}
use Rattle.code_core.specs.Prototype.{Prototype}
use Rattle.library_rows.specs.Library.{Entry, all_entries, key_of}
use Rattle.library_rows.specs.PreludeText.{function_keys}
use Rattle.lua_meaning.specs.Libraries.{environment_table}
use Rattle.machine_core.specs.World.{World}
use Rattle.machine_runs.specs.Opening.{prelude_function, opening}
use Rattle.image_core.specs.Image.{PermKey, Perm, Record, table_record, Image}
use Rattle.image_core.specs.Loading.{is_of, Target, count_in, value_made, row_made, table_made, chosen, loaded}
use Rattle.image_core.proofs.Lists.{get_split, chosen_from}
use Rattle.image_core.proofs.Making.{table_told}
use Rattle.image_bytes.specs.Bytes.{Reader, sort_byte, with_sorts, read_image}
use Rattle.image_load.specs.Session.{with_roots}
use Rattle.image_reading.specs.Reader.{reader}
use Rattle.image_sound.proofs.Fitted.{fitted}
use Rattle.image_saved.specs.Permanents.{same_key, object_named}
use Rattle.image_sound.specs.Reads.{All, RecordRead}
use Rattle.session_images.specs.Laws.{IsLibrary}
use Rattle.session_images.specs.Permanents.{by_keys, primitive_value, function_value, base_permanents}
use Rattle.session_images.specs.Saved.{session_target}
use Rattle.tables_stay.specs.Laws.{AreTables}
use Rattle.tables_load.specs.Laws.{IsHome, AcceptedHasTables, SessionsHaveTables}
use Rattle.tables_load.proofs.NewKeys.{RowsNew, TablesRead, tables_read}
use Rattle.tables_load.proofs.Keys.{are_rows}
use Rattle.image_saved.proofs.Names.{some_so}

all_at : {A : Type 0} (P : A → Type 0) (xs : List A) (n : ℕ) (x : A) → All P xs → slice_get xs n ≡ Some x → P x
all_at P [] n x h e = absurd (cc)
all_at P (y ∷ xs) zero x h e = let k : y ≡ x = cc in subst P k h.0
all_at P (y ∷ xs) (suc n) x h e = all_at P xs n x h.1 e

module _ (perms : List Perm) (env : ℕ) (T : Target) (V : World) (home : IsHome perms env T) (roots : ℕ) (I : Image) (known : TablesRead (reader perms env) roots I) (h : AreTables V.heap) where
  abbrev R : Reader
  R = with_sorts (reader perms env) (map sort_byte I.records)

  record_is : (r : Record) (t : Table) → RecordRead R r → RowsNew R r → table_made T I.records r ≡ Some t → AreRows table_values t.rows
  record_is (table_record rows m) t a b e =
      let k : map (row_made T I.records) rows ≡ t.rows = ap rows_in e in
      subst (AreRows table_values) k (are_rows perms env T home I.records rows a.0 b)
    where
      rows_in : Option Table → List (Value × Value)
      rows_in None = []
      rows_in (Some t) = t.rows
  record_is _ t a b e = absurd (cc)

  made_is : (j : ℕ) (t : Table) → slice_get (chosen (table_made T I.records) I.records) j ≡ Some t → AreRows table_values t.rows
  made_is j t e =
      let c = chosen_from (is_of a_table) (table_made T I.records) (table_told T I.records) I.records j t e in
      record_is c.1 t (all_at (RecordRead R) I.records c.0 c.1 known.right.records_read c.2) (all_at (RowsNew R) I.records c.0 c.1 known.new c.2) c.3

  tables_loaded : AreTables (loaded T I.records V).heap
  tables_loaded j t e = ⊎_elim (λ old. h j t old.0) (λ new. made_is new.0 t new.2) (get_split V.heap.tables (chosen (table_made T I.records) I.records) j t e)

pub accepted_has_tables : AcceptedHasTables
accepted_has_tables perms env T V home code_named roots met I bytes e h =
    tables_loaded perms env T V home roots I (tables_read (reader perms env) roots met I bytes (fitted code_named (read_image (reader perms env) roots bytes) I met e)) h

-- the permanents of sessions are there: primitives, and the functions of the prelude

abbrev IsBase : ℕ → Value → Type 0
IsBase count (known p) = Unit {0}
IsBase count (object a_table n) = ⊥
IsBase count (object a_function n) = n < count
IsBase count (object a_coroutine n) = ⊥

abbrev AllBase : ℕ → List Perm → Type 0
AllBase count [] = Unit {0}
AllBase count (p ∷ ps) = IsBase count p.object × AllBase count ps

primitives_base : (count n : ℕ) (keys : List (List ℕ)) (more : List Perm) → AllBase count more → AllBase count (by_keys primitive_value n keys ++ more)
primitives_base count n [] more h = h
primitives_base count n (key ∷ keys) more h = (tt, primitives_base count (suc n) keys more h)

functions_base : (count n : ℕ) (keys : List (List ℕ)) → n + length keys ≤ count → AllBase count (by_keys function_value n keys)
functions_base count n [] l = tt
functions_base count n (key ∷ keys) l = (omega (arith, l), functions_base count (suc n) keys (omega (arith, l)))

named_base : (count : ℕ) (perms : List Perm) (key : PermKey) → AllBase count perms → IsBase count (object_named perms key)
named_base count [] key h = tt
named_base count (p ∷ perms) key h = by (same_key p.key key) (named_base count perms key h.1)
  where
    by : (b : Bool) → IsBase count (object_named perms key) → IsBase count (cond b p.object (object_named perms key))
    by true k = h.0
    by false k = k

base_there : (count : ℕ) (v : Value) (T : Target) → IsBase count v → count ≤ T.functions → (kind : Kind) (n : ℕ) → v ≡ object kind n → n < count_in T kind
base_there count (known p) T h l kind n e = absurd (cc)
base_there count (object a_table m) T h l kind n e = absurd h
base_there count (object a_coroutine m) T h l kind n e = absurd h
base_there count (object a_function m) T h l kind n e = subst (λ (v : Value). IsThere v) e (omega (arith, h, l))
  where
    IsThere : Value → Type 0
    IsThere (known p) = Unit {0}
    IsThere (object kind n) = n < count_in T kind

all_base : (count : ℕ) → length function_keys ≤ count → AllBase count base_permanents
unfolding base_permanents
all_base count l = primitives_base count 0 (map key_of all_entries) (by_keys function_value 0 function_keys) (functions_base count 0 function_keys l)

opening_count : (prelude : List (Entry Prototype)) → length (opening prelude).functions ≡ length prelude
unfolding opening
opening_count prelude = length-map prelude prelude_function

opening_environment : (prelude : List (Entry Prototype)) → (opening prelude).prelude_environment ≡ environment_table
unfolding opening
opening_environment prelude = refl

opening_tables : (prelude : List (Entry Prototype)) → environment_table < length (opening prelude).heap.tables
unfolding opening
opening_tables prelude = omega arith

session_home : (prelude : List (Entry Prototype)) → IsLibrary prelude → IsHome base_permanents environment_table (session_target (opening prelude))
session_home prelude library = record {
  named = λ kind key. refl;
  environment = opening_environment prelude;
  env_there = opening_tables prelude;
  there = λ key kind n e.
      let l : length function_keys ≤ length (opening prelude).functions = (let a = library.count in let b = opening_count prelude in omega (arith, a, b)) in
      base_there (length function_keys) (object_named base_permanents key) (session_target (opening prelude)) (named_base (length function_keys) base_permanents key (all_base (length function_keys) (omega arith))) l kind n e;
}

-- roots change no table

abbrev tables_in : World → List Table
tables_in W = W.heap.tables

rooted : (vs : List Value) (Y X : World) → with_roots vs Y ≡ Some X → Y.heap.tables ≡ X.heap.tables
rooted (object a_coroutine co ∷ object a_table g ∷ known nil ∷ known (string key) ∷ known (integer n) ∷ []) Y X e = ap tables_in (some_so e)
rooted (object a_coroutine co ∷ object a_table g ∷ object a_table m ∷ known (string key) ∷ known (integer n) ∷ []) Y X e = ap tables_in (some_so e)
rooted _ Y X e = absurd (cc)

pub sessions_have_tables : SessionsHaveTables
sessions_have_tables prelude library opens code_named image session l =
    let T = session_target (opening prelude) in
    let made = accepted_has_tables base_permanents environment_table T (opening prelude) (session_home prelude library) code_named _ l.met l.image image l.accepted opens in
    let same = rooted (map (value_made T l.image.records) l.image.roots) (loaded T l.image.records (opening prelude)) session l.session in
    subst (λ (ts : List Table). (i : ℕ) (t : Table) → slice_get ts i ≡ Some t → AreRows table_values t.rows) same made

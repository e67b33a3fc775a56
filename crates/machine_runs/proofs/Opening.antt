-- The world of the libraries is sound, and stays so where a script begins in it and lines are handed over.
use Rattle.std.proofs.Common.{ℕ, zero, suc, ◌+◌, ◌<◌, ◌≤◌, ◌≡◌, List, [], ◌∷◌, ◌++◌, Some, None, refl, subst, sym, ap, length, map, filter, arith, Bool, true, false, cond, length-append}
use Rattle.std.specs.Prelude.{slice_get, IsTrue, nat_le, nat_lt, codes, ◌&&◌}
use Rattle.std.specs.List.{list_all, list_any}
use Rattle.std.proofs.lemmas.List.{map-append}
use Rattle.int_core.specs.Value.{Plain, nil, string, primitive, a_table, a_function, Value, known, object, greatest_string}
use Rattle.int_core.specs.Operations.{before}
use Rattle.code_core.specs.declared.proto.UpDesc.{UpDesc}
use Rattle.code_core.specs.Prototype.{Prototype}
use Rattle.code_core.specs.Check.{IsChecked}
use Rattle.library_rows.specs.Library.{Library, of_globals, of_coroutine, of_string, of_table, of_math, of_utf8, Primitive, Entry, all_entries, constants}
use Rattle.machine_core.specs.World.{Cell, closed, open_at, Coroutine, fresh, World}
use Rattle.machine_sound.specs.Sound.{Each, Sizes, sizes, Valid, TableOk, FunctionOk, CoroutineOk, standing, runs, resumed_another, ChainOk, CellOk, registers_of, Solid, idle, Sound}
use Rattle.machine_sound.proofs.Lists.{each_none, each_one, each_cons, each_tail, each_append, each_push, each_filter, each_on, get_push_old, get_push_new, get_front, each_eight}
use Rattle.machine_sound.proofs.Values.{le_of, lt_of, both_of}
use Rattle.machine_sound.proofs.Grow.{Grows, table_on, function_on, coroutine_on, valid_on}
use Rattle.machine_sound.proofs.Chains.{chain_none, chain_beside}
use Rattle.machine_sound.proofs.Waits.{moving_solid}
use Rattle.machine_sound.proofs.NewCoroutines.{coroutine_within}
use Rattle.lua_meaning.specs.Libraries.{library_tables, plain_value, primitives_from, functions_from, primitive_values, constant_values, function_values, library_values, put_by_name, by_name, row_of_entry, table_of, is_in, library_table, is_named, first_of_each, environment, strings_meta}
use Rattle.machine_runs.specs.Opening.{numbers, environment_cell, prelude_function, opening, nil_cells, main_cells, main_function, with_main, begun, handed_line}
use Rattle.machine_runs.specs.Laws.{PreludeOk, MayTurn}

-- an entry's name is no longer than a string may be, and its value is right
abbrev EntryOk : Sizes → Entry Value → Type 0
EntryOk z e = (length e.name ≤ greatest_string) × Valid z e.entry

-- tables of right entries

module _ (z : Sizes) where
  put_ok : (x : Entry Value) (xs : List (Entry Value)) → EntryOk z x → Each (EntryOk z) xs → Each (EntryOk z) (put_by_name x xs)
  put_ok x [] p h = each_one (EntryOk z) x p
  put_ok x (y ∷ ys) p h = pick (before x.name y.name) (put_ok x ys p (each_tail (EntryOk z) y ys h))
    where
      pick : (b : Bool) → Each (EntryOk z) (put_by_name x ys) → Each (EntryOk z) (cond b (x ∷ y ∷ ys) (y ∷ put_by_name x ys))
      pick true k = each_cons (EntryOk z) x (y ∷ ys) p h
      pick false k = each_cons (EntryOk z) y (put_by_name x ys) (h zero y refl) k

  sorted_ok : (xs : List (Entry Value)) → Each (EntryOk z) xs → Each (EntryOk z) (by_name xs)
  sorted_ok [] h = h
  sorted_ok (x ∷ xs) h = put_ok x (by_name xs) (h zero x refl) (sorted_ok xs (each_tail (EntryOk z) x xs h))

  first_ok : (seen xs : List (Entry Value)) → Each (EntryOk z) xs → Each (EntryOk z) (first_of_each seen xs)
  first_ok seen [] h = h
  first_ok seen (x ∷ xs) h = pick (list_any (is_named x.name) seen) (first_ok seen xs (each_tail (EntryOk z) x xs h)) (first_ok (x ∷ seen) xs (each_tail (EntryOk z) x xs h))
    where
      pick : (b : Bool) → Each (EntryOk z) (first_of_each seen xs) → Each (EntryOk z) (first_of_each (x ∷ seen) xs) → Each (EntryOk z) (cond b (first_of_each seen xs) (x ∷ first_of_each (x ∷ seen) xs))
      pick true a b = a
      pick false a b = each_cons (EntryOk z) x (first_of_each (x ∷ seen) xs) (h zero x refl) b

  rows_ok : (xs : List (Entry Value)) → Each (EntryOk z) xs → Each (λ (row : Value × Value). Valid z row.0 × Valid z row.1) (map row_of_entry xs)
  rows_ok [] h = each_none (λ (row : Value × Value). Valid z row.0 × Valid z row.1)
  rows_ok (x ∷ xs) h = each_cons (λ (row : Value × Value). Valid z row.0 × Valid z row.1) (row_of_entry x) (map row_of_entry xs) (h zero x refl) (rows_ok xs (each_tail (EntryOk z) x xs h))

  table_ok : (xs : List (Entry Value)) → Each (EntryOk z) xs → TableOk z (table_of xs)
  table_ok xs h = record { rows = rows_ok (by_name xs) (sorted_ok xs h); metatable = tt }

-- what stands in the libraries

abbrev is_short : {A : Type 0} → Entry A → Bool
is_short e = nat_le (length e.name) 16

short_name : {A : Type 0} (e : Entry A) → IsTrue (is_short e) → length e.name ≤ greatest_string
short_name e h = let k = le_of (length e.name) 16 h in omega arith

entry_names : IsTrue (list_all is_short all_entries)
entry_names = refl

-- one of the eight tables
abbrev is_table : Value → Bool
is_table (object a_table n) = nat_lt n 8
is_table _ = false

abbrev is_table_entry : Entry Value → Bool
is_table_entry e = is_short e && is_table e.entry

table_there : (z : Sizes) (v : Value) → 8 ≤ z.tables → IsTrue (is_table v) → Valid z v
table_there z (object a_table n) l h = let k = lt_of n 8 h in omega arith
table_there z _ l h = absurd (cc)

tables_ok : (z : Sizes) (es : List (Entry Value)) → 8 ≤ z.tables → IsTrue (list_all is_table_entry es) → Each (EntryOk z) es
tables_ok z [] l h = each_none (EntryOk z)
tables_ok z (e ∷ es) l h =
    let b = both_of (is_table_entry e) (list_all is_table_entry es) h in
    let c = both_of (is_short e) (is_table e.entry) b.0 in
    each_cons (EntryOk z) e es (short_name e c.0, table_there z e.entry l c.1) (tables_ok z es l b.1)

all_tables : IsTrue (list_all is_table_entry library_tables)
all_tables = refl

-- a value that is no primitive, and no long string
abbrev is_small : Plain → Bool
is_small (string bytes) = nat_le (length bytes) 16
is_small (primitive n) = false
is_small _ = true

small_ok : (z : Sizes) (p : Plain) → IsTrue (is_small p) → Valid z (known p)
small_ok z (string bytes) h = let k = le_of (length bytes) 16 h in omega arith
small_ok z (primitive n) h = absurd (cc)
small_ok z _ h = tt

abbrev is_small_entry : Entry Plain → Bool
is_small_entry e = is_short e && is_small e.entry

plains_ok : (z : Sizes) (es : List (Entry Plain)) → IsTrue (list_all is_small_entry es) → Each (EntryOk z) (map plain_value es)
plains_ok z [] h = each_none (EntryOk z)
plains_ok z (e ∷ es) h =
    let b = both_of (is_small_entry e) (list_all is_small_entry es) h in
    let c = both_of (is_short e) (is_small e.entry) b.0 in
    each_cons (EntryOk z) (plain_value e) (map plain_value es) (short_name e c.0, small_ok z e.entry c.1) (plains_ok z es b.1)

constants_small : IsTrue (list_all is_small_entry constants)
constants_small = refl

primitives_ok : (z : Sizes) (from : ℕ) (es : List (Entry Primitive)) → IsTrue (list_all is_short es) → from + length es ≤ z.primitives → Each (EntryOk z) (primitives_from from es)
primitives_ok z from [] h l = each_none (EntryOk z)
primitives_ok z from (e ∷ es) h l =
    let b = both_of (is_short e) (list_all is_short es) h in
    each_cons (EntryOk z) _ (primitives_from (suc from) es) (short_name e b.0, omega arith) (primitives_ok z (suc from) es b.1 (omega arith))

functions_ok : (z : Sizes) (from : ℕ) (es : List (Entry Prototype)) → Each (λ (e : Entry Prototype). length e.name ≤ greatest_string) es → from + length es ≤ length z.functions → Each (EntryOk z) (functions_from from es)
functions_ok z from [] h l = each_none (EntryOk z)
functions_ok z from (e ∷ es) h l =
    each_cons (EntryOk z) _ (functions_from (suc from) es) (h zero e refl, omega arith) (functions_ok z (suc from) es (each_tail (λ (e : Entry Prototype). length e.name ≤ greatest_string) e es h) (omega arith))

-- all entries, in a world with enough of everything
record Enough (z : Sizes) (prelude : List (Entry Prototype)) : Type 0 where
  primitives : length all_entries ≤ z.primitives
  tables : 8 ≤ z.tables
  functions : length prelude ≤ length z.functions

module _ (z : Sizes) (prelude : List (Entry Prototype)) (p : PreludeOk prelude) (e : Enough z prelude) where
  values_ok : Each (EntryOk z) (function_values prelude)
  unfolding primitive_values
  values_ok = each_append (EntryOk z) primitive_values (functions_from 0 prelude) (primitives_ok z 0 all_entries entry_names (let k = e.primitives in omega arith)) (functions_ok z 0 prelude p.names (let k = e.functions in omega arith))

  all_ok : Each (EntryOk z) (library_values prelude)
  unfolding constant_values
  all_ok = each_append (EntryOk z) constant_values (function_values prelude)
      (each_append (EntryOk z) library_tables (map plain_value constants) (tables_ok z library_tables e.tables all_tables) (plains_ok z constants constants_small)) values_ok

  library_ok : (l : Library) → TableOk z (library_table l prelude)
  unfolding library_table
  library_ok l = table_ok z (filter (is_in l) (library_values prelude)) (each_filter (EntryOk z) (is_in l) (library_values prelude) all_ok)

  environment_ok : TableOk z (environment prelude)
  unfolding environment
  environment_ok = table_ok z (first_of_each [] (function_values prelude)) (first_ok z [] (function_values prelude) values_ok)

  meta_ok : TableOk z strings_meta
  meta_ok = record { rows = each_one (λ (row : Value × Value). Valid z row.0 × Valid z row.1) (known (string (codes "__index")), object a_table 3) (le_of 7 greatest_string refl, let k = e.tables in omega arith); metatable = tt }

-- the prelude's functions

same_count : (us : List UpDesc) → length (map environment_cell us) ≡ length us
same_count [] = refl
same_count (u ∷ us) = ap suc (same_count us)

first_cells : (us : List UpDesc) → Each (λ c. c < 1) (map environment_cell us)
first_cells [] = each_none (λ c. c < 1)
first_cells (u ∷ us) = each_cons (λ c. c < 1) 0 (map environment_cell us) (omega arith) (first_cells us)

prelude_ok : (z : Sizes) (es : List (Entry Prototype)) → 1 ≤ z.cells → Each (λ (e : Entry Prototype). IsChecked e.entry) es → Each (FunctionOk z) (map prelude_function es)
prelude_ok z [] l h = each_none (FunctionOk z)
prelude_ok z (e ∷ es) l h = each_cons (FunctionOk z) (prelude_function e) (map prelude_function es)
    (record { code = h zero e refl; count = same_count e.entry.own.upvalues; cells = each_on (λ c. c < 1) (λ c. c < z.cells) (λ c k. omega arith) (map environment_cell e.entry.own.upvalues) (first_cells e.entry.own.upvalues) })
    (prelude_ok z es l (each_tail (λ (e : Entry Prototype). IsChecked e.entry) e es h))

numbers_within : (from count most : ℕ) → from + count ≤ most → Each (λ f. f < most) (numbers from count)
numbers_within from zero most l = each_none (λ f. f < most)
numbers_within from (suc count) most l = each_cons (λ f. f < most) from (numbers (suc from) count) (omega arith) (numbers_within (suc from) count most (omega arith))

no_item : {A : Type 0} (i : ℕ) (x : A) → slice_get [] i ≡ Some x → ⊥
no_item i x e = absurd (cc)

functions_length : (es : List (Entry Prototype)) → length (map prelude_function es) ≡ length es
functions_length [] = refl
functions_length (e ∷ es) = ap suc (functions_length es)

pub opening_solid : (prelude : List (Entry Prototype)) → PreludeOk prelude → Solid (length all_entries) (opening prelude)
unfolding opening
opening_solid prelude p =
    let z = sizes (length all_entries) (opening prelude) in
    let l = functions_length prelude in
    let e : Enough z prelude = record { primitives = omega arith; tables = omega arith; functions = omega arith } in
    let t = library_ok z prelude p e in
    record {
      tables = each_eight (TableOk z) (library_table of_globals prelude) (environment prelude) (library_table of_coroutine prelude) (library_table of_string prelude) (library_table of_table prelude) (library_table of_math prelude)
          (library_table of_utf8 prelude) strings_meta (t of_globals) (environment_ok z prelude p e) (t of_coroutine) (t of_string) (t of_table) (t of_math) (t of_utf8) (meta_ok z prelude p e);
      functions = prelude_ok z prelude (omega arith) p.codes;
      cells = each_one (CellOk z []) (closed (object a_table 1)) (omega arith);
      one_each = λ i j co f r a b. absurd (no_open i co f r a);
      coroutines = each_none (CoroutineOk z);
      chain = chain_none None [] (λ co e. cc) (λ co e. cc);
      moving = each_none (Valid z);
      roots = record {
        string_metatable = omega arith;
        globals = omega arith;
        prelude_environment = omega arith;
        prelude_functions = numbers_within 0 (length prelude) (length (map prelude_function prelude)) (omega arith);
        special_key = le_of 9 greatest_string refl;
        main = tt;
      };
    }
  where
    no_open : (i co f r : ℕ) → slice_get (closed (object a_table 1) ∷ []) i ≡ Some (open_at co f r) → ⊥
    no_open zero co f r e = absurd (cc)
    no_open (suc i) co f r e = absurd (cc)

pub opening_idle : (prelude : List (Entry Prototype)) → (opening prelude).chain ≡ []
unfolding opening
opening_idle prelude = refl

pub opening_sound : (prelude : List (Entry Prototype)) → PreludeOk prelude → Sound (length all_entries) (opening prelude)
opening_sound prelude p = record { solid = opening_solid prelude p; rests = idle (opening_idle prelude) }

-- a script begins

nil_count : (count : ℕ) → length (nil_cells count) ≡ count
nil_count zero = refl
nil_count (suc count) = ap suc (nil_count count)

main_count : (globals count : ℕ) → length (main_cells globals count) ≡ count
main_count globals zero = refl
main_count globals (suc count) = ap suc (nil_count count)

pub number_count : (from count : ℕ) → length (numbers from count) ≡ count
number_count from zero = refl
number_count from (suc count) = ap suc (number_count (suc from) count)

nil_ok : (z : Sizes) (cos : List Coroutine) (count : ℕ) → Each (CellOk z cos) (nil_cells count)
nil_ok z cos zero = each_none (CellOk z cos)
nil_ok z cos (suc count) = each_cons (CellOk z cos) (closed (known nil)) (nil_cells count) tt (nil_ok z cos count)

main_ok : (z : Sizes) (cos : List Coroutine) (globals count : ℕ) → globals < z.tables → Each (CellOk z cos) (main_cells globals count)
main_ok z cos globals zero l = each_none (CellOk z cos)
main_ok z cos globals (suc count) l = each_cons (CellOk z cos) (closed (object a_table globals)) (nil_cells count) l (nil_ok z cos count)

nil_shut : (count i co f r : ℕ) → slice_get (nil_cells count) i ≡ Some (open_at co f r) → ⊥
nil_shut zero i co f r e = absurd (cc)
nil_shut (suc count) zero co f r e = absurd (cc)
nil_shut (suc count) (suc i) co f r e = nil_shut count i co f r e

main_shut : (globals count i co f r : ℕ) → slice_get (main_cells globals count) i ≡ Some (open_at co f r) → ⊥
main_shut globals zero i co f r e = absurd (cc)
main_shut globals (suc count) zero co f r e = absurd (cc)
main_shut globals (suc count) (suc i) co f r e = nil_shut count i co f r e

-- an open cell is one of those before
open_before : (cs ds : List Cell) → ((i co f r : ℕ) → slice_get ds i ≡ Some (open_at co f r) → ⊥) → (i co f r : ℕ) → slice_get (cs ++ ds) i ≡ Some (open_at co f r) → slice_get cs i ≡ Some (open_at co f r)
open_before [] ds shut i co f r e = absurd (shut i co f r e)
open_before (c ∷ cs) ds shut zero co f r e = e
open_before (c ∷ cs) ds shut (suc i) co f r e = open_before cs ds shut i co f r e

module _ (n : ℕ) (W : World) (main : Prototype) (s : Solid n W) (still : W.chain ≡ []) (checked : IsChecked main) where
  abbrev count : ℕ
  count = length main.own.upvalues

  abbrev V : World
  V = with_main W main

  grows : Grows (sizes n W) (sizes n V)
  grows = record {
    primitives = refl;
    tables = omega arith;
    some = (let l = length-append W.functions (main_function W main ∷ []) in omega arith);
    functions = λ i f e. get_push_old W.functions (main_function W main ∷ []) i f e;
    cells = (let l = length-append W.cells (main_cells W.globals count) in omega arith);
    coroutines = (let l = length-append W.coroutines (fresh (object a_function (length W.functions)) ∷ []) in omega arith);
  }

  cell_more : (c : Cell) → CellOk (sizes n W) W.coroutines c → CellOk (sizes n V) V.coroutines c
  cell_more (closed x) h = valid_on (sizes n W) (sizes n V) grows x h
  cell_more (open_at co g r) h = subst (λ m. r < m) (sym (rw (get_front W.coroutines (fresh (object a_function (length W.functions)) ∷ []) co (coroutine_within W.coroutines co g r h), registers_of) refl)) h

  function_new : FunctionOk (sizes n V) (main_function W main)
  function_new = record {
    code = checked;
    count = number_count (length W.cells) count;
    cells = numbers_within (length W.cells) count (length V.cells) (let a = length-append W.cells (main_cells W.globals count) in let b = main_count W.globals count in omega arith);
  }

  nobody : (co : ℕ) → slice_get (map standing W.coroutines) co ≡ Some runs → ⊥
  nobody co e = let k = s.chain.running_in co e in no_item k.0 co (subst (λ ch. slice_get ch k.0 ≡ Some co) still k.1)

  nobody_else : (co : ℕ) → slice_get (map standing W.coroutines) co ≡ Some resumed_another → ⊥
  nobody_else co e = let k = s.chain.normal_in co e in no_item k.0 co (subst (λ ch. slice_get ch k.0 ≡ Some co) still k.1)

  chain_new : ChainOk (Some (length W.coroutines)) (map standing V.coroutines) W.chain
  chain_new = subst (λ st. ChainOk (Some (length W.coroutines)) st W.chain) (sym (map-append standing W.coroutines (fresh (object a_function (length W.functions)) ∷ [])))
      (chain_beside (Some (length W.coroutines)) (map standing W.coroutines) W.chain (record { first = λ co e. absurd (no_item 0 co (subst (λ ch. slice_get ch 0 ≡ Some co) still e)); last_runs = s.chain.last_runs; before = s.chain.before; running_in = s.chain.running_in; normal_in = s.chain.normal_in; once = s.chain.once; bound = s.chain.bound }))

  solid_new : Solid n V
  solid_new =
      let z = sizes n W in
      let y = sizes n V in
      let shut = main_shut W.globals count in
      record {
        tables = each_on (TableOk z) (TableOk y) (table_on z y grows) W.heap.tables s.tables;
        functions = each_push (FunctionOk y) W.functions (main_function W main) (each_on (FunctionOk z) (FunctionOk y) (function_on z y grows) W.functions s.functions) function_new;
        cells = each_append (CellOk y V.coroutines) W.cells (main_cells W.globals count) (each_on (CellOk z W.coroutines) (CellOk y V.coroutines) cell_more W.cells s.cells) (main_ok y V.coroutines W.globals count s.roots.globals);
        one_each = λ i j co f r a b. s.one_each i j co f r (open_before W.cells (main_cells W.globals count) shut i co f r a) (open_before W.cells (main_cells W.globals count) shut j co f r b);
        coroutines = each_push (CoroutineOk y) W.coroutines (fresh (object a_function (length W.functions))) (each_on (CoroutineOk z) (CoroutineOk y) (coroutine_on z y grows) W.coroutines s.coroutines)
            (let l = length-append W.functions (main_function W main ∷ []) in omega arith, refl);
        chain = chain_new;
        moving = each_none (Valid y);
        roots = record {
          string_metatable = s.roots.string_metatable;
          globals = s.roots.globals;
          prelude_environment = s.roots.prelude_environment;
          prelude_functions = each_on (λ f. f < length W.functions) (λ f. f < length V.functions) (λ f k. let l = length-append W.functions (main_function W main ∷ []) in omega arith) W.prelude_functions s.roots.prelude_functions;
          special_key = s.roots.special_key;
          main = (let l = length-append W.coroutines (fresh (object a_function (length W.functions)) ∷ []) in omega arith);
        };
      }

pub begun_sound : (n : ℕ) (W : World) (main : Prototype) → Sound n W → W.chain ≡ [] → IsChecked main → Sound n (begun W main)
unfolding begun
begun_sound n W main s still checked = record { solid = solid_new n W main s.solid still checked; rests = idle still }

pub begun_may_turn : (W : World) (main : Prototype) → W.chain ≡ [] → MayTurn (begun W main)
unfolding begun
begun_may_turn W main still = record {
  idle = still;
  main = length W.coroutines;
  is_main = refl;
  coroutine = fresh (object a_function (length W.functions));
  there = get_push_new W.coroutines (fresh (object a_function (length W.functions)));
  waits = refl;
}

-- a line is handed over

handed_solid : (n : ℕ) (W : World) (line : List ℕ) → Solid n W → length line ≤ greatest_string → Solid n (record W { moving = known (string line) ∷ [] })
handed_solid n W line s l = moving_solid n W (known (string line) ∷ []) W.fuel s (each_one (Valid (sizes n W)) (known (string line)) l)

pub handed_sound : (n : ℕ) (W : World) (line : List ℕ) → Sound n W → W.chain ≡ [] → length line ≤ greatest_string → Sound n (handed_line W line)
unfolding handed_line
handed_sound n W line s still l = record { solid = handed_solid n W line s.solid l; rests = idle still }

pub handed_may_turn : (W : World) (line : List ℕ) → MayTurn W → MayTurn (handed_line W line)
unfolding handed_line
handed_may_turn W line t = record { idle = t.idle; main = t.main; is_main = t.is_main; coroutine = t.coroutine; there = t.there; waits = t.waits }

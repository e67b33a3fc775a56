-- The world of the libraries, and one in which a script begins: no value that a script reaches is the environment.
use Rattle.std.proofs.Common.{ℕ, zero, suc, ◌+◌, ◌<◌, ◌≡◌, ⊎_elim, List, [], ◌∷◌, ◌++◌, Some, None, refl, subst, sym, ap, ◌∙◌, length, map, filter, arith, Bool, true, false, cond}
use Rattle.std.specs.Prelude.{slice_get, nat_eq, not, IsTrue, codes}
use Rattle.std.specs.List.{list_all, list_any}
use Rattle.std.proofs.lemmas.Bool.Decides.{nat_tests}
use Rattle.int_core.specs.Value.{Plain, nil, string, a_table, a_function, Value, known, object}
use Rattle.int_core.specs.Operations.{before}
use Rattle.code_core.specs.Prototype.{Prototype}
use Rattle.library_rows.specs.Library.{Library, of_globals, of_coroutine, of_string, of_table, of_math, of_utf8, Primitive, Entry, all_entries, constants}
use Rattle.lua_meaning.specs.Libraries.{environment_table, library_tables, plain_value, primitives_from, functions_from, primitive_values, constant_values, function_values, library_values, put_by_name, by_name, row_of_entry, table_of, is_in, library_table, is_named, first_of_each, environment, strings_meta}
use Rattle.machine_core.specs.World.{Function, closed, fresh, World}
use Rattle.machine_sound.specs.Sound.{Each}
use Rattle.machine_sound.proofs.Lists.{each_none, each_one, each_cons, each_tail, each_append, each_push, each_filter, each_on, get_within, get_push_old, get_push_new, push_cases, map_get, get_map, each_eight}
use Rattle.machine_sound.proofs.Values.{both_of}
use Rattle.list_laws.proofs.Items.{length_more}
use Rattle.machine_runs.specs.Opening.{numbers, prelude_function, opening, nil_cells, main_cells, main_function, with_main, begun, handed_line}
use Rattle.prelude_stays.specs.Guards.{Guard, unguarded, guard_with, free}
use Rattle.prelude_stays.specs.Kept.{Home, Apart, RowOk, TableOk, CoroutineOk, IsApart, FunctionOk, Keeps}
use Rattle.prelude_guard.specs.Checks.{held_of}
use Rattle.prelude_stays.specs.Laws.{home_of, PreludeGuarded}
use Rattle.prelude_stays.proofs.Cells.{cell_on}
use Rattle.prelude_stays.proofs.Worlds.{moving_keeps}
use Rattle.prelude_stays.proofs.Coroutines.{get_push}
use Rattle.prelude_stays.proofs.Growing.{coroutine_more, cell_more}
use Rattle.prelude_stays.proofs.Guarded.{guarded_of}

-- tables of entries

abbrev EntryOk : Entry Value → Type 0
EntryOk e = Apart environment_table e.entry

put_ok : (x : Entry Value) (xs : List (Entry Value)) → EntryOk x → Each EntryOk xs → Each EntryOk (put_by_name x xs)
put_ok x [] p h = each_one EntryOk x p
put_ok x (y ∷ ys) p h = pick (before x.name y.name) (put_ok x ys p (each_tail EntryOk y ys h))
  where
    pick : (b : Bool) → Each EntryOk (put_by_name x ys) → Each EntryOk (cond b (x ∷ y ∷ ys) (y ∷ put_by_name x ys))
    pick true k = each_cons EntryOk x (y ∷ ys) p h
    pick false k = each_cons EntryOk y (put_by_name x ys) (h zero y refl) k

sorted_ok : (xs : List (Entry Value)) → Each EntryOk xs → Each EntryOk (by_name xs)
sorted_ok [] h = h
sorted_ok (x ∷ xs) h = put_ok x (by_name xs) (h zero x refl) (sorted_ok xs (each_tail EntryOk x xs h))

first_ok : (seen xs : List (Entry Value)) → Each EntryOk xs → Each EntryOk (first_of_each seen xs)
first_ok seen [] h = h
first_ok seen (x ∷ xs) h = pick (list_any (is_named x.name) seen) (first_ok seen xs (each_tail EntryOk x xs h)) (first_ok (x ∷ seen) xs (each_tail EntryOk x xs h))
  where
    pick : (b : Bool) → Each EntryOk (first_of_each seen xs) → Each EntryOk (first_of_each (x ∷ seen) xs) → Each EntryOk (cond b (first_of_each seen xs) (x ∷ first_of_each (x ∷ seen) xs))
    pick true a b = a
    pick false a b = each_cons EntryOk x (first_of_each (x ∷ seen) xs) (h zero x refl) b

rows_ok : (xs : List (Entry Value)) → Each EntryOk xs → Each (RowOk environment_table) (map row_of_entry xs)
rows_ok [] h = each_none (RowOk environment_table)
rows_ok (x ∷ xs) h = each_cons (RowOk environment_table) (row_of_entry x) (map row_of_entry xs) (tt, h zero x refl) (rows_ok xs (each_tail EntryOk x xs h))

table_ok : (xs : List (Entry Value)) → Each EntryOk xs → TableOk environment_table (table_of xs)
table_ok xs h = record { rows = rows_ok (by_name xs) (sorted_ok xs h); metatable = tt }

plains_ok : (es : List (Entry Plain)) → Each EntryOk (map plain_value es)
plains_ok [] = each_none EntryOk
plains_ok (e ∷ es) = each_cons EntryOk (plain_value e) (map plain_value es) tt (plains_ok es)

primitives_ok : (from : ℕ) (es : List (Entry Primitive)) → Each EntryOk (primitives_from from es)
primitives_ok from [] = each_none EntryOk
primitives_ok from (e ∷ es) = each_cons EntryOk _ (primitives_from (suc from) es) tt (primitives_ok (suc from) es)

functions_ok : (from : ℕ) (es : List (Entry Prototype)) → Each EntryOk (functions_from from es)
functions_ok from [] = each_none EntryOk
functions_ok from (e ∷ es) = each_cons EntryOk _ (functions_from (suc from) es) tt (functions_ok (suc from) es)

-- of the libraries' tables none is it
abbrev is_other : Value → Bool
is_other (object a_table n) = not (nat_eq n environment_table)
is_other v = true

other_apart : (v : Value) → IsTrue (is_other v) → Apart environment_table v
other_apart (object a_table n) h = λ q. by (nat_eq n environment_table) refl h q
  where
    by : (b : Bool) → nat_eq n environment_table ≡ b → IsTrue (not b) → n ≡ environment_table → ⊥
    by true e h q = cc
    by false e h q = grind (arith, nat_tests)
other_apart _ h = tt

others_ok : (es : List (Entry Value)) → IsTrue (list_all (λ (e : Entry Value). is_other e.entry) es) → Each EntryOk es
others_ok [] h = each_none EntryOk
others_ok (e ∷ es) h = let b = both_of (is_other e.entry) (list_all (λ (e : Entry Value). is_other e.entry) es) h in each_cons EntryOk e es (other_apart e.entry b.0) (others_ok es b.1)

all_other : IsTrue (list_all (λ (e : Entry Value). is_other e.entry) library_tables)
all_other = refl

module _ (prelude : List (Entry Prototype)) where
  values_ok : Each EntryOk (function_values prelude)
  unfolding primitive_values
  values_ok = each_append EntryOk primitive_values (functions_from 0 prelude) (primitives_ok 0 all_entries) (functions_ok 0 prelude)

  all_ok : Each EntryOk (library_values prelude)
  unfolding constant_values
  all_ok = each_append EntryOk constant_values (function_values prelude) (each_append EntryOk library_tables (map plain_value constants) (others_ok library_tables all_other) (plains_ok constants)) values_ok

  library_ok : (l : Library) → TableOk environment_table (library_table l prelude)
  unfolding library_table
  library_ok l = table_ok (filter (is_in l) (library_values prelude)) (each_filter EntryOk (is_in l) (library_values prelude) all_ok)

  environment_ok : TableOk environment_table (environment prelude)
  unfolding environment
  environment_ok = table_ok (first_of_each [] (function_values prelude)) (first_ok [] (function_values prelude) values_ok)

  environment_bare : (environment prelude).metatable ≡ None
  unfolding environment
  environment_bare = refl

  meta_ok : TableOk environment_table strings_meta
  meta_ok = record { rows = each_one (RowOk environment_table) (known (string (codes "__index")), object a_table 3) (tt, other_apart (object a_table 3) refl); metatable = tt }

-- the world before a script

abbrev pub guard_of : Entry Prototype → Guard
guard_of e = guard_with (held_of e.entry e.entry false) e.entry.own.code

map_length : {A B : Type 0} (f : A → B) (xs : List A) → length (map f xs) ≡ length xs
map_length f [] = refl
map_length f (x ∷ xs) = ap suc (map_length f xs)

pub opening_keeps : (prelude : List (Entry Prototype)) → PreludeGuarded prelude → Keeps (home_of prelude) (map guard_of prelude) (opening prelude)
unfolding opening
opening_keeps prelude g = record {
  count = map_length guard_of prelude ∙ sym (map_length prelude_function prelude);
  heap = record {
    made = refl;
    bare = environment_bare prelude;
    tables = each_eight (TableOk environment_table) (library_table of_globals prelude) (environment prelude) (library_table of_coroutine prelude) (library_table of_string prelude) (library_table of_table prelude)
        (library_table of_math prelude) (library_table of_utf8 prelude) strings_meta (library_ok prelude of_globals) (environment_ok prelude) (library_ok prelude of_coroutine) (library_ok prelude of_string) (library_ok prelude of_table)
        (library_ok prelude of_math) (library_ok prelude of_utf8) (meta_ok prelude);
    strings = other_apart (object a_table 7) refl;
  };
  functions = functions;
  cell = refl;
  globals = other_apart (object a_table 0) refl;
  coroutines = each_none (CoroutineOk environment_table (map guard_of prelude));
  moving = each_none (Apart environment_table);
}
  where
    functions : (n : ℕ) (f : Function) → slice_get (map prelude_function prelude) n ≡ Some f → FunctionOk (home_of prelude) (map guard_of prelude) (opening prelude) n f
    functions n f e =
        let (x, is, same) = map_get prelude_function prelude n f e in
        subst (FunctionOk (home_of prelude) (map guard_of prelude) (opening prelude) n) same (record {
          guard = guard_of x;
          there = get_map guard_of prelude n x is;
          code = guarded_of x.entry (g n x is);
          cells = λ i c a b. absurd (cc);
          apart = λ l. absurd (let k = get_within prelude n x is in omega (arith, l, k));
        })

-- a script begins

numbered : (from count i c : ℕ) → slice_get (numbers from count) i ≡ Some c → (c ≡ from + i) × (i < count)
numbered from zero i c e = absurd (cc)
numbered from (suc count) zero c e = let k : from ≡ c = cc in (omega (arith, k), omega arith)
numbered from (suc count) (suc i) c e = let k = numbered (suc from) count i c e in (let a = k.0 in omega (arith, a), let b = k.1 in omega (arith, b))

nil_there : (count i : ℕ) → i < count → slice_get (nil_cells count) i ≡ Some (closed (known nil))
nil_there zero i l = absurd (omega (arith, l))
nil_there (suc count) zero l = refl
nil_there (suc count) (suc i) l = nil_there count i (omega (arith, l))

behind_get : {A : Type 0} (xs ys : List A) (n i : ℕ) (x : A) → n ≡ length xs + i → slice_get ys i ≡ Some x → slice_get (xs ++ ys) n ≡ Some x
behind_get [] ys n i x e h = subst (λ n. slice_get ys n ≡ Some x) (let k : i ≡ n = omega (arith, e) in k) h
behind_get (z ∷ xs) ys zero i x e h = absurd (omega (arith, e))
behind_get (z ∷ xs) ys (suc n) i x e h = behind_get xs ys n i x (omega (arith, e)) h

module _ (y : Home) (gs : List Guard) (W : World) (k : Keeps y gs W) (main : Prototype) where
  abbrev count : ℕ
  count = length main.own.upvalues

  abbrev V : World
  V = with_main W main

  carries : (c : ℕ) → IsApart y.table gs W.coroutines W.cells c → IsApart y.table (gs ++ unguarded ∷ []) V.coroutines V.cells c
  carries c h = record {
    cell = h.cell;
    there = get_push_old W.cells (main_cells W.globals count) c h.cell h.there;
    right = cell_more y.table gs (unguarded ∷ []) V.coroutines h.cell (cell_on y.table gs W.coroutines V.coroutines (get_push y gs W.coroutines (fresh (object a_function (length W.functions)))) h.cell h.right);
  }

  -- the new cells are closed, and hold the globals and nil
  main_there : (m i : ℕ) → i < m → (v : Value) × (slice_get (main_cells W.globals m) i ≡ Some (closed v)) × Apart y.table v
  main_there zero i l = absurd (omega (arith, l))
  main_there (suc m) zero l = (object a_table W.globals, refl, k.globals)
  main_there (suc m) (suc i) l = (known nil, nil_there m i (omega (arith, l)), tt)

  new_ok : FunctionOk y (gs ++ unguarded ∷ []) V (length W.functions) (main_function W main)
  new_ok = record {
    guard = unguarded;
    there = ap (slice_get (gs ++ unguarded ∷ [])) (sym k.count) ∙ get_push_new gs unguarded;
    code = free main;
    cells = λ i c e h.
        let n = numbered (length W.cells) count i c e in
        let m = main_there count i n.1 in
        record { cell = closed m.0; there = behind_get W.cells (main_cells W.globals count) c i (closed m.0) n.0 m.1; right = m.2 };
    apart = λ l i c e q. let n = (numbered (length W.cells) count i c e).0 in let w = get_within W.cells y.cell (closed (object a_table y.table)) k.cell in absurd (omega (arith, n, w, q));
  }

  old_ok : (n : ℕ) (f : Function) → FunctionOk y gs W n f → FunctionOk y (gs ++ unguarded ∷ []) V n f
  old_ok n f h = record { guard = h.guard; there = get_push_old gs (unguarded ∷ []) n h.guard h.there; code = h.code; cells = λ i c a b. carries c (h.cells i c a b); apart = h.apart }

  pub begun_keeps : Keeps y (gs ++ unguarded ∷ []) (begun W main)
  unfolding begun
  begun_keeps = record {
    count = length_more gs unguarded ∙ ap suc k.count ∙ sym (length_more W.functions (main_function W main));
    heap = k.heap;
    functions = λ n f e. ⊎_elim (λ a. old_ok n f (k.functions n f a))
        (λ a. subst (FunctionOk y (gs ++ unguarded ∷ []) V n) a.1 (subst (λ n. FunctionOk y (gs ++ unguarded ∷ []) V n (main_function W main)) (sym a.0) new_ok)) (push_cases W.functions (main_function W main) f n e);
    cell = get_push_old W.cells (main_cells W.globals count) y.cell (closed (object a_table y.table)) k.cell;
    globals = k.globals;
    coroutines = each_push (CoroutineOk y.table (gs ++ unguarded ∷ [])) W.coroutines (fresh (object a_function (length W.functions)))
        (each_on (CoroutineOk y.table gs) (CoroutineOk y.table (gs ++ unguarded ∷ [])) (coroutine_more y.table gs (unguarded ∷ [])) W.coroutines k.coroutines) tt;
    moving = each_none (Apart y.table);
  }

pub handed_keeps : (y : Home) (gs : List Guard) (W : World) (line : List ℕ) → Keeps y gs W → Keeps y gs (handed_line W line)
unfolding handed_line
handed_keeps y gs W line k = moving_keeps y gs W (known (string line) ∷ []) k (each_one (Apart y.table) (known (string line)) tt)

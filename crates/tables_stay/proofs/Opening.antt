-- The tables of the libraries: no name stands twice in one.
use Rattle.std.proofs.Common.{ℕ, zero, suc, ◌≡◌, List, [], ◌∷◌, ◌++◌, refl, subst, sym, ap, ◌∙◌, length, map, take, filter, Bool, true, false, cond, not, true≢false, append_assoc}
use Rattle.std.specs.Prelude.{◌&&◌, bytes_eq, codes}
use Rattle.std.specs.List.{list_any, AllByRecursion, IsDistinct}
use Rattle.std.specs.Map.{keys_of}
use Rattle.std.proofs.lemmas.Bool.{and_parts, or_parts, not-true}
use Rattle.std.proofs.lemmas.List.{map-append}
use Rattle.std.proofs.lemmas.Slice.Eq.{bytes_eq-Decides}
use Rattle.int_core.specs.Rows.{has_row}
use Rattle.int_core.specs.Value.{nil, string, Value, known, same, table_values}
use Rattle.int_core.specs.Heap.{Table}
use Rattle.int_core.specs.Operations.{before}
use Rattle.code_core.specs.Prototype.{Prototype}
use Rattle.library_rows.specs.Library.{Library, of_globals, of_coroutine, of_string, of_table, of_math, of_utf8, Entry}
use Rattle.library_rows.specs.PreludeText.{prelude_functions}
use Rattle.lua_meaning.specs.Libraries.{functions_from, primitive_values, constant_values, function_values, library_values, same_library, put_by_name, by_name, row_of_entry, table_of, is_in, library_table, is_named, first_of_each, environment, strings_meta}
use Rattle.lua_meaning.specs.Opening.{entries_of, prelude_of}
use Rattle.machine_core.specs.PrimitiveRows.{row_numbered, load_row}
use Rattle.machine_sound.specs.Sound.{Each}
use Rattle.machine_sound.proofs.Lists.{each_none, each_cons}
use Rattle.machine_runs.specs.Opening.{opening, begun}
use Rattle.tables_stay.specs.Laws.{OpeningHasTables, BegunKeeps, ScriptsHaveTables}
use Rattle.tables_stay.proofs.Heaps.{IsTable}
use Rattle.tables_stay.proofs.Rows.{library_keeps, loads_keep}
use Rattle.tables_stay.proofs.Runs.{runs_keep}

flipped : (s t : List ℕ) → bytes_eq s t ≡ false → bytes_eq t s ≡ false
flipped s t h = by (bytes_eq t s) refl
  where
    by : (b : Bool) → bytes_eq t s ≡ b → b ≡ false
    by false e = refl
    by true e = absurd (true≢false (sym ((bytes_eq-Decides s t).1 (sym ((bytes_eq-Decides t s).0 e))) ∙ h))

-- entries of which no two have one name

abbrev IsNew : List ℕ → List (Entry Value) → Type 0
IsNew name [] = Unit {0}
IsNew name (e ∷ es) = (bytes_eq name e.name ≡ false) × IsNew name es

abbrev Apart : List (Entry Value) → Type 0
Apart [] = Unit {0}
Apart (e ∷ es) = IsNew e.name es × Apart es

put_new : (name : List ℕ) (x : Entry Value) (xs : List (Entry Value)) → bytes_eq name x.name ≡ false → IsNew name xs → IsNew name (put_by_name x xs)
put_new name x [] h k = (h, tt)
put_new name x (y ∷ ys) h k = pick (before x.name y.name) (put_new name x ys h k.1)
  where
    pick : (b : Bool) → IsNew name (put_by_name x ys) → IsNew name (cond b (x ∷ y ∷ ys) (y ∷ put_by_name x ys))
    pick true r = (h, k)
    pick false r = (k.0, r)

put_apart : (x : Entry Value) (xs : List (Entry Value)) → IsNew x.name xs → Apart xs → Apart (put_by_name x xs)
put_apart x [] h k = (tt, tt)
put_apart x (y ∷ ys) h k = pick (before x.name y.name) (put_apart x ys h.1 k.1)
  where
    pick : (b : Bool) → Apart (put_by_name x ys) → Apart (cond b (x ∷ y ∷ ys) (y ∷ put_by_name x ys))
    pick true r = (h, k)
    pick false r = (put_new y.name x ys (flipped x.name y.name h.0) k.0, r)

sorted_new : (name : List ℕ) (xs : List (Entry Value)) → IsNew name xs → IsNew name (by_name xs)
sorted_new name [] h = tt
sorted_new name (x ∷ xs) h = put_new name x (by_name xs) h.0 (sorted_new name xs h.1)

sorted_apart : (xs : List (Entry Value)) → Apart xs → Apart (by_name xs)
sorted_apart [] h = tt
sorted_apart (x ∷ xs) h = put_apart x (by_name xs) (sorted_new x.name xs h.0) (sorted_apart xs h.1)

keys_new : (name : List ℕ) (es : List (Entry Value)) → IsNew name es → AllByRecursion (λ key. same (known (string name)) key ≡ false) (keys_of (map row_of_entry es))
keys_new name [] h = tt
keys_new name (e ∷ es) h = (h.0, keys_new name es h.1)

keys_apart : (es : List (Entry Value)) → Apart es → IsDistinct same (keys_of (map row_of_entry es))
unfolding IsDistinct
keys_apart [] h = tt
keys_apart (e ∷ es) h = (keys_new e.name es h.0, keys_apart es h.1)

no_nil : (es : List (Entry Value)) → has_row table_values (map row_of_entry es) (known nil) ≡ false
no_nil [] = refl
no_nil (e ∷ es) = no_nil es

table_is : (es : List (Entry Value)) → Apart es → IsTable (table_of es)
table_is es h = record { distinct = keys_apart (by_name es) (sorted_apart es h); no_nil = no_nil (by_name es) }

-- the prelude's environment has the first one of each name

seen_new : (s : Entry Value) (seen xs : List (Entry Value)) → ((name : List ℕ) → list_any (is_named name) seen ≡ false → bytes_eq name s.name ≡ false) → IsNew s.name (first_of_each seen xs)
seen_new s seen [] h = tt
seen_new s seen (x ∷ xs) h =
    by (list_any (is_named x.name) seen) refl (seen_new s seen xs h) (seen_new s (x ∷ seen) xs (λ name e. h name (or_parts (is_named name x) (list_any (is_named name) seen) e).1))
  where
    by : (b : Bool) → list_any (is_named x.name) seen ≡ b → IsNew s.name (first_of_each seen xs) → IsNew s.name (first_of_each (x ∷ seen) xs) → IsNew s.name (cond b (first_of_each seen xs) (x ∷ first_of_each (x ∷ seen) xs))
    by true e p q = p
    by false e p q = (flipped x.name s.name (h x.name e), q)

first_apart : (seen xs : List (Entry Value)) → Apart (first_of_each seen xs)
first_apart seen [] = tt
first_apart seen (x ∷ xs) = by (list_any (is_named x.name) seen) (first_apart seen xs) (first_apart (x ∷ seen) xs)
  where
    by : (b : Bool) → Apart (first_of_each seen xs) → Apart (first_of_each (x ∷ seen) xs) → Apart (cond b (first_of_each seen xs) (x ∷ first_of_each (x ∷ seen) xs))
    by true p q = p
    by false p q = (seen_new x (x ∷ seen) xs (λ name e. (or_parts (is_named name x) (list_any (is_named name) seen) e).0), q)

-- the other tables, by names and the libraries where they stand

abbrev Place : Type 0
Place = List ℕ × Library

abbrev place_of : Entry Value → Place
place_of e = (e.name, e.library)

abbrev names_in : Library → List Place → List (List ℕ)
names_in l [] = []
names_in l (p ∷ ps) = cond (same_library l p.1) (p.0 ∷ names_in l ps) (names_in l ps)

abbrev are_apart : List (List ℕ) → Bool
are_apart [] = true
are_apart (n ∷ ns) = not (list_any (bytes_eq n) ns) && are_apart ns

new_in : (l : Library) (name : List ℕ) (es : List (Entry Value)) → list_any (bytes_eq name) (names_in l (map place_of es)) ≡ false → IsNew name (filter (is_in l) es)
new_in l name [] h = tt
new_in l name (e ∷ es) h = by (same_library l e.library) h (new_in l name es)
  where
    rest : List (List ℕ)
    rest = names_in l (map place_of es)

    by : (b : Bool) → list_any (bytes_eq name) (cond b (e.name ∷ rest) rest) ≡ false → (list_any (bytes_eq name) rest ≡ false → IsNew name (filter (is_in l) es)) → IsNew name (cond b (e ∷ filter (is_in l) es) (filter (is_in l) es))
    by true h k = ((or_parts (bytes_eq name e.name) (list_any (bytes_eq name) rest) h).0, k (or_parts (bytes_eq name e.name) (list_any (bytes_eq name) rest) h).1)
    by false h k = k h

apart_in : (l : Library) (es : List (Entry Value)) → are_apart (names_in l (map place_of es)) ≡ true → Apart (filter (is_in l) es)
apart_in l [] h = tt
apart_in l (e ∷ es) h = by (same_library l e.library) h (apart_in l es)
  where
    rest : List (List ℕ)
    rest = names_in l (map place_of es)

    by : (b : Bool) → are_apart (cond b (e.name ∷ rest) rest) ≡ true → (are_apart rest ≡ true → Apart (filter (is_in l) es)) → Apart (cond b (e ∷ filter (is_in l) es) (filter (is_in l) es))
    by true h k =
        let both = and_parts (not (list_any (bytes_eq e.name) rest)) (are_apart rest) h in
        (new_in l e.name es (not-true (list_any (bytes_eq e.name) rest) both.0), k both.1)
    by false h k = k h

-- where they are apart, so they are among fewer functions of the prelude

new_still : (b : Bool) (n : List ℕ) (xs ys : List (List ℕ)) (test : List ℕ → Bool) → list_any test (cond b (n ∷ xs) xs) ≡ false → (list_any test xs ≡ false → list_any test ys ≡ false) → list_any test (cond b (n ∷ ys) ys) ≡ false
new_still true n xs ys test h k = rw ((or_parts (test n) (list_any test xs) h).0) (k (or_parts (test n) (list_any test xs) h).1)
new_still false n xs ys test h k = k h

fewer_new : (l : Library) (name : List ℕ) (front ps : List Place) (n : ℕ) → list_any (bytes_eq name) (names_in l (front ++ ps)) ≡ false → list_any (bytes_eq name) (names_in l (front ++ take n ps)) ≡ false
fewer_new l name [] ps zero h = refl
fewer_new l name [] [] (suc n) h = refl
fewer_new l name [] (p ∷ ps) (suc n) h = new_still (same_library l p.1) p.0 (names_in l ps) (names_in l (take n ps)) (bytes_eq name) h (fewer_new l name [] ps n)
fewer_new l name (f ∷ front) ps n h = new_still (same_library l f.1) f.0 (names_in l (front ++ ps)) (names_in l (front ++ take n ps)) (bytes_eq name) h (fewer_new l name front ps n)

apart_still : (b : Bool) (n : List ℕ) (xs ys : List (List ℕ)) → are_apart (cond b (n ∷ xs) xs) ≡ true → (are_apart xs ≡ true → are_apart ys ≡ true) → (list_any (bytes_eq n) xs ≡ false → list_any (bytes_eq n) ys ≡ false) → are_apart (cond b (n ∷ ys) ys) ≡ true
apart_still true n xs ys h k new =
    let both = and_parts (not (list_any (bytes_eq n) xs)) (are_apart xs) h in
    rw (new (not-true (list_any (bytes_eq n) xs) both.0)) (k both.1)
apart_still false n xs ys h k new = k h

fewer_apart : (l : Library) (front ps : List Place) (n : ℕ) → are_apart (names_in l (front ++ ps)) ≡ true → are_apart (names_in l (front ++ take n ps)) ≡ true
fewer_apart l [] ps zero h = refl
fewer_apart l [] [] (suc n) h = refl
fewer_apart l [] (p ∷ ps) (suc n) h = apart_still (same_library l p.1) p.0 (names_in l ps) (names_in l (take n ps)) h (fewer_apart l [] ps n) (fewer_new l p.0 [] ps n)
fewer_apart l (f ∷ front) ps n h = apart_still (same_library l f.1) f.0 (names_in l (front ++ ps)) (names_in l (front ++ take n ps)) h (fewer_apart l front ps n) (fewer_new l f.0 front ps n)

-- all of the libraries

function_places : (n : ℕ) (names : List Place) (codes : List Prototype) → map place_of (functions_from n (entries_of names codes)) ≡ take (length codes) names
function_places n [] [] = refl
function_places n [] (p ∷ ps) = refl
function_places n (name ∷ names) [] = refl
function_places n (name ∷ names) (p ∷ ps) = ap (λ l. (name.0, name.1) ∷ l) (function_places (suc n) names ps)

abbrev front : List Place
front = map place_of (constant_values ++ primitive_values)

all_places : (codes : List Prototype) → map place_of (library_values (prelude_of codes)) ≡ front ++ take (length codes) prelude_functions
all_places codes =
    let functions = functions_from 0 (prelude_of codes) in
    ap (map place_of) (sym (append_assoc constant_values primitive_values functions)) ∙ map-append place_of (constant_values ++ primitive_values) functions ∙ ap (λ l. front ++ l) (function_places 0 prelude_functions codes)

all_apart : (l : Library) → are_apart (names_in l (front ++ prelude_functions)) ≡ true
unfolding constant_values primitive_values
all_apart of_globals = refl
all_apart _ = refl

library_is : (l : Library) (codes : List Prototype) → IsTable (library_table l (prelude_of codes))
unfolding library_table
library_is l codes =
    let values = library_values (prelude_of codes) in
    table_is (filter (is_in l) values) (apart_in l values (subst (λ ps. are_apart (names_in l ps) ≡ true) (sym (all_places codes)) (fewer_apart l front prelude_functions (length codes) (all_apart l))))

environment_is : (codes : List Prototype) → IsTable (environment (prelude_of codes))
unfolding environment
environment_is codes = table_is (first_of_each [] (function_values (prelude_of codes))) (first_apart [] (function_values (prelude_of codes)))

meta_is : IsTable strings_meta
unfolding IsDistinct
meta_is = record { distinct = (tt, tt); no_nil = refl }

abbrev AllAre : List Table → Type 0
AllAre [] = Unit {0}
AllAre (t ∷ ts) = IsTable t × AllAre ts

each_is : (ts : List Table) → AllAre ts → Each IsTable ts
each_is [] h = each_none IsTable
each_is (t ∷ ts) h = each_cons IsTable t ts h.0 (each_is ts h.1)

pub opening_has_tables : OpeningHasTables
unfolding opening
opening_has_tables codes =
    each_is (opening (prelude_of codes)).heap.tables
    (library_is of_globals codes, (environment_is codes, (library_is of_coroutine codes, (library_is of_string codes, (library_is of_table codes, (library_is of_math codes, (library_is of_utf8 codes, (meta_is, tt))))))))

-- a script begins

pub begun_keeps : BegunKeeps
unfolding begun
begun_keeps W main h = h

pub scripts_have_tables : ScriptsHaveTables
scripts_have_tables builds codes main input budget r c =
    runs_keep (row_numbered (load_row builds)) (library_keeps (load_row builds) (loads_keep builds)) (begun (opening (prelude_of codes)) main) input budget r (begun_keeps (opening (prelude_of codes)) main (opening_has_tables codes)) c

-- Worlds of the libraries with alike preludes are alike.
use Rattle.std.proofs.Common.{◌≡◌, ℕ, suc, List, [], ◌∷◌, ◌++◌, Some, refl, sym, ◌∙◌, ap}
use Rattle.std.specs.Prelude.{map, filter}
use Rattle.int_core.specs.Value.{Value, object, a_function}
use Rattle.int_core.specs.Heap.{Heap}
use Rattle.tree_core.specs.Tree.{Body}
use Rattle.library_rows.specs.Library.{Library, of_globals, of_coroutine, of_string, of_table, of_math, of_utf8, Entry, entry}
use Rattle.code_core.specs.Prototype.{Prototype}
use Rattle.lua_meaning.specs.Libraries.{functions_from, primitive_values, constant_values, table_of, is_in, library_table, first_of_each, environment, strings_meta, strings_metatable, library_heap}
use Rattle.lua_meaning.specs.Opening.{environment_cells, prelude_function}
use Rattle.lua_meaning.specs.TreeMeaning.{outer_of, tree_opening}
use Rattle.code_means.specs.Runs.{outer_in, code_opening}
use Rattle.runs_alike.specs.Alike.{FunctionsAlike, IsMeantBy, EntriesAlike, WorldsAlike}

-- the tables by what the prelude's functions are in them

abbrev heap_by : List (Entry Value) → Heap
heap_by fs = record {
  tables = table_by of_globals ∷ table_of (first_of_each [] (primitive_values ++ fs)) ∷ table_by of_coroutine ∷ table_by of_string ∷ table_by of_table ∷ table_by of_math ∷ table_by of_utf8 ∷ strings_meta ∷ [];
  string_metatable = Some strings_metatable;
}
  where
    table_by : Library → Rattle.int_core.specs.Heap.Table
    table_by library = table_of (filter (is_in library) (constant_values ++ (primitive_values ++ fs)))

pub heap_is : {F : Type 0} → (prelude : List (Entry F)) → library_heap prelude ≡ heap_by (functions_from 0 prelude)
unfolding library_table environment
heap_is prelude = refl

values_same : (from : ℕ) (xs : List (Entry Body)) (ys : List (Entry Prototype)) → EntriesAlike xs ys → functions_from from xs ≡ functions_from from ys
values_same from [] [] like = refl
values_same from (x ∷ xs) (y ∷ ys) like =
    ap (λ library. entry library x.name (object a_function from) ∷ functions_from (suc from) xs) like.0.library
    ∙ ap (λ name. entry y.library name (object a_function from) ∷ functions_from (suc from) xs) like.0.name
    ∙ ap (λ rest. entry y.library y.name (object a_function from) ∷ rest) (values_same (suc from) xs ys like.1)
values_same from [] (y ∷ ys) like = absurd like
values_same from (x ∷ xs) [] like = absurd like

functions_alike : (xs : List (Entry Body)) (ys : List (Entry Prototype)) → EntriesAlike xs ys → FunctionsAlike IsMeantBy (map (prelude_function outer_of) xs) (map (prelude_function outer_in) ys)
functions_alike [] [] like = tt
functions_alike (x ∷ xs) (y ∷ ys) like = (record { made_of = like.0.meant; source = refl; has_lines = refl; cells = ap environment_cells like.0.outer }, functions_alike xs ys like.1)
functions_alike [] (y ∷ ys) like = absurd like
functions_alike (x ∷ xs) [] like = absurd like

pub openings_alike : (xs : List (Entry Body)) (ys : List (Entry Prototype)) → EntriesAlike xs ys → WorldsAlike IsMeantBy (tree_opening xs) (code_opening ys)
openings_alike xs ys like = record {
  heap = heap_is xs ∙ ap heap_by (values_same 0 xs ys like) ∙ sym (heap_is ys);
  functions = functions_alike xs ys like;
  cells = refl;
  coroutines = (tt, tt);
  globals = refl;
  chain = refl;
}

-- What the permanents reach is the same in all worlds that have the prelude.
use Rattle.std.proofs.Common.{arith, ℕ, zero, suc, ◌+◌, ◌≡◌, ◌<◌, ◌≤◌, Bool, true, false, cond, List, [], ◌∷◌, ◌++◌, Some, None, refl, subst, sym, ◌∙◌, ap, length, map}
use Rattle.std.specs.Prelude.{slice_get, nat_eq, nat_lt}
use Rattle.std.specs.List.{AllZip, list_any}
use Rattle.int_core.specs.Value.{Kind, a_table, a_function, a_coroutine, Value, known, object, primitive}
use Rattle.int_core.specs.Operations.{before}
use Rattle.int_core.specs.Heap.{Table}
use Rattle.code_core.specs.declared.proto.UpDesc.{UpDesc}
use Rattle.code_core.specs.Prototype.{Prototype}
use Rattle.list_laws.proofs.Tests.{eq_true, lt_is, lt_true}
use Rattle.library_rows.specs.Library.{Primitive, Entry, all_entries}
use Rattle.lua_meaning.specs.Libraries.{environment_table, primitives_from, functions_from, primitive_values, function_values, put_by_name, by_name, row_of_entry, is_named, first_of_each, environment}
use Rattle.machine_core.specs.World.{Function, closed, World, OneEach}
use Rattle.machine_alike.specs.Agree.{Pairs, SameNumber, SameCellNumber, Both, SameValue, same_known, same_object, SameRow, SameTable, SameFunction, kept_closed, SameCell, same_content, OneToOne, objects_of, SameObjects}
use Rattle.machine_alike.proofs.Pairwise.{both_from}
use Rattle.machine_sound.proofs.Lists.{get_there}
use Rattle.machine_runs.specs.Opening.{environment_cell, prelude_function}
use Rattle.image_core.proofs.Lists.{Every}
use Rattle.session_images.specs.Prelude.{HasPrelude}
use Rattle.session_images.specs.Saved.{only, below, prelude_pairs}
use Rattle.image_saved.proofs.Names.{some_so}

-- numbers that are paired

pub only_is : (m n j : ℕ) → only m n ≡ Some j → (m ≡ n) × (n ≡ j)
only_is m n j e = by (nat_eq m n) refl e
  where
    by : (b : Bool) → nat_eq m n ≡ b → cond b (Some n) None ≡ Some j → (m ≡ n) × (n ≡ j)
    by true h e = (eq_true m n h, some_so e)
    by false h e = absurd (cc)

pub below_is : (count n j : ℕ) → below count n ≡ Some j → (n < count) × (n ≡ j)
below_is count n j e = by (nat_lt n count) refl e
  where
    by : (b : Bool) → nat_lt n count ≡ b → cond b (Some n) None ≡ Some j → (n < count) × (n ≡ j)
    by true h e = (lt_is n count h, some_so e)
    by false h e = absurd (cc)

pub below_so : (count n : ℕ) → n < count → below count n ≡ Some n
below_so count n h = ap (λ b. cond b (Some n) None) (lt_true n count h)

module _ (count : ℕ) where
  abbrev p : Pairs
  p = prelude_pairs count

  one_to_one : OneToOne p
  one_to_one = record { objects = by; cells = λ i k j a b. let x = only_is 0 i j a in let y = only_is 0 k j b in sym x.0 ∙ y.0 }
    where
      by : (kind : Kind) (i k j : ℕ) → SameNumber p kind i j → SameNumber p kind k j → i ≡ k
      by a_table i k j a b = let x = only_is environment_table i j a in let y = only_is environment_table k j b in sym x.0 ∙ y.0
      by a_function i k j a b = let x = below_is count i j a in let y = below_is count k j b in x.1 ∙ sym y.1
      by a_coroutine i k j a b = absurd (cc)

  -- entries of the environment: primitives, and functions of the prelude

  abbrev Fine : Entry Value → Type 0
  Fine e = SameValue p e.entry e.entry

  primitives_fine : (n : ℕ) (es : List (Entry Primitive)) → Every Fine (primitives_from n es)
  primitives_fine n [] = tt
  primitives_fine n (e ∷ es) = (same_known (primitive n), primitives_fine (suc n) es)

  functions_fine : (n : ℕ) (es : List (Entry Prototype)) → n + length es ≤ count → Every Fine (functions_from n es)
  functions_fine n [] h = tt
  functions_fine n (e ∷ es) h = (same_object a_function n n (below_so count n (omega (arith, h))), functions_fine (suc n) es (omega (arith, h)))

  values_fine : (xs ys : List (Entry Value)) → Every Fine xs → Every Fine ys → Every Fine (xs ++ ys)
  values_fine [] ys h k = k
  values_fine (x ∷ xs) ys h k = (h.0, values_fine xs ys h.1 k)

  put_fine : (x : Entry Value) (xs : List (Entry Value)) → Fine x → Every Fine xs → Every Fine (put_by_name x xs)
  put_fine x [] h k = (h, tt)
  put_fine x (y ∷ ys) h k = by (before x.name y.name) (put_fine x ys h k.1)
    where
      by : (b : Bool) → Every Fine (put_by_name x ys) → Every Fine (cond b (x ∷ y ∷ ys) (y ∷ put_by_name x ys))
      by true m = (h, k)
      by false m = (k.0, m)

  sorted_fine : (xs : List (Entry Value)) → Every Fine xs → Every Fine (by_name xs)
  sorted_fine [] h = tt
  sorted_fine (x ∷ xs) h = put_fine x (by_name xs) h.0 (sorted_fine xs h.1)

  first_fine : (seen xs : List (Entry Value)) → Every Fine xs → Every Fine (first_of_each seen xs)
  first_fine seen [] h = tt
  first_fine seen (x ∷ xs) h = by (list_any (is_named x.name) seen) (first_fine seen xs h.1) (first_fine (x ∷ seen) xs h.1)
    where
      by : (b : Bool) → Every Fine (first_of_each seen xs) → Every Fine (first_of_each (x ∷ seen) xs) → Every Fine (cond b (first_of_each seen xs) (x ∷ first_of_each (x ∷ seen) xs))
      by true m n = m
      by false m n = (h.0, n)

  rows_same : (xs : List (Entry Value)) → Every Fine xs → AllZip (SameRow p) (map row_of_entry xs) (map row_of_entry xs)
  rows_same [] h = tt
  rows_same (x ∷ xs) h = ((same_known _, h.0), rows_same xs h.1)

  cells_same : (us : List UpDesc) → AllZip (SameCellNumber p) (map environment_cell us) (map environment_cell us)
  cells_same [] = tt
  cells_same (u ∷ us) = (refl, cells_same us)

primitives_in : (count : ℕ) → Every (Fine count) primitive_values
unfolding primitive_values
primitives_in count = primitives_fine count 0 all_entries

table_same : (prelude : List (Entry Prototype)) → SameTable (prelude_pairs (length prelude)) (environment prelude) (environment prelude)
unfolding environment
table_same prelude = record {
  rows = rows_same count (by_name (first_of_each [] (function_values prelude)))
      (sorted_fine count (first_of_each [] (function_values prelude))
      (first_fine count [] (function_values prelude)
      (values_fine count primitive_values (functions_from 0 prelude) (primitives_in count) (functions_fine count 0 prelude (omega arith)))));
  metatable = tt;
}
  where
    count : ℕ
    count = length prelude

-- so the objects that are paired are the same

pub prelude_same : (prelude : List (Entry Prototype)) (W V : World) → HasPrelude prelude W → HasPrelude prelude V → OneEach W.cells → OneEach V.cells → SameObjects (prelude_pairs (length prelude)) (objects_of W) (objects_of V)
prelude_same prelude W V w v one other = record {
  one_to_one = one_to_one (length prelude);
  tables = tables;
  functions = functions;
  coroutines = λ i j s. absurd (cc);
  cells = cells;
  one_each = (one, other);
}
  where
    tables : (i j : ℕ) → only environment_table i ≡ Some j → Both (SameTable (prelude_pairs (length prelude))) (slice_get W.heap.tables i) (slice_get V.heap.tables j)
    tables i j s =
        let e = only_is environment_table i j s in
        both_from (SameTable (prelude_pairs (length prelude))) (slice_get W.heap.tables i) (slice_get V.heap.tables j) (environment prelude) (environment prelude)
        (subst (λ n. slice_get W.heap.tables n ≡ Some (environment prelude)) e.0 w.untouched.table) (subst (λ n. slice_get V.heap.tables n ≡ Some (environment prelude)) (e.0 ∙ e.1) v.untouched.table) (table_same prelude)

    functions : (i j : ℕ) → below (length prelude) i ≡ Some j → Both (SameFunction (prelude_pairs (length prelude))) (slice_get W.functions i) (slice_get V.functions j)
    functions i j s =
        let b = below_is (length prelude) i j s in
        let e = get_there prelude i b.0 in
        both_from (SameFunction (prelude_pairs (length prelude))) (slice_get W.functions i) (slice_get V.functions j) (prelude_function e.0) (prelude_function e.0)
        (w.known.functions i e.0 e.1) (subst (λ n. slice_get V.functions n ≡ Some (prelude_function e.0)) b.1 (v.known.functions i e.0 e.1))
        (record { code = refl; cells = cells_same (length prelude) e.0.entry.own.upvalues })

    cells : (i j : ℕ) → only 0 i ≡ Some j → Both (SameCell (prelude_pairs (length prelude)) W.coroutines V.coroutines) (slice_get W.cells i) (slice_get V.cells j)
    cells i j s =
        let e = only_is 0 i j s in
        let c = closed (object a_table environment_table) in
        both_from (SameCell (prelude_pairs (length prelude)) W.coroutines V.coroutines) (slice_get W.cells i) (slice_get V.cells j) c c
        (subst (λ n. slice_get W.cells n ≡ Some c) e.0 w.untouched.cell) (subst (λ n. slice_get V.cells n ≡ Some c) (e.0 ∙ e.1) v.untouched.cell)
        (same_content c c (object a_table environment_table) (object a_table environment_table) (kept_closed (object a_table environment_table)) (kept_closed (object a_table environment_table)) (same_object a_table environment_table environment_table refl))

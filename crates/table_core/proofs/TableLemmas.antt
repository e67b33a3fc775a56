-- What a write, a new row and the dropping of cleared rows do to what a table keeps.
use Rattle.std.proofs.Common.{◌≡◌, ℕ, zero, suc, ◌+◌, ◌-◌, ◌<◌, ◌≤◌, ◌^◌, Bool, true, false, cond, nat_lt, List, [], ◌∷◌, ◌++◌, length, drop, take, filter, refl, sym, ◌∙◌, ap, subst, arith, add-one, rules}
use Rattle.std.proofs.lemmas.Bool.Decides.{nat_tests}
use Rattle.std.proofs.lemmas.List.{append-nil, map-append}
use Rattle.std.proofs.lemmas.List.Filters.{length-filter_both}
use Rattle.std.proofs.lemmas.List.Folds.{list_any-append}
use Rattle.std.proofs.lemmas.List.Sums.{count_by-le-length, length-filter, sum_by-append, sum_by-cons}
use Rattle.std.proofs.lemmas.Map.Made.{is_some-lookup}
use Rattle.std.proofs.lemmas.Map.{keys-set_value, length-set_value}
use Rattle.std.specs.Prelude.{pos, Option, Some, None, if◌then◌else◌, count_by, find, slice_get, is_some, IsSome}
use Rattle.std.specs.List.{IsDistinct}
use Rattle.std.specs.Map.{keys_of, lookup, set_value}
use Rattle.int_core.specs.Rows.{is_cleared, is_filled, has_row, kept, set}
use Rattle.table_core.specs.declared.value.Value.{Value}
use Rattle.table_core.specs.declared.value.Value.TheVariants.{Nil, Int}
use Rattle.table_core.specs.Table.{IsKept}
use Rattle.table_core.specs.Value.{is_nil, lua_values, value_eq}
use Rattle.table_core.proofs.NumberedLemmas.{filter-taken}
use Rattle.table_core.proofs.ValueLemmas.{nil-other}

abbrev Rows : Type 0
Rows = List (Value × Value)

-- 1 for nil, and 0 for another value
abbrev pub tally : Value → ℕ
tally v = if is_nil v then 1 else 0

-- ---- a row that is there takes another value

pub set_value-absent : (test : Value → Bool) (rows : Rows) (w : Value) → lookup test rows ≡ None → set_value test rows w ≡ rows
set_value-absent test [] w none = refl
set_value-absent test (row ∷ rows) w none = by (test row.0) refl (set_value-absent test rows w)
  where
    by : (b : Bool) → test row.0 ≡ b → (lookup test rows ≡ None → set_value test rows w ≡ rows) → set_value test (row ∷ rows) w ≡ row ∷ rows
    by true e rest = let found = rw e at none in cc
    by false e rest = rw e (ap (λ r. row ∷ r) (rest (rw e at none)))

-- one row more to count
count-cons : (row : Value × Value) (rows : Rows) → count_by (is_cleared lua_values) (row ∷ rows) ≡ tally row.1 + count_by (is_cleared lua_values) rows
count-cons row rows = sum_by-cons (λ r. cond (is_cleared lua_values r) 1 0) row rows

count-set_value : (test : Value → Bool) (rows : Rows) (was w : Value) → lookup test rows ≡ Some was → count_by (is_cleared lua_values) (set_value test rows w) + tally was ≡ count_by (is_cleared lua_values) rows + tally w
count-set_value test [] was w found = cc
count-set_value test (row ∷ rows) was w found = by (test row.0) refl (count-set_value test rows was w)
  where
    by : (b : Bool) → test row.0 ≡ b → (lookup test rows ≡ Some was → count_by (is_cleared lua_values) (set_value test rows w) + tally was ≡ count_by (is_cleared lua_values) rows + tally w) → count_by (is_cleared lua_values) (set_value test (row ∷ rows) w) + tally was ≡ count_by (is_cleared lua_values) (row ∷ rows) + tally w
    by true e rest =
        let same : row.1 ≡ was = let f = rw e at found in cc in
        rw e (omega (arith, count-cons (row.0, w) rows, count-cons row rows, ap tally same))
    by false e rest =
        rw e (omega (arith, count-cons row (set_value test rows w), count-cons row rows, rest (rw e at found)))

pub tally-le : (rows : Rows) (cleared : ℕ) (test : Value → Bool) (was : Value) → IsKept rows cleared → lookup test rows ≡ Some was → tally was ≤ cleared
tally-le rows cleared test was is found =
    omega (arith, is.counted, count-set_value test rows was (Int (pos 0)) found)

pub IsKept-set_value : (rows : Rows) (cleared : ℕ) (test : Value → Bool) (was w : Value) → IsKept rows cleared → lookup test rows ≡ Some was → IsKept (set_value test rows w) (cleared - tally was + tally w)
IsKept-set_value rows cleared test was w is found = record {
  are_rows = record {
    distinct = rw (keys-set_value test rows w) is.are_rows.distinct;
    no_nil = rw (keys-set_value test rows w) is.are_rows.no_nil;
  };
  counted = omega (arith, is.counted, count-set_value test rows was w found, tally-le rows cleared test was is found);
  few = rw (length-set_value test rows w) is.few;
}

-- ---- a new row

pub IsKept-append : (rows : Rows) (cleared : ℕ) (key w : Value) → IsKept rows cleared → (key ≡ Nil → ⊥) → IsDistinct value_eq (keys_of (rows ++ (key, w) ∷ [])) → length (rows ++ (key, w) ∷ []) < 2 ^ 63 → IsKept (rows ++ (key, w) ∷ []) (cleared + tally w)
IsKept-append rows cleared key w is not_nil distinct few = record {
  are_rows = record { distinct = distinct; no_nil = no_nil };
  counted = rw (sum_by-append (λ row. cond (is_cleared lua_values row) 1 0) rows ((key, w) ∷ [])) (omega (arith, is.counted));
  few = few;
}
  where
    no_nil : has_row lua_values (rows ++ (key, w) ∷ []) Nil ≡ false
    no_nil = rw (map-append (λ (row : Value × Value). row.0) rows ((key, w) ∷ []), list_any-append (value_eq Nil) (keys_of rows) (key ∷ []), is.are_rows.no_nil, nil-other key not_nil) refl

-- the same of rows that are known to be the old ones and a new one
pub IsKept-grown : (rows grown : Rows) (cleared n : ℕ) (key w : Value) → IsKept rows cleared → (key ≡ Nil → ⊥) → grown ≡ rows ++ (key, w) ∷ [] → IsDistinct value_eq (keys_of grown) → n ≡ length grown → n < 2 ^ 63 → IsKept grown (cleared + tally w)
IsKept-grown rows grown cleared n key w is not_nil added distinct len small =
    rw added (IsKept-append rows cleared key w is not_nil (rw added at distinct) (rw added at (subst (λ m. m < 2 ^ 63) len small)))

-- ---- cleared rows are dropped

filter-no_nil : (p : Value × Value → Bool) (rows : Rows) → has_row lua_values rows Nil ≡ false → has_row lua_values (filter p rows) Nil ≡ false
filter-no_nil p [] none = refl
filter-no_nil p (row ∷ rows) none = by (p row) refl (filter-no_nil p rows (grind (arith)))
  where
    by : (b : Bool) → p row ≡ b → has_row lua_values (filter p rows) Nil ≡ false → has_row lua_values (filter p (row ∷ rows)) Nil ≡ false
    by true e rest =
        let here : value_eq Nil row.0 ≡ false = grind (arith) in
        rw (e, here) rest
    by false e rest = rw e rest

filter-counted : (rows : Rows) → count_by (is_cleared lua_values) (filter (is_filled lua_values) rows) ≡ 0
filter-counted [] = refl
filter-counted (row ∷ rows) = by (is_nil row.1) refl (filter-counted rows)
  where
    by : (b : Bool) → is_nil row.1 ≡ b → count_by (is_cleared lua_values) (filter (is_filled lua_values) rows) ≡ 0 → count_by (is_cleared lua_values) (filter (is_filled lua_values) (row ∷ rows)) ≡ 0
    by true e rest = rw e rest
    by false e rest = rw e (count-cons row (filter (is_filled lua_values) rows) ∙ rw (e, rest) (omega arith))

both-length : (rows : Rows) → count_by (is_filled lua_values) rows + count_by (is_cleared lua_values) rows ≡ length rows
both-length rows = omega (arith, length-filter_both (is_cleared lua_values) (is_filled lua_values) (λ row. refl) rows, length-filter (is_cleared lua_values) rows, length-filter (is_filled lua_values) rows)

pub IsKept-filter : (rows : Rows) (cleared : ℕ) → IsKept rows cleared → IsDistinct value_eq (keys_of (filter (is_filled lua_values) rows)) → IsKept (filter (is_filled lua_values) rows) 0
IsKept-filter rows cleared is distinct = record {
  are_rows = record { distinct = distinct; no_nil = filter-no_nil (is_filled lua_values) rows is.are_rows.no_nil };
  counted = sym (filter-counted rows);
  few = omega (arith, is.few, length-filter (is_filled lua_values) rows, count_by-le-length (is_filled lua_values) rows);
}

-- the rows that stay
pub kept-crowded : (rows : Rows) (cleared : ℕ) → IsKept rows cleared → length rows - cleared < cleared → kept lua_values rows ≡ filter (is_filled lua_values) rows
kept-crowded rows cleared is crowded =
    let fewer : nat_lt (count_by (is_filled lua_values) rows) (count_by (is_cleared lua_values) rows) ≡ true =
    let below : count_by (is_filled lua_values) rows < count_by (is_cleared lua_values) rows = omega (arith, both-length rows, is.counted) in grind (arith, nat_tests) in
    rw fewer refl

pub kept-roomy : (rows : Rows) (cleared : ℕ) → IsKept rows cleared → cleared ≤ length rows - cleared → kept lua_values rows ≡ rows
kept-roomy rows cleared is roomy =
    let enough : nat_lt (count_by (is_filled lua_values) rows) (count_by (is_cleared lua_values) rows) ≡ false =
    let above : count_by (is_cleared lua_values) rows ≤ count_by (is_filled lua_values) rows = omega (arith, both-length rows, is.counted) in grind (arith, nat_tests) in
    rw enough refl

-- ---- rows by their places

pub not_nil_at : (rows : Rows) (at : ℕ) (key value : Value) → has_row lua_values rows Nil ≡ false → slice_get rows at ≡ Some (key, value) → key ≡ Nil → ⊥
not_nil_at [] at key value none row e = cc
not_nil_at (first ∷ rows) zero key value none row e =
    let here : first.0 ≡ Nil = cc in
    let wrong : true ≡ false = rw here at none in cc
not_nil_at (first ∷ rows) (suc at) key value none row e = not_nil_at rows at key value (grind (arith)) row e

pub find-drop : (p : Value × Value → Bool) (rows : Rows) (at : ℕ) (row : Value × Value) → slice_get rows at ≡ Some row → find p (drop at rows) ≡ cond (p row) (Some row) (find p (drop (at + 1) rows))
find-drop p [] at row there = cc
find-drop p (first ∷ rows) zero row there = let same : first ≡ row = cc in rw same refl
find-drop p (first ∷ rows) (suc at) row there = rw add-one (find-drop p rows at row there ∙ rw add-one refl)

pub IsSome-by : {X : Type 0} (found : Option X) → (found ≡ None → ⊥) → IsSome found
IsSome-by None some = absurd (some refl)
IsSome-by (Some x) some = search rules

-- ---- what `set` makes of the rows, by what was there

pub set-present : (rows : Rows) (key was w : Value) → lookup (value_eq key) rows ≡ Some was → set lua_values rows key w ≡ set_value (value_eq key) rows w
set-present rows key was w found =
    let there : has_row lua_values rows key ≡ true = sym (is_some-lookup (value_eq key) rows) ∙ ap is_some found in
    rw there refl

pub absent-by_lookup : (rows : Rows) (key : Value) → lookup (value_eq key) rows ≡ None → has_row lua_values rows key ≡ false
absent-by_lookup rows key none = sym (is_some-lookup (value_eq key) rows) ∙ ap is_some none

pub set-nil : (rows : Rows) (key w : Value) → lookup (value_eq key) rows ≡ None → is_nil w ≡ true → set lua_values rows key w ≡ rows
set-nil rows key w none nil = rw (absent-by_lookup rows key none, nil) refl

pub set-new : (rows : Rows) (key w : Value) → lookup (value_eq key) rows ≡ None → is_nil w ≡ false → set lua_values rows key w ≡ kept lua_values rows ++ (key, w) ∷ []
set-new rows key w none filled = rw (absent-by_lookup rows key none, filled) refl

-- ---- the filled rows among the first ones

pub filled-skipped : (rows : Rows) (at : ℕ) (row : Value × Value) → slice_get rows at ≡ Some row → is_nil row.1 ≡ true → filter (is_filled lua_values) (take (at + 1) rows) ≡ filter (is_filled lua_values) (take at rows)
filled-skipped rows at row found cleared = filter-taken (is_filled lua_values) rows at row found ∙ rw cleared (append-nil (filter (is_filled lua_values) (take at rows)))

pub filled-kept : (rows : Rows) (at : ℕ) (row : Value × Value) → slice_get rows at ≡ Some row → is_nil row.1 ≡ false → filter (is_filled lua_values) (take (at + 1) rows) ≡ filter (is_filled lua_values) (take at rows) ++ row ∷ []
filled-kept rows at row found filled = filter-taken (is_filled lua_values) rows at row found ∙ rw filled refl

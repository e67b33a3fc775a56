-- Rows that are kept are rows of what they stand for.
use Rattle.std.proofs.Common.{arith, ℕ, ◌+◌, ◌<◌, ◌≤◌, ◌≡◌, List, [], ◌∷◌, Some, refl, subst, sym, ◌∙◌, length, map, false, ⊎_elim}
use Rattle.std.specs.Prelude.{slice_get}
use Rattle.std.proofs.lemmas.Option.{slice_get_within}
use Rattle.std.specs.List.{list_any, AllByRecursion, IsDistinct}
use Rattle.std.specs.Map.{keys_of}
use Rattle.int_core.specs.Rows.{AreRows}
use Rattle.int_core.specs.Value.{known, nil, same, table_values}
use Rattle.list_laws.proofs.Tests.{split}
use Rattle.machine_sound.specs.Sound.{Each}
use Rattle.machine_sound.proofs.Lists.{map_get}
use Rattle.table_core.specs.declared.value.Value.{Value as Kept}
use Rattle.table_core.specs.declared.value.Value.TheVariants.{Nil}
use Rattle.table_core.specs.Table.{Contents}
use Rattle.table_core.specs.Value.{lua_values, value_eq}
use Rattle.lua_heap.specs.Law.{EqualityIsRaw}
use Rattle.lua_heap.specs.Plain.{table}
use Rattle.lua_heap.specs.Reading.{value, row}
use Rattle.lua_heap.specs.Strings.{AreApart, AreShort}

some_so : {A : Type 0} {a b : A} → Some a ≡ Some b → a ≡ b
some_so e = cc

module _ (law : EqualityIsRaw) (texts : List (List ℕ)) (apart : AreApart texts) (short : AreShort texts) where
  unlike_all : (key : Kept) (rows : List (Kept × Kept)) → AllByRecursion (λ k. value_eq key k ≡ false) (keys_of rows) → AllByRecursion (λ v. same (value texts key) v ≡ false) (keys_of (map (row texts) rows))
  unlike_all key [] h = tt
  unlike_all key (r ∷ rows) h = (law texts apart short key r.0 ∙ h.0, unlike_all key rows h.1)

  distinct : (rows : List (Kept × Kept)) → IsDistinct value_eq (keys_of rows) → IsDistinct same (keys_of (map (row texts) rows))
  unfolding IsDistinct
  distinct [] h = tt
  distinct (r ∷ rows) h = (unlike_all r.0 rows h.0, distinct rows h.1)

  none_nil : (rows : List (Kept × Kept)) → list_any (same (known nil)) (keys_of (map (row texts) rows)) ≡ list_any (value_eq Nil) (keys_of rows)
  none_nil [] = refl
  none_nil (r ∷ rows) = rw (law texts apart short Nil r.0, none_nil rows) refl

  are_rows : (rows : List (Kept × Kept)) → AreRows lua_values rows → AreRows table_values (map (row texts) rows)
  are_rows rows h = record { distinct = distinct rows h.distinct; no_nil = none_nil rows ∙ h.no_nil }

  pub all_rows : (tables : List Contents) → Each (λ t. AreRows lua_values t.rows) tables → Each (λ t. AreRows table_values t.rows) (map (table texts) tables)
  all_rows tables h i t e = let g = map_get (table texts) tables i t e in subst (λ t. AreRows table_values t.rows) g.2 (are_rows g.0.rows (h i g.0 g.1))

-- each of the first ones, and one more

abbrev pub FirstAreRows : ℕ → List Contents → Type 0
FirstAreRows n tables = (i : ℕ) (t : Contents) → i < n → slice_get tables i ≡ Some t → AreRows lua_values t.rows

pub one_more : (tables : List Contents) (n : ℕ) (t : Contents) → FirstAreRows n tables → slice_get tables n ≡ Some t → AreRows lua_values t.rows → FirstAreRows (n + 1) tables
one_more tables n t h e k i u l g = ⊎_elim (λ low. h i u low g) (λ past. let is : i ≡ n = omega (arith, l, past) in same_rows u (some_so (sym (subst (λ i. slice_get tables i ≡ Some u) is g) ∙ e))) (split i n)
  where
    same_rows : (u : Contents) → u ≡ t → AreRows lua_values u.rows
    same_rows u s = subst (λ t. AreRows lua_values t.rows) (sym s) k

pub all_seen : (tables : List Contents) (n : ℕ) → length tables ≤ n → FirstAreRows n tables → Each (λ t. AreRows lua_values t.rows) tables
all_seen tables n few h i t e = let within = slice_get_within tables i t e in h i t (omega (arith, within, few)) e

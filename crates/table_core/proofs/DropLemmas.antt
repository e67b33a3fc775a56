-- Cleared rows are dropped where they stand, where all values of the array stay and none comes to follow them.
use Rattle.std.proofs.Common.{◌≡◌, ◌≢◌, ℕ, suc, ◌+◌, ◌<◌, ◌^◌, Bool, true, false, not, List, [], ◌∷◌, ◌++◌, filter, length, get_or, refl, sym, ◌∙◌, ap, subst, arith, true≢false, append_assoc, length-append}
use Rattle.std.proofs.lemmas.List.Elements.{filter-append}
use Rattle.std.proofs.lemmas.List.Sums.{count_by-le-length, length-filter}
use Rattle.std.proofs.lemmas.Map.Made.{IsDistinct-keys_filter}
use Rattle.std.specs.Prelude.{pos, Some, slice_get}
use Rattle.std.specs.List.{IsDistinct}
use Rattle.std.specs.Map.{keys_of, lookup}
use Rattle.int_core.specs.Rows.{IsBorder, is_filled}
use Rattle.int_core.proofs.RowsLemmas.{absent-filter}
use Rattle.table_core.specs.declared.value.Value.{Value}
use Rattle.table_core.specs.declared.value.Value.TheVariants.{Nil, Int}
use Rattle.table_core.specs.Places.{Rows, AreSplit, IsAbsent, numbered}
use Rattle.table_core.specs.Value.{is_nil, lua_values, value_eq}
use Rattle.table_core.proofs.BorderLemmas.{border-filter}
use Rattle.table_core.proofs.NumberedLemmas.{get-numbered, lookup-found}
use Rattle.table_core.proofs.PlaceLemmas.{get-left}
use Rattle.table_core.proofs.SplitLemmas.{first-pushed, keyed-row, pushed-distinct}
use Rattle.table_core.proofs.ValueLemmas.{lua_values-AreValues}

filled-numbered : (n : ℕ) (xs : List Value) → ((m : ℕ) → m < length xs → is_nil (get_or xs m Nil) ≡ false) → filter (is_filled lua_values) (numbered n xs) ≡ numbered n xs
filled-numbered n [] filled = refl
filled-numbered n (x ∷ xs) filled =
    let here : is_nil x ≡ false = filled 0 (omega arith) in
    rw here (ap (λ rest. (Int (pos (n + 1)), x) ∷ rest) (filled-numbered (n + 1) xs (λ m below. filled (suc m) (omega (arith, below)))))

-- the first of the rows that pass, by its key
record IsFirst (p : Value × Value → Bool) (rows : Rows) (key : Value) : Type 0 where
  value : Value
  found : slice_get (filter p rows) 0 ≡ Some (key, value)
  passes : p (key, value) ≡ true

first-passes : (p : Value × Value → Bool) (rows : Rows) (key : Value) → slice_get (keys_of (filter p rows)) 0 ≡ Some key → IsFirst p rows key
first-passes p [] key found = cc
first-passes p (row ∷ rows) key found = by (p row) refl (first-passes p rows key)
  where
    by : (b : Bool) → p row ≡ b → (slice_get (keys_of (filter p rows)) 0 ≡ Some key → IsFirst p rows key) → IsFirst p (row ∷ rows) key
    by true e after =
        let same : row.0 ≡ key = let f = rw e at found in cc in
        record { value = row.1; found = rw e (ap (λ k. Some (k, row.1)) same); passes = ap (λ k. p (k, row.1)) (sym same) ∙ e }
    by false e after =
        let rest = after (rw e at found) in
        record { value = rest.value; found = rw e rest.found; passes = rest.passes }

-- the filled rows after the array, and a new one
pub record IsDropped (xs : List Value) (keyed keyed' : Rows) (key v : Value) : Type 0 where
  pub split : AreSplit xs keyed'
  pub added : numbered 0 xs ++ keyed' ≡ filter (is_filled lua_values) (numbered 0 xs ++ keyed) ++ (key, v) ∷ []

module _ (xs : List Value) (keyed : Rows) (is : AreSplit xs keyed) (border : IsBorder lua_values (numbered 0 xs ++ keyed) (length xs)) where
  abbrev all : Rows
  all = numbered 0 xs ++ keyed

  abbrev stay : Rows
  stay = filter (is_filled lua_values) keyed

  array-filled : (m : ℕ) → m < length xs → is_nil (get_or xs m Nil) ≡ false
  array-filled m below =
      let held : lookup (value_eq (Int (pos (m + 1)))) all ≡ Some (get_or xs m Nil) =
      lookup-found all m (Int (pos (m + 1))) (get_or xs m Nil) is.distinct (get-left (numbered 0 xs) keyed m (Int (pos (m + 1)), get_or xs m Nil) (get-numbered 0 xs m (m + 1) Nil below (omega arith))) in
      let filled = border.filled m below in
      rw held at filled

  filtered : filter (is_filled lua_values) all ≡ numbered 0 xs ++ stay
  filtered = filter-append (is_filled lua_values) (numbered 0 xs) keyed ∙ ap (λ rows. rows ++ stay) (filled-numbered 0 xs array-filled)

  not-next : slice_get (keys_of stay) 0 ≢ Some (Int (pos (length xs + 1)))
  not-next next =
      let key : Value = Int (pos (length xs + 1)) in
      let first = first-passes (is_filled lua_values) keyed (Int (pos (length xs + 1))) next in
      let border_stays : IsBorder lua_values (numbered 0 xs ++ stay) (length xs) = subst (λ rows. IsBorder lua_values rows (length xs)) filtered (border-filter all (length xs) is.distinct border) in
      let distinct : IsDistinct value_eq (keys_of (numbered 0 xs ++ stay)) = subst (λ rows. IsDistinct value_eq (keys_of rows)) filtered (IsDistinct-keys_filter value_eq (is_filled lua_values) all is.distinct) in
      let there : slice_get (numbered 0 xs ++ stay) (length xs) ≡ Some (Int (pos (length xs + 1)), first.value) = keyed-row xs stay (length xs) 0 (Int (pos (length xs + 1)), first.value) first.found (omega arith) in
      let held = lookup-found (numbered 0 xs ++ stay) (length xs) (Int (pos (length xs + 1))) first.value distinct there in
      let ends = border_stays.ends in
      let cleared : is_nil first.value ≡ true = rw held at ends in
      true≢false (sym first.passes ∙ ap not cleared)

  pub dropped-pushed : (keyed' : Rows) (key v : Value) → IsAbsent all key → is_nil v ≡ false → key ≢ Int (pos (length xs + 1)) → keyed' ≡ filter (is_filled lua_values) (keyed ++ (key, v) ∷ []) → length xs + length keyed + 1 < 2 ^ 63 → IsDropped xs keyed keyed' key v
  dropped-pushed keyed' key v absent filled other now room =
      let last : filter (is_filled lua_values) ((key, v) ∷ []) ≡ (key, v) ∷ [] = rw filled refl in
      let grown : keyed' ≡ stay ++ (key, v) ∷ [] = now ∙ filter-append (is_filled lua_values) keyed ((key, v) ∷ []) ∙ ap (λ rows. stay ++ rows) last in
      let added : numbered 0 xs ++ keyed' ≡ filter (is_filled lua_values) all ++ (key, v) ∷ [] =
      ap (λ rows. numbered 0 xs ++ rows) grown ∙ sym (append_assoc (numbered 0 xs) stay ((key, v) ∷ [])) ∙ ap (λ rows. rows ++ (key, v) ∷ []) (sym filtered) in
      record {
        split = record {
          distinct = subst (λ rows. IsDistinct value_eq (keys_of rows)) (sym added) (pushed-distinct (filter (is_filled lua_values) all) key v (IsDistinct-keys_filter value_eq (is_filled lua_values) all is.distinct) (absent-filter lua_values lua_values-AreValues (is_filled lua_values) all key absent));
          longest = subst (λ rows. slice_get (keys_of rows) 0 ≢ Some (Int (pos (length xs + 1)))) (sym grown) (first-pushed stay key v (Int (pos (length xs + 1))) not-next (λ none. other));
          few = omega (arith, room, ap length grown ∙ length-append stay ((key, v) ∷ []), length-filter (is_filled lua_values) keyed, count_by-le-length (is_filled lua_values) keyed);
        };
        added = added;
      }

-- Rows at their places: in two lists joined, and where no key has two rows.
use Rattle.std.proofs.Common.{◌≡◌, ℕ, zero, suc, ◌+◌, ◌<◌, Bool, true, false, ◌||◌, [], ◌∷◌, ◌++◌, length, get_or, position, refl, sym, ◌∙◌, ap, subst, arith, true≢false, is_some}
use Rattle.std.proofs.lemmas.List.Quantifiers.{position-Some}
use Rattle.std.proofs.lemmas.List.{map-append}
use Rattle.std.proofs.lemmas.List.Folds.{list_any-append}
use Rattle.std.proofs.lemmas.Map.Made.{is_some-lookup}
use Rattle.std.specs.Prelude.{Option, Some, None, MatchOption, IfSome, slice_get, slice_set}
use Rattle.std.specs.List.{list_any}
use Rattle.std.specs.Map.{keys_of, values_of, lookup}
use Rattle.indexmap.specs.IndexMap.{set_value_at}
use Rattle.table_core.specs.declared.value.Value.{Value}
use Rattle.table_core.specs.declared.value.Value.TheVariants.{Nil}
use Rattle.table_core.specs.Places.{Rows, HasKeyAt, HasRow, IsAbsent, IsReplaced}
use Rattle.table_core.specs.Value.{value_eq}
use Rattle.table_core.proofs.ValueLemmas.{value_eq-equal}

-- ---- by index

-- the row at a place whose key is known
row-at : (rows : Rows) (key : Value) (at : ℕ) → at < length (keys_of rows) → value_eq key (get_or (keys_of rows) at Nil) ≡ true → HasKeyAt rows key at
row-at [] key at within same = absurd (omega (arith, within))
row-at (row ∷ rows) key zero within same =
    let equal : key ≡ row.0 = value_eq-equal key row.0 same in
    record { value = row.1; found = rw equal refl }
row-at (row ∷ rows) key (suc at) within same =
    let rest = row-at rows key at (omega (arith, within)) same in
    record { value = rest.value; found = rest.found }

pub found-cases : (rows : Rows) (key : Value) (found : Option ℕ) → found ≡ position (value_eq key) (keys_of rows) → is_some found ≡ is_some (lookup (value_eq key) rows) → MatchOption found (IsAbsent rows key) (λ at. HasKeyAt rows key at)
found-cases rows key None index there = sym (is_some-lookup (value_eq key) rows) ∙ sym there
found-cases rows key (Some at) index there =
    let is = position-Some (value_eq key) (keys_of rows) at Nil (sym index) in
    row-at rows key at is.0 is.1

pub key-at : (rows : Rows) (key other value : Value) (at : ℕ) → slice_get rows at ≡ Some (other, value) → value_eq other key ≡ true → HasKeyAt rows key at
key-at rows key other value at found same = record { value = value; found = found ∙ ap (λ k. Some (k, value)) (value_eq-equal other key same) }

-- a value written by its place
pub set_value_at-set : (rows : Rows) (at : ℕ) (key was value : Value) → slice_get rows at ≡ Some (key, was) → set_value_at rows at value ≡ slice_set rows at (key, value)
set_value_at-set [] at key was value found = refl
set_value_at-set (row ∷ rows) zero key was value found = let same : row.0 ≡ key = cc in rw same refl
set_value_at-set (row ∷ rows) (suc at) key was value found = ap (λ rest. row ∷ rest) (set_value_at-set rows at key was value found)

pub value-at : (rows : Rows) (at : ℕ) (key was : Value) → slice_get rows at ≡ Some (key, was) → slice_get (values_of rows) at ≡ Some was
value-at [] at key was found = cc
value-at (row ∷ rows) zero key was found = let same : row.1 ≡ was = cc in rw same refl
value-at (row ∷ rows) (suc at) key was found = value-at rows at key was found

pub within-at : (rows : Rows) (at : ℕ) (row : Value × Value) → slice_get rows at ≡ Some row → at < length rows
within-at [] at row found = cc
within-at (first ∷ rows) zero row found = omega arith
within-at (first ∷ rows) (suc at) row found = omega (arith, within-at rows at row found)

-- ---- two lists joined

pub get-left : (xs ys : Rows) (at : ℕ) (row : Value × Value) → slice_get xs at ≡ Some row → slice_get (xs ++ ys) at ≡ Some row
get-left [] ys at row found = cc
get-left (x ∷ xs) ys zero row found = found
get-left (x ∷ xs) ys (suc at) row found = get-left xs ys at row found

pub get-right : (xs ys : Rows) (at : ℕ) (row : Value × Value) → slice_get ys at ≡ Some row → slice_get (xs ++ ys) (length xs + at) ≡ Some row
get-right [] ys at row found = let same : at ≡ 0 + at = omega arith in subst (λ n. slice_get ys n ≡ Some row) same found
get-right (x ∷ xs) ys at row found = let same : suc (length xs + at) ≡ suc (length xs) + at = omega arith in subst (λ n. slice_get (x ∷ (xs ++ ys)) n ≡ Some row) same (get-right xs ys at row found)

pub set-left : (xs ys : Rows) (at : ℕ) (row was : Value × Value) → slice_get xs at ≡ Some was → slice_set xs at row ++ ys ≡ slice_set (xs ++ ys) at row
set-left [] ys at row was found = cc
set-left (x ∷ xs) ys zero row was found = refl
set-left (x ∷ xs) ys (suc at) row was found = ap (λ rest. x ∷ rest) (set-left xs ys at row was found)

set-right : (xs ys : Rows) (at : ℕ) (row : Value × Value) → xs ++ slice_set ys at row ≡ slice_set (xs ++ ys) (length xs + at) row
set-right [] ys at row = let same : at ≡ 0 + at = omega arith in ap (λ n. slice_set ys n row) same
set-right (x ∷ xs) ys at row = let same : suc (length xs + at) ≡ suc (length xs) + at = omega arith in ap (λ rest. x ∷ rest) (set-right xs ys at row) ∙ ap (λ n. slice_set (x ∷ (xs ++ ys)) n row) same

pub absent-append : (xs ys : Rows) (key : Value) → IsAbsent xs key → IsAbsent ys key → IsAbsent (xs ++ ys) key
absent-append xs ys key first second = rw (map-append (λ (row : Value × Value). row.0) xs ys, list_any-append (value_eq key) (keys_of xs) (keys_of ys), first) second

neither : (a b : Bool) → (a || b) ≡ false → (a ≡ false) × (b ≡ false)
neither true b none = absurd (true≢false none)
neither false b none = (refl, none)

pub absent-parts : (xs ys : Rows) (key : Value) → IsAbsent (xs ++ ys) key → IsAbsent xs key × IsAbsent ys key
absent-parts xs ys key none = neither _ _ (sym (list_any-append (value_eq key) (keys_of xs) (keys_of ys)) ∙ ap (list_any (value_eq key)) (sym (map-append (λ (row : Value × Value). row.0) xs ys)) ∙ none)

pub HasKeyAt-left : (xs ys : Rows) (key : Value) (at : ℕ) → HasKeyAt xs key at → HasKeyAt (xs ++ ys) key at
HasKeyAt-left xs ys key at is = record { value = is.value; found = get-left xs ys at (key, is.value) is.found }

pub HasKeyAt-right : (xs ys : Rows) (key : Value) (at : ℕ) → HasKeyAt ys key at → HasKeyAt (xs ++ ys) key (length xs + at)
HasKeyAt-right xs ys key at is = record { value = is.value; found = get-right xs ys at (key, is.value) is.found }

pub HasRow-left : (xs ys : Rows) (key value : Value) → HasRow xs key value → HasRow (xs ++ ys) key value
HasRow-left xs ys key value is = record { at = is.at; found = get-left xs ys is.at (key, value) is.found }

pub HasRow-right : (xs ys : Rows) (key value : Value) → HasRow ys key value → HasRow (xs ++ ys) key value
HasRow-right xs ys key value is = record { at = length xs + is.at; found = get-right xs ys is.at (key, value) is.found }

pub IsReplaced-left : (xs xs' ys : Rows) (key was value : Value) → IsReplaced xs xs' key was value → IsReplaced (xs ++ ys) (xs' ++ ys) key was value
IsReplaced-left xs xs' ys key was value is = record {
  at = is.at;
  found = get-left xs ys is.at (key, was) is.found;
  now = ap (λ rows. rows ++ ys) is.now ∙ set-left xs ys is.at (key, value) (key, was) is.found;
}

pub IsReplaced-right : (xs ys ys' : Rows) (key was value : Value) → IsReplaced ys ys' key was value → IsReplaced (xs ++ ys) (xs ++ ys') key was value
IsReplaced-right xs ys ys' key was value is = record {
  at = length xs + is.at;
  found = get-right xs ys is.at (key, was) is.found;
  now = ap (λ rows. xs ++ rows) is.now ∙ set-right xs ys is.at (key, value);
}

pub row-right : (xs ys : Rows) (key : Value) (found : Option Value) → IsAbsent xs key → MatchOption found (IsAbsent ys key) (λ value. HasRow ys key value) → MatchOption found (IsAbsent (xs ++ ys) key) (λ value. HasRow (xs ++ ys) key value)
row-right xs ys key None first is = absent-append xs ys key first is
row-right xs ys key (Some value) first is = HasRow-right xs ys key value is

pub replaced-right : (xs ys ys' : Rows) (key value : Value) (found : Option Value) → IfSome found (λ was. IsReplaced ys ys' key was value) → IfSome found (λ was. IsReplaced (xs ++ ys) (xs ++ ys') key was value)
replaced-right xs ys ys' key value None is = is
replaced-right xs ys ys' key value (Some was) is = IsReplaced-right xs ys ys' key was value is

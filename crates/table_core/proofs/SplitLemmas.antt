-- Rows that are values under 1, 2, 3 and so on and then rows found by their keys: look-ups, writes and new rows.
use Rattle.std.proofs.Common.{◌≡◌, ◌≢◌, ℕ, zero, suc, ◌+◌, ◌<◌, ◌≤◌, ◌^◌, Bool, true, false, List, [], ◌∷◌, ◌++◌, length, get_or, position, refl, sym, ◌∙◌, ap, subst, arith, true≢false, append_assoc, length-append}
use Rattle.std.proofs.lemmas.List.{append-nil, length-set, nil_from_length}
use Rattle.std.proofs.lemmas.Map.{keys-set_value}
use Rattle.std.proofs.lemmas.Map.Keys.{IsDistinct-push}
use Rattle.std.proofs.lemmas.List.{map-append}
use Rattle.std.specs.Cmp.{IsEquivalence}
use Rattle.std.specs.Prelude.{pos, Option, Some, None, MatchOption, IfSome, IfNone, OnSome, slice_get, slice_set}
use Rattle.std.specs.List.{IsDistinct}
use Rattle.std.specs.Map.{keys_of, lookup, set_value}
use Rattle.int_core.proofs.RowsLemmas.{lookup-absent}
use Rattle.table_core.specs.declared.value.Value.{Value}
use Rattle.table_core.specs.declared.value.Value.TheVariants.{Int}
use Rattle.table_core.specs.Places.{Rows, AreSplit, HasKeyAt, HasRow, IsAbsent, IsNumberedPrefix, IsPlaceOf, IsReplaced, numbered}
use Rattle.table_core.specs.Value.{lua_values, value_eq}
use Rattle.table_core.proofs.ValueLemmas.{value_eq-equal, value_eq-refl}
use Rattle.table_core.proofs.PlaceLemmas.{absent-append, get-left, get-right, IsReplaced-right, set-left}
use Rattle.table_core.proofs.NumberedLemmas.{absent-numbered, get-numbered, length-numbered, lookup-found, position-absent, position-found, push-numbered, set-found, set-numbered}

value_eq-symm : (a b : Value) → value_eq a b ≡ value_eq b a
value_eq-symm a b = by (value_eq a b) refl (value_eq b a) refl
  where
    by : (c : Bool) → value_eq a b ≡ c → (d : Bool) → value_eq b a ≡ d → value_eq a b ≡ value_eq b a
    by true e d f = ap (value_eq a) (sym (value_eq-equal a b e)) ∙ ap (λ v. value_eq v a) (value_eq-equal a b e)
    by false e true f = absurd (true≢false (sym (value_eq-refl b) ∙ ap (λ v. value_eq v b) (value_eq-equal b a f) ∙ e))
    by false e false f = e ∙ sym f

value_eq-equivalence : IsEquivalence value_eq
value_eq-equivalence = record { refl = value_eq-refl; symm = value_eq-symm; congr = λ a b c same. ap (λ v. value_eq v c) (value_eq-equal a b same) }

module _ (xs : List Value) (keyed : Rows) (is : AreSplit xs keyed) where
  abbrev all : Rows
  all = numbered 0 xs ++ keyed

  array-length : length (numbered 0 xs) ≡ length xs
  array-length = length-numbered 0 xs

  pub length-all : length xs + length keyed ≡ length all
  length-all = omega (arith, array-length, length-append (numbered 0 xs) keyed)

  -- ---- a key of the array

  pub array-at : (key : Value) (at : ℕ) (v : Value) → IsPlaceOf key at → at < length xs → v ≡ get_or xs at v → slice_get all at ≡ Some (key, v)
  array-at key at v place within held =
      let next : key ≡ Int (pos (at + 1)) = (place at (omega (arith, within, is.few))).0 refl in
      get-left (numbered 0 xs) keyed at (key, v) (get-numbered 0 xs at (at + 1) v within (omega arith) ∙ ap (λ w. Some (Int (pos (at + 1)), w)) (sym held) ∙ ap (λ k. Some (k, v)) (sym next))

  pub not-in-array : (key : Value) (at : ℕ) → IsPlaceOf key at → length xs ≤ at → IsAbsent (numbered 0 xs) key
  not-in-array key at place past = absent-numbered 0 xs key (λ m from below e. let same : at ≡ m = (place m (omega (arith, below, is.few))).1 e in omega (arith, same, past, below))

  pub array-lookup : (key : Value) (at : ℕ) (v : Value) → IsPlaceOf key at → at < length xs → v ≡ get_or xs at v → Some v ≡ lookup (value_eq key) all
  array-lookup key at v place within held = sym (lookup-found all at key v is.distinct (array-at key at v place within held))

  pub array-position : (key : Value) (at : ℕ) → IsPlaceOf key at → at < length xs → Some at ≡ position (value_eq key) (keys_of all)
  array-position key at place within =
      let next : key ≡ Int (pos (at + 1)) = (place at (omega (arith, within, is.few))).0 refl in
      let found : slice_get all at ≡ Some (key, get_or xs at key) = get-left (numbered 0 xs) keyed at (key, get_or xs at key) (get-numbered 0 xs at (at + 1) key within (omega arith) ∙ ap (λ k. Some (k, get_or xs at key)) (sym next)) in
      sym (position-found all at key (get_or xs at key) is.distinct found)

  array-set : (key : Value) (at : ℕ) (was v : Value) → IsPlaceOf key at → at < length xs → was ≡ get_or xs at was → numbered 0 (slice_set xs at v) ++ keyed ≡ set_value (value_eq key) all v
  array-set key at was v place within held =
      let next : key ≡ Int (pos (at + 1)) = (place at (omega (arith, within, is.few))).0 refl in
      let inside : slice_get (numbered 0 xs) at ≡ Some (Int (pos (at + 1)), get_or xs at was) = get-numbered 0 xs at (at + 1) was within (omega arith) in
      ap (λ rows. rows ++ keyed) (set-numbered 0 xs at (at + 1) v within (omega arith))
      ∙ set-left (numbered 0 xs) keyed at (Int (pos (at + 1)), v) _ inside
      ∙ ap (λ k. slice_set all at (k, v)) (sym next)
      ∙ set-found all at key was v is.distinct (array-at key at was place within held)

  pub array-now : (key : Value) (at : ℕ) (was v : Value) → IsPlaceOf key at → at < length xs → was ≡ get_or xs at was → (numbered 0 (slice_set xs at v) ++ keyed ≡ set_value (value_eq key) all v) × AreSplit (slice_set xs at v) keyed
  array-now key at was v place within held =
      let now = array-set key at was v place within held in
      let size : length (slice_set xs at v) ≡ length xs = length-set xs at v in (
        now,
        record {
          distinct = subst (λ rows. IsDistinct value_eq (keys_of rows)) (sym now) (rw (keys-set_value (value_eq key) all v) is.distinct);
          longest = rw size is.longest;
          few = rw size is.few;
        },
      )

  -- ---- a key after the array

  pub keyed-lookup : (key : Value) (found : Option Value) → IsAbsent (numbered 0 xs) key → MatchOption found (IsAbsent keyed key) (λ value. HasRow keyed key value) → found ≡ lookup (value_eq key) all
  keyed-lookup key None first rest = sym (lookup-absent lua_values all key (absent-append (numbered 0 xs) keyed key first rest))
  keyed-lookup key (Some v) first rest = sym (lookup-found all (length (numbered 0 xs) + rest.at) key v is.distinct (get-right (numbered 0 xs) keyed rest.at (key, v) rest.found))

  pub keyed-position : (key : Value) (at : ℕ) → HasKeyAt keyed key at → Some (length xs + at) ≡ position (value_eq key) (keys_of all)
  keyed-position key at rest =
      let same : length (numbered 0 xs) + at ≡ length xs + at = omega (arith, array-length) in
      sym (position-found all (length (numbered 0 xs) + at) key rest.value is.distinct (get-right (numbered 0 xs) keyed at (key, rest.value) rest.found) ∙ ap Some same)

  pub no-position : (key : Value) → IsAbsent (numbered 0 xs) key → IsAbsent keyed key → None ≡ position (value_eq key) (keys_of all)
  no-position key first rest = sym (position-absent all key (absent-append (numbered 0 xs) keyed key first rest))

keys-set : (rows : Rows) (at : ℕ) (key was v : Value) → slice_get rows at ≡ Some (key, was) → keys_of (slice_set rows at (key, v)) ≡ keys_of rows
keys-set [] at key was v found = cc
keys-set (row ∷ rows) zero key was v found = let same : row.0 ≡ key = cc in ap (λ k. k ∷ keys_of rows) (sym same)
keys-set (row ∷ rows) (suc at) key was v found = ap (λ ks. row.0 ∷ ks) (keys-set rows at key was v found)

pub record IsWritten (xs : List Value) (keyed keyed' : Rows) (key v : Value) (found : Option Value) : Type 0 where
  pub split : AreSplit xs keyed'
  pub was : found ≡ lookup (value_eq key) (numbered 0 xs ++ keyed)
  pub now : OnSome found (numbered 0 xs ++ keyed' ≡ set_value (value_eq key) (numbered 0 xs ++ keyed) v)

pub keyed-written : (xs : List Value) (keyed keyed' : Rows) (is : AreSplit xs keyed) (key v : Value) (found : Option Value) → IsAbsent (numbered 0 xs) key
    → IfSome found (λ was. IsReplaced keyed keyed' key was v) → IfNone found (IsAbsent keyed key) → IfNone found (keyed' ≡ keyed) → IsWritten xs keyed keyed' key v found
keyed-written xs keyed keyed' is key v None first some none same = record {
  split = rw same is;
  was = sym (lookup-absent lua_values (numbered 0 xs ++ keyed) key (absent-append (numbered 0 xs) keyed key first none));
  now = tt;
}
keyed-written xs keyed keyed' is key v (Some was) first some none same =
    let whole = IsReplaced-right (numbered 0 xs) keyed keyed' key was v some in
    let keys : keys_of keyed' ≡ keys_of keyed = ap keys_of some.now ∙ keys-set keyed some.at key was v some.found in
    let size : length keyed' ≡ length keyed = ap length some.now ∙ length-set keyed some.at (key, v) in
    let now : numbered 0 xs ++ keyed' ≡ set_value (value_eq key) (numbered 0 xs ++ keyed) v = whole.now ∙ set-found (numbered 0 xs ++ keyed) whole.at key was v is.distinct whole.found in
    record {
      split = record {
        distinct = subst (λ rows. IsDistinct value_eq (keys_of rows)) (sym now) (rw (keys-set_value (value_eq key) (numbered 0 xs ++ keyed) v) is.distinct);
        longest = rw keys is.longest;
        few = rw size is.few;
      };
      was = sym (lookup-found (numbered 0 xs ++ keyed) whole.at key was is.distinct whole.found);
      now = now;
    }

-- the same of a key whose place is past the array
pub past-written : (xs : List Value) (keyed keyed' : Rows) (is : AreSplit xs keyed) (key v : Value) (found : Option Value) (at : ℕ) → IsPlaceOf key at → length xs ≤ at
    → IfSome found (λ was. IsReplaced keyed keyed' key was v) → IfNone found (IsAbsent keyed key) → IfNone found (keyed' ≡ keyed) → IsWritten xs keyed keyed' key v found
past-written xs keyed keyed' is key v found at place past some none same = keyed-written xs keyed keyed' is key v found (not-in-array xs keyed is key at place past) some none same

-- ---- a new row

pub pushed-distinct : (rows : Rows) (key v : Value) → IsDistinct value_eq (keys_of rows) → IsAbsent rows key → IsDistinct value_eq (keys_of (rows ++ (key, v) ∷ []))
pushed-distinct rows key v distinct absent = rw (map-append (λ (row : Value × Value). row.0) rows ((key, v) ∷ [])) (IsDistinct-push value_eq-equivalence (keys_of rows) key distinct absent)

pub record IsPushed (xs : List Value) (keyed : Rows) (ys : List Value) (keyed' : Rows) (key v : Value) : Type 0 where
  pub split : AreSplit ys keyed'
  pub added : numbered 0 ys ++ keyed' ≡ (numbered 0 xs ++ keyed) ++ (key, v) ∷ []

pub array-pushed : (xs : List Value) (keyed : Rows) (is : AreSplit xs keyed) (ys : List Value) (key v : Value) → IsAbsent (numbered 0 xs ++ keyed) key → ys ≡ xs ++ v ∷ [] → length keyed ≡ 0 → key ≡ Int (pos (length xs + 1)) → length xs + length keyed + 1 < 2 ^ 63 → IsPushed xs keyed ys keyed key v
array-pushed xs keyed is ys key v absent pushed none next room =
    let empty : keyed ≡ [] = nil_from_length keyed none in
    let size : length ys ≡ length xs + 1 = ap length pushed ∙ length-append xs (v ∷ []) in
    let rows : numbered 0 ys ≡ numbered 0 xs ++ (key, v) ∷ [] = ap (numbered 0) pushed ∙ push-numbered 0 xs (length xs + 1) v (omega arith) ∙ ap (λ k. numbered 0 xs ++ (k, v) ∷ []) (sym next) in
    let added : numbered 0 ys ++ keyed ≡ (numbered 0 xs ++ keyed) ++ (key, v) ∷ [] = rw empty (append-nil (numbered 0 ys) ∙ rows ∙ ap (λ zs. zs ++ (key, v) ∷ []) (sym (append-nil (numbered 0 xs)))) in
    record {
      split = record {
        distinct = subst (λ zs. IsDistinct value_eq (keys_of zs)) (sym added) (pushed-distinct (numbered 0 xs ++ keyed) key v is.distinct absent);
        longest = subst (λ zs. slice_get (keys_of zs) 0 ≢ Some (Int (pos (length ys + 1)))) (sym empty) (λ e. cc);
        few = omega (arith, size, room);
      };
      added = added;
    }

pub first-pushed : (keyed : Rows) (key v next : Value) → slice_get (keys_of keyed) 0 ≢ Some next → (length keyed ≡ 0 → key ≢ next) → slice_get (keys_of (keyed ++ (key, v) ∷ [])) 0 ≢ Some next
first-pushed [] key v next before other = λ e. other refl (let same : key ≡ next = cc in same)
first-pushed (row ∷ rows) key v next before other = before

pub keyed-pushed : (xs : List Value) (keyed keyed' : Rows) (is : AreSplit xs keyed) (key v : Value) → IsAbsent (numbered 0 xs ++ keyed) key → keyed' ≡ keyed ++ (key, v) ∷ [] → (length keyed ≡ 0 → key ≢ Int (pos (length xs + 1))) → length xs + length keyed + 1 < 2 ^ 63 → IsPushed xs keyed xs keyed' key v
keyed-pushed xs keyed keyed' is key v absent pushed other room =
    let size : length keyed' ≡ length keyed + 1 = ap length pushed ∙ length-append keyed ((key, v) ∷ []) in
    let added : numbered 0 xs ++ keyed' ≡ (numbered 0 xs ++ keyed) ++ (key, v) ∷ [] = ap (λ zs. numbered 0 xs ++ zs) pushed ∙ sym (append_assoc (numbered 0 xs) keyed ((key, v) ∷ [])) in
    record {
      split = record {
        distinct = subst (λ zs. IsDistinct value_eq (keys_of zs)) (sym added) (pushed-distinct (numbered 0 xs ++ keyed) key v is.distinct absent);
        longest = subst (λ zs. slice_get (keys_of zs) 0 ≢ Some (Int (pos (length xs + 1)))) (sym pushed) (first-pushed keyed key v (Int (pos (length xs + 1))) is.longest other);
        few = omega (arith, size, room);
      };
      added = added;
    }

-- ---- the array is the longest prefix under 1, 2, 3 and so on

key-of : (rows : Rows) (at : ℕ) (key v : Value) → slice_get rows at ≡ Some (key, v) → slice_get (keys_of rows) at ≡ Some key
key-of [] at key v found = cc
key-of (row ∷ rows) zero key v found = let same : row.0 ≡ key = cc in ap Some same
key-of (row ∷ rows) (suc at) key v found = key-of rows at key v found

after-all : (rows more : Rows) (n : ℕ) → n ≡ length rows → slice_get (keys_of (rows ++ more)) n ≡ slice_get (keys_of more) 0
after-all [] more n is = ap (slice_get (keys_of more)) is
after-all (row ∷ rows) more zero is = absurd (omega (arith, is))
after-all (row ∷ rows) more (suc n) is = after-all rows more n (omega (arith, is))

pub array-prefix : (xs : List Value) (keyed : Rows) → AreSplit xs keyed → IsNumberedPrefix (numbered 0 xs ++ keyed) (length xs)
array-prefix xs keyed is = record {
  within = omega (arith, length-append (numbered 0 xs) keyed, length-numbered 0 xs);
  numbered = λ i below. key-of (numbered 0 xs ++ keyed) i (Int (pos (i + 1))) (get_or xs i (Int (pos 0))) (get-left (numbered 0 xs) keyed i (Int (pos (i + 1)), get_or xs i (Int (pos 0))) (get-numbered 0 xs i (i + 1) (Int (pos 0)) below (omega arith)));
  ends = λ e. is.longest (sym (after-all (numbered 0 xs) keyed (length xs) (sym (length-numbered 0 xs))) ∙ e);
}

pub none-split : AreSplit [] []
unfolding IsDistinct
none-split = record { distinct = tt; longest = λ e. cc; few = omega arith }

pub array-row : (xs : List Value) (keyed : Rows) (at : ℕ) (key v : Value) → at < length xs → key ≡ Int (pos (at + 1)) → v ≡ get_or xs at v → slice_get (numbered 0 xs ++ keyed) at ≡ Some (key, v)
array-row xs keyed at key v within next held =
    get-left (numbered 0 xs) keyed at (key, v) (get-numbered 0 xs at (at + 1) v within (omega arith) ∙ ap (λ w. Some (Int (pos (at + 1)), w)) (sym held) ∙ ap (λ k. Some (k, v)) (sym next))

pub keyed-row : (xs : List Value) (keyed : Rows) (at place : ℕ) (row : Value × Value) → slice_get keyed place ≡ Some row → at ≡ length xs + place → slice_get (numbered 0 xs ++ keyed) at ≡ Some row
keyed-row xs keyed at place row found is =
    let same : length (numbered 0 xs) + place ≡ at = omega (arith, is, length-numbered 0 xs) in
    subst (λ n. slice_get (numbered 0 xs ++ keyed) n ≡ Some row) same (get-right (numbered 0 xs) keyed place row found)

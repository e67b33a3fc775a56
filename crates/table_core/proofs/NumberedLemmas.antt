-- Values under the integers from 1 on, and rows in which no key stands twice.
use Rattle.std.proofs.Common.{◌≡◌, ◌≢◌, ℕ, zero, suc, ◌+◌, ◌<◌, ◌≤◌, Bool, true, false, List, [], ◌∷◌, ◌++◌, length, get_or, take, filter, position, refl, sym, ◌∙◌, ap, arith, true≢false}
use Rattle.std.proofs.lemmas.Map.Keys.{IsDistinct-head, IsDistinct-tail}
use Rattle.std.proofs.lemmas.Iterator.Adapters.{position_from-zero}
use Rattle.std.proofs.lemmas.List.{take_more}
use Rattle.std.proofs.lemmas.List.Elements.{filter-append}
use Rattle.std.proofs.lemmas.Option.{slice_get_within, get_or_from_slice_get}
use Rattle.std.specs.Prelude.{pos, Some, None, slice_get, slice_set}
use Rattle.std.specs.List.{AllByRecursion, IsDistinct, position_from}
use Rattle.std.specs.Map.{keys_of, lookup, set_value}
use Rattle.table_core.specs.declared.value.Value.{Value}
use Rattle.table_core.specs.declared.value.Value.TheVariants.{Int}
use Rattle.table_core.specs.Places.{Rows, IsAbsent, numbered}
use Rattle.table_core.specs.Value.{value_eq}
use Rattle.table_core.proofs.ValueLemmas.{value_eq-equal, value_eq-refl}

-- ---- numbered values

pub length-numbered : (n : ℕ) (xs : List Value) → length (numbered n xs) ≡ length xs
length-numbered n [] = refl
length-numbered n (x ∷ xs) = ap suc (length-numbered (n + 1) xs)

pub get-numbered : (n : ℕ) (xs : List Value) (at k : ℕ) (d : Value) → at < length xs → k ≡ n + at + 1 → slice_get (numbered n xs) at ≡ Some (Int (pos k), get_or xs at d)
get-numbered n [] at k d within is = absurd (omega (arith, within))
get-numbered n (x ∷ xs) zero k d within is = let same : n + 1 ≡ k = omega (arith, is) in ap (λ m. Some (Int (pos m), x)) same
get-numbered n (x ∷ xs) (suc at) k d within is = get-numbered (n + 1) xs at k d (omega (arith, within)) (omega (arith, is))

pub set-numbered : (n : ℕ) (xs : List Value) (at k : ℕ) (v : Value) → at < length xs → k ≡ n + at + 1 → numbered n (slice_set xs at v) ≡ slice_set (numbered n xs) at (Int (pos k), v)
set-numbered n [] at k v within is = absurd (omega (arith, within))
set-numbered n (x ∷ xs) zero k v within is = let same : n + 1 ≡ k = omega (arith, is) in ap (λ m. (Int (pos m), v) ∷ numbered (n + 1) xs) same
set-numbered n (x ∷ xs) (suc at) k v within is = ap (λ rest. (Int (pos (n + 1)), x) ∷ rest) (set-numbered (n + 1) xs at k v (omega (arith, within)) (omega (arith, is)))

pub push-numbered : (n : ℕ) (xs : List Value) (k : ℕ) (v : Value) → k ≡ n + length xs + 1 → numbered n (xs ++ v ∷ []) ≡ numbered n xs ++ (Int (pos k), v) ∷ []
push-numbered n [] k v is = let same : n + 1 ≡ k = omega (arith, is) in ap (λ m. (Int (pos m), v) ∷ []) same
push-numbered n (x ∷ xs) k v is = ap (λ rest. (Int (pos (n + 1)), x) ∷ rest) (push-numbered (n + 1) xs k v (omega (arith, is)))

differs : (a b : Value) → (a ≡ b → ⊥) → (c : Bool) → value_eq a b ≡ c → c ≡ false
differs a b apart true e = absurd (apart (value_eq-equal a b e))
differs a b apart false e = refl

pub absent-numbered : (n : ℕ) (xs : List Value) (key : Value) → ((m : ℕ) → n ≤ m → m < n + length xs → key ≢ Int (pos (m + 1))) → IsAbsent (numbered n xs) key
absent-numbered n [] key apart = refl
absent-numbered n (x ∷ xs) key apart =
    let here : value_eq key (Int (pos (n + 1))) ≡ false = differs key (Int (pos (n + 1))) (apart n (omega arith) (omega arith)) _ refl in
    rw here (absent-numbered (n + 1) xs key (λ m from below. apart m (omega arith) (omega (arith, below))))

-- ---- where no key has two rows

-- the key of a later row is not that of the first
later-differs : (first : Value) (rows : Rows) (at : ℕ) (key value : Value) → AllByRecursion (λ k. value_eq first k ≡ false) (keys_of rows) → slice_get rows at ≡ Some (key, value) → value_eq key first ≡ false
later-differs first [] at key value all found = cc
later-differs first (row ∷ rows) zero key value all found =
    let same : row.0 ≡ key = cc in
    differs key first (λ e. true≢false (sym (value_eq-refl first) ∙ ap (value_eq first) (sym e ∙ sym same) ∙ all.0)) _ refl
later-differs first (row ∷ rows) (suc at) key value all found = later-differs first rows at key value all.1 found

pub lookup-found : (rows : Rows) (at : ℕ) (key value : Value) → IsDistinct value_eq (keys_of rows) → slice_get rows at ≡ Some (key, value) → lookup (value_eq key) rows ≡ Some value
lookup-found [] at key value distinct found = cc
lookup-found (row ∷ rows) zero key value distinct found =
    let same : row.0 ≡ key = cc in
    let here : value_eq key row.0 ≡ true = ap (value_eq key) same ∙ value_eq-refl key in
    rw here (let held : row.1 ≡ value = cc in ap Some held)
lookup-found (row ∷ rows) (suc at) key value distinct found =
    let skips = later-differs row.0 rows at key value (IsDistinct-head value_eq row.0 (keys_of rows) distinct) found in
    rw skips (lookup-found rows at key value (IsDistinct-tail value_eq row.0 (keys_of rows) distinct) found)

pub set-found : (rows : Rows) (at : ℕ) (key was value : Value) → IsDistinct value_eq (keys_of rows) → slice_get rows at ≡ Some (key, was) → slice_set rows at (key, value) ≡ set_value (value_eq key) rows value
set-found [] at key was value distinct found = cc
set-found (row ∷ rows) zero key was value distinct found =
    let same : row.0 ≡ key = cc in
    let here : value_eq key row.0 ≡ true = ap (value_eq key) same ∙ value_eq-refl key in
    rw here (ap (λ k. (k, value) ∷ rows) (sym same))
set-found (row ∷ rows) (suc at) key was value distinct found =
    let skips = later-differs row.0 rows at key was (IsDistinct-head value_eq row.0 (keys_of rows) distinct) found in
    rw skips (ap (λ rest. row ∷ rest) (set-found rows at key was value (IsDistinct-tail value_eq row.0 (keys_of rows) distinct) found))

from-found : (n : ℕ) (rows : Rows) (at : ℕ) (key value : Value) → IsDistinct value_eq (keys_of rows) → slice_get rows at ≡ Some (key, value) → position_from (value_eq key) n (keys_of rows) ≡ Some (n + at)
from-found n [] at key value distinct found = cc
from-found n (row ∷ rows) zero key value distinct found =
    let same : row.0 ≡ key = cc in
    let here : value_eq key row.0 ≡ true = ap (value_eq key) same ∙ value_eq-refl key in
    rw here (ap Some (omega arith))
from-found n (row ∷ rows) (suc at) key value distinct found =
    let skips = later-differs row.0 rows at key value (IsDistinct-head value_eq row.0 (keys_of rows) distinct) found in
    let same : n + 1 + at ≡ n + suc at = omega arith in
    rw skips (from-found (n + 1) rows at key value (IsDistinct-tail value_eq row.0 (keys_of rows) distinct) found ∙ ap Some same)

from-absent : (n : ℕ) (rows : Rows) (key : Value) → IsAbsent rows key → position_from (value_eq key) n (keys_of rows) ≡ None
from-absent n [] key absent = refl
from-absent n (row ∷ rows) key absent =
    let skips : value_eq key row.0 ≡ false = grind (arith) in
    let rest : IsAbsent rows key = grind (arith) in
    rw skips (from-absent (n + 1) rows key rest)

pub position-found : (rows : Rows) (at : ℕ) (key value : Value) → IsDistinct value_eq (keys_of rows) → slice_get rows at ≡ Some (key, value) → position (value_eq key) (keys_of rows) ≡ Some at
position-found rows at key value distinct found =
    let same : 0 + at ≡ at = omega arith in
    position_from-zero (value_eq key) (keys_of rows) ∙ from-found 0 rows at key value distinct found ∙ ap Some same

pub position-absent : (rows : Rows) (key : Value) → IsAbsent rows key → position (value_eq key) (keys_of rows) ≡ None
position-absent rows key absent = position_from-zero (value_eq key) (keys_of rows) ∙ from-absent 0 rows key absent

pub absent-before : (rows : Rows) (at : ℕ) (key value : Value) → IsDistinct value_eq (keys_of rows) → slice_get rows at ≡ Some (key, value) → IsAbsent (take at rows) key
absent-before [] at key value distinct found = cc
absent-before (row ∷ rows) zero key value distinct found = refl
absent-before (row ∷ rows) (suc at) key value distinct found =
    let skips = later-differs row.0 rows at key value (IsDistinct-head value_eq row.0 (keys_of rows) distinct) found in
    rw skips (absent-before rows at key value (IsDistinct-tail value_eq row.0 (keys_of rows) distinct) found)

pub filter-taken : (p : Value × Value → Bool) (rows : Rows) (at : ℕ) (row : Value × Value) → slice_get rows at ≡ Some row → filter p (take (at + 1) rows) ≡ filter p (take at rows) ++ filter p (row ∷ [])
filter-taken p rows at row found =
    let step : take (at + 1) rows ≡ take at rows ++ row ∷ [] = take_more rows at row (slice_get_within rows at row found) ∙ ap (λ r. take at rows ++ r ∷ []) (get_or_from_slice_get rows at row row found) in
    ap (filter p) step ∙ filter-append p (take at rows) (row ∷ [])

pub distinct-right : (xs ys : Rows) → IsDistinct value_eq (keys_of (xs ++ ys)) → IsDistinct value_eq (keys_of ys)
distinct-right [] ys distinct = distinct
distinct-right (x ∷ xs) ys distinct = distinct-right xs ys (IsDistinct-tail value_eq x.0 (keys_of (xs ++ ys)) distinct)

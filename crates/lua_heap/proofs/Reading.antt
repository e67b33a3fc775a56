-- Strings by their numbers: what stands for a number without a string is as long as no string, and no two such are the same.
use Rattle.std.proofs.Common.{◌≡◌, ⊎_elim, ℕ, zero, suc, ◌+◌, ◌<◌, ◌≤◌, List, [], ◌∷◌, ◌++◌, length, map, Option, Some, None, Bool, true, false, refl, ap, sym, ◌∙◌, arith}
use Rattle.std.specs.Prelude.{slice_get, bytes_eq, ◌==◌}
use Rattle.std.proofs.lemmas.Bool.Decides.{eqb_tells}
use Rattle.std.proofs.lemmas.Option.{slice_get_within}
use Rattle.std.proofs.lemmas.Slice.Eq.{bytes_eq-Decides}
use Rattle.int_core.specs.Value.{known, string, greatest_string}
use Rattle.table_core.specs.declared.value.StrId.{StrId}
use Rattle.table_core.specs.declared.value.Value.{Value as Kept}
use Rattle.table_core.specs.declared.value.Value.TheVariants.{Str}
use Rattle.machine_sound.specs.Sound.{Sizes, Each, Valid}
use Rattle.list_laws.proofs.Items.{get_old}
use Rattle.lua_heap.specs.Strings.{AreApart, AreShort}
use Rattle.lua_heap.specs.Reading.{zeros, too_long, text_or, text_of, value, row}

pub length_zeros : (n : ℕ) → length (zeros n) ≡ n
length_zeros zero = refl
length_zeros (suc n) = ap suc (length_zeros n)

too_long_is : (n : ℕ) → length (too_long n) ≡ suc greatest_string + n
unfolding too_long
too_long_is n = length_zeros (suc greatest_string + n)

-- a sound value names only strings that are there
string_there : (z : Sizes) (texts : List (List ℕ)) (id : StrId) → Valid z (value texts (Str id)) → (s : List ℕ) × (slice_get texts id.0 ≡ Some s)
string_there z texts id h = by (slice_get texts id.0) refl h
  where
    by : (o : Option (List ℕ)) → slice_get texts id.0 ≡ o → length (text_or id.0 o) ≤ greatest_string → (s : List ℕ) × (slice_get texts id.0 ≡ Some s)
    by (Some s) e h = (s, e)
    by None e h = let l = too_long_is id.0 in absurd (omega (arith, l, h))

pub strings_there : (z : Sizes) (texts : List (List ℕ)) (id : StrId) → Valid z (value texts (Str id)) → id.0 < length texts
strings_there z texts id h = let t = string_there z texts id h in slice_get_within texts id.0 t.0 t.1

-- so a new string changes no sound value
pub value_stays : (z : Sizes) (texts : List (List ℕ)) (s : List ℕ) (v : Kept) → Valid z (value texts v) → value (texts ++ s ∷ []) v ≡ value texts v
value_stays z texts s (Str id) h =
    let t = string_there z texts id h in
    ap (λ o. known (string (text_or id.0 o))) (get_old texts (s ∷ []) id.0 t.0 t.1) ∙ sym (ap (λ o. known (string (text_or id.0 o))) t.1)
value_stays z texts s _ h = refl

pub values_stay : (z : Sizes) (texts : List (List ℕ)) (s : List ℕ) (vs : List Kept) → Each (Valid z) (map (value texts) vs) → map (value (texts ++ s ∷ [])) vs ≡ map (value texts) vs
values_stay z texts s [] h = refl
values_stay z texts s (v ∷ vs) h =
    ap (λ w. w ∷ map (value (texts ++ s ∷ [])) vs) (value_stays z texts s v (h 0 (value texts v) refl))
    ∙ ap (λ l. value texts v ∷ l) (values_stay z texts s vs (λ i w e. h (suc i) w e))

pub rows_stay : (z : Sizes) (texts : List (List ℕ)) (s : List ℕ) (rs : List (Kept × Kept)) → Each (λ r. Valid z r.0 × Valid z r.1) (map (row texts) rs) → map (row (texts ++ s ∷ [])) rs ≡ map (row texts) rs
rows_stay z texts s [] h = refl
rows_stay z texts s (r ∷ rs) h =
    let k = h 0 (row texts r) refl in
    ap (λ a. (a, value (texts ++ s ∷ []) r.1) ∷ map (row (texts ++ s ∷ [])) rs) (value_stays z texts s r.0 k.0)
    ∙ ap (λ b. (value texts r.0, b) ∷ map (row (texts ++ s ∷ [])) rs) (value_stays z texts s r.1 k.1)
    ∙ ap (λ l. row texts r ∷ l) (rows_stay z texts s rs (λ i w e. h (suc i) w e))

-- two numbers are those of one string where they stand for the same bytes
module _ (texts : List (List ℕ)) (a : AreApart texts) (s : AreShort texts) where
  one_number : (i j : ℕ) (o p : Option (List ℕ)) → slice_get texts i ≡ o → slice_get texts j ≡ p → text_or i o ≡ text_or j p → i ≡ j
  one_number i j (Some t) (Some u) e f q = a i j t e (f ∙ ap Some (sym q))
  one_number i j (Some t) None e f q = let l = s i t e in let m = too_long_is j in let k = ap length q in absurd (omega (arith, l, m, k))
  one_number i j None (Some u) e f q = let l = s j u f in let m = too_long_is i in let k = ap length q in absurd (omega (arith, l, m, k))
  one_number i j None None e f q = let m = too_long_is i in let n = too_long_is j in let k = ap length q in omega (arith, m, n, k)

  pub strings_alike : (i j : ℕ) → bytes_eq (text_of texts i) (text_of texts j) ≡ (i == j)
  strings_alike i j = by (bytes_eq (text_of texts i) (text_of texts j)) refl
    where
      by : (b : Bool) → bytes_eq (text_of texts i) (text_of texts j) ≡ b → bytes_eq (text_of texts i) (text_of texts j) ≡ (i == j)
      by true e =
          let q : i ≡ j = one_number i j (slice_get texts i) (slice_get texts j) refl refl ((bytes_eq-Decides (text_of texts i) (text_of texts j)).0 e) in
          ⊎_elim (λ t. e ∙ sym t.0) (λ t. absurd (t.1 q)) (eqb_tells i j)
      by false e = ⊎_elim
          (λ t. absurd (differ e ((bytes_eq-Decides (text_of texts i) (text_of texts j)).1 (ap (text_of texts) t.1)))) (λ t. e ∙ sym t.0) (eqb_tells i j)
        where
          differ : {b : Bool} → b ≡ false → b ≡ true → ⊥
          differ e f = absurd (cc)

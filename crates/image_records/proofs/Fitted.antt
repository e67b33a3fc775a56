-- Tests over all records, and cells that are open at one place.
use Rattle.std.proofs.Common.{◌≡◌, ℕ, zero, suc, ◌+◌, ◌<◌, List, [], ◌∷◌, ◌++◌, map, drop, length, get_or, Bool, true, false, refl, sym, ap, subst, ◌∙◌, arith}
use Rattle.std.specs.Prelude.{◌-◌, ◌≤◌, ◌||◌, ◌&&◌, not, if◌then◌else◌, nat_eq, slice_get, Some}
use Rattle.std.specs.List.{list_all, list_any}
use Rattle.std.proofs.lemmas.Bool.{and_parts}
use Rattle.std.proofs.lemmas.Bool.Decides.{nat_tests}
use Rattle.std.proofs.lemmas.List.Folds.{list_any-append}
use Rattle.std.proofs.Math.Path.{fun_ext}
use Rattle.indexmap.specs.IndexSet.{insert_key}
use Rattle.image_core.specs.Image.{Record, open_record}
use Rattle.image_sound.specs.Fitting.{is_open_record, opened_again, opened_once}
use Rattle.image_records.specs.declared.fitting.OpenPlace.{OpenPlace}
use Rattle.image_records.specs.contracts.fitting.OpenPlacePartialEq.TheImpl as place_impl
use Rattle.image_records.specs.Fits.{is_open, is_place, HoldsPlaces, OpensAnew}
use Rattle.int_core.proofs.Equality.{number_is}

module _ {A B : Type 0} (view : A → B) where
  -- the item at a place and those behind it
  pub drop_at : (xs : List A) (i : ℕ) (x : A) → i < length xs → x ≡ get_or xs i x → map view (drop i xs) ≡ view x ∷ map view (drop (suc i) xs)
  drop_at [] i x h e = absurd (omega (arith, h))
  drop_at (y ∷ xs) zero x h e = ap (λ z. view z ∷ map view xs) (sym e)
  drop_at (y ∷ xs) (suc i) x h e = drop_at xs i x (omega (arith, h)) e

  pub passed : (P : B → Bool) (xs : List A) (i : ℕ) (x : A) → i < length xs → x ≡ get_or xs i x → P (view x) ≡ true → list_all P (map view (drop (i + 1) xs)) ≡ list_all P (map view (drop i xs))
  passed P xs i x h e t =
      let on : i + 1 ≡ suc i = omega arith in
      ap (λ n. list_all P (map view (drop n xs))) on ∙ sym (ap (list_all P) (drop_at xs i x h e) ∙ ap (λ b. b && list_all P (map view (drop (suc i) xs))) t)

  pub missed : (P : B → Bool) (xs : List A) (i : ℕ) (x : A) → i < length xs → x ≡ get_or xs i x → P (view x) ≡ false → list_all P (map view (drop i xs)) ≡ false
  missed P xs i x h e t = ap (list_all P) (drop_at xs i x h e) ∙ ap (λ b. b && list_all P (map view (drop (suc i) xs))) t

  pub all_passed : (P : B → Bool) (xs : List A) (i : ℕ) → length xs ≤ i → list_all P (map view (drop i xs)) ≡ true
  all_passed P [] zero e = refl
  all_passed P [] (suc i) e = refl
  all_passed P (x ∷ xs) zero e = absurd (omega (arith, e))
  all_passed P (x ∷ xs) (suc i) e = all_passed P xs i (omega (arith, e))

module _ {A B : Type 0} (view : A → B) where
  drop_got : (xs : List A) (i : ℕ) (x : A) → slice_get xs i ≡ Some x → map view (drop i xs) ≡ view x ∷ map view (drop (suc i) xs)
  drop_got [] i x e = absurd (cc)
  drop_got (y ∷ xs) zero x e = ap (λ z. view z ∷ map view xs) (some_so e)
    where
      some_so : {A : Type 0} {a b : A} → Some a ≡ Some b → a ≡ b
      some_so e = cc
  drop_got (y ∷ xs) (suc i) x e = drop_got xs i x e

  -- those behind a place, and the one in front of it
  pub drop_back : (xs : List A) (left : ℕ) (x : A) → 0 < left → slice_get xs (left - 1) ≡ Some x → map view (drop (left - 1) xs) ≡ view x ∷ map view (drop left xs)
  drop_back xs left x h e =
      let on : suc (left - 1) ≡ left = omega (arith, h) in
      drop_got xs (left - 1) x e ∙ ap (λ n. view x ∷ map view (drop n xs)) on

no_and : (a : Bool) → a && false ≡ false
no_and true = refl
no_and false = refl

module _ {A : Type 0} (view : A → Record) where
  pub once_dropped : (xs : List A) (i : ℕ) → opened_once (map view (drop i xs)) ≡ false → opened_once (map view xs) ≡ false
  once_dropped xs zero e = e
  once_dropped [] (suc i) e = e
  once_dropped (x ∷ xs) (suc i) e = ap (λ b. not (opened_again (view x) (map view xs)) && b) (once_dropped xs i e) ∙ no_and _

  once_more : (r : Record) (rs all : List Record) (told b : Bool) → all ≡ r ∷ rs → told ≡ not (opened_again r rs) → opened_once rs ≡ true → told ≡ b → opened_once all ≡ b
  once_more r rs all told b is t once e =
      ap opened_once is ∙ (ap (λ o. not (opened_again r rs) && o) once ∙ (yes (not (opened_again r rs)) ∙ (sym t ∙ e)))
    where
      yes : (a : Bool) → a && true ≡ a
      yes true = refl
      yes false = refl

  pub back_once : (xs : List A) (left : ℕ) (x : A) (told : Bool) → 0 < left → slice_get xs (left - 1) ≡ Some x → told ≡ not (opened_again (view x) (map view (drop left xs)))
      → opened_once (map view (drop left xs)) ≡ true → told ≡ true → opened_once (map view (drop (left - 1) xs)) ≡ true
  back_once xs left x told h e t once is = once_more (view x) (map view (drop left xs)) (map view (drop (left - 1) xs)) told true (drop_back view xs left x h e) t once is

  pub back_twice : (xs : List A) (left : ℕ) (x : A) (told : Bool) → 0 < left → slice_get xs (left - 1) ≡ Some x → told ≡ not (opened_again (view x) (map view (drop left xs)))
      → opened_once (map view (drop left xs)) ≡ true → told ≡ false → false ≡ opened_once (map view xs)
  back_twice xs left x told h e t once is =
      sym (once_dropped xs (left - 1) (once_more (view x) (map view (drop left xs)) (map view (drop (left - 1) xs)) told false (drop_back view xs left x h e) t once is))

  pub all_once : (xs : List A) (left : ℕ) → left ≤ 0 → opened_once (map view (drop left xs)) ≡ true → true ≡ opened_once (map view xs)
  all_once xs zero h e = sym e
  all_once xs (suc n) h e = absurd (omega (arith, h))

-- places

abbrev pub place_eq : OpenPlace → OpenPlace → Bool
place_eq = (place_impl.ghosts).eq

place_same : (p q : OpenPlace) → place_eq p q ≡ is_place p.coroutine p.frame p.register q
place_same p q = refl

module _ (places : List OpenPlace) (rs : List Record) (p : OpenPlace) (holds : HoldsPlaces places rs) where
  held : list_any (place_eq p) places ≡ list_any (is_open_record p.coroutine p.frame p.register) rs
  held = ap (λ q. list_any q places) (fun_ext (place_same p)) ∙ holds.same p.coroutine p.frame p.register

  or_held : list_any (is_open_record p.coroutine p.frame p.register) rs ≡ true → (co frame register : ℕ) (b : Bool) → is_place co frame register p ≡ b
      → list_any (is_place co frame register) places ≡ (b || list_any (is_open_record co frame register) rs)
  or_held there co frame register false e = holds.same co frame register
  or_held there co frame register true e =
      let one = and_parts (nat_eq co p.coroutine) (nat_eq frame p.frame && nat_eq register p.register) e in
      let two = and_parts (nat_eq frame p.frame) (nat_eq register p.register) one.1 in
      holds.same co frame register
      ∙ (ap (λ n. list_any (is_open_record n frame register) rs) (number_is _ _ one.0)
      ∙ (ap (λ n. list_any (is_open_record p.coroutine n register) rs) (number_is _ _ two.0)
      ∙ (ap (λ n. list_any (is_open_record p.coroutine p.frame n) rs) (number_is _ _ two.1) ∙ there)))

  turned : (a b : Bool) → (a || (b || false)) ≡ (b || a)
  turned true true = refl
  turned true false = refl
  turned false true = refl
  turned false false = refl

  more_held : (new : List OpenPlace) → new ≡ insert_key place_eq places p → HoldsPlaces new (open_record p.coroutine p.frame p.register ∷ rs)
  more_held new e = record { same = λ co frame register. ap (list_any (is_place co frame register)) e ∙ by co frame register (list_any (place_eq p) places) refl }
    where
      by : (co frame register : ℕ) (b : Bool) → list_any (place_eq p) places ≡ b
          → list_any (is_place co frame register) (if b then places else places ++ p ∷ []) ≡ (is_place co frame register p || list_any (is_open_record co frame register) rs)
      by co frame register true e = or_held (sym held ∙ e) co frame register (is_place co frame register p) refl
      by co frame register false e =
          list_any-append (is_place co frame register) places (p ∷ [])
          ∙ (turned (list_any (is_place co frame register) places) (is_place co frame register p) ∙ ap (λ b. is_place co frame register p || b) (holds.same co frame register))

  pub opens_anew : (new : List OpenPlace) (told : Bool) → told ≡ not (list_any (place_eq p) places) → new ≡ insert_key place_eq places p
      → OpensAnew new (open_record p.coroutine p.frame p.register) rs told
  opens_anew new told t e = record { told = t ∙ ap not held; holds = more_held new e }

pub place_anew : (places new : List OpenPlace) (rs : List Record) (p : OpenPlace) (r : Record) (told : Bool) → HoldsPlaces places rs → r ≡ open_record p.coroutine p.frame p.register
    → told ≡ not (list_any (place_eq p) places) → new ≡ insert_key place_eq places p → OpensAnew new r rs told
place_anew places new rs p r told holds is t e = subst (λ r. OpensAnew new r rs told) (sym is) (opens_anew places rs p holds new told t e)

pub no_place : (places : List OpenPlace) (rs : List Record) (r : Record) → HoldsPlaces places rs → is_open r ≡ false → OpensAnew places r rs true
no_place places rs (open_record co frame register) holds h = absurd (cc)
no_place places rs _ holds h = record { told = refl; holds = record { same = holds.same } }

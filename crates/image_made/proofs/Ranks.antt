-- The numbers of objects, as records are passed.
use Rattle.std.proofs.Common.{◌≡◌, ℕ, zero, suc, ◌+◌, ◌<◌, ◌≤◌, ⊎_elim, List, [], ◌∷◌, ◌++◌, map, length, Some, Bool, true, false, cond, refl, sym, ap, ◌∙◌, subst, arith, length-append}
use Rattle.std.specs.Prelude.{slice_get, get_or}
use Rattle.std.specs.Option.{option_map}
use Rattle.std.proofs.lemmas.List.{length-map}
use Rattle.std.proofs.lemmas.Option.{slice_get-map, slice_get_read}
use Rattle.int_core.specs.Value.{a_table, a_function, a_coroutine}
use Rattle.image_core.specs.Image.{Record}
use Rattle.image_core.specs.Loading.{rank, is_of, is_cell, Target}
use Rattle.image_core.proofs.Lists.{get_split}
use Rattle.lua_heap.specs.declared.world.World.{World as Memory}
use Rattle.image_made.specs.declared.place.Place.{Place}
use Rattle.image_made.specs.declared.place.Next.{Next}
use Rattle.image_made.specs.Places.{IsPlace, AreFirstPlaces, IsNext, Numbers, Starts}

module _ {A : Type 0} (is : A → Bool) where
  rank_none : (xs : List A) → rank is xs 0 ≡ 0
  rank_none [] = refl
  rank_none (x ∷ xs) = refl

  swapped : (a b : Bool) (r : ℕ) → cond a (suc (cond b (suc r) r)) (cond b (suc r) r) ≡ cond b (suc (cond a (suc r) r)) (cond a (suc r) r)
  swapped true true r = refl
  swapped true false r = refl
  swapped false true r = refl
  swapped false false r = refl

  pub rank_more : (xs : List A) (n : ℕ) (x : A) → slice_get xs n ≡ Some x → rank is xs (suc n) ≡ cond (is x) (suc (rank is xs n)) (rank is xs n)
  rank_more [] n x e = absurd (cc)
  rank_more (y ∷ xs) zero x e =
      let same : y ≡ x = cc in
      ap (λ r. cond (is y) (suc r) r) (rank_none xs) ∙ ap (λ z. cond (is z) 1 0) same
  rank_more (y ∷ xs) (suc n) x e = ap (λ r. cond (is y) (suc r) r) (rank_more xs n x e) ∙ swapped (is y) (is x) (rank is xs n)

  pub counted : (xs : List A) (n : ℕ) (x : A) (first old new : ℕ) → slice_get xs n ≡ Some x → old ≡ first + rank is xs n → new ≡ cond (is x) (old + 1) old → new ≡ first + rank is xs (n + 1)
  counted xs n x first old new e is_old is_new =
      let on : n + 1 ≡ suc n = omega arith in
      by (is x) is_new (ap (rank is xs) on ∙ rank_more xs n x e)
    where
      by : (b : Bool) → new ≡ cond b (old + 1) old → rank is xs (n + 1) ≡ cond b (suc (rank is xs n)) (rank is xs n) → new ≡ first + rank is xs (n + 1)
      by true h k = omega (arith, h, k, is_old)
      by false h k = omega (arith, h, k, is_old)

module _ (T : Target) (rs : List Record) (n : ℕ) (r : Record) (there : slice_get rs n ≡ Some r) where
  pub next_more : (old new : Next) (place : Place) → IsNext T rs n old → Numbers old new r place → IsNext T rs (n + 1) new
  next_more old new place at numbers = record {
    tables = counted (is_of a_table) rs n r T.tables old.tables new.tables there at.tables numbers.tables;
    funcs = counted (is_of a_function) rs n r T.functions old.funcs new.funcs there at.funcs numbers.funcs;
    cells = counted is_cell rs n r T.cells old.cells new.cells there at.cells numbers.cells;
    coros = counted (is_of a_coroutine) rs n r T.coroutines old.coros new.coros there at.coros numbers.coros;
  }

  pub places_more : (places new : List Place) (place : Place) → AreFirstPlaces T rs n places → IsPlace T rs n r place → new ≡ places ++ place ∷ [] → AreFirstPlaces T rs (n + 1) new
  places_more places new place are is e = record {
    count = ap length e ∙ (length-append places (place ∷ []) ∙ ap (λ m. m + 1) are.count);
    each = λ i p h. ⊎_elim (λ s. are.each i p s.0) (λ s. last i p s.0 s.1 s.2) (get_split places (place ∷ []) i p (ap (λ ps. slice_get ps i) (sym e) ∙ h));
  }
    where
      last : (i : ℕ) (p : Place) (m : ℕ) → i ≡ length places + m → slice_get (place ∷ []) m ≡ Some p → (q : Record) × (slice_get rs i ≡ Some q) × IsPlace T rs i q p
      last i p zero h k =
          let count = are.count in
          let at : n ≡ i = omega (arith, count, h) in
          let same : place ≡ p = cc in
          subst (λ i. (q : Record) × (slice_get rs i ≡ Some q) × IsPlace T rs i q p) at (r, there, subst (λ p. IsPlace T rs n r p) same is)
      last i p (suc m) h k = absurd (cc)

pub next_first : (T : Target) (W : Memory) (rs : List Record) (next : Next) → Starts T W → next.tables ≡ length W.tables.objects → next.funcs ≡ length W.funcs.objects → next.cells ≡ length W.cells.objects
    → next.coros ≡ length W.coros.objects → IsNext T rs 0 next
next_first T W rs next s tables funcs cells coros = record {
  tables = first (is_of a_table) T.tables next.tables (tables ∙ sym s.tables);
  funcs = first (is_of a_function) T.functions next.funcs (funcs ∙ sym s.functions);
  cells = first is_cell T.cells next.cells (cells ∙ sym s.cells);
  coros = first (is_of a_coroutine) T.coroutines next.coros (coros ∙ sym s.coroutines);
}
  where
    first : (is : Record → Bool) (count n : ℕ) → n ≡ count → n ≡ count + rank is rs 0
    first is count n e = let none = rank_none is rs in omega (arith, none, e)

pub no_places : (T : Target) (rs : List Record) → AreFirstPlaces T rs 0 []
no_places T rs = record { count = refl; each = λ n place e. absurd (cc) }

pub record_there : {A B : Type 0} (view : A → B) (xs : List A) (i : ℕ) (x : A) → i < length xs → x ≡ get_or xs i x → slice_get (map view xs) i ≡ Some (view x)
record_there view xs i x within item = slice_get-map view xs i ∙ ap (option_map view) (slice_get_read xs (length xs) i x refl within item)

pub all_placed : {A : Type 0} (view : A → Record) (T : Target) (xs : List A) (i : ℕ) (places : List Place) → i ≤ length xs → length xs ≤ i → AreFirstPlaces T (map view xs) i places
    → AreFirstPlaces T (map view xs) (length (map view xs)) places
all_placed view T xs i places most least are = let same = length-map xs view in let at : i ≡ length (map view xs) = omega (arith, same, most, least) in subst (λ n. AreFirstPlaces T (map view xs) n places) at are

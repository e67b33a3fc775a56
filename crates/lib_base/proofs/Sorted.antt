-- Insertion into a list in order, by any total order: whatever sorts a list gives the list that insertion gives.
use Rattle.std.proofs.Common.{◌≡◌, ℕ, zero, suc, ◌+◌, ◌<◌, List, [], ◌∷◌, Bool, true, false, length, refl, ap, sym, subst, ◌∙◌, arith, get_or, set, ⊎_elim}
use Rattle.std.specs.Prelude.{cond, not, map, slice_index_or, nat_eq, nat_lt, ℤ, pos, negsuc, int_le, int_lt}
use Rattle.std.specs.List.{swap}
use Rattle.std.specs.List.Sorted.{IsPermutation, IsSortedBy}
use Rattle.std.specs.Cmp.{IsTotalOrder}
use Rattle.std.specs.Cmp.Lexicographic.{slice_cmp}
use Rattle.std.specs.FinMap.{IsAntisymmetric, int_cmp-IsAntisymmetric, nat_cmp-IsAntisymmetric, slice_cmp-IsAntisymmetric}
use Rattle.std.specs.Ordering.{is_lt, int_cmp, nat_cmp, ordering_reverse, ordering_then}
use Rattle.int_core.specs.Value.{Plain, integer, string}
use Rattle.int_core.specs.Operations.{before}
use Rattle.library_rows.specs.Base.{in_order, put_in_order, sorted}
use Rattle.std.specs.declared.cmp.Ordering.{Ordering}
use Rattle.std.specs.declared.cmp.Ordering.TheVariants.{Less, Equal, Greater}
use Rattle.std.proofs.lemmas.Cmp.{int_cmp_total, nat_list_cmp_total}
use Rattle.std.proofs.lemmas.Bool.{cases_eq}
use Rattle.std.proofs.lemmas.Bool.Decides.{nat_tests}
use Rattle.std.proofs.lemmas.List.{get_or-set_same, get_or-set_other, length-set}
use Rattle.std.proofs.lemmas.List.Edits.{swap_is}
use Rattle.std.proofs.lemmas.List.Sorted.{IsPermutation-keeps}

module _ {A : Type 0} (le : A → A → Bool) where
  pub put : A → List A → List A
  put a [] = a ∷ []
  put a (b ∷ bs) = cond (le a b) (a ∷ b ∷ bs) (b ∷ put a bs)

  pub insertion : List A → List A
  insertion [] = []
  insertion (a ∷ rest) = put a (insertion rest)

  take_out : A → List A → List A
  take_out a [] = []
  take_out a (b ∷ bs) = cond (le a b) bs (b ∷ take_out a bs)

  -- one that may stand before a list goes before it
  abbrev pub Before : A → List A → Type 0
  Before a [] = Unit {0}
  Before a (b ∷ bs) = le a b ≡ true

  abbrev pub Rises : List A → Type 0
  Rises [] = Unit {0}
  Rises (a ∷ rest) = Before a rest × Rises rest

  first : (a b : A) (bs : List A) → le a b ≡ true → put a (b ∷ bs) ≡ a ∷ b ∷ bs
  unfolding put
  first a b bs e = ap (λ t. cond t (a ∷ b ∷ bs) (b ∷ put a bs)) e

  later : (a b : A) (bs : List A) → le a b ≡ false → put a (b ∷ bs) ≡ b ∷ put a bs
  unfolding put
  later a b bs e = ap (λ t. cond t (a ∷ b ∷ bs) (b ∷ put a bs)) e

  in_front : (a : A) (l : List A) → Before a l → put a l ≡ a ∷ l
  unfolding put
  in_front a [] h = refl
  in_front a (b ∷ bs) h = first a b bs h

  pub risen : (l : List A) → Rises l → insertion l ≡ l
  unfolding insertion
  risen [] h = refl
  risen (a ∷ l) h = ap (put a) (risen l h.1) ∙ in_front a l h.0

  differ : {P : Type 0} (s : Bool) → s ≡ true → s ≡ false → P
  differ true e f = absurd (cc)
  differ false e f = absurd (cc)

  module _ (total : (a b : A) → le a b ≡ false → le b a ≡ true) (anti : (a b : A) → le a b ≡ true → le b a ≡ true → a ≡ b) (trans : (a b c : A) → le a b ≡ true → le b c ≡ true → le a c ≡ true) where
    itself : (a : A) → le a a ≡ true
    itself a = by (le a a) refl
      where
        by : (s : Bool) → le a a ≡ s → le a a ≡ true
        by true e = e
        by false e = total a a e

    both_front : (a b : A) (l : List A) → Before a l → Before b l → put a (put b l) ≡ put b (put a l)
    both_front a b l h k = by (le a b) refl (le b a) refl
      where
        by : (s : Bool) → le a b ≡ s → (t : Bool) → le b a ≡ t → put a (put b l) ≡ put b (put a l)
        by true e true f = subst (λ b. put a (put b l) ≡ put b (put a l)) (anti a b e f) refl
        by true e false f =
            ap (put a) (in_front b l k) ∙ first a b l e
            ∙ sym (ap (put b) (in_front a l h) ∙ later b a l f ∙ ap (λ l. a ∷ l) (in_front b l k))
        by false e true f =
            ap (put a) (in_front b l k) ∙ later a b l e ∙ ap (λ l. b ∷ l) (in_front a l h)
            ∙ sym (ap (put b) (in_front a l h) ∙ first b a l f)
        by false e false f = differ (le b a) (total a b e) f

    pub put_put : (a b : A) (l : List A) → put a (put b l) ≡ put b (put a l)
    put_put a b [] = both_front a b [] tt tt
    put_put a b (x ∷ l) = by (put_put a b l) (le a x) refl (le b x) refl
      where
        past : (a b : A) → le a x ≡ true → le b x ≡ false → put a (put b (x ∷ l)) ≡ put b (put a (x ∷ l))
        past a b e f =
            ap (put a) (later b x l f) ∙ first a x (put b l) e
            ∙ sym (ap (put b) (first a x l e) ∙ later b a (x ∷ l) (not_before (le b a) refl) ∙ ap (λ l. a ∷ l) (later b x l f))
          where
            not_before : (s : Bool) → le b a ≡ s → le b a ≡ false
            not_before true g = differ (le b x) (trans b a x g e) f
            not_before false g = g

        by : put a (put b l) ≡ put b (put a l) → (s : Bool) → le a x ≡ s → (t : Bool) → le b x ≡ t → put a (put b (x ∷ l)) ≡ put b (put a (x ∷ l))
        by r true e true f = both_front a b (x ∷ l) e f
        by r true e false f = past a b e f
        by r false e true f = sym (past b a f e)
        by r false e false f =
            ap (put a) (later b x l f) ∙ later a x (put b l) e ∙ ap (λ l. x ∷ l) r
            ∙ sym (ap (put b) (later a x l e) ∙ later b x (put a l) f)

    -- what was put in is found again
    taken : (a : A) (l : List A) → take_out a (put a l) ≡ l
    unfolding take_out put
    taken a [] = ap (λ t. cond t [] (a ∷ [])) (itself a)
    taken a (b ∷ bs) = by (taken a bs) (le a b) refl
      where
        by : take_out a (put a bs) ≡ bs → (s : Bool) → le a b ≡ s → take_out a (put a (b ∷ bs)) ≡ b ∷ bs
        by r true e = ap (take_out a) (first a b bs e) ∙ ap (λ t. cond t (b ∷ bs) (a ∷ take_out a (b ∷ bs))) (itself a)
        by r false e = ap (take_out a) (later a b bs e) ∙ ap (λ t. cond t (put a bs) (b ∷ take_out a (put a bs))) e ∙ ap (λ l. b ∷ l) r

    put_once : (a : A) (xs ys : List A) → put a xs ≡ put a ys → xs ≡ ys
    put_once a xs ys e = sym (taken a xs) ∙ ap (take_out a) e ∙ taken a ys

    -- an item in another's place
    set_put : (l : List A) (i : ℕ) (x d : A) → i < length l → put (get_or l i d) (insertion (set l i x)) ≡ put x (insertion l)
    unfolding insertion
    set_put [] i x d h = absurd (omega (arith, h))
    set_put (y ∷ l) zero x d h = put_put y x (insertion l)
    set_put (y ∷ l) (suc i) x d h =
        put_put (get_or l i d) y (insertion (set l i x)) ∙ ap (put y) (set_put l i x d (omega (arith, h))) ∙ put_put y x (insertion l)

    swapped : (l : List A) (i j : ℕ) → i < length l → j < length l → insertion (swap l i j) ≡ insertion l
    swapped [] i j p q = absurd (omega (arith, p))
    swapped (d ∷ l') i j p q = put_once b (insertion (swap l i j)) (insertion l)
        (ap (λ l. put b (insertion l)) (sym (swap_is l i j d p q))
        ∙ ap (λ v. put v (insertion (set w j a))) (sym there)
        ∙ set_put w j a d (subst (λ n. j < n) (sym (length-set l i b)) q)
        ∙ set_put l i b d p)
      where
        l : List A
        l = d ∷ l'

        a : A
        a = get_or l i d

        b : A
        b = get_or l j d

        w : List A
        w = set l i b

        there : get_or w j d ≡ b
        there = ⊎_elim (λ e. ap (λ n. get_or w n d) e ∙ get_or-set_same l i b d p) (λ n. get_or-set_other l i j b d n) (cases_eq j i)

    pub permuted : (xs ys : List A) → IsPermutation xs ys → insertion ys ≡ insertion xs
    permuted xs ys = IsPermutation-keeps xs (λ l. insertion l ≡ insertion xs) refl (λ l i j p q h. swapped l i j p q ∙ h) ys

    -- a list in order that has the same items is what insertion gives
    pub sorts : (xs ys : List A) → IsPermutation xs ys → Rises ys → insertion xs ≡ ys
    sorts xs ys p r = sym (permuted xs ys p) ∙ risen ys r

-- by an order of std's

module _ {X : Type 0} (R : X → X → Ordering) where
  abbrev pub at_most : X → X → Bool
  at_most a b = not (is_lt (R b a))

  module _ (o : IsTotalOrder R) (same : IsAntisymmetric R) where
    falls : (a b : X) → at_most a b ≡ false → R b a ≡ Less
    falls a b = by (R b a)
      where
        by : (r : Ordering) → not (is_lt r) ≡ false → r ≡ Less
        by Less e = refl
        by Equal e = absurd (cc)
        by Greater e = absurd (cc)

    above : (a b : X) → R b a ≡ Less → at_most b a ≡ true
    above a b e = ap (λ r. not (is_lt r)) (o.antisymm a b ∙ ap ordering_reverse e)

    one_way : (a b : X) → at_most a b ≡ false → at_most b a ≡ true
    one_way a b e = above a b (falls a b e)

    not_less : (a b : X) → at_most a b ≡ true → R b a ≡ Less → ⊥
    not_less a b e l = absurd (let k : at_most a b ≡ false = ap (λ r. not (is_lt r)) l in cc)

    alike : (a b : X) → at_most a b ≡ true → at_most b a ≡ true → a ≡ b
    alike a b e f = by (R a b) refl
      where
        by : (r : Ordering) → R a b ≡ r → a ≡ b
        by Equal q = same a b q
        by Less q = absurd (not_less b a f q)
        by Greater q = absurd (not_less a b e (o.antisymm b a ∙ ap ordering_reverse q))

    through : (a b c : X) → at_most a b ≡ true → at_most b c ≡ true → at_most a c ≡ true
    through a b c e f = by (at_most a c) refl
      where
        from : R c a ≡ Less → (r : Ordering) → R a b ≡ r → at_most a c ≡ true
        from l Less q = absurd (not_less b c f (o.trans c a b l q))
        from l Equal q = absurd (not_less b c f (subst (λ x. R c x ≡ Less) (same a b q) l))
        from l Greater q = absurd (not_less a b e (o.antisymm b a ∙ ap ordering_reverse q))

        by : (s : Bool) → at_most a c ≡ s → at_most a c ≡ true
        by true g = g
        by false g = from (falls a c g) (R a b) refl

    pub sorts_by : (xs ys : List X) → IsPermutation xs ys → Rises at_most ys → insertion at_most xs ≡ ys
    sorts_by = sorts at_most one_way alike through

  pub rises_of : (xs : List X) → IsSortedBy (λ x y. is_lt (R x y)) xs → Rises at_most xs
  rises_of [] h = tt
  rises_of (a ∷ []) h = (tt, tt)
  rises_of (a ∷ b ∷ rest) h = (
    ap not (h 0 a (omega arith) (omega arith)),
    rises_of (b ∷ rest) (λ k d l p. subst (λ n. is_lt (R (slice_index_or (a ∷ b ∷ rest) n d) (slice_index_or (a ∷ b ∷ rest) (suc k) d)) ≡ false) (next k) (h (suc k) d (omega arith) (omega (arith, p)))),
  )
    where
      next : (k : ℕ) → suc k + 1 ≡ suc (k + 1)
      next k = omega arith

pub rises_map : {X Y : Type 0} (f : X → Y) (le : Y → Y → Bool) (xs : List X) → Rises (λ a b. le (f a) (f b)) xs → Rises le (map f xs)
rises_map f le [] h = tt
rises_map f le (a ∷ []) h = h
rises_map f le (a ∷ b ∷ rest) h = (h.0, rises_map f le (b ∷ rest) h.1)

-- the order of the row

module _ {X : Type 0} (f : X → Plain) (le : X → X → Bool) (h : (a b : X) → in_order (f a) (f b) ≡ le a b) where
  put_so : (a : X) (l : List X) → put_in_order (f a) (map f l) ≡ map f (put le a l)
  unfolding put
  put_so a [] = refl
  put_so a (b ∷ l) = by (put_so a l) (le a b) (h a b)
    where
      by : put_in_order (f a) (map f l) ≡ map f (put le a l) → (s : Bool) → in_order (f a) (f b) ≡ s → put_in_order (f a) (f b ∷ map f l) ≡ map f (cond s (a ∷ b ∷ l) (b ∷ put le a l))
      by r true e = ap (λ s. elim s as (λ _. List Plain) [ true ↦ f a ∷ f b ∷ map f l | false ↦ f b ∷ put_in_order (f a) (map f l) ]) e
      by r false e = ap (λ s. elim s as (λ _. List Plain) [ true ↦ f a ∷ f b ∷ map f l | false ↦ f b ∷ put_in_order (f a) (map f l) ]) e ∙ ap (λ l. f b ∷ l) r

  pub sorted_so : (l : List X) → sorted (map f l) ≡ map f (insertion le l)
  unfolding insertion
  sorted_so [] = refl
  sorted_so (a ∷ l) = ap (put_in_order (f a)) (sorted_so l) ∙ put_so a (insertion le l)

integers_so : (m n : ℤ) → in_order (integer m) (integer n) ≡ at_most int_cmp m n
integers_so m n = by (int_lt n m) (int_lt m n) (le_lt m n)
  where
    by : (s t : Bool) → int_le m n ≡ not s → int_le m n ≡ not (is_lt (cond s Less (cond t Greater Equal)))
    by true t e = e
    by false true e = e
    by false false e = e

    le_lt : (m n : ℤ) → int_le m n ≡ not (int_lt n m)
    le_lt (pos a) (pos b) = grind (arith, nat_tests)
    le_lt (pos a) (negsuc b) = refl
    le_lt (negsuc a) (pos b) = refl
    le_lt (negsuc a) (negsuc b) = grind (arith, nat_tests)

pub integers_sorted : (xs ys : List ℤ) → IsPermutation xs ys → Rises (at_most int_cmp) ys → sorted (map integer xs) ≡ map integer ys
integers_sorted xs ys p r = sorted_so integer (at_most int_cmp) integers_so xs ∙ ap (map integer) (sorts_by int_cmp int_cmp_total int_cmp-IsAntisymmetric xs ys p r)

before_is : (s t : List ℕ) → before s t ≡ is_lt (slice_cmp nat_cmp s t)
before_is [] [] = refl
before_is [] (c ∷ t) = refl
before_is (b ∷ s) [] = refl
before_is (b ∷ s) (c ∷ t) = by (before_is s t) (nat_lt b c) refl (nat_eq b c) refl
  where
    both : (b c : ℕ) → nat_lt b c ≡ true → nat_eq b c ≡ true → ⊥
    both b c l e = grind (arith, nat_tests)

    by : before s t ≡ is_lt (slice_cmp nat_cmp s t) → (l : Bool) → nat_lt b c ≡ l → (e : Bool) → nat_eq b c ≡ e →
        cond (nat_eq b c) (before s t) (nat_lt b c) ≡ is_lt (ordering_then (cond (nat_lt b c) Less (cond (nat_eq b c) Equal Greater)) (slice_cmp nat_cmp s t))
    by r true p true q = absurd (both b c p q)
    by r true p false q = ap (λ e. cond e (before s t) (nat_lt b c)) q ∙ p ∙ sym (ap (λ l. is_lt (ordering_then (cond l Less (cond (nat_eq b c) Equal Greater)) (slice_cmp nat_cmp s t))) p)
    by r false p true q =
        ap (λ e. cond e (before s t) (nat_lt b c)) q ∙ r
        ∙ sym (ap (λ l. is_lt (ordering_then (cond l Less (cond (nat_eq b c) Equal Greater)) (slice_cmp nat_cmp s t))) p ∙ ap (λ e. is_lt (ordering_then (cond e Equal Greater) (slice_cmp nat_cmp s t))) q)
    by r false p false q =
        ap (λ e. cond e (before s t) (nat_lt b c)) q ∙ p
        ∙ sym (ap (λ l. is_lt (ordering_then (cond l Less (cond (nat_eq b c) Equal Greater)) (slice_cmp nat_cmp s t))) p ∙ ap (λ e. is_lt (ordering_then (cond e Equal Greater) (slice_cmp nat_cmp s t))) q)

texts_so : (s t : List ℕ) → in_order (string s) (string t) ≡ at_most (slice_cmp nat_cmp) s t
texts_so s t = ap not (before_is t s)

pub texts_sorted : (xs ys : List (List ℕ)) → IsPermutation xs ys → Rises (at_most (slice_cmp nat_cmp)) ys → sorted (map string xs) ≡ map string ys
texts_sorted xs ys p r = sorted_so string (at_most (slice_cmp nat_cmp)) texts_so xs ∙ ap (map string) (sorts_by (slice_cmp nat_cmp) nat_list_cmp_total (slice_cmp-IsAntisymmetric nat_cmp-IsAntisymmetric) xs ys p r)

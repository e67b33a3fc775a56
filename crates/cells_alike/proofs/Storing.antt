-- What one activation does to cells leaves those alone that others have opened and share with nobody.
use Rattle.std.proofs.Common.{◌≡◌, inr, ⊎_elim, ℕ, zero, suc, ◌<◌, List, [], ◌∷◌, ◌++◌, length, Some, refl, sym, ◌∙◌, ap, subst, arith, length-append}
use Rattle.std.proofs.lemmas.Bool.{cases_eq}
use Rattle.std.proofs.lemmas.Option.{slice_get_within}
use Rattle.std.specs.Prelude.{slice_get, slice_set}
use Rattle.int_core.specs.Value.{Value, nth}
use Rattle.tree_activation.specs.Work.{State}
use Rattle.lua_meaning.specs.World.{shared_in}
use Rattle.list_laws.specs.Held.{Has}
use Rattle.meaning_cells.specs.Alike.{Member, Pairs, IsUnpaired, Cells, AreCells, AreEven, CarriesOwn, opened}
use Rattle.meaning_cells.proofs.Relation.{Rel, same, early}
use Rattle.list_laws.proofs.Values.{nth_set_same, nth_set_other, nth_old}
use Rattle.meaning_cells.proofs.Lists.{set_size, in_size, in_other}
use Rattle.cells_alike.proofs.Joint.{Made, Waiting, Layer, is_talking, is_waiting, is_raising, is_protected, is_handled, is_handling, is_closing, Thread, Place, Store, cells_for, OwnedAt, IsStore, WaitsAt, LayerAt, LayersAt, layers_in, ArePaired, head, Base}
use Rattle.list_laws.proofs.Items.{some_same}

-- cells of owners in P that have no partner stay so, and keep their values
pub record Passes (S T : Store) (P : Place → Type 0) : Type 0 where
  pub store : IsStore T
  pub more : (c d : ℕ) → Has c d S.pairs → Has c d T.pairs
  pub owners : (c : ℕ) (o : Place) → slice_get S.owners c ≡ Some o → slice_get T.owners c ≡ Some o
  pub still : (c : ℕ) (o : Place) → slice_get S.owners c ≡ Some o → P o → IsUnpaired c S.pairs → IsUnpaired c T.pairs × (nth T.cells c ≡ nth S.cells c)

abbrev pub IsOther : Place → Place → Type 0
IsOther p o = o ≡ p → ⊥

abbrev pub IsAny : Place → Type 0
IsAny o = Unit {0}

pub cells_with : (S : Store) (p : Place) (own : List ℕ) → IsStore S → OwnedAt S p own → AreCells (cells_for S own)
cells_with S p own s o = record {
  one_way = s.are.one_way;
  other_way = s.are.other_way;
  there = s.are.there;
  there_too = s.are.there_too;
  own_there = λ c m. let l = slice_get_within S.owners c p (o c m) in let n = s.count in omega (arith, l, n);
}

waits_pass : (S T : Store) (P : Place → Type 0) (o : Place) (w : Waiting) → Passes S T P → P o → WaitsAt S o w → WaitsAt T o w
waits_pass S T P o w p is a =
    let owned : OwnedAt T o a.asked.own = λ c m. p.owners c o (a.owned c m) in record {
      asked = a.asked;
      since = record {
        are = cells_with T o a.asked.own p.store owned;
        more = λ c d h. p.more c d (a.since.more c d h);
        own = λ c m. m;
        still = λ c m u. let x = a.since.still c m u in let y = p.still c o (a.owned c m) is x.0 in (y.0, y.1 ∙ x.1);
      };
      owned = owned;
      on = a.on;
    }

layer_pass : (S T : Store) (P : Place → Type 0) (o : Place) (l : Layer) → Passes S T P → P o → LayerAt S o l → LayerAt T o l
layer_pass S T P o (is_talking f s t) p is a = absurd a
layer_pass S T P o (is_waiting w) p is a = waits_pass S T P o w p is a
layer_pass S T P o (is_raising w) p is a = waits_pass S T P o w p is a
layer_pass S T P o is_protected p is a = tt
layer_pass S T P o (is_handled h) p is a = tt
layer_pass S T P o is_handling p is a = tt
layer_pass S T P o (is_closing e vs) p is a = tt

pub layers_pass : (S T : Store) (P : Place → Type 0) (co : ℕ) (frames : List Layer) → Passes S T P → ((n : ℕ) → n < length frames → P (co, n)) → LayersAt S co frames → LayersAt T co frames
layers_pass S T P co [] p is l = tt
layers_pass S T P co (f ∷ frames) p is l =
    (layer_pass S T P (co, length frames) f p (is (length frames) (omega arith)) l.0, layers_pass S T P co frames p (λ n h. is n (omega (arith, h))) l.1)

pub paired_more : (ps qs : Pairs) (cs ds : List ℕ) → ((c d : ℕ) → Has c d ps → Has c d qs) → ArePaired ps cs ds → ArePaired qs cs ds
paired_more ps qs [] [] more l = tt
paired_more ps qs (c ∷ cs) (d ∷ ds) more l = (more c d l.0, paired_more ps qs cs ds more l.1)
paired_more ps qs [] (d ∷ ds) more l = absurd l
paired_more ps qs (c ∷ cs) [] more l = absurd l

pub place_below : (co n d : ℕ) → n < d → IsOther (co, d) (co, n)
place_below co n d l e = let x : n ≡ d = ap (λ p. p.1) e in omega (arith, l, x)

-- the activation at a place of the running coroutine acts
pub base_pass : (S T : Store) (fs : List Made) (cs : List Thread) (chain : List ℕ) (d : ℕ) → Passes S T (IsOther (head chain, d)) → Base S fs cs chain → Base T fs cs chain
base_pass S T fs cs chain d p b = record {
  store = p.store;
  paired = λ n f e. paired_more S.pairs T.pairs f.cells f.cells_too p.more (b.paired n f e);
  others = λ co c e. ⊎_elim
      (λ is. subst (λ frames. LayersAt T co frames) (sym (b.running_one c (subst (λ z. slice_get cs z ≡ Some c) is e))) tt)
      (λ is_not. layers_pass S T (IsOther (head chain, d)) co (layers_in c) p (λ n l z. is_not (ap (λ p. p.0) z)) (b.others co c e))
      (cases_eq co (head chain));
  running_one = b.running_one;
}

pub base_pass_any : (S T : Store) (fs : List Made) (cs : List Thread) (chain : List ℕ) → Passes S T IsAny → Base S fs cs chain → Base T fs cs chain
base_pass_any S T fs cs chain p b = record {
  store = p.store;
  paired = λ n f e. paired_more S.pairs T.pairs f.cells f.cells_too p.more (b.paired n f e);
  others = λ co c e. layers_pass S T IsAny co (layers_in c) p (λ n l. tt) (b.others co c e);
  running_one = b.running_one;
}

pub waits_any : (S T : Store) (o : Place) (w : Waiting) → Passes S T IsAny → WaitsAt S o w → WaitsAt T o w
waits_any S T o w p a = waits_pass S T IsAny o w p tt a

-- other values in as many cells
same_cells : (S : Store) (cells too : List Value) → IsStore S → length cells ≡ length S.cells → length too ≡ length S.cells_too → IsStore (record S { cells = cells; cells_too = too })
same_cells S cells too s size size_too = record {
  are = record {
    one_way = s.are.one_way;
    other_way = s.are.other_way;
    there = λ c d h. let l = s.are.there c d h in omega (arith, l, size);
    there_too = λ c d h. let l = s.are.there_too c d h in omega (arith, l, size_too);
    own_there = λ c m. absurd m;
  };
  count = s.count ∙ sym size;
  lowest = s.lowest;
}

-- asks carry values into own cells

abbrev pub flushed : Store → (shared also : List (ℕ × Value)) → Store
flushed S shared also = record S { cells = shared_in shared S.cells; cells_too = shared_in also S.cells_too }

-- into a cell of an own list nothing is carried that another place has opened
not_carried : (S : Store) (p o : Place) (own : List ℕ) (shared : List (ℕ × Value)) (c : ℕ) → OwnedAt S p own → CarriesOwn (cells_for S own) shared → slice_get S.owners c ≡ Some o → IsOther p o
    → (v : Value) → Has c v shared → ⊥
not_carried S p o own shared c owned carries at other v h = other (some_same o p (sym at ∙ owned c (carries c v h)))

pub flush_pass : (S : Store) (p : Place) (own : List ℕ) (shared also : List (ℕ × Value)) → IsStore S → OwnedAt S p own → CarriesOwn (cells_for S own) shared
    → Passes S (flushed S shared also) (IsOther p)
flush_pass S p own shared also s owned carries = record {
  store = same_cells S (shared_in shared S.cells) (shared_in also S.cells_too) s (in_size shared S.cells) (in_size also S.cells_too);
  more = λ c d h. h;
  owners = λ c o e. e;
  still = λ c o e other u. (u, in_other shared S.cells c (not_carried S p o own shared c owned carries e other));
}

-- a cell that is a pair is written

abbrev pub written : Store → (c d : ℕ) → Value → Store
written S c d v = record S { cells = slice_set S.cells c v; cells_too = slice_set S.cells_too d v }

pub write_pass : (S : Store) (c d : ℕ) (v : Value) → IsStore S → Has c d S.pairs → Passes S (written S c d v) IsAny
write_pass S c d v s h = record {
  store = same_cells S (slice_set S.cells c v) (slice_set S.cells_too d v) s (set_size c v S.cells) (set_size d v S.cells_too);
  more = λ x y k. k;
  owners = λ x o e. e;
  still = λ x o e is u. (u, nth_set_other c v S.cells x (λ z. u d (subst (λ w. Has w d S.pairs) (sym z) h)));
}

pub write_even : (S : Store) (c d : ℕ) (v : Value) → IsStore S → Has c d S.pairs → AreEven (cells_for S []) → AreEven (cells_for (written S c d v) [])
write_even S c d v s h even x y k = ⊎_elim
    (λ is.
    let also : y ≡ d = s.are.one_way c y d (subst (λ z. Has z y S.pairs) is k) h in
    subst (λ z. nth (slice_set S.cells c v) z ≡ nth (slice_set S.cells_too d v) y) (sym is)
    (subst (λ z. nth (slice_set S.cells c v) c ≡ nth (slice_set S.cells_too d v) z) (sym also)
    (nth_set_same c v S.cells (s.are.there c d h) ∙ sym (nth_set_same d v S.cells_too (s.are.there_too c d h)))))
    (λ is_not.
    nth_set_other c v S.cells x is_not ∙ even x y k
    ∙ sym (nth_set_other d v S.cells_too y (λ z. is_not (s.are.other_way x c d (subst (λ w. Has x w S.pairs) z k) h))))
    (cases_eq x c)

-- cells that are opened

pub rel_cells : (cs : Cells) (s t : State) → Rel cs s t → AreCells cs
rel_cells cs _ _ (same v k control h d r l) = h.cells
rel_cells cs _ _ (early v k line ns control h d scope r l) = h.cells

without_own : (cs : Cells) → AreCells cs → AreCells (record cs { own = [] })
without_own cs a = record { one_way = a.one_way; other_way = a.other_way; there = a.there; there_too = a.there_too; own_there = λ c m. absurd m }

pub get_before : {A : Type 0} → (xs : List A) (x : A) (n : ℕ) (y : A) → slice_get xs n ≡ Some y → slice_get (xs ++ x ∷ []) n ≡ Some y
get_before [] x n y e = absurd (cc)
get_before (z ∷ xs) x zero y e = e
get_before (z ∷ xs) x (suc n) y e = get_before xs x n y e

pub get_last : {A : Type 0} → (xs : List A) (x : A) → slice_get (xs ++ x ∷ []) (length xs) ≡ Some x
get_last [] x = refl
get_last (z ∷ xs) x = get_last xs x

-- an activation at p has opened a cell in the first form
abbrev pub opened_early : Store → Place → List (ℕ × Value) → Value → Store
opened_early S p shared v = record S { cells = opened shared v S.cells; owners = S.owners ++ p ∷ [] }

-- in the second form one for a cell that the first form has
abbrev pub opened_late : Store → (c d : ℕ) → List (ℕ × Value) → Value → Store
opened_late S c d also v = record S { pairs = (c, d) ∷ S.pairs; cells_too = opened also v S.cells_too }

abbrev pub opened_both : Store → Place → (c d : ℕ) → (shared also : List (ℕ × Value)) → (v w : Value) → Store
opened_both S p c d shared also v w =
    record { pairs = (c, d) ∷ S.pairs; cells = opened shared v S.cells; cells_too = opened also w S.cells_too; owners = S.owners ++ p ∷ [] }

pub owned_more : (S : Store) (p : Place) (own : List ℕ) (c : ℕ) → OwnedAt S p own → c ≡ length S.owners → (x : ℕ) → Member x (c ∷ own) → slice_get (S.owners ++ p ∷ []) x ≡ Some p
owned_more S p own c owned e x m = ⊎_elim
    (λ k. subst (λ z. slice_get (S.owners ++ p ∷ []) z ≡ Some p) (sym e ∙ k) (get_last S.owners p))
    (λ k. get_before S.owners p x p (owned x k)) m

opened_keeps : (S : Store) (p o : Place) (own : List ℕ) (shared : List (ℕ × Value)) (v : Value) (c : ℕ) → IsStore S → OwnedAt S p own → CarriesOwn (cells_for S own) shared
    → slice_get S.owners c ≡ Some o → IsOther p o → nth (opened shared v S.cells) c ≡ nth S.cells c
opened_keeps S p o own shared v c s owned carries at other =
    let l = slice_get_within S.owners c o at in
    let n = s.count in
    let size = in_size shared S.cells in
    nth_old (shared_in shared S.cells) (v ∷ []) c (omega (arith, l, n, size)) ∙ in_other shared S.cells c (not_carried S p o own shared c owned carries at other)

opened_count : (S : Store) (p : Place) (shared : List (ℕ × Value)) (v : Value) → IsStore S → length (S.owners ++ p ∷ []) ≡ length (opened shared v S.cells)
opened_count S p shared v s =
    let n = s.count in
    let size = in_size shared S.cells in
    let a = length-append S.owners (p ∷ []) in
    let b = length-append (shared_in shared S.cells) (v ∷ []) in
    omega (arith, n, size, a, b)

pub early_pass : (S : Store) (p : Place) (own more : List ℕ) (shared : List (ℕ × Value)) (v : Value) → IsStore S → OwnedAt S p own → CarriesOwn (cells_for S own) shared
    → AreCells (cells_for (opened_early S p shared v) more) → Passes S (opened_early S p shared v) (IsOther p)
early_pass S p own more shared v s owned carries are = record {
  store = record { are = without_own (cells_for (opened_early S p shared v) more) are; count = opened_count S p shared v s; lowest = s.lowest };
  more = λ c d h. h;
  owners = λ c o e. get_before S.owners p c o e;
  still = λ c o e other u. (u, opened_keeps S p o own shared v c s owned carries e other);
}

pub late_pass : (S : Store) (p : Place) (own : List ℕ) (c d : ℕ) (also : List (ℕ × Value)) (v : Value) → IsStore S → OwnedAt S p own → Member c own
    → AreCells (cells_for (opened_late S c d also v) own) → Passes S (opened_late S c d also v) (IsOther p)
late_pass S p own c d also v s owned mine are = record {
  store = record { are = without_own (cells_for (opened_late S c d also v) own) are; count = s.count; lowest = inr s.lowest };
  more = λ x y h. inr h;
  owners = λ x o e. e;
  still = λ x o e other u. (
    λ y h. ⊎_elim (λ k. other (some_same o p (sym e ∙ subst (λ z. slice_get S.owners z ≡ Some p) k.0 (owned c mine)))) (λ k. u y k) h,
    refl,
  );
}

pub both_pass : (S : Store) (p : Place) (own more : List ℕ) (c d : ℕ) (shared also : List (ℕ × Value)) (v w : Value) → IsStore S → OwnedAt S p own → CarriesOwn (cells_for S own) shared
    → c ≡ length S.owners → AreCells (cells_for (opened_both S p c d shared also v w) more) → Passes S (opened_both S p c d shared also v w) (IsOther p)
both_pass S p own more c d shared also v w s owned carries number are = record {
  store = record { are = without_own (cells_for (opened_both S p c d shared also v w) more) are; count = opened_count S p shared v s; lowest = inr s.lowest };
  more = λ x y h. inr h;
  owners = λ x o e. get_before S.owners p x o e;
  still = λ x o e other u. (
    λ y h. ⊎_elim (λ k. let l = slice_get_within S.owners x o e in let z = k.0 in omega (arith, l, z, number)) (λ k. u y k) h,
    opened_keeps S p o own shared v x s owned carries e other,
  );
}

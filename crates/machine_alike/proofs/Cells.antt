-- Cells that are opened, paired and closed, and other states of a coroutine.
use Rattle.std.proofs.Common.{ℕ, zero, suc, ◌+◌, ◌≡◌, ◌≢◌, ◌⊎◌, arith, inl, inr, ⊎_elim, List, [], ◌∷◌, ◌++◌, Option, Some, None, refl, subst, sym, ap, ◌∙◌, length, Bool, true, false, not, cond}
use Rattle.std.specs.Prelude.{slice_get, slice_set, nat_eq, nat_lt, ◌&&◌}
use Rattle.std.proofs.lemmas.Bool.Decides.{eqb_tells}
use Rattle.int_core.specs.Value.{a_coroutine, Value, nth, bind}
use Rattle.machine_core.specs.World.{Coroutine, Cell, closed, open_at, is_open_at, find_open, find_open_from, close_from, frames_of, lua_frame, OneEach}
use Rattle.machine_core.specs.Moves.{opened_cells}
use Rattle.machine_alike.specs.Agree.{Pairs, SameNumber, SameCellNumber, Both, SameValues, SameTable, SameFunction, SameCoroutine, IsFirst, IsSecond, Loose, kept_closed, kept_apart, SameCell, same_place, same_content, OneToOne, Objects, SameObjects, Extends}
use Rattle.machine_alike.proofs.Pairwise.{get_push_old, both_on, both_old, both_set, both_split, both_from, get_set_other}
use Rattle.machine_alike.proofs.Same.{KeepsApart, cell_on, table_on, function_on, coroutine_on, extends_self, nth_same}
use Rattle.machine_alike.proofs.Grow.{with_pair, pair_cases, pair_new, pair_old, pair_one}
use Rattle.machine_alike.proofs.Tables.{nat_eq_same}

-- another state of a coroutine

apart_set : (P : ℕ → Type 0) (cs : List Coroutine) (co : ℕ) (k : Coroutine) → P co → KeepsApart cs (slice_set cs co k) P P
apart_set P cs co k h c f r v n at =
    let ne : co ≢ c = λ e. n (subst P e h) in
    let o = get_set_other cs co c k ne in
    (n, subst (λ o. bind (bind o frames_of) (λ frames. bind (bind (slice_get frames f) lua_frame) (λ l. slice_get l.own.registers r)) ≡ Some v) (sym o) at)

pub set_coroutine_same : (p : Pairs) (A B : Objects) (co co' : ℕ) (c d : Coroutine) → SameObjects p A B → SameNumber p a_coroutine co co' → SameCoroutine p c d
    → SameObjects p (record A { coroutines = slice_set A.coroutines co c }) (record B { coroutines = slice_set B.coroutines co' d })
set_coroutine_same p A B co co' c d a at h = record {
  one_to_one = a.one_to_one;
  tables = a.tables;
  functions = a.functions;
  coroutines = both_set (SameCoroutine p) (p.objects a_coroutine) A.coroutines B.coroutines (a.one_to_one.objects a_coroutine) a.coroutines co co' c d at h;
  cells = λ i j k. both_on (SameCell p A.coroutines B.coroutines) (SameCell p (slice_set A.coroutines co c) (slice_set B.coroutines co' d))
      (cell_on p p (extends_self p) A.coroutines B.coroutines (slice_set A.coroutines co c) (slice_set B.coroutines co' d) (apart_set (IsFirst p) A.coroutines co c (co', at)) (apart_set (IsSecond p) B.coroutines co' d (co, at)))
      (slice_get A.cells i) (slice_get B.cells j) (a.cells i j k);
  one_each = a.one_each;
}

-- a cell for a register

is_open_true : (co f r : ℕ) (c : Cell) → is_open_at co f r c ≡ true → c ≡ open_at co f r
is_open_true co f r (closed v) h = cc
is_open_true co f r (open_at x y z) h = ⊎_elim
    (λ s. ⊎_elim
    (λ t. ⊎_elim (λ u. cc) (λ u. let w : false ≡ true = rw (s.0, t.0, u.0) at h in cc) (eqb_tells r z))
    (λ t. let w : false ≡ true = rw (s.0, t.0) at h in cc)
    (eqb_tells f y))
    (λ s. let w : false ≡ true = rw s.0 at h in cc)
    (eqb_tells co x)

pub is_open_self : (co f r : ℕ) → is_open_at co f r (open_at co f r) ≡ true
is_open_self co f r = ⊎_elim
    (λ s. ⊎_elim (λ t. ⊎_elim (λ u. rw (s.0, t.0, u.0) refl) (λ u. absurd (u.1 refl)) (eqb_tells r r)) (λ t. absurd (t.1 refl)) (eqb_tells f f))
    (λ s. absurd (s.1 refl)) (eqb_tells co co)

module _ (co f r : ℕ) where
  -- where a cell is found
  found_from : (n : ℕ) (cs : List Cell) (c : ℕ) → find_open_from n co f r cs ≡ Some c → (i : ℕ) × (c ≡ n + i) × (slice_get cs i ≡ Some (open_at co f r))
  found_from n [] c h = absurd (cc)
  found_from n (x ∷ cs) c h = go (is_open_at co f r x) refl h (found_from (suc n) cs c)
    where
      go : (b : Bool) → is_open_at co f r x ≡ b → cond b (Some n) (find_open_from (suc n) co f r cs) ≡ Some c
          → (find_open_from (suc n) co f r cs ≡ Some c → (i : ℕ) × (c ≡ suc n + i) × (slice_get cs i ≡ Some (open_at co f r)))
          → (i : ℕ) × (c ≡ n + i) × (slice_get (x ∷ cs) i ≡ Some (open_at co f r))
      go true e h ih = let k : n ≡ c = cc in (0, omega (arith, k), ap Some (is_open_true co f r x e))
      go false e h ih = let k = ih h in (suc k.0, omega (arith, k.1), k.2)

  pub found_open : (cs : List Cell) (c : ℕ) → find_open co f r cs ≡ Some c → slice_get cs c ≡ Some (open_at co f r)
  found_open cs c h = let k = found_from 0 cs c h in let e : c ≡ k.0 = omega (arith, k.1) in subst (λ c. slice_get cs c ≡ Some (open_at co f r)) (sym e) k.2

  -- where none is found there is none
  none_from : (n : ℕ) (cs : List Cell) → find_open_from n co f r cs ≡ None → (m : ℕ) → slice_get cs m ≡ Some (open_at co f r) → ⊥
  none_from n [] h m g = absurd (cc)
  none_from n (x ∷ cs) h m g = go (is_open_at co f r x) refl h m g (none_from (suc n) cs)
    where
      go : (b : Bool) → is_open_at co f r x ≡ b → cond b (Some n) (find_open_from (suc n) co f r cs) ≡ None → (m : ℕ) → slice_get (x ∷ cs) m ≡ Some (open_at co f r)
          → (find_open_from (suc n) co f r cs ≡ None → (m : ℕ) → slice_get cs m ≡ Some (open_at co f r) → ⊥) → ⊥
      go true e h m g ih = cc
      go false e h zero g ih = let s = is_open_self co f r in let g' : x ≡ open_at co f r = cc in let t : true ≡ false = sym s ∙ sym (ap (is_open_at co f r) g') ∙ e in cc
      go false e h (suc m) g ih = ih h m g

  open_old : (o : Option ℕ) (cs : List Cell) (k : ℕ) (x : Cell) → slice_get cs k ≡ Some x → slice_get (opened_cells o co f r cs) k ≡ Some x
  open_old None cs k x h = get_push_old cs (open_at co f r ∷ []) k x h
  open_old (Some c) cs k x h = h

  -- what is there after a push was there before, or is new
  pushed : (cs : List Cell) (k : ℕ) (x : Cell) → slice_get (cs ++ open_at co f r ∷ []) k ≡ Some x → (slice_get cs k ≡ Some x) ⊎ ((k ≡ length cs) × (x ≡ open_at co f r))
  pushed [] zero x h = inr (refl, cc)
  pushed [] (suc k) x h = absurd (cc)
  pushed (c ∷ cs) zero x h = inl h
  pushed (c ∷ cs) (suc k) x h = ⊎_elim inl (λ t. inr (ap suc t.0, t.1)) (pushed cs k x h)

  each_open : (o : Option ℕ) (cs : List Cell) → find_open co f r cs ≡ o → OneEach cs → OneEach (opened_cells o co f r cs)
  each_open (Some c) cs e one i j d g q h k = one i j d g q h k
  each_open None cs e one i j d g q h k =
      ⊎_elim
      (λ s. ⊎_elim (λ t. one i j d g q s t)
      (λ t. absurd (none_from 0 cs e i (s ∙ ap Some t.1))) (pushed cs j (open_at d g q) k))
      (λ s. ⊎_elim (λ t. absurd (none_from 0 cs e j (t ∙ ap Some s.1)))
      (λ t. s.0 ∙ sym t.0) (pushed cs j (open_at d g q) k))
      (pushed cs i (open_at d g q) h)

pub open_same : (p : Pairs) (A B : Objects) (co co' f f' r : ℕ) → SameObjects p A B
    → SameObjects p (record A { cells = opened_cells (find_open co f r A.cells) co f r A.cells }) (record B { cells = opened_cells (find_open co' f' r B.cells) co' f' r B.cells })
open_same p A B co co' f f' r a = record {
  one_to_one = a.one_to_one;
  tables = a.tables;
  functions = a.functions;
  coroutines = a.coroutines;
  cells = λ i j h. both_old (SameCell p A.coroutines B.coroutines) A.cells (opened_cells (find_open co f r A.cells) co f r A.cells) B.cells (opened_cells (find_open co' f' r B.cells) co' f' r B.cells) i j
      (open_old co f r (find_open co f r A.cells) A.cells) (open_old co' f' r (find_open co' f' r B.cells) B.cells) (a.cells i j h);
  one_each = (each_open co f r (find_open co f r A.cells) A.cells refl a.one_each.0, each_open co' f' r (find_open co' f' r B.cells) B.cells refl a.one_each.1);
}

-- two cells that are open at the same place can be paired

loose_not : (cs : List Coroutine) (P : ℕ → Type 0) (c : Cell) (v : Value) (co f r : ℕ) → Loose cs P c v → c ≡ open_at co f r → P co → ⊥
loose_not cs P c v co f r (kept_closed w) e h = absurd (cc)
loose_not cs P c v co f r (kept_apart d g q w n at) e h = let k : co ≡ d = cc in n (subst P k h)

place_there : (p : Pairs) (cs ds : List Coroutine) (c d : Cell) (co co' f r : ℕ) → SameCell p cs ds c d → c ≡ open_at co f r → SameNumber p a_coroutine co co' → d ≡ open_at co' f r
place_there p cs ds c d co co' f r (same_place x x' g q at) e h =
    let k : x ≡ co = cc in
    let l : Some x' ≡ Some co' = sym at ∙ ap (p.objects a_coroutine) k ∙ h in cc
place_there p cs ds c d co co' f r (same_content x y v w l m s) e h = absurd (loose_not cs (IsFirst p) x v co f r l e (co', h))

place_back : (p : Pairs) (cs ds : List Coroutine) (c d : Cell) (co co' f r : ℕ) → OneToOne p → SameCell p cs ds c d → d ≡ open_at co' f r → SameNumber p a_coroutine co co' → c ≡ open_at co f r
place_back p cs ds c d co co' f r one (same_place x x' g q at) e h =
    let k : x' ≡ co' = cc in
    let l : x ≡ co = one.objects a_coroutine x co co' (at ∙ ap Some k) h in cc
place_back p cs ds c d co co' f r one (same_content x y v w l m s) e h = absurd (loose_not ds (IsSecond p) y w co' f r m e (co, h))

abbrev pub with_cell : Pairs → ℕ → ℕ → Pairs
with_cell p i j = record p { cells = with_pair p.cells i j }

pub extends_cell : (p : Pairs) (i j : ℕ) → p.cells i ≡ None → Extends p (with_cell p i j)
extends_cell p i j fresh = record { objects = λ k n m h. h; cells = λ n m h. pair_old p.cells i j n m fresh h }

pair_same : (p : Pairs) (A B : Objects) (i j co co' f r : ℕ) → SameObjects p A B → p.cells i ≡ None → ((n : ℕ) → p.cells n ≡ Some j → ⊥) → slice_get A.cells i ≡ Some (open_at co f r) → slice_get B.cells j ≡ Some (open_at co' f r) → SameNumber p a_coroutine co co'
    → SameObjects (with_cell p i j) A B
pair_same p A B i j co co' f r a fresh out x y at =
    let q = with_cell p i j in
    let e = extends_cell p i j fresh in
    let S = SameCell q A.coroutines B.coroutines in
    record {
      one_to_one = record { objects = a.one_to_one.objects; cells = pair_one p.cells i j out a.one_to_one.cells };
      tables = λ n m h. both_on (SameTable p) (SameTable q) (table_on p q e) (slice_get A.tables n) (slice_get B.tables m) (a.tables n m h);
      functions = λ n m h. both_on (SameFunction p) (SameFunction q) (function_on p q e) (slice_get A.functions n) (slice_get B.functions m) (a.functions n m h);
      coroutines = λ n m h. both_on (SameCoroutine p) (SameCoroutine q) (coroutine_on p q e) (slice_get A.coroutines n) (slice_get B.coroutines m) (a.coroutines n m h);
      cells = λ n m h. ⊎_elim
          (λ s. subst (λ n. Both S (slice_get A.cells n) (slice_get B.cells m)) (sym s.0) (subst (λ m. Both S (slice_get A.cells i) (slice_get B.cells m)) (sym s.1) (both_from S _ _ _ _ x y (same_place co co' f r at))))
          (λ s. both_on (SameCell p A.coroutines B.coroutines) S (cell_on p q e A.coroutines B.coroutines A.coroutines B.coroutines (λ c g z v n at. (n, at)) (λ c g z v n at. (n, at))) (slice_get A.cells n) (slice_get B.cells m) (a.cells n m s))
          (pair_cases p.cells i j n m h);
      one_each = a.one_each;
    }

pub record Paired (p : Pairs) (A B : Objects) (i j : ℕ) : Type 0 where
  pub now : Pairs
  pub more : Extends p now
  pub here : SameCellNumber now i j
  pub objects : SameObjects now A B

pub pair_cells : (p : Pairs) (A B : Objects) (i j co co' f r : ℕ) → SameObjects p A B → slice_get A.cells i ≡ Some (open_at co f r) → slice_get B.cells j ≡ Some (open_at co' f r) → SameNumber p a_coroutine co co' → Paired p A B i j
pair_cells p A B i j co co' f r a x y at = go (p.cells i) refl
  where
    out : p.cells i ≡ None → (n : ℕ) → p.cells n ≡ Some j → ⊥
    out e n h =
        let s = both_split (SameCell p A.coroutines B.coroutines) (slice_get A.cells n) (slice_get B.cells j) (a.cells n j h) in
        let d : s.1 ≡ open_at co' f r = cc in
        let c = place_back p A.coroutines B.coroutines s.0 s.1 co co' f r a.one_to_one s.4 d at in
        let k : n ≡ i = a.one_each.0 n i co f r (s.2 ∙ ap Some c) x in
        let l : p.cells i ≡ Some j = subst (λ n. p.cells n ≡ Some j) k h in cc

    go : (o : Option ℕ) → p.cells i ≡ o → Paired p A B i j
    go None e = record { now = with_cell p i j; more = extends_cell p i j e; here = pair_new p.cells i j; objects = pair_same p A B i j co co' f r a e (out e) x y at }
    go (Some m) e =
        let s = both_split (SameCell p A.coroutines B.coroutines) (slice_get A.cells i) (slice_get B.cells m) (a.cells i m e) in
        let c : s.0 ≡ open_at co f r = cc in
        let d = place_there p A.coroutines B.coroutines s.0 s.1 co co' f r s.4 c at in
        let k : m ≡ j = a.one_each.1 m j co' f r (s.3 ∙ ap Some d) y in
        record { now = p; more = extends_self p; here = e ∙ ap Some k; objects = a }

-- closing

module _ (co f from : ℕ) (registers : List Value) where
  abbrev pub closed_one : Cell → Cell
  closed_one (closed v) = closed v
  closed_one (open_at c g q) = cond (nat_eq co c && (nat_eq f g && not (nat_lt q from))) (closed (nth registers q)) (open_at c g q)

  closed_get : (cells : List Cell) (i : ℕ) (c : Cell) → slice_get cells i ≡ Some c → slice_get (close_from co f from registers cells) i ≡ Some (closed_one c)
  closed_get [] i c h = absurd (cc)
  closed_get (closed v ∷ cells) zero c h = let e : closed v ≡ c = cc in ap (λ x. Some (closed_one x)) e
  closed_get (open_at d g q ∷ cells) zero c h = let e : open_at d g q ≡ c = cc in ap (λ x. Some (closed_one x)) e
  closed_get (closed v ∷ cells) (suc i) c h = closed_get cells i c h
  closed_get (open_at d g q ∷ cells) (suc i) c h = closed_get cells i c h

  still_open : (c : Cell) (d g q : ℕ) → closed_one c ≡ open_at d g q → c ≡ open_at d g q
  still_open (closed v) d g q h = h
  still_open (open_at x y z) d g q h = go (nat_eq co x && (nat_eq f y && not (nat_lt z from))) h
    where
      go : (b : Bool) → cond b (closed (nth registers z)) (open_at x y z) ≡ open_at d g q → open_at x y z ≡ open_at d g q
      go true h = cc
      go false h = h

  still_opens : (cells : List Cell) (i d g q : ℕ) → slice_get (close_from co f from registers cells) i ≡ Some (open_at d g q) → slice_get cells i ≡ Some (open_at d g q)
  still_opens [] i d g q h = absurd (cc)
  still_opens (closed v ∷ cells) zero d g q h = absurd (cc)
  still_opens (open_at x y z ∷ cells) zero d g q h = let e : closed_one (open_at x y z) ≡ open_at d g q = cc in ap Some (still_open (open_at x y z) d g q e)
  still_opens (closed v ∷ cells) (suc i) d g q h = still_opens cells i d g q h
  still_opens (open_at x y z ∷ cells) (suc i) d g q h = still_opens cells i d g q h

  each_close : (cells : List Cell) → OneEach cells → OneEach (close_from co f from registers cells)
  each_close cells one i j d g q h k = one i j d g q (still_opens cells i d g q h) (still_opens cells j d g q k)

  -- a cell that is open in another coroutine is left as it is
  closed_other : (c g q : ℕ) → (c ≡ co → ⊥) → closed_one (open_at c g q) ≡ open_at c g q
  closed_other c g q ne = ⊎_elim (λ s. absurd (ne (sym s.1))) (λ s. rw s.0 refl) (eqb_tells co c)

  loose_closed : (cs : List Coroutine) (P : ℕ → Type 0) → P co → (c : Cell) (v : Value) → Loose cs P c v → Loose cs P (closed_one c) v
  loose_closed cs P h c v (kept_closed w) = kept_closed w
  loose_closed cs P h c v (kept_apart x g r w ne at) = subst (λ c. Loose cs P c w) (sym (closed_other x g r (λ e. ne (subst P (sym e) h)))) (kept_apart x g r w ne at)

module _ (p : Pairs) (cs ds : List Coroutine) (one : OneToOne p) (co co' f from : ℕ) (registers others : List Value) (at : SameNumber p a_coroutine co co') (s : SameValues p registers others) where
  close_case : (x y g q : ℕ) (b b' : Bool) → b ≡ b' → SameNumber p a_coroutine x y → SameCell p cs ds (cond b (closed (nth registers q)) (open_at x g q)) (cond b' (closed (nth others q)) (open_at y g q))
  close_case x y g q true true e h = same_content (closed (nth registers q)) (closed (nth others q)) (nth registers q) (nth others q) (kept_closed (nth registers q)) (kept_closed (nth others q)) (nth_same p registers others q s)
  close_case x y g q false false e h = same_place x y g q h
  close_case x y g q true false e h = absurd (cc)
  close_case x y g q false true e h = absurd (cc)

  closed_cell_same : (c d : Cell) → SameCell p cs ds c d → SameCell p cs ds (closed_one co f from registers c) (closed_one co' f from others d)
  closed_cell_same c d (same_place x y g q h) =
      close_case x y g q (nat_eq co x && (nat_eq f g && not (nat_lt q from))) (nat_eq co' y && (nat_eq f g && not (nat_lt q from))) (rw (nat_eq_same (p.objects a_coroutine) co x co' y (one.objects a_coroutine) at h) refl) h
  closed_cell_same c d (same_content x y v w l m z) =
      same_content _ _ v w (loose_closed co f from registers cs (IsFirst p) (co', at) x v l) (loose_closed co' f from others ds (IsSecond p) (co, at) y w m) z

pub close_same : (p : Pairs) (A B : Objects) (co co' f from : ℕ) (registers others : List Value) → SameObjects p A B → SameNumber p a_coroutine co co' → SameValues p registers others
    → SameObjects p (record A { cells = close_from co f from registers A.cells }) (record B { cells = close_from co' f from others B.cells })
close_same p A B co co' f from registers others a at s = record {
  one_to_one = a.one_to_one;
  tables = a.tables;
  functions = a.functions;
  coroutines = a.coroutines;
  cells = λ i j h.
      let k = both_split (SameCell p A.coroutines B.coroutines) (slice_get A.cells i) (slice_get B.cells j) (a.cells i j h) in
      both_from (SameCell p A.coroutines B.coroutines) _ _ _ _ (closed_get co f from registers A.cells i k.0 k.2) (closed_get co' f from others B.cells j k.1 k.3)
      (closed_cell_same p A.coroutines B.coroutines a.one_to_one co co' f from registers others at s k.0 k.1 k.4);
  one_each = (each_close co f from registers A.cells a.one_each.0, each_close co' f from others B.cells a.one_each.1);
}

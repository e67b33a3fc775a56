-- The relation of the two forms: the same control, work and variables, and cells that are a pair or stand for a local alone.
use Rattle.std.proofs.Common.{ℕ, suc, ◌+◌, ◌<◌, ◌≤◌, ◌≡◌, ◌⊎◌, inl, inr, ⊎_elim, List, [], ◌∷◌, ◌++◌, length, Option, Some, None, refl, sym, ap, subst, ◌∙◌, arith, length-append}
use Rattle.std.specs.Prelude.{map}
use Rattle.std.proofs.lemmas.Bool.{cases_eq}
use Rattle.int_core.specs.Value.{Value, nth}
use Rattle.int_core.specs.Ask.{shared_by, held_below, gone_from, brought, cell_held, Answer}
use Rattle.lua_meaning.specs.World.{shared_in}
use Rattle.tree_core.specs.Tree.{Body}
use Rattle.tree_activation.specs.Work.{End, until, Passed, Point, Purpose, for_call, for_return, Control, collect, aim, store, choose, run, complete, decide, count_round, test_round, enter_round, capture, make, mark, pay, leave_scope, finish, Work, looping, repeating, counting, iterating, until_test, in_block, listed, dropped, function_to, if_test, while_test, aimed_key, aimed_field, when_declared, when_captured, Pending, Activation, State, at}
use Rattle.tree_activation.specs.Asking.{captured_locals}
use Rattle.tree_terms.specs.Bodies.{upvalues_of}
use Rattle.list_laws.specs.Held.{Has}
use Rattle.meaning_cells.specs.Alike.{Member, IsUnpaired, Cells, AreCells, AreEven, after_asks, CarriesOwn, Onward, Brings, as_carried, as_stored, opened, new_cell}
use Rattle.meaning_cells.proofs.Lists.{bring_at, bring_size, bring_own, held_from, gone_is, from_has, from_was, place_of, in_size, in_held, in_off, shared_was, out_is}
use Rattle.list_laws.proofs.Held.{below_has, below_was, find_has, has_find}
use Rattle.list_laws.proofs.Values.{nth_old, same_list}

-- what the two share, and their cells
pub record View : Type 0 where
  pub ls : List Value
  pub vs : List Value
  pub pd : List Pending
  pub hd : List (ℕ × ℕ)
  pub gd : List (ℕ × Value)
  pub hc : List (ℕ × ℕ)
  pub gc : List (ℕ × Value)

abbrev pub one : View → Activation
one v = record { celling = when_declared; locals = v.ls; varargs = v.vs; pending = v.pd; captured = record { held = v.hd; gone = v.gd } }

abbrev pub two : View → Activation
two v = record { celling = when_captured; locals = v.ls; varargs = v.vs; pending = v.pd; captured = record { held = v.hc; gone = v.gc } }

-- the cells that an activation holds in both forms, and what went out of scope since its last ask
pub record Held (ps : Cells) (size : ℕ) (hd : List (ℕ × ℕ)) (gd : List (ℕ × Value)) (hc : List (ℕ × ℕ)) (gc : List (ℕ × Value)) : Type 0 where
  pub cells : AreCells ps
  pub one_d : (n c d : ℕ) → Has n c hd → Has n d hd → c ≡ d
  pub one_c : (n c d : ℕ) → Has n c hc → Has n d hc → c ≡ d
  pub once : (n m c : ℕ) → Has n c hd → Has m c hd → n ≡ m
  pub scope : (n c : ℕ) → Has n c hd → n < size
  pub both : (n d : ℕ) → Has n d hc → (c : ℕ) × Has n c hd × Has c d ps.pairs
  pub each : (n c : ℕ) → Has n c hd → ((d : ℕ) × Has n d hc × Has c d ps.pairs) ⊎ IsUnpaired c ps.pairs
  pub mine : (n c : ℕ) → Has n c hd → Member c ps.own
  pub gone : (c : ℕ) (v : Value) → Has c v gd → Member c ps.own
  pub settled : (c d : ℕ) → Has c d ps.pairs → ((n : ℕ) → Has n c hd → ⊥) → nth (shared_in gd ps.stored) c ≡ nth (shared_in gc ps.stored_too) d

pub held_more : (ps : Cells) (a b : ℕ) (hd : List (ℕ × ℕ)) (gd : List (ℕ × Value)) (hc : List (ℕ × ℕ)) (gc : List (ℕ × Value)) → Held ps a hd gd hc gc → ((n c : ℕ) → Has n c hd → n < b) → Held ps b hd gd hc gc
held_more ps a b hd gd hc gc h l = record { cells = h.cells; one_d = h.one_d; one_c = h.one_c; once = h.once; scope = l; both = h.both; each = h.each; mine = h.mine; gone = h.gone; settled = h.settled }

-- in the second form too a cell is held for one local
once_too : (ps : Cells) (a : ℕ) (hd : List (ℕ × ℕ)) (gd : List (ℕ × Value)) (hc : List (ℕ × ℕ)) (gc : List (ℕ × Value)) → Held ps a hd gd hc gc → (n m d : ℕ) → Has n d hc → Has m d hc → n ≡ m
once_too ps a hd gd hc gc h n m d j k =
    let x = h.both n d j in
    let y = h.both m d k in
    h.once n m x.0 x.1 (subst (λ z. Has m z hd) (sym (h.cells.other_way x.0 y.0 d x.2 y.2)) y.1)

-- the partner of a cell that is not held is not held
off_too : (ps : Cells) (a : ℕ) (hd : List (ℕ × ℕ)) (gd : List (ℕ × Value)) (hc : List (ℕ × ℕ)) (gc : List (ℕ × Value)) → Held ps a hd gd hc gc
    → (c d : ℕ) → Has c d ps.pairs → ((n : ℕ) → Has n c hd → ⊥) → (n : ℕ) → Has n d hc → ⊥
off_too ps a hd gd hc gc h c d p off n k = let x = h.both n d k in off n (subst (λ z. Has n z hd) (h.cells.other_way x.0 c d x.2 p) x.1)

-- the partner of a held cell is held for the same local
on_too : (ps : Cells) (a : ℕ) (hd : List (ℕ × ℕ)) (gd : List (ℕ × Value)) (hc : List (ℕ × ℕ)) (gc : List (ℕ × Value)) → Held ps a hd gd hc gc
    → (n c d : ℕ) → Has c d ps.pairs → Has n c hd → Has n d hc
on_too ps a hd gd hc gc h n c d p k = ⊎_elim
    (λ m. subst (λ z. Has n z hc) (h.cells.one_way c m.0 d m.2 p) m.1)
    (λ alone. absurd (alone d p))
    (h.each n c k)

-- once both have asked, pairs have the same value
pub held_even : (ps : Cells) (a : ℕ) (hd : List (ℕ × ℕ)) (gd : List (ℕ × Value)) (hc : List (ℕ × ℕ)) (gc : List (ℕ × Value)) (ls : List Value) → Held ps a hd gd hc gc
    → AreEven (after_asks ps (shared_by hd ls ++ gd) (shared_by hc ls ++ gc))
held_even ps a hd gd hc gc ls h c d p = ⊎_elim
    (λ k.
    in_held hd gd ls ps.stored k.0 c (h.cells.there c d p) (λ r m x y. h.once r m c x y) k.1
    ∙ sym (in_held hc gc ls ps.stored_too k.0 d (h.cells.there_too c d p) (λ r m x y. once_too ps a hd gd hc gc h r m d x y) (on_too ps a hd gd hc gc h k.0 c d p k.1)))
    (λ off.
    in_off hd gd ls ps.stored c off ∙ h.settled c d p off
    ∙ sym (in_off hc gc ls ps.stored_too d (off_too ps a hd gd hc gc h c d p off)))
    (place_of c hd)

pub held_owns : (ps : Cells) (a : ℕ) (hd : List (ℕ × ℕ)) (gd : List (ℕ × Value)) (hc : List (ℕ × ℕ)) (gc : List (ℕ × Value)) (ls : List Value) → Held ps a hd gd hc gc
    → CarriesOwn ps (shared_by hd ls ++ gd)
held_owns ps a hd gd hc gc ls h c v k = ⊎_elim (λ m. h.mine m.0 c m.1) (λ m. h.gone c v m) (shared_was hd gd ls c v k)

-- locals from a level on have gone out of scope
pub held_cut : (ps : Cells) (a b level : ℕ) (hd : List (ℕ × ℕ)) (gd : List (ℕ × Value)) (hc : List (ℕ × ℕ)) (gc : List (ℕ × Value)) (ls : List Value) → Held ps a hd gd hc gc
    → ((n : ℕ) → n < a → n < level → n < b)
    → Held ps b (held_below level hd) (gone_from level hd ls ++ gd) (held_below level hc) (gone_from level hc ls ++ gc)
held_cut ps a b level hd gd hc gc ls h l = record {
  cells = h.cells;
  one_d = λ n c d k m. h.one_d n c d (below_was level hd n c k).0 (below_was level hd n d m).0;
  one_c = λ n c d k m. h.one_c n c d (below_was level hc n c k).0 (below_was level hc n d m).0;
  once = λ n m c k j. h.once n m c (below_was level hd n c k).0 (below_was level hd m c j).0;
  scope = λ n c k. let w = below_was level hd n c k in l n (h.scope n c w.0) w.1;
  both = λ n d k. let w = below_was level hc n d k in let b = h.both n d w.0 in (b.0, below_has level hd n b.0 b.1 w.1, b.2);
  each = λ n c k. let w = below_was level hd n c k in
      ⊎_elim (λ m. inl (m.0, below_has level hc n m.0 m.1 w.1, m.2)) (λ m. inr m) (h.each n c w.0);
  mine = λ n c k. h.mine n c (below_was level hd n c k).0;
  gone = λ c v k.
      ⊎_elim (λ m. h.mine m.0 c (from_was level hd m.0 c m.1)) (λ m. h.gone c v m)
      (shared_was (held_from level hd) gd ls c v (subst (λ z. Has c v (z ++ gd)) (gone_is level hd ls) k));
  settled = λ c d p off.
      subst (λ z. nth (shared_in (z ++ gd) ps.stored) c ≡ nth (shared_in (gone_from level hc ls ++ gc) ps.stored_too) d) (sym (gone_is level hd ls))
      (subst (λ z. nth (shared_in (shared_by (held_from level hd) ls ++ gd) ps.stored) c ≡ nth (shared_in (z ++ gc) ps.stored_too) d) (sym (gone_is level hc ls))
      (gone_settled c d p off));
}
  where
    gone_settled : (c d : ℕ) → Has c d ps.pairs → ((n : ℕ) → Has n c (held_below level hd) → ⊥)
        → nth (shared_in (shared_by (held_from level hd) ls ++ gd) ps.stored) c ≡ nth (shared_in (shared_by (held_from level hc) ls ++ gc) ps.stored_too) d
    gone_settled c d p off = ⊎_elim
        (λ k.
        let up : Has k.0 c (held_from level hd) = ⊎_elim (λ m. absurd (off k.0 m)) (λ m. m) (from_has level hd k.0 c k.1) in
        let also = on_too ps a hd gd hc gc h k.0 c d p k.1 in
        let up_too : Has k.0 d (held_from level hc) =
        ⊎_elim (λ m. absurd (off k.0 (below_has level hd k.0 c k.1 (below_was level hc k.0 d m).1))) (λ m. m) (from_has level hc k.0 d also) in
        in_held (held_from level hd) gd ls ps.stored k.0 c (h.cells.there c d p) (λ r m x y. h.once r m c (from_was level hd r c x) (from_was level hd m c y)) up
        ∙ sym (in_held (held_from level hc) gc ls ps.stored_too k.0 d (h.cells.there_too c d p)
        (λ r m x y. once_too ps a hd gd hc gc h r m d (from_was level hc r d x) (from_was level hc m d y)) up_too))
        (λ not_held.
        in_off (held_from level hd) gd ls ps.stored c (λ n m. not_held n (from_was level hd n c m)) ∙ h.settled c d p not_held
        ∙ sym (in_off (held_from level hc) gc ls ps.stored_too d (λ n m. off_too ps a hd gd hc gc h c d p not_held n (from_was level hc n d m))))
        (place_of c hd)

-- an answer has come
pub held_told : (ps now : Cells) (a b : ℕ) (hd : List (ℕ × ℕ)) (gd : List (ℕ × Value)) (hc : List (ℕ × ℕ)) (gc : List (ℕ × Value)) (shared also : List (ℕ × Value))
    → Held ps a hd gd hc gc → ((n c : ℕ) → Has n c hd → n < b) → Onward (after_asks ps shared also) now → AreEven now → Held now b hd [] hc []
held_told ps now a b hd gd hc gc shared also h l on even = record {
  cells = on.are;
  one_d = h.one_d;
  one_c = h.one_c;
  once = h.once;
  scope = l;
  both = λ n d k. let x = h.both n d k in (x.0, x.1, on.more x.0 d x.2);
  each = λ n c k. ⊎_elim (λ m. inl (m.0, m.1, on.more c m.0 m.2)) (λ m. inr (on.still c (h.mine n c k) m).0) (h.each n c k);
  mine = λ n c k. on.own c (h.mine n c k);
  gone = λ c v k. absurd k;
  settled = λ c d p off. even c d p;
}

-- cells that are opened

-- there are more cells, and no new pair
pub cells_more : (ps : Cells) (xs ys : List Value) (own : List ℕ) → AreCells ps → length ps.stored ≤ length xs → length ps.stored_too ≤ length ys
    → ((c : ℕ) → Member c own → c < length xs) → AreCells (record { pairs = ps.pairs; stored = xs; stored_too = ys; own = own })
cells_more ps xs ys own a l m o = record {
  one_way = a.one_way;
  other_way = a.other_way;
  there = λ c d p. let z = a.there c d p in omega (arith, z, l);
  there_too = λ c d p. let z = a.there_too c d p in omega (arith, z, m);
  own_there = o;
}

pub cells_paired : (ps : Cells) (xs ys : List Value) (own : List ℕ) (c d : ℕ) → AreCells ps → length ps.stored ≤ length xs → length ps.stored_too ≤ length ys
    → ((b : ℕ) → Member b own → b < length xs) → IsUnpaired c ps.pairs → length ps.stored_too ≤ d → c < length xs → d < length ys
    → AreCells (record { pairs = (c, d) ∷ ps.pairs; stored = xs; stored_too = ys; own = own })
cells_paired ps xs ys own c d a l m o alone new within within_too = record {
  one_way = λ x y z p q. ⊎_elim
      (λ i. ⊎_elim (λ j. sym i.1 ∙ j.1) (λ j. absurd (alone z (subst (λ w. Has w z ps.pairs) (sym i.0) j))) q)
      (λ i. ⊎_elim (λ j. absurd (alone y (subst (λ w. Has w y ps.pairs) (sym j.0) i))) (λ j. a.one_way x y z i j) q) p;
  other_way = λ x y z p q. ⊎_elim
      (λ i. ⊎_elim (λ j. sym i.0 ∙ j.0) (λ j. absurd (let w = a.there_too y z j in let e = i.1 in omega (arith, w, e, new))) q)
      (λ i. ⊎_elim (λ j. absurd (let w = a.there_too x z i in let e = j.1 in omega (arith, w, e, new))) (λ j. a.other_way x y z i j) q) p;
  there = λ x y p. ⊎_elim (λ i. let e = i.0 in omega (arith, e, within)) (λ i. let z = a.there x y i in omega (arith, z, l)) p;
  there_too = λ x y p. ⊎_elim (λ i. let e = i.1 in omega (arith, e, within_too)) (λ i. let z = a.there_too x y i in omega (arith, z, m)) p;
  own_there = o;
}

-- the first form has opened a cell for a local
pub held_first : (ps : Cells) (size n : ℕ) (ls : List Value) (v : Value) (hd : List (ℕ × ℕ)) (gd : List (ℕ × Value)) (hc : List (ℕ × ℕ)) (gc : List (ℕ × Value)) (c : ℕ)
    → Held ps size hd gd hc gc → n < size → cell_held n hd ≡ None → c ≡ new_cell (shared_by hd ls ++ gd) ps.stored
    → Held (record ps { stored = opened (shared_by hd ls ++ gd) v ps.stored; own = c ∷ ps.own }) size ((n, c) ∷ hd) [] hc gc
held_first ps size n ls v hd gd hc gc c h l none number =
    let shared = shared_by hd ls ++ gd in
    let same = in_size shared ps.stored in
    let longer = length-append (shared_in shared ps.stored) (v ∷ []) in
    let new : (m : ℕ) → Has m c hd → ⊥ = λ m k. let z = h.cells.own_there c (h.mine m c k) in omega (arith, z, number, same) in
    let alone : IsUnpaired c ps.pairs = λ d p. let z = h.cells.there c d p in omega (arith, z, number, same) in record {
      cells = cells_more ps (opened shared v ps.stored) ps.stored_too (c ∷ ps.own) h.cells (omega (arith, same, longer)) (omega arith)
          (λ x m. ⊎_elim (λ e. omega (arith, e, number, longer)) (λ k. let z = h.cells.own_there x k in omega (arith, z, same, longer)) m);
      one_d = λ m x y k j. ⊎_elim
          (λ a. ⊎_elim (λ b. sym a.1 ∙ b.1) (λ b. absurd (has_find hd n y (subst (λ z. Has z y hd) (sym a.0) b) none)) j)
          (λ a. ⊎_elim (λ b. absurd (has_find hd n x (subst (λ z. Has z x hd) (sym b.0) a) none)) (λ b. h.one_d m x y a b) j) k;
      one_c = h.one_c;
      once = λ p q x k j. ⊎_elim
          (λ a. ⊎_elim (λ b. sym a.0 ∙ b.0) (λ b. absurd (new q (subst (λ z. Has q z hd) (sym a.1) b))) j)
          (λ a. ⊎_elim (λ b. absurd (new p (subst (λ z. Has p z hd) (sym b.1) a))) (λ b. h.once p q x a b) j) k;
      scope = λ m x k. ⊎_elim (λ a. subst (λ z. z < size) a.0 l) (λ a. h.scope m x a) k;
      both = λ m d k. let b = h.both m d k in (b.0, inr b.1, b.2);
      each = λ m x k. ⊎_elim (λ a. inr (subst (λ z. IsUnpaired z ps.pairs) a.1 alone)) (λ a. h.each m x a) k;
      mine = λ m x k. ⊎_elim (λ a. inl a.1) (λ a. inr (h.mine m x a)) k;
      gone = λ x w k. absurd k;
      settled = λ x d p off.
          let within = h.cells.there x d p in
          nth_old (shared_in shared ps.stored) (v ∷ []) x (omega (arith, within, same)) ∙ in_off hd gd ls ps.stored x (λ m k. off m (inr k))
          ∙ h.settled x d p (λ m k. off m (inr k));
    }

-- the second form has opened a cell for a local that has one in the first form
pub held_second : (ps : Cells) (size n c : ℕ) (ls : List Value) (v : Value) (hd : List (ℕ × ℕ)) (gd : List (ℕ × Value)) (hc : List (ℕ × ℕ)) (gc : List (ℕ × Value)) (d : ℕ)
    → Held ps size hd gd hc gc → Has n c hd → IsUnpaired c ps.pairs → cell_held n hc ≡ None → d ≡ new_cell (shared_by hc ls ++ gc) ps.stored_too
    → Held (record ps { pairs = (c, d) ∷ ps.pairs; stored_too = opened (shared_by hc ls ++ gc) v ps.stored_too }) size hd gd ((n, d) ∷ hc) []
held_second ps size n c ls v hd gd hc gc d h has alone none number =
    let also = shared_by hc ls ++ gc in
    let same = in_size also ps.stored_too in
    let longer = length-append (shared_in also ps.stored_too) (v ∷ []) in record {
      cells = cells_paired ps ps.stored (opened also v ps.stored_too) ps.own c d h.cells (omega arith) (omega (arith, same, longer)) h.cells.own_there alone
          (omega (arith, number, same)) (h.cells.own_there c (h.mine n c has)) (omega (arith, number, longer));
      one_d = h.one_d;
      one_c = λ m x y k j. ⊎_elim
          (λ a. ⊎_elim (λ b. sym a.1 ∙ b.1) (λ b. absurd (has_find hc n y (subst (λ z. Has z y hc) (sym a.0) b) none)) j)
          (λ a. ⊎_elim (λ b. absurd (has_find hc n x (subst (λ z. Has z x hc) (sym b.0) a) none)) (λ b. h.one_c m x y a b) j) k;
      once = h.once;
      scope = h.scope;
      both = λ m x k. ⊎_elim
          (λ a. (c, subst (λ z. Has z c hd) a.0 has, inl (refl, a.1)))
          (λ a. let b = h.both m x a in (b.0, b.1, inr b.2)) k;
      each = λ m x k. ⊎_elim
          (λ a. inl (a.0, inr a.1, inr a.2))
          (λ a. ⊎_elim
          (λ e. let f : n ≡ m = h.once n m c has (subst (λ z. Has m z hd) e k) in inl (d, inl (f, refl), inl (sym e, refl)))
          (λ ne. inr (λ y p. ⊎_elim (λ q. ne (sym q.0)) (λ q. a y q) p))
          (cases_eq x c))
          (h.each m x k);
      mine = h.mine;
      gone = h.gone;
      settled = λ x y p off. ⊎_elim
          (λ i. absurd (off n (subst (λ z. Has n z hd) i.0 has)))
          (λ i.
          let within = h.cells.there_too x y i in
          h.settled x y i off ∙ sym (in_off hc gc ls ps.stored_too y (off_too ps size hd gd hc gc h x y i off))
          ∙ sym (nth_old (shared_in also ps.stored_too) (v ∷ []) y (omega (arith, within, same)))) p;
    }

-- both have opened a cell for a local
pub held_both : (ps : Cells) (size n : ℕ) (ls : List Value) (v w : Value) (hd : List (ℕ × ℕ)) (gd : List (ℕ × Value)) (hc : List (ℕ × ℕ)) (gc : List (ℕ × Value)) (c d : ℕ)
    → Held ps size hd gd hc gc → n < size → cell_held n hd ≡ None → cell_held n hc ≡ None
    → c ≡ new_cell (shared_by hd ls ++ gd) ps.stored → d ≡ new_cell (shared_by hc ls ++ gc) ps.stored_too
    → Held (record { pairs = (c, d) ∷ ps.pairs; stored = opened (shared_by hd ls ++ gd) v ps.stored; stored_too = opened (shared_by hc ls ++ gc) w ps.stored_too; own = c ∷ ps.own })
    size ((n, c) ∷ hd) [] ((n, d) ∷ hc) []
held_both ps size n ls v w hd gd hc gc c d h l none none_too number number_too =
    let same = in_size (shared_by hd ls ++ gd) ps.stored in
    held_second (record ps { stored = opened (shared_by hd ls ++ gd) v ps.stored; own = c ∷ ps.own }) size n c ls w ((n, c) ∷ hd) [] hc gc d
    (held_first ps size n ls v hd gd hc gc c h l none number) (inl (refl, refl)) (λ x p. let z = h.cells.there c x p in omega (arith, z, number, same)) none_too number_too

-- the loop on top of the work bounds the cells that may be held once a round is done
abbrev pub bound : List Work → Option ℕ
bound (counting line block level ∷ k) = Some (level + 4)
bound (iterating line names block level ∷ k) = Some (level + 4)
bound _ = None

-- that many locals are in scope as long as this work waits
abbrev pub floor : List Work → ℕ
floor [] = 0
floor (iterating line names block level ∷ k) = level + 4
floor (w ∷ k) = floor k

abbrev pub Under : Option ℕ → ℕ → Type 0
Under None level = Unit {0}
Under (Some b) level = level ≤ b

abbrev pub Low : Option ℕ → List (ℕ × ℕ) → Type 0
Low None hd = Unit {0}
Low (Some b) hd = (n c : ℕ) → Has n c hd → n < b

abbrev pub Labels : ℕ → List Passed → Type 0
Labels f [] = Unit {0}
Labels f (x ∷ labels) = (f ≤ x.level) × Labels f labels

-- the test of a `repeat` stands over no loop of another kind
abbrev pub IsEnd : Option ℕ → End → Type 0
IsEnd b (until line test) = b ≡ None
IsEnd b ending = Unit {0}

abbrev pub IsPoint : Option ℕ → ℕ → Point → Type 0
IsPoint b f p = Under b p.level × (f ≤ p.level) × Labels f p.labels × IsEnd b p.ending

-- a list of values that ends in a statement's end
abbrev pub Serves : Purpose → Option ℕ → Type 0
Serves (for_call line is_last) b = Unit {0}
Serves (for_return line) b = Unit {0}
Serves purpose b = b ≡ None

abbrev pub Fits : Work → Option ℕ → ℕ → Type 0
Fits (looping line test block level) b f = (b ≡ None) × (f ≤ level)
Fits (repeating line test block level) b f = (b ≡ None) × (f ≤ level)
Fits (counting line block level) b f = (b ≡ None) × (f ≤ level)
Fits (iterating line names block level) b f = (b ≡ None) × (f ≤ level)
Fits (until_test line level) b f = (b ≡ None) × (f ≤ level)
Fits (in_block here p) b f = IsPoint b f p × (f ≤ here)
Fits (listed purpose have es) b f = Serves purpose b
Fits dropped b f = b ≡ None
Fits (function_to n) b f = b ≡ None
Fits (if_test block more otherwise) b f = b ≡ None
Fits (while_test line test block) b f = b ≡ None
Fits (aimed_key line key aimed ts es) b f = b ≡ None
Fits (aimed_field line t aimed ts es) b f = b ≡ None
Fits w b f = Unit {0}

abbrev pub Sound : List Work → Type 0
Sound [] = Unit {0}
Sound (w ∷ k) = Fits w (bound k) (floor k) × Sound k

-- once the locals with these numbers have cells, so have all that a function captures
abbrev pub Ready : List ℕ → Body → List (ℕ × ℕ) → Type 0
Ready ns body hc = (n : ℕ) → Member n (captured_locals (upvalues_of body)) → Member n ns ⊎ ((d : ℕ) × Has n d hc)

-- what a control needs once its scope has been left
abbrev pub Landed : ℕ → Control → Option ℕ → ℕ → Type 0
Landed level complete b f = Under b level
Landed level (run p) b f = IsPoint b f p
Landed level (pay line next) b f = Landed level next b f
Landed level (decide truth) b f = b ≡ None
Landed level (finish line l) b f = Unit {0}
Landed level _ b f = ⊥

abbrev pub Captures : List ℕ → Control → List (ℕ × ℕ) → Type 0
Captures ns (make body) hc = Ready ns body hc
Captures ns _ hc = ⊥

-- what a control needs
abbrev pub Req : Control → Option ℕ → ℕ → List (ℕ × ℕ) → List (ℕ × ℕ) → Type 0
Req (run p) b f hd hc = IsPoint b f p
Req complete b f hd hc = Low b hd
Req count_round b f hd hc = Low b hd
Req (test_round vs) b f hd hc = Low b hd
Req (enter_round vs) b f hd hc = Low b hd
Req (pay line next) b f hd hc = Req next b f hd hc
Req (mark line name n next) b f hd hc = Req next b f hd hc
Req (leave_scope level line e next) b f hd hc = (f ≤ level) × Landed level next b f
Req (make body) b f hd hc = Ready [] body hc
Req (capture line ns next) b f hd hc = Captures ns next hc
Req (collect purpose have es) b f hd hc = Serves purpose b
Req (aim aimed ts es) b f hd hc = b ≡ None
Req (store pairs) b f hd hc = b ≡ None
Req (choose arms otherwise) b f hd hc = b ≡ None
Req (decide truth) b f hd hc = b ≡ None
Req _ b f hd hc = Unit {0}

-- the two are at the same place; or the first one still has to open cells for what was declared
pub data Rel (ps : Cells) : State → State → Type 0 where
  same : (v : View) (k : List Work) (control : Control) → Held ps (length v.ls) v.hd v.gd v.hc v.gc → floor k ≤ length v.ls
      → Req control (bound k) (floor k) v.hd v.hc → Sound k → Rel ps (at control (one v) k) (at control (two v) k)
  early : (v : View) (k : List Work) (line : ℕ) (ns : List ℕ) (control : Control) → Held ps (length v.ls) v.hd v.gd v.hc v.gc → floor k ≤ length v.ls
      → ((n : ℕ) → Member n ns → n < length v.ls) → ((hd : List (ℕ × ℕ)) → Req control (bound k) (floor k) hd v.hc) → Sound k
      → Rel ps (at (capture line ns control) (one v) k) (at control (two v) k)

-- how many steps the first one is behind at most
abbrev pub steps_behind : {ps : Cells} {s t : State} → Rel ps s t → ℕ
steps_behind (same v k control h d r s) = 0
steps_behind (early v k line ns control h d scope r s) = suc (length ns)

-- the same values are brought back to both
bring_both : (ps : Cells) (v : View) (f g : ℕ → Value) → Held ps (length v.ls) v.hd v.gd v.hc v.gc
    → ((c d : ℕ) → Has c d ps.pairs → f c ≡ g d) → ((n c : ℕ) → Has n c v.hd → IsUnpaired c ps.pairs → f c ≡ nth v.ls n) → (r : ℕ)
    → nth (brought v.hd (map (λ s. f s.0) (shared_by v.hd v.ls ++ v.gd)) v.ls) r ≡ nth (brought v.hc (map (λ s. g s.0) (shared_by v.hc v.ls ++ v.gc)) v.ls) r
bring_both ps v f g h alike own r = by (cell_held r v.hd) (cell_held r v.hc) refl refl
  where
    by : (o p : Option ℕ) → cell_held r v.hd ≡ o → cell_held r v.hc ≡ p
        → nth (brought v.hd (map (λ s. f s.0) (shared_by v.hd v.ls ++ v.gd)) v.ls) r ≡ nth (brought v.hc (map (λ s. g s.0) (shared_by v.hc v.ls ++ v.gc)) v.ls) r
    by None p e q =
        bring_at f v.hd v.ls v.gd v.ls r (nth v.ls r) (inl refl) (λ c k. absurd (has_find v.hd r c k e))
        ∙ sym (bring_at g v.hc v.ls v.gc v.ls r (nth v.ls r) (inl refl) (λ d k. let b = h.both r d k in absurd (has_find v.hd r b.0 b.1 e)))
    by (Some c) None e q =
        let has = find_has v.hd r c e in
        let alone : IsUnpaired c ps.pairs = ⊎_elim (λ m. absurd (has_find v.hc r m.0 m.1 q)) (λ m. m) (h.each r c has) in
        bring_at f v.hd v.ls v.gd v.ls r (nth v.ls r) (inl refl) (λ x k. ap f (h.one_d r x c k has) ∙ own r c has alone)
        ∙ sym (bring_at g v.hc v.ls v.gc v.ls r (nth v.ls r) (inl refl) (λ d k. absurd (has_find v.hc r d k q)))
    by (Some c) (Some d) e q =
        let has = find_has v.hd r c e in
        let also = find_has v.hc r d q in
        let b = h.both r d also in
        bring_at f v.hd v.ls v.gd v.ls r (f c) (inr (c, has)) (λ x k. ap f (h.one_d r x c k has))
        ∙ ap f (h.one_d r c b.0 has b.1) ∙ alike b.0 d b.2
        ∙ sym (bring_at g v.hc v.ls v.gc v.ls r (g d) (inr (d, also)) (λ x k. ap g (h.one_c r x d k also)))

pub in_scope_too : (ps : Cells) (v : View) → Held ps (length v.ls) v.hd v.gd v.hc v.gc → (n d : ℕ) → Has n d v.hc → n < length v.ls
in_scope_too ps v h n d k = let b = h.both n d k in h.scope n b.0 b.1

pub brought_same : (ps now : Cells) (v : View) (x y : Answer) → Held ps (length v.ls) v.hd v.gd v.hc v.gc
    → Onward (after_asks ps (shared_by v.hd v.ls ++ v.gd) (shared_by v.hc v.ls ++ v.gc)) now → AreEven now
    → Brings now (shared_by v.hd v.ls ++ v.gd) (shared_by v.hc v.ls ++ v.gc) x y
    → brought v.hd x.shared v.ls ≡ brought v.hc y.shared v.ls
brought_same ps now v x y h on even (as_carried a b) =
    ap (λ xs. brought v.hd xs v.ls) a ∙ bring_own v.hd v.gd v.ls h.scope
    ∙ sym (ap (λ ys. brought v.hc ys v.ls) b ∙ bring_own v.hc v.gc v.ls (in_scope_too ps v h))
brought_same ps now v x y h on even (as_stored a b) =
    let shared = shared_by v.hd v.ls ++ v.gd in
    let also = shared_by v.hc v.ls ++ v.gc in
    ap (λ xs. brought v.hd xs v.ls) (a ∙ out_is shared now.stored)
    ∙ same_list (brought v.hd (map (λ s. nth now.stored s.0) shared) v.ls) (brought v.hc (map (λ s. nth now.stored_too s.0) also) v.ls)
    (bring_size (map (λ s. nth now.stored s.0) shared) v.hd v.ls h.scope
    ∙ sym (bring_size (map (λ s. nth now.stored_too s.0) also) v.hc v.ls (in_scope_too ps v h)))
    (bring_both ps v (nth now.stored) (nth now.stored_too) h (λ c d p. even c d (on.more c d p))
    (λ n c k alone.
    (on.still c (h.mine n c k) alone).1 ∙ in_held v.hd v.gd v.ls ps.stored n c (h.cells.own_there c (h.mine n c k)) (λ r m i j. h.once r m c i j) k))
    ∙ sym (ap (λ ys. brought v.hc ys v.ls) (b ∙ out_is also now.stored_too))

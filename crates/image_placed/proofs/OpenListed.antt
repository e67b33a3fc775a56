-- Open cells and the lists of stacks, while coroutines are placed one after another.
use Rattle.std.proofs.Common.{◌≡◌, ◌⊎◌, inl, inr, ⊎_elim, ℕ, zero, suc, ◌+◌, ◌<◌, ◌≤◌, List, [], ◌∷◌, ◌++◌, Option, Some, None, length, refl, ap, sym, subst, ◌∙◌, arith}
use Rattle.std.specs.Prelude.{slice_get}
use Rattle.std.specs.List.{Contains}
use Rattle.std.specs.List.Sorted.{IsPermutation}
use Rattle.std.proofs.lemmas.List.Sorted.{IsPermutation-sym, Contains-permutation}
use Rattle.std.proofs.lemmas.Option.{slice_get_within, get_or_from_slice_get, slice_get-get_or}
use Rattle.list_laws.proofs.Items.{get_either, get_old, get_new, length_more, some_same}
use Rattle.machine_sound.proofs.Lists.{get_front, get_within}
use Rattle.table_core.specs.declared.value.CellId.{CellId}
use Rattle.table_core.specs.declared.value.CoroId.{CoroId}
use Rattle.lua_stack.specs.declared.frame.OpenCell.{OpenCell}
use Rattle.lua_stack.specs.Frames.{cell_at}
use Rattle.lua_heap.specs.declared.world.Cell.{Cell}
use Rattle.lua_heap.specs.declared.world.Cell.TheVariants.{Open, Closed}
use Rattle.lua_heap.specs.Adding.{Begins}
use Rattle.lua_heap.specs.Cells.{AreListed, IsOnce}
use Rattle.image_made.specs.declared.stack.Opening.{Opening}
use Rattle.image_made.specs.Stacks.{Lists}
use Rattle.image_placed.specs.Placing.{AreOpen, IsLeft, AreAll, AreListedBut}

lt_or : (i n : ℕ) → (i < n) ⊎ (n ≤ i)
lt_or i zero = inr (omega arith)
lt_or zero (suc n) = inl (omega arith)
lt_or (suc i) (suc n) = ⊎_elim (λ l. inl (omega (arith, l))) (λ g. inr (omega (arith, g))) (lt_or i n)

abbrev coro_of : ℕ → CoroId
coro_of n = record { 0 = n }

coro_same : (a b : CoroId) → a.0 ≡ b.0 → a ≡ b
coro_same a b e = ap coro_of e

no_place : {X : Type 0} (n m : ℕ) → n < m → n ≡ m → X
no_place n m l e = absurd (omega (arith, l, e))

-- a stack that is placed last takes the openings up to a place
module _ (C : List Cell) (L : List (Option (List OpenCell))) (os : List Opening) (co : CoroId) (from to : ℕ) (cells : List OpenCell)
    (open_ones : AreOpen C os) (b : AreListedBut C L os from) (here : co.0 ≡ length L) (lists : Lists co os from to cells) where
  -- the coroutine of an opening that the stack takes is new
  taken_is : (id : CellId) (k : CoroId) (frame register i : ℕ) → from ≤ i → i < to → slice_get os i ≡ Some (record { coro = k; frame = frame; register = register; cell = id }) → k ≡ co
  taken_is id k frame register i l m g = (lists.each i (record { coro = k; frame = frame; register = register; cell = id }) l m g).0

  taken_at : (id : CellId) (k : CoroId) (frame register i : ℕ) → from ≤ i → i < to → slice_get os i ≡ Some (record { coro = k; frame = frame; register = register; cell = id }) → cell_at frame register cells ≡ Some id
  taken_at id k frame register i l m g = (lists.each i (record { coro = k; frame = frame; register = register; cell = id }) l m g).1

  old_number : (k : CoroId) (own : List OpenCell) → slice_get L k.0 ≡ Some (Some own) → k ≡ co → ⊥
  old_number k own h e =
      let l = get_within L k.0 (Some own) h in
      let f = ap (λ (c : CoroId). c.0) e in
      omega (arith, l, f, here)

  listed_old : (id : CellId) (k : CoroId) (frame register : ℕ) (own : List OpenCell) → slice_get L k.0 ≡ Some (Some own) → slice_get C id.0 ≡ Some (Open k frame register)
      → (cell_at frame register own ≡ Some id) ⊎ IsLeft os to id k frame register
  listed_old id k frame register own h g =
      ⊎_elim (λ e. inl e)
      (λ left. ⊎_elim (λ m. absurd (old_number k own h (taken_is id k frame register left.0 left.1 m left.2))) (λ m. inr (left.0, m, left.2)) (lt_or left.0 to))
      (b.listed id k frame register own h g)

  listed_new : (id : CellId) (k : CoroId) (frame register : ℕ) → k.0 ≡ length L → slice_get C id.0 ≡ Some (Open k frame register)
      → (cell_at frame register cells ≡ Some id) ⊎ IsLeft os to id k frame register
  listed_new id k frame register e g =
      ⊎_elim (λ h. absurd (old_number k h.0 h.1 (coro_same k co (e ∙ sym here))))
      (λ left. ⊎_elim (λ m. inl (taken_at id k frame register left.0 left.1 m left.2)) (λ m. inr (left.0, m, left.2)) (lt_or left.0 to))
      (b.held id k frame register g)

  new_list : (own : List OpenCell) → Some cells ≡ Some own → cells ≡ own
  new_list own e = some_same cells own e

  opened_new : (id : CellId) (k : CoroId) (frame register : ℕ) → k.0 ≡ length L → cell_at frame register cells ≡ Some id → slice_get C id.0 ≡ Some (Open k frame register)
  opened_new id k frame register e h =
      let o = lists.only frame register id h in
      let same : co ≡ k = coro_same co k (here ∙ sym e) in
      subst (λ c. slice_get C id.0 ≡ Some (Open c frame register)) same (open_ones.each o.0 (record { coro = co; frame = frame; register = register; cell = id }) o.1)

  held_now : (id : CellId) (k : CoroId) (frame register : ℕ) → slice_get C id.0 ≡ Some (Open k frame register)
      → ((own : List OpenCell) × (slice_get (L ++ Some cells ∷ []) k.0 ≡ Some (Some own))) ⊎ IsLeft os to id k frame register
  held_now id k frame register g =
      ⊎_elim (λ h. inl (h.0, get_old L (Some cells ∷ []) k.0 (Some h.0) h.1))
      (λ left. ⊎_elim
      (λ m. let e : k.0 ≡ length L = ap (λ (c : CoroId). c.0) (taken_is id k frame register left.0 left.1 m left.2) ∙ here in
      inl (cells, ap (slice_get (L ++ Some cells ∷ [])) e ∙ get_new L (Some cells)))
      (λ m. inr (left.0, m, left.2)) (lt_or left.0 to))
      (b.held id k frame register g)

  pub stack_listed : AreListedBut C (L ++ Some cells ∷ []) os to
  stack_listed = record {
    listed = λ id k frame register own e g.
        ⊎_elim (λ h. listed_old id k frame register own h g)
        (λ h. subst (λ own. (cell_at frame register own ≡ Some id) ⊎ IsLeft os to id k frame register) (new_list own h.1) (listed_new id k frame register h.0 g))
        (get_either L (Some cells) k.0 (Some own) e);
    opened = λ id k frame register own e h.
        ⊎_elim (λ h2. b.opened id k frame register own h2 h)
        (λ h2. opened_new id k frame register h2.0 (subst (λ own. cell_at frame register own ≡ Some id) (sym (new_list own h2.1)) h))
        (get_either L (Some cells) k.0 (Some own) e);
    held = held_now;
    once = λ n own e. ⊎_elim (λ h. b.once n own h) (λ h. subst IsOnce (new_list own h.1) lists.once) (get_either L (Some cells) n (Some own) e);
  }

-- a coroutine without a stack takes none
pub none_listed : (C : List Cell) (L : List (Option (List OpenCell))) (os : List Opening) (at : ℕ) → AreListedBut C L os at → AreListedBut C (L ++ None ∷ []) os at
none_listed C L os at b = record {
  listed = λ id k frame register own e g. b.listed id k frame register own (old k.0 own e) g;
  opened = λ id k frame register own e h. b.opened id k frame register own (old k.0 own e) h;
  held = λ id k frame register g. ⊎_elim (λ h. inl (h.0, get_old L (None ∷ []) k.0 (Some h.0) h.1)) (λ left. inr left) (b.held id k frame register g);
  once = λ n own e. b.once n own (old n own e);
}
  where
    old : (n : ℕ) (own : List OpenCell) → slice_get (L ++ None ∷ []) n ≡ Some (Some own) → slice_get L n ≡ Some (Some own)
    old n own e = ⊎_elim (λ h. h) (λ h. absurd (cc)) (get_either L None n (Some own) e)

-- where no opening is left, stacks list what is open
none_left : (os : List Opening) (at : ℕ) → length os ≤ at → (id : CellId) (k : CoroId) (frame register : ℕ) → IsLeft os at id k frame register → ⊥
none_left os at l id k frame register left = let w = get_within os left.0 (record { coro = k; frame = frame; register = register; cell = id }) left.2 in let m = left.1 in omega (arith, l, w, m)

pub all_listed : (C : List Cell) (L : List (Option (List OpenCell))) (os : List Opening) (at : ℕ) → length os ≤ at → AreListedBut C L os at → AreListed C L
all_listed C L os at l b = record {
  listed = λ id k frame register own e g. ⊎_elim (λ h. h) (λ left. absurd (none_left os at l id k frame register left)) (b.listed id k frame register own e g);
  opened = b.opened;
  held = λ id k frame register g. ⊎_elim (λ h. h) (λ left. absurd (none_left os at l id k frame register left)) (b.held id k frame register g);
  once = b.once;
}

-- cells are placed behind those that stacks list
pub cells_listed : (B C : List Cell) (L : List (Option (List OpenCell))) (os : List Opening) → Begins Cell B C → AreListed B L → AreAll C (length B) (length C) os → AreListedBut C L os 0
cells_listed B C L os begins a all = record {
  listed = λ id k frame register own e g.
      ⊎_elim (λ l. inl (a.listed id k frame register own e (front id k frame register l g))) (λ l. inr (new id k frame register l g)) (lt_or id.0 (length B));
  opened = λ id k frame register own e h. ap (λ (cs : List Cell). slice_get cs id.0) begins.is ∙ get_old B begins.more id.0 (Open k frame register) (a.opened id k frame register own e h);
  held = λ id k frame register g. ⊎_elim (λ l. inl (a.held id k frame register (front id k frame register l g))) (λ l. inr (new id k frame register l g)) (lt_or id.0 (length B));
  once = a.once;
}
  where
    front : (id : CellId) (k : CoroId) (frame register : ℕ) → id.0 < length B → slice_get C id.0 ≡ Some (Open k frame register) → slice_get B id.0 ≡ Some (Open k frame register)
    front id k frame register l g = sym (get_front B begins.more id.0 l) ∙ (sym (ap (λ (cs : List Cell). slice_get cs id.0) begins.is) ∙ g)

    new : (id : CellId) (k : CoroId) (frame register : ℕ) → length B ≤ id.0 → slice_get C id.0 ≡ Some (Open k frame register) → IsLeft os 0 id k frame register
    new id k frame register l g = all.all id k frame register l (get_within C id.0 (Open k frame register) g) g

-- openings in another order

has_it : {A : Type 0} (xs : List A) (i : ℕ) (x : A) → slice_get xs i ≡ Some x → Contains xs x
has_it xs i x e = (i, slice_get_within xs i x e, get_or_from_slice_get xs i x x e)

it_there : {A : Type 0} (xs : List A) (x : A) → Contains xs x → (i : ℕ) × (slice_get xs i ≡ Some x)
it_there xs x c = (c.0, slice_get-get_or xs c.0 x c.1 ∙ ap Some c.2)

pub all_sorted : (C : List Cell) (from to : ℕ) (xs ys : List Opening) → IsPermutation xs ys → AreAll C from to xs → AreAll C from to ys
all_sorted C from to xs ys p a = record {
  open_ones = record {
    each = λ i o e. let h = it_there xs o (Contains-permutation ys xs o (IsPermutation-sym xs ys p) (has_it ys i o e)) in a.open_ones.each h.0 o h.1;
  };
  all = λ id k frame register l m g.
      let left = a.all id k frame register l m g in
      let h = it_there ys (record { coro = k; frame = frame; register = register; cell = id }) (Contains-permutation xs ys _ p (has_it xs left.0 _ left.2)) in
      (h.0, omega arith, h.1);
}

-- and those that are found one after another

pub none_found : (C : List Cell) (from : ℕ) (os : List Opening) → os ≡ [] → AreAll C from from os
none_found C from os e = subst (AreAll C from from) (sym e) (record {
  open_ones = record { each = λ i o h. absurd (cc) };
  all = λ id k frame register l m g. absurd (omega (arith, l, m));
})

pub fewer_found : (C : List Cell) (from at to : ℕ) (os : List Opening) → AreAll C from at os → to ≤ at → AreAll C from to os
fewer_found C from at to os a l = record {
  open_ones = a.open_ones;
  all = λ id k frame register m n g. a.all id k frame register m (omega (arith, n, l)) g;
}

more_found : (C : List Cell) (from at : ℕ) (os : List Opening) → AreAll C from at os
    → ((id : CellId) (k : CoroId) (frame register : ℕ) → id.0 ≡ at → slice_get C id.0 ≡ Some (Open k frame register) → IsLeft os 0 id k frame register) → AreAll C from (at + 1) os
more_found C from at os a here = record {
  open_ones = a.open_ones;
  all = λ id k frame register l m g. ⊎_elim (λ n. a.all id k frame register l n g) (λ n. here id k frame register (omega (arith, m, n)) g) (lt_or id.0 at);
}

pub closed_found : (C : List Cell) (from at : ℕ) (os : List Opening) → AreAll C from at os
    → ((k : CoroId) (frame register : ℕ) → slice_get C at ≡ Some (Open k frame register) → ⊥) → AreAll C from (at + 1) os
closed_found C from at os a nope = more_found C from at os a (λ id k frame register e g. absurd (nope k frame register (ap (slice_get C) (sym e) ∙ g)))

abbrev cell_of : ℕ → CellId
cell_of n = record { 0 = n }

abbrev opening_of : CoroId → ℕ → ℕ → CellId → Opening
opening_of co frame register cell = record { coro = co; frame = frame; register = register; cell = cell }

opening_same : (o : Opening) (k : CoroId) (frame register : ℕ) (id : CellId) → o.coro ≡ k → o.frame ≡ frame → o.register ≡ register → o.cell ≡ id → o ≡ opening_of k frame register id
opening_same o k frame register id a b c d =
    ap (λ (x : CoroId). opening_of x o.frame o.register o.cell) a ∙ (ap (λ (x : ℕ). opening_of k x o.register o.cell) b ∙ (ap (λ (x : ℕ). opening_of k frame x o.cell) c ∙ ap (opening_of k frame register) d))

pub open_found : (C : List Cell) (from at : ℕ) (os new : List Opening) (o : Opening) → AreAll C from at os → o.cell.0 ≡ at → slice_get C at ≡ Some (Open o.coro o.frame o.register) → new ≡ os ++ o ∷ []
    → AreAll C from (at + 1) new
open_found C from at os new o a e is added = subst (AreAll C from (at + 1)) (sym added) (more_found C from at (os ++ o ∷ []) grown here)
  where
    is_there : (i : ℕ) (p : Opening) → slice_get (os ++ o ∷ []) i ≡ Some p → slice_get C p.cell.0 ≡ Some (Open p.coro p.frame p.register)
    is_there i p g = ⊎_elim (λ h. a.open_ones.each i p h) (λ h. subst (λ (p : Opening). slice_get C p.cell.0 ≡ Some (Open p.coro p.frame p.register)) h.1 (ap (slice_get C) e ∙ is)) (get_either os o i p g)

    grown : AreAll C from at (os ++ o ∷ [])
    grown = record {
      open_ones = record { each = is_there };
      all = λ id k frame register l m g. let left = a.all id k frame register l m g in (left.0, left.1, get_old os (o ∷ []) left.0 _ left.2);
    }

    same_open : (k j : CoroId) (f g r q : ℕ) → Some (Open k f r) ≡ Some (Open j g q) → (k ≡ j) × (f ≡ g) × (r ≡ q)
    same_open k j f g r q e = (cc, cc, cc)

    here : (id : CellId) (k : CoroId) (frame register : ℕ) → id.0 ≡ at → slice_get C id.0 ≡ Some (Open k frame register) → IsLeft (os ++ o ∷ []) 0 id k frame register
    here id k frame register at_id g =
        let s = same_open o.coro k o.frame frame o.register register (sym is ∙ (ap (slice_get C) (sym at_id) ∙ g)) in
        let c : o.cell ≡ id = ap cell_of (e ∙ sym at_id) in
        (length os, omega arith, get_new os o ∙ ap Some (opening_same o k frame register id s.0 s.1 s.2 c))

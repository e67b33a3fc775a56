-- The cells of a whole stack are closed, and its coroutine is put aside: what stacks list stays right, and it is so in the words of the machine.
use Rattle.std.proofs.Common.{◌≡◌, ◌⊎◌, ⊎_elim, ℕ, zero, suc, ◌+◌, ◌<◌, List, [], ◌∷◌, length, map, take, Option, Some, None, Bool, true, refl, ap, sym, subst, ◌∙◌, arith}
use Rattle.std.specs.Prelude.{◌≢◌, ◌&&◌, not, cond, nat_eq, nat_lt, slice_get, slice_set, get_or}
use Rattle.std.proofs.lemmas.List.{map-set}
use Rattle.int_core.specs.Value.{Value, bind, nth}
use Rattle.list_laws.proofs.Items.{get_set_other, get_set_same, some_same}
use Rattle.list_laws.proofs.Tests.{eq_refl, eq_not, eq_true, lt_not}
use Rattle.list_laws.proofs.Values.{nth_get}
use Rattle.machine_core.specs.World.{Cell, closed, open_at, Frame, lua, pcall, xpcall, handler, closing, frames_of, close_from}
use Rattle.machine_core.specs.Moves.{all_closed_from, bury, put_coroutine}
use Rattle.machine_sound.proofs.Lists.{get_map, get_within, map_get}
use Rattle.table_core.specs.declared.value.CellId.{CellId}
use Rattle.table_core.specs.declared.value.CoroId.{CoroId}
use Rattle.table_core.specs.declared.value.Value.{Value as Kept}
use Rattle.lua_stack.specs.declared.frame.OpenCell.{OpenCell}
use Rattle.lua_stack.specs.Frames.{KeptStack, HasOpen, RegisterIs, cell_at, frames, register_in}
use Rattle.lua_heap.specs.declared.world.Cell.{Cell as KeptCell}
use Rattle.lua_heap.specs.declared.world.Cell.TheVariants.{Closed, Open}
use Rattle.lua_heap.specs.declared.world.Coro.{Coro}
use Rattle.lua_heap.specs.declared.world.World.{World as Memory}
use Rattle.lua_heap.specs.Reading.{value}
use Rattle.lua_heap.specs.Plain.{cell, coroutine, plain}
use Rattle.lua_heap.specs.Cells.{AreListed, CellsAreListed, IsOnce, open_cells_in}
use Rattle.lua_heap.proofs.Closed.{kept_open, eq_or}
use Rattle.move_laws.proofs.Running.{set_same}
use Rattle.machine_coroutines.specs.Burying.{AreWithin, ClosesEach}
use Rattle.code_core.proofs.CheckedLemmas.{both as both_true}
use Rattle.lua_heap.proofs.Captured.{by_test}

pub read_there : {A : Type 0} (xs : List A) (i : ℕ) (d : A) → i < length xs → slice_get xs i ≡ Some (get_or xs i d)
read_there [] i d l = absurd (omega (arith, l))
read_there (x ∷ xs) zero d l = refl
read_there (x ∷ xs) (suc i) d l = read_there xs i d (omega (arith, l))

-- places of a stack's list

abbrev is_at : (frame register : ℕ) → OpenCell → Bool
is_at frame register c = nat_eq c.frame frame && nat_eq c.register register

at_is : (frame register : ℕ) (c : OpenCell) → is_at frame register c ≡ true → (c.frame ≡ frame) × (c.register ≡ register)
at_is frame register c h =
    let b = both_true (nat_eq c.frame frame) (nat_eq c.register register) h in
    (eq_true c.frame frame b.0, eq_true c.register register b.1)

self_at : (c : OpenCell) → is_at c.frame c.register c ≡ true
self_at c = ap (λ b. b && nat_eq c.register c.register) (eq_refl c.frame) ∙ eq_refl c.register

pub record IsListedAt (cs : List OpenCell) (frame register : ℕ) (id : CellId) : Type 0 where
  pub place : ℕ
  pub one : OpenCell
  pub there : slice_get cs place ≡ Some one
  pub cell_is : one.cell ≡ id

-- where a cell is found, the list has it
found_listed : (cs : List OpenCell) (f r : ℕ) (id : CellId) → cell_at f r cs ≡ Some id → IsListedAt cs f r id
found_listed [] f r id e = absurd (cc)
found_listed (c ∷ cs) f r id e =
    by_test (is_at f r c)
    (λ t. record { place = 0; one = c; there = refl; cell_is = some_same _ _ (sym (ap (λ b. cond b (Some c.cell) (cell_at f r cs)) t) ∙ e) })
    (λ t. let h = found_listed cs f r id (sym (ap (λ b. cond b (Some c.cell) (cell_at f r cs)) t) ∙ e) in
    record { place = suc h.place; one = h.one; there = h.there; cell_is = h.cell_is })

-- what the list has is found
listed_found : (cs : List OpenCell) (i : ℕ) (c : OpenCell) → IsOnce cs → slice_get cs i ≡ Some c → cell_at c.frame c.register cs ≡ Some c.cell
listed_found [] i c o e = absurd (cc)
listed_found (d ∷ cs) zero c o e =
    let same : d ≡ c = some_same d c e in
    ap (λ (d : OpenCell). cond (is_at c.frame c.register d) (Some d.cell) (cell_at c.frame c.register cs)) same ∙ ap (λ b. cond b (Some c.cell) (cell_at c.frame c.register cs)) (self_at c)
listed_found (d ∷ cs) (suc i) c o e =
    let rest = listed_found cs i c o.1 e in
    by_test (is_at c.frame c.register d)
    (λ t. let s = at_is c.frame c.register d t in
    let none : cell_at c.frame c.register cs ≡ None = ap (λ f. cell_at f c.register cs) (sym s.0) ∙ ap (λ r. cell_at d.frame r cs) (sym s.1) ∙ o.0 in
    absurd (let bad : None ≡ Some c.cell = sym none ∙ rest in cc))
    (λ t. ap (λ b. cond b (Some d.cell) (cell_at c.frame c.register cs)) t ∙ rest)

-- cells after some were closed

set_open : (xs : List KeptCell) (m n : ℕ) (v : Kept) (k : CoroId) (f r : ℕ) → slice_get (slice_set xs m (Closed v)) n ≡ Some (Open k f r) → slice_get xs n ≡ Some (Open k f r)
set_open [] m n v k f r e = absurd (cc)
set_open (x ∷ xs) zero zero v k f r e = absurd (cc)
set_open (x ∷ xs) zero (suc n) v k f r e = e
set_open (x ∷ xs) (suc m) zero v k f r e = e
set_open (x ∷ xs) (suc m) (suc n) v k f r e = set_open xs m n v k f r e

set_not_open : (xs : List KeptCell) (n : ℕ) (v : Kept) (k : CoroId) (f r : ℕ) → slice_get (slice_set xs n (Closed v)) n ≡ Some (Open k f r) → ⊥
set_not_open [] n v k f r e = cc
set_not_open (x ∷ xs) zero v k f r e = cc
set_not_open (x ∷ xs) (suc n) v k f r e = set_not_open xs n v k f r e

-- what is open now was open before
open_before : (s : KeptStack) (cs : List OpenCell) (old new : List KeptCell) → ClosesEach s cs old new → (n : ℕ) (k : CoroId) (f r : ℕ) → slice_get new n ≡ Some (Open k f r) → slice_get old n ≡ Some (Open k f r)
open_before s [] old new e n k f r h = sym (ap (λ l. slice_get l n) e) ∙ h
open_before s (c ∷ cs) old new e n k f r h = set_open old c.cell.0 n e.0 k f r (open_before s cs (slice_set old c.cell.0 (Closed e.0)) new e.2 n k f r h)

-- what was to be closed is not open
gone_after : (s : KeptStack) (cs : List OpenCell) (old new : List KeptCell) → ClosesEach s cs old new → (i : ℕ) (c : OpenCell) → slice_get cs i ≡ Some c → (k : CoroId) (f r : ℕ) → slice_get new c.cell.0 ≡ Some (Open k f r) → ⊥
gone_after s [] old new e i c g k f r h = cc
gone_after s (d ∷ cs) old new e zero c g k f r h =
    let same : d ≡ c = some_same d c g in
    set_not_open old d.cell.0 e.0 k f r (open_before s cs (slice_set old d.cell.0 (Closed e.0)) new e.2 d.cell.0 k f r (ap (λ (c : OpenCell). slice_get new c.cell.0) same ∙ h))
gone_after s (d ∷ cs) old new e (suc i) c g k f r h = gone_after s cs (slice_set old d.cell.0 (Closed e.0)) new e.2 i c g k f r h

-- all else stays
untouched : (s : KeptStack) (cs : List OpenCell) (old new : List KeptCell) → ClosesEach s cs old new → (n : ℕ) → ((i : ℕ) (c : OpenCell) → slice_get cs i ≡ Some c → c.cell.0 ≢ n) → slice_get new n ≡ slice_get old n
untouched s [] old new e n d = ap (λ l. slice_get l n) e
untouched s (c ∷ cs) old new e n d =
    untouched s cs (slice_set old c.cell.0 (Closed e.0)) new e.2 n (λ i x g. d (suc i) x g) ∙ get_set_other old c.cell.0 n (Closed e.0) (d 0 c refl)

-- one cell more
pub one_more : (s : KeptStack) (cs : List OpenCell) (i : ℕ) (c : OpenCell) (v : Kept) (old new : List KeptCell) → slice_get cs i ≡ Some c → ClosesEach s (take i cs) old new → RegisterIs s c.frame c.register v
    → ClosesEach s (take (suc i) cs) old (slice_set new c.cell.0 (Closed v))
one_more s [] i c v old new g e r = absurd (cc)
one_more s (d ∷ cs) zero c v old new g e r =
    let same : c ≡ d = sym (some_same d c g) in
    (v, subst (λ (c : OpenCell). RegisterIs s c.frame c.register v) same r, ap (λ l. slice_set l c.cell.0 (Closed v)) e ∙ ap (λ (c : OpenCell). slice_set old c.cell.0 (Closed v)) same)
one_more s (d ∷ cs) (suc i) c v old new g e r = (e.0, e.1, one_more s cs i c v (slice_set old d.cell.0 (Closed e.0)) new g e.2 r)

pub is_open : (s : KeptStack) (i : ℕ) (c : OpenCell) → IsOnce s.open_cells → slice_get s.open_cells i ≡ Some c → HasOpen s c.frame c.register
is_open s i c o e = record { cell = c.cell; is = listed_found s.open_cells i c o e }

-- an open cell's fields
open_same : (k l : CoroId) (f g r q : ℕ) → Open k f r ≡ Open l g q → (k ≡ l) × (f ≡ g) × (r ≡ q)
open_same k l f g r q e =
    (ap (λ c. elim c as (λ _. CoroId) [ Open k _ _ ↦ k | Closed _ ↦ k ]) e, ap (λ c. elim c as (λ _. ℕ) [ Open _ f _ ↦ f | Closed _ ↦ f ]) e, ap (λ c. elim c as (λ _. ℕ) [ Open _ _ r ↦ r | Closed _ ↦ r ]) e)

abbrev AreOpenAt : CoroId → List OpenCell → List KeptCell → Type 0
AreOpenAt co cs cells = (i : ℕ) (c : OpenCell) → slice_get cs i ≡ Some c → slice_get cells c.cell.0 ≡ Some (Open co c.frame c.register)

module _ (cells : List KeptCell) (lists : List (Option (List OpenCell))) (co : CoroId) (own : List OpenCell) (a : AreListed cells lists) (there : slice_get lists co.0 ≡ Some (Some own)) where
  pub each_open : AreOpenAt co own cells
  each_open i c e = a.opened c.cell co c.frame c.register own there (listed_found own i c (a.once co.0 own there) e)

  pub each_within : AreWithin own (length cells)
  each_within i c e = get_within cells c.cell.0 (Open co c.frame c.register) (each_open i c e)

  module _ (s : KeptStack) (new : List KeptCell) (e : ClosesEach s own cells new) where
    -- no cell is open in this coroutine any more
    pub none_open : (n f r : ℕ) → slice_get new n ≡ Some (Open co f r) → ⊥
    none_open n f r h =
        let id : CellId = record { 0 = n } in
        let found = a.listed id co f r own there (open_before s own cells new e n co f r h) in
        let l = found_listed own f r id found in
        gone_after s own cells new e l.place l.one l.there co f r (ap (λ (i : CellId). slice_get new i.0) l.cell_is ∙ h)

    abbrev lists_now : List (Option (List OpenCell))
    lists_now = slice_set lists co.0 None

    now_there : slice_get lists_now co.0 ≡ Some None
    now_there = get_set_same lists co.0 (Some own) None there

    in_other : (k : CoroId) (l : List OpenCell) → slice_get lists_now k.0 ≡ Some (Some l) → (co.0 ≢ k.0) × (slice_get lists k.0 ≡ Some (Some l))
    in_other k l h =
        ⊎_elim (λ same. absurd (let bad : Some None ≡ Some (Some l) = sym now_there ∙ ap (slice_get lists_now) same ∙ h in cc))
        (λ d. (d, sym (get_set_other lists co.0 k.0 None d) ∙ h)) (eq_or co.0 k.0)

    pub buried_listed : AreListed new lists_now
    buried_listed = record {
      listed = λ id k f r l h is. a.listed id k f r l (in_other k l h).1 (open_before s own cells new e id.0 k f r is);
      opened = λ id k f r l h is.
          let o = in_other k l h in
          let before = a.opened id k f r l o.1 is in
          untouched s own cells new e id.0 (λ i c g same.
          let both : Open co c.frame c.register ≡ Open k f r = some_same _ _ (sym (each_open i c g) ∙ ap (slice_get cells) same ∙ before) in
          o.0 (ap (λ (k : CoroId). k.0) (open_same co k c.frame f c.register r both).0)) ∙ before;
      held = λ id k f r is.
          let h = a.held id k f r (open_before s own cells new e id.0 k f r is) in
          ⊎_elim (λ same. absurd (none_open id.0 f r (is ∙ ap (λ n. Some (Open (record { 0 = n }) f r)) (sym same))))
          (λ d. (h.0, get_set_other lists co.0 k.0 None d ∙ h.1)) (eq_or co.0 k.0);
      once = λ n l h. a.once n l (in_other (record { 0 = n }) l h).1;
    }

-- in the words of the machine

close_step : (co f q : ℕ) (regs : List Value) (v : Value) (cs : List Cell) (n : ℕ) → slice_get cs n ≡ Some (open_at co f q) → nth regs q ≡ v → close_from co f 0 regs (slice_set cs n (closed v)) ≡ close_from co f 0 regs cs
close_step co f q regs v [] n e s = absurd (cc)
close_step co f q regs v (c ∷ cs) zero e s =
    let test : (nat_eq co co && (nat_eq f f && not (nat_lt q 0))) ≡ true =
    ap (λ b. b && (nat_eq f f && not (nat_lt q 0))) (eq_refl co) ∙ ap (λ b. b && not (nat_lt q 0)) (eq_refl f) ∙ ap not (lt_not q 0 (λ b. omega (arith, b))) in
    let here : close_from co f 0 regs (open_at co f q ∷ cs) ≡ closed (nth regs q) ∷ close_from co f 0 regs cs = ap (λ b. cond b (closed (nth regs q)) (open_at co f q) ∷ close_from co f 0 regs cs) test in
    ap (λ v. closed v ∷ close_from co f 0 regs cs) (sym s) ∙ sym here ∙ ap (λ d. close_from co f 0 regs (d ∷ cs)) (sym (some_same c (open_at co f q) e))
close_step co f q regs v (closed w ∷ cs) (suc n) e s = ap (λ ds. closed w ∷ ds) (close_step co f q regs v cs n e s)
close_step co f q regs v (open_at k g p ∷ cs) (suc n) e s =
    ap (λ ds. cond (nat_eq co k && (nat_eq f g && not (nat_lt p 0))) (closed (nth regs p)) (open_at k g p) ∷ ds) (close_step co f q regs v cs n e s)

close_set : (co f : ℕ) (regs : List Value) (cs : List Cell) (n : ℕ) (v : Value) → close_from co f 0 regs (slice_set cs n (closed v)) ≡ slice_set (close_from co f 0 regs cs) n (closed v)
close_set co f regs [] n v = refl
close_set co f regs (closed w ∷ cs) zero v = refl
close_set co f regs (open_at k g p ∷ cs) zero v = refl
close_set co f regs (closed w ∷ cs) (suc n) v = ap (λ ds. closed w ∷ ds) (close_set co f regs cs n v)
close_set co f regs (open_at k g p ∷ cs) (suc n) v =
    ap (λ ds. cond (nat_eq co k && (nat_eq f g && not (nat_lt p 0))) (closed (nth regs p)) (open_at k g p) ∷ ds) (close_set co f regs cs n v)

close_other : (co f g q : ℕ) (regs : List Value) (cs : List Cell) (n : ℕ) → slice_get cs n ≡ Some (open_at co g q) → f ≢ g → slice_get (close_from co f 0 regs cs) n ≡ Some (open_at co g q)
close_other co f g q regs [] n e d = absurd (cc)
close_other co f g q regs (c ∷ cs) zero e d =
    ap (λ c. slice_get (close_from co f 0 regs (c ∷ cs)) 0) (some_same c (open_at co g q) e)
    ∙ ap (λ b. Some (cond (b && (nat_eq f g && not (nat_lt q 0))) (closed (nth regs q)) (open_at co g q))) (eq_refl co)
    ∙ ap (λ b. Some (cond (b && not (nat_lt q 0)) (closed (nth regs q)) (open_at co g q))) (eq_not f g d)
close_other co f g q regs (closed w ∷ cs) (suc n) e d = close_other co f g q regs cs n e d
close_other co f g q regs (open_at k h p ∷ cs) (suc n) e d = close_other co f g q regs cs n e d

abbrev NoneOpen : ℕ → List Cell → Type 0
NoneOpen co cs = (n f r : ℕ) → slice_get cs n ≡ Some (open_at co f r) → ⊥

close_nothing : (co f : ℕ) (regs : List Value) (cs : List Cell) → NoneOpen co cs → close_from co f 0 regs cs ≡ cs
close_nothing co f regs [] h = refl
close_nothing co f regs (closed w ∷ cs) h = ap (λ ds. closed w ∷ ds) (close_nothing co f regs cs (λ n g r e. h (suc n) g r e))
close_nothing co f regs (open_at k g p ∷ cs) h =
    let rest = close_nothing co f regs cs (λ n g r e. h (suc n) g r e) in
    by_test (nat_eq co k && (nat_eq f g && not (nat_lt p 0)))
    (λ t. absurd (h 0 g p (ap (λ k. Some (open_at k g p)) (sym (eq_true co k (both_true (nat_eq co k) (nat_eq f g && not (nat_lt p 0)) t).0)))))
    (λ t. ap (λ b. cond b (closed (nth regs p)) (open_at k g p) ∷ close_from co f 0 regs cs) t ∙ ap (λ ds. open_at k g p ∷ ds) rest)

all_nothing : (co n : ℕ) (fs : List Frame) (cs : List Cell) → NoneOpen co cs → all_closed_from co n fs cs ≡ cs
all_nothing co n [] cs h = refl
all_nothing co n (lua t ∷ fs) cs h = ap (all_closed_from co (suc n) fs) (close_nothing co n t.own.registers cs h) ∙ all_nothing co (suc n) fs cs h
all_nothing co n (pcall ∷ fs) cs h = all_nothing co (suc n) fs cs h
all_nothing co n (xpcall v ∷ fs) cs h = all_nothing co (suc n) fs cs h
all_nothing co n (handler ∷ fs) cs h = all_nothing co (suc n) fs cs h
all_nothing co n (closing e left ∷ fs) cs h = all_nothing co (suc n) fs cs h

-- a cell that is closed as it is to be changes nothing of what comes of all
all_set : (co b : ℕ) (fs : List Frame) (cs : List Cell) (n f r j : ℕ) (v : Value) → slice_get cs n ≡ Some (open_at co f r) → f ≡ b + j → register_in j r fs ≡ Some v
    → all_closed_from co b fs (slice_set cs n (closed v)) ≡ all_closed_from co b fs cs
all_set co b [] cs n f r j v e k g = absurd (cc)
all_set co b (lua t ∷ fs) cs n f r zero v e k g =
    let same : f ≡ b = omega (arith, k) in
    ap (all_closed_from co (suc b) fs) (close_step co b r t.own.registers v cs n (e ∙ ap (λ f. Some (open_at co f r)) same) (nth_get t.own.registers r v g))
all_set co b (pcall ∷ fs) cs n f r zero v e k g = absurd (cc)
all_set co b (xpcall h ∷ fs) cs n f r zero v e k g = absurd (cc)
all_set co b (handler ∷ fs) cs n f r zero v e k g = absurd (cc)
all_set co b (closing x left ∷ fs) cs n f r zero v e k g = absurd (cc)
all_set co b (lua t ∷ fs) cs n f r (suc j) v e k g =
    let apart : b ≢ f = λ s. omega (arith, k, s) in
    let next : f ≡ suc b + j = omega (arith, k) in
    ap (all_closed_from co (suc b) fs) (close_set co b t.own.registers cs n v)
    ∙ all_set co (suc b) fs (close_from co b 0 t.own.registers cs) n f r j v (close_other co b f r t.own.registers cs n e apart) next g
all_set co b (pcall ∷ fs) cs n f r (suc j) v e k g = all_set co (suc b) fs cs n f r j v e (omega (arith, k)) g
all_set co b (xpcall h ∷ fs) cs n f r (suc j) v e k g = all_set co (suc b) fs cs n f r j v e (omega (arith, k)) g
all_set co b (handler ∷ fs) cs n f r (suc j) v e k g = all_set co (suc b) fs cs n f r j v e (omega (arith, k)) g
all_set co b (closing x left ∷ fs) cs n f r (suc j) v e k g = all_set co (suc b) fs cs n f r j v e (omega (arith, k)) g

all_each : (texts : List (List ℕ)) (co : CoroId) (s : KeptStack) (cs : List OpenCell) (old new : List KeptCell) → IsOnce cs → AreOpenAt co cs old → ClosesEach s cs old new
    → all_closed_from co.0 0 (frames (value texts) s) (map (cell texts) new) ≡ all_closed_from co.0 0 (frames (value texts) s) (map (cell texts) old)
all_each texts co s [] old new o p e = ap (λ cs. all_closed_from co.0 0 (frames (value texts) s) (map (cell texts) cs)) e
all_each texts co s (c ∷ cs) old new o p e =
    let mid = slice_set old c.cell.0 (Closed e.0) in
    let fs = frames (value texts) s in
    let after : AreOpenAt co cs mid = λ i d g.
    let apart : c.cell.0 ≢ d.cell.0 = λ same.
    let q = open_same co co c.frame d.frame c.register d.register (some_same _ _ (sym (p 0 c refl) ∙ ap (slice_get old) same ∙ p (suc i) d g)) in
    let none : cell_at d.frame d.register cs ≡ None = ap (λ f. cell_at f d.register cs) (sym q.1) ∙ ap (λ r. cell_at c.frame r cs) (sym q.2) ∙ o.0 in
    let bad : None ≡ Some d.cell = sym none ∙ listed_found cs i d o.1 g in
    cc in
    get_set_other old c.cell.0 d.cell.0 (Closed e.0) apart ∙ p (suc i) d g in
    all_each texts co s cs mid new o.1 after e.2
    ∙ ap (all_closed_from co.0 0 fs) (map-set (cell texts) old c.cell.0 (Closed e.0))
    ∙ all_set co.0 0 fs (map (cell texts) old) c.cell.0 c.frame c.register c.frame (value texts e.0) (get_map (cell texts) old c.cell.0 (Open co c.frame c.register) (p 0 c refl)) (omega arith) (e.1.reads (value texts))

all_closed : (texts : List (List ℕ)) (cells : List KeptCell) (lists : List (Option (List OpenCell))) (co : CoroId) (s : KeptStack) (a : AreListed cells lists) → slice_get lists co.0 ≡ Some (Some s.open_cells)
    → (new : List KeptCell) → ClosesEach s s.open_cells cells new → map (cell texts) new ≡ all_closed_from co.0 0 (frames (value texts) s) (map (cell texts) cells)
all_closed texts cells lists co s a there new e =
    let none : NoneOpen co.0 (map (cell texts) new) = λ n f r h.
    let k = map_get (cell texts) new n (open_at co.0 f r) h in
    none_open cells lists co s.open_cells a there s new e n f r (k.1 ∙ ap (λ c. Some c) (kept_open texts k.0 co f r k.2)) in
    sym (all_nothing co.0 0 (frames (value texts) s) (map (cell texts) new) none)
    ∙ all_each texts co s s.open_cells cells new (a.once co.0 s.open_cells there) (each_open cells lists co s.open_cells a there) e

-- the world

-- a coroutine has this stack
abbrev pub HasStack : List (List ℕ) → Coro → KeptStack → Type 0
HasStack texts c s = (frames_of (coroutine texts c) ≡ Some (frames (value texts) s)) × (open_cells_in c ≡ Some s.open_cells)

-- a coroutine is taken out of its place, and another, which has no stack, is put there
pub record IsTaken (W : Memory) (co : CoroId) (was put : Coro) : Type 0 where
  pub listed : CellsAreListed W
  pub there : slice_get W.coros.objects co.0 ≡ Some was
  pub bare : open_cells_in put ≡ None

pub taken : (W : Memory) (co : CoroId) {found replaced was put given : Coro} → CellsAreListed W → slice_get W.coros.objects co.0 ≡ Some found → replaced ≡ found → replaced ≡ was
    → put ≡ given → open_cells_in given ≡ None → IsTaken W co was put
taken W co listed there same is after bare = record { listed = listed; there = there ∙ ap (λ (k : Coro). Some k) (sym same ∙ is); bare = ap open_cells_in after ∙ bare }

module _ {W : Memory} {co : CoroId} {c d : Coro} (k : IsTaken W co c d) where
  lists_are : map open_cells_in (slice_set W.coros.objects co.0 d) ≡ slice_set (map open_cells_in W.coros.objects) co.0 None
  lists_are = map-set open_cells_in W.coros.objects co.0 d ∙ ap (slice_set (map open_cells_in W.coros.objects) co.0) k.bare

  own_list : {o : Option (List OpenCell)} → open_cells_in c ≡ o → slice_get (map open_cells_in W.coros.objects) co.0 ≡ Some o
  own_list e = get_map open_cells_in W.coros.objects co.0 c k.there ∙ ap (λ o. Some o) e

  -- where there was no stack
  pub bare_listed : open_cells_in c ≡ None → AreListed W.cells.objects (map open_cells_in (slice_set W.coros.objects co.0 d))
  bare_listed e = subst (AreListed W.cells.objects) (sym (lists_are ∙ set_same (map open_cells_in W.coros.objects) co.0 None (own_list e))) k.listed

  pub bare_frames : {fs : List Frame} (fuel : ℕ) → frames_of (coroutine W.strings c) ≡ None → bind (slice_get (plain W fuel).coroutines co.0) frames_of ≡ Some fs → ⊥
  bare_frames {fs} fuel n e =
      let bad : None ≡ Some fs = sym n ∙ ap (λ o. bind o frames_of) (sym (get_map (coroutine W.strings) W.coros.objects co.0 c k.there)) ∙ e in
      cc

  pub bare_put : (spare fuel : ℕ) → plain (record W { coros = record { objects = slice_set W.coros.objects co.0 d; spare = spare } }) fuel ≡ put_coroutine (plain W fuel) co.0 (coroutine W.strings d)
  unfolding put_coroutine
  bare_put spare fuel = ap (λ ks. record (plain W fuel) { coroutines = ks }) (map-set (coroutine W.strings) W.coros.objects co.0 d)

  -- and where there was one
  module _ (s : KeptStack) (h : HasStack W.strings c s) where
    pub stack_within : AreWithin s.open_cells (length W.cells.objects)
    stack_within = each_within W.cells.objects (map open_cells_in W.coros.objects) co s.open_cells k.listed (own_list h.1)

    pub stack_put : (fuel : ℕ) → bind (slice_get (plain W fuel).coroutines co.0) frames_of ≡ None → ⊥
    stack_put fuel e =
        let bad : Some (frames (value W.strings) s) ≡ None = sym h.0 ∙ ap (λ o. bind o frames_of) (sym (get_map (coroutine W.strings) W.coros.objects co.0 c k.there)) ∙ e in
        cc

    pub stack_once : IsOnce s.open_cells
    stack_once = k.listed.once co.0 s.open_cells (own_list h.1)

    module _ (cells : List KeptCell) (e : ClosesEach s s.open_cells W.cells.objects cells) where
      pub stack_listed : AreListed cells (map open_cells_in (slice_set W.coros.objects co.0 d))
      stack_listed = subst (AreListed cells) (sym lists_are) (buried_listed W.cells.objects (map open_cells_in W.coros.objects) co s.open_cells k.listed (own_list h.1) s cells e)

      pub stack_buried : (spare more fuel : ℕ) (fs : List Frame) → bind (slice_get (plain W fuel).coroutines co.0) frames_of ≡ Some fs
          → plain (record W { cells = record { objects = cells; spare = spare }; coros = record { objects = slice_set W.coros.objects co.0 d; spare = more } }) fuel ≡ bury (plain W fuel) co.0 fs (coroutine W.strings d)
      unfolding bury put_coroutine
      stack_buried spare more fuel fs g =
          let V = plain W fuel in
          let same : frames (value W.strings) s ≡ fs = some_same _ _ (sym h.0 ∙ ap (λ o. bind o frames_of) (sym (get_map (coroutine W.strings) W.coros.objects co.0 c k.there)) ∙ g) in
          ap (λ cs. record V { cells = cs; coroutines = map (coroutine W.strings) (slice_set W.coros.objects co.0 d) })
          (all_closed W.strings W.cells.objects (map open_cells_in W.coros.objects) co s k.listed (own_list h.1) cells e ∙ ap (λ fs. all_closed_from co.0 0 fs V.cells) same)
          ∙ ap (λ ks. record V { cells = all_closed_from co.0 0 fs V.cells; coroutines = ks }) (map-set (coroutine W.strings) W.coros.objects co.0 d)

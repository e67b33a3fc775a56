-- A cell of the function on top is closed: what stacks list stays right, and what is still to be closed is as before.
use Rattle.std.proofs.Common.{◌≡◌, ◌⊎◌, ⊎_elim, inl, inr, ℕ, zero, suc, ◌+◌, ◌<◌, ◌≤◌, List, [], ◌∷◌, ◌++◌, length, map, Option, Some, None, Bool, true, false, refl, ap, sym, subst, ◌∙◌, arith}
use Rattle.std.specs.Prelude.{◌≢◌, ◌&&◌, not, cond, nat_eq, nat_lt, slice_get, slice_set}
use Rattle.std.proofs.lemmas.List.{length-append, length-map, map-set}
use Rattle.int_core.specs.Value.{Value, nth}
use Rattle.list_laws.proofs.Items.{get_set_other, get_set_same, some_same}
use Rattle.list_laws.proofs.Tests.{eq_refl, eq_true, lt_not, lt_true}
use Rattle.list_laws.proofs.Values.{nth_get}
use Rattle.machine_core.specs.World.{Cell, closed, open_at, in_progress, Frame, LuaFrame, lua, World, close_from}
use Rattle.machine_sound.proofs.Lists.{get_map, map_get, map_set}
use Rattle.lua_stack.specs.Frames.{KeptStack, AllBelow, NoneFrom, cell_at, frame_of, frames, top_number}
use Rattle.lua_stack.specs.declared.frame.OpenCell.{OpenCell}
use Rattle.table_core.specs.declared.value.CellId.{CellId}
use Rattle.table_core.specs.declared.value.CoroId.{CoroId}
use Rattle.table_core.specs.declared.value.Value.{Value as Kept}
use Rattle.lua_heap.specs.declared.world.Cell.{Cell as KeptCell}
use Rattle.lua_heap.specs.declared.world.Cell.TheVariants.{Closed, Open}
use Rattle.lua_heap.specs.declared.world.Coro.{Coro}
use Rattle.lua_heap.specs.declared.world.Coro.TheVariants.{Running}
use Rattle.lua_heap.specs.declared.world.World.{World as Memory}
use Rattle.lua_heap.specs.Reading.{value}
use Rattle.lua_heap.specs.Plain.{cell, coroutine, plain}
use Rattle.lua_heap.specs.Cells.{AreListed, CellsAreListed, IsOnce, open_cells_in}
use Rattle.lua_heap.specs.Closing.{TakesOnTop, ClosesAll, ClosesSome, NoneIsOpen, count_in, open_count}
use Rattle.lua_heap.proofs.Captured.{is_at, at_is, by_test, list_stays, open_same, running_same, self_at}
use Rattle.lua_heap.proofs.Resumed.{set_cases, set_own}

pub eq_or : (m n : ℕ) → (m ≡ n) ⊎ (m ≢ n)
eq_or zero zero = inl refl
eq_or zero (suc n) = inr (λ e. omega (arith, e))
eq_or (suc m) zero = inr (λ e. omega (arith, e))
eq_or (suc m) (suc n) = ⊎_elim (λ e. inl (ap suc e)) (λ d. inr (λ e. d (omega (arith, e)))) (eq_or m n)

-- a list with one cell more at its end

behind_none : (f r : ℕ) (cs ds : List OpenCell) → cell_at f r cs ≡ None → cell_at f r (cs ++ ds) ≡ cell_at f r ds
behind_none f r [] ds e = refl
behind_none f r (c ∷ cs) ds e =
    by_test (is_at f r c) (λ t. absurd (let k : Some c.cell ≡ None = sym (ap (λ s. cond s (Some c.cell) (cell_at f r cs)) t) ∙ e in cc))
    (λ t. ap (λ s. cond s (Some c.cell) (cell_at f r (cs ++ ds))) t ∙ behind_none f r cs ds (sym (ap (λ s. cond s (Some c.cell) (cell_at f r cs)) t) ∙ e))

front_none : (f r : ℕ) (cs ds : List OpenCell) → cell_at f r (cs ++ ds) ≡ None → cell_at f r cs ≡ None
front_none f r [] ds e = refl
front_none f r (c ∷ cs) ds e =
    by_test (is_at f r c) (λ t. absurd (let k : Some c.cell ≡ None = sym (ap (λ s. cond s (Some c.cell) (cell_at f r (cs ++ ds))) t) ∙ e in cc))
    (λ t. ap (λ s. cond s (Some c.cell) (cell_at f r cs)) t ∙ front_none f r cs ds (sym (ap (λ s. cond s (Some c.cell) (cell_at f r (cs ++ ds))) t) ∙ e))

front_some : (f r : ℕ) (cs ds : List OpenCell) (id : CellId) → cell_at f r cs ≡ Some id → cell_at f r (cs ++ ds) ≡ Some id
front_some f r [] ds id e = absurd (cc)
front_some f r (c ∷ cs) ds id e =
    by_test (is_at f r c)
    (λ t. ap (λ s. cond s (Some c.cell) (cell_at f r (cs ++ ds))) t ∙ sym (ap (λ s. cond s (Some c.cell) (cell_at f r cs)) t) ∙ e)
    (λ t. ap (λ s. cond s (Some c.cell) (cell_at f r (cs ++ ds))) t ∙ front_some f r cs ds id (sym (ap (λ s. cond s (Some c.cell) (cell_at f r cs)) t) ∙ e))

one_at : (c : OpenCell) → cell_at c.frame c.register (c ∷ []) ≡ Some c.cell
one_at c = ap (λ s. cond s (Some c.cell) None) (self_at c)

front_or_last : (f r : ℕ) (cs : List OpenCell) (c : OpenCell) (id : CellId) → cell_at f r (cs ++ c ∷ []) ≡ Some id → (cell_at f r cs ≡ Some id) ⊎ (c.cell ≡ id)
front_or_last f r [] c id e =
    by_test (is_at f r c) (λ t. inr (some_same _ _ (sym (ap (λ s. cond s (Some c.cell) None) t) ∙ e)))
    (λ t. absurd (let k : None ≡ Some id = sym (ap (λ s. cond s (Some c.cell) None) t) ∙ e in cc))
front_or_last f r (d ∷ ds) c id e =
    by_test (is_at f r d)
    (λ t. inl (ap (λ s. cond s (Some d.cell) (cell_at f r ds)) t ∙ sym (ap (λ s. cond s (Some d.cell) (cell_at f r (ds ++ c ∷ []))) t) ∙ e))
    (λ t.
    ⊎_elim (λ k. inl (ap (λ s. cond s (Some d.cell) (cell_at f r ds)) t ∙ k)) (λ k. inr k)
    (front_or_last f r ds c id (sym (ap (λ s. cond s (Some d.cell) (cell_at f r (ds ++ c ∷ []))) t) ∙ e)))

once_last : (cs : List OpenCell) (c : OpenCell) → IsOnce (cs ++ c ∷ []) → (cell_at c.frame c.register cs ≡ None) × IsOnce cs
once_last [] c h = (refl, tt)
once_last (d ∷ ds) c h =
    let k = once_last ds c h.1 in
    let apart : is_at c.frame c.register d ≡ true → ⊥ = λ t.
    let s = at_is c.frame c.register d t in
    let none : cell_at c.frame c.register (ds ++ c ∷ []) ≡ None = ap (λ f. cell_at f c.register (ds ++ c ∷ [])) (sym s.0) ∙ ap (λ r. cell_at d.frame r (ds ++ c ∷ [])) (sym s.1) ∙ h.0 in
    let there : cell_at c.frame c.register (ds ++ c ∷ []) ≡ Some c.cell = behind_none c.frame c.register ds (c ∷ []) k.0 ∙ one_at c in
    let bad : None ≡ Some c.cell = sym none ∙ there in
    cc in (
      by_test (is_at c.frame c.register d) (λ t. absurd (apart t)) (λ t. ap (λ s. cond s (Some d.cell) (cell_at c.frame c.register ds)) t ∙ k.0),
      (front_none d.frame d.register ds (c ∷ []) h.0, k.1),
    )

-- the cells of a world and the lists of its stacks

module _ (cells : List KeptCell) (lists : List (Option (List OpenCell))) (co : CoroId) (old new : List OpenCell) (c : OpenCell) (v : Kept) (a : AreListed cells lists)
    (there : slice_get lists co.0 ≡ Some (Some old)) (is : old ≡ new ++ c ∷ []) where
  alone : (cell_at c.frame c.register new ≡ None) × IsOnce new
  alone = once_last new c (subst IsOnce is (a.once co.0 old there))

  found : cell_at c.frame c.register old ≡ Some c.cell
  found = ap (cell_at c.frame c.register) is ∙ behind_none c.frame c.register new (c ∷ []) alone.0 ∙ one_at c

  pub was_open : slice_get cells c.cell.0 ≡ Some (Open co c.frame c.register)
  was_open = a.opened c.cell co c.frame c.register old there found

  abbrev cells_now : List KeptCell
  cells_now = slice_set cells c.cell.0 (Closed v)

  abbrev lists_now : List (Option (List OpenCell))
  lists_now = slice_set lists co.0 (Some new)

  other_cell : (n : ℕ) (k : CoroId) (f r : ℕ) → slice_get cells_now n ≡ Some (Open k f r) → c.cell.0 ≢ n
  other_cell n k f r e same =
      let here : slice_get cells_now n ≡ Some (Closed v) = ap (slice_get cells_now) (sym same) ∙ get_set_same cells c.cell.0 (Open co c.frame c.register) (Closed v) was_open in
      let bad : Some (Closed v) ≡ Some (Open k f r) = sym here ∙ e in
      cc

  before_too : (n : ℕ) (k : CoroId) (f r : ℕ) → slice_get cells_now n ≡ Some (Open k f r) → slice_get cells n ≡ Some (Open k f r)
  before_too n k f r e = sym (get_set_other cells c.cell.0 n (Closed v) (other_cell n k f r e)) ∙ e

  now_there : slice_get lists_now co.0 ≡ Some (Some new)
  now_there = get_set_same lists co.0 (Some old) (Some new) there

  pub closes_listed : AreListed cells_now lists_now
  closes_listed = record {
    listed = λ id k f r own e here.
        let before = before_too id.0 k f r here in
        ⊎_elim
        (λ h.
        let all : cell_at f r old ≡ Some id = a.listed id k f r old (ap (slice_get lists) (sym h.0) ∙ there) before in
        ap (cell_at f r) (sym (some_same _ _ h.1))
        ∙ ⊎_elim (λ n. n) (λ n. absurd (other_cell id.0 k f r here (ap (λ (i : CellId). i.0) n))) (front_or_last f r new c id (ap (cell_at f r) (sym is) ∙ all)))
        (λ h. a.listed id k f r own h before) (set_cases lists co.0 k.0 (Some new) (Some own) e);
    opened = λ id k f r own e at.
        let in_same : co ≡ k → slice_get cells_now id.0 ≡ Some (Open k f r) = λ same.
        let list : new ≡ own = some_same _ _ (some_same _ _ (sym now_there ∙ ap (λ (k : CoroId). slice_get lists_now k.0) same ∙ e)) in
        let front : cell_at f r new ≡ Some id = ap (cell_at f r) list ∙ at in
        let before : slice_get cells id.0 ≡ Some (Open k f r) =
        a.opened id k f r old (ap (λ (k : CoroId). slice_get lists k.0) (sym same) ∙ there) (ap (cell_at f r) is ∙ front_some f r new (c ∷ []) id front) in
        let apart : c.cell.0 ≢ id.0 = λ z.
        let o = open_same co k c.frame c.register f r (some_same _ _ (sym was_open ∙ ap (slice_get cells) z ∙ before)) in
        let bad : None ≡ Some id = sym alone.0 ∙ ap (λ f. cell_at f c.register new) o.1 ∙ ap (λ r. cell_at f r new) o.2 ∙ front in
        cc in
        get_set_other cells c.cell.0 id.0 (Closed v) apart ∙ before in
        let in_other : co.0 ≢ k.0 → slice_get cells_now id.0 ≡ Some (Open k f r) = λ d.
        let before : slice_get cells id.0 ≡ Some (Open k f r) = a.opened id k f r own (sym (get_set_other lists co.0 k.0 (Some new) d) ∙ e) at in
        let apart : c.cell.0 ≢ id.0 = λ z.
        let o = open_same co k c.frame c.register f r (some_same _ _ (sym was_open ∙ ap (slice_get cells) z ∙ before)) in
        d (ap (λ (k : CoroId). k.0) o.0) in
        get_set_other cells c.cell.0 id.0 (Closed v) apart ∙ before in
        ⊎_elim (λ same. in_same (ap (λ n. record { 0 = n }) same)) in_other (eq_or co.0 k.0);
    held = λ id k f r here. let h = a.held id k f r (before_too id.0 k f r here) in list_stays lists co.0 new k.0 h.0 h.1;
    once = λ n own e. ⊎_elim (λ h. subst IsOnce (some_same _ _ h.1) alone.1) (λ h. a.once n own h) (set_cases lists co.0 n (Some new) (Some own) e);
  }

-- what is still to be closed

and_both : (a b c : Bool) → a ≡ true → b ≡ true → c ≡ true → (a && (b && c)) ≡ true
and_both a b c e f g = ap (λ x. x && (b && c)) e ∙ ap (λ x. x && c) f ∙ g

pub close_step : (co f r q : ℕ) (regs : List Value) (v : Value) (cells : List Cell) (n : ℕ) → slice_get cells n ≡ Some (open_at co f q) → r ≤ q → nth regs q ≡ v
    → close_from co f r regs (slice_set cells n (closed v)) ≡ close_from co f r regs cells
close_step co f r q regs v [] n e l s = absurd (cc)
close_step co f r q regs v (c ∷ cs) zero e l s =
    let test : (nat_eq co co && (nat_eq f f && not (nat_lt q r))) ≡ true = and_both _ _ _ (eq_refl co) (eq_refl f) (ap not (lt_not q r (λ b. omega (arith, b, l)))) in
    let here : close_from co f r regs (open_at co f q ∷ cs) ≡ closed (nth regs q) ∷ close_from co f r regs cs =
    ap (λ b. cond b (closed (nth regs q)) (open_at co f q) ∷ close_from co f r regs cs) test in
    ap (λ v. closed v ∷ close_from co f r regs cs) (sym s) ∙ sym here ∙ ap (λ d. close_from co f r regs (d ∷ cs)) (sym (some_same c (open_at co f q) e))
close_step co f r q regs v (closed w ∷ cs) (suc n) e l s = ap (λ ds. closed w ∷ ds) (close_step co f r q regs v cs n e l s)
close_step co f r q regs v (open_at k g p ∷ cs) (suc n) e l s =
    ap (λ ds. cond (nat_eq co k && (nat_eq f g && not (nat_lt p r))) (closed (nth regs p)) (open_at k g p) ∷ ds) (close_step co f r q regs v cs n e l s)

pub close_none : (co f r : ℕ) (regs : List Value) (cells : List Cell) → ((n q : ℕ) → slice_get cells n ≡ Some (open_at co f q) → q < r) → close_from co f r regs cells ≡ cells
close_none co f r regs [] h = refl
close_none co f r regs (closed w ∷ cs) h = ap (λ ds. closed w ∷ ds) (close_none co f r regs cs (λ n q e. h (suc n) q e))
close_none co f r regs (open_at k g p ∷ cs) h =
    let rest = close_none co f r regs cs (λ n q e. h (suc n) q e) in
    by_test (nat_eq co k && (nat_eq f g && not (nat_lt p r)))
    (λ t.
    let x = both_of_two (nat_eq co k) (nat_eq f g && not (nat_lt p r)) t in
    let y = both_of_two (nat_eq f g) (not (nat_lt p r)) x.1 in
    let c = eq_true co k x.0 in
    let d = eq_true f g y.0 in
    let l : p < r = h 0 p (ap (λ k. Some (open_at k g p)) (sym c) ∙ ap (λ g. Some (open_at co g p)) (sym d)) in
    absurd (let z : not (nat_lt p r) ≡ false = ap not (lt_true p r l) in let bad : true ≡ false = sym y.1 ∙ z in cc))
    (λ t. ap (λ b. cond b (closed (nth regs p)) (open_at k g p) ∷ close_from co f r regs cs) t ∙ ap (λ ds. open_at k g p ∷ ds) rest)
  where
    both_of_two : (a b : Bool) → (a && b) ≡ true → (a ≡ true) × (b ≡ true)
    both_of_two true b h = (refl, h)
    both_of_two false b h = absurd (cc)

pub below_at : (f r q : ℕ) (cs : List OpenCell) (id : CellId) → AllBelow f r cs → cell_at f q cs ≡ Some id → q < r
below_at f r q [] id b e = absurd (cc)
below_at f r q (c ∷ cs) id b e =
    by_test (is_at f q c)
    (λ t.
    let s = at_is f q c t in
    let x = s.0 in
    let y = s.1 in
    let l = b.0.register_less (omega (arith, x)) in
    omega (arith, l, y))
    (λ t. below_at f r q cs id b.1 (sym (ap (λ s. cond s (Some c.cell) (cell_at f q cs)) t) ∙ e))

-- in the words of the machine

stack_frames : (texts : List (List ℕ)) (coros : List Coro) (co : ℕ) (k : KeptStack) (fs : List Frame) → slice_get coros co ≡ Some (Running k) → slice_get (map (coroutine texts) coros) co ≡ Some (in_progress fs)
    → frames (value texts) k ≡ fs
stack_frames texts coros co k fs e f = in_progress_same _ _ (some_same _ _ (sym (get_map (coroutine texts) coros co (Running k) e) ∙ f))
  where
    in_progress_same : (a b : List Frame) → in_progress a ≡ in_progress b → a ≡ b
    in_progress_same a b e = cc

top_is : (texts : List (List ℕ)) (k : KeptStack) (below : List Frame) (t : LuaFrame) → frames (value texts) k ≡ below ++ lua t ∷ [] → top_number k ≡ length below
top_is texts k below t e =
    let l = sym (length-map k.frames (frame_of (value texts))) ∙ ap length e ∙ length-append below (lua t ∷ []) in
    omega (arith, l)

pub kept_open : (texts : List (List ℕ)) (c : KeptCell) (co : CoroId) (f q : ℕ) → cell texts c ≡ open_at co.0 f q → c ≡ Open co f q
kept_open texts (Closed v) co f q e = absurd (cc)
kept_open texts (Open k g p) co f q e =
    let x : k.0 ≡ co.0 = cc in
    let same : k ≡ co = ap (λ n. record { 0 = n }) x in
    let y : g ≡ f = cc in
    let z : p ≡ q = cc in
    ap (λ (k : CoroId). Open k g p) same ∙ ap (λ g. Open co g p) y ∙ ap (λ p. Open co f p) z

pub none_is_open : (W : Memory) (fuel : ℕ) (co : CoroId) (register : ℕ) (k : KeptStack) → CellsAreListed W → slice_get W.coros.objects co.0 ≡ Some (Running k) → NoneFrom k register
    → NoneIsOpen co.0 register (plain W fuel)
none_is_open W fuel co register k a there none below t running =
    let fs = stack_frames W.strings W.coros.objects co.0 k (below ++ lua t ∷ []) there running in
    let top : top_number k ≡ length below = top_is W.strings k below t fs in
    let own = get_map open_cells_in W.coros.objects co.0 (Running k) there in
    close_none co.0 (length below) register t.own.registers (map (cell W.strings) W.cells.objects)
    (λ n q e.
    let c = map_get (cell W.strings) W.cells.objects n (open_at co.0 (length below) q) e in
    let kept : c.0 ≡ Open co (length below) q = kept_open W.strings c.0 co (length below) q c.2 in
    let id : CellId = record { 0 = n } in
    let found : cell_at (length below) q k.open_cells ≡ Some id = a.listed id co (length below) q k.open_cells own (c.1 ∙ ap (λ (c : KeptCell). Some c) kept) in
    below_at (length below) register q k.open_cells id (subst (λ f. AllBelow f register k.open_cells) top none.below) found)

module _ (W : Memory) (co : CoroId) (register : ℕ) (id : CellId) (v : Kept) (k : KeptStack) (d : Coro) (a : CellsAreListed W) (there : slice_get W.coros.objects co.0 ≡ Some (Running k))
    (o : TakesOnTop (Running k) d register id v) where
  abbrev new : Memory
  new = record W { cells = record W.cells { objects = slice_set W.cells.objects id.0 (Closed v) }; coros = record W.coros { objects = slice_set W.coros.objects co.0 d } }

  before_is : o.before ≡ k
  before_is = running_same o.before k (sym o.was)

  own : slice_get (map open_cells_in W.coros.objects) co.0 ≡ Some (Some k.open_cells)
  own = get_map open_cells_in W.coros.objects co.0 (Running k) there

  split : k.open_cells ≡ o.after.open_cells ++ o.open_cell ∷ []
  split = ap (λ (b : KeptStack). b.open_cells) (sym before_is) ∙ o.takes.cells

  lists_are : map open_cells_in (slice_set W.coros.objects co.0 d) ≡ slice_set (map open_cells_in W.coros.objects) co.0 (Some o.after.open_cells)
  lists_are = map-set open_cells_in W.coros.objects co.0 d ∙ ap (slice_set (map open_cells_in W.coros.objects) co.0) (ap open_cells_in o.is)

  pub taken_listed : CellsAreListed new
  taken_listed =
      subst (AreListed (slice_set W.cells.objects id.0 (Closed v))) (sym lists_are)
      (subst (λ (i : CellId). AreListed (slice_set W.cells.objects i.0 (Closed v)) (slice_set (map open_cells_in W.coros.objects) co.0 (Some o.after.open_cells))) o.cell_is
      (closes_listed W.cells.objects (map open_cells_in W.coros.objects) co k.open_cells o.after.open_cells o.open_cell v a own split))

  pub cell_open : slice_get W.cells.objects id.0 ≡ Some (Open co o.open_cell.frame o.open_cell.register)
  cell_open =
      ap (λ (i : CellId). slice_get W.cells.objects i.0) (sym o.cell_is) ∙ was_open W.cells.objects (map open_cells_in W.coros.objects) co k.open_cells o.after.open_cells o.open_cell v a own split

  same_frames : (f : Kept → Value) → frames f o.after ≡ frames f k
  same_frames f = ap (map (frame_of f)) (o.frames ∙ ap (λ (b : KeptStack). b.frames) before_is)

  pub taken_closes : (fuel : ℕ) → ClosesSome co.0 register (plain W fuel) (plain new fuel)
  taken_closes fuel =
      let V : World = plain W fuel in
      let cells : map (cell W.strings) (slice_set W.cells.objects id.0 (Closed v)) ≡ slice_set V.cells id.0 (closed (value W.strings v)) = map-set (cell W.strings) W.cells.objects id.0 (Closed v) in
      let coroutines : map (coroutine W.strings) (slice_set W.coros.objects co.0 d) ≡ V.coroutines =
      map_set (coroutine W.strings) W.coros.objects co.0 (Running k) d there (ap (coroutine W.strings) o.is ∙ ap in_progress (same_frames (value W.strings))) in
      record {
        rest = ap (λ ks. record V { cells = map (cell W.strings) (slice_set W.cells.objects id.0 (Closed v)); coroutines = ks }) coroutines;
        same = λ below t running.
            let fs = stack_frames W.strings W.coros.objects co.0 k (below ++ lua t ∷ []) there running in
            let frame : o.open_cell.frame ≡ length below = o.takes.frame ∙ ap top_number before_is ∙ top_is W.strings k below t fs in
            let here : slice_get V.cells id.0 ≡ Some (open_at co.0 (length below) o.open_cell.register) =
            get_map (cell W.strings) W.cells.objects id.0 (Open co o.open_cell.frame o.open_cell.register) cell_open ∙ ap (λ f. Some (open_at co.0 f o.open_cell.register)) frame in
            let read = nth_get t.own.registers o.open_cell.register (value W.strings v) (o.value_is (value W.strings) below t (same_frames (value W.strings) ∙ fs)) in
            ap (close_from co.0 (length below) register t.own.registers) cells
            ∙ close_step co.0 (length below) register o.open_cell.register t.own.registers (value W.strings v) V.cells id.0 here o.takes.register_at_least read;
      }

  pub taken_runs : slice_get new.coros.objects co.0 ≡ Some (Running o.after)
  taken_runs = get_set_same W.coros.objects co.0 (Running k) d there ∙ ap (λ (c : Coro). Some c) o.is

  pub taken_fewer : open_count new co + 1 ≡ open_count W co
  taken_fewer =
      let less : open_count new co ≡ length o.after.open_cells = ap count_in taken_runs in
      let more : open_count W co ≡ length k.open_cells = ap count_in there in
      let l = ap length split ∙ length-append o.after.open_cells (o.open_cell ∷ []) in
      omega (arith, less, more, l)

-- the coroutine that was looked at is the one that runs, and where it stays as it is so does the world

pub running_takes : (W : Memory) (co : CoroId) (register : ℕ) (id : CellId) (v : Kept) (k : KeptStack) (now d : Coro) → slice_get W.coros.objects co.0 ≡ Some now → slice_get W.coros.objects co.0 ≡ Some (Running k)
    → TakesOnTop now d register id v → TakesOnTop (Running k) d register id v
running_takes W co register id v k now d got there = subst (λ c. TakesOnTop c d register id v) (some_same _ _ (sym got ∙ there))

pub kept_world : (W : Memory) (co : CoroId) (now d : Coro) → slice_get W.coros.objects co.0 ≡ Some now → d ≡ now → W ≡ record W { coros = record W.coros { objects = slice_set W.coros.objects co.0 d } }
kept_world W co now d got kept =
    let own : slice_get W.coros.objects co.0 ≡ Some d = got ∙ ap (λ (k : Coro). Some k) (sym kept) in
    ap (λ (cs : List Coro). record W { coros = record W.coros { objects = cs } }) (sym (set_own W.coros.objects co.0 d own))

-- one after another

running_in : (co register : ℕ) (V U : World) → ClosesSome co register V U → (fs : List Frame) → slice_get V.coroutines co ≡ Some (in_progress fs) → slice_get U.coroutines co ≡ Some (in_progress fs)
running_in co register V U h fs e = ap (λ (X : World). slice_get X.coroutines co) h.rest ∙ e

pub closes_none : (co register : ℕ) (V : World) → ClosesSome co register V V
closes_none co register V = record { rest = refl; same = λ below t running. refl }

pub closes_more : (co register : ℕ) (V U X : World) → ClosesSome co register V U → ClosesSome co register U X → ClosesSome co register V X
closes_more co register V U X h k = record {
  rest = k.rest ∙ ap (λ (Y : World). record Y { cells = X.cells }) h.rest;
  same = λ below t running. k.same below t (running_in co register V U h (below ++ lua t ∷ []) running) ∙ h.same below t running;
}

pub closes_all : (co register : ℕ) (V U : World) → ClosesSome co register V U → NoneIsOpen co register U → ClosesAll co register V U
closes_all co register V U h none below t running =
    h.rest ∙ ap (λ cs. record V { cells = cs }) (sym (none below t (running_in co register V U h (below ++ lua t ∷ []) running)) ∙ h.same below t running)

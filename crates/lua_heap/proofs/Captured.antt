-- A register of the function on top gets a cell: what stacks list stays right, and the cell is found.
use Rattle.std.proofs.Common.{◌≡◌, ◌⊎◌, ⊎_elim, inl, inr, ℕ, zero, suc, ◌+◌, List, [], ◌∷◌, ◌++◌, length, map, Option, Some, None, Bool, true, false, refl, ap, sym, subst, ◌∙◌, arith}
use Rattle.std.specs.Prelude.{◌-◌, ◌&&◌, cond, nat_eq, slice_get, slice_set}
use Rattle.std.proofs.lemmas.List.{length-map, map-set, map_push}
use Rattle.list_laws.proofs.Items.{get_either, get_new, get_old, get_set_same, some_same}
use Rattle.list_laws.proofs.Tests.{eq_refl, eq_true}
use Rattle.int_core.specs.Value.{last}
use Rattle.machine_core.specs.Moves.{opened_cells}
use Rattle.machine_core.specs.World.{open_at, in_progress, is_open_at, find_open, find_open_from, Stack, stack_of, World}
use Rattle.machine_sound.proofs.Lists.{get_map, map_set}
use Rattle.lua_stack.specs.Frames.{KeptStack, Adds, IsBelow, cell_at, frame_of, opened_at, top_number}
use Rattle.lua_stack.specs.declared.frame.OpenCell.{OpenCell}
use Rattle.table_core.specs.declared.value.CellId.{CellId}
use Rattle.table_core.specs.declared.value.CoroId.{CoroId}
use Rattle.lua_heap.specs.declared.world.Cell.{Cell as KeptCell}
use Rattle.lua_heap.specs.declared.world.Cell.TheVariants.{Closed, Open}
use Rattle.lua_heap.specs.declared.world.Coro.{Coro}
use Rattle.lua_heap.specs.declared.world.Coro.TheVariants.{Running}
use Rattle.lua_heap.specs.declared.world.World.{World as Memory}
use Rattle.lua_heap.specs.Reading.{value}
use Rattle.lua_heap.specs.Plain.{cell, coroutine, plain}
use Rattle.lua_heap.specs.Cells.{open_cells_in, AreListed, CellsAreListed, IsOnce}
use Rattle.lua_heap.specs.Captures.{OpensOnTop, cell_on_top, with_open_cell}
use Rattle.lua_heap.proofs.Resumed.{IsRunning, is_running, set_cases, set_own}
use Rattle.code_core.proofs.CheckedLemmas.{both}
use Rattle.lua_stack.proofs.OpenCells.{none_below}

-- a stack's own list, where a cell is put in

abbrev pub is_at : (frame register : ℕ) → OpenCell → Bool
is_at frame register c = nat_eq c.frame frame && nat_eq c.register register

pub self_at : (c : OpenCell) → is_at c.frame c.register c ≡ true
self_at c = ap (λ b. b && nat_eq c.register c.register) (eq_refl c.frame) ∙ eq_refl c.register

pub at_is : (frame register : ℕ) (c : OpenCell) → is_at frame register c ≡ true → (c.frame ≡ frame) × (c.register ≡ register)
at_is frame register c h =
    let b = both (nat_eq c.frame frame) (nat_eq c.register register) h in
    (eq_true c.frame frame b.0, eq_true c.register register b.1)

below_not : (frame register : ℕ) (c : OpenCell) → IsBelow frame register c → is_at frame register c ≡ true → ⊥
below_not frame register c b h =
    let e = at_is frame register c h in
    let f = e.0 in
    let g = e.1 in
    let l = b.register_less (omega (arith, f)) in
    omega (arith, l, g)

pub by_test : {A : Type 0} (b : Bool) → (b ≡ true → A) → (b ≡ false → A) → A
by_test true f g = f refl
by_test false f g = g refl

module _ (old new : List OpenCell) (c : OpenCell) (a : Adds old new c) where
  pub added_found : cell_at c.frame c.register new ≡ Some c.cell
  added_found =
      ap (cell_at c.frame c.register) a.is ∙ none_below c.frame c.register a.before (c ∷ a.after) a.below
      ∙ ap (λ s. cond s (Some c.cell) (cell_at c.frame c.register a.after)) (self_at c)

  module _ (frame register : ℕ) (t : is_at frame register c ≡ false) where
    passed : (cs ds : List OpenCell) → cell_at frame register (cs ++ c ∷ ds) ≡ cell_at frame register (cs ++ ds)
    passed [] ds = ap (λ s. cond s (Some c.cell) (cell_at frame register ds)) t
    passed (d ∷ cs) ds = ap (λ o. cond (is_at frame register d) (Some d.cell) o) (passed cs ds)

    others_same : cell_at frame register new ≡ cell_at frame register old
    others_same = ap (cell_at frame register) a.is ∙ passed a.before a.after ∙ sym (ap (cell_at frame register) a.was)

  module _ (free : cell_at c.frame c.register old ≡ None) where
    pub still_found : (frame register : ℕ) (id : CellId) → cell_at frame register old ≡ Some id → cell_at frame register new ≡ Some id
    still_found frame register id e =
        by_test (is_at frame register c)
        (λ t.
        let s = at_is frame register c t in
        let none : cell_at frame register old ≡ None = ap (λ f. cell_at f register old) (sym s.0) ∙ ap (λ r. cell_at c.frame r old) (sym s.1) ∙ free in
        absurd (let k : None ≡ Some id = sym none ∙ e in cc))
        (λ t. others_same frame register t ∙ e)

  pub found_or_new : (frame register : ℕ) (id : CellId) → cell_at frame register new ≡ Some id → ((c.frame ≡ frame) × (c.register ≡ register) × (c.cell ≡ id)) ⊎ (cell_at frame register old ≡ Some id)
  found_or_new frame register id e =
      by_test (is_at frame register c)
      (λ t.
      let s = at_is frame register c t in
      let here : cell_at c.frame c.register new ≡ Some id = ap (λ r. cell_at c.frame r new) s.1 ∙ ap (λ f. cell_at f register new) s.0 ∙ e in
      inl (s.0, s.1, some_same _ _ (sym added_found ∙ here)))
      (λ t. inr (sym (others_same frame register t) ∙ e))

skips : (frame register : ℕ) (c : OpenCell) → is_at frame register c ≡ false → (cs ds : List OpenCell) → cell_at frame register (cs ++ c ∷ ds) ≡ cell_at frame register (cs ++ ds)
skips frame register c t [] ds = ap (λ s. cond s (Some c.cell) (cell_at frame register ds)) t
skips frame register c t (d ∷ cs) ds = ap (λ o. cond (is_at frame register d) (Some d.cell) o) (skips frame register c t cs ds)

at_other : (c d : OpenCell) → is_at d.frame d.register c ≡ true → is_at c.frame c.register d ≡ true
at_other c d t =
    let s = at_is d.frame d.register c t in
    ap (λ f. nat_eq d.frame f && nat_eq d.register c.register) s.0 ∙ ap (λ r. nat_eq d.frame d.frame && nat_eq d.register r) s.1 ∙ self_at d

pub once_in : (before after : List OpenCell) (c : OpenCell) → IsOnce (before ++ after) → cell_at c.frame c.register (before ++ after) ≡ None → IsOnce (before ++ c ∷ after)
once_in [] after c h free = (free, h)
once_in (d ∷ ds) after c h free =
    let not_at : is_at c.frame c.register d ≡ true → ⊥ = λ t.
    let bad : Some d.cell ≡ None = sym (ap (λ s. cond s (Some d.cell) (cell_at c.frame c.register (ds ++ after))) t) ∙ free in
    cc in
    let later : cell_at c.frame c.register (ds ++ after) ≡ None =
    by_test (is_at c.frame c.register d) (λ t. absurd (not_at t)) (λ t. sym (ap (λ s. cond s (Some d.cell) (cell_at c.frame c.register (ds ++ after))) t) ∙ free) in (
      by_test (is_at d.frame d.register c) (λ t. absurd (not_at (at_other c d t))) (λ t. skips d.frame d.register c t ds after ∙ h.0),
      once_in ds after c h.1 later,
    )

-- the cells of a world and the lists of its stacks

pub open_same : (co k : CoroId) (f r g q : ℕ) → Open co f r ≡ Open k g q → (co ≡ k) × (f ≡ g) × (r ≡ q)
open_same co k f r g q e = (cc, cc, cc)

pub list_stays : (lists : List (Option (List OpenCell))) (n : ℕ) (new : List OpenCell) (k : ℕ) (own : List OpenCell) → slice_get lists k ≡ Some (Some own)
    → (some : List OpenCell) × (slice_get (slice_set lists n (Some new)) k ≡ Some (Some some))
list_stays [] n new k own e = absurd (cc)
list_stays (o ∷ os) zero new zero own e = (new, refl)
list_stays (o ∷ os) zero new (suc k) own e = (own, e)
list_stays (o ∷ os) (suc n) new zero own e = (own, e)
list_stays (o ∷ os) (suc n) new (suc k) own e = list_stays os n new k own e

module _ (cells : List KeptCell) (lists : List (Option (List OpenCell))) (co : CoroId) (old new : List OpenCell) (c : OpenCell) (a : AreListed cells lists) (there : slice_get lists co.0 ≡ Some (Some old))
    (added : Adds old new c) (free : cell_at c.frame c.register old ≡ None) (number : c.cell.0 ≡ length cells) where
  abbrev last_cell : KeptCell
  last_cell = Open co c.frame c.register

  now_there : slice_get (slice_set lists co.0 (Some new)) co.0 ≡ Some (Some new)
  now_there = get_set_same lists co.0 (Some old) (Some new) there

  new_listed : (id : CellId) (k : CoroId) (frame register : ℕ) (own : List OpenCell) → slice_get (slice_set lists co.0 (Some new)) k.0 ≡ Some (Some own) → id.0 ≡ length cells → last_cell ≡ Open k frame register
      → cell_at frame register own ≡ Some id
  new_listed id k frame register own e n s =
      let o = open_same co k c.frame c.register frame register s in
      let same : new ≡ own = some_same _ _ (some_same _ _ (sym now_there ∙ ap (λ (k : CoroId). slice_get (slice_set lists co.0 (Some new)) k.0) o.0 ∙ e)) in
      let is : c.cell ≡ id = ap (λ n. record { 0 = n }) (number ∙ sym n) in
      ap (cell_at frame register) (sym same) ∙ ap (λ f. cell_at f register new) (sym o.1) ∙ ap (λ r. cell_at c.frame r new) (sym o.2) ∙ added_found old new c added ∙ ap (λ (i : CellId). Some i) is

  old_listed : (id : CellId) (k : CoroId) (frame register : ℕ) (own : List OpenCell) → slice_get (slice_set lists co.0 (Some new)) k.0 ≡ Some (Some own) → slice_get cells id.0 ≡ Some (Open k frame register)
      → cell_at frame register own ≡ Some id
  old_listed id k frame register own e is =
      ⊎_elim
      (λ h.
      let before : slice_get lists k.0 ≡ Some (Some old) = ap (slice_get lists) (sym h.0) ∙ there in
      ap (cell_at frame register) (sym (some_same _ _ h.1)) ∙ still_found old new c added free frame register id (a.listed id k frame register old before is))
      (λ h. a.listed id k frame register own h is) (set_cases lists co.0 k.0 (Some new) (Some own) e)

  pub opened_listed : AreListed (cells ++ last_cell ∷ []) (slice_set lists co.0 (Some new))
  opened_listed = record {
    listed = λ id k frame register own e is.
        ⊎_elim (λ h. old_listed id k frame register own e h) (λ h. new_listed id k frame register own e h.0 h.1) (get_either cells last_cell id.0 (Open k frame register) is);
    opened = λ id k frame register own e is.
        ⊎_elim
        (λ h.
        let now : cell_at frame register new ≡ Some id = ap (cell_at frame register) (some_same _ _ h.1) ∙ is in
        let same : co ≡ k = ap (λ n. record { 0 = n }) h.0 in
        ⊎_elim
        (λ n.
        ap (slice_get (cells ++ last_cell ∷ [])) (ap (λ (i : CellId). i.0) (sym n.2) ∙ number) ∙ get_new cells last_cell
        ∙ ap (λ (k : CoroId). Some (Open k c.frame c.register)) same ∙ ap (λ f. Some (Open k f c.register)) n.0 ∙ ap (λ r. Some (Open k frame r)) n.1)
        (λ n.
        let before : slice_get lists k.0 ≡ Some (Some old) = ap (slice_get lists) (sym h.0) ∙ there in
        get_old cells (last_cell ∷ []) id.0 (Open k frame register) (a.opened id k frame register old before n))
        (found_or_new old new c added frame register id now))
        (λ h. get_old cells (last_cell ∷ []) id.0 (Open k frame register) (a.opened id k frame register own h is)) (set_cases lists co.0 k.0 (Some new) (Some own) e);
    held = λ id k frame register is.
        ⊎_elim (λ h. let o = a.held id k frame register h in list_stays lists co.0 new k.0 o.0 o.1)
        (λ h. let o = open_same co k c.frame c.register frame register h.1 in (new, ap (λ (k : CoroId). slice_get (slice_set lists co.0 (Some new)) k.0) (sym o.0) ∙ now_there))
        (get_either cells last_cell id.0 (Open k frame register) is);
    once = λ n own e.
        let was = subst IsOnce added.was (a.once co.0 old there) in
        let now : IsOnce new = subst IsOnce (sym added.is) (once_in added.before added.after c was (ap (cell_at c.frame c.register) (sym added.was) ∙ free)) in
        ⊎_elim (λ h. subst IsOnce (some_same _ _ h.1) now) (λ h. a.once n own h) (set_cases lists co.0 n (Some new) (Some own) e);
  }

-- the search through all cells finds what a stack lists

module _ (texts : List (List ℕ)) (co : CoroId) (frame register : ℕ) where
  open_true : (k : KeptCell) → is_open_at co.0 frame register (cell texts k) ≡ true → k ≡ Open co frame register
  open_true (Closed v) h = absurd (cc)
  open_true (Open k f r) h =
      let x = both (nat_eq co.0 k.0) (nat_eq frame f && nat_eq register r) h in
      let y = both (nat_eq frame f) (nat_eq register r) x.1 in
      let same : k ≡ co = ap (λ n. record { 0 = n }) (sym (eq_true co.0 k.0 x.0)) in
      ap (λ (k : CoroId). Open k f r) same ∙ ap (λ f. Open co f r) (sym (eq_true frame f y.0)) ∙ ap (λ r. Open co frame r) (sym (eq_true register r y.1))

  open_self : is_open_at co.0 frame register (open_at co.0 frame register) ≡ true
  open_self =
      ap (λ b. b && (nat_eq frame frame && nat_eq register register)) (eq_refl co.0) ∙ ap (λ b. b && nat_eq register register) (eq_refl frame) ∙ eq_refl register

  found_from : (n : ℕ) (cells : List KeptCell) (i : ℕ) → slice_get cells i ≡ Some (Open co frame register) → ((j : ℕ) → slice_get cells j ≡ Some (Open co frame register) → j ≡ i)
      → find_open_from n co.0 frame register (map (cell texts) cells) ≡ Some (n + i)
  found_from n [] i e one = absurd (cc)
  found_from n (k ∷ ks) zero e one =
      let here : n ≡ n + 0 = omega arith in
      ap (λ b. cond b (Some n) (find_open_from (suc n) co.0 frame register (map (cell texts) ks))) (ap (λ (k : KeptCell). is_open_at co.0 frame register (cell texts k)) (some_same k (Open co frame register) e) ∙ open_self)
      ∙ ap (λ m. Some m) here
  found_from n (k ∷ ks) (suc i) e one =
      let on : suc n + i ≡ n + suc i = omega arith in
      by_test (is_open_at co.0 frame register (cell texts k)) (λ t. absurd (let z : 0 ≡ suc i = one 0 (ap (λ (k : KeptCell). Some k) (open_true k t)) in omega (arith, z)))
      (λ t.
      ap (λ b. cond b (Some n) (find_open_from (suc n) co.0 frame register (map (cell texts) ks))) t
      ∙ found_from (suc n) ks i e (λ j f. let s = one (suc j) f in omega (arith, s)) ∙ ap (λ m. Some m) on)

  none_from : (n : ℕ) (cells : List KeptCell) → ((j : ℕ) → slice_get cells j ≡ Some (Open co frame register) → ⊥) → find_open_from n co.0 frame register (map (cell texts) cells) ≡ None
  none_from n [] none = refl
  none_from n (k ∷ ks) none =
      by_test (is_open_at co.0 frame register (cell texts k)) (λ t. absurd (none 0 (ap (λ (k : KeptCell). Some k) (open_true k t))))
      (λ t. ap (λ b. cond b (Some n) (find_open_from (suc n) co.0 frame register (map (cell texts) ks))) t ∙ none_from (suc n) ks (λ j f. none (suc j) f))

  module _ (cells : List KeptCell) (lists : List (Option (List OpenCell))) (own : List OpenCell) (a : AreListed cells lists) (there : slice_get lists co.0 ≡ Some (Some own)) where
    pub listed_found : (id : CellId) → cell_at frame register own ≡ Some id → find_open co.0 frame register (map (cell texts) cells) ≡ Some id.0
    listed_found id e =
        let here : zero + id.0 ≡ id.0 = omega arith in
        found_from 0 cells id.0 (a.opened id co frame register own there e)
        (λ j f.
        let other : CellId = record { 0 = j } in
        ap (λ (i : CellId). i.0) (some_same _ _ (sym (a.listed other co frame register own there f) ∙ e)))
        ∙ ap (λ m. Some m) here

    pub none_found : cell_at frame register own ≡ None → find_open co.0 frame register (map (cell texts) cells) ≡ None
    none_found e =
        none_from 0 cells
        (λ j f.
        let other : CellId = record { 0 = j } in
        let k : None ≡ Some other = sym e ∙ a.listed other co frame register own there f in
        cc)

-- the function on top, in the words of the machine

pub running_same : (a b : KeptStack) → Running a ≡ Running b → a ≡ b
running_same a b e = cc

abbrev depth_of : Stack → ℕ
depth_of s = length s.frames - 1

module _ (W : Memory) (co : CoroId) (k : KeptStack) (top : last W.chain.items ≡ Some co) (there : slice_get W.coros.objects co.0 ≡ Some (Running k)) (fuel : ℕ) (s : Stack) (e : stack_of (plain W fuel) ≡ Some s) where
  r : IsRunning W fuel s
  r = is_running W fuel s e

  same_co : r.number ≡ co
  same_co = some_same _ _ (sym r.last ∙ top)

  same_stack : r.stack ≡ k
  same_stack = running_same r.stack k (some_same _ _ (sym r.there ∙ ap (λ (n : CoroId). slice_get W.coros.objects n.0) same_co ∙ there))

  pub coroutine_is : s.coroutine ≡ co.0
  coroutine_is = ap (λ (s : Stack). s.coroutine) (sym r.is) ∙ ap (λ (n : CoroId). n.0) same_co

  pub depth_is : depth_of s ≡ top_number k
  depth_is = ap depth_of (sym r.is) ∙ ap (λ n. n - 1) (length-map r.stack.frames (frame_of (value W.strings))) ∙ ap top_number same_stack

  -- the search for its cell
  pub search_is : (V : World) (register : ℕ) → cell_on_top V s register ≡ find_open co.0 (top_number k) register V.cells
  search_is V register = ap (λ n. find_open n (depth_of s) register V.cells) coroutine_is ∙ ap (λ n. find_open co.0 n register V.cells) depth_is

  own_there : slice_get (map open_cells_in W.coros.objects) co.0 ≡ Some (Some k.open_cells)
  own_there = get_map open_cells_in W.coros.objects co.0 (Running k) there

  module _ (listed : CellsAreListed W) (register : ℕ) where
    pub old_found : (id : CellId) → cell_at (top_number k) register k.open_cells ≡ Some id → cell_on_top (plain W fuel) s register ≡ Some id.0
    old_found id f = search_is (plain W fuel) register ∙ listed_found W.strings co (top_number k) register W.cells.objects (map open_cells_in W.coros.objects) k.open_cells listed own_there id f

    pub old_plain : (id : CellId) → cell_at (top_number k) register k.open_cells ≡ Some id → plain W fuel ≡ with_open_cell (plain W fuel) s register
    old_plain id f = sym (ap (λ (o : Option ℕ). record (plain W fuel) { cells = opened_cells o s.coroutine (depth_of s) register (plain W fuel).cells }) (old_found id f))

    none_there : cell_at (top_number k) register k.open_cells ≡ None → cell_on_top (plain W fuel) s register ≡ None
    none_there f = search_is (plain W fuel) register ∙ none_found W.strings co (top_number k) register W.cells.objects (map open_cells_in W.coros.objects) k.open_cells listed own_there f

module _ (W new : Memory) (co : CoroId) (k : KeptStack) (d : Coro) (id : CellId) (frame register : ℕ) (listed : CellsAreListed W) (top : last W.chain.items ≡ Some co)
    (there : slice_get W.coros.objects co.0 ≡ Some (Running k)) (o : OpensOnTop (Running k) d frame register id) (number : id.0 ≡ length W.cells.objects)
    (free : cell_at (top_number k) register k.open_cells ≡ None) (rest : new ≡ record W { cells = new.cells; coros = new.coros })
    (cells : new.cells.objects ≡ W.cells.objects ++ Open co frame register ∷ []) (coros : new.coros.objects ≡ slice_set W.coros.objects co.0 d) where
  before_is : o.before ≡ k
  before_is = running_same o.before k (sym o.was)

  frame_is : frame ≡ top_number k
  frame_is = o.number ∙ ap top_number before_is

  adds : Adds k.open_cells o.after.open_cells (opened_at id frame register)
  adds = subst (λ (b : KeptStack). Adds b.open_cells o.after.open_cells (opened_at id frame register)) before_is o.adds

  lists_now : map open_cells_in new.coros.objects ≡ slice_set (map open_cells_in W.coros.objects) co.0 (Some o.after.open_cells)
  lists_now = ap (map open_cells_in) coros ∙ map-set open_cells_in W.coros.objects co.0 d ∙ ap (slice_set (map open_cells_in W.coros.objects) co.0) (ap open_cells_in o.is)

  all_listed : AreListed (W.cells.objects ++ Open co frame register ∷ []) (slice_set (map open_cells_in W.coros.objects) co.0 (Some o.after.open_cells))
  all_listed =
      opened_listed W.cells.objects (map open_cells_in W.coros.objects) co k.open_cells o.after.open_cells (opened_at id frame register) listed (get_map open_cells_in W.coros.objects co.0 (Running k) there) adds
      (ap (λ f. cell_at f register k.open_cells) frame_is ∙ free) number

  pub new_listed_all : CellsAreListed new
  new_listed_all =
      subst (λ cs. AreListed cs (map open_cells_in new.coros.objects)) (sym cells) (subst (AreListed (W.cells.objects ++ Open co frame register ∷ [])) (sym lists_now) all_listed)

  module _ (fuel : ℕ) (s : Stack) (e : stack_of (plain W fuel) ≡ Some s) where
    abbrev V : World
    V = plain W fuel

    cells_now : map (cell W.strings) new.cells.objects ≡ V.cells ++ open_at co.0 frame register ∷ []
    cells_now = ap (map (cell W.strings)) cells ∙ map_push (cell W.strings) W.cells.objects (Open co frame register)

    same_frames : coroutine W.strings d ≡ coroutine W.strings (Running k)
    same_frames =
        ap (coroutine W.strings) o.is ∙ ap (λ fs. in_progress (map (frame_of (value W.strings)) fs)) (o.frames ∙ ap (λ (b : KeptStack). b.frames) before_is)

    coroutines_now : map (coroutine W.strings) new.coros.objects ≡ V.coroutines
    coroutines_now = ap (map (coroutine W.strings)) coros ∙ map_set (coroutine W.strings) W.coros.objects co.0 (Running k) d there same_frames

    plain_now : plain new fuel ≡ record V { cells = V.cells ++ open_at co.0 frame register ∷ [] }
    plain_now =
        ap (λ (M : Memory). plain M fuel) rest ∙ ap (λ cs. record V { cells = cs; coroutines = map (coroutine W.strings) new.coros.objects }) cells_now
        ∙ ap (λ ks. record V { cells = V.cells ++ open_at co.0 frame register ∷ []; coroutines = ks }) coroutines_now

    pub new_plain : plain new fuel ≡ with_open_cell V s register
    new_plain =
        plain_now ∙ ap (λ f. record V { cells = V.cells ++ open_at co.0 f register ∷ [] }) (frame_is ∙ sym (depth_is W co k top there fuel s e))
        ∙ ap (λ n. record V { cells = V.cells ++ open_at n (depth_of s) register ∷ [] }) (sym (coroutine_is W co k top there fuel s e))
        ∙ sym (ap (λ (o : Option ℕ). record V { cells = opened_cells o s.coroutine (depth_of s) register V.cells }) (none_there W co k top there fuel s e listed register free))

    pub new_found : cell_on_top (plain new fuel) s register ≡ Some id.0
    new_found =
        ap (λ (U : World). cell_on_top U s register) plain_now ∙ search_is W co k top there fuel s e (record V { cells = V.cells ++ open_at co.0 frame register ∷ [] }) register
        ∙ ap (λ f. find_open co.0 f register (V.cells ++ open_at co.0 frame register ∷ [])) (sym frame_is)
        ∙ ap (find_open co.0 frame register) (sym (map_push (cell W.strings) W.cells.objects (Open co frame register)))
        ∙ listed_found W.strings co frame register (W.cells.objects ++ Open co frame register ∷ []) (slice_set (map open_cells_in W.coros.objects) co.0 (Some o.after.open_cells)) o.after.open_cells all_listed
        (get_set_same (map open_cells_in W.coros.objects) co.0 (Some k.open_cells) (Some o.after.open_cells) (get_map open_cells_in W.coros.objects co.0 (Running k) there)) id
        (added_found k.open_cells o.after.open_cells (opened_at id frame register) adds)

-- a refusal leaves the world
pub refused_plain : (W new : Memory) (fuel n : ℕ) (c d : Coro) → new ≡ record W { cells = new.cells; coros = new.coros } → new.cells.objects ≡ W.cells.objects → slice_get W.coros.objects n ≡ Some c → d ≡ c
    → new.coros.objects ≡ slice_set W.coros.objects n d → plain new fuel ≡ plain W fuel
refused_plain W new fuel n c d rest cells there same coros =
    ap (λ (M : Memory). plain M fuel) rest ∙ ap (λ cs. record (plain W fuel) { cells = map (cell W.strings) cs; coroutines = map (coroutine W.strings) new.coros.objects }) cells
    ∙ ap (λ ks. record (plain W fuel) { coroutines = map (coroutine W.strings) ks }) (coros ∙ ap (slice_set W.coros.objects n) same ∙ set_own W.coros.objects n c there)

pub refused_listed : (W new : Memory) (n : ℕ) (c d : Coro) → CellsAreListed W → new.cells.objects ≡ W.cells.objects → slice_get W.coros.objects n ≡ Some c → d ≡ c → new.coros.objects ≡ slice_set W.coros.objects n d → CellsAreListed new
refused_listed W new n c d a cells there same coros =
    let ks : new.coros.objects ≡ W.coros.objects = coros ∙ ap (slice_set W.coros.objects n) same ∙ set_own W.coros.objects n c there in
    subst (λ cs. AreListed cs (map open_cells_in new.coros.objects)) (sym cells) (subst (λ ks. AreListed W.cells.objects (map open_cells_in ks)) (sym ks) a)

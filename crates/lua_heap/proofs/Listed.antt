-- Cells and the lists of stacks: where a cell is open, what it has, and what a write keeps.
use Rattle.std.proofs.Common.{◌≡◌, ⊎_elim, ℕ, zero, suc, ◌<◌, List, [], ◌∷◌, ◌++◌, length, map, Option, Some, None, refl, ap, sym, subst, ◌∙◌}
use Rattle.std.specs.Prelude.{slice_get, slice_set, IsSome}
use Rattle.std.proofs.lemmas.List.{map-set}
use Rattle.int_core.specs.Value.{Value, bind}
use Rattle.list_laws.proofs.Items.{get_either, get_old}
use Rattle.machine_core.specs.World.{Frame, Coroutine, Cell, frames_of, with_frames, register_at, read_cell, write_cell, lua_frame, write_in_frame, write_in_coroutine, World}
use Rattle.machine_sound.proofs.Lists.{bind_at, get_map, get_within, map_get, map_set}
use Rattle.lua_stack.specs.Frames.{KeptStack, frames, register_in, RegisterBecomes}
use Rattle.lua_stack.specs.declared.frame.OpenCell.{OpenCell}
use Rattle.table_core.specs.declared.value.CellId.{CellId}
use Rattle.table_core.specs.declared.value.CoroId.{CoroId}
use Rattle.table_core.specs.declared.value.Value.{Value as Kept}
use Rattle.lua_heap.specs.declared.world.Cell.{Cell as KeptCell}
use Rattle.lua_heap.specs.declared.world.Cell.TheVariants.{Closed, Open}
use Rattle.lua_heap.specs.declared.world.Coro.{Coro}
use Rattle.lua_heap.specs.declared.world.Coro.TheVariants.{Fresh, Suspended, Running, Normal, Dead, Failed}
use Rattle.lua_heap.specs.declared.world.World.{World as Memory}
use Rattle.lua_heap.specs.Reading.{value}
use Rattle.lua_heap.specs.Plain.{cell, coroutine, plain}
use Rattle.lua_heap.specs.Changes.{value_in, with_value_in}
use Rattle.lua_heap.specs.Cells.{open_cells_in, AreListed, CellsAreListed, IsOpenIn}

-- what is there where something was found by it
some_first : {A B : Type 0} (f : A → Option B) (o : Option A) → IsSome (bind o f) → (a : A) × (o ≡ Some a) × IsSome (f a)
some_first f None h = absurd (cc)
some_first f (Some a) h = (a, refl, h)

pub cell_within : (W : Memory) (n : ℕ) → IsSome (value_in (plain W 0) n) → n < length W.cells.objects
cell_within W n h =
    let c = some_first (read_cell (plain W 0)) (slice_get (map (cell W.strings) W.cells.objects) n) h in
    let k = map_get (cell W.strings) W.cells.objects n c.0 c.1 in
    get_within W.cells.objects n k.0 k.1

-- the value of a cell by what is kept of it
pub cell_reads : (W : Memory) (fuel n : ℕ) (c : KeptCell) → slice_get W.cells.objects n ≡ Some c → value_in (plain W fuel) n ≡ read_cell (plain W fuel) (cell W.strings c)
cell_reads W fuel n c e = bind_at (read_cell (plain W fuel)) _ _ (get_map (cell W.strings) W.cells.objects n c e)

coroutine_reads : (texts : List (List ℕ)) (coros : List Coro) (co frame register : ℕ) (c : Coro) → slice_get coros co ≡ Some c
    → register_at (map (coroutine texts) coros) co frame register ≡ bind (frames_of (coroutine texts c)) (register_in frame register)
coroutine_reads texts coros co frame register c e =
    ap (λ (o : Option Coroutine). bind (bind o frames_of) (register_in frame register)) (get_map (coroutine texts) coros co c e)

pub open_reads : (W : Memory) (fuel n : ℕ) (co : CoroId) (frame register : ℕ) (c : Coro) → slice_get W.cells.objects n ≡ Some (Open co frame register) → slice_get W.coros.objects co.0 ≡ Some c
    → value_in (plain W fuel) n ≡ bind (frames_of (coroutine W.strings c)) (register_in frame register)
open_reads W fuel n co frame register c e f = cell_reads W fuel n (Open co frame register) e ∙ coroutine_reads W.strings W.coros.objects co.0 frame register c f

-- the coroutine of an open cell that has a value is there
pub coroutine_within : (W : Memory) (n : ℕ) (co : CoroId) (frame register : ℕ) → slice_get W.cells.objects n ≡ Some (Open co frame register) → IsSome (value_in (plain W 0) n)
    → co.0 < length W.coros.objects
coroutine_within W n co frame register e h =
    let s : IsSome (register_at (map (coroutine W.strings) W.coros.objects) co.0 frame register) = subst IsSome (cell_reads W 0 n (Open co frame register) e) h in
    let fs = some_first (register_in frame register) (bind (slice_get (map (coroutine W.strings) W.coros.objects) co.0) frames_of) s in
    let c = some_first frames_of (slice_get (map (coroutine W.strings) W.coros.objects) co.0) (subst IsSome (sym fs.1) refl) in
    let k = map_get (coroutine W.strings) W.coros.objects co.0 c.0 c.1 in
    get_within W.coros.objects co.0 k.0 k.1

-- its stack lists it
listed_in : (texts : List (List ℕ)) (cells : List KeptCell) (coros : List Coro) (id : CellId) (co : CoroId) (frame register : ℕ) (c : Coro) → AreListed cells (map open_cells_in coros)
    → slice_get cells id.0 ≡ Some (Open co frame register) → slice_get coros co.0 ≡ Some c → IsSome (bind (frames_of (coroutine texts c)) (register_in frame register)) → IsOpenIn c frame register
listed_in texts cells coros id co frame register (Fresh v) a e f h = absurd (cc)
listed_in texts cells coros id co frame register (Suspended s) a e f h =
    record { cell = id; is = a.listed id co frame register s.open_cells (get_map open_cells_in coros co.0 (Suspended s) f) e }
listed_in texts cells coros id co frame register (Running s) a e f h =
    record { cell = id; is = a.listed id co frame register s.open_cells (get_map open_cells_in coros co.0 (Running s) f) e }
listed_in texts cells coros id co frame register (Normal s) a e f h =
    record { cell = id; is = a.listed id co frame register s.open_cells (get_map open_cells_in coros co.0 (Normal s) f) e }
listed_in texts cells coros id co frame register Dead a e f h = absurd (cc)
listed_in texts cells coros id co frame register (Failed v pending) a e f h = absurd (cc)

pub open_there : (W : Memory) (id : CellId) (co : CoroId) (frame register : ℕ) (c : Coro) → CellsAreListed W → slice_get W.cells.objects id.0 ≡ Some (Open co frame register)
    → slice_get W.coros.objects co.0 ≡ Some c → IsSome (value_in (plain W 0) id.0) → IsOpenIn c frame register
open_there W id co frame register c a e f h =
    listed_in W.strings W.cells.objects W.coros.objects id co frame register c a e f (subst IsSome (open_reads W 0 id.0 co frame register c e f) h)

-- a write of a register, in the words of the machine
pub written_in : (frame register : ℕ) (v : Value) (c : Coroutine) (fs : List Frame) (g : Frame) → frames_of c ≡ Some fs → slice_get fs frame ≡ Some g
    → write_in_coroutine frame register v c ≡ with_frames c (slice_set fs frame (write_in_frame register v g))
written_in frame register v c fs g e f =
    let here : bind (frames_of c) (λ frames. bind (slice_get frames frame) (λ h. Some (slice_set frames frame (write_in_frame register v h)))) ≡ Some (slice_set fs frame (write_in_frame register v g)) =
    bind_at (λ (frames : List Frame). bind (slice_get frames frame) (λ h. Some (slice_set frames frame (write_in_frame register v h)))) (frames_of c) fs e
    ∙ bind_at (λ (h : Frame). Some (slice_set fs frame (write_in_frame register v h))) (slice_get fs frame) g f in
    ap (λ o. elim o [ None ↦ c | Some frames ↦ with_frames c frames ]) here

-- the frame whose register is there
frame_there : (frame register : ℕ) (fs : List Frame) → IsSome (register_in frame register fs) → (g : Frame) × (slice_get fs frame ≡ Some g)
frame_there frame register fs h =
    let t = some_first (λ t. slice_get t.own.registers register) (bind (slice_get fs frame) lua_frame) h in
    let g = some_first lua_frame (slice_get fs frame) (subst IsSome (sym t.1) refl) in
    (g.0, g.1)

module _ (texts : List (List ℕ)) (old new : KeptStack) (frame register : ℕ) (v : Kept) (w : RegisterBecomes old new frame register v)
    (h : IsSome (register_in frame register (frames (value texts) old))) where
  pub stack_written : (k : List Frame → Coroutine) → frames_of (k (frames (value texts) old)) ≡ Some (frames (value texts) old)
      → ((gs : List Frame) → with_frames (k (frames (value texts) old)) gs ≡ k gs)
      → k (frames (value texts) new) ≡ write_in_coroutine frame register (value texts v) (k (frames (value texts) old))
  stack_written k e f =
      let g = frame_there frame register (frames (value texts) old) h in
      ap k (w.writes (value texts) g.0 g.1) ∙ sym (f _) ∙ sym (written_in frame register (value texts v) (k (frames (value texts) old)) (frames (value texts) old) g.0 e g.1)

-- a closed cell that is written is no more open than before
closed_as_before : (cells : List KeptCell) (n : ℕ) (v w : Kept) → slice_get cells n ≡ Some (Closed w) → (i : ℕ) (co : CoroId) (frame register : ℕ)
    → slice_get (slice_set cells n (Closed v)) i ≡ Some (Open co frame register) → slice_get cells i ≡ Some (Open co frame register)
closed_as_before [] n v w e i co frame register f = absurd (cc)
closed_as_before (c ∷ cs) zero v w e zero co frame register f = absurd (cc)
closed_as_before (c ∷ cs) zero v w e (suc i) co frame register f = f
closed_as_before (c ∷ cs) (suc n) v w e zero co frame register f = f
closed_as_before (c ∷ cs) (suc n) v w e (suc i) co frame register f = closed_as_before cs n v w e i co frame register f

open_as_before : (cells : List KeptCell) (n : ℕ) (v w : Kept) → slice_get cells n ≡ Some (Closed w) → (i : ℕ) (co : CoroId) (frame register : ℕ)
    → slice_get cells i ≡ Some (Open co frame register) → slice_get (slice_set cells n (Closed v)) i ≡ Some (Open co frame register)
open_as_before [] n v w e i co frame register f = absurd (cc)
open_as_before (c ∷ cs) zero v w e zero co frame register f = absurd (cc)
open_as_before (c ∷ cs) zero v w e (suc i) co frame register f = f
open_as_before (c ∷ cs) (suc n) v w e zero co frame register f = f
open_as_before (c ∷ cs) (suc n) v w e (suc i) co frame register f = open_as_before cs n v w e i co frame register f

pub closed_listed : (cells : List KeptCell) (lists : List (Option (List OpenCell))) (n : ℕ) (v w : Kept) → slice_get cells n ≡ Some (Closed w) → AreListed cells lists → AreListed (slice_set cells n (Closed v)) lists
closed_listed cells lists n v w e a = record {
  listed = λ id co frame register own there is. a.listed id co frame register own there (closed_as_before cells n v w e id.0 co frame register is);
  opened = λ id co frame register own there is. open_as_before cells n v w e id.0 co frame register (a.opened id co frame register own there is);
  held = λ id co frame register is. a.held id co frame register (closed_as_before cells n v w e id.0 co frame register is);
  once = a.once;
}

-- where a coroutine is written whose list is as before, all lists are
pub coroutine_listed : (cells : List KeptCell) (coros : List Coro) (co : ℕ) (c d : Coro) → slice_get coros co ≡ Some c → open_cells_in d ≡ open_cells_in c → AreListed cells (map open_cells_in coros)
    → AreListed cells (map open_cells_in (slice_set coros co d))
coroutine_listed cells coros co c d e f a = subst (AreListed cells) (sym (map_set open_cells_in coros co c d e f)) a

-- what comes last

without_last_cell : (cells : List KeptCell) (v : Kept) (n : ℕ) (co : CoroId) (frame register : ℕ) → slice_get (cells ++ Closed v ∷ []) n ≡ Some (Open co frame register) → slice_get cells n ≡ Some (Open co frame register)
without_last_cell cells v n co frame register is =
    ⊎_elim (λ e. e) (λ last. absurd (let same : Closed v ≡ Open co frame register = last.1 in cc)) (get_either cells (Closed v) n (Open co frame register) is)

pub cell_last : (cells : List KeptCell) (lists : List (Option (List OpenCell))) (v : Kept) → AreListed cells lists → AreListed (cells ++ Closed v ∷ []) lists
cell_last cells lists v a = record {
  listed = λ id co frame register own there is. a.listed id co frame register own there (without_last_cell cells v id.0 co frame register is);
  opened = λ id co frame register own there is. get_old cells (Closed v ∷ []) id.0 (Open co frame register) (a.opened id co frame register own there is);
  held = λ id co frame register is. a.held id co frame register (without_last_cell cells v id.0 co frame register is);
  once = a.once;
}

without_last_list : (lists : List (Option (List OpenCell))) (co : ℕ) (own : List OpenCell) → slice_get (lists ++ None ∷ []) co ≡ Some (Some own) → slice_get lists co ≡ Some (Some own)
without_last_list lists co own e = ⊎_elim (λ there. there) (λ last. absurd (let same : None ≡ Some own = last.1 in cc)) (get_either lists None co (Some own) e)

pub coroutine_last : (cells : List KeptCell) (lists : List (Option (List OpenCell))) → AreListed cells lists → AreListed cells (lists ++ None ∷ [])
coroutine_last cells lists a = record {
  listed = λ id co frame register own there is. a.listed id co frame register own (without_last_list lists co.0 own there) is;
  opened = λ id co frame register own there is. a.opened id co frame register own (without_last_list lists co.0 own there) is;
  held = λ id co frame register is. let h = a.held id co frame register is in (h.0, get_old lists (None ∷ []) co.0 (Some h.0) h.1);
  once = λ n own e. a.once n own (without_last_list lists n own e);
}

-- the world after a write

pub closed_written : (old new : Memory) (fuel n : ℕ) (v w : Kept) → slice_get old.cells.objects n ≡ Some (Closed w) → new ≡ record old { cells = new.cells } → new.cells.objects ≡ slice_set old.cells.objects n (Closed v)
    → Some (plain new fuel) ≡ with_value_in (plain old fuel) n (value old.strings v)
unfolding write_cell
closed_written old new fuel n v w e rest is =
    let V : World = plain old fuel in
    let objects : List KeptCell = old.cells.objects in
    ap (λ (W : Memory). Some (plain W fuel)) rest ∙ ap (λ cs. Some (record V { cells = map (cell old.strings) cs })) is
    ∙ ap (λ cs. Some (record V { cells = cs })) (map-set (cell old.strings) objects n (Closed v))
    ∙ sym (bind_at (λ (c : Cell). Some (write_cell V n c (value old.strings v))) _ _ (get_map (cell old.strings) objects n (Closed w) e))

pub open_written : (old new : Memory) (fuel n : ℕ) (co : CoroId) (frame register : ℕ) (c d : Coro) (v : Kept) → slice_get old.cells.objects n ≡ Some (Open co frame register)
    → slice_get old.coros.objects co.0 ≡ Some c → new ≡ record old { coros = new.coros } → new.coros.objects ≡ slice_set old.coros.objects co.0 d
    → coroutine old.strings d ≡ write_in_coroutine frame register (value old.strings v) (coroutine old.strings c)
    → Some (plain new fuel) ≡ with_value_in (plain old fuel) n (value old.strings v)
unfolding write_cell
open_written old new fuel n co frame register c d v e f rest is written =
    let V : World = plain old fuel in
    let coros : List Coro = old.coros.objects in
    let there : slice_get V.coroutines co.0 ≡ Some (coroutine old.strings c) = get_map (coroutine old.strings) coros co.0 c f in
    ap (λ (W : Memory). Some (plain W fuel)) rest ∙ ap (λ cs. Some (record V { coroutines = map (coroutine old.strings) cs })) is
    ∙ ap (λ cs. Some (record V { coroutines = cs })) (map-set (coroutine old.strings) coros co.0 d)
    ∙ ap (λ (k : Coroutine). Some (record V { coroutines = slice_set V.coroutines co.0 k })) written
    ∙ ap (λ (o : Option Coroutine). elim o [ None ↦ Some V | Some k ↦ Some (record V { coroutines = slice_set V.coroutines co.0 (write_in_coroutine frame register (value old.strings v) k) }) ]) (sym there)
    ∙ out_of (slice_get V.coroutines co.0) (λ k. record V { coroutines = slice_set V.coroutines co.0 (write_in_coroutine frame register (value old.strings v) k) }) V
    ∙ sym (bind_at (λ (c : Cell). Some (write_cell V n c (value old.strings v))) _ _ (get_map (cell old.strings) old.cells.objects n (Open co frame register) e))
  where
    out_of : {A B : Type 0} (o : Option A) (f : A → B) (b : B) → elim o [ None ↦ Some b | Some k ↦ Some (f k) ] ≡ Some (elim o [ None ↦ b | Some k ↦ f k ])
    out_of None f b = refl
    out_of (Some a) f b = refl

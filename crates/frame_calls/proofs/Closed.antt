-- From which register on nothing of the frame on top is open or still to be closed.
use Rattle.std.proofs.Common.{◌≡◌, ℕ, ◌+◌, List, [], ◌∷◌, ◌++◌, length, map, Option, Some, None, refl, ap, sym, subst, ◌∙◌, arith, length-append}
use Rattle.std.specs.Prelude.{IfNone, IfSome}
use Rattle.std.proofs.lemmas.List.{length-map}
use Rattle.lua_heap.specs.declared.world.Cell.{Cell}
use Rattle.lua_heap.specs.Reading.{value}
use Rattle.lua_heap.proofs.Closed.{below_at}
use Rattle.lua_stack.specs.declared.frame.OpenCell.{OpenCell}
use Rattle.machine_sound.proofs.Lists.{last_push, some_is}
use Rattle.lua_stack.specs.Frames.{AllBelow, KeptFrame, KeptStack, NoneFrom, OnTop, frame_of, frames, kept_closing, kept_handler, kept_lua, kept_pcall, kept_xpcall, top_number}
use Rattle.lua_stack.proofs.Ends.{map_more}
use Rattle.machine_core.specs.Text.{last_pending}
use Rattle.machine_core.specs.World.{Frame, LuaFrame, lua}
use Rattle.machine_loop.specs.Running.{ClosesNothing, Running}
use Rattle.machine_arms_tables.specs.Frame.{Code}
use Rattle.table_core.specs.Table.{Contents}
use Rattle.table_core.specs.declared.value.CellId.{CellId}
use Rattle.table_core.specs.declared.value.Value.{Value as Kept}
use Rattle.int_core.specs.Value.{Value, last}
use Rattle.frame_calls.specs.Standing.{IsClosedFrom, MayRun}

-- the number of the frame on top

pub frame_count : (f : Kept → Value) (s : KeptStack) (below : List Frame) (t : LuaFrame) → frames f s ≡ below ++ lua t ∷ [] → length s.frames ≡ length below + 1
frame_count f s below t e = sym (length-map s.frames (frame_of f)) ∙ ap length e ∙ length-append below (lua t ∷ [])

-- nothing was taken, and nothing is pending
pub closed_so : (s s' : KeptStack) (register : ℕ) (taken : Option OpenCell) (p : Option ℕ) → taken ≡ None → IfNone taken (NoneFrom s register) → IfNone taken (s' ≡ s) → p ≡ None → OnTop s' (λ f t. p ≡ last_pending register t.own.pending)
    → IsClosedFrom s' register
closed_so s s' register taken p e none kept f pending =
    let k : s' ≡ s = subst (λ o. IfNone o (s' ≡ s)) e kept in
    record { none = subst (λ s. NoneFrom s register) (sym k) (subst (λ o. IfNone o (NoneFrom s register)) e none); pending = λ v below t is. sym (pending v below t is) ∙ f }

-- what is pending in the frame on top, by any reading

abbrev kept_pending : KeptFrame → List ℕ
kept_pending (kept_lua t) = t.pending
kept_pending kept_pcall = []
kept_pending (kept_xpcall h) = []
kept_pending kept_handler = []
kept_pending (kept_closing error left) = []

abbrev frame_pending : Frame → List ℕ
frame_pending (lua t) = t.own.pending
frame_pending _ = []

one_pending : (f : Kept → Value) (k : KeptFrame) → frame_pending (frame_of f k) ≡ kept_pending k
one_pending f (kept_lua t) = refl
one_pending f _ = refl

all_pending : (f : Kept → Value) (ks : List KeptFrame) → map frame_pending (map (frame_of f) ks) ≡ map kept_pending ks
all_pending f [] = refl
all_pending f (k ∷ ks) = ap (λ q. q ∷ map frame_pending (map (frame_of f) ks)) (one_pending f k) ∙ ap (λ l. kept_pending k ∷ l) (all_pending f ks)

last_read : (f : Kept → Value) (s : KeptStack) (below : List Frame) (t : LuaFrame) → frames f s ≡ below ++ lua t ∷ [] → last (map kept_pending s.frames) ≡ Some t.own.pending
last_read f s below t e =
    ap last (sym (all_pending f s.frames) ∙ ap (map frame_pending) e ∙ map_more frame_pending below (lua t ∷ []))
    ∙ last_push (map frame_pending below) t.own.pending

-- a change of the frame on top that opens nothing and leaves what is pending
pub still_closed : (f : Kept → Value) (s u : KeptStack) (below : List Frame) (t v : LuaFrame) → frames f s ≡ below ++ lua t ∷ [] → frames f u ≡ below ++ lua v ∷ [] → v.own.pending ≡ t.own.pending → u.open_cells ≡ s.open_cells
    → (o : Option ℕ) → IfSome o (λ register. IsClosedFrom s register) → IfSome o (λ register. IsClosedFrom u register)
still_closed f s u below t v a b p l None h = h
still_closed f s u below t v a b p l (Some register) h = record {
  none =
      let n = frame_count f s below t a in
      let m = frame_count f u below v b in
      let same : top_number s ≡ top_number u = omega (arith, n, m) in
      record { below = subst (λ cs. AllBelow (top_number u) register cs) (sym l) (subst (λ n. AllBelow n register s.open_cells) same h.none.below) };
  pending = λ g under x e.
      ap (last_pending register) (some_is (last_read g u under x e) (last_read f u below v b) ∙ p)
      ∙ h.pending f below t a;
}

-- what the loop is told

pub closes_nothing : (g : Running) (k : Code) (s : KeptStack) (tables : List Contents) (cells : List Cell) (fuel : ℕ) (m : MayRun g k s tables cells fuel) (o : Option ℕ) → IfSome o (λ register. IsClosedFrom s register)
    → IfSome o (λ register. ClosesNothing g.around cells register)
closes_nothing g k s tables cells fuel m None h = h
closes_nothing g k s tables cells fuel m (Some register) h = record {
  below = λ id co at e own.
      let below = g.around.context.below in
      let n = frame_count (value g.around.texts) s below m.top m.is in
      let top : top_number s ≡ length below = omega (arith, n) in
      let cell : CellId = record { 0 = id } in
      below_at (length below) register at s.open_cells cell (subst (λ f. AllBelow f register s.open_cells) top h.none.below) (m.listed cell co (length below) at own e);
  pending = ap (last_pending register) (sym m.pending) ∙ h.pending (value g.around.texts) g.around.context.below m.top m.is;
}

-- Cells that are open alike are open at the same places; what follows where nothing is answered.
use Rattle.std.proofs.Common.{◌≡◌, ℕ, List, Option, Some, None, refl, ap, sym, ◌∙◌}
use Rattle.std.specs.Prelude.{IfNone, IfSome, length, slice_get}
use Rattle.lua_heap.specs.declared.world.Cell.{Cell}
use Rattle.lua_heap.specs.declared.world.Cell.TheVariants.{Closed, Open}
use Rattle.machine_arms_tables.specs.Frame.{AreOpenAlike, open_place}
use Rattle.machine_loop.specs.Running.{ClosesNothing}
use Rattle.machine_sound.proofs.Lists.{get_map, map_get, some_is}
use Rattle.machine_view.specs.View.{Around}
use Rattle.table_core.specs.declared.value.CoroId.{CoroId}

open_is : (c : Cell) (x : CoroId × ℕ × ℕ) → open_place c ≡ Some x → c ≡ Open x.0 x.1 x.2
open_is (Closed v) x e = absurd (cc)
open_is (Open co frame register) x e = ap (λ (x : CoroId × ℕ × ℕ). Open x.0 x.1 x.2) (some_is {o = Some (co, frame, register)} refl e)

pub still_open : (cells cells' : List Cell) → AreOpenAlike cells cells' → (n : ℕ) (co : CoroId) (frame register : ℕ) → slice_get cells n ≡ Some (Open co frame register) → slice_get cells' n ≡ Some (Open co frame register)
still_open cells cells' a n co frame register e =
    let x = map_get open_place cells' n (Some (co, frame, register)) (ap (λ l. slice_get l n) (sym a) ∙ get_map open_place cells n (Open co frame register) e) in
    x.1 ∙ ap (λ c. Some c) (open_is x.0 (co, frame, register) x.2)

pub closes_nothing_still : (g : Around) (cells cells' : List Cell) → AreOpenAlike cells cells' → (o : Option ℕ) → IfSome o (λ register. ClosesNothing g cells register) → IfSome o (λ register. ClosesNothing g cells' register)
closes_nothing_still g cells cells' a None h = h
closes_nothing_still g cells cells' a (Some register) h = record {
  below = λ id co at e k. h.below id co at (still_open cells' cells (sym a) id co (length g.context.below) at e) k;
  pending = h.pending;
}

-- where there is no value, what follows from that
pub none_then : {A : Type 0} {P Q : Type 0} (o : Option A) → (P → Q) → IfNone o P → IfNone o Q
none_then None f x = f x
none_then (Some a) f x = x

-- Worlds in memory that stay in order, and steps of rows.
use Rattle.std.proofs.Common.{◌≡◌, ℕ, zero, suc, List, [], ◌∷◌, Some, refl, ap, sym, subst, ◌∙◌}
use Rattle.std.specs.Prelude.{map, slice_get, slice_set}
use Rattle.int_core.specs.Value.{Value}
use Rattle.machine_core.specs.Moves.{Ending, spent, Row, ends}
use Rattle.machine_core.specs.World.{World}
use Rattle.machine_core.specs.MachineStep.{from_world}
use Rattle.machine_sound.proofs.Lists.{get_map}
use Rattle.table_core.specs.declared.value.CoroId.{CoroId}
use Rattle.lua_stack.specs.Frames.{KeptStack}
use Rattle.lua_heap.specs.declared.world.Coro.{Coro}
use Rattle.lua_heap.specs.declared.world.Coro.TheVariants.{Running}
use Rattle.lua_heap.specs.declared.world.World.{World as Memory}
use Rattle.lua_heap.specs.Cells.{AreListed, CellsAreListed, open_cells_in}
use Rattle.lua_heap.specs.Codes.{AreCodes}
use Rattle.lua_heap.specs.Plain.{plain}
use Rattle.move_laws.specs.Memory.{Runs, ChangesStack, Leads, Steps, InOrder}
use Rattle.move_laws.proofs.Running.{set_same, map_set}

-- a stack that lists the same cells is put in place of another
pub lists_same : (cs : List Coro) (n : ℕ) (s s' : KeptStack) → slice_get cs n ≡ Some (Running s) → s'.open_cells ≡ s.open_cells → map open_cells_in (slice_set cs n (Running s')) ≡ map open_cells_in cs
lists_same cs n s s' t e =
    map_set open_cells_in cs n (Running s')
    ∙ ap (λ own. slice_set (map open_cells_in cs) n (Some own)) e
    ∙ set_same (map open_cells_in cs) n (Some s.open_cells) (get_map open_cells_in cs n (Running s) t)

-- so stacks list what is open where the frame on top has changed
pub listed_after : (old new : Memory) (co : CoroId) (s s' : KeptStack) → Runs old co s → ChangesStack old new co s' → s'.open_cells ≡ s.open_cells → CellsAreListed old → CellsAreListed new
listed_after old new co s s' r c e l =
    let lists : map open_cells_in new.coros.objects ≡ map open_cells_in old.coros.objects = ap (map open_cells_in) c.objects ∙ lists_same old.coros.objects co.0 s s' r.there e in
    subst (λ cells. AreListed cells (map open_cells_in new.coros.objects)) (sym (ap (λ (W : Memory). W.cells.objects) c.rest))
    (subst (λ lists. AreListed old.cells.objects lists) (sym lists) l)

-- a world with the same strings and code, whose stacks list what is open, is in order
pub order_after : {old new : Memory} → InOrder old → new.strings ≡ old.strings → new.codes ≡ old.codes → CellsAreListed new → InOrder new
order_after {old} {new} o s c l = record {
  codes = subst (λ texts. AreCodes texts new.codes) (sym s) (subst (λ codes. AreCodes old.strings codes) (sym c) o.codes);
  listed = l;
}

abbrev pub is_spent : Ending → Type 0
is_spent spent = Unit {0}
is_spent _ = ⊥

pub ended_from : (W V : World) (e : Ending) → (is_spent e → ⊥) → from_world W (ends e V) ≡ ends e V
ended_from W V spent n = absurd (n tt)
ended_from W V _ n = refl

-- a row that costs nothing
pub steps_of : {row : Row} {env : List Value} {old new : Memory} {ending : Ending} (fuel : ℕ) → (is_spent ending → ⊥) → Leads row env old new ending → Steps row env old fuel new fuel ending
steps_of {row} {env} {old} {new} {ending} fuel n l = record { is = ap (from_world (plain old fuel)) (l.is fuel) ∙ ended_from (plain old fuel) (plain new fuel) ending n }

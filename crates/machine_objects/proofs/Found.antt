-- The cells of the function on top that are found in memory.
use Rattle.std.proofs.Common.{◌≡◌, ℕ, ◌-◌, length, Option, Some, None, refl, ap, sym, ◌∙◌}
use Rattle.std.specs.Prelude.{map}
use Rattle.machine_core.specs.World.{find_open}
use Rattle.machine_sound.proofs.Lists.{get_map, some_is}
use Rattle.table_core.specs.declared.value.CellId.{CellId}
use Rattle.table_core.specs.declared.value.CoroId.{CoroId}
use Rattle.lua_stack.specs.Frames.{KeptStack, cell_at, top_number}
use Rattle.lua_heap.specs.declared.world.Coro.TheVariants.{Running}
use Rattle.lua_heap.specs.declared.world.World.{World as Memory}
use Rattle.lua_heap.specs.Cells.{CellsAreListed, open_cells_in}
use Rattle.lua_heap.specs.Plain.{plain}
use Rattle.lua_heap.proofs.Captured.{none_found, old_found, search_is}
use Rattle.move_laws.specs.Memory.{Runs}
use Rattle.move_laws.proofs.Places.{place_is}
use Rattle.machine_objects.specs.Objects.{HasOpen}

pub record FoundAt (k : KeptStack) (register cell : ℕ) : Type 0 where
  pub id : CellId
  pub found : cell_at (top_number k) register k.open_cells ≡ Some id
  pub same : id.0 ≡ cell

pub open_found : (W : Memory) (co : CoroId) (k : KeptStack) (register : ℕ) → CellsAreListed W → Runs W co k → (h : HasOpen W register) → FoundAt k register h.cell
open_found W co k register listed r h = by (cell_at (top_number k) register k.open_cells) refl
  where
    there : find_open h.place.stack.coroutine (length h.place.stack.frames - 1) register (plain W 0).cells ≡ Some h.cell
    there = ap (λ n. find_open h.place.stack.coroutine n register (plain W 0).cells) (sym (place_is (plain W 0) h.place h.is).number) ∙ h.there

    by : (o : Option CellId) → cell_at (top_number k) register k.open_cells ≡ o → FoundAt k register h.cell
    by (Some id) q = record { id = id; found = q; same = some_is (old_found W co k r.chain r.there 0 h.place.stack (place_is (plain W 0) h.place h.is).stack listed register id q) there }
    by None q =
        absurd (
        let none : None ≡ Some h.cell =
        sym (search_is W co k r.chain r.there 0 h.place.stack (place_is (plain W 0) h.place h.is).stack (plain W 0) register
        ∙ none_found W.strings co (top_number k) register W.cells.objects (map open_cells_in W.coros.objects) k.open_cells listed (get_map open_cells_in W.coros.objects co.0 (Running k) r.there) q) ∙ there in
        cc)

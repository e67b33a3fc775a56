use Rattle.std.proofs.Common.{◌≡◌, Some, take}
use Rattle.std.specs.Prelude.{map}
use Rattle.machine_core.specs.World.{Place, place_of}
use Rattle.table_core.specs.declared.value.CellId.{CellId}
use Rattle.lua_heap.specs.Plain.{plain}
use Rattle.machine_objects.specs.Objects.{cells_for}
use Rattle.machine_objects.specs.Opening.{upvalues_at}
use Rattle.machine_objects.proofs.functions.captured_cells.Given as goal

abbrev pub invariant-loop-at : goal.invariant-loop-at
invariant-loop-at l = (place : Place) → place_of (plain l.world 0) ≡ Some place → cells_for l.world place (take l.at (upvalues_at l.world l.code)) ≡ Some (map (λ (c : CellId). c.0) l.cells.items)

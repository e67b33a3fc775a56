use Rattle.std.proofs.Common.{◌≡◌, length}
use Rattle.std.specs.Prelude.{map}
use Rattle.lua_heap.specs.Cells.{CellsAreListed}
use Rattle.machine_runs.specs.Opening.{numbers}
use Rattle.lua_session.specs.Beginning.{kept_cells}
use Rattle.lua_session.proofs.beginning.main_cells.Given as goal

abbrev pub invariant-cells : goal.invariant-cells
invariant-cells l = record {
  cells : l.world.cells.objects ≡ kept_cells l.initial.world.cells.objects l.initial.world.globals l.place;
  ids : map (λ id. id.0) l.ids.items ≡ numbers (length l.initial.world.cells.objects) l.place;
  listed : CellsAreListed l.world;
  rest : l.world ≡ record l.initial.world { cells = l.world.cells };
}

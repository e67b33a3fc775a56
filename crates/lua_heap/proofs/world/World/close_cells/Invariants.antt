use Rattle.std.proofs.Common.{◌≡◌, ℕ}
use Rattle.lua_heap.specs.Cells.{CellsAreListed}
use Rattle.lua_heap.specs.Closing.{ClosesSome, RunsAt, open_count}
use Rattle.lua_heap.specs.Plain.{plain}
use Rattle.lua_heap.proofs.world.World.close_cells.Given as goal

abbrev pub invariant-cells : goal.invariant-cells
invariant-cells l = record {
  listed : CellsAreListed l.self;
  there : RunsAt l.self l.co;
  closes : (fuel : ℕ) → ClosesSome l.co.0 l.register (plain l.fn.self fuel) (plain l.self fuel);
  rest : l.self ≡ record l.fn.self { cells = l.self.cells; coros = l.self.coros };
}

abbrev pub decreases-cells : goal.decreases-cells
decreases-cells l = open_count l.self l.co

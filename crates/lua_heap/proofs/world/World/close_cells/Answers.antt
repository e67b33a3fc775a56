use Rattle.std.proofs.Common.{ap, ◌∙◌}
use Rattle.lua_heap.specs.declared.world.World.{World as Memory}
use Rattle.lua_heap.specs.Plain.{plain}
use Rattle.lua_heap.proofs.Closed.{closes_all, closes_more}
use Rattle.lua_heap.proofs.world.World.close_cells.Goals as goal

pub cells-preserved : goal.cells-preserved
cells-preserved c = record {
  listed = c.close_last.ensures.listed;
  there = c.close_last.ensures.there;
  closes = λ fuel.
      closes_more c.args.co.0 c.args.register (plain c.args.self.now fuel) (plain c.cells.self fuel) (plain c.close_last.new.self fuel) (c.cells.invariant.closes fuel) (c.close_last.ensures.closes fuel);
  rest = c.close_last.ensures.rest ∙ ap (λ (W : Memory). record W { cells = c.close_last.new.self.cells; coros = c.close_last.new.self.coros }) c.cells.invariant.rest;
}

pub returns-clause-closed : goal.returns-clause-closed
returns-clause-closed c fuel =
    closes_all c.args.co.0 c.args.register (plain c.args.self.now fuel) (plain c.close_last.new.self fuel)
    (closes_more c.args.co.0 c.args.register (plain c.args.self.now fuel) (plain c.cells.self fuel) (plain c.close_last.new.self fuel) (c.cells.invariant.closes fuel) (c.close_last.ensures.closes fuel))
    (c.close_last.ensures.none c.cells-test.false fuel)

pub returns-clause-none : goal.returns-clause-none
returns-clause-none c stack there = c.close_last.ensures.gone c.cells-test.false stack there

use Rattle.std.proofs.Common.{arith}
use Rattle.lua_heap.specs.Places.{nth_place}
use Rattle.lua_heap.proofs.Placed.{found_line, later_line, other_line}
use Rattle.lua_heap.proofs.world.World.nth_position.Goals as goal

pub returns-then-left-eq0 : goal.returns-then-left-eq0
returns-then-left-eq0 c =
    found_line c.args.self.now c.args.stack.now.frames c.down.count c.down.left (nth_place c.args.self.now c.args.stack.now.frames c.args.level) c.place_at.result (omega (arith, c.down-test.true)) c.down.invariant.within
    c.place_at.ensures c.down.invariant.same (c.in-Some.found.source.now, c.in-Some.found.line) c.in-Some.ensures c.if-left-eq0.true

pub down-preserved-in-Some : goal.down-preserved-in-Some
down-preserved-in-Some c = record {
  same = later_line c.args.self.now c.args.stack.now.frames c.down.count c.down.left (nth_place c.args.self.now c.args.stack.now.frames c.args.level) c.place_at.result (omega (arith, c.down-test.true)) c.down.invariant.within
      c.place_at.ensures c.down.invariant.same (c.in-Some.found.source.now, c.in-Some.found.line) c.in-Some.ensures c.if-left-eq0.false;
  within = omega (arith, c.down.invariant.within, c.down-test.true);
}

pub down-preserved : goal.down-preserved
down-preserved c = record {
  same = other_line c.args.self.now c.args.stack.now.frames c.down.count c.down.left (nth_place c.args.self.now c.args.stack.now.frames c.args.level) c.place_at.result (omega (arith, c.down-test.true)) c.down.invariant.within
      c.place_at.ensures c.down.invariant.same c.in_default.ensures;
  within = omega (arith, c.down.invariant.within, c.down-test.true);
}

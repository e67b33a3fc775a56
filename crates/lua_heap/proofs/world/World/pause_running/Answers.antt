use Rattle.std.proofs.Common.{arith, sym}
use Rattle.lua_heap.specs.declared.world.World.{World as Memory}
use Rattle.lua_heap.proofs.Listed.{coroutine_listed}
use Rattle.lua_heap.proofs.Resumed.{pauses_is, runner_there, somebody_runs}
use Rattle.lua_heap.proofs.world.World.pause_running.Goals as goal

pub returns-then-co-len-clause-plain : goal.returns-then-co-len-clause-plain
returns-then-co-len-clause-plain c fuel s e =
    pauses_is c.args.self.now fuel s e c.in-Some.co (sym c.in-Some.ensures) c.get_mut.result.now c.set_aside.new.coro c.get_mut.ensures.value c.args.pause c.set_aside.ensures.waits

pub returns-then-co-len-clause-listed : goal.returns-then-co-len-clause-listed
returns-then-co-len-clause-listed c a =
    let W : Memory = c.args.self.now in
    coroutine_listed W.cells.objects W.coros.objects c.in-Some.co.0 c.get_mut.result.now c.set_aside.new.coro c.get_mut.ensures.value c.set_aside.ensures.cells a

pub returns-else-co-len-clause-plain : goal.returns-else-co-len-clause-plain
returns-else-co-len-clause-plain c fuel s e =
    absurd (runner_there c.args.self.now fuel s e c.in-Some.co (sym c.in-Some.ensures) (omega (arith, c.len.ensures, c.if-co-len.false)))

pub returns-in_default-clause-plain : goal.returns-in_default-clause-plain
returns-in_default-clause-plain c fuel s e = absurd (somebody_runs c.args.self.now fuel s e (sym c.in_default.ensures))

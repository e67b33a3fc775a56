use Rattle.std.proofs.Common.{refl}
use Rattle.std.specs.Prelude.{slice_set}
use Rattle.lua_heap.specs.declared.world.World.{World as Memory}
use Rattle.lua_heap.proofs.Resumed.{coroutine_woken, goes_into}
use Rattle.lua_heap.proofs.world.World.go_into.Goals as goal

pub returns-clause-plain : goal.returns-clause-plain
returns-clause-plain c fuel =
    let W : Memory = c.args.self.now in
    let new : Memory = record W { coros = record W.coros { objects = slice_set W.coros.objects c.args.co.0 c.wake.new.coro }; chain = c.push.new.self } in
    goes_into W new fuel c.args.co c.get_mut.result.now c.wake.new.coro refl c.in_ok-push.ensures.items c.get_mut.ensures.value (c.wake.ensures.runs W.strings) refl

pub returns-clause-listed : goal.returns-clause-listed
returns-clause-listed c a =
    coroutine_woken c.args.self.now.cells.objects c.args.self.now.coros.objects c.args.co.0 c.get_mut.result.now c.wake.new.coro c.get_mut.ensures.value c.wake.ensures.cells a

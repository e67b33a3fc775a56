use Rattle.std.proofs.Common.{refl}
use Rattle.std.specs.Prelude.{slice_set}
use Rattle.lua_heap.specs.declared.world.World.{World as Memory}
use Rattle.lua_heap.proofs.Resumed.{put_is}
use Rattle.lua_heap.proofs.world.World.put_coroutine.Goals as goal

pub returns-clause-plain : goal.returns-clause-plain
returns-clause-plain c fuel =
    let W : Memory = c.args.self.now in
    put_is W (record W { coros = record W.coros { objects = slice_set W.coros.objects c.args.co.0 c.args.coro } }) fuel c.args.co.0 c.args.coro refl refl

use Rattle.std.proofs.Common.{◌≡◌, ◌+◌, ◌<◌, Some, arith, rules}
use Rattle.std.specs.Prelude.{slice_get}
use Rattle.lua_heap.specs.declared.world.Cell.TheVariants.{Open}
use Rattle.running_frame.proofs.storing.open_below.Goals as goal

pub returns : goal.returns
returns c =
    let id = c.in_ok-id.id in
    let own : c.in-Open.coro.0 ≡ c.args.co.0 = search rules in
    let named : slice_get c.args.upvalues.now c.args.upvalue ≡ Some id = search rules in
    let holds : slice_get c.args.cells.now.objects id.0 ≡ Some (Open c.in-Open.coro c.in-Open.frame c.in-Open.register) = search rules in
    let deep : c.in-Open.frame + 1 < c.args.depth = search (rules, arith) in
    record { named = named; coroutine = c.in-Open.coro; own = own; holds = holds; deep = deep }

use Rattle.std.proofs.Common.{◌≡◌, Some, rules}
use Rattle.std.specs.Prelude.{slice_get}
use Rattle.lua_heap.specs.declared.world.Cell.TheVariants.{Open}
use Rattle.running_frame.proofs.upvalues.open_value.Goals as goal

pub register_at-requires : goal.register_at-requires
register_at-requires c =
    let id = c.in_ok-id.id in
    let own : c.in-Open.coro.0 ≡ c.args.co.0 = search rules in
    let holds : slice_get c.args.cells.now.objects id.0 ≡ Some (Open c.in-Open.coro c.in-Open.frame c.in-Open.register) = search rules in
    record { cell = id; is = c.requires.listed id c.in-Open.coro c.in-Open.frame c.in-Open.register own holds }

pub returns-else-coro-co : goal.returns-else-coro-co
returns-else-coro-co c =
    let id = c.in_ok-id.id in
    let own : c.in-Open.coro.0 ≡ c.args.co.0 = search rules in
    let named : slice_get c.args.upvalues.now c.args.upvalue ≡ Some id = search rules in
    let holds : slice_get c.args.cells.now.objects id.0 ≡ Some (Open c.in-Open.coro c.in-Open.frame c.in-Open.register) = search rules in
    record { id = id; named = named; coroutine = c.in-Open.coro; frame = c.in-Open.frame; register = c.in-Open.register; own = own; holds = holds; has = c.register_at.ensures }

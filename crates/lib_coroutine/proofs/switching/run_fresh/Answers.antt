use Rattle.std.proofs.Common.{ap, subst}
use Rattle.machine_sound.proofs.Lists.{get_within}
use Rattle.lua_stack.specs.Frames.{frames}
use Rattle.lua_heap.specs.declared.world.Coro.TheVariants.{Fresh}
use Rattle.lua_heap.specs.declared.world.World.{World as Memory}
use Rattle.lua_heap.specs.Reading.{value}
use Rattle.lib_coroutine.specs.Resuming.{GoesInto}
use Rattle.lib_coroutine.proofs.Switched.{begun_goes, begun_listed, put_runs, suspended_there}
use Rattle.lib_coroutine.proofs.switching.run_fresh.Goals as goal

pub put_coroutine-requires : goal.put_coroutine-requires
put_coroutine-requires c = get_within c.args.world.now.coros.objects c.args.co.0 (Fresh c.requires.fresh.body) c.requires.fresh.there

pub run_suspended-requires-clause-running : goal.run_suspended-requires-clause-running
run_suspended-requires-clause-running c =
    put_runs c.args.world.now c.put_coroutine.new.self c.args.co c.args.stack c.requires.fresh c.put_coroutine.ensures.coros c.put_coroutine.ensures.plain c.requires.running

pub run_suspended-requires-clause-suspended : goal.run_suspended-requires-clause-suspended
run_suspended-requires-clause-suspended c =
    record { stack = c.args.stack; there = suspended_there c.args.world.now c.put_coroutine.new.self c.args.co c.args.stack c.requires.fresh c.put_coroutine.ensures.coros }

pub returns-clause-goes : goal.returns-clause-goes
returns-clause-goes c =
    let W = c.args.world.now in
    let M = c.put_coroutine.new.self in
    let there = suspended_there W M c.args.co c.args.stack c.requires.fresh c.put_coroutine.ensures.coros in
    begun_goes W M c.args.co c.args.stack c.requires.fresh c.put_coroutine.ensures.coros c.put_coroutine.ensures.plain
    (subst (λ texts. GoesInto M c.run_suspended.new.world c.args.co.0 (frames (value texts) c.args.stack)) (ap (λ (M : Memory). M.strings) c.put_coroutine.ensures.rest) (c.run_suspended.ensures.goes c.args.stack there))

pub returns-clause-listed : goal.returns-clause-listed
returns-clause-listed c = λ a.
    c.run_suspended.ensures.listed
    (begun_listed c.args.world.now c.put_coroutine.new.self c.args.co c.args.stack c.requires.fresh c.put_coroutine.ensures.coros c.requires.closed (ap (λ (M : Memory). M.cells.objects) c.put_coroutine.ensures.rest) a)

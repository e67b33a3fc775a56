use Rattle.std.proofs.Common.{rules, ◌≡◌, [], ◌∷◌, ◌++◌, refl}
use Rattle.std.specs.Prelude.{slice_set}
use Rattle.lua_heap.specs.declared.world.World.{World as Memory}
use Rattle.lib_coroutine.proofs.Switched.{goes, now_runs, still_within}
use Rattle.lib_coroutine.proofs.switching.run_suspended.Goals as goal
use Rattle.lua_heap.proofs.Listed.{coroutine_listed}

pub get_mut-requires : goal.get_mut-requires
get_mut-requires c = still_within c.args.world.now c.wait_for_another.new.self c.args.co c.requires.suspended.stack c.requires.suspended.there c.wait_for_another.ensures.plain c.requires.running

pub returns-clause-goes : goal.returns-clause-goes
returns-clause-goes c = λ stack there.
    let M : Memory = c.wait_for_another.new.self in
    let new : Memory = record M { coros = record M.coros { objects = slice_set M.coros.objects c.args.co.0 c.wake.new.coro }; chain = c.push_reserved.new.self } in
    let chain : new.chain.items ≡ M.chain.items ++ c.args.co ∷ [] = search rules in
    goes c.args.world.now M c.args.co stack there c.wait_for_another.ensures.plain new c.get_mut.result.now c.wake.new.coro c.get_mut.ensures.value c.wake.ensures.runs refl chain refl

pub returns-clause-running : goal.returns-clause-running
returns-clause-running c =
    let W : Memory = c.args.world.now in
    let M : Memory = c.wait_for_another.new.self in
    let new : Memory = record M { coros = record M.coros { objects = slice_set M.coros.objects c.args.co.0 c.wake.new.coro }; chain = c.push_reserved.new.self } in
    let chain : new.chain.items ≡ M.chain.items ++ c.args.co ∷ [] = search rules in
    let s = c.requires.suspended in
    now_runs W new c.args.co s.stack s.there c.requires.running
    (goes W M c.args.co s.stack s.there c.wait_for_another.ensures.plain new c.get_mut.result.now c.wake.new.coro c.get_mut.ensures.value c.wake.ensures.runs refl chain refl)

pub returns-clause-listed : goal.returns-clause-listed
returns-clause-listed c = λ a.
    let M : Memory = c.wait_for_another.new.self in
    coroutine_listed M.cells.objects M.coros.objects c.args.co.0 c.get_mut.result.now c.wake.new.coro c.get_mut.ensures.value c.wake.ensures.cells (c.wait_for_another.ensures.listed a)

use Rattle.std.proofs.Common.{refl, ap, ◌∙◌}
use Rattle.machine_core.specs.Moves.{bury, put_coroutine}
use Rattle.lua_heap.specs.declared.world.Coro.{Coro}
use Rattle.lua_heap.specs.Plain.{coroutine, plain}
use Rattle.machine_coroutines.proofs.Buried.{bare_frames, bare_listed, bare_put, stack_put, stack_buried, stack_listed, stack_once, stack_within, taken}
use Rattle.machine_coroutines.proofs.burying.bury.Goals as goal

-- a stack's cells are closed

pub close_all-requires : goal.close_all-requires
close_all-requires c =
    let k = taken c.args.world.now c.args.co c.requires.listed c.get_mut.ensures.value c.replace.ensures.value c.in-Suspended.is c.replace.ensures.after c.requires.bare in
    record { within = stack_within k c.in-Suspended.stack (refl, refl); once = stack_once k c.in-Suspended.stack (refl, refl) }

pub close_all-requires-in-Running : goal.close_all-requires-in-Running
close_all-requires-in-Running c =
    let k = taken c.args.world.now c.args.co c.requires.listed c.get_mut.ensures.value c.replace.ensures.value c.in-Running.is c.replace.ensures.after c.requires.bare in
    record { within = stack_within k c.in-Running.stack (refl, refl); once = stack_once k c.in-Running.stack (refl, refl) }

pub close_all-requires-in-Normal : goal.close_all-requires-in-Normal
close_all-requires-in-Normal c =
    let k = taken c.args.world.now c.args.co c.requires.listed c.get_mut.ensures.value c.replace.ensures.value c.in-Normal.is c.replace.ensures.after c.requires.bare in
    record { within = stack_within k c.in-Normal.stack (refl, refl); once = stack_once k c.in-Normal.stack (refl, refl) }

pub returns-in-Suspended-clause-plain : goal.returns-in-Suspended-clause-plain
returns-in-Suspended-clause-plain c = λ fuel fs e.
    let k = taken c.args.world.now c.args.co c.requires.listed c.get_mut.ensures.value c.replace.ensures.value c.in-Suspended.is c.replace.ensures.after c.requires.bare in
    stack_buried k c.in-Suspended.stack (refl, refl) c.close_all.new.cells.objects c.close_all.ensures c.close_all.new.cells.spare c.args.world.now.coros.spare fuel fs e
    ∙ ap (λ (d : Coro). bury (plain c.args.world.now fuel) c.args.co.0 fs (coroutine c.args.world.now.strings d)) c.replace.ensures.after

pub returns-in-Running-clause-plain : goal.returns-in-Running-clause-plain
returns-in-Running-clause-plain c = λ fuel fs e.
    let k = taken c.args.world.now c.args.co c.requires.listed c.get_mut.ensures.value c.replace.ensures.value c.in-Running.is c.replace.ensures.after c.requires.bare in
    stack_buried k c.in-Running.stack (refl, refl) c.close_all-in-Running.new.cells.objects c.close_all-in-Running.ensures c.close_all-in-Running.new.cells.spare c.args.world.now.coros.spare fuel fs e
    ∙ ap (λ (d : Coro). bury (plain c.args.world.now fuel) c.args.co.0 fs (coroutine c.args.world.now.strings d)) c.replace.ensures.after

pub returns-in-Normal-clause-plain : goal.returns-in-Normal-clause-plain
returns-in-Normal-clause-plain c = λ fuel fs e.
    let k = taken c.args.world.now c.args.co c.requires.listed c.get_mut.ensures.value c.replace.ensures.value c.in-Normal.is c.replace.ensures.after c.requires.bare in
    stack_buried k c.in-Normal.stack (refl, refl) c.close_all-in-Normal.new.cells.objects c.close_all-in-Normal.ensures c.close_all-in-Normal.new.cells.spare c.args.world.now.coros.spare fuel fs e
    ∙ ap (λ (d : Coro). bury (plain c.args.world.now fuel) c.args.co.0 fs (coroutine c.args.world.now.strings d)) c.replace.ensures.after

pub returns-in-Suspended-clause-listed : goal.returns-in-Suspended-clause-listed
returns-in-Suspended-clause-listed c = stack_listed (taken c.args.world.now c.args.co c.requires.listed c.get_mut.ensures.value c.replace.ensures.value c.in-Suspended.is c.replace.ensures.after c.requires.bare) c.in-Suspended.stack (refl, refl) c.close_all.new.cells.objects c.close_all.ensures

pub returns-in-Running-clause-listed : goal.returns-in-Running-clause-listed
returns-in-Running-clause-listed c = stack_listed (taken c.args.world.now c.args.co c.requires.listed c.get_mut.ensures.value c.replace.ensures.value c.in-Running.is c.replace.ensures.after c.requires.bare) c.in-Running.stack (refl, refl) c.close_all-in-Running.new.cells.objects c.close_all-in-Running.ensures

pub returns-in-Normal-clause-listed : goal.returns-in-Normal-clause-listed
returns-in-Normal-clause-listed c = stack_listed (taken c.args.world.now c.args.co c.requires.listed c.get_mut.ensures.value c.replace.ensures.value c.in-Normal.is c.replace.ensures.after c.requires.bare) c.in-Normal.stack (refl, refl) c.close_all-in-Normal.new.cells.objects c.close_all-in-Normal.ensures

pub returns-in-Suspended-clause-put : goal.returns-in-Suspended-clause-put
returns-in-Suspended-clause-put c = λ fuel e. absurd (stack_put (taken c.args.world.now c.args.co c.requires.listed c.get_mut.ensures.value c.replace.ensures.value c.in-Suspended.is c.replace.ensures.after c.requires.bare) c.in-Suspended.stack (refl, refl) fuel e)

pub returns-in-Running-clause-put : goal.returns-in-Running-clause-put
returns-in-Running-clause-put c = λ fuel e. absurd (stack_put (taken c.args.world.now c.args.co c.requires.listed c.get_mut.ensures.value c.replace.ensures.value c.in-Running.is c.replace.ensures.after c.requires.bare) c.in-Running.stack (refl, refl) fuel e)

pub returns-in-Normal-clause-put : goal.returns-in-Normal-clause-put
returns-in-Normal-clause-put c = λ fuel e. absurd (stack_put (taken c.args.world.now c.args.co c.requires.listed c.get_mut.ensures.value c.replace.ensures.value c.in-Normal.is c.replace.ensures.after c.requires.bare) c.in-Normal.stack (refl, refl) fuel e)

-- one without a stack has none

pub returns-in-Dead-clause-plain : goal.returns-in-Dead-clause-plain
returns-in-Dead-clause-plain c = λ fuel fs e. absurd (bare_frames (taken c.args.world.now c.args.co c.requires.listed c.get_mut.ensures.value c.replace.ensures.value c.in-Dead.is c.replace.ensures.after c.requires.bare) fuel refl e)

pub returns-clause-plain : goal.returns-clause-plain
returns-clause-plain c = λ fuel fs e. absurd (bare_frames (taken c.args.world.now c.args.co c.requires.listed c.get_mut.ensures.value c.replace.ensures.value c.in-Failed.is c.replace.ensures.after c.requires.bare) fuel refl e)

pub returns-in-Fresh-clause-listed : goal.returns-in-Fresh-clause-listed
returns-in-Fresh-clause-listed c = bare_listed (taken c.args.world.now c.args.co c.requires.listed c.get_mut.ensures.value c.replace.ensures.value c.in-Fresh.is c.replace.ensures.after c.requires.bare) refl

pub returns-in-Dead-clause-listed : goal.returns-in-Dead-clause-listed
returns-in-Dead-clause-listed c = bare_listed (taken c.args.world.now c.args.co c.requires.listed c.get_mut.ensures.value c.replace.ensures.value c.in-Dead.is c.replace.ensures.after c.requires.bare) refl

pub returns-clause-listed : goal.returns-clause-listed
returns-clause-listed c = bare_listed (taken c.args.world.now c.args.co c.requires.listed c.get_mut.ensures.value c.replace.ensures.value c.in-Failed.is c.replace.ensures.after c.requires.bare) refl

pub returns-in-Fresh-clause-put : goal.returns-in-Fresh-clause-put
returns-in-Fresh-clause-put c = λ fuel e.
    bare_put (taken c.args.world.now c.args.co c.requires.listed c.get_mut.ensures.value c.replace.ensures.value c.in-Fresh.is c.replace.ensures.after c.requires.bare) c.args.world.now.coros.spare fuel
    ∙ ap (λ (d : Coro). put_coroutine (plain c.args.world.now fuel) c.args.co.0 (coroutine c.args.world.now.strings d)) c.replace.ensures.after

pub returns-in-Dead-clause-put : goal.returns-in-Dead-clause-put
returns-in-Dead-clause-put c = λ fuel e.
    bare_put (taken c.args.world.now c.args.co c.requires.listed c.get_mut.ensures.value c.replace.ensures.value c.in-Dead.is c.replace.ensures.after c.requires.bare) c.args.world.now.coros.spare fuel
    ∙ ap (λ (d : Coro). put_coroutine (plain c.args.world.now fuel) c.args.co.0 (coroutine c.args.world.now.strings d)) c.replace.ensures.after

pub returns-clause-put : goal.returns-clause-put
returns-clause-put c = λ fuel e.
    bare_put (taken c.args.world.now c.args.co c.requires.listed c.get_mut.ensures.value c.replace.ensures.value c.in-Failed.is c.replace.ensures.after c.requires.bare) c.args.world.now.coros.spare fuel
    ∙ ap (λ (d : Coro). put_coroutine (plain c.args.world.now fuel) c.args.co.0 (coroutine c.args.world.now.strings d)) c.replace.ensures.after

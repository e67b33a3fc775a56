use Rattle.std.proofs.Common.{ap, ◌∙◌}
use Rattle.int_core.specs.Value.{bind}
use Rattle.machine_core.specs.World.{frames_of}
use Rattle.lua_stack.specs.Frames.{register_in}
use Rattle.lua_heap.specs.declared.world.Coro.{Coro}
use Rattle.lua_heap.specs.Reading.{value}
use Rattle.lua_heap.specs.Plain.{coroutine}
use Rattle.lua_heap.proofs.cells.register_at.Goals as goal

pub returns-in-Suspended : goal.returns-in-Suspended
returns-in-Suspended c texts =
    ap (λ (k : Coro). bind (frames_of (coroutine texts k)) (register_in c.args.frame c.args.register)) c.in-Suspended.is ∙ c.register_at.ensures.reads (value texts)

pub returns-in-Running : goal.returns-in-Running
returns-in-Running c texts =
    ap (λ (k : Coro). bind (frames_of (coroutine texts k)) (register_in c.args.frame c.args.register)) c.in-Running.is ∙ c.register_at-in-Running.ensures.reads (value texts)

pub returns-in-Normal : goal.returns-in-Normal
returns-in-Normal c texts =
    ap (λ (k : Coro). bind (frames_of (coroutine texts k)) (register_in c.args.frame c.args.register)) c.in-Normal.is ∙ c.register_at-in-Normal.ensures.reads (value texts)

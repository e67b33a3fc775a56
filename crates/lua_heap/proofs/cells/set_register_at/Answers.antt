use Rattle.std.proofs.Common.{refl, ap, sym, subst, ◌∙◌}
use Rattle.std.specs.Prelude.{IsSome}
use Rattle.int_core.specs.Value.{bind}
use Rattle.machine_core.specs.World.{suspended, in_progress, normal, frames_of, write_in_coroutine}
use Rattle.lua_stack.specs.Frames.{register_in}
use Rattle.lua_heap.specs.declared.world.Coro.{Coro}
use Rattle.lua_heap.specs.Reading.{value}
use Rattle.lua_heap.specs.Plain.{coroutine}
use Rattle.lua_heap.proofs.Listed.{stack_written}
use Rattle.lua_heap.proofs.cells.set_register_at.Goals as goal

pub returns-in-Suspended-clause-written : goal.returns-in-Suspended-clause-written
returns-in-Suspended-clause-written c texts h =
    stack_written texts c.in-Suspended.stack c.set_register_at.new.self c.args.frame c.args.register c.args.given c.set_register_at.ensures
    (subst (λ (k : Coro). IsSome (bind (frames_of (coroutine texts k)) (register_in c.args.frame c.args.register))) c.in-Suspended.is h) suspended refl (λ gs. refl)
    ∙ ap (λ (k : Coro). write_in_coroutine c.args.frame c.args.register (value texts c.args.given) (coroutine texts k)) (sym c.in-Suspended.is)

pub returns-in-Running-clause-written : goal.returns-in-Running-clause-written
returns-in-Running-clause-written c texts h =
    stack_written texts c.in-Running.stack c.set_register_at-in-Running.new.self c.args.frame c.args.register c.args.given c.set_register_at-in-Running.ensures
    (subst (λ (k : Coro). IsSome (bind (frames_of (coroutine texts k)) (register_in c.args.frame c.args.register))) c.in-Running.is h) in_progress refl (λ gs. refl)
    ∙ ap (λ (k : Coro). write_in_coroutine c.args.frame c.args.register (value texts c.args.given) (coroutine texts k)) (sym c.in-Running.is)

pub returns-in-Normal-clause-written : goal.returns-in-Normal-clause-written
returns-in-Normal-clause-written c texts h =
    stack_written texts c.in-Normal.stack c.set_register_at-in-Normal.new.self c.args.frame c.args.register c.args.given c.set_register_at-in-Normal.ensures
    (subst (λ (k : Coro). IsSome (bind (frames_of (coroutine texts k)) (register_in c.args.frame c.args.register))) c.in-Normal.is h) normal refl (λ gs. refl)
    ∙ ap (λ (k : Coro). write_in_coroutine c.args.frame c.args.register (value texts c.args.given) (coroutine texts k)) (sym c.in-Normal.is)

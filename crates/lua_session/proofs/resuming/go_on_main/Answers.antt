use Rattle.std.proofs.Common.{◌<◌, [], length, ap, subst, sym, refl}
use Rattle.machine_core.specs.World.{suspended}
use Rattle.machine_sound.proofs.Lists.{get_map, get_within}
use Rattle.lua_stack.specs.Frames.{frames}
use Rattle.lua_heap.specs.Plain.{coroutine}
use Rattle.lua_heap.specs.Reading.{value}
use Rattle.lua_heap.specs.declared.world.Coro.TheVariants.{Suspended}
use Rattle.lua_heap.specs.declared.world.World.{World as Memory}
use Rattle.lua_session.proofs.Waking.{has_stack, taken_rest, taken_world, went_on}
use Rattle.lua_session.proofs.resuming.go_on_main.Goals as goal

pub go_into-requires : goal.go_into-requires
go_into-requires c =
    subst (λ n. c.args.main.0 < n) (sym (ap (λ (W : Memory). length W.coros.objects) c.take_moving-arguments.ensures.rest)) (get_within c.args.world.now.coros.objects c.args.main.0 (Suspended c.requires.yielded.stack) c.requires.yielded.there)

pub hand_over-requires : goal.hand_over-requires
hand_over-requires c =
    let W = c.args.world.now in
    let s = c.requires.yielded.stack in
    let h = has_stack W c.take_moving-arguments.new.world c.go_into.new.self c.args.main (suspended (frames (value W.strings) s)) (get_map (coroutine W.strings) W.coros.objects c.args.main.0 (Suspended s) c.requires.yielded.there) (taken_world W c.take_moving-arguments.new.world (c.take_moving-arguments.ensures.makes [])) c.in_ok-go_into.ensures.plain in
    record { stack = h.stack; is = h.is }

pub returns-clause-resumes : goal.returns-clause-resumes
returns-clause-resumes c =
    let W = c.args.world.now in
    let r = taken_rest W c.take_moving-arguments.new.world c.go_into.new.self c.take_moving-arguments.ensures.rest c.go_into.ensures.rest in
    went_on W c.take_moving-arguments.new.world c.go_into.new.self _ c.args.main c.requires.yielded.stack c.take_moving-arguments.result.items _ c.requires.main c.requires.yielded.there (taken_world W c.take_moving-arguments.new.world (c.take_moving-arguments.ensures.makes [])) c.in_ok-go_into.ensures.plain
    (ap (λ (W : Memory). W.strings) r) c.take_moving-arguments.ensures.values (λ fuel. refl) (c.hand_over.ensures [])

use Rattle.std.proofs.Common.{◌<◌, [], length, ap, subst, sym, refl}
use Rattle.machine_core.specs.World.{fresh}
use Rattle.machine_core.specs.Moves.{is_entered, is_primitive, calls_primitive}
use Rattle.machine_sound.proofs.Lists.{get_map, get_within}
use Rattle.machine_calls.specs.Calling.{told_of}
use Rattle.lua_heap.specs.Plain.{coroutine}
use Rattle.lua_heap.specs.Reading.{value}
use Rattle.lua_heap.specs.declared.world.Coro.TheVariants.{Fresh}
use Rattle.lua_heap.specs.declared.world.World.{World as Memory}
use Rattle.lua_session.proofs.Waking.{begun_main, can_enter, has_stack, no_other_call, stack_there, taken_rest, taken_world}
use Rattle.lua_session.proofs.resuming.begin_main.Goals as goal

pub go_into-requires : goal.go_into-requires
go_into-requires c =
    subst (λ n. c.args.main.0 < n) (sym (ap (λ (W : Memory). length W.coros.objects) c.take_moving-arguments.ensures.rest)) (get_within c.args.world.now.coros.objects c.args.main.0 (Fresh c.args.body) c.requires.fresh)

pub enter_callee-requires-clause-running : goal.enter_callee-requires-clause-running
enter_callee-requires-clause-running c =
    let W = c.args.world.now in
    has_stack W c.take_moving-arguments.new.world c.go_into.new.self c.args.main (fresh (value W.strings c.args.body)) (get_map (coroutine W.strings) W.coros.objects c.args.main.0 (Fresh c.args.body) c.requires.fresh) (taken_world W c.take_moving-arguments.new.world (c.take_moving-arguments.ensures.makes [])) c.in_ok-go_into.ensures.plain

pub enter_callee-requires-clause-function : goal.enter_callee-requires-clause-function
enter_callee-requires-clause-function c =
    can_enter c.args.world.now c.go_into.new.self c.args.main c.args.body c.requires.sound (taken_rest c.args.world.now c.take_moving-arguments.new.world c.go_into.new.self c.take_moving-arguments.ensures.rest c.go_into.ensures.rest) c.requires.fresh

pub unreachable-requires : goal.unreachable-requires
unreachable-requires c =
    let W = c.args.world.now in
    let r = taken_rest W c.take_moving-arguments.new.world c.go_into.new.self c.take_moving-arguments.ensures.rest c.go_into.ensures.rest in
    let there = get_map (coroutine W.strings) W.coros.objects c.args.main.0 (Fresh c.args.body) c.requires.fresh in
    no_other_call c.go_into.new.self c.enter_callee.new.world c.args.main c.args.body _ c.in_ok-called.called
    (stack_there W c.take_moving-arguments.new.world c.go_into.new.self c.args.main (fresh (value W.strings c.args.body)) there (taken_world W c.take_moving-arguments.new.world (c.take_moving-arguments.ensures.makes [])) c.in_ok-go_into.ensures.plain)
    (can_enter W c.go_into.new.self c.args.main c.args.body c.requires.sound r c.requires.fresh) c.in_ok-called.ensures.enters c.in_default.not-Function c.in_default.not-Primitive

pub returns-in-Function-clause-resumes : goal.returns-in-Function-clause-resumes
returns-in-Function-clause-resumes c =
    let W = c.args.world.now in
    let r = taken_rest W c.take_moving-arguments.new.world c.go_into.new.self c.take_moving-arguments.ensures.rest c.go_into.ensures.rest in
    begun_main W c.take_moving-arguments.new.world c.go_into.new.self c.enter_callee.new.world c.args.main c.args.body c.in_ok-called.called is_entered c.take_moving-arguments.result.items _ c.requires.main c.requires.fresh
    (taken_world W c.take_moving-arguments.new.world (c.take_moving-arguments.ensures.makes [])) c.in_ok-go_into.ensures.plain (ap (λ (W : Memory). W.strings) r) c.take_moving-arguments.ensures.values
    c.in_ok-called.ensures.enters (ap (told_of c.go_into.new.self.strings) c.in-Function.is) (c.hand_over.ensures [])

pub returns-in-Primitive-clause-resumes : goal.returns-in-Primitive-clause-resumes
returns-in-Primitive-clause-resumes c =
    let W = c.args.world.now in
    let r = taken_rest W c.take_moving-arguments.new.world c.go_into.new.self c.take_moving-arguments.ensures.rest c.go_into.ensures.rest in
    begun_main W c.take_moving-arguments.new.world c.go_into.new.self c.enter_callee.new.world c.args.main c.args.body c.in_ok-called.called (is_primitive c.in-Primitive.number) c.take_moving-arguments.result.items
    (calls_primitive c.in-Primitive.number) c.requires.main c.requires.fresh
    (taken_world W c.take_moving-arguments.new.world (c.take_moving-arguments.ensures.makes [])) c.in_ok-go_into.ensures.plain (ap (λ (W : Memory). W.strings) r) c.take_moving-arguments.ensures.values
    c.in_ok-called.ensures.enters (ap (told_of c.go_into.new.self.strings) c.in-Primitive.is) (record { is = λ fuel. refl })

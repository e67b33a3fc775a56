use Rattle.loaded_code.specs.Laws.{library}
use Rattle.machine_core.specs.Moves.{calls_primitive}
use Rattle.machine_library_calls.proofs.Calling.{ends_so, later_comes, later_order}
use Rattle.machine_library_calls.proofs.primitives.call_for.Goals as goal

pub call_now-requires : goal.call_now-requires
call_now-requires g c = (c.requires.0, (c.requires.1, c.in-Some.ensures))

pub returns-in-None-clause-comes : goal.returns-in-None-clause-comes
returns-in-None-clause-comes g c =
    let V = c.call_later.new.world in
    let called = c.args.called.now in
    ends_so g.begun V called.arguments (calls_primitive called.number) c.call_later.result c.call_later.ensures.later
    (λ items builds. later_comes c.requires.0 V c.call_later.ensures.rest items (library builds))

pub returns-in-None-clause-order : goal.returns-in-None-clause-order
returns-in-None-clause-order g c = later_order c.requires.0 c.call_later.new.world c.call_later.ensures.rest

pub returns-in-Some-clause-comes : goal.returns-in-Some-clause-comes
returns-in-Some-clause-comes g c = c.call_now.ensures.comes

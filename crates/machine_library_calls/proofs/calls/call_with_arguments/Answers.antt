use Rattle.std.proofs.Common.{length, arith}
use Rattle.library_rows.specs.Library.{all_entries}
use Rattle.machine_core.specs.Moves.{go}
use Rattle.step_laws.proofs.Ready.{ready_is_sound}
use Rattle.machine_step.proofs.ByForm.{keeps, safe, small}
use Rattle.machine_library_calls.proofs.Calling.{called_so, caller_takes, comes_since}
use Rattle.machine_library_calls.proofs.calls.call_with_arguments.Goals as goal

pub call_primitive-requires : goal.call_primitive-requires
call_primitive-requires g c =
    let a = c.requires.1 in
    let s = ready_is_sound (length all_entries) go c.args.world.now a.ready in
    let l = (small a.runs).0 in
    record { sound = s; keeps = keeps a.runs; near = omega (arith, l); safe = λ p pc. safe a.runs s }

pub call_for-requires : goal.call_for-requires
call_for-requires g c =
    let W = c.args.world.now in
    let a = c.requires.1 in
    let fuel = c.args.budget.now in
    let calls = c.in-Some.ensures.calls in (
      called_so W fuel c.call_primitive.new.world c.args.here c.args.at _ _ a calls g.begun c.requires.0 c.call_primitive.ensures.rest c.call_primitive.ensures.order,
      caller_takes W fuel c.call_primitive.new.world c.args.here c.args.at _ _ a calls,
    )

pub returns-in-None-clause-kept : goal.returns-in-None-clause-kept
returns-in-None-clause-kept g c = c.in-None.ensures.kept

pub returns-in_ok-ending-in-Some-clause-comes : goal.returns-in_ok-ending-in-Some-clause-comes
returns-in_ok-ending-in-Some-clause-comes g c = comes_since c.requires.0 c.in-Some.ensures.paid c.in_ok-ending-in-Some.ensures.comes

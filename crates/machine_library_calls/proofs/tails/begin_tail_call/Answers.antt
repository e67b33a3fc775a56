use Rattle.std.proofs.Common.{length, arith}
use Rattle.library_rows.specs.Library.{all_entries}
use Rattle.machine_core.specs.Moves.{go}
use Rattle.step_laws.proofs.Ready.{ready_is_sound}
use Rattle.machine_step.proofs.ByForm.{safe, small}
use Rattle.machine_library_calls.proofs.Calling.{comes_since, tail_called_so}
use Rattle.machine_library_calls.proofs.tails.begin_tail_call.Goals as goal

pub tail_call_primitive-requires : goal.tail_call_primitive-requires
tail_call_primitive-requires g c =
    let a = c.requires.1 in
    let s = ready_is_sound (length all_entries) go c.args.world.now a.ready in
    let l = (small a.tail.runs).0 in
    record { sound = s; near = omega (arith, l); safe = λ p pc. safe a.tail.runs s }

pub call_below-requires : goal.call_below-requires
call_below-requires g c =
    let calls = c.in-Some.ensures.calls in
    let t = c.tail_call_primitive in
    (tail_called_so g.begun c.args.world.now c.args.budget.now c.requires.0 t.new.world c.args.function c.args.count _ _ c.requires.1 calls t.ensures.rest t.ensures.order, calls.running)

pub returns-in-None-clause-kept : goal.returns-in-None-clause-kept
returns-in-None-clause-kept g c = c.in-None.ensures.kept

pub returns-in_ok-ending-in-Some-clause-comes : goal.returns-in_ok-ending-in-Some-clause-comes
returns-in_ok-ending-in-Some-clause-comes g c = comes_since c.requires.0 c.in-Some.ensures.paid c.in_ok-ending-in-Some.ensures.comes

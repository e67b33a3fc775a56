use Rattle.std.proofs.Common.{refl, ap, sym, subst, ◌∙◌}
use Rattle.std.specs.Prelude.{map}
use Rattle.lua_heap.specs.Reading.{value as meant}
use Rattle.lua_heap.specs.declared.world.World.{World as Memory}
use Rattle.machine_moves.specs.Ending.{ending_of}
use Rattle.machine_moves.proofs.OnTop.{if_ok, on_err}
use Rattle.machine_calls.specs.Waiting.{CallsSo, EntersOver, RaisesOver}
use Rattle.machine_calls.proofs.Over.{fault_so, spent_so, paid_so, may_enter}
use Rattle.machine_calls.proofs.waiting.call_over.Goals as goal

pub enter_over-requires-clause-function : goal.enter_over-requires-clause-function
enter_over-requires-clause-function c =
    let W = c.args.world.now in
    let h = c.requires.ready in
    may_enter W h.place c.args.called c.args.arguments.items c.args.wait c.args.prepared _ _ c.requires.sound h.is c.requires.safe (c.in-Function.ensures (map (meant W.strings) c.args.arguments.items))

pub returns-in-Function-clause-steps : goal.returns-in-Function-clause-steps
returns-in-Function-clause-steps c =
    let W = c.args.world.now in
    let h = c.requires.ready in
    spent_so W h.place c.args.budget.now c.args.called c.args.arguments.items c.args.wait c.args.prepared _ _ h.is (c.in-Function.ensures (map (meant W.strings) c.args.arguments.items)) c.if-budget-eq0.true

pub returns-in_ok-text-in-Fault-clause-steps : goal.returns-in_ok-text-in-Fault-clause-steps
returns-in_ok-text-in-Fault-clause-steps c =
    let W = c.args.world.now in
    let h = c.requires.ready in
    if_ok c.raise_over.result c.raise_over.ensures.raises c.raise_over.ensures.raised (λ ending r q.
    subst (λ e. CallsSo W c.raise_over.new.world c.args.budget.now c.args.budget.now c.args.called c.args.arguments.items c.args.wait c.args.prepared (ending_of e)) (sym q)
    (fault_so W c.raise_over.new.world h.place c.args.budget.now c.args.called c.args.arguments.items c.args.wait c.args.prepared _ h.is (c.in-Fault.ensures (map (meant W.strings) c.args.arguments.items))
    (subst (RaisesOver W c.raise_over.new.world c.args.wait c.args.prepared) (c.deref.ensures.value ∙ c.in_ok-text-in-Fault.ensures W.strings) r)))

pub returns-in_ok-ending-in-Function-2-clause-steps : goal.returns-in_ok-ending-in-Function-2-clause-steps
returns-in_ok-ending-in-Function-2-clause-steps c =
    let W = c.args.world.now in
    let h = c.requires.ready in
    let vs = map (meant W.strings) c.args.arguments.items in
    paid_so W c.enter_over.new.world h.place c.args.budget.now c.args.called c.args.arguments.items c.args.wait c.args.prepared _ _ _ h.is (c.in-Function.ensures vs) c.if-budget-eq0.false
    (subst (λ all. EntersOver W c.enter_over.new.world c.args.wait c.args.prepared (meant W.strings c.in-Function.function) all (ending_of c.in_ok-ending-in-Function-2.ending)) c.in_ok-all-in-Function-2.ensures c.in_ok-ending-in-Function-2.ensures.enters)

pub returns-in_ok-text-in-Fault-clause-err : goal.returns-in_ok-text-in-Fault-clause-err
returns-in_ok-text-in-Fault-clause-err c = on_err c.raise_over.result c.raise_over.ensures.err (λ e. (ap (λ (W : Memory). W.printed) e, refl))

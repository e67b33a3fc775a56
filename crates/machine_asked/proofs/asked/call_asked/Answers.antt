use Rattle.std.proofs.Common.{refl, subst, ◌∙◌}
use Rattle.std.specs.Prelude.{drop, map}
use Rattle.lua_heap.specs.Reading.{value as meant}
use Rattle.machine_moves.specs.Ending.{ending_of}
use Rattle.machine_moves.proofs.OnTop.{if_ok, on_err}
use Rattle.machine_asked.specs.Asked.{EntersAsked, RefusesAsked}
use Rattle.machine_asked.proofs.AskedFor.{asked_fault, asked_spent, asked_paid, may_enter_asked}
use Rattle.machine_asked.proofs.asked.call_asked.Goals as goal

pub enter_asked-requires-clause-function : goal.enter_asked-requires-clause-function
enter_asked-requires-clause-function c =
    let W = c.args.world.now in
    let given = drop 1 W.moving.items in
    may_enter_asked W given _ _ c.requires.sound c.requires.safe refl (c.in-Function.ensures (map (meant W.strings) given))

pub returns-in-Function-clause-steps : goal.returns-in-Function-clause-steps
returns-in-Function-clause-steps c =
    let W = c.args.world.now in
    let given = drop 1 W.moving.items in
    asked_spent W c.args.budget.now given _ _ refl (c.in-Function.ensures (map (meant W.strings) given)) c.if-budget-eq0.true

pub returns-in_ok-text-in-Fault-clause-steps : goal.returns-in_ok-text-in-Fault-clause-steps
returns-in_ok-text-in-Fault-clause-steps c =
    let W = c.args.world.now in
    let new = c.refuse_asked.new.world in
    let given = drop 1 W.moving.items in
    if_ok c.refuse_asked.result c.refuse_asked.ensures.refuses c.refuse_asked.ensures.refuses (λ ending r _.
    asked_fault W new c.args.budget.now given _ (ending_of ending) refl (c.in-Fault.ensures (map (meant W.strings) given))
    (subst (λ text. RefusesAsked W new text (ending_of ending)) (c.deref.ensures.value ∙ c.in_ok-text-in-Fault.ensures W.strings) r))

pub returns-in_ok-text-in-Fault-clause-err : goal.returns-in_ok-text-in-Fault-clause-err
returns-in_ok-text-in-Fault-clause-err c = on_err c.refuse_asked.result c.refuse_asked.ensures.err (λ e. (e, refl))

pub returns-in_ok-ending-in-Function-2-clause-steps : goal.returns-in_ok-ending-in-Function-2-clause-steps
returns-in_ok-ending-in-Function-2-clause-steps c =
    let W = c.args.world.now in
    let given = drop 1 W.moving.items in
    asked_paid W c.enter_asked.new.world c.args.budget.now given _ _ _ refl (c.in-Function.ensures (map (meant W.strings) given)) c.if-budget-eq0.false
    (subst (λ all. EntersAsked W c.enter_asked.new.world (meant W.strings c.in-Function.function) all (ending_of c.in_ok-ending-in-Function-2.ending)) c.in_ok-all-in-Function-2.ensures c.in_ok-ending-in-Function-2.ensures.enters)

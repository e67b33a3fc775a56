use Rattle.std.proofs.Common.{[], ap, sym, ◌∙◌}
use Rattle.std.specs.Prelude.{map}
use Rattle.int_core.specs.Operations.{callee}
use Rattle.lua_heap.specs.Plain.{plain}
use Rattle.lua_heap.specs.Reading.{value as meant}
use Rattle.machine_core.specs.Moves.{enters_paid}
use Rattle.machine_calls.specs.Calling.{told_of}
use Rattle.machine_calls.proofs.Callees.{can_enter, called_is, spent, paid}
use Rattle.machine_calls.proofs.calling.call_value.Goals as goal

pub enter_callee-requires-clause-function : goal.enter_callee-requires-clause-function
enter_callee-requires-clause-function c =
    let W = c.args.world.now in
    can_enter W (meant W.strings c.args.called) (meant W.strings c.in-Function.function) [] _ c.requires.callable (c.in-Function.ensures [])

pub returns-in-Fault-clause-makes : goal.returns-in-Fault-clause-makes
returns-in-Fault-clause-makes c = λ env x slot p q.
    let W = c.args.world.now in
    let vs = map (meant W.strings) c.args.arguments.items in
    called_is (plain W c.args.budget.now) _ _ _ vs _ p q (c.in-Fault.ensures vs)

pub returns-in-Function-clause-makes : goal.returns-in-Function-clause-makes
returns-in-Function-clause-makes c = λ env x slot p q.
    let W = c.args.world.now in
    let vs = map (meant W.strings) c.args.arguments.items in
    called_is (plain W c.args.budget.now) _ _ _ vs _ p q (c.in-Function.ensures vs) ∙ spent W c.args.budget.now _ _ c.if-budget-eq0.true

pub returns-in_ok-came-in-Function-2-clause-makes : goal.returns-in_ok-came-in-Function-2-clause-makes
returns-in_ok-came-in-Function-2-clause-makes c = λ env x slot p q.
    let W = c.args.world.now in
    let V = plain W c.args.budget.now in
    let vs = map (meant W.strings) c.args.arguments.items in
    let g = meant W.strings c.in-Function.function in
    called_is V _ _ _ vs _ p q (c.in-Function.ensures vs)
    ∙ ap (λ ws. enters_paid V V (callee g ws)) (sym c.in_ok-all-in-Function-2.ensures)
    ∙ paid W c.enter_callee.new.world c.args.budget.now g _ (told_of W.strings c.in_ok-came-in-Function-2.came) c.if-budget-eq0.false c.in_ok-came-in-Function-2.ensures.enters

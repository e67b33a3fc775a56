use Rattle.std.proofs.Common.{◌∙◌}
use Rattle.std.proofs.lemmas.Result.{IfOk-weaker}
use Rattle.machine_returns.proofs.Going.{call_goes, call_takes, iterator_goes, iterator_takes}
use Rattle.machine_step.proofs.Awake.{may_go_on, went_on}
use Rattle.machine_library_calls.proofs.answering.go_on.Goals as goal

pub take_results-requires-clause-safe : goal.take_results-requires-clause-safe
take_results-requires-clause-safe c = call_takes c.args.world.now c.args.here.word c.args.wait c.args.values.now c.from-a.result c.from-c.result c.in-ForCall.is (c.from-a.ensures ∙ c.a.ensures) (c.from-c.ensures ∙ c.c.ensures) (may_go_on c.requires.awake)

pub take_results-requires-in-ForIterator-clause-safe : goal.take_results-requires-in-ForIterator-clause-safe
take_results-requires-in-ForIterator-clause-safe c =
    iterator_takes c.args.world.now c.args.here.word c.args.wait c.args.values.now c.from-a.result c.from-c.result c.in-ForIterator.is (c.from-a.ensures ∙ c.a.ensures) (c.from-c.ensures ∙ c.c.ensures) (may_go_on c.requires.awake)

pub returns-in-ForCall-clause-goes : goal.returns-in-ForCall-clause-goes
returns-in-ForCall-clause-goes c =
    let t = c.take_results in
    IfOk-weaker t.result _ _ (λ next g. went_on g)
    (call_goes c.args.world.now c.args.here.word c.args.wait c.args.values.now t.new.world t.result c.from-a.result c.from-c.result c.in-ForCall.is (c.from-a.ensures ∙ c.a.ensures) (c.from-c.ensures ∙ c.c.ensures) t.ensures.leads)

pub returns-in-ForIterator-clause-goes : goal.returns-in-ForIterator-clause-goes
returns-in-ForIterator-clause-goes c =
    let t = c.take_results-in-ForIterator in
    IfOk-weaker t.result _ _ (λ next g. went_on g)
    (iterator_goes c.args.world.now c.args.here.word c.args.wait c.args.values.now t.new.world t.result c.from-a.result c.from-c.result c.in-ForIterator.is (c.from-a.ensures ∙ c.a.ensures) (c.from-c.ensures ∙ c.c.ensures) t.ensures.leads)

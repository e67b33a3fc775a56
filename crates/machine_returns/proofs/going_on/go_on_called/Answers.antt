use Rattle.std.proofs.Common.{refl, sym, ◌∙◌, subst}
use Rattle.machine_core.specs.Text.{read_registers}
use Rattle.move_laws.specs.Memory.{CanDo}
use Rattle.machine_returns.proofs.Going.{none_else, call_takes, call_goes, iterator_takes, iterator_goes, close_may, close_goes, return_goes, error_goes}
use Rattle.machine_returns.proofs.going_on.go_on_called.Goals as goal

pub take_results-requires : goal.take_results-requires
take_results-requires c =
    record { order = c.requires.solid.order; at = c.requires.at; room = c.requires.room; safe = call_takes c.args.world.now c.args.word c.args.wait c.args.values.now c.from-a.result c.from-c.result c.in-ForCall.is (c.from-a.ensures ∙ c.a.ensures) (c.from-c.ensures ∙ c.c.ensures) c.requires.safe }

pub take_results-requires-in-ForIterator : goal.take_results-requires-in-ForIterator
take_results-requires-in-ForIterator c =
    record { order = c.requires.solid.order; at = c.requires.at; room = c.requires.room; safe = iterator_takes c.args.world.now c.args.word c.args.wait c.args.values.now c.from-a.result c.from-c.result c.in-ForIterator.is (c.from-a.ensures ∙ c.a.ensures) (c.from-c.ensures ∙ c.c.ensures) c.requires.safe }

pub go_on_closing-requires-clause-safe : goal.go_on_closing-requires-clause-safe
go_on_closing-requires-clause-safe c = close_may c.args.world.now c.args.word c.args.wait c.args.values.now c.from.result c.in-ForClose.is (c.from.ensures ∙ c.a-in-ForClose.ensures) c.requires.safe

pub go_on_returning-requires-clause-there : goal.go_on_returning-requires-clause-there
go_on_returning-requires-clause-there c =
    subst (λ a. CanDo c.args.world.now (read_registers a c.in-Returning.count)) (sym (c.from-a.ensures ∙ c.a.ensures)) (c.requires.there c.in-Returning.count c.in-Returning.is)

pub fail_with-requires-clause-frame : goal.fail_with-requires-clause-frame
fail_with-requires-clause-frame c = record { place = c.requires.at.place; is = c.requires.at.is }

pub unreachable-requires : goal.unreachable-requires
unreachable-requires c = none_else c.args.wait c.requires.called c.in_default.not-ForCall c.in_default.not-ForIterator c.in_default.not-ForClose c.in_default.not-Returning c.in_default.not-Leaving

pub returns-in-ForCall-clause-leads : goal.returns-in-ForCall-clause-leads
returns-in-ForCall-clause-leads c =
    call_goes c.args.world.now c.args.word c.args.wait c.args.values.now c.take_results.new.world c.take_results.result c.from-a.result c.from-c.result
    c.in-ForCall.is (c.from-a.ensures ∙ c.a.ensures) (c.from-c.ensures ∙ c.c.ensures) c.take_results.ensures.leads

pub returns-in-ForIterator-clause-leads : goal.returns-in-ForIterator-clause-leads
returns-in-ForIterator-clause-leads c =
    iterator_goes c.args.world.now c.args.word c.args.wait c.args.values.now c.take_results-in-ForIterator.new.world c.take_results-in-ForIterator.result c.from-a.result c.from-c.result
    c.in-ForIterator.is (c.from-a.ensures ∙ c.a.ensures) (c.from-c.ensures ∙ c.c.ensures) c.take_results-in-ForIterator.ensures.leads

pub returns-in-ForClose-clause-leads : goal.returns-in-ForClose-clause-leads
returns-in-ForClose-clause-leads c =
    close_goes c.args.world.now c.args.word c.args.wait c.args.values.now c.go_on_closing.new.world c.go_on_closing.result c.from.result c.in-ForClose.is (c.from.ensures ∙ c.a-in-ForClose.ensures) c.go_on_closing.ensures.leads

pub returns-in-Returning-clause-leads : goal.returns-in-Returning-clause-leads
returns-in-Returning-clause-leads c =
    return_goes c.args.world.now c.args.word c.args.wait c.args.values.now c.go_on_returning.new.world c.go_on_returning.result c.from-a.result c.in-Returning.count
    c.in-Returning.is (c.from-a.ensures ∙ c.a.ensures) c.go_on_returning.ensures.leads

pub returns-in-Leaving-clause-leads : goal.returns-in-Leaving-clause-leads
returns-in-Leaving-clause-leads c =
    error_goes c.args.world.now c.args.word c.args.wait c.args.values.now c.fail_with.new.world c.fail_with.result c.in-Leaving.error _ c.in-Leaving.is refl c.fail_with.ensures.leads

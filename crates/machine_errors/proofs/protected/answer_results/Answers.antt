use Rattle.std.proofs.Common.{rules, ◌≡◌, ◌∷◌, true}
use Rattle.table_core.specs.declared.value.Value.TheVariants.{Bool as Boolean}
use Rattle.machine_moves.specs.Ending.{ending_of}
use Rattle.machine_errors.proofs.Texts.{order_kept}
use Rattle.machine_errors.proofs.Answering.{answers_results}
use Rattle.machine_errors.proofs.protected.answer_results.Goals as goal

pub returns-clause-leads : goal.returns-clause-leads
returns-clause-leads c = λ env.
    let is : c.in_ok-answer.answer.items ≡ Boolean true ∷ c.args.world.now.moving.items = search rules in
    answers_results c.args.world.now c.answer_with.new.world c.in_ok-answer.answer.items (ending_of c.answer_with.result) env c.answer_with.ensures.answers is

pub returns-clause-order : goal.returns-clause-order
returns-clause-order c = order_kept c.requires.order c.answer_with.ensures.rest (c.answer_with.ensures.listed c.requires.order.listed)

use Rattle.std.proofs.Common.{subst}
use Rattle.library_arguments.specs.Answers.{IsAnswer}
use Rattle.pure_functions.specs.Functions.{plain_row}
use Rattle.pure_functions.proofs.Meaning.{one_seen, two_seen, three_seen, four_seen}
use Rattle.pure_functions.proofs.calls.plain_results.Goals as goal

pub returns-then-many-eq1 : goal.returns-then-many-eq1
returns-then-many-eq1 c =
    subst (λ ss. IsAnswer c.results_of.result (plain_row c.args.function ss))
    (one_seen c.args.world.now.strings c.args.arguments.now c.argument_shape-first.result c.if-many-eq1.true c.argument_shape-first.ensures) c.results_of.ensures

pub returns-then-many-eq2 : goal.returns-then-many-eq2
returns-then-many-eq2 c =
    subst (λ ss. IsAnswer c.results_of-then-many-eq2.result (plain_row c.args.function ss))
    (two_seen c.args.world.now.strings c.args.arguments.now c.argument_shape-first.result c.argument_shape-second.result c.if-many-eq2.true c.argument_shape-first.ensures c.argument_shape-second.ensures) c.results_of-then-many-eq2.ensures

pub returns-then-many-eq3 : goal.returns-then-many-eq3
returns-then-many-eq3 c =
    subst (λ ss. IsAnswer c.results_of-then-many-eq3.result (plain_row c.args.function ss))
    (three_seen c.args.world.now.strings c.args.arguments.now c.argument_shape-first.result c.argument_shape-second.result c.argument_shape-third.result c.if-many-eq3.true c.argument_shape-first.ensures c.argument_shape-second.ensures c.argument_shape-third.ensures) c.results_of-then-many-eq3.ensures

pub returns-then-many-eq4 : goal.returns-then-many-eq4
returns-then-many-eq4 c =
    subst (λ ss. IsAnswer c.results_of-then-many-eq4.result (plain_row c.args.function ss))
    (four_seen c.args.world.now.strings c.args.arguments.now c.argument_shape-first.result c.argument_shape-second.result c.argument_shape-third.result c.argument_shape-fourth.result c.if-many-eq4.true c.argument_shape-first.ensures c.argument_shape-second.ensures c.argument_shape-third.ensures c.argument_shape-fourth.ensures) c.results_of-then-many-eq4.ensures

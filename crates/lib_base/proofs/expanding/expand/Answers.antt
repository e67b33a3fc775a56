use Rattle.std.proofs.Common.{ap, sym, ◌∙◌, map}
use Rattle.int_core.specs.Value.{known}
use Rattle.library_arguments.specs.Answers.{results_of}
use Rattle.library_rows.specs.Look.{done}
use Rattle.pure_functions.proofs.Interning.{nothing, same_heap}
use Rattle.lib_base.proofs.expanding.expand.Goals as goal

pub returns-clause-answers : goal.returns-clause-answers
returns-clause-answers c =
    c.in_ok-results.ensures.0
    ∙ ap (λ H. done H (map known (results_of c.in_ok-results.results))) (same_heap c.args.world.now c.given.new.world c.args.arguments.now c.given.ensures.kept)
    ∙ sym c.in_ok-answer.ensures.answers

pub returns-in-Some-clause-kept : goal.returns-in-Some-clause-kept
returns-in-Some-clause-kept c = nothing c.args.world.now c.args.arguments.now c.requires

use Rattle.std.proofs.Common.{rules, [], ◌∷◌, ap, sym, ◌∙◌, map}
use Rattle.int_core.specs.Value.{known}
use Rattle.library_arguments.specs.Answers.{results_of}
use Rattle.library_arguments.specs.Shapes.{known_of}
use Rattle.library_rows.specs.Look.{done}
use Rattle.pure_functions.specs.Answers.{MeanAll, heap_of}
use Rattle.pure_functions.proofs.Meaning.{all_mean_now, means_now}
use Rattle.pure_functions.proofs.plain.given.Goals as goal

pub returns-in_ok-made-in-One-clause-answers : goal.returns-in_ok-made-in-One-clause-answers
returns-in_ok-made-in-One-clause-answers c =
    let new = c.value_of.new.world in
    ap (λ v. done (heap_of new) (v ∷ [])) (means_now new.strings c.in_ok-made-in-One.made (known_of c.in-One.written) c.in_ok-made-in-One.ensures.means)
    ∙ ap (λ r. done (heap_of new) (map known (results_of r))) (sym c.in-One.is)

pub returns-in_ok-values-in-Many-clause-answers : goal.returns-in_ok-values-in-Many-clause-answers
returns-in_ok-values-in-Many-clause-answers c =
    let new = c.values_of.new.world in
    let m : MeanAll new.strings c.in_ok-values-in-Many.values.items (map known_of c.in-Many.all.items) = search rules in
    ap (done (heap_of new)) (all_mean_now new.strings c.in_ok-values-in-Many.values.items (map known_of c.in-Many.all.items) m)
    ∙ ap (λ r. done (heap_of new) (map known (results_of r))) (sym c.in-Many.is)

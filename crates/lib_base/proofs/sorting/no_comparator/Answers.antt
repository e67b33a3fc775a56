use Rattle.std.proofs.Common.{ap, ◌∙◌}
use Rattle.int_core.specs.Value.{shape}
use Rattle.library_rows.specs.Arguments.{is_absent}
use Rattle.lib_base.proofs.sorting.no_comparator.Goals as goal
use Rattle.lib_base.proofs.MetatableRows.{present}

pub returns-in_default : goal.returns-in_default
returns-in_default c = λ texts. (ap (λ v. is_absent (shape v)) (c.argument.ensures texts) ∙ present texts c.argument.result c.in_default.not-Nil, c.bad_argument.ensures)

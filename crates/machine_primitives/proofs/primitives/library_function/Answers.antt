use Rattle.std.proofs.Common.{ap, ◌∙◌}
use Rattle.machine_primitives.specs.Primitives.{row_by}
use Rattle.machine_primitives.proofs.primitives.library_function.Goals as goal

pub returns-in-Some-Library : goal.returns-in-Some-Library
returns-in-Some-Library c = λ builds. c.in-Some-Library.ensures.some builds ∙ ap (row_by builds) c.in-Some-Library.field-0-is

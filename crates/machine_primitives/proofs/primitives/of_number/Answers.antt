use Rattle.machine_primitives.proofs.Numbered.{row_found, none_found}
use Rattle.machine_primitives.proofs.primitives.of_number.Goals as goal

pub returns-clause-some : goal.returns-clause-some
returns-clause-some c = row_found c.args.number c.at_place.result c.at_place.ensures

pub returns-clause-none : goal.returns-clause-none
returns-clause-none c = none_found c.args.number c.at_place.result c.at_place.ensures

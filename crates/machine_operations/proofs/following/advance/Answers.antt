use Rattle.std.proofs.Common.{refl}
use Rattle.machine_rows.proofs.Going.{goes_on}
use Rattle.machine_operations.proofs.following.advance.Goals as goal

pub returns-clause-leads : goal.returns-clause-leads
returns-clause-leads c = λ env. goes_on c.args.ahead c.requires.at refl c.go_to.ensures.makes env

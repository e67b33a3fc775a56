use Rattle.std.proofs.Common.{[]}
use Rattle.machine_rows.proofs.Going.{goes_on, may_go}
use Rattle.move_laws.proofs.Kept.{order_kept}
use Rattle.machine_rows.proofs.following.go_on.Goals as goal

pub go_to-requires : goal.go_to-requires
go_to-requires c = may_go 1 c.requires.at c.behind.ensures c.requires.safe

pub returns-clause-leads : goal.returns-clause-leads
returns-clause-leads c = goes_on 1 c.requires.at c.behind.ensures c.go_to.ensures.makes []

pub returns-clause-order : goal.returns-clause-order
returns-clause-order c = order_kept c.requires.order c.go_to.ensures.rest c.go_to.ensures.listed

use Rattle.std.proofs.Common.{refl}
use Rattle.move_laws.proofs.Kept.{order_kept}
use Rattle.machine_loops.proofs.Back.{goes_back, may_go_back, near_back}
use Rattle.machine_loops.proofs.jumps.go_back.Goals as goal

pub overflow_sub-pc : goal.overflow_sub-pc
overflow_sub-pc c = near_back c.args.by c.requires.at c.requires.safe.safe

pub go_to-requires : goal.go_to-requires
go_to-requires c = may_go_back c.args.by c.requires.at (near_back c.args.by c.requires.at c.requires.safe.safe) refl c.requires.safe.safe

pub returns-clause-leads : goal.returns-clause-leads
returns-clause-leads c = goes_back c.args.by c.requires.at (near_back c.args.by c.requires.at c.requires.safe.safe) refl c.go_to.ensures.makes

pub returns-clause-order : goal.returns-clause-order
returns-clause-order c = order_kept c.requires.order c.go_to.ensures.rest c.go_to.ensures.listed

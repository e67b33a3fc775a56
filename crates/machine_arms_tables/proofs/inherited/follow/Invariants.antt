use Rattle.machine_arms_tables.proofs.Inheriting.{Looked}
use Rattle.machine_arms_tables.proofs.inherited.follow.Given as goal

abbrev pub invariant-loop-link : goal.invariant-loop-link
invariant-loop-link l = Looked l.fn.strings l.tables.objects l.fn.object l.key l.at l._link

use Rattle.int_core.proofs.WrappedLemmas.{moved_up-below, moved_up-beyond}
use Rattle.int_core.proofs.arithmetic.moved_up.Goals as goal

pub returns-then-places-lt64 : goal.returns-then-places-lt64
returns-then-places-lt64 c = moved_up-below c.args.a c.args.places c.ranges.a c.if-places-lt64.true

pub returns-else-places-lt64 : goal.returns-else-places-lt64
returns-else-places-lt64 c = moved_up-beyond c.args.a c.args.places c.if-places-lt64.false

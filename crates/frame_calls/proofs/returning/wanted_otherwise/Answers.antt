use Rattle.std.proofs.Common.{sym, subst}
use Rattle.std.proofs.lemmas.Option.{IfSome_then}
use Rattle.frame_calls.specs.Returning.{Wants}
use Rattle.frame_calls.proofs.returning.wanted_otherwise.Goals as goal

pub returns-in-ForIterator : goal.returns-in-ForIterator
returns-in-ForIterator c = IfSome_then c.wanted_by_iterator.result c.wanted_by_iterator.ensures (λ t w. (subst (Wants c.args.words.now c.args.pc c.args.i t) (sym c.in-ForIterator.is) (w.0 c.args.words.now c.args.pc), w.1))

pub returns-in-ForValue : goal.returns-in-ForValue
returns-in-ForValue c = IfSome_then c.wanted_by_handler.result c.wanted_by_handler.ensures (λ t w. (subst (Wants c.args.words.now c.args.pc c.args.i t) (sym c.in-ForValue.is) w.0, w.1))

pub returns-in-Dropped : goal.returns-in-Dropped
returns-in-Dropped c = IfSome_then c.wanted_by_store.result c.wanted_by_store.ensures (λ t w. (subst (Wants c.args.words.now c.args.pc c.args.i t) (sym c.in-Dropped.is) (w.0 c.args.words.now c.args.pc), w.1))

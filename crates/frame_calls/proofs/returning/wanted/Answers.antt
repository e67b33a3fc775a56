use Rattle.std.proofs.Common.{sym, subst}
use Rattle.std.proofs.lemmas.Option.{IfSome_then}
use Rattle.frame_calls.specs.Returning.{Wants}
use Rattle.frame_calls.proofs.returning.wanted.Goals as goal

pub returns-in-ForCall : goal.returns-in-ForCall
returns-in-ForCall c = IfSome_then c.wanted_by_call.result c.wanted_by_call.ensures (λ t w. (subst (Wants c.args.words.now c.args.pc c.args.i t) (sym c.in-ForCall.is) (w.0 c.args.words.now c.args.pc), w.1))

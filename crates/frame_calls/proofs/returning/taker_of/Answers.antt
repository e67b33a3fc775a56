use Rattle.std.proofs.lemmas.Option.{IfSome_then}
use Rattle.frame_calls.specs.Returning.{IsTaker}
use Rattle.frame_calls.proofs.Takers.{takes_by}
use Rattle.frame_calls.proofs.returning.taker_of.Goals as goal

pub returns : goal.returns
returns c = IfSome_then c.taker_in.result c.taker_in.ensures (λ taker takes. takes_by (λ words. IsTaker words c.args.caller taker) c.in_ok-code.ensures c.deref.ensures.value takes)

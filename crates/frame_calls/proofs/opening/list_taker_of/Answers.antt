use Rattle.std.proofs.lemmas.Option.{IfSome_then}
use Rattle.frame_calls.specs.Opening.{IsListTaker}
use Rattle.frame_calls.proofs.Takers.{takes_by}
use Rattle.frame_calls.proofs.opening.list_taker_of.Goals as goal

pub returns : goal.returns
returns c = IfSome_then c.list_taker_in.result c.list_taker_in.ensures (λ taker takes. takes_by (λ words. IsListTaker words c.args.caller c.args.count taker) c.in_ok-code.ensures c.deref.ensures.value takes)

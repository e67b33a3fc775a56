use Rattle.std.proofs.Common.{subst}
use Rattle.std.proofs.lemmas.Option.{IfSome_then}
use Rattle.frame_calls.specs.Returning.{HandsBack}
use Rattle.frame_calls.proofs.returning.return_counted.Goals as goal

pub hand_back-requires : goal.hand_back-requires
hand_back-requires c =
    let x = c.in_ok-taker.ensures in
    record { top = c.requires.may.top; closed = c.requires.closed.none; few = x.takes.takes.few; below = record { caller = x.caller; calls = x.calls; room = x.takes.takes.room } }

pub returns-clause-gives : goal.returns-clause-gives
returns-clause-gives c =
    IfSome_then c.hand_back.result c.hand_back.ensures.back
    (λ o x. record {
      closed = c.requires.closed;
      taker = c.in_ok-taker.taker;
      below = c.in_ok-taker.ensures;
      back = subst (λ a. HandsBack c.args.stack.now c.hand_back.new.stack a c.args.count c.in_ok-taker.taker) c.a.ensures x;
    })

use Rattle.frame_calls.proofs.opening.waits_for_call.Goals as goal

pub returns-in-ForCall : goal.returns-in-ForCall
returns-in-ForCall c = λ yes. c.in-ForCall.is

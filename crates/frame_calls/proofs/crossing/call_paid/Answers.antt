use Rattle.std.proofs.Common.{◌≡◌, suc, arith, rules}
use Rattle.frame_calls.proofs.crossing.call_paid.Goals as goal

pub returns-clause-crosses : goal.returns-clause-crosses
returns-clause-crosses c =
    let paid : c.args.budget.now ≡ suc c.in_ok-left.left = search (rules, arith) in
    c.in_ok-enter_called.ensures.enters c.args.budget.now c.in_ok-left.left paid

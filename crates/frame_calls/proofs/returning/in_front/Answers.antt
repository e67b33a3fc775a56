use Rattle.std.proofs.Common.{◌≡◌, ◌-◌, suc, arith, rules}
use Rattle.frame_calls.proofs.returning.in_front.Goals as goal

pub returns : goal.returns
returns c =
    let next : c.args.pc ≡ suc (c.args.pc - 1) = search (rules, arith) in
    record { front = c.args.pc - 1; next = next; there = c.fetch.ensures }

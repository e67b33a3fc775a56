use Rattle.std.proofs.Common.{◌≡◌, ◌+◌, ◌<◌, length, arith, rules}
use Rattle.frame_calls.proofs.listing.behind.Goals as goal

pub returns : goal.returns
returns c =
    let next : c.in_ok-to.to ≡ c.args.pc + 1 = search (rules, arith) in
    let within : c.in_ok-to.to < length c.args.words.now = search (rules, arith) in
    (next, within)

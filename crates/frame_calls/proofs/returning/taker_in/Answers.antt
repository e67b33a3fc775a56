use Rattle.std.proofs.Common.{◌≡◌, ◌+◌, ◌<◌, ◌≤◌, length, ◌∙◌, arith, rules}
use Rattle.frame_calls.proofs.returning.taker_in.Goals as goal

pub returns : goal.returns
returns c =
    let w = c.in_ok-taker.ensures in
    let few : c.in_ok-taker.taker.count ≤ 2 = search (rules, arith) in
    let room : c.in_ok-taker.taker.register + c.in_ok-taker.taker.count ≤ c.args.caller.size = search (rules, arith) in
    let next : c.in_ok-to.to ≡ c.args.caller.pc + 1 = search (rules, arith) in
    let within : c.in_ok-to.to < length c.args.words.now = search (rules, arith) in
    record {
      word = c.fetch.result;
      at_pc = c.fetch.ensures;
      wants = w.0;
      few = few;
      room = room;
      next = w.1 ∙ next;
      within = omega (arith, within, w.1);
    }

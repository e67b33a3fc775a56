use Rattle.std.proofs.Common.{◌≡◌, rules, arith, true}
use Rattle.frame_calls.proofs.Calls.{has_registers}
use Rattle.frame_calls.proofs.calling.enterable.Goals as goal

pub returns : goal.returns
returns c =
    let x = c.in_ok-callee.ensures in
    let yes : c.may_give_up.result ≡ true = search rules in
    record {
      is = x;
      arguments = has_registers x.registers c.requires.top x.are x.holds.room;
      all = c.may_give_up.ensures.there yes;
      within = c.may_give_up.ensures.within yes;
      none_open = c.may_give_up.ensures.closed yes;
      room = search (rules, arith);
    }

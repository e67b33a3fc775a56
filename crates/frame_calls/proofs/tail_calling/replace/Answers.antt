use Rattle.std.proofs.Common.{◌≡◌, ◌≤◌, length, rules, arith, true, subst}
use Rattle.int_core.specs.Limits.{greatest_depth}
use Rattle.frame_calls.specs.Calling.{IsCallee, program_of}
use Rattle.frame_calls.proofs.Calls.{has_registers}
use Rattle.frame_calls.proofs.tail_calling.replace.Goals as goal

pub tail_call-requires : goal.tail_call-requires
tail_call-requires c =
    let x = c.in_ok-callee.ensures in
    let yes : c.is_closed.result ≡ true = search rules in
    let closed = c.is_closed.ensures yes in
    record { arguments = has_registers x.registers c.requires.top x.are x.holds.room; closed = closed.none; params = x.has.params }

pub returns-in-Ok-clause-replaces : goal.returns-in-Ok-clause-replaces
returns-in-Ok-clause-replaces c =
    let yes : c.is_closed.result ≡ true = search rules in
    let deep : length c.args.stack.now.frames ≤ greatest_depth = search (rules, arith) in
    record {
      given = c.in_ok-given.given;
      arguments = c.in_ok-given.ensures;
      callee = c.in_ok-callee.callee;
      is = subst (λ a. IsCallee c.args.stack.now (program_of c.args.stop.functions) a c.in_ok-given.given c.in_ok-callee.callee) c.a-register.ensures c.in_ok-callee.ensures;
      closed = c.is_closed.ensures yes;
      replaces = search rules;
      room = deep;
    }

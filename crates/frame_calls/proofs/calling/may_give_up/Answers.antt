use Rattle.std.proofs.Common.{◌≤◌, subst, arith, rules, length}
use Rattle.std.specs.Prelude.{IfSome}
use Rattle.frame_calls.specs.Standing.{IsClosedFrom}
use Rattle.frame_calls.proofs.Calls.{has_registers, none_further}
use Rattle.frame_calls.proofs.calling.may_give_up.Goals as goal

pub returns-clause-there : goal.returns-clause-there
returns-clause-there c = λ yes.
    let room : c.args.size ≤ length c.registers.result.now = search (rules, arith) in
    has_registers c.registers.result.now c.requires.top c.registers.ensures room

pub returns-clause-closed : goal.returns-clause-closed
returns-clause-closed c = λ yes.
    let k = subst (λ o. IfSome o (λ register. IsClosedFrom c.args.stack.now register)) c.in-Some.is c.requires.closed in
    let l : c.in-Some.first ≤ c.args.free = search (rules, arith) in
    none_further l k.none

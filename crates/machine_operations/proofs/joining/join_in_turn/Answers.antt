use Rattle.std.proofs.Common.{◌≡◌, suc, ◌+◌, ◌-◌, arith, subst}
use Rattle.meta_ops.specs.declared.outcome.Outcome.{Outcome}
use Rattle.machine_operations.specs.Joining.{JoinsOne}
use Rattle.machine_operations.proofs.Joins.{asks_joins, can_read, fails_joins, found_goes, one_left, rest_then, same_then, whole_joins}
use Rattle.machine_operations.proofs.joining.join_in_turn.Goals as goal

pub join_one-requires-clause-there : goal.join_one-requires-clause-there
join_one-requires-clause-there c =
    let t = c.loop-left-test.true in
    let e : c.loop-left.left ≡ suc (c.loop-left.left - 1) = omega (arith, t) in
    can_read (one_left e c.loop-left.invariant).safe

pub loop-left-preserved : goal.loop-left-preserved
loop-left-preserved c =
    let t = c.loop-left-test.true in
    let e : c.loop-left.left ≡ suc (c.loop-left.left - 1) = omega (arith, t) in
    found_goes (one_left e c.loop-left.invariant) c.join_one.ensures.same c.in-Found.v
    (subst (λ (o : Outcome). JoinsOne c.loop-left.world c.join_one.new.world (c.args.first + (c.loop-left.left - 1)) c.loop-left.whole o) c.in-Found.is c.in_ok-v.ensures.joins) c.join_one.ensures.sound c.join_one.ensures.rest

pub returns-in-Ask-clause-joins : goal.returns-in-Ask-clause-joins
returns-in-Ask-clause-joins c =
    let t = c.loop-left-test.true in
    let e : c.loop-left.left ≡ suc (c.loop-left.left - 1) = omega (arith, t) in
    asks_joins (one_left e c.loop-left.invariant) c.join_one.ensures.same c.in-Ask.handler c.in-Ask.first
    (subst (λ (o : Outcome). JoinsOne c.loop-left.world c.join_one.new.world (c.args.first + (c.loop-left.left - 1)) c.loop-left.whole o) c.in-Ask.is c.in_ok-v.ensures.joins)

pub returns-in-Ask-clause-same : goal.returns-in-Ask-clause-same
returns-in-Ask-clause-same c = same_then c.loop-left.invariant.same c.join_one.ensures.same

pub returns-in-Fault-clause-joins : goal.returns-in-Fault-clause-joins
returns-in-Fault-clause-joins c =
    let t = c.loop-left-test.true in
    let e : c.loop-left.left ≡ suc (c.loop-left.left - 1) = omega (arith, t) in
    fails_joins (one_left e c.loop-left.invariant) c.join_one.ensures.same c.in-Fault.fault
    (subst (λ (o : Outcome). JoinsOne c.loop-left.world c.join_one.new.world (c.args.first + (c.loop-left.left - 1)) c.loop-left.whole o) c.in-Fault.is c.in_ok-v.ensures.joins)

pub returns-in-Fault-clause-same : goal.returns-in-Fault-clause-same
returns-in-Fault-clause-same c = same_then c.loop-left.invariant.same c.join_one.ensures.same

pub returns-clause-joins : goal.returns-clause-joins
returns-clause-joins c = let t = c.loop-left-test.false in whole_joins (omega (arith, t)) c.loop-left.invariant

pub returns-in-Ask-clause-rest : goal.returns-in-Ask-clause-rest
returns-in-Ask-clause-rest c = rest_then c.args.world.now c.loop-left.invariant.rest c.join_one.ensures.rest

pub returns-in-Fault-clause-rest : goal.returns-in-Fault-clause-rest
returns-in-Fault-clause-rest c = rest_then c.args.world.now c.loop-left.invariant.rest c.join_one.ensures.rest

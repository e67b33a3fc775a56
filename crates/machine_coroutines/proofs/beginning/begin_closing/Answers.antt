use Rattle.std.proofs.Common.{rules, ◌≡◌, ap, subst, true, false}
use Rattle.lua_heap.specs.declared.world.World.{World as Memory}
use Rattle.move_laws.proofs.Running.{stack_runs}
use Rattle.machine_coroutines.specs.declared.beginning.Left.TheVariants as left
use Rattle.machine_coroutines.specs.Beginning.{IsLeft, PushesClosing}
use Rattle.machine_coroutines.proofs.Beginnings.{begun_so, begun_top, no_room, refuses_normal, refuses_running}
use Rattle.machine_coroutines.proofs.beginning.begin_closing.Goals as goal

pub returns-then-not-branch-clause-makes : goal.returns-then-not-branch-clause-makes
returns-then-not-branch-clause-makes c = λ env x q.
    let W = c.args.world.now in
    let h = subst (IsLeft c.get.result.now) c.in-Values.is c.in_ok-left_by.ensures in
    let p = subst (λ vs. PushesClosing W c.push_closing.new.world c.in-Values.error vs c.in_ok-push_closing-in-Values.field-0) c.deref.ensures.value c.in_ok-push_closing-in-Values.ensures.pushes in
    let room : c.in_ok-push_closing-in-Values.field-0 ≡ false = search rules in
    no_room W c.args.co c.get.result.now c.get.ensures c.in-Values.error c.in-Values.values.items h c.push_closing.new.world c.in_ok-push_closing-in-Values.field-0 p env x room (c.in_ok-push_closing-in-Values.ensures.same room) q

pub returns-in-Running-clause-makes : goal.returns-in-Running-clause-makes
returns-in-Running-clause-makes c = λ env x q.
    let W = c.args.world.now in
    let r = stack_runs W c.requires.running in
    refuses_running W c.args.co c.get.result.now c.get.ensures r.co r.stack env x r.runs (subst (IsLeft c.get.result.now) c.in-Running.is c.in_ok-left_by.ensures) q

pub returns-in-Normal-clause-makes : goal.returns-in-Normal-clause-makes
returns-in-Normal-clause-makes c = λ env x q.
    let W = c.args.world.now in
    let r = stack_runs W c.requires.running in
    refuses_normal W c.args.co c.get.result.now c.get.ensures r.co r.stack env x r.runs (subst (IsLeft c.get.result.now) c.in-Normal.is c.in_ok-left_by.ensures) q

pub returns-else-not-branch-clause-makes : goal.returns-else-not-branch-clause-makes
returns-else-not-branch-clause-makes c = λ env x q.
    let W = c.args.world.now in
    let h = subst (IsLeft c.get.result.now) c.in-Values.is c.in_ok-left_by.ensures in
    let room : c.in_ok-push_closing-in-Values.field-0 ≡ true = search rules in
    let p = subst (λ vs. PushesClosing W c.push_closing.new.world c.in-Values.error vs c.in_ok-push_closing-in-Values.field-0) c.deref.ensures.value c.in_ok-push_closing-in-Values.ensures.pushes in
    begun_so W c.args.co c.get.result.now c.get.ensures c.in-Values.error c.in-Values.values.items h c.push_closing.new.world c.in_ok-push_closing-in-Values.field-0 p c.bury.new.world c.bury.ensures.plain c.bury.ensures.put room env x q

pub returns-else-not-branch-clause-top : goal.returns-else-not-branch-clause-top
returns-else-not-branch-clause-top c = λ _.
    let W = c.args.world.now in
    let h = subst (IsLeft c.get.result.now) c.in-Values.is c.in_ok-left_by.ensures in
    let room : c.in_ok-push_closing-in-Values.field-0 ≡ true = search rules in
    let p = subst (λ vs. PushesClosing W c.push_closing.new.world c.in-Values.error vs c.in_ok-push_closing-in-Values.field-0) c.deref.ensures.value c.in_ok-push_closing-in-Values.ensures.pushes in
    begun_top W c.args.co c.get.result.now c.get.ensures c.in-Values.error c.in-Values.values.items h c.push_closing.new.world c.in_ok-push_closing-in-Values.field-0 p c.bury.new.world c.bury.ensures.plain c.bury.ensures.put room
    (ap (λ (W : Memory). W.chain.items) c.bury.ensures.rest) c.bury.ensures.coros

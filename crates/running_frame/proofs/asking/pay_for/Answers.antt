use Rattle.std.proofs.Common.{◌≡◌, ◌-◌, suc, refl, subst, arith, rules}
use Rattle.std.specs.Prelude.{IfNone, IfSome}
use Rattle.running_frame.specs.Asking.{EntersOver, ReadSame}
use Rattle.running_frame.proofs.Handlers.{same_stack}
use Rattle.running_frame.proofs.asking.pay_for.Goals as goal

pub returns-then-was-eq0-clause-kept : goal.returns-then-was-eq0-clause-kept
returns-then-was-eq0-clause-kept c = (same_stack c.args.stack.now, refl)

pub returns-in-Some-clause-pays : goal.returns-in-Some-clause-pays
returns-in-Some-clause-pays c =
    let paid : c.args.budget.now ≡ suc (c.args.budget.now - 1) = search (rules, arith) in
    paid

pub returns-in-Some-clause-enters : goal.returns-in-Some-clause-enters
returns-in-Some-clause-enters c = subst (λ o. IfSome o (λ _. EntersOver c.args.stack.now c.enter_over.new.stack c.args.call)) c.in-Some.is c.enter_over.ensures.enters

pub returns-in-None-clause-kept : goal.returns-in-None-clause-kept
returns-in-None-clause-kept c = (subst (λ o. IfNone o (ReadSame c.args.stack.now c.enter_over.new.stack)) c.in-None.is c.enter_over.ensures.kept, refl)

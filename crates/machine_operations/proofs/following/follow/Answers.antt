use Rattle.std.proofs.Common.{sym, subst}
use Rattle.machine_operations.specs.Following.{Follows, MayFollow}
use Rattle.machine_operations.proofs.Afterwards.{has_front, may_keep_before, keeps_before, may_test, test_follows}
use Rattle.machine_operations.proofs.following.follow.Goals as goal

pub register_before-to-requires-clause-there : goal.register_before-to-requires-clause-there
register_before-to-requires-clause-there c =
    let W = c.args.world.now in
    has_front (subst (λ after. MayFollow W c.args.pc after c.args.v) c.in-ToRegisterBefore.is c.requires.safe)

pub keep-requires-in-ToRegisterBefore-clause-safe : goal.keep-requires-in-ToRegisterBefore-clause-safe
keep-requires-in-ToRegisterBefore-clause-safe c =
    let W = c.args.world.now in
    may_keep_before (subst (λ after. MayFollow W c.args.pc after c.args.v) c.in-ToRegisterBefore.is c.requires.safe) c.register_before-to.ensures

pub advance-requires-in-Tests-clause-safe : goal.advance-requires-in-Tests-clause-safe
advance-requires-in-Tests-clause-safe c =
    let W = c.args.world.now in
    may_test (subst (λ after. MayFollow W c.args.pc after c.args.v) c.in-Tests.is c.requires.safe) (c.is_truthy.ensures W.strings) c.ahead_of-ahead.ensures.is

pub returns-in-ToRegisterBefore-clause-leads : goal.returns-in-ToRegisterBefore-clause-leads
returns-in-ToRegisterBefore-clause-leads c =
    let W = c.args.world.now in
    subst (λ after. Follows W c.keep-in-ToRegisterBefore.new.world c.args.pc after c.args.v) (sym c.in-ToRegisterBefore.is) (keeps_before c.register_before-to.ensures c.keep-in-ToRegisterBefore.ensures.leads)

pub returns-in-Tests-clause-leads : goal.returns-in-Tests-clause-leads
returns-in-Tests-clause-leads c =
    let W = c.args.world.now in
    subst (λ after. Follows W c.advance-in-Tests.new.world c.args.pc after c.args.v) (sym c.in-Tests.is)
    (test_follows (c.is_truthy.ensures W.strings) c.ahead_of-ahead.ensures.is c.advance-in-Tests.ensures.leads)

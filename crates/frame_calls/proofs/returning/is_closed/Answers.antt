use Rattle.std.proofs.Common.{◌≡◌, arith, rules, subst}
use Rattle.std.specs.Prelude.{IfSome}
use Rattle.frame_calls.specs.Standing.{IsClosedFrom}
use Rattle.frame_calls.proofs.returning.is_closed.Goals as goal

pub returns-in-Some : goal.returns-in-Some
returns-in-Some c = λ yes.
    let first : c.in-Some.register ≡ 0 = search (rules, arith) in
    subst (λ n. IsClosedFrom c.args.stack.now n) first (subst (λ o. IfSome o (λ register. IsClosedFrom c.args.stack.now register)) c.in-Some.is c.requires)

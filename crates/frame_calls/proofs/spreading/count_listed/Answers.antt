use Rattle.std.proofs.Common.{◌≡◌, ◌+◌, rules, arith, subst}
use Rattle.frame_calls.specs.Arguments.{by_list}
use Rattle.frame_calls.proofs.spreading.count_listed.Goals as goal

pub returns : goal.returns
returns c =
    let all : c.in_ok-end.end ≡ c.a-register.result + 1 + c.in_ok-given.given = search (rules, arith) in
    by_list c.requires.all c.in_ok-end.end c.in_ok-end.ensures (subst (λ a. c.in_ok-end.end ≡ a + 1 + c.in_ok-given.given) c.a-register.ensures all)

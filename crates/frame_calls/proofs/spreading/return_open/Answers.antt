use Rattle.std.proofs.Common.{◌≡◌, ◌+◌, rules, arith, subst}
use Rattle.std.proofs.lemmas.Option.{IfSome_then}
use Rattle.frame_calls.proofs.spreading.return_open.Goals as goal

pub returns-clause-returns : goal.returns-clause-returns
returns-clause-returns c =
    let all : c.in_ok-end.end ≡ c.a-register.result + c.in_ok-count.count = search (rules, arith) in
    IfSome_then c.return_counted.result c.return_counted.ensures.gives
    (λ o x. record {
      is_return = c.requires.all.0;
      takes_all = c.requires.all.1;
      end = c.in_ok-end.end;
      list = c.in_ok-end.ensures;
      count = c.in_ok-count.count;
      all = subst (λ a. c.in_ok-end.end ≡ a + c.in_ok-count.count) c.a-register.ensures all;
      gives_back = x;
    })

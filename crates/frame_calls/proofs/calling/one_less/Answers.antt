use Rattle.std.proofs.Common.{◌≡◌, ◌-◌, suc, arith, rules}
use Rattle.frame_calls.proofs.Calls.{none_less, some_less}
use Rattle.frame_calls.proofs.calling.one_less.Goals as goal

pub returns-then-n-eq0 : goal.returns-then-n-eq0
returns-then-n-eq0 c = none_less c.args.n (search rules)

pub returns : goal.returns
returns c =
    let more : c.args.n ≡ suc (c.args.n - 1) = search (rules, arith) in
    some_less c.args.n (c.args.n - 1) more

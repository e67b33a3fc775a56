use Rattle.std.proofs.Common.{◌≡◌, rules, true}
use Rattle.running_frame.proofs.asking.operated.Goals as goal

pub arithmetic-requires-clause-left : goal.arithmetic-requires-clause-left
arithmetic-requires-clause-left c =
    let yes : c.is_there.result ≡ true = search rules in
    c.is_there.ensures yes

pub arithmetic-requires-clause-right : goal.arithmetic-requires-clause-right
arithmetic-requires-clause-right c =
    let yes : c.is_there-2.result ≡ true = search rules in
    c.is_there-2.ensures yes

pub returns : goal.returns
returns c = c.arithmetic.ensures

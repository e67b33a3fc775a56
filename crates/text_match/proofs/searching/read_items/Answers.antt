use Rattle.std.proofs.Common.{◌≡◌, Err, rules}
use Rattle.text_match.proofs.Readings.{items_known, items_refused}
use Rattle.text_match.proofs.searching.read_items.Goals as goal

pub returns-in_err-items-clause-refused : goal.returns-in_err-items-clause-refused
returns-in_err-items-clause-refused c =
    let same : c.from_residual.result ≡ Err c.in_err-items.field-0.0 = search rules in
    rw same (items_refused c.args.pattern.now c.in_err-items.field-0.0 c.in_err-items.ensures.refused)

pub returns-clause-read : goal.returns-clause-read
returns-clause-read c = items_known c.args.pattern.now c.in_ok-items.items c.in_ok-items.ensures.read c.in_ok-items.ensures.few

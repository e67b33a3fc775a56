use Rattle.std.proofs.Common.{sym, ◌∙◌, ap, Some}
use Rattle.table_core.proofs.indexed.Indexed.replace.Goals as goal

pub returns-in-Some-clause-found : goal.returns-in-Some-clause-found
returns-in-Some-clause-found c =
    let is = c.in-Some.ensures in
    let done = c.set_value.ensures c.args.key is.value is.found in
    record { at = c.in-Some.at; found = is.found ∙ ap (λ v. Some (c.args.key, v)) (sym done.0); now = done.1 }

use Rattle.std.proofs.Common.{◌≡◌, Some, sym, ◌∙◌, ap}
use Rattle.table_core.proofs.PlaceLemmas.{value-at}
use Rattle.table_core.proofs.indexed.Indexed.value.Goals as goal

pub returns-in-Some : goal.returns-in-Some
returns-in-Some c =
    let is = c.in-Some.ensures in
    let same : c.index.result.now ≡ is.value = let found = value-at c.args.self.now.rows.entries c.in-Some.at c.args.key is.value is.found in cc in
    record { at = c.in-Some.at; found = is.found ∙ ap (λ v. Some (c.args.key, v)) (sym same) }

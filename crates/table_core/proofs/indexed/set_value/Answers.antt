use Rattle.std.proofs.Common.{◌≡◌, ◌∙◌, ap}
use Rattle.indexmap.specs.IndexMap.{set_value_at}
use Rattle.table_core.proofs.PlaceLemmas.{set_value_at-set, value-at}
use Rattle.table_core.proofs.indexed.set_value.Goals as goal

pub returns : goal.returns
returns c = λ key was found.
    let there = value-at c.args.rows.now.entries c.args.at key was found in
    let same : c.index_mut.result.now ≡ was = cc in
    (c.replace.ensures.value ∙ same, ap (λ w. set_value_at c.args.rows.now.entries c.args.at w) c.replace.ensures.after ∙ set_value_at-set c.args.rows.now.entries c.args.at key was c.args.value found)

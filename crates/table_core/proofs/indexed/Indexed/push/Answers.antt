use Rattle.std.proofs.Common.{◌∙◌, ap}
use Rattle.indexmap.proofs.CallerLemmas.{insert_entry-new}
use Rattle.int_core.proofs.RowsLemmas.{lookup-absent}
use Rattle.table_core.specs.Value.{lua_values, value_eq}
use Rattle.table_core.proofs.indexed.Indexed.push.Goals as goal

pub returns-clause-added : goal.returns-clause-added
returns-clause-added c =
    let rows = c.args.self.now.rows in
    ap (λ rows. rows.entries) c.add_hint.ensures
    ∙ c.in_ok-insert.ensures.entries ∙ insert_entry-new value_eq rows c.args.key c.args.value (lookup-absent lua_values rows.entries c.args.key c.requires)

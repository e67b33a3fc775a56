use Rattle.table_core.proofs.TableLemmas.{IsSome-by, not_nil_at}
use Rattle.table_core.proofs.table.Table.row.Goals as goal

pub unwrap-requires : goal.unwrap-requires
unwrap-requires c =
    let row = c.row-key.result in
    IsSome-by c.of.result (λ none. not_nil_at c.self.inside.rows c.args.at row.0 row.1 c.self.invariant.0.are_rows.no_nil c.row-key.ensures (c.of.ensures.none.0 none))

use Rattle.kept_tables.proofs.Rows.{all_rows}
use Rattle.kept_tables.proofs.tables_are_kept.Goals as goal

pub returns : goal.returns
returns c = all_rows c.equality_is_raw.ensures c.args.world.now.strings c.len.ensures.apart c.len.ensures.short c.args.world.now.tables.objects c.rows_are_kept.ensures

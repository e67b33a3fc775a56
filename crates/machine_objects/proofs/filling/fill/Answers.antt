use Rattle.std.proofs.Common.{refl}
use Rattle.std.specs.Prelude.{slice_set}
use Rattle.machine_objects.proofs.Filled.{fill_made}
use Rattle.machine_objects.proofs.filling.fill.Goals as goal

pub returns-clause-makes : goal.returns-clause-makes
returns-clause-makes c = λ env x slot ex es.
    let W = c.args.world.now in
    fill_made W (record W { tables = record W.tables { objects = slice_set W.tables.objects c.args.id.0 c.fill_rows.new.table } }) c.args.id.0 c.args.last c.args.values.now c.get_mut-table.result.now c.fill_rows.new.table
    c.requires.frame c.tables_are_read.ensures c.len.ensures.apart c.len.ensures.short c.get_mut-table.ensures.value c.in_ok-fill_rows.ensures.rows c.fill_rows.ensures.metatable refl refl env x slot ex es

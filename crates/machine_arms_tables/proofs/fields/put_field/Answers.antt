use Rattle.machine_arms_tables.proofs.Settling.{put_settles, object_kept}
use Rattle.machine_arms_tables.proofs.fields.put_field.Goals as goal

pub returns-clause-settles : goal.returns-clause-settles
returns-clause-settles c =
    put_settles c.tables_are_read.ensures c.args.tables.now.objects c.in_ok-id.id c.get_mut.result.now c.put.new.table c.args.object c.args.key c.args.v c.put.result
    c.in_ok-id.ensures.is c.get_mut.ensures.value c.put.ensures.takes c.put.ensures.put

pub returns-clause-kept : goal.returns-clause-kept
returns-clause-kept c = object_kept c.args.tables.now c.in_ok-id.id.0 c.get_mut.result.now c.put.new.table c.put.result c.get_mut.ensures.value c.put.ensures.kept

use Rattle.machine_arms_tables.proofs.Settling.{object_kept}
use Rattle.machine_arms_tables.proofs.upvalues.put_upvalue.Goals as goal

pub returns-clause-kept : goal.returns-clause-kept
returns-clause-kept c = object_kept c.args.cells.now c.in_ok-id.field-0.now.0 c.get_mut.result.now c.put_closed.new.cell c.put_closed.result c.get_mut.ensures.value c.put_closed.ensures.kept

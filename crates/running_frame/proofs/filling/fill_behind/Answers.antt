use Rattle.std.proofs.Common.{arith, rules}
use Rattle.running_frame.proofs.FilledOne.{fills_so, kept_so}
use Rattle.running_frame.proofs.filling.fill_behind.Goals as goal

pub integer_behind-key-requires : goal.integer_behind-key-requires
integer_behind-key-requires c = search (rules, arith)

pub returns-clause-fills : goal.returns-clause-fills
returns-clause-fills c =
    fills_so c.tables_are_read.ensures c.args.tables.now.objects c.args.id c.args.last c.get_mut.result.now c.put_row.new.table c.integer_behind-key.result c.args.item c.put_row.result
    c.get_mut.ensures.value c.integer_behind-key.ensures c.put_row.ensures.put

pub returns-clause-kept : goal.returns-clause-kept
returns-clause-kept c = kept_so c.args.tables.now.objects c.args.id.0 c.get_mut.result.now c.put_row.new.table c.put_row.result c.get_mut.ensures.value c.put_row.ensures.kept

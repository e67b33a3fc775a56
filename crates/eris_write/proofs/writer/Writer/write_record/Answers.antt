use Rattle.std.proofs.Common.{sym}
use Rattle.eris_write.proofs.Putting.{on_ok}
use Rattle.eris_write.proofs.Recorded.{part_written}
use Rattle.eris_write.proofs.writer.Writer.write_record.Goals as goal

pub returns-in-Table : goal.returns-in-Table
returns-in-Table c = on_ok c.write_table_at.result c.write_table_at.ensures (λ m fuel. part_written c.args.self.now c.args.out.now c.write_table_at.new.out c.args.object.number fuel _ c.args.object.sort (sym c.in-Table.is) (m fuel))

pub returns-in-Func : goal.returns-in-Func
returns-in-Func c = on_ok c.write_function_at.result c.write_function_at.ensures (λ m fuel. part_written c.args.self.now c.args.out.now c.write_function_at.new.out c.args.object.number fuel _ c.args.object.sort (sym c.in-Func.is) (m fuel))

pub returns-in-Cell : goal.returns-in-Cell
returns-in-Cell c = on_ok c.write_cell_at.result c.write_cell_at.ensures (λ m fuel. part_written c.args.self.now c.args.out.now c.write_cell_at.new.out c.args.object.number fuel _ c.args.object.sort (sym c.in-Cell.is) (m fuel))

pub returns-in-Coro : goal.returns-in-Coro
returns-in-Coro c = on_ok c.write_coroutine_at.result c.write_coroutine_at.ensures (λ m fuel. part_written c.args.self.now c.args.out.now c.write_coroutine_at.new.out c.args.object.number fuel _ c.args.object.sort (sym c.in-Coro.is) (m fuel))

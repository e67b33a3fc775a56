use Rattle.graph_core.specs.declared.object.Sort.TheVariants.{Table, Func, Cell, Coro}
use Rattle.graph_core.proofs.Meeting.{of_sort}
use Rattle.graph_core.proofs.walk.Walk.meet_parts.Goals as goal

pub returns-in-Table : goal.returns-in-Table
returns-in-Table c = of_sort c.args.self.now c.args.seen.now.keys c.meet_table_at.new.seen.keys c.args.object.sort Table c.args.object.number c.meet_table_at.result c.in-Table.is c.meet_table_at.ensures

pub returns-in-Func : goal.returns-in-Func
returns-in-Func c = of_sort c.args.self.now c.args.seen.now.keys c.meet_function_at.new.seen.keys c.args.object.sort Func c.args.object.number c.meet_function_at.result c.in-Func.is c.meet_function_at.ensures

pub returns-in-Cell : goal.returns-in-Cell
returns-in-Cell c = of_sort c.args.self.now c.args.seen.now.keys c.meet_cell_at.new.seen.keys c.args.object.sort Cell c.args.object.number c.meet_cell_at.result c.in-Cell.is c.meet_cell_at.ensures

pub returns-in-Coro : goal.returns-in-Coro
returns-in-Coro c = of_sort c.args.self.now c.args.seen.now.keys c.meet_coroutine_at.new.seen.keys c.args.object.sort Coro c.args.object.number c.meet_coroutine_at.result c.in-Coro.is c.meet_coroutine_at.ensures

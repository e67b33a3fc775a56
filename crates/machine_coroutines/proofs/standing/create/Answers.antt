use Rattle.std.proofs.Common.{sym, subst}
use Rattle.lua_heap.specs.Cells.{CellsAreListed}
use Rattle.move_laws.specs.Memory.{HasStack}
use Rattle.machine_coroutines.proofs.Stood.{created_listed, created_runs, creates_is, on_both}
use Rattle.machine_coroutines.proofs.standing.create.Goals as goal
use Rattle.machine_moves.proofs.NewObjects.{if_ok_on}

pub returns-clause-makes : goal.returns-clause-makes
returns-clause-makes c =
    if_ok_on c.add_coro.result c.add_coro.ensures.id c.add_coro.ensures.added (λ id n a env x e. creates_is c.args.world.now c.add_coro.new.self c.args.body id.0 env x c.requires a n e)

pub returns-clause-listed : goal.returns-clause-listed
returns-clause-listed c = λ l.
    on_both c.add_coro.result c.add_coro.ensures.added c.add_coro.ensures.err (λ a. created_listed c.cells_stay_listed.ensures a l) (λ e. subst CellsAreListed (sym e) l)

pub returns-clause-running : goal.returns-clause-running
returns-clause-running c = λ h. on_both c.add_coro.result c.add_coro.ensures.added c.add_coro.ensures.err (λ a. created_runs a h) (λ e. subst HasStack (sym e) h)

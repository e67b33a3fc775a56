use Rattle.std.proofs.Common.{[], map, ap, ◌∙◌}
use Rattle.lua_heap.specs.Cells.{open_cells_in}
use Rattle.move_laws.proofs.Running.{has_stack}
use Rattle.move_laws.proofs.Order.{lists_same}
use Rattle.machine_moves.proofs.OnRunning.{changes_on, popped_on, runs_on}
use Rattle.machine_calls.proofs.Left.{frame_there}
use Rattle.machine_calls.proofs.leaving.pop_closed.Goals as goal

pub running_stack_mut-requires : goal.running_stack_mut-requires
running_stack_mut-requires c = has_stack c.args.world.now c.requires.place c.requires.is

pub pop-requires-clause-there : goal.pop-requires-clause-there
pop-requires-clause-there c =
    let r = c.running_stack_mut.ensures.runs.runs in
    frame_there c.args.world.now c.running_stack_mut.ensures.runs.co c.running_stack_mut.result.now c.requires.place r c.requires.is

pub pop-requires-clause-closed : goal.pop-requires-clause-closed
pop-requires-clause-closed c = λ f below t h.
    let r = c.running_stack_mut.ensures.runs.runs in
    c.requires.none c.running_stack_mut.ensures.runs.co c.running_stack_mut.result.now r

pub returns-clause-makes : goal.returns-clause-makes
returns-clause-makes c = popped_on c.running_stack_mut.ensures.runs c.pop.new.self [] c.pop.ensures.frames

pub returns-clause-running : goal.returns-clause-running
returns-clause-running c = runs_on c.running_stack_mut.ensures.runs c.pop.new.self

pub returns-clause-listed : goal.returns-clause-listed
returns-clause-listed c =
    let r = c.running_stack_mut.ensures.runs in
    ap (map open_cells_in) (changes_on r c.pop.new.self).objects
    ∙ lists_same c.args.world.now.coros.objects r.co.0 c.running_stack_mut.result.now c.pop.new.self r.runs.there c.pop.ensures.cells

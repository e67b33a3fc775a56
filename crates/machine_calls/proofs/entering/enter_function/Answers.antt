use Rattle.machine_moves.proofs.OnTop.{on_err}
use Rattle.machine_moves.proofs.OnRunning.{changes_on, kept_on, listed_on, runs_on}
use Rattle.machine_calls.proofs.Entered.{entered_so, if_ok_all}
use Rattle.machine_calls.proofs.entering.enter_function.Goals as goal

pub returns-clause-enters : goal.returns-clause-enters
returns-clause-enters c =
    let W = c.args.world.now in
    let r = c.running_stack_mut.ensures.runs.runs in
    if_ok_all c.enter_stack.result c.enter_stack.ensures.room c.enter_stack.ensures.entered c.enter_stack.ensures.kept (λ room q e k.
    entered_so W _ c.running_stack_mut.ensures.runs.co c.running_stack_mut.result.now c.enter_stack.new.stack c.args.function c.shape_of-shape.result c.args.arguments.now c.shape_of-shape.ensures r room
    (record { room_is = q; entered = e; kept = k }) (changes_on c.running_stack_mut.ensures.runs c.enter_stack.new.stack) (λ f. kept_on c.running_stack_mut.ensures.runs c.enter_stack.new.stack (k f)))

pub returns-clause-running : goal.returns-clause-running
returns-clause-running c = runs_on c.running_stack_mut.ensures.runs c.enter_stack.new.stack

pub returns-clause-err : goal.returns-clause-err
returns-clause-err c = on_err c.enter_stack.result c.enter_stack.ensures.err (λ e. kept_on c.running_stack_mut.ensures.runs c.enter_stack.new.stack e)

pub returns-clause-listed : goal.returns-clause-listed
returns-clause-listed c = listed_on c.running_stack_mut.ensures.runs c.enter_stack.new.stack c.enter_stack.ensures.cells

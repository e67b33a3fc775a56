use Rattle.machine_moves.proofs.OnTop.{if_ok, on_err}
use Rattle.machine_moves.proofs.OnRunning.{changes_on, kept_on, listed_on}
use Rattle.machine_coroutines.proofs.Ended.{if_ok_one}
use Rattle.machine_coroutines.proofs.beginning.push_closing.Goals as goal

pub returns-clause-pushes : goal.returns-clause-pushes
returns-clause-pushes c =
    let r = c.running_stack_mut.ensures.runs.runs in
    if_ok c.push_on.result c.push_on.ensures.room c.push_on.ensures.pushed (λ room q e. record {
      co = c.running_stack_mut.ensures.runs.co;
      before = c.running_stack_mut.result.now;
      after = c.push_on.new.stack;
      runs = r;
      changes = changes_on c.running_stack_mut.ensures.runs c.push_on.new.stack;
      room_is = q;
      frames = e;
    })

pub returns-clause-same : goal.returns-clause-same
returns-clause-same c = if_ok_one c.push_on.result c.push_on.ensures.same (λ room k b. kept_on c.running_stack_mut.ensures.runs c.push_on.new.stack (k b))

pub returns-clause-err : goal.returns-clause-err
returns-clause-err c = on_err c.push_on.result c.push_on.ensures.err (λ e. kept_on c.running_stack_mut.ensures.runs c.push_on.new.stack e)

pub returns-clause-listed : goal.returns-clause-listed
returns-clause-listed c = listed_on c.running_stack_mut.ensures.runs c.push_on.new.stack c.push_on.ensures.cells

use Rattle.machine_moves.specs.Tops.{kept_over}
use Rattle.machine_moves.proofs.OnTop.{pushed_is, if_ok, on_err}
use Rattle.machine_moves.proofs.OnRunning.{changes_on, kept_on, listed_on}
use Rattle.machine_moves.proofs.tops.push_frame.Goals as goal

pub returns-clause-makes : goal.returns-clause-makes
returns-clause-makes c =
    let r = c.running_stack_mut.ensures.runs.runs in
    if_ok c.push_over.result c.push_over.ensures.room c.push_over.ensures.pushed (λ room q e env what same.
    pushed_is c.args.world.now _ c.running_stack_mut.ensures.runs.co c.running_stack_mut.result.now c.push_over.new.stack (kept_over c.args.over) room env what r (changes_on c.running_stack_mut.ensures.runs c.push_over.new.stack) q e same)

pub returns-clause-err : goal.returns-clause-err
returns-clause-err c = on_err c.push_over.result c.push_over.ensures.err (λ e. kept_on c.running_stack_mut.ensures.runs c.push_over.new.stack e)

pub returns-clause-listed : goal.returns-clause-listed
returns-clause-listed c = listed_on c.running_stack_mut.ensures.runs c.push_over.new.stack c.push_over.ensures.cells

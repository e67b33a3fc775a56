use Rattle.move_laws.proofs.Running.{stack_runs}
use Rattle.machine_coroutines.proofs.Stood.{suspends_is}
use Rattle.machine_coroutines.proofs.standing.suspend.Goals as goal

pub returns-clause-makes : goal.returns-clause-makes
returns-clause-makes c = λ env.
    let W = c.args.world.now in
    let r = stack_runs W c.requires in
    suspends_is W c.suspend_running.new.self r.co r.stack c.runs_main-in_main.result env r.runs c.runs_main-in_main.ensures c.suspend_running.ensures.plain

use Rattle.move_laws.proofs.Running.{stack_runs}
use Rattle.machine_coroutines.proofs.Ended.{fails_is}
use Rattle.machine_coroutines.proofs.ends.fail_coroutine.Goals as goal

pub returns-clause-makes : goal.returns-clause-makes
returns-clause-makes c = λ env x e.
    let W = c.args.world.now in
    let r = stack_runs W c.requires.running in
    fails_is W c.end_as.new.world r.co r.stack c.args.error c.args.pending.items env x r.runs c.requires.pending e c.end_as.ensures.ends

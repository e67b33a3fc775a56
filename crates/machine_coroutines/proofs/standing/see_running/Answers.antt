use Rattle.machine_coroutines.proofs.Stood.{running_is}
use Rattle.machine_coroutines.proofs.standing.see_running.Goals as goal

pub returns : goal.returns
returns c = λ env. running_is c.args.world.now c.running.result c.running.ensures.stack env c.running.ensures.runs

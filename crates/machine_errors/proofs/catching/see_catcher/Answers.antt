use Rattle.machine_errors.proofs.Caught.{catcher_seen}
use Rattle.machine_errors.proofs.catching.see_catcher.Goals as goal

pub returns : goal.returns
returns c = λ env. catcher_seen c.args.world.now c.running_stack.ensures.co c.running_stack.result.now c.catcher.result env c.running_stack.ensures.runs c.catcher.ensures.told

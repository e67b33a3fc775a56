use Rattle.machine_moves.proofs.OnTop.{top_seen}
use Rattle.machine_moves.proofs.tops.see_top.Goals as goal

pub returns-clause-makes : goal.returns-clause-makes
returns-clause-makes c = λ env. top_seen c.args.world.now c.running_stack.ensures.co c.running_stack.result.now c.top.result env c.running_stack.ensures.runs c.top.ensures.frame

use Rattle.std.proofs.Common.{subst}
use Rattle.lua_stack.specs.Frames.{KeptStack, ArePending}
use Rattle.machine_moves.proofs.OnTop.{same_stack}
use Rattle.machine_coroutines.proofs.Ended.{if_ok_one}
use Rattle.machine_coroutines.proofs.ends.pending_values.Goals as goal

pub returns : goal.returns
returns c =
    let q = c.running_stack.ensures in
    if_ok_one c.pending_values.result c.pending_values.ensures (λ found p co s r.
    subst (λ (s : KeptStack). ArePending s found.items) (same_stack c.args.world.now q.co co c.running_stack.result.now s q.runs r) p)

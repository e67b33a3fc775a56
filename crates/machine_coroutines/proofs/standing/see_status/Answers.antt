use Rattle.machine_coroutines.specs.Standing.{status_in}
use Rattle.machine_coroutines.proofs.Stood.{sees_is}
use Rattle.machine_coroutines.proofs.standing.see_status.Goals as goal

pub returns : goal.returns
returns c = λ env x q.
    let W = c.args.world.now in
    sees_is W c.args.co c.get.result.now (status_in c.status_of.result) env x c.get.ensures (c.status_of.ensures W.strings) q

use Rattle.graph_core.specs.Permanents.{permanents}
use Rattle.eris_read.proofs.Whole.{loads_read, back}
use Rattle.eris_read.proofs.unpersisting.unpersist.Goals as goal

pub returns-in-Ok-clause-loaded : goal.returns-in-Ok-clause-loaded
returns-in-Ok-clause-loaded c =
    loads_read c.args.world.now c.load.new.world (permanents c.args.permanents.now) c.args.roots c.args.bytes.now c.in_ok-image.image c.in-Ok.values.items
    c.in_ok-image.ensures c.in-Ok.ensures.loads c.in-Ok.ensures.order

pub returns-in-Err-clause-err : goal.returns-in-Err-clause-err
returns-in-Err-clause-err c =
    back c.args.world.now c.load.new.world c.release_to.new.self c.mark-mark.result (permanents c.args.permanents.now) c.mark-mark.ensures c.load.ensures.back c.release_to.ensures c.requires

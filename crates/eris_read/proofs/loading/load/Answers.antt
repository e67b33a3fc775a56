use Rattle.graph_core.specs.Permanents.{permanents}
use Rattle.eris_read.proofs.Composed.{loads_ok}
use Rattle.eris_read.proofs.loading.load.Goals as goal

pub returns-clause-loads : goal.returns-clause-loads
returns-clause-loads c =
    loads_ok c.in_ok-places.places.items c.deref-2.result.now c.in_ok-known.known c.args.world.now c.load_by.new.world (permanents c.args.permanents.now) c.args.image c.deref.result.now c.load_by.result
    c.requires c.deref.ensures.value c.in_ok-places.ensures c.in_ok-known.ensures c.deref-2.ensures.value c.load_by.ensures.loads

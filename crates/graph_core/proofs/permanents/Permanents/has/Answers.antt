use Rattle.graph_core.specs.Permanents.{key_read}
use Rattle.graph_core.proofs.Pairs.{has_some, has_none}
use Rattle.graph_core.proofs.permanents.Permanents.has.Goals as goal

pub returns-in-Some : goal.returns-in-Some
returns-in-Some c = has_some c.args.self.now.keys.entries c.args.object c.in-Some.own.now c.args.key.now c.eq.result c.in-Some.ensures.value c.eq.ensures

pub returns-in-None : goal.returns-in-None
returns-in-None c = has_none c.args.self.now.keys.entries c.args.object (key_read c.args.key.now) c.in-None.ensures.value

use Rattle.chunk_check.proofs.WalkLemmas.{own_stops}
use Rattle.chunk_check.proofs.walk.own_fault.Goals as goal

pub returns-in-Some : goal.returns-in-Some
returns-in-Some c = own_stops c.args.function c.args.proto.now c.in-Some.rule c.args.proto.now.own.code c.in-Some.ensures

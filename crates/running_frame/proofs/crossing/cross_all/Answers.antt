use Rattle.frame_calls.proofs.Chained.{reaches_none, reaches_then}
use Rattle.running_frame.proofs.crossing.cross_all.Goals as goal

pub loop-init : goal.loop-init
loop-init g c = record { reaches = reaches_none g.outside.rows _; may = c.requires.0 }

pub cross_next-requires : goal.cross_next-requires
cross_next-requires g c = (c.loop.invariant.may, c.requires.1)

pub returns-in_default-clause-reaches : goal.returns-in_default-clause-reaches
returns-in_default-clause-reaches g c = reaches_then g.outside.rows c.loop.invariant.reaches c.cross_next.ensures.reaches

pub loop-preserved : goal.loop-preserved
loop-preserved g c = record {
  reaches = reaches_then g.outside.rows c.loop.invariant.reaches c.cross_next.ensures.reaches;
  may = c.cross_next.ensures.may;
}

use Rattle.std.proofs.Common.{◌≡◌, [], length, refl, rules}
use Rattle.library_rows.specs.Library.{all_entries}
use Rattle.frame_calls.proofs.Chained.{reaches_none, reaches_then}
use Rattle.running_frame.proofs.Apart.{apart_there, ready_there}
use Rattle.running_frame.proofs.ahead.run_frames.Goals as goal

pub loop-init : goal.loop-init
loop-init g c = record { reaches = reaches_none g.rows _; ready = c.requires.1.0; still = c.requires.1.1 }

pub cross_frames-requires : goal.cross_frames-requires
cross_frames-requires g c = record { is = refl; safe = c.requires.0; ready = c.loop.invariant.ready; still = c.loop.invariant.still }

pub find_here-found-requires : goal.find_here-found-requires
find_here-found-requires g c = record { ready = c.cross_frames.ensures.ready }

pub returns-then-left-clause-reaches : goal.returns-then-left-clause-reaches
returns-then-left-clause-reaches g c = reaches_then g.rows c.loop.invariant.reaches c.cross_frames.ensures.reaches

pub run_frame-requires : goal.run_frame-requires
run_frame-requires g c =
    let still : c.cross_frames.new.world.moving.items ≡ [] = search rules in
    apart_there (length all_entries) g.rows c.cross_frames.new.world c.requires.0 c.cross_frames.ensures.ready still

pub returns-in-Some-clause-reaches : goal.returns-in-Some-clause-reaches
returns-in-Some-clause-reaches g c = reaches_then g.rows (reaches_then g.rows c.loop.invariant.reaches c.cross_frames.ensures.reaches) c.run_frame.ensures.reaches

pub returns-in-Some-clause-ready : goal.returns-in-Some-clause-ready
returns-in-Some-clause-ready g c =
    ready_there (length all_entries) g.rows c.cross_frames.new.world c.run_frame.new.world c.cross_frames.new.budget c.run_frame.new.budget c.requires.0 c.cross_frames.ensures.ready c.run_frame.ensures.order c.run_frame.ensures.reaches

pub loop-preserved : goal.loop-preserved
loop-preserved g c =
    let still : c.run_frame.new.world.moving.items ≡ [] = search rules in
    record {
      reaches = reaches_then g.rows (reaches_then g.rows c.loop.invariant.reaches c.cross_frames.ensures.reaches) c.run_frame.ensures.reaches;
      ready = ready_there (length all_entries) g.rows c.cross_frames.new.world c.run_frame.new.world c.cross_frames.new.budget c.run_frame.new.budget c.requires.0 c.cross_frames.ensures.ready c.run_frame.ensures.order c.run_frame.ensures.reaches;
      still = still;
    }

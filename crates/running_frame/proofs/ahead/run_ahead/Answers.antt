use Rattle.std.proofs.Common.{length}
use Rattle.library_rows.specs.Library.{all_entries}
use Rattle.running_frame.proofs.Apart.{ready_there}
use Rattle.frame_calls.proofs.Chained.{reaches_then}
use Rattle.running_frame.proofs.ahead.run_ahead.Goals as goal

pub find_here-requires : goal.find_here-requires
find_here-requires g c =
    let t = c.is_taken-still.ensures in
    record { ready = ready_there (length all_entries) g.rows c.args.world.now c.is_taken-still.new.world c.args.budget.now c.args.budget.now c.requires.0 c.requires.1 t.order (t.reaches g.rows c.args.budget.now) }

pub returns-then-not-still-clause-reaches : goal.returns-then-not-still-clause-reaches
returns-then-not-still-clause-reaches g c = c.is_taken-still.ensures.reaches g.rows c.args.budget.now

pub returns-then-not-still-clause-ready : goal.returns-then-not-still-clause-ready
returns-then-not-still-clause-ready g c =
    let t = c.is_taken-still.ensures in
    ready_there (length all_entries) g.rows c.args.world.now c.is_taken-still.new.world c.args.budget.now c.args.budget.now c.requires.0 c.requires.1 t.order (t.reaches g.rows c.args.budget.now)

pub run_frames-requires : goal.run_frames-requires
run_frames-requires g c =
    let t = c.is_taken-still.ensures in (
      c.requires.0,
      (
        ready_there (length all_entries) g.rows c.args.world.now c.is_taken-still.new.world c.args.budget.now c.args.budget.now c.requires.0 c.requires.1 t.order (t.reaches g.rows c.args.budget.now),
        t.still c.if-not-still.false,
      ),
    )

pub returns-clause-reaches : goal.returns-clause-reaches
returns-clause-reaches g c = reaches_then g.rows (c.is_taken-still.ensures.reaches g.rows c.args.budget.now) c.run_frames.ensures.reaches

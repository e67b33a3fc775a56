-- One more write makes the front that was written longer.
use Rattle.std.proofs.Common.{rules}
use Rattle.io_edge.proofs.Options.{grows_on}
use Rattle.io_edge.proofs.output.write_all.Goals as goal

pub loop-done-preserved : goal.loop-done-preserved
loop-done-preserved g c =
    record {
      within = search rules;
      written = grows_on c.args.bytes.now c.loop-done.done _ (g.K.Sink.written c.args.out.now) (g.K.Sink.written c.loop-done.out) _
          c.loop-done.invariant.written (search rules);
      faults = search rules;
    }

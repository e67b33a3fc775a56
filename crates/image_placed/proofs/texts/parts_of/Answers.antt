use Rattle.std.proofs.Common.{rules}
use Rattle.image_placed.proofs.MoreAdded.{adds_none, adds_then, parts_more}
use Rattle.image_placed.proofs.texts.parts_of.Goals as goal

pub loop-record-preserved : goal.loop-record-preserved
loop-record-preserved c = record {
  added = adds_then _ _ _ c.loop-record.invariant.added c.add_part.ensures.added;
  codes = c.add_part.ensures.added.codes c.loop-record.invariant.codes;
  parts = parts_more c.loop-record.world c.add_part.new.world c.loop-record.parts.items _ c.loop-record.yielded _ _ c.add_part.ensures.added c.loop-record.invariant.parts c.in_ok-part.ensures.part c.in_ok-push.ensures.items;
}

pub returns-in_err-part-clause-added : goal.returns-in_err-part-clause-added
returns-in_err-part-clause-added c = adds_then c.args.world.now c.loop-record.world c.add_part.new.world c.loop-record.invariant.added c.add_part.ensures.added

pub returns-in_err-push-clause-added : goal.returns-in_err-push-clause-added
returns-in_err-push-clause-added c = adds_then c.args.world.now c.loop-record.world c.add_part.new.world c.loop-record.invariant.added c.add_part.ensures.added

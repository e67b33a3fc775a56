use Rattle.std.proofs.Common.{◌∙◌}
use Rattle.text_format.proofs.Fills.{one_more}
use Rattle.text_format.proofs.padding.append_repeated.Goals as goal

pub loop-preserved : goal.loop-preserved
loop-preserved c = c.in_ok-push.ensures.items ∙ one_more c.args.out.now.items c.loop.out.items c.loop.counter c.args.byte c.loop.invariant

use Rattle.std.proofs.Common.{map, ap, ◌∙◌}
use Rattle.graph_core.specs.Objects.{part}
use Rattle.graph_core.proofs.Meeting.{inserted}
use Rattle.graph_core.proofs.object.meet.Goals as goal

pub returns : goal.returns
returns c = ap (map part) c.in_ok-insert.ensures.keys ∙ inserted c.args.seen.now.keys c.args.object

use Rattle.std.proofs.Common.{◌∙◌}
use Rattle.graph_core.specs.declared.object.Sort.TheVariants.{Coro}
use Rattle.graph_core.proofs.Meeting.{met_any}
use Rattle.eris_write.proofs.writer.Writer.is_inside.Goals as goal

pub returns : goal.returns
returns c = c.contains.ensures ∙ met_any c.args.self.now.numbering.now.reached.keys (record { sort = Coro; number = c.args.coro.0 })

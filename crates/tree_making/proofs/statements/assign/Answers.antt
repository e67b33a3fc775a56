use Rattle.std.proofs.Common.{ap, ◌∙◌}
use Rattle.tree_core.specs.Plain.{plain_stat}
use Rattle.tree_core.proofs.Rows.{plain-assign}
use Rattle.tree_making.proofs.statements.assign.Goals as goal

pub returns : goal.returns
returns c = record {
  node = ap plain_stat c.stat.ensures.node ∙ (plain-assign c.args.line c.args.targets.node c.args.values.node);
  levels = c.stat.ensures.levels ∙ c.max-height.ensures;
}

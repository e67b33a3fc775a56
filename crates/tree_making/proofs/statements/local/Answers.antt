use Rattle.std.proofs.Common.{ap, ◌∙◌}
use Rattle.tree_core.specs.Plain.{plain_stat}
use Rattle.tree_core.proofs.Rows.{plain-local}
use Rattle.tree_making.proofs.statements.local.Goals as goal

pub returns : goal.returns
returns c = record {
  node = ap plain_stat c.stat.ensures.node ∙ (plain-local c.args.line c.args.names c.args.values.node);
  levels = c.stat.ensures.levels;
}

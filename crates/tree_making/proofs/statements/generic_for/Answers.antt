use Rattle.std.proofs.Common.{ap, ◌∙◌}
use Rattle.tree_core.specs.Tree as tree
use Rattle.tree_core.specs.Plain.{plain_stat, plain_exps, plain_block}
use Rattle.tree_core.proofs.Rows.{plain-gen_for}
use Rattle.tree_making.proofs.statements.generic_for.Goals as goal

pub returns : goal.returns
returns c = record {
  node = ap plain_stat c.stat.ensures.node ∙ (plain-gen_for c.args.line c.args.names c.args.values.node c.in_ok-new.field-0 ∙ ap (λ b. tree.GenFor c.args.line c.args.names.items (tree.exps (plain_exps c.args.values.node.items)) (plain_block b)) c.in_ok-new.ensures.ok);
  levels = c.stat.ensures.levels ∙ c.max-height.ensures;
}

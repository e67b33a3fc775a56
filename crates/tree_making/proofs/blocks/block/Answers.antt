use Rattle.std.proofs.Common.{Vec, Global, map, refl, ap, ◌∙◌}
use Rattle.std.specs.Option.{option_map}
use Rattle.tree_core.specs.declared.tree.Exp.{Exp}
use Rattle.tree_core.specs.declared.tree.Block.{out-roll-Block}
use Rattle.tree_core.specs.Plain.{plain_stat, plain_exps, block_of}
use Rattle.tree_core.proofs.Rows.{plain-block}
use Rattle.tree_making.proofs.blocks.block.Goals as goal

pub returns : goal.returns
returns c = record {
  node = (plain-block _ ∙ ap (λ b. block_of (map plain_stat b.stats.items) (option_map (λ (es : Vec Exp Global). plain_exps es.items) b.result) b.tokens b.line) (out-roll-Block (record { stats = c.args.items.node.stats; result = c.args.items.node.result; tokens = c.args.tokens; line = c.args.items.node.line })));
  levels = refl;
}

use Rattle.std.proofs.Common.{◌≡◌, map, Option, Some, None, Box, Global, refl, ap, ◌∙◌}
use Rattle.std.specs.Option.{option_map}
use Rattle.tree_core.specs.declared.tree.Block.{Block}
use Rattle.tree_core.specs.Plain.{plain_stat, plain_arm, plain_block, if_of}
use Rattle.tree_core.proofs.Rows.{plain-if}
use Rattle.tree_making.proofs.statements.if_stat.Goals as goal

in_box : (b : Option (Box Block Global)) → option_map (λ (x : Box Block Global). plain_block x.value) b ≡ option_map plain_block (option_map (λ (x : Box Block Global). x.value) b)
in_box None = refl
in_box (Some b) = refl

pub returns : goal.returns
returns c = record {
  node = ap plain_stat c.stat.ensures.node ∙ (plain-if c.args.line c.args.arms.node c.in_ok-last.last ∙ ap (if_of c.args.line (map plain_arm c.args.arms.node.items)) (in_box c.in_ok-last.last ∙ ap (option_map plain_block) c.in_ok-last.ensures));
  levels = c.stat.ensures.levels ∙ c.max-height.ensures;
}

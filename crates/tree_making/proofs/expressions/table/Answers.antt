use Rattle.std.proofs.Common.{◌≡◌, refl}
use Rattle.tree_core.proofs.Rows.{plain-table}
use Rattle.tree_making.proofs.MadeLemmas.{made_as}
use Rattle.tree_making.proofs.expressions.table.Goals as goal

pub returns : goal.returns
returns c = made_as c.exp.result _ _ _ _ c.exp.ensures.node c.exp.ensures.levels (plain-table c.args.line c.args.fields.node) refl

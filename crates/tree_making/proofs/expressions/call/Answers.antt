use Rattle.std.proofs.Common.{◌≡◌, ◌+◌, refl, ap}
use Rattle.tree_core.proofs.Rows.{plain-call}
use Rattle.tree_making.proofs.MadeLemmas.{made_as}
use Rattle.tree_making.proofs.expressions.call.Goals as goal

pub returns : goal.returns
returns c = made_as c.exp.result _ _ _ _ c.exp.ensures.node c.exp.ensures.levels (plain-call c.args.line c.args.called.node c.args.arguments.node) (ap (λ n. n + 1) c.max-height.ensures)

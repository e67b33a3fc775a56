use Rattle.std.proofs.Common.{rules, ◌≡◌, length, sym, ap₂, ◌∙◌}
use Rattle.std.proofs.lemmas.Result.{on_ok_weaker}
use Rattle.tree_core.specs.Tree as tree
use Rattle.tree_core.specs.Plain.{plain_exps}
use Rattle.code_of.specs.ConstantOperands.{stored_constant}
use Rattle.code_of.specs.Constants.{with_any}
use Rattle.code_constants.proofs.Rows.{single, several_targets, several_values}
use Rattle.code_constants.proofs.constants.Constants.add_stored.Goals as goal

pub returns-then-len-ne1 : goal.returns-then-len-ne1
returns-then-len-ne1 c =
    let ts = c.args.targets.now.items in
    let size : c.len.result ≡ length ts = search rules in
    several_targets ts (tree.exps (plain_exps c.args.values.now.items)) c.args.self.now (λ h. c.if-len-ne1.true (size ∙ h))

pub returns-then-len-ne1-2 : goal.returns-then-len-ne1-2
returns-then-len-ne1-2 c =
    let es = c.args.values.now.items in
    let size : c.len-2.result ≡ length es = search rules in
    several_values (tree.exps (plain_exps c.args.targets.now.items)) es c.args.self.now (λ h. c.if-len-ne1-2.true (size ∙ h))

pub returns : goal.returns
returns c =
    let targets = single c.args.targets.now.items c.index-target.result.now (search rules) (search rules) in
    let values = single c.args.values.now.items c.index-value.result.now (search rules) (search rules) in
    on_ok_weaker c.add_target.result
    (λ h. h ∙ ap₂ (λ x y. with_any (stored_constant x y) c.args.self.now) (sym targets) (sym values)) c.add_target.ensures

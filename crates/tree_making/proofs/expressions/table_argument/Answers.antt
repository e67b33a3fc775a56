use Rattle.std.proofs.Common.{◌≡◌, ◌∷◌, [], IfOk, ap, ◌∙◌, subst}
use Rattle.tree_core.specs.Plain.{plain_exp}
use Rattle.tree_core.proofs.Rows.{plain-table}
use Rattle.tree_making.specs.Made.{IsMade, all_plain, plain_boxed}
use Rattle.tree_making.proofs.expressions.table_argument.Goals as goal

pub returns : goal.returns
returns c =
    let node = ap plain_exp c.in_ok-exp.ensures.node ∙ plain-table c.args.line c.args.fields.node in
    subst (λ e. IfOk c.one_exp.result (λ made. IsMade all_plain made (e ∷ []) c.args.fields.height)) node (subst (λ n. IfOk c.one_exp.result (λ made. IsMade all_plain made (plain_boxed c.in_ok-exp.field-0.node ∷ []) n)) c.in_ok-exp.ensures.levels c.one_exp.ensures)

use Rattle.std.proofs.Common.{◌≡◌, ap, sym, ◌∙◌}
use Rattle.std.proofs.lemmas.Result.{on_ok_weaker}
use Rattle.tree_core.specs.Tree as tree
use Rattle.tree_core.specs.Plain.{plain_exp, plain_exp_node, plain_exps}
use Rattle.tree_core.proofs.Rows.{plain-call, plain-method}
use Rattle.code_core.specs.declared.proto.Const.TheVariants.{Str}
use Rattle.code_of.specs.Constants.{of_exp, of_exps, with_constant}
use Rattle.code_constants.proofs.constants.Constants.+collecting.Goals as goal

pub add_exp-returns-in_ok-add_exp-in-Call : goal.add_exp-returns-in_ok-add_exp-in-Call
add_exp-returns-in_ok-add_exp-in-Call t c =
    let es = tree.exps (plain_exps c.in-Call.arguments.items) in
    let is : plain_exp c.args.exp.now ≡ tree.Call c.args.exp.now.line (plain_exp c.in-Call.called.value) es =
    ap (λ node. plain_exp_node node c.args.exp.now.line) c.in-Call.is ∙ plain-call c.args.exp.now.line c.in-Call.called c.in-Call.arguments in
    let first : c.add_exp-in-Call.new.self ≡ of_exp (plain_exp c.in-Call.called.value) c.args.self.now =
    c.in_ok-add_exp-in-Call.ensures ∙ ap (λ e. of_exp (plain_exp e) c.args.self.now) c.deref-in-Call.ensures in
    on_ok_weaker c.add_exps.result (λ h. h ∙ ap (of_exps es) first ∙ ap (λ e. of_exp e c.args.self.now) (sym is)) c.add_exps.ensures

pub add_exp-returns-in_ok-add_text-in-Method : goal.add_exp-returns-in_ok-add_text-in-Method
add_exp-returns-in_ok-add_text-in-Method t c =
    let es = tree.exps (plain_exps c.in-Method.arguments.items) in
    let is : plain_exp c.args.exp.now ≡ tree.Method c.args.exp.now.line (plain_exp c.in-Method.object.value) c.in-Method.name es =
    ap (λ node. plain_exp_node node c.args.exp.now.line) c.in-Method.is ∙ plain-method c.args.exp.now.line c.in-Method.object c.in-Method.name c.in-Method.arguments in
    let first : c.add_exp-in-Method.new.self ≡ of_exp (plain_exp c.in-Method.object.value) c.args.self.now =
    c.in_ok-add_exp-in-Method.ensures ∙ ap (λ e. of_exp (plain_exp e) c.args.self.now) c.deref-in-Method.ensures in
    let second : c.add_text-in-Method.new.self ≡ with_constant (Str c.in-Method.name.text) (of_exp (plain_exp c.in-Method.object.value) c.args.self.now) =
    c.in_ok-add_text-in-Method.ensures ∙ ap (with_constant (Str c.in-Method.name.text)) first in
    on_ok_weaker c.add_exps-in-Method.result (λ h. h ∙ ap (of_exps es) second ∙ ap (λ e. of_exp e c.args.self.now) (sym is)) c.add_exps-in-Method.ensures

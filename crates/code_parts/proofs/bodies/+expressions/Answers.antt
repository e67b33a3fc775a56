use Rattle.std.proofs.Common.{◌≡◌, ◌++◌, map, ap, sym, ◌∙◌}
use Rattle.std.proofs.lemmas.Result.{on_ok_weaker}
use Rattle.tree_core.specs.Tree as tree
use Rattle.tree_core.specs.Plain.{plain_exp, plain_exp_node, plain_exps, plain_body}
use Rattle.tree_core.proofs.Rows.{plain-call, plain-method}
use Rattle.code_parts.specs.Bodies.{exp_bodies, exps_bodies}
use Rattle.code_parts.proofs.Joining.{joined}
use Rattle.code_parts.proofs.bodies.+expressions.Goals as goal

pub find_in_exp-returns-in_ok-find_in_exp-in-Call : goal.find_in_exp-returns-in_ok-find_in_exp-in-Call
find_in_exp-returns-in_ok-find_in_exp-in-Call t c =
    let es = tree.exps (plain_exps c.in-Call.arguments.items) in
    let is : plain_exp c.args.exp.now ≡ tree.Call c.args.exp.now.line (plain_exp c.in-Call.called.value) es =
    ap (λ node. plain_exp_node node c.args.exp.now.line) c.in-Call.is ∙ plain-call c.args.exp.now.line c.in-Call.called c.in-Call.arguments in
    let before = map (λ b. plain_body b.now) c.args.found.now.items in
    let first = c.in_ok-find_in_exp-in-Call.ensures ∙ ap (λ e. before ++ exp_bodies (plain_exp e)) c.deref-in-Call.ensures in
    on_ok_weaker c.find_in_exps.result (λ h. joined before (exp_bodies (plain_exp c.in-Call.called.value)) (exps_bodies es) first h ∙ ap (λ e. before ++ exp_bodies e) (sym is)) c.find_in_exps.ensures

pub find_in_exp-returns-in_ok-find_in_exp-in-Method : goal.find_in_exp-returns-in_ok-find_in_exp-in-Method
find_in_exp-returns-in_ok-find_in_exp-in-Method t c =
    let es = tree.exps (plain_exps c.in-Method.arguments.items) in
    let is : plain_exp c.args.exp.now ≡ tree.Method c.args.exp.now.line (plain_exp c.in-Method.object.value) c.in-Method.field-1 es =
    ap (λ node. plain_exp_node node c.args.exp.now.line) c.in-Method.is ∙ plain-method c.args.exp.now.line c.in-Method.object c.in-Method.field-1 c.in-Method.arguments in
    let before = map (λ b. plain_body b.now) c.args.found.now.items in
    let first = c.in_ok-find_in_exp-in-Method.ensures ∙ ap (λ e. before ++ exp_bodies (plain_exp e)) c.deref-in-Method.ensures in
    on_ok_weaker c.find_in_exps-in-Method.result (λ h. joined before (exp_bodies (plain_exp c.in-Method.object.value)) (exps_bodies es) first h ∙ ap (λ e. before ++ exp_bodies e) (sym is)) c.find_in_exps-in-Method.ensures

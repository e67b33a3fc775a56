use Rattle.std.proofs.Common.{◌≡◌, sym, ap, ◌∙◌}
use Rattle.std.proofs.lemmas.Result.{on_ok_weaker}
use Rattle.tree_core.specs.Tree as tree
use Rattle.tree_core.specs.Plain.{plain_exp, plain_exp_node, plain_exps}
use Rattle.tree_core.proofs.Rows.{plain-call, plain-method}
use Rattle.code_stat.proofs.Returning.{call_tail, method_tail}
use Rattle.code_stat.proofs.returns.write_tail.Goals as goal

pub returns-in-Call : goal.returns-in-Call
returns-in-Call c =
    let call = c.args.call.now in
    let es = tree.exps (plain_exps c.in-Call.arguments.items) in
    let is : plain_exp call ≡ tree.Call call.line (plain_exp c.deref.result.now) es =
    ap (λ node. plain_exp_node node call.line) c.in-Call.is ∙ plain-call call.line c.in-Call.called c.in-Call.arguments ∙ ap (λ e. tree.Call call.line (plain_exp e) es) (sym c.deref.ensures) in
    on_ok_weaker c.write_call_last.result
    (call_tail c.args.emitter.now c.write_call_last.new.emitter (plain_exp call) (plain_exp c.deref.result.now) es c.args.register call.line c.args.back is) c.write_call_last.ensures

pub returns-in-Method : goal.returns-in-Method
returns-in-Method c =
    let call = c.args.call.now in
    let es = tree.exps (plain_exps c.in-Method.arguments.items) in
    let is : plain_exp call ≡ tree.Method call.line (plain_exp c.deref-in-Method.result.now) c.in-Method.name es =
    ap (λ node. plain_exp_node node call.line) c.in-Method.is ∙ plain-method call.line c.in-Method.object c.in-Method.name c.in-Method.arguments
    ∙ ap (λ e. tree.Method call.line (plain_exp e) c.in-Method.name es) (sym c.deref-in-Method.ensures) in
    on_ok_weaker c.write_method_last.result
    (method_tail c.args.emitter.now c.write_method_last.new.emitter (plain_exp call) (plain_exp c.deref-in-Method.result.now) c.in-Method.name es c.args.register call.line c.args.back is) c.write_method_last.ensures

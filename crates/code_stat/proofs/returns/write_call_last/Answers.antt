use Rattle.std.proofs.Common.{◌≡◌, ◌+◌, [], ◌∷◌, ◌++◌, None}
use Rattle.tree_core.specs.Tree as tree
use Rattle.tree_core.specs.Plain.{plain_exp, plain_exps}
use Rattle.code_core.specs.declared.opcode.Opcode.TheVariants.{TailCall, Return}
use Rattle.code_of.specs.Coded.{leaving_by}
use Rattle.code_of.specs.Expressions.{exp_code, exps_code, list_field, made_by, made_in}
use Rattle.code_emitter.specs.Listing.{listed, followed}
use Rattle.code_emitter.proofs.Joining.{then_made, then_listed}
use Rattle.code_stat.proofs.Going.{two_listed}
use Rattle.code_stat.proofs.returns.write_call_last.Goals as goal

pub returns : goal.returns
returns c =
    let k = c.args.emitter.now.constants in
    let t = c.args.register in
    let es = tree.exps (plain_exps c.args.arguments.now.items) in
    let called = leaving_by TailCall t (list_field 0 es) c.args.back c.args.line in
    let ends = leaving_by Return t 0 c.args.back c.args.line in
    let values : c.list.new.emitter ≡ followed c.expression.new.emitter (exps_code c.expression.new.emitter.constants es None (t + 1) c.expression.new.emitter.made c.args.line) (made_in es) =
    rw c.in_ok-next.ensures at c.in_ok-list.ensures in
    let call : c.put_leaving.new.emitter ≡ listed c.list.new.emitter (called ∷ []) = rw c.list_field-field.ensures at c.in_ok-put_leaving.ensures in
    then_made c.args.emitter.now c.expression.new.emitter c.put_leaving-2.new.emitter (exp_code k (plain_exp c.args.called.now) t c.args.emitter.now.made 2) (made_by (plain_exp c.args.called.now))
    (λ k j. exps_code k es None (t + 1) j c.args.line ++ (called ∷ ends ∷ [])) (made_in es) c.in_ok-expression.ensures
    (then_listed c.expression.new.emitter c.list.new.emitter c.put_leaving-2.new.emitter (exps_code c.expression.new.emitter.constants es None (t + 1) c.expression.new.emitter.made c.args.line) (made_in es)
    (λ k. called ∷ ends ∷ []) values (two_listed c.list.new.emitter c.put_leaving.new.emitter c.put_leaving-2.new.emitter called ends call c.in_ok-put_leaving-2.ensures))

use Rattle.std.proofs.Common.{arith, ◌≡◌, ◌+◌, [], ◌∷◌, ◌++◌, None}
use Rattle.tree_core.specs.Tree as tree
use Rattle.tree_core.specs.Plain.{plain_exp, plain_exps}
use Rattle.code_core.specs.declared.opcode.Opcode.TheVariants.{TailCall, Return}
use Rattle.code_of.specs.Coded.{leaving_by}
use Rattle.code_of.specs.Operands.{local_of, seat, unless}
use Rattle.code_of.specs.Operators.{self_code}
use Rattle.code_of.specs.Expressions.{exp_code, exps_code, list_field, made_by, made_in}
use Rattle.code_emitter.specs.Listing.{listed, followed}
use Rattle.code_emitter.proofs.Joining.{then_made, then_listed, listed_then}
use Rattle.code_stat.proofs.Going.{two_listed}
use Rattle.code_stat.proofs.returns.write_method_last.Goals as goal

pub returns : goal.returns
returns c =
    let k = c.args.emitter.now.constants in
    let t = c.args.register in
    let e = plain_exp c.args.object.now in
    let x = seat (local_of e) t in
    let es = tree.exps (plain_exps c.args.arguments.now.items) in
    let text = c.args.name.now.text in
    let called = leaving_by TailCall t (list_field 1 es) c.args.back c.args.line in
    let ends = leaving_by Return t 0 c.args.back c.args.line in
    let two : c.in_ok-next.field-0 ≡ t + 2 = omega (arith, c.in_ok-next.ensures, c.in_ok-above.ensures) in
    let looked_up : c.look_up_method.new.self ≡ listed c.operand.new.emitter (self_code c.operand.new.emitter.constants text x t c.args.line) = rw c.in_ok-standing.ensures.place at c.in_ok-look_up_method.ensures in
    let values : c.list.new.emitter ≡ followed c.look_up_method.new.self (exps_code c.look_up_method.new.self.constants es None (t + 2) c.look_up_method.new.self.made c.args.line) (made_in es) =
    rw two at c.in_ok-list.ensures in
    let call : c.put_leaving.new.emitter ≡ listed c.list.new.emitter (called ∷ []) = rw c.list_field-field.ensures at c.in_ok-put_leaving.ensures in
    then_made c.args.emitter.now c.operand.new.emitter c.put_leaving-2.new.emitter (unless (local_of e) (exp_code k e t c.args.emitter.now.made 2)) (made_by e)
    (λ k j. self_code k text x t c.args.line ++ (exps_code k es None (t + 2) j c.args.line ++ (called ∷ ends ∷ []))) (made_in es) c.in_ok-standing.ensures.code
    (listed_then c.operand.new.emitter c.look_up_method.new.self c.put_leaving-2.new.emitter (self_code c.operand.new.emitter.constants text x t c.args.line)
    (λ k j. exps_code k es None (t + 2) j c.args.line ++ (called ∷ ends ∷ [])) (made_in es) looked_up
    (then_listed c.look_up_method.new.self c.list.new.emitter c.put_leaving-2.new.emitter (exps_code c.look_up_method.new.self.constants es None (t + 2) c.look_up_method.new.self.made c.args.line) (made_in es)
    (λ k. called ∷ ends ∷ []) values (two_listed c.list.new.emitter c.put_leaving.new.emitter c.put_leaving-2.new.emitter called ends call c.in_ok-put_leaving-2.ensures)))

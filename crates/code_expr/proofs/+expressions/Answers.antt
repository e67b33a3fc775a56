use Rattle.std.proofs.Common.{arith, rules, ◌≡◌, ℕ, suc, ◌+◌, ◌-◌, ◌<◌, ◌≤◌, ◌&&◌, true, false, List, [], ◌∷◌, ◌++◌, cond, sym, ap, ◌∙◌, subst, Some, None, length, map}
use Rattle.std.specs.Prelude.{nat_eq, IfOk}
use Rattle.tree_core.specs.Tree as tree
use Rattle.tree_core.specs.declared.operator.UnOp.TheVariants.{Not as Negation}
use Rattle.tree_core.specs.Plain.{plain_exp, plain_exps, plain_field}
use Rattle.code_core.specs.declared.opcode.Opcode.TheVariants.{GetTable, GetI, GetField, Concat, ExtraArg}
use Rattle.code_core.specs.declared.opcode.Opcode.TheVariants.{Call as CallCode}
use Rattle.code_core.specs.declared.proto.Const.{Const}
use Rattle.code_core.specs.Instruction.{op_ax}
use Rattle.code_of.specs.Coded.{with_abc}
use Rattle.code_of.specs.Operands.{local_of, is_literal, joins, key_operand, seat, unless}
use Rattle.code_of.specs.Stores.{name_in, is_quiet, field_key}
use Rattle.code_of.specs.FieldReads.{read_code}
use Rattle.code_expr.proofs.FieldSeats.{name_makes, stored_written}
use Rattle.code_of.specs.StoredValues.{stored_value}
use Rattle.code_expr.specs.Stores.{key_seat, code_if, is_above, made_if, value_place, is_made, place_store}
use Rattle.code_of.proofs.Operands.{key_stands}
use Rattle.code_of.specs.Operations.{constant_in, constant_code, operation_code}
use Rattle.code_of.specs.Chains.{continues, links, unjoined, chain_code}
use Rattle.code_emitter.proofs.ConstantSeats.{operation_written}
use Rattle.code_of.specs.Operators.{self_code, prefix_code, operator_code, number_code}
use Rattle.code_emitter.proofs.Seats.{local_written, seated_written, seated_stand, done_written}
use Rattle.code_of.specs.Expressions.{exp_code, exps_code, set_list, waiting_code, list_field, made_by, made_in}
use Rattle.code_of.specs.Items.{waits}
use Rattle.code_emitter.specs.Listing.{listed, followed}
use Rattle.code_emitter.proofs.Joining.{then_made, then_listed, listed_then}
use Rattle.code_expr.specs.Parts.{so_many, item_behind, keyed_code}
use Rattle.code_expr.proofs.Going.{fields_from, next_exp, next_field, all_fields, table_written, called_written, method_written}
use Rattle.code_expr.proofs.Waiting.{held_written, held_behind, alone_written, item_held, item_alone}
use Rattle.code_expr.proofs.LiteralCode.{literal_value}
use Rattle.code_expr.proofs.Links.{whole_written, chain_is_binary, link_written, link_counted, last_written, last_counted, apart_ends, joined_written}
use Rattle.std.proofs.lemmas.Result.{on_ok_weaker, IfOk-weaker}
use Rattle.std.proofs.Common.{ap₂}
use Rattle.tree_core.specs.Plain.{plain_exp_node}
use Rattle.tree_core.proofs.Rows.{plain-call, plain-method}
use Rattle.code_of.specs.Conditions.{value_test}
use Rattle.code_emitter.specs.Leading.{led_on, Opened}
use Rattle.code_expr.specs.Testing.{Tests, either_test, is_valued, is_plain, is_truth, either_keep}
use Rattle.code_emitter.proofs.Leading.{opened_at}
use Rattle.code_expr.proofs.Testing.{paren_tests, and_tests, or_tests, not_tests, by_value_tests, valued_is, operator_is, comparison_tests, other_tests, value_opened, compared_opened, either_here, either_away}
use Rattle.code_expr.proofs.Kept.{paren_keeps, and_keeps, or_keeps, leaf_keeps, truth_keeps, loaded_keeps, local_keeps, made_keeps, both_keep, one_keeps, either_written}
use Rattle.code_expr.proofs.Rows.{line_is, no_chain, binary_plain}
use Rattle.code_expr.proofs.+expressions.Goals as goal

pub expressions::expression-returns-in-Nil : goal.expressions::expression-returns-in-Nil
expressions::expression-returns-in-Nil t c =
    let e = plain_exp c.args.exp.now in
    let is : is_literal e ≡ true = search rules in
    on_ok_weaker c.literal.result (literal_value c.args.emitter.now c.literal.new.emitter e c.args.target c.args.results is) c.literal.ensures

pub expressions::expression-returns-in_ok-field-in-Call : goal.expressions::expression-returns-in_ok-field-in-Call
expressions::expression-returns-in_ok-field-in-Call t c =
    let x = c.args.exp.now in
    let es = tree.exps (plain_exps c.in-Call.arguments.items) in
    let e = plain_exp c.deref-in-Call.result.now in
    let same : tree.Call x.line e es ≡ plain_exp x = ap (λ y. tree.Call x.line (plain_exp y) es) c.deref-in-Call.ensures ∙ sym (ap (λ node. plain_exp_node node x.line) c.in-Call.is ∙ plain-call x.line c.in-Call.called c.in-Call.arguments) in
    let last = λ (n : ℕ). with_abc CallCode c.args.target n c.args.results x.line ∷ [] in
    on_ok_weaker c.put_abc-in-Call.result
    (λ put. whole_written c.args.emitter.now c.put_abc-in-Call.new.self (tree.Call x.line e es) (plain_exp x) c.args.target c.args.results same
    (called_written c.args.emitter.now c.pass.new.emitter c.put_abc-in-Call.new.self e es c.args.target x.line (last (list_field 0 es)) c.in_ok-field-in-Call.ensures.code
    (put ∙ ap (λ n. listed c.pass.new.emitter (last n)) c.in_ok-field-in-Call.ensures.field))) c.put_abc-in-Call.ensures

pub expressions::expression-returns-in_ok-field-in-Method : goal.expressions::expression-returns-in_ok-field-in-Method
expressions::expression-returns-in_ok-field-in-Method t c =
    let x = c.args.exp.now in
    let name = c.in-Method.name in
    let es = tree.exps (plain_exps c.in-Method.arguments.items) in
    let e = plain_exp c.deref-in-Method.result.now in
    let same : tree.Method x.line e name es ≡ plain_exp x =
    ap (λ y. tree.Method x.line (plain_exp y) name es) c.deref-in-Method.ensures ∙ sym (ap (λ node. plain_exp_node node x.line) c.in-Method.is ∙ plain-method x.line c.in-Method.object name c.in-Method.arguments) in
    let last = λ (n : ℕ). with_abc CallCode c.args.target n c.args.results x.line ∷ [] in
    on_ok_weaker c.put_abc-in-Method.result
    (λ put. whole_written c.args.emitter.now c.put_abc-in-Method.new.self (tree.Method x.line e name es) (plain_exp x) c.args.target c.args.results same
    (method_written c.args.emitter.now c.pass_method.new.emitter c.put_abc-in-Method.new.self e es c.args.target x.line (last (list_field 1 es)) name.text c.in_ok-field-in-Method.ensures.code
    (put ∙ ap (λ n. listed c.pass_method.new.emitter (last n)) c.in_ok-field-in-Method.ensures.field))) c.put_abc-in-Method.ensures

pub expressions::unary-returns : goal.expressions::unary-returns
expressions::unary-returns t c =
    let e = plain_exp c.args.inner.now in
    let prefixed : c.prefix.new.self ≡ listed c.operand.new.emitter (prefix_code c.args.op (seat (local_of e) c.args.free) c.args.target c.args.line) = rw c.in_ok-register.ensures.place at c.in_ok-prefix.ensures in
    then_listed c.args.emitter.now c.operand.new.emitter c.prefix.new.self (unless (local_of e) (exp_code c.args.emitter.now.constants e c.args.free c.args.emitter.now.made 2)) (made_by e)
    (λ k. prefix_code c.args.op (seat (local_of e) c.args.free) c.args.target c.args.line) c.in_ok-register.ensures.code prefixed

pub expressions::binary-returns-then-joins : goal.expressions::binary-returns-then-joins
expressions::binary-returns-then-joins t c =
    let joined : joins c.args.op ≡ true = sym c.joins.ensures ∙ c.if-joins.true in
    on_ok_weaker c.join.result (chain_is_binary c.args.emitter.now c.join.new.emitter c.args.line c.args.op (plain_exp c.args.left.now) (plain_exp c.args.right.now) c.args.target joined) c.join.ensures

pub expressions::binary-returns : goal.expressions::binary-returns
expressions::binary-returns t c =
    let k = c.args.emitter.now.constants in
    let e = plain_exp c.args.left.now in
    let d = plain_exp c.args.right.now in
    let left = exp_code k e c.args.target c.args.emitter.now.made 2 in
    let right = exp_code k d (c.args.target + 1) (c.args.emitter.now.made + made_by e) 2 in
    let apart : joins c.args.op ≡ false = sym c.joins.ensures ∙ c.if-joins.false in
    let code = rw c.standing-stays.ensures at c.in_ok-operands.ensures.code in
    let places = rw c.standing-stays.ensures at c.in_ok-operands.ensures.places in
    operation_written c.args.emitter.now c.operands.new.emitter c.apply.new.self k c.args.op e d left right c.args.target c.in_ok-operands.operands
    (λ x n. constant_code c.args.op x n c.args.target c.args.line) (λ x y. operator_code c.args.op x y c.args.target c.args.line) (λ x n. number_code c.args.op x n c.args.target c.args.line)
    code places c.in_ok-apply.ensures
    ∙ ap (λ b. followed c.args.emitter.now (cond b (chain_code c.args.line d left right c.args.target) (operation_code (constant_in k c.args.op d) c.args.op e d left right c.args.target c.args.target c.args.line)) (made_by e + made_by d)) (sym apart)

pub chains::join-returns : goal.chains::join-returns
chains::join-returns t c =
    let e = plain_exp c.args.left.now in
    let d = plain_exp c.args.right.now in
    let put : c.put_abc.new.self ≡ listed c.link.new.emitter (with_abc Concat c.args.target (suc (links c.args.line d)) 0 c.args.line ∷ []) = rw c.in_ok-count.ensures.count at c.in_ok-put_abc.ensures in
    joined_written c.args.emitter.now c.link.new.emitter c.put_abc.new.self c.args.line e d c.args.target (made_by e + made_by d) c.in_ok-count.ensures.code put

pub chains::link-returns-clause-code : goal.chains::link-returns-clause-code
chains::link-returns-clause-code t c =
    let k = c.args.emitter.now.constants in
    let e = plain_exp c.args.left.now in
    let d = plain_exp c.args.right.now in
    let right : c.link_right.new.emitter ≡ followed c.expression.new.emitter (unjoined (continues c.args.line d) (exp_code c.expression.new.emitter.constants d (c.args.target + 1) c.expression.new.emitter.made 2)) (made_by d) =
    rw c.in_ok-above.ensures at c.in_ok-behind.ensures.code in
    then_made c.args.emitter.now c.expression.new.emitter c.link_right.new.emitter (exp_code k e c.args.target c.args.emitter.now.made 2) (made_by e) (λ k j. unjoined (continues c.args.line d) (exp_code k d (c.args.target + 1) j 2)) (made_by d)
    c.in_ok-expression.ensures right

pub chains::link-returns-clause-count : goal.chains::link-returns-clause-count
chains::link-returns-clause-count t c = omega (arith, c.in_ok-count.ensures, c.in_ok-behind.ensures.count)

pub chains::link_right-returns-then-continues-clause-code : goal.chains::link_right-returns-then-continues-clause-code
chains::link_right-returns-then-continues-clause-code t c =
    let is = binary_plain c.args.exp.now c.in-Binary.op c.in-Binary.left c.in-Binary.right c.deref.result.now c.deref-then-continues.result.now c.in-Binary.is c.deref.ensures c.deref-then-continues.ensures in
    let more : (joins c.in-Binary.op && nat_eq c.args.exp.now.line c.args.line) ≡ true = sym c.continues.ensures ∙ c.if-continues.true in
    on_ok_weaker c.link.result (link_written c.args.line c.args.exp.now.line c.in-Binary.op (plain_exp c.deref.result.now) (plain_exp c.deref-then-continues.result.now) (plain_exp c.args.exp.now) is more c.args.emitter.now c.link.new.emitter c.args.target) c.link.ensures.code

pub chains::link_right-returns-then-continues-clause-count : goal.chains::link_right-returns-then-continues-clause-count
chains::link_right-returns-then-continues-clause-count t c =
    let is = binary_plain c.args.exp.now c.in-Binary.op c.in-Binary.left c.in-Binary.right c.deref.result.now c.deref-then-continues.result.now c.in-Binary.is c.deref.ensures c.deref-then-continues.ensures in
    let more : (joins c.in-Binary.op && nat_eq c.args.exp.now.line c.args.line) ≡ true = sym c.continues.ensures ∙ c.if-continues.true in
    IfOk-weaker c.link.result (λ n. n ≡ suc (links c.args.line (plain_exp c.deref-then-continues.result.now))) (λ n. n ≡ links c.args.line (plain_exp c.args.exp.now)) (link_counted c.args.line c.args.exp.now.line c.in-Binary.op (plain_exp c.deref.result.now) (plain_exp c.deref-then-continues.result.now) (plain_exp c.args.exp.now) is more) c.link.ensures.count

pub chains::link_right-returns-else-continues-clause-code : goal.chains::link_right-returns-else-continues-clause-code
chains::link_right-returns-else-continues-clause-code t c =
    let own = c.args.exp.now.line in
    let e = plain_exp c.in-Binary.left.value in
    let d = plain_exp c.in-Binary.right.value in
    let is : plain_exp c.args.exp.now ≡ tree.Binary own c.in-Binary.op e d = ap (λ node. plain_exp_node node own) c.in-Binary.is in
    let ends = apart_ends c.args.line own c.in-Binary.op e d (plain_exp c.args.exp.now) is (sym c.continues.ensures ∙ c.if-continues.false) in
    on_ok_weaker c.last_link.result (last_written c.args.line (plain_exp c.args.exp.now) ends c.args.emitter.now c.last_link.new.emitter c.args.target) c.last_link.ensures.code

pub chains::link_right-returns-else-continues-clause-count : goal.chains::link_right-returns-else-continues-clause-count
chains::link_right-returns-else-continues-clause-count t c =
    let own = c.args.exp.now.line in
    let e = plain_exp c.in-Binary.left.value in
    let d = plain_exp c.in-Binary.right.value in
    let is : plain_exp c.args.exp.now ≡ tree.Binary own c.in-Binary.op e d = ap (λ node. plain_exp_node node own) c.in-Binary.is in
    let ends = apart_ends c.args.line own c.in-Binary.op e d (plain_exp c.args.exp.now) is (sym c.continues.ensures ∙ c.if-continues.false) in
    IfOk-weaker c.last_link.result (λ n. n ≡ 1) (λ n. n ≡ links c.args.line (plain_exp c.args.exp.now)) (last_counted c.args.line (plain_exp c.args.exp.now) ends) c.last_link.ensures.count

pub chains::link_right-returns-in_default-clause-code : goal.chains::link_right-returns-in_default-clause-code
chains::link_right-returns-in_default-clause-code t c =
    let x = plain_exp c.args.exp.now in
    let ends = no_chain c.args.line c.args.exp.now.line c.args.exp.now.node c.in_default.not-Binary in
    on_ok_weaker c.last_link-in_default.result (last_written c.args.line x ends c.args.emitter.now c.last_link-in_default.new.emitter c.args.target) c.last_link-in_default.ensures.code

pub chains::link_right-returns-in_default-clause-count : goal.chains::link_right-returns-in_default-clause-count
chains::link_right-returns-in_default-clause-count t c =
    let x = plain_exp c.args.exp.now in
    let ends = no_chain c.args.line c.args.exp.now.line c.args.exp.now.node c.in_default.not-Binary in
    IfOk-weaker c.last_link-in_default.result (λ n. n ≡ 1) (λ n. n ≡ links c.args.line x) (last_counted c.args.line x ends) c.last_link-in_default.ensures.count

pub expressions::operand-returns-in-Some-clause-code : goal.expressions::operand-returns-in-Some-clause-code
expressions::operand-returns-in-Some-clause-code t c =
    local_written c.args.emitter.now (plain_exp c.args.exp.now) c.in-Some.register (exp_code c.args.emitter.now.constants (plain_exp c.args.exp.now) c.args.target c.args.emitter.now.made 2) (sym c.local_of.ensures ∙ c.in-Some.is)

pub expressions::both-returns-clause-code : goal.expressions::both-returns-clause-code
expressions::both-returns-clause-code t c =
    let k = c.args.emitter.now.constants in
    let right : c.expression-2.new.emitter ≡ followed c.expression.new.emitter (exp_code c.expression.new.emitter.constants (plain_exp c.args.right.now) (c.args.target + 1) c.expression.new.emitter.made 2) (made_by (plain_exp c.args.right.now)) =
    rw c.in_ok-above.ensures at c.in_ok-expression-2.ensures in
    then_made c.args.emitter.now c.expression.new.emitter c.expression-2.new.emitter (exp_code k (plain_exp c.args.left.now) c.args.target c.args.emitter.now.made 2) (made_by (plain_exp c.args.left.now))
    (λ k j. exp_code k (plain_exp c.args.right.now) (c.args.target + 1) j 2) (made_by (plain_exp c.args.right.now)) c.in_ok-expression.ensures right

pub expressions::index-returns-in_ok-register-in-Some : goal.expressions::index-returns-in_ok-register-in-Some
expressions::index-returns-in_ok-register-in-Some t c =
    let k = c.args.emitter.now.constants in
    let e = plain_exp c.args.object.now in
    let d = plain_exp c.args.key.now in
    let number = c.in-Some.number in
    let named : name_in k d ≡ Some number = sym c.name_in.ensures ∙ c.in-Some.is in
    let first = exp_code k e c.args.free c.args.emitter.now.made 2 in
    let second = exp_code k d (c.args.free + 1) (c.args.emitter.now.made + made_by e) 2 in
    let read = λ (x : ℕ). with_abc GetField c.args.target x number c.args.line ∷ [] in
    on_ok_weaker c.put_abc.result
    (λ h. then_listed c.args.emitter.now c.operand.new.emitter c.put_abc.new.self (unless (local_of e) first) (made_by e) (λ k. read (seat (local_of e) c.args.free)) c.in_ok-register-in-Some.ensures.code
    (h ∙ ap (λ x. listed c.operand.new.emitter (read x)) c.in_ok-register-in-Some.ensures.place)
    ∙ ap₂ (λ o n. followed c.args.emitter.now (read_code o e d first second c.args.target c.args.free c.args.line) n) (sym named) (name_makes k e d number named)) c.put_abc.ensures

pub expressions::index-returns-in_ok-operands-in-None : goal.expressions::index-returns-in_ok-operands-in-None
expressions::index-returns-in_ok-operands-in-None t c =
    let k = c.args.emitter.now.constants in
    let e = plain_exp c.args.object.now in
    let d = plain_exp c.args.key.now in
    let s = key_operand d in
    let named : name_in k d ≡ None = sym c.name_in.ensures ∙ c.in-None.is in
    let first = exp_code k e c.args.free c.args.emitter.now.made 2 in
    let second = exp_code k d (c.args.free + 1) (c.args.emitter.now.made + made_by e) 2 in
    let code = rw c.key_staying.ensures at c.in_ok-operands-in-None.ensures.code in
    let places = rw c.key_staying.ensures at c.in_ok-operands-in-None.ensures.places in
    on_ok_weaker c.read_field.result
    (λ h. done_written c.args.emitter.now c.operands.new.emitter c.read_field.new.self s e first second c.args.free (made_by e + made_by d) c.in_ok-operands-in-None.operands
    (λ x n. with_abc GetField c.args.target x n c.args.line ∷ []) (λ x y. with_abc GetTable c.args.target x y c.args.line ∷ []) (λ x n. with_abc GetI c.args.target x n c.args.line ∷ [])
    (seated_written c.args.emitter.now c.operands.new.emitter s e d 255 first second (key_stands d) code) (seated_stand s e c.args.free c.in_ok-operands-in-None.operands places) h
    ∙ ap (λ o. followed c.args.emitter.now (read_code o e d first second c.args.target c.args.free c.args.line) (made_by e + made_by d)) (sym named)) c.read_field.ensures

pub expressions::either-returns : goal.expressions::either-returns
expressions::either-returns t c =
    let end : c.len-end.result ≡ length c.expression.new.emitter.steps = search rules in
    let led : c.lead.new.self ≡ led_on c.expression.new.emitter c.in_ok-decided.decided.items c.len-end.result = search rules in
    either_written c.args.emitter.now c.keep.new.emitter c.expression.new.emitter c.lead.new.self c.args.decides c.args.target c.len-end.result (plain_exp c.args.first.now) (plain_exp c.args.second.now) c.in_ok-decided.decided.items
    c.in_ok-decided.ensures c.in_ok-expression.ensures end led

pub expressions::pass-returns-clause-code : goal.expressions::pass-returns-clause-code
expressions::pass-returns-clause-code t c =
    let k = c.args.emitter.now.constants in
    let e = plain_exp c.args.called.now in
    let es = tree.exps (plain_exps c.args.arguments.now.items) in
    let values : c.list.new.emitter ≡ followed c.expression.new.emitter (exps_code c.expression.new.emitter.constants es None (c.args.target + 1) c.expression.new.emitter.made c.args.line) (made_in es) =
    rw c.in_ok-next.ensures at c.in_ok-list.ensures in
    then_made c.args.emitter.now c.expression.new.emitter c.list.new.emitter (exp_code k e c.args.target c.args.emitter.now.made 2) (made_by e) (λ k j. exps_code k es None (c.args.target + 1) j c.args.line) (made_in es)
    c.in_ok-expression.ensures values

pub expressions::pass_method-returns-clause-code : goal.expressions::pass_method-returns-clause-code
expressions::pass_method-returns-clause-code t c =
    let k = c.args.emitter.now.constants in
    let e = plain_exp c.args.object.now in
    let x = seat (local_of e) c.args.target in
    let es = tree.exps (plain_exps c.args.arguments.now.items) in
    let found = λ (k : List Const). self_code k c.args.name.now.text x c.args.target c.args.line in
    let rest = λ (k : List Const) (j : ℕ). exps_code k es None (c.args.target + 2) j c.args.line in
    let two : c.in_ok-next.field-0 ≡ c.args.target + 2 = omega (arith, c.in_ok-next.ensures, c.in_ok-above.ensures) in
    let looked_up : c.look_up_method.new.self ≡ listed c.operand.new.emitter (found c.operand.new.emitter.constants) = rw c.in_ok-register.ensures.place at c.in_ok-look_up_method.ensures in
    let values : c.list.new.emitter ≡ followed c.look_up_method.new.self (rest c.look_up_method.new.self.constants c.look_up_method.new.self.made) (made_in es) = rw two at c.in_ok-list.ensures in
    then_made c.args.emitter.now c.operand.new.emitter c.list.new.emitter (unless (local_of e) (exp_code k e c.args.target c.args.emitter.now.made 2)) (made_by e) (λ k j. found k ++ rest k j) (made_in es) c.in_ok-register.ensures.code
    (listed_then c.operand.new.emitter c.look_up_method.new.self c.list.new.emitter (found c.operand.new.emitter.constants) rest (made_in es) looked_up values)

pub expressions::list-loop-exp-preserved : goal.expressions::list-loop-exp-preserved
expressions::list-loop-exp-preserved t c =
    let same = ap length c.deref-exp-items.ensures.value in
    let inside : c.loop-exp.exp-index < length c.deref-exp-items.result.now = omega (arith, c.loop-exp-test.true, c.loop-exp.auto.exp-index-end) in
    let size : c.loop-exp.left - 1 + (c.loop-exp.exp-index + 1) ≡ length c.deref-exp-items.result.now = omega (arith, inside, c.loop-exp.invariant.0, same) in (
      omega (arith, size, same),
      next_exp c.deref-exp-items.result.now c.loop-exp.exp-index c.exp-item.result c.loop-exp.emitter c.expression.new.emitter (c.loop-exp.left - 1) c.loop-exp.register c.in_ok-register.register c.args.line
          c.in_ok-field_where.field-0 c.loop-exp.wanted c.wanted_where-wanted.result c.fills-fills.result _ inside c.exp-item.is size c.fills-fills.ensures c.in_ok-field_where.ensures c.in_ok-expression.ensures
          c.wanted_where-wanted.ensures c.in_ok-register.ensures c.loop-exp.invariant.1,
    )

pub expressions::table-loop-field-init : goal.expressions::table-loop-field-init
expressions::table-loop-field-init t c =
    let size : c.len-left.result ≡ length c.args.list.now.items = search rules in (
      omega (arith, size),
      ap₂ (λ s l. fields_from s (so_many 0 0) c.args.target c.args.line (tree.fields (map plain_field l)))
          (c.in_ok-put_ax.ensures ∙ ap (λ s. listed s ((op_ax ExtraArg 0, c.args.line) ∷ [])) c.in_ok-put_abc.ensures) c.deref-field-items.ensures.value,
    )

pub expressions::table-loop-field-preserved : goal.expressions::table-loop-field-preserved
expressions::table-loop-field-preserved t c =
    let same = ap length c.deref-field-items.ensures.value in
    let inside : c.loop-field.field-index < length c.deref-field-items.result.now = omega (arith, c.loop-field-test.true, c.loop-field.auto.field-index-end) in
    let size : c.loop-field.left - 1 + (c.loop-field.field-index + 1) ≡ length c.deref-field-items.result.now = omega (arith, inside, c.loop-field.invariant.0, same) in (
      omega (arith, size, same),
      next_field c.deref-field-items.result.now c.loop-field.field-index c.field-item.result c.loop-field.emitter c.table_field.new.emitter (c.loop-field.left - 1) c.loop-field.items c.in_ok-items.items c.args.target
          c.args.line _ inside c.field-item.is size c.in_ok-items.ensures.code c.in_ok-items.ensures.items c.loop-field.invariant.1,
    )

pub expressions::table-returns : goal.expressions::table-returns
expressions::table-returns t c =
    let over : length c.deref-field-items.result.now ≤ c.loop-field.field-index = omega (arith, c.loop-field-test.false) in
    table_written c.args.emitter.now c.store_items.new.emitter c.args.target c.args.line (tree.fields (map plain_field c.args.list.now.items))
    (all_fields c.deref-field-items.result.now c.loop-field.field-index c.loop-field.emitter c.store_items.new.emitter c.loop-field.items c.args.target c.args.line _ over c.in_ok-store_items.ensures c.loop-field.invariant.1)

pub items::item-returns-then-waits-clause-code : goal.items::item-returns-then-waits-clause-code
items::item-returns-then-waits-clause-code t c =
    let e = plain_exp c.args.value.now in
    let w : waits e ≡ true = sym c.waits.ensures ∙ c.if-waits.true in
    on_ok_weaker c.waiting_item.result (item_held c.args.emitter.now c.waiting_item.new.emitter e c.args.whole c.args.items c.args.target c.args.line w) c.waiting_item.ensures.code

pub items::item-returns-then-waits-clause-items : goal.items::item-returns-then-waits-clause-items
items::item-returns-then-waits-clause-items t c =
    let e = plain_exp c.args.value.now in
    let w : waits e ≡ true = sym c.waits.ensures ∙ c.if-waits.true in
    IfOk-weaker c.waiting_item.result (λ n. n ≡ item_behind true c.args.items) (λ n. n ≡ item_behind (waits e) c.args.items) (λ n h. h ∙ ap (λ b. item_behind b c.args.items) (sym w)) c.waiting_item.ensures.items

pub items::item-returns-clause-code : goal.items::item-returns-clause-code
items::item-returns-clause-code t c =
    let e = plain_exp c.args.value.now in
    let items = c.args.items in
    let r = c.store_items.new.emitter in
    let w : waits e ≡ false = sym c.waits.ensures ∙ c.if-waits.false in
    let value : c.expression.new.emitter ≡ followed r (exp_code r.constants e (c.args.target + 1) r.made (cond c.args.whole 0 2)) (made_by e) = rw c.in_ok-above.ensures at rw c.item_field.ensures at c.in_ok-expression.ensures in
    let stored : c.set_list.new.self ≡ listed c.expression.new.emitter (set_list c.args.target (cond c.args.whole 0 1) (items.stored + items.waiting) c.args.line) =
    rw c.in_ok-count.ensures at rw c.stored_field.ensures at c.in_ok-set_list.ensures in
    item_alone c.args.emitter.now c.set_list.new.self e c.args.whole items c.args.target c.args.line w
    (alone_written c.args.emitter.now r c.expression.new.emitter c.set_list.new.self e (cond c.args.whole 0 2) (cond c.args.whole 0 1) items.stored items.waiting (c.args.target + 1) c.args.target c.args.line
    c.in_ok-store_items.ensures value stored)

pub items::item-returns-clause-items : goal.items::item-returns-clause-items
items::item-returns-clause-items t c =
    let items = c.args.items in
    let w : waits (plain_exp c.args.value.now) ≡ false = sym c.waits.ensures ∙ c.if-waits.false in
    let all : c.in_ok-stored.stored ≡ items.stored + items.waiting + 1 = omega (arith, c.in_ok-stored.ensures, c.in_ok-count.ensures) in
    ap (λ n. so_many n 0) all ∙ ap (λ b. item_behind b items) (sym w)

pub items::waiting_item-returns-clause-code : goal.items::waiting_item-returns-clause-code
items::waiting_item-returns-clause-code t c =
    let items = c.args.items in
    let at : c.in_ok-register.register ≡ c.args.target + 1 + items.waiting = omega (arith, c.in_ok-above.ensures, c.in_ok-register.ensures) in
    held_written c.args.emitter.now c.expression.new.emitter c.store_full.new.emitter (plain_exp c.args.value.now) items.stored items.waiting c.in_ok-waiting.waiting c.in_ok-register.register c.args.target c.args.line
    at c.in_ok-waiting.ensures c.in_ok-expression.ensures c.in_ok-behind.ensures.code

pub items::waiting_item-returns-clause-items : goal.items::waiting_item-returns-clause-items
items::waiting_item-returns-clause-items t c = c.in_ok-behind.ensures.items ∙ held_behind c.args.items c.in_ok-waiting.waiting c.in_ok-waiting.ensures

pub expressions::keyed-returns-clause-code : goal.expressions::keyed-returns-clause-code
expressions::keyed-returns-clause-code t c =
    let r = c.store_items.new.emitter in
    let key = plain_exp c.args.key.now in
    let e = plain_exp c.args.value.now in
    let one = c.in_ok-above.ensures in
    let two : c.in_ok-top.top ≡ c.args.target + 2 = omega (arith, c.in_ok-above.ensures, c.in_ok-top.ensures) in
    let stands : c.key_seat.result ≡ key_seat (field_key r.constants (is_quiet e) key) = rw c.is_quiet-quiet.ensures at c.key_seat.ensures in
    let held : c.value_seat-seat.result ≡ value_place (stored_value r.constants e) = c.value_seat-seat.ensures in
    let before = waiting_code c.args.items.stored c.args.items.waiting c.args.target c.args.table_line in
    listed_then c.args.emitter.now r c.fill.new.emitter before (λ k j. keyed_code k key e c.args.target j c.args.line) (made_by key + made_by e) c.in_ok-store_items.ensures
    (stored_written r c.fill.new.emitter r.constants c.args.line key e c.args.target c.args.target (rw two at rw one at rw held at rw stands at c.in_ok-fill.ensures))

pub stores::fill-returns : goal.stores::fill-returns
stores::fill-returns t c =
    let slot = c.args.slot in
    let key = plain_exp c.args.key.now in
    let e = plain_exp c.args.value.now in
    let r = c.write_made.new.emitter in
    let made = made_if (is_made c.args.seat) (made_by e) in
    let third = λ (k : List Const) (j : ℕ). code_if (is_made c.args.seat) (exp_code k e c.args.top j 2) in
    let last = place_store slot.key c.args.seat slot.object slot.above c.args.top slot.line ∷ [] in
    let first : r ≡ followed c.args.emitter.now (code_if (is_above slot.key) (exp_code c.args.emitter.now.constants key slot.above c.args.emitter.now.made 2)) (made_if (is_above slot.key) (made_by key)) =
    rw c.is_above.ensures at c.in_ok-write_made.ensures in
    let second : c.write_made-2.new.emitter ≡ followed r (third r.constants r.made) made = rw c.is_made.ensures at c.in_ok-write_made-2.ensures in
    then_made c.args.emitter.now r c.put_value.new.emitter (code_if (is_above slot.key) (exp_code c.args.emitter.now.constants key slot.above c.args.emitter.now.made 2)) (made_if (is_above slot.key) (made_by key)) (λ k j. third k j ++ last) made first
    (then_listed r c.write_made-2.new.emitter c.put_value.new.emitter (third r.constants r.made) made (λ k. last) second c.in_ok-put_value.ensures)

pub expressions::keyed-returns-clause-items : goal.expressions::keyed-returns-clause-items
expressions::keyed-returns-clause-items t c = ap (λ n. so_many n 0) c.in_ok-stored.ensures

-- conditions

pub conditions::condition-returns-in-Paren : goal.conditions::condition-returns-in-Paren
conditions::condition-returns-in-Paren t c =
    let line = c.args.exp.now.line in
    let e = plain_exp c.deref.result.now in
    let is : plain_exp c.args.exp.now ≡ tree.Paren line e = ap (λ node. plain_exp_node node line) c.in-Paren.is ∙ ap (λ x. tree.Paren line (plain_exp x)) (sym c.deref.ensures) in
    paren_tests c.args.emitter.now c.condition.new.emitter c.args.wanted c.args.free c.condition.result (plain_exp c.args.exp.now) line e is c.condition.ensures

pub conditions::condition-returns-in-And : goal.conditions::condition-returns-in-And
conditions::condition-returns-in-And t c =
    let line = c.args.exp.now.line in
    let e = plain_exp c.deref-in-And.result.now in
    let d = plain_exp c.deref-in-And-2.result.now in
    let is : plain_exp c.args.exp.now ≡ tree.And line e d =
    ap (λ node. plain_exp_node node line) c.in-And.is ∙ ap₂ (λ x y. tree.And line (plain_exp x) (plain_exp y)) (sym c.deref-in-And.ensures) (sym c.deref-in-And-2.ensures) in
    and_tests c.args.emitter.now c.either_of.new.emitter c.args.wanted c.args.free c.either_of.result (plain_exp c.args.exp.now) line e d is c.either_of.ensures

pub conditions::condition-returns-in-Or : goal.conditions::condition-returns-in-Or
conditions::condition-returns-in-Or t c =
    let line = c.args.exp.now.line in
    let e = plain_exp c.deref-in-Or.result.now in
    let d = plain_exp c.deref-in-Or-2.result.now in
    let is : plain_exp c.args.exp.now ≡ tree.Or line e d =
    ap (λ node. plain_exp_node node line) c.in-Or.is ∙ ap₂ (λ x y. tree.Or line (plain_exp x) (plain_exp y)) (sym c.deref-in-Or.ensures) (sym c.deref-in-Or-2.ensures) in
    or_tests c.args.emitter.now c.either_of-in-Or.new.emitter c.args.wanted c.args.free c.either_of-in-Or.result (plain_exp c.args.exp.now) line e d is c.either_of-in-Or.ensures

pub conditions::condition-returns-in-Not : goal.conditions::condition-returns-in-Not
conditions::condition-returns-in-Not t c =
    let line = c.args.exp.now.line in
    let e = plain_exp c.deref-in-Not.result.now in
    let is : plain_exp c.args.exp.now ≡ tree.Unary line Negation e =
    ap (λ node. plain_exp_node node line) c.in-Unary.is ∙ ap₂ (λ o x. tree.Unary line o (plain_exp x)) c.in-Not.is (sym c.deref-in-Not.ensures) in
    not_tests c.args.emitter.now c.condition-in-Not.new.emitter c.args.wanted c.args.free c.condition-in-Not.result (plain_exp c.args.exp.now) line e is c.condition-in-Not.ensures

pub conditions::condition-returns-in-Some : goal.conditions::condition-returns-in-Some
conditions::condition-returns-in-Some t c =
    let line = c.args.exp.now.line in
    let e = plain_exp c.deref-in-Some.result.now in
    let d = plain_exp c.deref-in-Some-2.result.now in
    let is = binary_plain c.args.exp.now c.in-Binary.op c.in-Binary.left c.in-Binary.right c.deref-in-Some.result.now c.deref-in-Some-2.result.now c.in-Binary.is c.deref-in-Some.ensures c.deref-in-Some-2.ensures in
    subst (λ x. IfOk c.compare.result (λ places. Tests c.args.emitter.now c.compare.new.emitter x c.args.wanted c.args.free places.items)) (sym is)
    (comparison_tests c.args.emitter.now c.compare.new.emitter c.args.wanted c.args.free c.compare.result c.in-Binary.op c.comparing.result c.in-Some.comparison line e d c.comparing.ensures.code c.in-Some.is (operator_is c.comparing.result c.in-Some.comparison c.in-Binary.op c.in-Some.is c.comparing.ensures.operator) c.compare.ensures)

pub conditions::condition-returns-in-None : goal.conditions::condition-returns-in-None
conditions::condition-returns-in-None t c =
    let line = c.args.exp.now.line in
    let e = plain_exp c.in-Binary.left.value in
    let d = plain_exp c.in-Binary.right.value in
    let is : plain_exp c.args.exp.now ≡ tree.Binary line c.in-Binary.op e d = ap (λ node. plain_exp_node node line) c.in-Binary.is in
    subst (λ x. IfOk c.by_value.result (λ places. Tests c.args.emitter.now c.by_value.new.emitter x c.args.wanted c.args.free places.items)) (sym is)
    (other_tests c.args.emitter.now c.by_value.new.emitter c.args.wanted c.args.free c.by_value.result c.in-Binary.op c.comparing.result line e d c.comparing.ensures.code c.in-None.is
    (subst (λ x. IfOk c.by_value.result (λ places. Opened c.args.emitter.now c.by_value.new.emitter (λ ahead. value_test c.args.emitter.now.constants x c.args.wanted ahead c.args.free c.args.emitter.now.made) (made_by x) places.items)) is c.by_value.ensures))

pub conditions::condition-returns-in-Neg : goal.conditions::condition-returns-in-Neg
conditions::condition-returns-in-Neg t c =
    let e = plain_exp c.args.exp.now in
    let valued : is_valued e ≡ true = search rules in
    by_value_tests c.args.emitter.now c.by_value-in-Neg.new.emitter c.args.wanted c.args.free c.by_value-in-Neg.result e (valued_is c.args.emitter.now.constants e c.args.wanted c.args.free c.args.emitter.now.made valued)
    c.by_value-in-Neg.ensures

pub conditions::condition-returns-in-Nil : goal.conditions::condition-returns-in-Nil
conditions::condition-returns-in-Nil t c =
    let e = plain_exp c.args.exp.now in
    let valued : is_valued e ≡ true = search rules in
    by_value_tests c.args.emitter.now c.by_value-in-Nil.new.emitter c.args.wanted c.args.free c.by_value-in-Nil.result e (valued_is c.args.emitter.now.constants e c.args.wanted c.args.free c.args.emitter.now.made valued)
    c.by_value-in-Nil.ensures

pub conditions::either_of-returns-then-decides-wanted : goal.conditions::either_of-returns-then-decides-wanted
conditions::either_of-returns-then-decides-wanted t c =
    let same : c.args.decides ≡ c.args.wanted = search rules in
    let led : c.lead.new.self ≡ led_on c.condition-2.new.emitter c.in_ok-decided.decided.items c.len-end.result = search rules in
    either_here c.args.emitter.now c.condition.new.emitter c.condition-2.new.emitter c.lead.new.self c.args.decides c.args.wanted c.args.free c.len-end.result (plain_exp c.args.first.now) (plain_exp c.args.second.now)
    c.in_ok-decided.decided.items c.in_ok-away.away.items same c.in_ok-decided.ensures c.in_ok-away.ensures (search rules) led

pub conditions::either_of-returns : goal.conditions::either_of-returns
conditions::either_of-returns t c =
    let differ : c.args.decides ≡ c.args.wanted → ⊥ = search rules in
    let items : c.append.new.self.items ≡ c.in_ok-away.away.items ++ c.in_ok-decided.decided.items = search rules in
    opened_at c.args.emitter.now c.condition-2.new.emitter (λ ahead. either_test c.args.emitter.now.constants c.args.decides (plain_exp c.args.first.now) (plain_exp c.args.second.now) c.args.wanted ahead c.args.free c.args.emitter.now.made)
    (made_by (plain_exp c.args.first.now) + made_by (plain_exp c.args.second.now)) (c.in_ok-away.away.items ++ c.in_ok-decided.decided.items) c.append.new.self.items items
    (either_away c.args.emitter.now c.condition.new.emitter c.condition-2.new.emitter c.args.decides c.args.wanted c.args.free (plain_exp c.args.first.now) (plain_exp c.args.second.now) c.in_ok-decided.decided.items c.in_ok-away.away.items differ
    c.in_ok-decided.ensures c.in_ok-away.ensures)

pub conditions::by_value-returns : goal.conditions::by_value-returns
conditions::by_value-returns t c =
    value_opened c.args.emitter.now c.operand.new.emitter c.test.new.self (plain_exp c.args.exp.now) c.args.wanted c.args.free c.in_ok-register.register c.args.exp.now.line c.in_ok-away.away.items
    (sym (line_is c.args.exp.now.node c.args.exp.now.line)) c.in_ok-register.ensures.place c.in_ok-register.ensures.code c.in_ok-away.ensures

pub conditions::compare-returns : goal.conditions::compare-returns
conditions::compare-returns t c =
    let e = plain_exp c.args.left.now in
    let d = plain_exp c.args.right.now in
    let code = rw c.standing-stays.ensures at c.in_ok-operands.ensures.code in
    let places = rw c.standing-stays.ensures at c.in_ok-operands.ensures.places in
    compared_opened c.args.emitter.now c.operands.new.emitter c.test_operands.new.self c.args.comparison.now c.args.wanted c.flag-k.result c.args.free c.args.line e d
    c.in_ok-operands.operands c.in_ok-away.away.items code places c.flag-k.ensures c.in_ok-away.ensures

-- first operands

pub keeping::keep-returns-then-is_truth : goal.keeping::keep-returns-then-is_truth
keeping::keep-returns-then-is_truth t c =
    let e = plain_exp c.args.exp.now in
    let is : is_truth e ≡ true = search rules in
    truth_keeps c.args.emitter.now c.keep_truth.new.emitter e c.args.k c.args.target c.keep_truth.result is c.keep_truth.ensures

pub keeping::keep-returns-in-Paren : goal.keeping::keep-returns-in-Paren
keeping::keep-returns-in-Paren t c =
    let line = c.args.exp.now.line in
    let e = plain_exp c.deref.result.now in
    let is : plain_exp c.args.exp.now ≡ tree.Paren line e = ap (λ node. plain_exp_node node line) c.in-Paren.is ∙ ap (λ x. tree.Paren line (plain_exp x)) (sym c.deref.ensures) in
    paren_keeps c.args.emitter.now c.keep.new.emitter (plain_exp c.args.exp.now) c.args.k c.args.target c.keep.result line e is c.keep.ensures

pub keeping::keep-returns-in-And : goal.keeping::keep-returns-in-And
keeping::keep-returns-in-And t c =
    let line = c.args.exp.now.line in
    let e = plain_exp c.deref-in-And.result.now in
    let d = plain_exp c.deref-in-And-2.result.now in
    let is : plain_exp c.args.exp.now ≡ tree.And line e d =
    ap (λ node. plain_exp_node node line) c.in-And.is ∙ ap₂ (λ x y. tree.And line (plain_exp x) (plain_exp y)) (sym c.deref-in-And.ensures) (sym c.deref-in-And-2.ensures) in
    and_keeps c.args.emitter.now c.keep_either.new.emitter (plain_exp c.args.exp.now) c.args.k c.args.target c.keep_either.result line e d is c.keep_either.ensures

pub keeping::keep-returns-in-Or : goal.keeping::keep-returns-in-Or
keeping::keep-returns-in-Or t c =
    let line = c.args.exp.now.line in
    let e = plain_exp c.deref-in-Or.result.now in
    let d = plain_exp c.deref-in-Or-2.result.now in
    let is : plain_exp c.args.exp.now ≡ tree.Or line e d =
    ap (λ node. plain_exp_node node line) c.in-Or.is ∙ ap₂ (λ x y. tree.Or line (plain_exp x) (plain_exp y)) (sym c.deref-in-Or.ensures) (sym c.deref-in-Or-2.ensures) in
    or_keeps c.args.emitter.now c.keep_either-in-Or.new.emitter (plain_exp c.args.exp.now) c.args.k c.args.target c.keep_either-in-Or.result line e d is c.keep_either-in-Or.ensures

pub keeping::keep-returns-in-Nil : goal.keeping::keep-returns-in-Nil
keeping::keep-returns-in-Nil t c =
    let e = plain_exp c.args.exp.now in
    let plain : is_plain e ≡ true = search rules in
    let other : is_truth e ≡ false = search rules in
    leaf_keeps c.args.emitter.now c.keep_value.new.emitter e c.args.k c.args.target c.keep_value.result plain other c.keep_value.ensures

pub keeping::keep_truth-returns : goal.keeping::keep_truth-returns
keeping::keep_truth-returns t c =
    let end : c.len-end.result ≡ length c.load_truth.new.self.steps = search rules in
    let led : c.lead.new.self ≡ led_on c.load_truth.new.self c.in_ok-passed.passed.items c.len-end.result = search rules in
    loaded_keeps c.args.emitter.now c.condition.new.emitter c.load_truth.new.self c.lead.new.self (plain_exp c.args.exp.now) c.args.k c.args.target c.len-end.result c.args.exp.now.line c.in_ok-passed.passed.items c.in_ok-away.away.items
    (sym (line_is c.args.exp.now.node c.args.exp.now.line)) c.in_ok-passed.ensures c.in_ok-away.ensures end led

pub keeping::keep_either-returns-then-decides-k : goal.keeping::keep_either-returns-then-decides-k
keeping::keep_either-returns-then-decides-k t c =
    let e = plain_exp c.args.first.now in
    let d = plain_exp c.args.second.now in
    let same : c.args.decides ≡ c.args.k = search rules in
    let items : c.append.new.self.items ≡ c.in_ok-away.away.items ++ c.in_ok-decided.decided.items = search rules in
    opened_at c.args.emitter.now c.keep-then-decides-k.new.emitter (λ ahead. either_keep c.args.emitter.now.constants c.args.decides e d c.args.k ahead c.args.target c.args.emitter.now.made)
    (made_by e + made_by d) (c.in_ok-away.away.items ++ c.in_ok-decided.decided.items) c.append.new.self.items items
    (both_keep c.args.emitter.now c.keep.new.emitter c.keep-then-decides-k.new.emitter c.args.decides c.args.k c.args.target e d c.in_ok-decided.decided.items c.in_ok-away.away.items same c.in_ok-decided.ensures c.in_ok-away.ensures)

pub keeping::keep_either-returns : goal.keeping::keep_either-returns
keeping::keep_either-returns t c =
    let differ : c.args.decides ≡ c.args.k → ⊥ = search rules in
    let end : c.len-end.result ≡ length c.keep-2.new.emitter.steps = search rules in
    let led : c.lead.new.self ≡ led_on c.keep-2.new.emitter c.in_ok-passed.passed.items c.len-end.result = search rules in
    one_keeps c.args.emitter.now c.condition.new.emitter c.keep-2.new.emitter c.lead.new.self c.args.decides c.args.k c.args.target c.len-end.result (plain_exp c.args.first.now) (plain_exp c.args.second.now)
    c.in_ok-passed.passed.items c.in_ok-away-2.away.items differ c.in_ok-passed.ensures c.in_ok-away-2.ensures end led

pub keeping::keep_value-returns-in-Some : goal.keeping::keep_value-returns-in-Some
keeping::keep_value-returns-in-Some t c =
    local_keeps c.args.emitter.now c.test.new.self (plain_exp c.args.exp.now) c.args.k c.args.target c.test.result c.in-Some.register c.args.exp.now.line (sym c.local_of.ensures ∙ c.in-Some.is)
    (sym (line_is c.args.exp.now.node c.args.exp.now.line)) c.test.ensures

pub keeping::keep_value-returns : goal.keeping::keep_value-returns
keeping::keep_value-returns t c =
    let none : local_of (plain_exp c.args.exp.now) ≡ None = search rules in
    made_keeps c.args.emitter.now c.expression.new.emitter c.test-2.new.self (plain_exp c.args.exp.now) c.args.k c.args.target c.args.exp.now.line c.in_ok-away.away.items none
    (sym (line_is c.args.exp.now.node c.args.exp.now.line)) c.in_ok-expression.ensures c.in_ok-away.ensures

-- the second part of a tree is no greater than the greater one

pub expressions::operands-beside-requires : goal.expressions::operands-beside-requires
expressions::operands-beside-requires t c = (omega (arith, c.decreases), tt)

pub expressions::both-expression-requires-2 : goal.expressions::both-expression-requires-2
expressions::both-expression-requires-2 t c = (omega (arith, c.decreases), tt)

pub expressions::either-expression-requires : goal.expressions::either-expression-requires
expressions::either-expression-requires t c = (omega (arith, c.decreases), tt)

pub stores::fill-write_made-requires-2 : goal.stores::fill-write_made-requires-2
stores::fill-write_made-requires-2 t c = (omega (arith, c.decreases), tt)

pub expressions::pass-list-requires : goal.expressions::pass-list-requires
expressions::pass-list-requires t c = (omega (arith, c.decreases), tt)

pub expressions::pass_method-list-requires : goal.expressions::pass_method-list-requires
expressions::pass_method-list-requires t c = (omega (arith, c.decreases), tt)

pub conditions::either_of-condition-requires-2 : goal.conditions::either_of-condition-requires-2
conditions::either_of-condition-requires-2 t c = (omega (arith, c.decreases), tt)

pub keeping::keep_either-keep-requires-then-decides-k : goal.keeping::keep_either-keep-requires-then-decides-k
keeping::keep_either-keep-requires-then-decides-k t c = (omega (arith, c.decreases), tt)

pub keeping::keep_either-keep-requires-2 : goal.keeping::keep_either-keep-requires-2
keeping::keep_either-keep-requires-2 t c = (omega (arith, c.decreases), tt)

pub chains::link-link_right-requires : goal.chains::link-link_right-requires
chains::link-link_right-requires t c = (omega (arith, c.decreases), tt)

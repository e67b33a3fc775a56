use Rattle.std.proofs.Common.{rules, arith, ◌≡◌, ◌+◌, ap, sym, ◌∙◌, length, map, min, max}
use Rattle.tree_core.proofs.Rows.{plain-call, plain-method, plain-table}
use Rattle.tree_core.specs.Tree as tree
use Rattle.tree_core.specs.Plain.{plain_exp, plain_exp_node, plain_exps, plain_field}
use Rattle.scope_core.specs.Held.{held, held_behind, held_fields}
use Rattle.scope_core.proofs.Holding.{called, list_step}
use Rattle.scope_core.proofs.held.+held.Goals as goal

pub held_by-returns-in-Call : goal.held_by-returns-in-Call
held_by-returns-in-Call t c =
    let is : plain_exp c.args.exp.now ≡ tree.Call c.args.exp.now.line (plain_exp c.in-Call.called.value) (tree.exps (plain_exps c.in-Call.arguments.items)) =
    ap (λ node. plain_exp_node node c.args.exp.now.line) c.in-Call.is ∙ plain-call c.args.exp.now.line c.in-Call.called c.in-Call.arguments in
    called 1 c.max.result c.held_by-within.result c.held_by_arguments.result (plain_exp c.in-Call.called.value) c.in-Call.arguments.items
    c.max.ensures
    (c.held_by-within.ensures ∙ ap (λ e. min (held (plain_exp e)) 1000) c.deref.ensures)
    (c.held_by_arguments.ensures ∙ ap (λ es. min (max (max 3 (length es + 1)) (held_behind 1 (tree.exps (plain_exps es)))) 1000) c.deref-in-Call.ensures.value)
    ∙ ap (λ e. min (held e) 1000) (sym is)

pub held_by-returns-in-Method : goal.held_by-returns-in-Method
held_by-returns-in-Method t c =
    let is : plain_exp c.args.exp.now ≡ tree.Method c.args.exp.now.line (plain_exp c.in-Method.object.value) c.in-Method.field-1 (tree.exps (plain_exps c.in-Method.arguments.items)) =
    ap (λ node. plain_exp_node node c.args.exp.now.line) c.in-Method.is ∙ plain-method c.args.exp.now.line c.in-Method.object c.in-Method.field-1 c.in-Method.arguments in
    called 2 c.max-in-Method.result c.held_by-within-in-Method.result c.held_by_arguments-in-Method.result (plain_exp c.in-Method.object.value) c.in-Method.arguments.items
    c.max-in-Method.ensures
    (c.held_by-within-in-Method.ensures ∙ ap (λ e. min (held (plain_exp e)) 1000) c.deref-in-Method.ensures)
    (c.held_by_arguments-in-Method.ensures ∙ ap (λ es. min (max (max 3 (length es + 2)) (held_behind 2 (tree.exps (plain_exps es)))) 1000) c.deref-in-Method-2.ensures.value)
    ∙ ap (λ e. min (held e) 1000) (sym is)

pub held_by-returns-in-Table : goal.held_by-returns-in-Table
held_by-returns-in-Table t c =
    let is : plain_exp c.args.exp.now ≡ tree.Table c.args.exp.now.line (tree.fields (map plain_field c.in-Table.fields.items)) =
    ap (λ node. plain_exp_node node c.args.exp.now.line) c.in-Table.is ∙ plain-table c.args.exp.now.line c.in-Table.fields in
    let within : c.held_by_fields.result ≡ min (held_fields 0 (tree.fields (map plain_field c.in-Table.fields.items))) 1000 =
    c.held_by_fields.ensures ∙ ap (λ fs. min (held_fields 0 (tree.fields (map plain_field fs))) 1000) c.deref-in-Table.ensures.value in
    omega (arith, c.max-in-Table.ensures, within) ∙ ap (λ e. min (held e) 1000) (sym is)

pub held_by_list-loop-exp-preserved : goal.held_by_list-loop-exp-preserved
held_by_list-loop-exp-preserved t c =
    let m : c.max-most.result ≡ max c.loop-exp.most c.capped.result = search rules in (
      omega (arith, c.capped-next.ensures),
      omega (arith, m, c.capped.ensures, c.loop-exp.invariant.1),
      list_step c.args.list.now c.loop-exp.exp-index c.exp-item.result c.loop-exp.next c.loop-exp.most c.held_by.result c.capped.result c.capped-next.result c.max-most.result _
          (omega (arith, c.loop-exp-test.true, c.loop-exp.auto.exp-index-end)) c.exp-item.is c.loop-exp.invariant.2 c.held_by.ensures c.capped.ensures m c.capped-next.ensures,
    )

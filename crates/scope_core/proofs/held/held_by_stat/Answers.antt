use Rattle.std.proofs.Common.{rules, arith, ◌≡◌, ◌+◌, ◌*◌, ap, ap₂, sym, ◌∙◌, length, map, min, max}
use Rattle.std.specs.Option.{option_map}
use Rattle.tree_core.specs.Tree as tree
use Rattle.tree_core.specs.Plain.{plain_arm, plain_block, plain_exps, plain_stat, plain_stat_node, if_of}
use Rattle.tree_core.proofs.Rows.{plain-local, plain-assign, plain-if, plain-gen_for}
use Rattle.scope_core.specs.Held.{count, held_behind, held_targets, held_tests, held_stat}
use Rattle.scope_core.proofs.Holding.{counted, held_if}
use Rattle.scope_core.proofs.held.held_by_stat.Goals as goal

pub returns-in-Local : goal.returns-in-Local
returns-in-Local c =
    c.held_by_list.ensures
    ∙ ap (λ es. min (held_behind 0 (tree.exps (plain_exps es))) 1000) c.deref.ensures.value
    ∙ ap (λ s. min (held_stat s) 1000)
    (sym (ap (λ node. plain_stat_node node c.args.stat.now.line) c.in-Local.is ∙ plain-local c.args.stat.now.line c.in-Local.field-0 c.in-Local.values))

pub returns-in-Assign : goal.returns-in-Assign
returns-in-Assign c =
    c.held_by_assignment.ensures
    ∙ ap₂ (λ ts vs. min (max (max (held_targets 0 (tree.exps (plain_exps ts))) (held_behind (2 * length ts) (tree.exps (plain_exps vs)))) (3 * length ts)) 1000) c.deref-in-Assign.ensures.value c.deref-in-Assign-2.ensures.value
    ∙ ap (λ n. min (max (max (held_targets 0 (tree.exps (plain_exps c.in-Assign.targets.items))) (held_behind (2 * n) (tree.exps (plain_exps c.in-Assign.values.items)))) (3 * n)) 1000) (sym (counted c.in-Assign.targets.items))
    ∙ ap (λ s. min (held_stat s) 1000)
    (sym (ap (λ node. plain_stat_node node c.args.stat.now.line) c.in-Assign.is ∙ plain-assign c.args.stat.now.line c.in-Assign.targets c.in-Assign.values))

pub returns-in-If : goal.returns-in-If
returns-in-If c =
    c.held_by_tests.ensures
    ∙ ap (λ as'. min (held_tests (tree.arms (map plain_arm as'))) 1000) c.deref-in-If.ensures.value
    ∙ ap (λ n. min n 1000) (sym (held_if c.args.stat.now.line (map plain_arm c.in-If.list.items) (option_map (λ b. plain_block b.value) c.in-If.field-1)))
    ∙ ap (λ s. min (held_stat s) 1000)
    (sym (ap (λ node. plain_stat_node node c.args.stat.now.line) c.in-If.is ∙ plain-if c.args.stat.now.line c.in-If.list c.in-If.field-1))

pub returns-in-GenFor : goal.returns-in-GenFor
returns-in-GenFor c =
    let size : c.len.result ≡ length c.in-GenFor.names.items = search rules in
    let few : c.min-count.result ≡ min c.len.result 1000 = search rules in
    let values : c.held_by_list-in-GenFor.result ≡ min (held_behind 0 (tree.exps (plain_exps c.in-GenFor.values.items))) 1000 =
    c.held_by_list-in-GenFor.ensures ∙ ap (λ es. min (held_behind 0 (tree.exps (plain_exps es))) 1000) c.deref-in-GenFor.ensures.value in
    let most : c.max-in-GenFor.result ≡ max c.min-count.result 3 = search rules in
    let all : c.max-in-GenFor-2.result ≡ max c.held_by_list-in-GenFor.result (4 + c.max-in-GenFor.result) = search rules in
    let result : c.capped-in-GenFor.result ≡ min (max (held_behind 0 (tree.exps (plain_exps c.in-GenFor.values.items))) (4 + max 3 (length c.in-GenFor.names.items))) 1000 =
    omega (arith, c.capped-in-GenFor.ensures, all, most, values, few, size) in
    result
    ∙ ap (λ s. min (held_stat s) 1000)
    (sym (ap (λ node. plain_stat_node node c.args.stat.now.line) c.in-GenFor.is ∙ plain-gen_for c.args.stat.now.line c.in-GenFor.names c.in-GenFor.values c.in-GenFor.field-2))

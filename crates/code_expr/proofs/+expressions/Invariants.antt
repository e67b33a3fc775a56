-- What is left of a list leads to what the whole list leads to.
use Rattle.std.proofs.Common.{◌≡◌, ◌+◌, ◌*◌, length, map, drop, max, List, ℕ}
use denote.Param.Weighed.{most, w_this}
use Rattle.tree_core.specs.declared.tree.Exp.{Exp}
use Rattle.tree_core.specs.declared.tree.Field.{Field}
use Rattle.tree_core.proofs.tree.Exp.TheLaws.{the_size}
use Rattle.tree_core.proofs.tree.Field.TheLaws.{the_size as field_size}
use Rattle.tree_core.specs.Tree.{exps, fields}
use Rattle.tree_core.specs.Plain.{plain_exps, plain_field}
use Rattle.code_expr.specs.Parts.{so_many}
use Rattle.code_expr.proofs.Going.{list_from, fields_from, opened}
use Rattle.code_expr.proofs.+expressions.Given as goal

abbrev pub invariant-expressions::list-loop-exp : goal.invariant-expressions::list-loop-exp
invariant-expressions::list-loop-exp l =
    (l.left + l.exp-index ≡ length l.list.items)
    × (list_from l.emitter l.wanted l.register l.line (exps (plain_exps (drop l.exp-index l.exp-items))) ≡ list_from l.fn.emitter l.fn.wanted l.fn.target l.fn.line (exps (plain_exps l.list.items)))

abbrev pub invariant-expressions::table-loop-field : goal.invariant-expressions::table-loop-field
invariant-expressions::table-loop-field l =
    (l.left + l.field-index ≡ length l.list.items)
    × (fields_from l.emitter l.items l.target l.line (fields (map plain_field (drop l.field-index l.field-items))) ≡ fields_from (opened l.fn.emitter l.fn.target l.fn.line) (so_many 0 0) l.fn.target l.fn.line (fields (map plain_field l.list.items)))

-- a function with two parts of a tree is measured by the greater one

abbrev greatest : List Exp → ℕ
greatest es = most (λ e. w_this.weight Exp the_size e) es

abbrev greatest_field : List Field → ℕ
greatest_field fs = most (λ f. w_this.weight Field field_size f) fs

abbrev pub decreases-expressions::expression : goal.decreases-expressions::expression
decreases-expressions::expression l = 7 * the_size l.exp.now

abbrev pub decreases-expressions::unary : goal.decreases-expressions::unary
decreases-expressions::unary l = 7 * the_size l.inner.now + 2

abbrev pub decreases-expressions::binary : goal.decreases-expressions::binary
decreases-expressions::binary l = 7 * max (the_size l.left.now) (the_size l.right.now) + 5

abbrev pub decreases-expressions::operands : goal.decreases-expressions::operands
decreases-expressions::operands l = 7 * max (the_size l.left.now) (the_size l.right.now) + 3

abbrev pub decreases-expressions::beside : goal.decreases-expressions::beside
decreases-expressions::beside l = 7 * the_size l.left.now + 2

abbrev pub decreases-expressions::both : goal.decreases-expressions::both
decreases-expressions::both l = 7 * max (the_size l.left.now) (the_size l.right.now) + 1

abbrev pub decreases-expressions::operand : goal.decreases-expressions::operand
decreases-expressions::operand l = 7 * the_size l.exp.now + 1

abbrev pub decreases-expressions::index : goal.decreases-expressions::index
decreases-expressions::index l = 7 * max (the_size l.object.now) (the_size l.key.now) + 4

abbrev pub decreases-expressions::either : goal.decreases-expressions::either
decreases-expressions::either l = 7 * max (the_size l.first.now) (the_size l.second.now) + 6

abbrev pub decreases-conditions::condition : goal.decreases-conditions::condition
decreases-conditions::condition l = 7 * the_size l.exp.now + 3

abbrev pub decreases-conditions::by_value : goal.decreases-conditions::by_value
decreases-conditions::by_value l = 7 * the_size l.exp.now + 2

abbrev pub decreases-conditions::compare : goal.decreases-conditions::compare
decreases-conditions::compare l = 7 * max (the_size l.left.now) (the_size l.right.now) + 4

abbrev pub decreases-conditions::either_of : goal.decreases-conditions::either_of
decreases-conditions::either_of l = 7 * max (the_size l.first.now) (the_size l.second.now) + 4

abbrev pub decreases-keeping::keep : goal.decreases-keeping::keep
decreases-keeping::keep l = 7 * the_size l.exp.now + 5

abbrev pub decreases-keeping::keep_either : goal.decreases-keeping::keep_either
decreases-keeping::keep_either l = 7 * max (the_size l.first.now) (the_size l.second.now) + 7

abbrev pub decreases-keeping::keep_value : goal.decreases-keeping::keep_value
decreases-keeping::keep_value l = 7 * the_size l.exp.now + 1

abbrev pub decreases-keeping::keep_truth : goal.decreases-keeping::keep_truth
decreases-keeping::keep_truth l = 7 * the_size l.exp.now + 4

abbrev pub decreases-expressions::pass : goal.decreases-expressions::pass
decreases-expressions::pass l = 7 * max (the_size l.called.now) (greatest l.arguments.now.items) + 2

abbrev pub decreases-expressions::pass_method : goal.decreases-expressions::pass_method
decreases-expressions::pass_method l = 7 * max (the_size l.object.now) (greatest l.arguments.now.items) + 2

abbrev pub decreases-expressions::list : goal.decreases-expressions::list
decreases-expressions::list l = 7 * greatest l.list.now.items + 1

abbrev pub decreases-expressions::table : goal.decreases-expressions::table
decreases-expressions::table l = 7 * greatest_field l.list.now.items + 1

abbrev pub decreases-expressions::table_field : goal.decreases-expressions::table_field
decreases-expressions::table_field l = 7 * field_size l.field.now

abbrev pub decreases-items::item : goal.decreases-items::item
decreases-items::item l = 7 * the_size l.value.now + 2

abbrev pub decreases-items::waiting_item : goal.decreases-items::waiting_item
decreases-items::waiting_item l = 7 * the_size l.value.now + 1

abbrev pub decreases-expressions::keyed : goal.decreases-expressions::keyed
decreases-expressions::keyed l = 7 * max (the_size l.key.now) (the_size l.value.now) + 3

abbrev pub decreases-stores::fill : goal.decreases-stores::fill
decreases-stores::fill l = 7 * max (the_size l.key.now) (the_size l.value.now) + 2

abbrev pub decreases-stores::write_made : goal.decreases-stores::write_made
decreases-stores::write_made l = 7 * the_size l.exp.now + 1

abbrev pub decreases-chains::join : goal.decreases-chains::join
decreases-chains::join l = 7 * max (the_size l.left.now) (the_size l.right.now) + 4

abbrev pub decreases-chains::link : goal.decreases-chains::link
decreases-chains::link l = 7 * max (the_size l.left.now) (the_size l.right.now) + 3

abbrev pub decreases-chains::link_right : goal.decreases-chains::link_right
decreases-chains::link_right l = 7 * the_size l.exp.now + 2

abbrev pub decreases-chains::last_link : goal.decreases-chains::last_link
decreases-chains::last_link l = 7 * the_size l.exp.now + 1

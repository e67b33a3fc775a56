use Rattle.token_cursor.specs.Words.{rank}
use Rattle.lua_parse.specs.Moves.{an_exp, behind, more_fields, prefix, suffixes, explist, more_exps, items, arms, more_arms, more_targets}
use Rattle.lua_parse.specs.Grammar.{operand, expects}
use Rattle.lua_parse.specs.Reading.{Reads, whole}
use Rattle.std.proofs.Common.{◌≤◌, ◌<◌, ◌+◌, ◌*◌, length, map, [], ◌∷◌}
use Rattle.tree_making.specs.Made.{plain_boxed}
use Rattle.tree_core.specs.Plain.{plain_exps, plain_field, plain_stat, plain_arm}
use Rattle.lua_parse.proofs.Steps.{Grows, GrowsOn}
use Rattle.lua_parse.proofs.+grammar.Given as goal

abbrev pub decreases-assignment::assignment : goal.decreases-assignment::assignment
decreases-assignment::assignment l = 1000 * l.room.max + 79

abbrev pub decreases-assignment::function_stat : goal.decreases-assignment::function_stat
decreases-assignment::function_stat l = 1000 * l.room.max + 80

abbrev pub decreases-assignment::local_function : goal.decreases-assignment::local_function
decreases-assignment::local_function l = 1000 * l.room.max + 79

abbrev pub decreases-assignment::local_names : goal.decreases-assignment::local_names
decreases-assignment::local_names l = 1000 * l.room.max + 79

abbrev pub decreases-assignment::local_stat : goal.decreases-assignment::local_stat
decreases-assignment::local_stat l = 1000 * l.room.max + 80

abbrev pub decreases-assignment::prefix_stat : goal.decreases-assignment::prefix_stat
decreases-assignment::prefix_stat l = 1000 * l.room.max + 80

abbrev pub decreases-assignment::targets : goal.decreases-assignment::targets
decreases-assignment::targets l = 1000 * l.room.max + 70

abbrev pub decreases-assignment::values : goal.decreases-assignment::values
decreases-assignment::values l = 1000 * l.room.max + 50

abbrev pub decreases-block::block : goal.decreases-block::block
decreases-block::block l = 1000 * l.room.max + 90

abbrev pub decreases-block::do_block : goal.decreases-block::do_block
decreases-block::do_block l = 1000 * l.room.max + 70

abbrev pub decreases-block::items : goal.decreases-block::items
decreases-block::items l = 1000 * l.room.max + 89

abbrev pub decreases-block::returned : goal.decreases-block::returned
decreases-block::returned l = 1000 * l.room.max + 46

abbrev pub decreases-branch::arm : goal.decreases-branch::arm
decreases-branch::arm l = 1000 * l.room.max + 74

abbrev pub decreases-branch::arms : goal.decreases-branch::arms
decreases-branch::arms l = 1000 * l.room.max + 75

abbrev pub decreases-branch::else_part : goal.decreases-branch::else_part
decreases-branch::else_part l = 1000 * l.room.max + 70

abbrev pub decreases-branch::if_stat : goal.decreases-branch::if_stat
decreases-branch::if_stat l = 1000 * l.room.max + 80

abbrev pub decreases-expression::chain : goal.decreases-expression::chain
decreases-expression::chain l = 1000 * l.room.max + 30

abbrev pub decreases-expression::explist : goal.decreases-expression::explist
decreases-expression::explist l = 1000 * l.room.max + 45

abbrev pub decreases-expression::expression : goal.decreases-expression::expression
decreases-expression::expression l = 1000 * l.room.max + 40

abbrev pub decreases-expression::operators : goal.decreases-expression::operators
decreases-expression::operators l = 1000 * l.room.max + 25

abbrev pub decreases-expression::right_operand : goal.decreases-expression::right_operand
decreases-expression::right_operand l = 1000 * l.room.max + 60

abbrev pub decreases-expression::simple : goal.decreases-expression::simple
decreases-expression::simple l = 1000 * l.room.max + 17

abbrev pub decreases-expression::unary : goal.decreases-expression::unary
decreases-expression::unary l = 1000 * l.room.max + 18

abbrev pub decreases-function::body : goal.decreases-function::body
decreases-function::body l = 1000 * l.room.max + 16

abbrev pub decreases-repetition::for_stat : goal.decreases-repetition::for_stat
decreases-repetition::for_stat l = 1000 * l.room.max + 80

abbrev pub decreases-repetition::generic : goal.decreases-repetition::generic
decreases-repetition::generic l = 1000 * l.room.max + 79

abbrev pub decreases-repetition::numeric : goal.decreases-repetition::numeric
decreases-repetition::numeric l = 1000 * l.room.max + 79

abbrev pub decreases-repetition::step : goal.decreases-repetition::step
decreases-repetition::step l = 1000 * l.room.max + 60

abbrev pub decreases-statement::do_stat : goal.decreases-statement::do_stat
decreases-statement::do_stat l = 1000 * l.room.max + 80

abbrev pub decreases-statement::repeat_stat : goal.decreases-statement::repeat_stat
decreases-statement::repeat_stat l = 1000 * l.room.max + 80

abbrev pub decreases-statement::statement : goal.decreases-statement::statement
decreases-statement::statement l = 1000 * l.room.max + 88

abbrev pub decreases-statement::while_stat : goal.decreases-statement::while_stat
decreases-statement::while_stat l = 1000 * l.room.max + 80

abbrev pub decreases-suffix::arguments : goal.decreases-suffix::arguments
decreases-suffix::arguments l = 1000 * l.room.max + 61

abbrev pub decreases-suffix::call : goal.decreases-suffix::call
decreases-suffix::call l = 1000 * l.room.max + 11

abbrev pub decreases-suffix::indexed : goal.decreases-suffix::indexed
decreases-suffix::indexed l = 1000 * l.room.max + 11

abbrev pub decreases-suffix::listed : goal.decreases-suffix::listed
decreases-suffix::listed l = 1000 * l.room.max + 60

abbrev pub decreases-suffix::method : goal.decreases-suffix::method
decreases-suffix::method l = 1000 * l.room.max + 11

abbrev pub decreases-suffix::method_arguments : goal.decreases-suffix::method_arguments
decreases-suffix::method_arguments l = 1000 * l.room.max + 62

abbrev pub decreases-suffix::paren : goal.decreases-suffix::paren
decreases-suffix::paren l = 1000 * l.room.max + 13

abbrev pub decreases-suffix::prefix : goal.decreases-suffix::prefix
decreases-suffix::prefix l = 1000 * l.room.max + 15

abbrev pub decreases-suffix::primary : goal.decreases-suffix::primary
decreases-suffix::primary l = 1000 * l.room.max + 14

abbrev pub decreases-suffix::suffix : goal.decreases-suffix::suffix
decreases-suffix::suffix l = 1000 * l.room.max + 12

abbrev pub decreases-table::field : goal.decreases-table::field
decreases-table::field l = 1000 * l.room.max + 51

abbrev pub decreases-table::fields : goal.decreases-table::fields
decreases-table::fields l = 1000 * l.room.max + 53

abbrev pub decreases-table::item : goal.decreases-table::item
decreases-table::item l = 1000 * l.room.max + 50

abbrev pub decreases-table::keyed : goal.decreases-table::keyed
decreases-table::keyed l = 1000 * l.room.max + 50

abbrev pub decreases-table::separated_field : goal.decreases-table::separated_field
decreases-table::separated_field l = 1000 * l.room.max + 52

abbrev pub decreases-table::table : goal.decreases-table::table
decreases-table::table l = 1000 * l.room.max + 16

abbrev pub invariant-expression::explist-loop-alloc : goal.invariant-expression::explist-loop-alloc
invariant-expression::explist-loop-alloc l = GrowsOn (expects l.room.max explist) l.fn.cursor (expects l.room.max (more_exps (plain_exps l.items.node.items) l.items.height)) l.cursor l.items.height l.room.max

abbrev pub decreases-expression::explist-loop-alloc : goal.decreases-expression::explist-loop-alloc
decreases-expression::explist-loop-alloc l = length l.cursor

abbrev pub invariant-branch::arms-loop-alloc : goal.invariant-branch::arms-loop-alloc
invariant-branch::arms-loop-alloc l = GrowsOn (expects l.room.max arms) l.fn.cursor (expects l.room.max (more_arms (map plain_arm l.items.node.items) l.items.height)) l.cursor l.items.height l.room.max

abbrev pub decreases-branch::arms-loop-alloc : goal.decreases-branch::arms-loop-alloc
decreases-branch::arms-loop-alloc l = length l.cursor

abbrev pub invariant-suffix::prefix-loop-alloc : goal.invariant-suffix::prefix-loop-alloc
invariant-suffix::prefix-loop-alloc l = GrowsOn (expects l.room.max prefix) l.fn.cursor (expects l.room.max (suffixes (plain_boxed l.left.node) l.left.height)) l.cursor l.left.height l.room.max

abbrev pub decreases-suffix::prefix-loop-alloc : goal.decreases-suffix::prefix-loop-alloc
decreases-suffix::prefix-loop-alloc l = length l.cursor

abbrev pub invariant-table::fields-loop-alloc : goal.invariant-table::fields-loop-alloc
invariant-table::fields-loop-alloc l = Grows (expects l.room.max (more_fields [] 0)) l.fn.cursor (expects l.room.max (more_fields (map plain_field l.items.node.items) l.items.height)) l.cursor l.items.height l.room.max

abbrev pub decreases-table::fields-loop-alloc : goal.decreases-table::fields-loop-alloc
decreases-table::fields-loop-alloc l = length l.cursor

abbrev pub invariant-block::items-loop-cursor : goal.invariant-block::items-loop-cursor
invariant-block::items-loop-cursor l = Grows (expects l.room.max (items [] 0)) l.fn.cursor (expects l.room.max (items (map plain_stat l.stats.node.items) l.stats.height)) l.cursor l.stats.height l.room.max

abbrev pub decreases-block::items-loop-cursor : goal.decreases-block::items-loop-cursor
decreases-block::items-loop-cursor l = length l.cursor

abbrev pub invariant-assignment::targets-loop-alloc : goal.invariant-assignment::targets-loop-alloc
invariant-assignment::targets-loop-alloc l = Grows (expects l.room.max (more_targets (plain_boxed l.fn.first.node ∷ []) l.fn.first.height)) l.fn.cursor (expects l.room.max (more_targets (plain_exps l.items.node.items) l.items.height)) l.cursor l.items.height l.room.max

abbrev pub decreases-assignment::targets-loop-alloc : goal.decreases-assignment::targets-loop-alloc
decreases-assignment::targets-loop-alloc l = length l.cursor

abbrev pub invariant-expression::operators-loop-infix : goal.invariant-expression::operators-loop-infix
invariant-expression::operators-loop-infix l = Grows (expects l.room.max (behind l.fn.level (plain_boxed l.fn.first.node) l.fn.first.height)) l.fn.cursor (expects l.room.max (behind l.level (plain_boxed l.left.node) l.left.height)) l.cursor l.left.height l.room.max

abbrev pub decreases-expression::operators-loop-infix : goal.decreases-expression::operators-loop-infix
decreases-expression::operators-loop-infix l = length l.cursor

abbrev pub invariant-expression::chain-loop-current : goal.invariant-expression::chain-loop-current
invariant-expression::chain-loop-current l = record {
  reads : Reads (expects l.room.max (operand l.current)) l.fn.cursor (whole (an_exp (plain_boxed l.left.node)) l.left.height l.cursor);
  order : rank l.level ≤ rank l.current;
  low : l.left.height ≤ l.room.max;
  taken : length l.cursor < length l.fn.cursor;
}

abbrev pub decreases-expression::chain-loop-current : goal.decreases-expression::chain-loop-current
decreases-expression::chain-loop-current l = rank l.current

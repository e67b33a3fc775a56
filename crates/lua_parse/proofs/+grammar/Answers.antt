-- An answer for each exit of the functions that read the grammar.
use Rattle.std.proofs.Common.{◌≡◌, ◌-◌, [], ◌∷◌, length, Err, refl, sym, subst, ap, ◌∙◌, arith, rules}
use Rattle.std.specs.Prelude.{◌||◌}
use Rattle.token_cursor.specs.declared.word.TheConstants.{CLOSE_ROUND, COMMA, RETURN}
use Rattle.tree_core.specs.Tree as tree
use Rattle.tree_making.specs.Made.{plain_boxed}
use Rattle.tree_core.specs.Plain.{plain_exp, plain_field, plain_stat, plain_arm}
use Rattle.token_cursor.specs.Words.{is_word, is_string, is_separator, ends_block, begins_suffix, may_join, rank, first}
use Rattle.lua_parse.specs.Moves.{an_exp, some_exps, a_field, an_arm, some_items, a_stat, a_block, a_body, behind, simple, table, more_fields, separated_field, field, keyed, item, prefix, primary, paren, suffix, indexed, method, call, method_arguments, arguments, listed, explist, more_exps, body, block, items, returned, do_stat, while_stat, repeat_stat, if_stat, arms, more_arms, arm, else_part, do_block, for_stat, numeric, step, generic, function_stat, local_stat, local_function, local_names, values, prefix_stat, assignment, more_targets}
use Rattle.lua_parse.specs.Grammar.{item_move, expects, operand}
use Rattle.lua_parse.specs.Reading.{Reads, whole}
use Rattle.token_cursor.specs.declared.level.Level.TheVariants.{Product}
use Rattle.lua_parse.proofs.LevelLemmas.{same_rank, rank_looser, alone_chain, chain_leads, failed_chain, failed_operators, next_operand, at_most_product, less, not_less}
use Rattle.lua_parse.proofs.Steps.{taken, not_taken, stat_begins, unary_begins, operator_follows, constant_is, starts, picked, passed, turned, holds, fails, mapped, placed, neither_first, neither_second, either_second, refused, found, failed, failed_by, ended_as, into, answered, has_room, no_room, one_less}
use Rattle.lua_parse.proofs.+grammar.Goals as goal

pub suffix::primary-returns-then-is-clause-reads : goal.suffix::primary-returns-then-is-clause-reads
suffix::primary-returns-then-is-clause-reads t c =
    answered (into (holds _ (picked (starts primary c.args.room.max c.args.cursor.now) c.if-is.ensures.more) (sym c.if-is.ensures.is))) c.paren.result c.paren.ensures.reads

pub suffix::primary-returns-in_err-name-clause-reads : goal.suffix::primary-returns-in_err-name-clause-reads
suffix::primary-returns-in_err-name-clause-reads t c =
    failed_by (fails _ (picked (starts primary c.args.room.max c.args.cursor.now) c.if-is.ensures.more) (sym c.if-is.ensures.is)) c.in_err-name.ensures.reads (search rules)

pub suffix::primary-returns-clause-reads : goal.suffix::primary-returns-clause-reads
suffix::primary-returns-clause-reads t c =
    record { tells = ended_as (found (fails _ (picked (starts primary c.args.room.max c.args.cursor.now) c.if-is.ensures.more) (sym c.if-is.ensures.is)) (c.in_ok-name.ensures.reads.tells)) (ap an_exp c.in_ok-variable.ensures.node) c.in_ok-variable.ensures.levels }

pub suffix::paren-returns-in_err-line-clause-reads : goal.suffix::paren-returns-in_err-line-clause-reads
suffix::paren-returns-in_err-line-clause-reads t c = failed_by (starts paren c.args.room.max c.args.cursor.now) c.in_err-line.ensures.reads (search rules)

pub suffix::paren-returns-in_err-inner-clause-reads : goal.suffix::paren-returns-in_err-inner-clause-reads
suffix::paren-returns-in_err-inner-clause-reads t c = failed_by (found (starts paren c.args.room.max c.args.cursor.now) (c.in_ok-line.ensures.reads.tells)) c.in_err-inner.ensures.reads (search rules)

pub suffix::paren-returns-in_err-expect-clause-reads : goal.suffix::paren-returns-in_err-expect-clause-reads
suffix::paren-returns-in_err-expect-clause-reads t c =
    failed_by (found (found (starts paren c.args.room.max c.args.cursor.now) (c.in_ok-line.ensures.reads.tells)) (c.in_ok-inner.ensures.reads.tells)) c.in_err-expect.ensures.reads (search rules)

pub suffix::paren-returns-clause-reads : goal.suffix::paren-returns-clause-reads
suffix::paren-returns-clause-reads t c =
    let l1 = found (starts paren c.args.room.max c.args.cursor.now) (c.in_ok-line.ensures.reads.tells) in
    let l2 = found l1 (c.in_ok-inner.ensures.reads.tells) in
    let l3 = found l2 (c.in_ok-expect.ensures.reads.tells) in
    record { tells = ended_as l3 (ap an_exp c.in_ok-paren.ensures.node) c.in_ok-paren.ensures.levels }

pub suffix::suffix-returns-then-is-clause-reads : goal.suffix::suffix-returns-then-is-clause-reads
suffix::suffix-returns-then-is-clause-reads t c =
    answered (into (holds _ (picked (starts (suffix (plain_boxed c.args.left.node) c.args.left.height) c.args.room.max c.args.cursor.now) c.if-is.ensures.more) (sym c.if-is.ensures.is))) c.dotted.result c.dotted.ensures.reads

pub suffix::suffix-returns-then-is-2-clause-reads : goal.suffix::suffix-returns-then-is-2-clause-reads
suffix::suffix-returns-then-is-2-clause-reads t c =
    answered (into (holds _ (fails _ (picked (starts (suffix (plain_boxed c.args.left.node) c.args.left.height) c.args.room.max c.args.cursor.now) c.if-is.ensures.more) (sym c.if-is.ensures.is)) (sym c.if-is-2.ensures.is))) c.indexed.result c.indexed.ensures.reads

pub suffix::suffix-returns-then-is-3-clause-reads : goal.suffix::suffix-returns-then-is-3-clause-reads
suffix::suffix-returns-then-is-3-clause-reads t c =
    let l1 = picked (starts (suffix (plain_boxed c.args.left.node) c.args.left.height) c.args.room.max c.args.cursor.now) c.if-is.ensures.more in
    let l2 = fails _ l1 (sym c.if-is.ensures.is) in
    let l3 = fails _ l2 (sym c.if-is-2.ensures.is) in
    let l4 = holds _ l3 (sym c.if-is-3.ensures.is) in
    answered (into l4) c.method.result c.method.ensures.reads

pub suffix::suffix-returns-clause-reads : goal.suffix::suffix-returns-clause-reads
suffix::suffix-returns-clause-reads t c =
    let l1 = picked (starts (suffix (plain_boxed c.args.left.node) c.args.left.height) c.args.room.max c.args.cursor.now) c.if-is.ensures.more in
    let l2 = fails _ l1 (sym c.if-is.ensures.is) in
    let l3 = fails _ l2 (sym c.if-is-2.ensures.is) in
    let l4 = fails _ l3 (sym c.if-is-3.ensures.is) in
    answered (into l4) c.call.result c.call.ensures.reads

pub suffix::indexed-returns-in_err-line-clause-reads : goal.suffix::indexed-returns-in_err-line-clause-reads
suffix::indexed-returns-in_err-line-clause-reads t c =
    failed_by (starts (indexed (plain_boxed c.args.left.node) c.args.left.height) c.args.room.max c.args.cursor.now) c.in_err-line.ensures.reads (search rules)

pub suffix::indexed-returns-in_err-key-clause-reads : goal.suffix::indexed-returns-in_err-key-clause-reads
suffix::indexed-returns-in_err-key-clause-reads t c =
    failed_by (found (starts (indexed (plain_boxed c.args.left.node) c.args.left.height) c.args.room.max c.args.cursor.now) (c.in_ok-line.ensures.reads.tells)) c.in_err-key.ensures.reads (search rules)

pub suffix::indexed-returns-in_err-expect-clause-reads : goal.suffix::indexed-returns-in_err-expect-clause-reads
suffix::indexed-returns-in_err-expect-clause-reads t c =
    failed_by (found (found (starts (indexed (plain_boxed c.args.left.node) c.args.left.height) c.args.room.max c.args.cursor.now) (c.in_ok-line.ensures.reads.tells)) (c.in_ok-key.ensures.reads.tells)) c.in_err-expect.ensures.reads (search rules)

pub suffix::indexed-returns-clause-reads : goal.suffix::indexed-returns-clause-reads
suffix::indexed-returns-clause-reads t c =
    let l1 = found (starts (indexed (plain_boxed c.args.left.node) c.args.left.height) c.args.room.max c.args.cursor.now) (c.in_ok-line.ensures.reads.tells) in
    let l2 = found l1 (c.in_ok-key.ensures.reads.tells) in
    let l3 = found l2 (c.in_ok-expect.ensures.reads.tells) in
    record { tells = ended_as l3 (ap an_exp c.in_ok-index.ensures.node) c.in_ok-index.ensures.levels }

pub suffix::method-returns-in_err-open-clause-reads : goal.suffix::method-returns-in_err-open-clause-reads
suffix::method-returns-in_err-open-clause-reads t c =
    failed_by (starts (method (plain_boxed c.args.left.node) c.args.left.height) c.args.room.max c.args.cursor.now) c.in_err-open.ensures.reads (search rules)

pub suffix::method-returns-in_err-name-clause-reads : goal.suffix::method-returns-in_err-name-clause-reads
suffix::method-returns-in_err-name-clause-reads t c =
    failed_by (found (starts (method (plain_boxed c.args.left.node) c.args.left.height) c.args.room.max c.args.cursor.now) (c.in_ok-open.ensures.reads.tells)) c.in_err-name.ensures.reads (search rules)

pub suffix::method-returns-in_err-arguments-clause-reads : goal.suffix::method-returns-in_err-arguments-clause-reads
suffix::method-returns-in_err-arguments-clause-reads t c =
    let l1 = found (starts (method (plain_boxed c.args.left.node) c.args.left.height) c.args.room.max c.args.cursor.now) (c.in_ok-open.ensures.reads.tells) in
    let l2 = found l1 (c.in_ok-name.ensures.reads.tells) in
    let l3 = picked l2 c.line-line.ensures.more in
    let l4 = rw (← c.line-line.ensures.is) at l3 in
    failed_by l4 c.in_err-arguments.ensures.reads (search rules)

pub suffix::method-returns-clause-reads : goal.suffix::method-returns-clause-reads
suffix::method-returns-clause-reads t c =
    let l1 = found (starts (method (plain_boxed c.args.left.node) c.args.left.height) c.args.room.max c.args.cursor.now) (c.in_ok-open.ensures.reads.tells) in
    let l2 = found l1 (c.in_ok-name.ensures.reads.tells) in
    let l3 = picked l2 c.line-line.ensures.more in
    let l4 = rw (← c.line-line.ensures.is) at l3 in
    let l5 = found l4 (c.in_ok-arguments.ensures.reads.tells) in
    record { tells = ended_as l5 (ap an_exp c.in_ok-method.ensures.node) c.in_ok-method.ensures.levels }

pub suffix::call-returns-then-left-room-clause-reads : goal.suffix::call-returns-then-left-room-clause-reads
suffix::call-returns-then-left-room-clause-reads t c =
    let l1 = picked (starts (call (plain_boxed c.args.left.node) c.args.left.height) c.args.room.max c.args.cursor.now) c.line-line.ensures.more in
    let l2 = rw (← c.line-line.ensures.is) at l1 in
    let l3 = fails _ l2 (no_room c.args.room.max c.args.left.height c.if-left-room.true) in
    record { tells = refused l3 c.line-line.ensures.more }

pub suffix::call-returns-in_err-arguments-clause-reads : goal.suffix::call-returns-in_err-arguments-clause-reads
suffix::call-returns-in_err-arguments-clause-reads t c =
    let l1 = picked (starts (call (plain_boxed c.args.left.node) c.args.left.height) c.args.room.max c.args.cursor.now) c.line-line.ensures.more in
    let l2 = rw (← c.line-line.ensures.is) at l1 in
    let l3 = holds _ l2 (has_room c.args.room.max c.args.left.height c.if-left-room.false) in
    failed_by l3 c.in_err-arguments.ensures.reads (search rules)

pub suffix::call-returns-clause-reads : goal.suffix::call-returns-clause-reads
suffix::call-returns-clause-reads t c =
    let l1 = picked (starts (call (plain_boxed c.args.left.node) c.args.left.height) c.args.room.max c.args.cursor.now) c.line-line.ensures.more in
    let l2 = rw (← c.line-line.ensures.is) at l1 in
    let l3 = holds _ l2 (has_room c.args.room.max c.args.left.height c.if-left-room.false) in
    let l4 = found l3 (c.in_ok-arguments.ensures.reads.tells) in
    record { tells = ended_as l4 (ap an_exp c.in_ok-call.ensures.node) c.in_ok-call.ensures.levels }

pub suffix::method_arguments-returns-then-is_string-clause-reads : goal.suffix::method_arguments-returns-then-is_string-clause-reads
suffix::method_arguments-returns-then-is_string-clause-reads t c =
    answered (into (holds _ (picked (starts method_arguments c.args.room.max c.args.cursor.now) c.peek.ensures.more) (ap is_string (sym c.peek.ensures.is) ∙ sym c.if-is_string.ensures))) c.arguments.result c.arguments.ensures.reads

pub suffix::method_arguments-returns-then-room-eq0-clause-reads : goal.suffix::method_arguments-returns-then-room-eq0-clause-reads
suffix::method_arguments-returns-then-room-eq0-clause-reads t c =
    let l1 = picked (starts method_arguments c.args.room.max c.args.cursor.now) c.peek.ensures.more in
    let l2 = fails _ l1 (ap is_string (sym c.peek.ensures.is) ∙ sym c.if-is_string.ensures) in
    let l3 = fails _ l2 (no_room c.args.room.max 0 (omega (arith, c.if-room-eq0.true))) in
    record { tells = refused l3 c.peek.ensures.more }

pub suffix::method_arguments-returns-in_err-inner-clause-reads : goal.suffix::method_arguments-returns-in_err-inner-clause-reads
suffix::method_arguments-returns-in_err-inner-clause-reads t c =
    let l1 = picked (starts method_arguments c.args.room.max c.args.cursor.now) c.peek.ensures.more in
    let l2 = fails _ l1 (ap is_string (sym c.peek.ensures.is) ∙ sym c.if-is_string.ensures) in
    let l3 = holds _ l2 (has_room c.args.room.max 0 (omega (arith, c.if-room-eq0.false))) in
    failed_by l3 c.in_err-inner.ensures.reads (search rules)

pub suffix::method_arguments-returns-clause-reads : goal.suffix::method_arguments-returns-clause-reads
suffix::method_arguments-returns-clause-reads t c =
    let l1 = picked (starts method_arguments c.args.room.max c.args.cursor.now) c.peek.ensures.more in
    let l2 = fails _ l1 (ap is_string (sym c.peek.ensures.is) ∙ sym c.if-is_string.ensures) in
    let l3 = holds _ l2 (has_room c.args.room.max 0 (omega (arith, c.if-room-eq0.false))) in
    let l4 = found l3 (c.in_ok-inner.ensures.reads.tells) in
    record { tells = ended_as l4 (refl) (refl) }

pub suffix::arguments-returns-then-is-clause-reads : goal.suffix::arguments-returns-then-is-clause-reads
suffix::arguments-returns-then-is-clause-reads t c =
    answered (into (passed (holds _ (picked (starts arguments c.args.room.max c.args.cursor.now) c.if-is.ensures.more) (sym c.if-is.ensures.is)) c.if-is.ensures.more (c.skip.ensures))) c.listed.result c.listed.ensures.reads

pub suffix::arguments-returns-in_err-fields-clause-reads : goal.suffix::arguments-returns-in_err-fields-clause-reads
suffix::arguments-returns-in_err-fields-clause-reads t c =
    let l1 = picked (starts arguments c.args.room.max c.args.cursor.now) c.if-is.ensures.more in
    let l2 = fails _ l1 (sym c.if-is.ensures.is) in
    let l3 = holds _ l2 (sym c.if-is-2.ensures.is) in
    let l4 = rw (← c.line-line.ensures.is) at l3 in
    let l5 = passed l4 c.if-is-2.ensures.more (c.skip-then-is-2.ensures) in
    failed_by l5 c.in_err-fields.ensures.reads (search rules)

pub suffix::arguments-returns-then-is-2-clause-reads : goal.suffix::arguments-returns-then-is-2-clause-reads
suffix::arguments-returns-then-is-2-clause-reads t c =
    let l1 = picked (starts arguments c.args.room.max c.args.cursor.now) c.if-is.ensures.more in
    let l2 = fails _ l1 (sym c.if-is.ensures.is) in
    let l3 = holds _ l2 (sym c.if-is-2.ensures.is) in
    let l4 = rw (← c.line-line.ensures.is) at l3 in
    let l5 = passed l4 c.if-is-2.ensures.more (c.skip-then-is-2.ensures) in
    let l6 = found l5 (c.in_ok-fields.ensures.reads.tells) in
    record { tells = ended_as l6 (ap some_exps c.in_ok-table_argument.ensures.node) c.in_ok-table_argument.ensures.levels }

pub suffix::arguments-returns-clause-reads : goal.suffix::arguments-returns-clause-reads
suffix::arguments-returns-clause-reads t c =
    answered (into (fails _ (fails _ (picked (starts arguments c.args.room.max c.args.cursor.now) c.if-is.ensures.more) (sym c.if-is.ensures.is)) (sym c.if-is-2.ensures.is))) c.string_argument.result c.string_argument.ensures.reads

pub suffix::listed-returns-then-take-clause-reads : goal.suffix::listed-returns-then-take-clause-reads
suffix::listed-returns-then-take-clause-reads t c =
    record { tells = ended_as (taken CLOSE_ROUND _ (picked (starts listed c.args.room.max c.args.cursor.now) c.take.ensures.more) c.take.ensures.more c.take.ensures.is c.take.ensures.passed c.if-take.true) (ap some_exps c.no_exps.ensures.node) c.no_exps.ensures.levels }

pub suffix::listed-returns-in_err-items-clause-reads : goal.suffix::listed-returns-in_err-items-clause-reads
suffix::listed-returns-in_err-items-clause-reads t c =
    failed_by (not_taken CLOSE_ROUND _ (picked (starts listed c.args.room.max c.args.cursor.now) c.take.ensures.more) c.take.ensures.more c.take.ensures.is c.take.ensures.passed c.if-take.false) c.in_err-items.ensures.reads (search rules)

pub suffix::listed-returns-in_err-expect-clause-reads : goal.suffix::listed-returns-in_err-expect-clause-reads
suffix::listed-returns-in_err-expect-clause-reads t c =
    failed_by (found (not_taken CLOSE_ROUND _ (picked (starts listed c.args.room.max c.args.cursor.now) c.take.ensures.more) c.take.ensures.more c.take.ensures.is c.take.ensures.passed c.if-take.false) (c.in_ok-items.ensures.reads.tells)) c.in_err-expect.ensures.reads (search rules)

pub suffix::listed-returns-clause-reads : goal.suffix::listed-returns-clause-reads
suffix::listed-returns-clause-reads t c =
    record { tells = ended_as (found (found (not_taken CLOSE_ROUND _ (picked (starts listed c.args.room.max c.args.cursor.now) c.take.ensures.more) c.take.ensures.more c.take.ensures.is c.take.ensures.passed c.if-take.false) (c.in_ok-items.ensures.reads.tells)) (c.in_ok-expect.ensures.reads.tells)) (refl) (refl) }

pub table::table-returns-in_err-line-clause-reads : goal.table::table-returns-in_err-line-clause-reads
table::table-returns-in_err-line-clause-reads t c = failed_by (starts table c.args.room.max c.args.cursor.now) c.in_err-line.ensures.reads (search rules)

pub table::table-returns-in_err-fields-clause-reads : goal.table::table-returns-in_err-fields-clause-reads
table::table-returns-in_err-fields-clause-reads t c = failed_by (found (starts table c.args.room.max c.args.cursor.now) (c.in_ok-line.ensures.reads.tells)) c.in_err-fields.ensures.reads (search rules)

pub table::table-returns-clause-reads : goal.table::table-returns-clause-reads
table::table-returns-clause-reads t c =
    record { tells = ended_as (found (found (starts table c.args.room.max c.args.cursor.now) (c.in_ok-line.ensures.reads.tells)) (c.in_ok-fields.ensures.reads.tells)) (ap an_exp c.in_ok-table.ensures.node) c.in_ok-table.ensures.levels }

pub table::separated_field-returns-in_err-field-clause-reads : goal.table::separated_field-returns-in_err-field-clause-reads
table::separated_field-returns-in_err-field-clause-reads t c = failed_by (starts separated_field c.args.room.max c.args.cursor.now) c.in_err-field.ensures.reads (search rules)

pub table::separated_field-returns-then-is_separator-clause-reads : goal.table::separated_field-returns-then-is_separator-clause-reads
table::separated_field-returns-then-is_separator-clause-reads t c =
    let l1 = found (starts separated_field c.args.room.max c.args.cursor.now) (c.in_ok-field.ensures.reads.tells) in
    let l2 = picked l1 c.peek.ensures.more in
    let l3 = holds _ l2 (ap is_separator (sym c.peek.ensures.is) ∙ sym c.if-is_separator.ensures) in
    let l4 = passed l3 c.peek.ensures.more (c.skip.ensures) in
    record { tells = ended_as l4 (refl) (refl) }

pub table::separated_field-returns-then-not-is-clause-reads : goal.table::separated_field-returns-then-not-is-clause-reads
table::separated_field-returns-then-not-is-clause-reads t c =
    let l1 = found (starts separated_field c.args.room.max c.args.cursor.now) (c.in_ok-field.ensures.reads.tells) in
    let l2 = picked l1 c.peek.ensures.more in
    let l3 = fails _ l2 (ap is_separator (sym c.peek.ensures.is) ∙ sym c.if-is_separator.ensures) in
    let l4 = fails _ l3 (sym c.if-not-is.ensures.is) in
    record { tells = refused l4 c.if-not-is.ensures.more }

pub table::separated_field-returns-clause-reads : goal.table::separated_field-returns-clause-reads
table::separated_field-returns-clause-reads t c =
    let l1 = found (starts separated_field c.args.room.max c.args.cursor.now) (c.in_ok-field.ensures.reads.tells) in
    let l2 = picked l1 c.peek.ensures.more in
    let l3 = fails _ l2 (ap is_separator (sym c.peek.ensures.is) ∙ sym c.if-is_separator.ensures) in
    let l4 = holds _ l3 (sym c.if-not-is.ensures.is) in
    record { tells = ended_as l4 (refl) (refl) }

pub table::field-returns-then-is-clause-reads : goal.table::field-returns-then-is-clause-reads
table::field-returns-then-is-clause-reads t c =
    answered (into (holds _ (picked (starts field c.args.room.max c.args.cursor.now) c.if-is.ensures.more) (sym c.if-is.ensures.is))) c.keyed.result c.keyed.ensures.reads

pub table::field-returns-clause-reads : goal.table::field-returns-clause-reads
table::field-returns-clause-reads t c = answered (into (fails _ (picked (starts field c.args.room.max c.args.cursor.now) c.if-is.ensures.more) (sym c.if-is.ensures.is))) c.item.result c.item.ensures.reads

pub table::keyed-returns-in_err-line-clause-reads : goal.table::keyed-returns-in_err-line-clause-reads
table::keyed-returns-in_err-line-clause-reads t c = failed_by (starts keyed c.args.room.max c.args.cursor.now) c.in_err-line.ensures.reads (search rules)

pub table::keyed-returns-in_err-key-clause-reads : goal.table::keyed-returns-in_err-key-clause-reads
table::keyed-returns-in_err-key-clause-reads t c = failed_by (found (starts keyed c.args.room.max c.args.cursor.now) (c.in_ok-line.ensures.reads.tells)) c.in_err-key.ensures.reads (search rules)

pub table::keyed-returns-in_err-expect-clause-reads : goal.table::keyed-returns-in_err-expect-clause-reads
table::keyed-returns-in_err-expect-clause-reads t c =
    failed_by (found (found (starts keyed c.args.room.max c.args.cursor.now) (c.in_ok-line.ensures.reads.tells)) (c.in_ok-key.ensures.reads.tells)) c.in_err-expect.ensures.reads (search rules)

pub table::keyed-returns-in_err-expect-2-clause-reads : goal.table::keyed-returns-in_err-expect-2-clause-reads
table::keyed-returns-in_err-expect-2-clause-reads t c =
    failed_by (found (found (found (starts keyed c.args.room.max c.args.cursor.now) (c.in_ok-line.ensures.reads.tells)) (c.in_ok-key.ensures.reads.tells)) (c.in_ok-expect.ensures.reads.tells)) c.in_err-expect-2.ensures.reads (search rules)

pub table::keyed-returns-in_err-value-clause-reads : goal.table::keyed-returns-in_err-value-clause-reads
table::keyed-returns-in_err-value-clause-reads t c =
    let l1 = found (starts keyed c.args.room.max c.args.cursor.now) (c.in_ok-line.ensures.reads.tells) in
    let l2 = found l1 (c.in_ok-key.ensures.reads.tells) in
    let l3 = found l2 (c.in_ok-expect.ensures.reads.tells) in
    let l4 = found l3 (c.in_ok-expect-2.ensures.reads.tells) in
    failed_by l4 c.in_err-value.ensures.reads (search rules)

pub table::keyed-returns-clause-reads : goal.table::keyed-returns-clause-reads
table::keyed-returns-clause-reads t c =
    let l1 = found (starts keyed c.args.room.max c.args.cursor.now) (c.in_ok-line.ensures.reads.tells) in
    let l2 = found l1 (c.in_ok-key.ensures.reads.tells) in
    let l3 = found l2 (c.in_ok-expect.ensures.reads.tells) in
    let l4 = found l3 (c.in_ok-expect-2.ensures.reads.tells) in
    let l5 = found l4 (c.in_ok-value.ensures.reads.tells) in
    record { tells = ended_as l5 (ap a_field c.keyed.ensures.node) c.keyed.ensures.levels }

pub table::item-returns-in_err-first-clause-reads : goal.table::item-returns-in_err-first-clause-reads
table::item-returns-in_err-first-clause-reads t c = failed_by (starts item c.args.room.max c.args.cursor.now) c.in_err-first.ensures.reads (search rules)

pub table::item-returns-then-not-is-clause-reads : goal.table::item-returns-then-not-is-clause-reads
table::item-returns-then-not-is-clause-reads t c =
    record { tells = ended_as (fails _ (picked (found (starts item c.args.room.max c.args.cursor.now) (c.in_ok-first.ensures.reads.tells)) c.if-not-is.ensures.more) (sym c.if-not-is.ensures.is)) (ap a_field c.item.ensures.node) c.item.ensures.levels }

pub table::item-returns-in_default-clause-reads : goal.table::item-returns-in_default-clause-reads
table::item-returns-in_default-clause-reads t c =
    let l1 = found (starts item c.args.room.max c.args.cursor.now) (c.in_ok-first.ensures.reads.tells) in
    let l2 = picked l1 c.if-not-is.ensures.more in
    let l3 = holds _ l2 (sym c.if-not-is.ensures.is) in
    let l4 = turned l3 (ap (item_move c.args.room.max) (sym c.name_of.ensures ∙ c.in_default.is)) in
    record { tells = refused l4 c.if-not-is.ensures.more }

pub table::item-returns-in_err-value-clause-reads : goal.table::item-returns-in_err-value-clause-reads
table::item-returns-in_err-value-clause-reads t c =
    let l1 = found (starts item c.args.room.max c.args.cursor.now) (c.in_ok-first.ensures.reads.tells) in
    let l2 = picked l1 c.if-not-is.ensures.more in
    let l3 = holds _ l2 (sym c.if-not-is.ensures.is) in
    let l4 = turned l3 (ap (item_move c.args.room.max) (sym c.name_of.ensures ∙ c.in-Some.is)) in
    let l5 = passed l4 c.if-not-is.ensures.more (c.skip.ensures) in
    failed_by l5 c.in_err-value.ensures.reads (search rules)

pub table::item-returns-clause-reads : goal.table::item-returns-clause-reads
table::item-returns-clause-reads t c =
    let l1 = found (starts item c.args.room.max c.args.cursor.now) (c.in_ok-first.ensures.reads.tells) in
    let l2 = picked l1 c.if-not-is.ensures.more in
    let l3 = holds _ l2 (sym c.if-not-is.ensures.is) in
    let l4 = turned l3 (ap (item_move c.args.room.max) (sym c.name_of.ensures ∙ c.in-Some.is)) in
    let l5 = passed l4 c.if-not-is.ensures.more (c.skip.ensures) in
    let l6 = found l5 (c.in_ok-value.ensures.reads.tells) in
    record { tells = ended_as l6 (ap a_field c.named.ensures.node) c.named.ensures.levels }

pub function::body-returns-in_err-open-clause-reads : goal.function::body-returns-in_err-open-clause-reads
function::body-returns-in_err-open-clause-reads t c = failed_by (starts (body c.args.line c.args.own.items) c.args.room.max c.args.cursor.now) c.in_err-open.ensures.reads (search rules)

pub function::body-returns-in_err-params-clause-reads : goal.function::body-returns-in_err-params-clause-reads
function::body-returns-in_err-params-clause-reads t c =
    failed_by (found (starts (body c.args.line c.args.own.items) c.args.room.max c.args.cursor.now) (c.in_ok-open.ensures.reads.tells)) c.in_err-params.ensures.reads (search rules)

pub function::body-returns-in_err-open-2-clause-reads : goal.function::body-returns-in_err-open-2-clause-reads
function::body-returns-in_err-open-2-clause-reads t c =
    failed_by (found (found (starts (body c.args.line c.args.own.items) c.args.room.max c.args.cursor.now) (c.in_ok-open.ensures.reads.tells)) (c.in_ok-params.ensures.reads.tells)) c.in_err-open-2.ensures.reads (search rules)

pub function::body-returns-in_err-inner-clause-reads : goal.function::body-returns-in_err-inner-clause-reads
function::body-returns-in_err-inner-clause-reads t c =
    failed_by (found (found (found (starts (body c.args.line c.args.own.items) c.args.room.max c.args.cursor.now) (c.in_ok-open.ensures.reads.tells)) (c.in_ok-params.ensures.reads.tells)) (c.in_ok-open-2.ensures.reads.tells)) c.in_err-inner.ensures.reads (search rules)

pub function::body-returns-in_err-expect-clause-reads : goal.function::body-returns-in_err-expect-clause-reads
function::body-returns-in_err-expect-clause-reads t c =
    let l1 = found (starts (body c.args.line c.args.own.items) c.args.room.max c.args.cursor.now) (c.in_ok-open.ensures.reads.tells) in
    let l2 = found l1 (c.in_ok-params.ensures.reads.tells) in
    let l3 = found l2 (c.in_ok-open-2.ensures.reads.tells) in
    let l4 = found l3 (c.in_ok-inner.ensures.reads.tells) in
    failed_by l4 c.in_err-expect.ensures.reads (search rules)

pub function::body-returns-clause-reads : goal.function::body-returns-clause-reads
function::body-returns-clause-reads t c =
    let l1 = found (starts (body c.args.line c.args.own.items) c.args.room.max c.args.cursor.now) (c.in_ok-open.ensures.reads.tells) in
    let l2 = found l1 (c.in_ok-params.ensures.reads.tells) in
    let l3 = found l2 (c.in_ok-open-2.ensures.reads.tells) in
    let l4 = found l3 (c.in_ok-inner.ensures.reads.tells) in
    let l5 = found l4 (c.in_ok-expect.ensures.reads.tells) in
    record { tells = ended_as l5 (ap a_body c.body.ensures.node) c.body.ensures.levels }

pub block::returned-returns-then-ends_block-clause-reads : goal.block::returned-returns-then-ends_block-clause-reads
block::returned-returns-then-ends_block-clause-reads t c =
    record { tells = ended_as (holds _ (picked (starts returned c.args.room.max c.args.cursor.now) c.peek.ensures.more) (ap ends_block (sym c.peek.ensures.is) ∙ sym c.if-ends_block.ensures)) (ap some_exps c.no_exps.ensures.node) c.no_exps.ensures.levels }

pub block::returned-returns-then-is-clause-reads : goal.block::returned-returns-then-is-clause-reads
block::returned-returns-then-is-clause-reads t c =
    let l1 = picked (starts returned c.args.room.max c.args.cursor.now) c.peek.ensures.more in
    let l2 = fails _ l1 (ap ends_block (sym c.peek.ensures.is) ∙ sym c.if-ends_block.ensures) in
    let l3 = holds _ l2 (sym c.if-is.ensures.is) in
    let l4 = passed l3 c.if-is.ensures.more (c.skip.ensures) in
    record { tells = ended_as l4 (ap some_exps c.no_exps-then-is.ensures.node) c.no_exps-then-is.ensures.levels }

pub block::returned-returns-in_err-values-clause-reads : goal.block::returned-returns-in_err-values-clause-reads
block::returned-returns-in_err-values-clause-reads t c =
    failed_by (fails _ (fails _ (picked (starts returned c.args.room.max c.args.cursor.now) c.peek.ensures.more) (ap ends_block (sym c.peek.ensures.is) ∙ sym c.if-ends_block.ensures)) (sym c.if-is.ensures.is)) c.in_err-values.ensures.reads (search rules)

pub block::returned-returns-then-not-is-clause-reads : goal.block::returned-returns-then-not-is-clause-reads
block::returned-returns-then-not-is-clause-reads t c =
    let l1 = picked (starts returned c.args.room.max c.args.cursor.now) c.peek.ensures.more in
    let l2 = fails _ l1 (ap ends_block (sym c.peek.ensures.is) ∙ sym c.if-ends_block.ensures) in
    let l3 = fails _ l2 (sym c.if-is.ensures.is) in
    let l4 = found l3 (c.in_ok-values.ensures.reads.tells) in
    let l5 = picked l4 c.if-not-is.ensures.more in
    let l6 = fails _ l5 (sym c.if-not-is.ensures.is) in
    record { tells = ended_as l6 (refl) (refl) }

pub block::returned-returns-clause-reads : goal.block::returned-returns-clause-reads
block::returned-returns-clause-reads t c =
    let l1 = picked (starts returned c.args.room.max c.args.cursor.now) c.peek.ensures.more in
    let l2 = fails _ l1 (ap ends_block (sym c.peek.ensures.is) ∙ sym c.if-ends_block.ensures) in
    let l3 = fails _ l2 (sym c.if-is.ensures.is) in
    let l4 = found l3 (c.in_ok-values.ensures.reads.tells) in
    let l5 = picked l4 c.if-not-is.ensures.more in
    let l6 = holds _ l5 (sym c.if-not-is.ensures.is) in
    let l7 = passed l6 c.if-not-is.ensures.more (c.skip-2.ensures) in
    record { tells = ended_as l7 (refl) (refl) }

pub block::do_block-returns-in_err-open-clause-reads : goal.block::do_block-returns-in_err-open-clause-reads
block::do_block-returns-in_err-open-clause-reads t c = failed_by (starts do_block c.args.room.max c.args.cursor.now) c.in_err-open.ensures.reads (search rules)

pub block::do_block-returns-in_err-inner-clause-reads : goal.block::do_block-returns-in_err-inner-clause-reads
block::do_block-returns-in_err-inner-clause-reads t c = failed_by (found (starts do_block c.args.room.max c.args.cursor.now) (c.in_ok-open.ensures.reads.tells)) c.in_err-inner.ensures.reads (search rules)

pub block::do_block-returns-in_err-expect-clause-reads : goal.block::do_block-returns-in_err-expect-clause-reads
block::do_block-returns-in_err-expect-clause-reads t c =
    failed_by (found (found (starts do_block c.args.room.max c.args.cursor.now) (c.in_ok-open.ensures.reads.tells)) (c.in_ok-inner.ensures.reads.tells)) c.in_err-expect.ensures.reads (search rules)

pub block::do_block-returns-clause-reads : goal.block::do_block-returns-clause-reads
block::do_block-returns-clause-reads t c =
    record { tells = ended_as (found (found (found (starts do_block c.args.room.max c.args.cursor.now) (c.in_ok-open.ensures.reads.tells)) (c.in_ok-inner.ensures.reads.tells)) (c.in_ok-expect.ensures.reads.tells)) (ap a_block c.deeper.ensures.node) c.deeper.ensures.levels }

pub statement::do_stat-returns-in_err-inner-clause-reads : goal.statement::do_stat-returns-in_err-inner-clause-reads
statement::do_stat-returns-in_err-inner-clause-reads t c =
    failed_by (rw (← c.line-line.ensures.is) at (picked (starts do_stat c.args.room.max c.args.cursor.now) c.line-line.ensures.more)) c.in_err-inner.ensures.reads (search rules)

pub statement::do_stat-returns-clause-reads : goal.statement::do_stat-returns-clause-reads
statement::do_stat-returns-clause-reads t c =
    record { tells = ended_as (found (rw (← c.line-line.ensures.is) at (picked (starts do_stat c.args.room.max c.args.cursor.now) c.line-line.ensures.more)) (c.in_ok-inner.ensures.reads.tells)) (ap a_stat c.in_ok-do_stat.ensures.node) c.in_ok-do_stat.ensures.levels }

pub statement::while_stat-returns-in_err-line-clause-reads : goal.statement::while_stat-returns-in_err-line-clause-reads
statement::while_stat-returns-in_err-line-clause-reads t c = failed_by (starts while_stat c.args.room.max c.args.cursor.now) c.in_err-line.ensures.reads (search rules)

pub statement::while_stat-returns-in_err-test-clause-reads : goal.statement::while_stat-returns-in_err-test-clause-reads
statement::while_stat-returns-in_err-test-clause-reads t c =
    failed_by (found (starts while_stat c.args.room.max c.args.cursor.now) (c.in_ok-line.ensures.reads.tells)) c.in_err-test.ensures.reads (search rules)

pub statement::while_stat-returns-in_err-inner-clause-reads : goal.statement::while_stat-returns-in_err-inner-clause-reads
statement::while_stat-returns-in_err-inner-clause-reads t c =
    failed_by (found (found (starts while_stat c.args.room.max c.args.cursor.now) (c.in_ok-line.ensures.reads.tells)) (c.in_ok-test.ensures.reads.tells)) c.in_err-inner.ensures.reads (search rules)

pub statement::while_stat-returns-clause-reads : goal.statement::while_stat-returns-clause-reads
statement::while_stat-returns-clause-reads t c =
    let l1 = found (starts while_stat c.args.room.max c.args.cursor.now) (c.in_ok-line.ensures.reads.tells) in
    let l2 = found l1 (c.in_ok-test.ensures.reads.tells) in
    let l3 = found l2 (c.in_ok-inner.ensures.reads.tells) in
    record { tells = ended_as l3 (ap a_stat c.in_ok-while_stat.ensures.node) c.in_ok-while_stat.ensures.levels }

pub statement::repeat_stat-returns-in_err-line-clause-reads : goal.statement::repeat_stat-returns-in_err-line-clause-reads
statement::repeat_stat-returns-in_err-line-clause-reads t c = failed_by (starts repeat_stat c.args.room.max c.args.cursor.now) c.in_err-line.ensures.reads (search rules)

pub statement::repeat_stat-returns-in_err-inner-clause-reads : goal.statement::repeat_stat-returns-in_err-inner-clause-reads
statement::repeat_stat-returns-in_err-inner-clause-reads t c =
    failed_by (found (starts repeat_stat c.args.room.max c.args.cursor.now) (c.in_ok-line.ensures.reads.tells)) c.in_err-inner.ensures.reads (search rules)

pub statement::repeat_stat-returns-in_err-expect-clause-reads : goal.statement::repeat_stat-returns-in_err-expect-clause-reads
statement::repeat_stat-returns-in_err-expect-clause-reads t c =
    failed_by (found (found (starts repeat_stat c.args.room.max c.args.cursor.now) (c.in_ok-line.ensures.reads.tells)) (c.in_ok-inner.ensures.reads.tells)) c.in_err-expect.ensures.reads (search rules)

pub statement::repeat_stat-returns-in_err-test-clause-reads : goal.statement::repeat_stat-returns-in_err-test-clause-reads
statement::repeat_stat-returns-in_err-test-clause-reads t c =
    failed_by (found (found (found (starts repeat_stat c.args.room.max c.args.cursor.now) (c.in_ok-line.ensures.reads.tells)) (c.in_ok-inner.ensures.reads.tells)) (c.in_ok-expect.ensures.reads.tells)) c.in_err-test.ensures.reads (search rules)

pub statement::repeat_stat-returns-clause-reads : goal.statement::repeat_stat-returns-clause-reads
statement::repeat_stat-returns-clause-reads t c =
    let l1 = found (starts repeat_stat c.args.room.max c.args.cursor.now) (c.in_ok-line.ensures.reads.tells) in
    let l2 = found l1 (c.in_ok-inner.ensures.reads.tells) in
    let l3 = found l2 (c.in_ok-expect.ensures.reads.tells) in
    let l4 = found l3 (c.in_ok-test.ensures.reads.tells) in
    record { tells = ended_as l4 (ap a_stat c.in_ok-repeat_stat.ensures.node) c.in_ok-repeat_stat.ensures.levels }

pub statement::statement-returns-in-Label-clause-reads : goal.statement::statement-returns-in-Label-clause-reads
statement::statement-returns-in-Label-clause-reads t c =
    answered (into (stat_begins c.args.room.max c.line-line.ensures.more c.peek.ensures.is c.start.ensures c.in-Label.is)) c.label_stat.result c.label_stat.ensures.reads

pub statement::statement-returns-in-Goto-clause-reads : goal.statement::statement-returns-in-Goto-clause-reads
statement::statement-returns-in-Goto-clause-reads t c =
    answered (into (stat_begins c.args.room.max c.line-line.ensures.more c.peek.ensures.is c.start.ensures c.in-Goto.is)) c.goto_stat.result c.goto_stat.ensures.reads

pub statement::statement-returns-in-Do-clause-reads : goal.statement::statement-returns-in-Do-clause-reads
statement::statement-returns-in-Do-clause-reads t c =
    answered (into (stat_begins c.args.room.max c.line-line.ensures.more c.peek.ensures.is c.start.ensures c.in-Do.is)) c.do_stat.result c.do_stat.ensures.reads

pub statement::statement-returns-in-While-clause-reads : goal.statement::statement-returns-in-While-clause-reads
statement::statement-returns-in-While-clause-reads t c =
    answered (into (stat_begins c.args.room.max c.line-line.ensures.more c.peek.ensures.is c.start.ensures c.in-While.is)) c.while_stat.result c.while_stat.ensures.reads

pub statement::statement-returns-in-Repeat-clause-reads : goal.statement::statement-returns-in-Repeat-clause-reads
statement::statement-returns-in-Repeat-clause-reads t c =
    answered (into (stat_begins c.args.room.max c.line-line.ensures.more c.peek.ensures.is c.start.ensures c.in-Repeat.is)) c.repeat_stat.result c.repeat_stat.ensures.reads

pub statement::statement-returns-in-If-clause-reads : goal.statement::statement-returns-in-If-clause-reads
statement::statement-returns-in-If-clause-reads t c =
    answered (into (stat_begins c.args.room.max c.line-line.ensures.more c.peek.ensures.is c.start.ensures c.in-If.is)) c.if_stat.result c.if_stat.ensures.reads

pub statement::statement-returns-in-For-clause-reads : goal.statement::statement-returns-in-For-clause-reads
statement::statement-returns-in-For-clause-reads t c =
    answered (into (stat_begins c.args.room.max c.line-line.ensures.more c.peek.ensures.is c.start.ensures c.in-For.is)) c.for_stat.result c.for_stat.ensures.reads

pub statement::statement-returns-in-Function-clause-reads : goal.statement::statement-returns-in-Function-clause-reads
statement::statement-returns-in-Function-clause-reads t c =
    answered (into (stat_begins c.args.room.max c.line-line.ensures.more c.peek.ensures.is c.start.ensures c.in-Function.is)) c.function_stat.result c.function_stat.ensures.reads

pub statement::statement-returns-in-Local-clause-reads : goal.statement::statement-returns-in-Local-clause-reads
statement::statement-returns-in-Local-clause-reads t c =
    answered (into (stat_begins c.args.room.max c.line-line.ensures.more c.peek.ensures.is c.start.ensures c.in-Local.is)) c.local_stat.result c.local_stat.ensures.reads

pub statement::statement-returns-in-Prefix-clause-reads : goal.statement::statement-returns-in-Prefix-clause-reads
statement::statement-returns-in-Prefix-clause-reads t c =
    answered (into (stat_begins c.args.room.max c.line-line.ensures.more c.peek.ensures.is c.start.ensures c.in-Prefix.is)) c.prefix_stat.result c.prefix_stat.ensures.reads

pub statement::statement-returns-in-Empty-clause-reads : goal.statement::statement-returns-in-Empty-clause-reads
statement::statement-returns-in-Empty-clause-reads t c =
    let l1 = stat_begins c.args.room.max c.line-line.ensures.more c.peek.ensures.is c.start.ensures c.in-Empty.is in
    let l2 = rw (← c.line-line.ensures.is) at l1 in
    let l3 = passed l2 c.line-line.ensures.more (c.skip.ensures) in
    record { tells = ended_as l3 (ap a_stat c.bare_stat.ensures.node) c.bare_stat.ensures.levels }

pub statement::statement-returns-in-Break-clause-reads : goal.statement::statement-returns-in-Break-clause-reads
statement::statement-returns-in-Break-clause-reads t c =
    let l1 = stat_begins c.args.room.max c.line-line.ensures.more c.peek.ensures.is c.start.ensures c.in-Break.is in
    let l2 = rw (← c.line-line.ensures.is) at l1 in
    let l3 = passed l2 c.line-line.ensures.more (c.skip-in-Break.ensures) in
    record { tells = ended_as l3 (ap a_stat c.bare_stat-in-Break.ensures.node) c.bare_stat-in-Break.ensures.levels }

pub branch::if_stat-returns-in_err-line-clause-reads : goal.branch::if_stat-returns-in_err-line-clause-reads
branch::if_stat-returns-in_err-line-clause-reads t c = failed_by (starts if_stat c.args.room.max c.args.cursor.now) c.in_err-line.ensures.reads (search rules)

pub branch::if_stat-returns-in_err-arms-clause-reads : goal.branch::if_stat-returns-in_err-arms-clause-reads
branch::if_stat-returns-in_err-arms-clause-reads t c = failed_by (found (starts if_stat c.args.room.max c.args.cursor.now) (c.in_ok-line.ensures.reads.tells)) c.in_err-arms.ensures.reads (search rules)

pub branch::if_stat-returns-in_err-other-clause-reads : goal.branch::if_stat-returns-in_err-other-clause-reads
branch::if_stat-returns-in_err-other-clause-reads t c =
    failed_by (found (found (starts if_stat c.args.room.max c.args.cursor.now) (c.in_ok-line.ensures.reads.tells)) (c.in_ok-arms.ensures.reads.tells)) c.in_err-other.ensures.reads (search rules)

pub branch::if_stat-returns-in_err-expect-clause-reads : goal.branch::if_stat-returns-in_err-expect-clause-reads
branch::if_stat-returns-in_err-expect-clause-reads t c =
    failed_by (found (found (found (starts if_stat c.args.room.max c.args.cursor.now) (c.in_ok-line.ensures.reads.tells)) (c.in_ok-arms.ensures.reads.tells)) (c.in_ok-other.ensures.reads.tells)) c.in_err-expect.ensures.reads (search rules)

pub branch::if_stat-returns-clause-reads : goal.branch::if_stat-returns-clause-reads
branch::if_stat-returns-clause-reads t c =
    let l1 = found (starts if_stat c.args.room.max c.args.cursor.now) (c.in_ok-line.ensures.reads.tells) in
    let l2 = found l1 (c.in_ok-arms.ensures.reads.tells) in
    let l3 = found l2 (c.in_ok-other.ensures.reads.tells) in
    let l4 = found l3 (c.in_ok-expect.ensures.reads.tells) in
    record { tells = ended_as l4 (ap a_stat c.in_ok-if_stat.ensures.node) c.in_ok-if_stat.ensures.levels }

pub branch::arm-returns-in_err-test-clause-reads : goal.branch::arm-returns-in_err-test-clause-reads
branch::arm-returns-in_err-test-clause-reads t c = failed_by (starts arm c.args.room.max c.args.cursor.now) c.in_err-test.ensures.reads (search rules)

pub branch::arm-returns-in_err-open-clause-reads : goal.branch::arm-returns-in_err-open-clause-reads
branch::arm-returns-in_err-open-clause-reads t c = failed_by (found (starts arm c.args.room.max c.args.cursor.now) (c.in_ok-test.ensures.reads.tells)) c.in_err-open.ensures.reads (search rules)

pub branch::arm-returns-in_err-inner-clause-reads : goal.branch::arm-returns-in_err-inner-clause-reads
branch::arm-returns-in_err-inner-clause-reads t c =
    failed_by (found (found (starts arm c.args.room.max c.args.cursor.now) (c.in_ok-test.ensures.reads.tells)) (c.in_ok-open.ensures.reads.tells)) c.in_err-inner.ensures.reads (search rules)

pub branch::arm-returns-clause-reads : goal.branch::arm-returns-clause-reads
branch::arm-returns-clause-reads t c =
    let l1 = found (starts arm c.args.room.max c.args.cursor.now) (c.in_ok-test.ensures.reads.tells) in
    let l2 = found l1 (c.in_ok-open.ensures.reads.tells) in
    let l3 = found l2 (c.in_ok-inner.ensures.reads.tells) in
    record { tells = ended_as l3 (ap (λ (p : tree.Exp × tree.Block). an_arm p.0 p.1) c.arm.ensures.node) c.arm.ensures.levels }

pub branch::else_part-returns-then-not-is-clause-reads : goal.branch::else_part-returns-then-not-is-clause-reads
branch::else_part-returns-then-not-is-clause-reads t c =
    record { tells = ended_as (fails _ (picked (starts else_part c.args.room.max c.args.cursor.now) c.if-not-is.ensures.more) (sym c.if-not-is.ensures.is)) (refl) (refl) }

pub branch::else_part-returns-in_err-open-clause-reads : goal.branch::else_part-returns-in_err-open-clause-reads
branch::else_part-returns-in_err-open-clause-reads t c =
    failed_by (holds _ (picked (starts else_part c.args.room.max c.args.cursor.now) c.if-not-is.ensures.more) (sym c.if-not-is.ensures.is)) c.in_err-open.ensures.reads (search rules)

pub branch::else_part-returns-in_err-inner-clause-reads : goal.branch::else_part-returns-in_err-inner-clause-reads
branch::else_part-returns-in_err-inner-clause-reads t c =
    failed_by (found (holds _ (picked (starts else_part c.args.room.max c.args.cursor.now) c.if-not-is.ensures.more) (sym c.if-not-is.ensures.is)) (c.in_ok-open.ensures.reads.tells)) c.in_err-inner.ensures.reads (search rules)

pub branch::else_part-returns-clause-reads : goal.branch::else_part-returns-clause-reads
branch::else_part-returns-clause-reads t c =
    record { tells = ended_as (found (found (holds _ (picked (starts else_part c.args.room.max c.args.cursor.now) c.if-not-is.ensures.more) (sym c.if-not-is.ensures.is)) (c.in_ok-open.ensures.reads.tells)) (c.in_ok-inner.ensures.reads.tells)) (refl) (refl) }

pub repetition::for_stat-returns-in_err-line-clause-reads : goal.repetition::for_stat-returns-in_err-line-clause-reads
repetition::for_stat-returns-in_err-line-clause-reads t c = failed_by (starts for_stat c.args.room.max c.args.cursor.now) c.in_err-line.ensures.reads (search rules)

pub repetition::for_stat-returns-in_err-first-clause-reads : goal.repetition::for_stat-returns-in_err-first-clause-reads
repetition::for_stat-returns-in_err-first-clause-reads t c =
    failed_by (found (starts for_stat c.args.room.max c.args.cursor.now) (c.in_ok-line.ensures.reads.tells)) c.in_err-first.ensures.reads (search rules)

pub repetition::for_stat-returns-then-is-clause-reads : goal.repetition::for_stat-returns-then-is-clause-reads
repetition::for_stat-returns-then-is-clause-reads t c =
    answered (into (holds _ (picked (found (found (starts for_stat c.args.room.max c.args.cursor.now) (c.in_ok-line.ensures.reads.tells)) (c.in_ok-first.ensures.reads.tells)) c.if-is.ensures.more) (sym c.if-is.ensures.is))) c.numeric.result c.numeric.ensures.reads

pub repetition::for_stat-returns-clause-reads : goal.repetition::for_stat-returns-clause-reads
repetition::for_stat-returns-clause-reads t c =
    answered (into (fails _ (picked (found (found (starts for_stat c.args.room.max c.args.cursor.now) (c.in_ok-line.ensures.reads.tells)) (c.in_ok-first.ensures.reads.tells)) c.if-is.ensures.more) (sym c.if-is.ensures.is))) c.generic.result c.generic.ensures.reads

pub repetition::numeric-returns-in_err-expect-clause-reads : goal.repetition::numeric-returns-in_err-expect-clause-reads
repetition::numeric-returns-in_err-expect-clause-reads t c = failed_by (starts (numeric c.args.line c.args.name) c.args.room.max c.args.cursor.now) c.in_err-expect.ensures.reads (search rules)

pub repetition::numeric-returns-in_err-first-clause-reads : goal.repetition::numeric-returns-in_err-first-clause-reads
repetition::numeric-returns-in_err-first-clause-reads t c =
    failed_by (found (starts (numeric c.args.line c.args.name) c.args.room.max c.args.cursor.now) (c.in_ok-expect.ensures.reads.tells)) c.in_err-first.ensures.reads (search rules)

pub repetition::numeric-returns-in_err-expect-2-clause-reads : goal.repetition::numeric-returns-in_err-expect-2-clause-reads
repetition::numeric-returns-in_err-expect-2-clause-reads t c =
    failed_by (found (found (starts (numeric c.args.line c.args.name) c.args.room.max c.args.cursor.now) (c.in_ok-expect.ensures.reads.tells)) (c.in_ok-first.ensures.reads.tells)) c.in_err-expect-2.ensures.reads (search rules)

pub repetition::numeric-returns-in_err-limit-clause-reads : goal.repetition::numeric-returns-in_err-limit-clause-reads
repetition::numeric-returns-in_err-limit-clause-reads t c =
    failed_by (found (found (found (starts (numeric c.args.line c.args.name) c.args.room.max c.args.cursor.now) (c.in_ok-expect.ensures.reads.tells)) (c.in_ok-first.ensures.reads.tells)) (c.in_ok-expect-2.ensures.reads.tells)) c.in_err-limit.ensures.reads (search rules)

pub repetition::numeric-returns-in_err-step-clause-reads : goal.repetition::numeric-returns-in_err-step-clause-reads
repetition::numeric-returns-in_err-step-clause-reads t c =
    let l1 = found (starts (numeric c.args.line c.args.name) c.args.room.max c.args.cursor.now) (c.in_ok-expect.ensures.reads.tells) in
    let l2 = found l1 (c.in_ok-first.ensures.reads.tells) in
    let l3 = found l2 (c.in_ok-expect-2.ensures.reads.tells) in
    let l4 = found l3 (c.in_ok-limit.ensures.reads.tells) in
    failed_by l4 c.in_err-step.ensures.reads (search rules)

pub repetition::numeric-returns-in_err-inner-clause-reads : goal.repetition::numeric-returns-in_err-inner-clause-reads
repetition::numeric-returns-in_err-inner-clause-reads t c =
    let l1 = found (starts (numeric c.args.line c.args.name) c.args.room.max c.args.cursor.now) (c.in_ok-expect.ensures.reads.tells) in
    let l2 = found l1 (c.in_ok-first.ensures.reads.tells) in
    let l3 = found l2 (c.in_ok-expect-2.ensures.reads.tells) in
    let l4 = found l3 (c.in_ok-limit.ensures.reads.tells) in
    let l5 = found l4 (c.in_ok-step.ensures.reads.tells) in
    failed_by l5 c.in_err-inner.ensures.reads (search rules)

pub repetition::numeric-returns-clause-reads : goal.repetition::numeric-returns-clause-reads
repetition::numeric-returns-clause-reads t c =
    let l1 = found (starts (numeric c.args.line c.args.name) c.args.room.max c.args.cursor.now) (c.in_ok-expect.ensures.reads.tells) in
    let l2 = found l1 (c.in_ok-first.ensures.reads.tells) in
    let l3 = found l2 (c.in_ok-expect-2.ensures.reads.tells) in
    let l4 = found l3 (c.in_ok-limit.ensures.reads.tells) in
    let l5 = found l4 (c.in_ok-step.ensures.reads.tells) in
    let l6 = found l5 (c.in_ok-inner.ensures.reads.tells) in
    record { tells = ended_as l6 (ap a_stat c.in_ok-numeric_for.ensures.node) c.in_ok-numeric_for.ensures.levels }

pub repetition::step-returns-in_err-value-clause-reads : goal.repetition::step-returns-in_err-value-clause-reads
repetition::step-returns-in_err-value-clause-reads t c = failed_by (taken COMMA _ (picked (starts step c.args.room.max c.args.cursor.now) c.take.ensures.more) c.take.ensures.more c.take.ensures.is c.take.ensures.passed c.if-take.true) c.in_err-value.ensures.reads (search rules)

pub repetition::step-returns-then-take-clause-reads : goal.repetition::step-returns-then-take-clause-reads
repetition::step-returns-then-take-clause-reads t c =
    record { tells = ended_as (found (taken COMMA _ (picked (starts step c.args.room.max c.args.cursor.now) c.take.ensures.more) c.take.ensures.more c.take.ensures.is c.take.ensures.passed c.if-take.true) (c.in_ok-value.ensures.reads.tells)) (refl) (refl) }

pub repetition::step-returns-clause-reads : goal.repetition::step-returns-clause-reads
repetition::step-returns-clause-reads t c = record { tells = ended_as (not_taken COMMA _ (picked (starts step c.args.room.max c.args.cursor.now) c.take.ensures.more) c.take.ensures.more c.take.ensures.is c.take.ensures.passed c.if-take.false) (refl) (refl) }

pub repetition::generic-returns-in_err-names-clause-reads : goal.repetition::generic-returns-in_err-names-clause-reads
repetition::generic-returns-in_err-names-clause-reads t c = failed_by (starts (generic c.args.line c.args.first) c.args.room.max c.args.cursor.now) c.in_err-names.ensures.reads (search rules)

pub repetition::generic-returns-in_err-expect-clause-reads : goal.repetition::generic-returns-in_err-expect-clause-reads
repetition::generic-returns-in_err-expect-clause-reads t c =
    failed_by (found (starts (generic c.args.line c.args.first) c.args.room.max c.args.cursor.now) (c.in_ok-names.ensures.reads.tells)) c.in_err-expect.ensures.reads (search rules)

pub repetition::generic-returns-in_err-values-clause-reads : goal.repetition::generic-returns-in_err-values-clause-reads
repetition::generic-returns-in_err-values-clause-reads t c =
    failed_by (found (found (starts (generic c.args.line c.args.first) c.args.room.max c.args.cursor.now) (c.in_ok-names.ensures.reads.tells)) (c.in_ok-expect.ensures.reads.tells)) c.in_err-values.ensures.reads (search rules)

pub repetition::generic-returns-in_err-inner-clause-reads : goal.repetition::generic-returns-in_err-inner-clause-reads
repetition::generic-returns-in_err-inner-clause-reads t c =
    failed_by (found (found (found (starts (generic c.args.line c.args.first) c.args.room.max c.args.cursor.now) (c.in_ok-names.ensures.reads.tells)) (c.in_ok-expect.ensures.reads.tells)) (c.in_ok-values.ensures.reads.tells)) c.in_err-inner.ensures.reads (search rules)

pub repetition::generic-returns-clause-reads : goal.repetition::generic-returns-clause-reads
repetition::generic-returns-clause-reads t c =
    let l1 = found (starts (generic c.args.line c.args.first) c.args.room.max c.args.cursor.now) (c.in_ok-names.ensures.reads.tells) in
    let l2 = found l1 (c.in_ok-expect.ensures.reads.tells) in
    let l3 = found l2 (c.in_ok-values.ensures.reads.tells) in
    let l4 = found l3 (c.in_ok-inner.ensures.reads.tells) in
    record { tells = ended_as l4 (ap a_stat c.in_ok-generic_for.ensures.node) c.in_ok-generic_for.ensures.levels }

pub assignment::function_stat-returns-in_err-line-clause-reads : goal.assignment::function_stat-returns-in_err-line-clause-reads
assignment::function_stat-returns-in_err-line-clause-reads t c = failed_by (starts function_stat c.args.room.max c.args.cursor.now) c.in_err-line.ensures.reads (search rules)

pub assignment::function_stat-returns-in_err-target-clause-reads : goal.assignment::function_stat-returns-in_err-target-clause-reads
assignment::function_stat-returns-in_err-target-clause-reads t c =
    failed_by (found (starts function_stat c.args.room.max c.args.cursor.now) (c.in_ok-line.ensures.reads.tells)) c.in_err-target.ensures.reads (search rules)

pub assignment::function_stat-returns-in_err-body-clause-reads : goal.assignment::function_stat-returns-in_err-body-clause-reads
assignment::function_stat-returns-in_err-body-clause-reads t c =
    failed_by (found (found (starts function_stat c.args.room.max c.args.cursor.now) (c.in_ok-line.ensures.reads.tells)) (c.in_ok-target.ensures.reads.tells)) c.in_err-body.ensures.reads (search rules)

pub assignment::function_stat-returns-clause-reads : goal.assignment::function_stat-returns-clause-reads
assignment::function_stat-returns-clause-reads t c =
    let l1 = found (starts function_stat c.args.room.max c.args.cursor.now) (c.in_ok-line.ensures.reads.tells) in
    let l2 = found l1 (c.in_ok-target.ensures.reads.tells) in
    let l3 = found l2 (c.in_ok-body.ensures.reads.tells) in
    record { tells = ended_as l3 (ap a_stat c.in_ok-function_stat.ensures.node) c.in_ok-function_stat.ensures.levels }

pub assignment::local_stat-returns-in_err-line-clause-reads : goal.assignment::local_stat-returns-in_err-line-clause-reads
assignment::local_stat-returns-in_err-line-clause-reads t c = failed_by (starts local_stat c.args.room.max c.args.cursor.now) c.in_err-line.ensures.reads (search rules)

pub assignment::local_stat-returns-then-is-clause-reads : goal.assignment::local_stat-returns-then-is-clause-reads
assignment::local_stat-returns-then-is-clause-reads t c =
    answered (into (holds _ (picked (found (starts local_stat c.args.room.max c.args.cursor.now) (c.in_ok-line.ensures.reads.tells)) c.if-is.ensures.more) (sym c.if-is.ensures.is))) c.local_function.result c.local_function.ensures.reads

pub assignment::local_stat-returns-clause-reads : goal.assignment::local_stat-returns-clause-reads
assignment::local_stat-returns-clause-reads t c =
    answered (into (fails _ (picked (found (starts local_stat c.args.room.max c.args.cursor.now) (c.in_ok-line.ensures.reads.tells)) c.if-is.ensures.more) (sym c.if-is.ensures.is))) c.local_names.result c.local_names.ensures.reads

pub assignment::local_function-returns-in_err-own_line-clause-reads : goal.assignment::local_function-returns-in_err-own_line-clause-reads
assignment::local_function-returns-in_err-own_line-clause-reads t c = failed_by (starts (local_function c.args.line) c.args.room.max c.args.cursor.now) c.in_err-own_line.ensures.reads (search rules)

pub assignment::local_function-returns-in_err-name-clause-reads : goal.assignment::local_function-returns-in_err-name-clause-reads
assignment::local_function-returns-in_err-name-clause-reads t c =
    failed_by (found (starts (local_function c.args.line) c.args.room.max c.args.cursor.now) (c.in_ok-own_line.ensures.reads.tells)) c.in_err-name.ensures.reads (search rules)

pub assignment::local_function-returns-in_err-body-clause-reads : goal.assignment::local_function-returns-in_err-body-clause-reads
assignment::local_function-returns-in_err-body-clause-reads t c =
    let l1 = found (starts (local_function c.args.line) c.args.room.max c.args.cursor.now) (c.in_ok-own_line.ensures.reads.tells) in
    let l2 = found l1 (c.in_ok-name.ensures.reads.tells) in
    let r : c.from_residual-in_err-body.result ≡ Err c.in_err-body.field-0.0 = search rules in rw r (failed l2 _ (rw c.new.ensures.items at c.in_err-body.ensures.reads))

pub assignment::local_function-returns-clause-reads : goal.assignment::local_function-returns-clause-reads
assignment::local_function-returns-clause-reads t c =
    let l1 = found (starts (local_function c.args.line) c.args.room.max c.args.cursor.now) (c.in_ok-own_line.ensures.reads.tells) in
    let l2 = found l1 (c.in_ok-name.ensures.reads.tells) in
    let l3 = found l2 ((rw c.new.ensures.items at c.in_ok-body.ensures.reads).tells) in
    record { tells = ended_as l3 (ap a_stat c.in_ok-local_function.ensures.node) c.in_ok-local_function.ensures.levels }

pub assignment::local_names-returns-in_err-first-clause-reads : goal.assignment::local_names-returns-in_err-first-clause-reads
assignment::local_names-returns-in_err-first-clause-reads t c = failed_by (starts (local_names c.args.line) c.args.room.max c.args.cursor.now) c.in_err-first.ensures.reads (search rules)

pub assignment::local_names-returns-in_err-names-clause-reads : goal.assignment::local_names-returns-in_err-names-clause-reads
assignment::local_names-returns-in_err-names-clause-reads t c =
    failed_by (found (starts (local_names c.args.line) c.args.room.max c.args.cursor.now) (c.in_ok-first.ensures.reads.tells)) c.in_err-names.ensures.reads (search rules)

pub assignment::local_names-returns-in_err-values-clause-reads : goal.assignment::local_names-returns-in_err-values-clause-reads
assignment::local_names-returns-in_err-values-clause-reads t c =
    failed_by (found (found (starts (local_names c.args.line) c.args.room.max c.args.cursor.now) (c.in_ok-first.ensures.reads.tells)) (c.in_ok-names.ensures.reads.tells)) c.in_err-values.ensures.reads (search rules)

pub assignment::local_names-returns-clause-reads : goal.assignment::local_names-returns-clause-reads
assignment::local_names-returns-clause-reads t c =
    let l1 = found (starts (local_names c.args.line) c.args.room.max c.args.cursor.now) (c.in_ok-first.ensures.reads.tells) in
    let l2 = found l1 (c.in_ok-names.ensures.reads.tells) in
    let l3 = found l2 (c.in_ok-values.ensures.reads.tells) in
    record { tells = ended_as l3 (ap a_stat c.local.ensures.node) c.local.ensures.levels }

pub assignment::values-returns-then-not-is-clause-reads : goal.assignment::values-returns-then-not-is-clause-reads
assignment::values-returns-then-not-is-clause-reads t c =
    record { tells = ended_as (fails _ (picked (starts values c.args.room.max c.args.cursor.now) c.if-not-is.ensures.more) (sym c.if-not-is.ensures.is)) (ap some_exps c.no_exps.ensures.node) c.no_exps.ensures.levels }

pub assignment::values-returns-clause-reads : goal.assignment::values-returns-clause-reads
assignment::values-returns-clause-reads t c =
    answered (into (passed (holds _ (picked (starts values c.args.room.max c.args.cursor.now) c.if-not-is.ensures.more) (sym c.if-not-is.ensures.is)) c.if-not-is.ensures.more (c.skip.ensures))) c.explist.result c.explist.ensures.reads

pub assignment::prefix_stat-returns-in_err-first-clause-reads : goal.assignment::prefix_stat-returns-in_err-first-clause-reads
assignment::prefix_stat-returns-in_err-first-clause-reads t c =
    failed_by (rw (← c.line-line.ensures.is) at (picked (starts prefix_stat c.args.room.max c.args.cursor.now) c.line-line.ensures.more)) c.in_err-first.ensures.reads (search rules)

pub assignment::prefix_stat-returns-then-is_call-clause-reads : goal.assignment::prefix_stat-returns-then-is_call-clause-reads
assignment::prefix_stat-returns-then-is_call-clause-reads t c =
    let l1 = picked (starts prefix_stat c.args.room.max c.args.cursor.now) c.line-line.ensures.more in
    let l2 = rw (← c.line-line.ensures.is) at l1 in
    let l3 = found l2 (c.in_ok-first.ensures.reads.tells) in
    let l4 = holds _ l3 (sym c.if-is_call.ensures) in
    record { tells = ended_as l4 (ap a_stat c.call_stat.ensures.node) c.call_stat.ensures.levels }

pub assignment::prefix_stat-returns-then-not-is_target-clause-reads : goal.assignment::prefix_stat-returns-then-not-is_target-clause-reads
assignment::prefix_stat-returns-then-not-is_target-clause-reads t c =
    let l1 = picked (starts prefix_stat c.args.room.max c.args.cursor.now) c.line-line.ensures.more in
    let l2 = rw (← c.line-line.ensures.is) at l1 in
    let l3 = found l2 (c.in_ok-first.ensures.reads.tells) in
    let l4 = fails _ l3 (sym c.if-is_call.ensures) in
    let l5 = fails _ l4 (sym c.if-not-is_target.ensures) in
    record { tells = refused l5 c.in_ok-first.ensures.more }

pub assignment::prefix_stat-returns-clause-reads : goal.assignment::prefix_stat-returns-clause-reads
assignment::prefix_stat-returns-clause-reads t c =
    let l1 = picked (starts prefix_stat c.args.room.max c.args.cursor.now) c.line-line.ensures.more in
    let l2 = rw (← c.line-line.ensures.is) at l1 in
    let l3 = found l2 (c.in_ok-first.ensures.reads.tells) in
    let l4 = fails _ l3 (sym c.if-is_call.ensures) in
    let l5 = holds _ l4 (sym c.if-not-is_target.ensures) in
    answered (into l5) c.assignment.result c.assignment.ensures.reads

pub assignment::assignment-returns-in_err-targets-clause-reads : goal.assignment::assignment-returns-in_err-targets-clause-reads
assignment::assignment-returns-in_err-targets-clause-reads t c =
    failed_by (starts (assignment c.args.line (plain_boxed c.args.first.node) c.args.first.height) c.args.room.max c.args.cursor.now) c.in_err-targets.ensures.reads (search rules)

pub assignment::assignment-returns-in_err-expect-clause-reads : goal.assignment::assignment-returns-in_err-expect-clause-reads
assignment::assignment-returns-in_err-expect-clause-reads t c =
    failed_by (found (starts (assignment c.args.line (plain_boxed c.args.first.node) c.args.first.height) c.args.room.max c.args.cursor.now) (c.in_ok-targets.ensures.reads.tells)) c.in_err-expect.ensures.reads (search rules)

pub assignment::assignment-returns-in_err-values-clause-reads : goal.assignment::assignment-returns-in_err-values-clause-reads
assignment::assignment-returns-in_err-values-clause-reads t c =
    failed_by (found (found (starts (assignment c.args.line (plain_boxed c.args.first.node) c.args.first.height) c.args.room.max c.args.cursor.now) (c.in_ok-targets.ensures.reads.tells)) (c.in_ok-expect.ensures.reads.tells)) c.in_err-values.ensures.reads (search rules)

pub assignment::assignment-returns-clause-reads : goal.assignment::assignment-returns-clause-reads
assignment::assignment-returns-clause-reads t c =
    let l1 = found (starts (assignment c.args.line (plain_boxed c.args.first.node) c.args.first.height) c.args.room.max c.args.cursor.now) (c.in_ok-targets.ensures.reads.tells) in
    let l2 = found l1 (c.in_ok-expect.ensures.reads.tells) in
    let l3 = found l2 (c.in_ok-values.ensures.reads.tells) in
    record { tells = ended_as l3 (ap a_stat c.assign.ensures.node) c.assign.ensures.levels }

pub expression::unary-returns-in_default-clause-reads : goal.expression::unary-returns-in_default-clause-reads
expression::unary-returns-in_default-clause-reads t c =
    let l1 = unary_begins c.args.room.max c.peek.ensures.more c.peek.ensures.is c.unary_operator.ensures c.in_default.is in
    answered (into l1) c.simple.result c.simple.ensures.reads

pub expression::unary-returns-then-room-eq0-clause-reads : goal.expression::unary-returns-then-room-eq0-clause-reads
expression::unary-returns-then-room-eq0-clause-reads t c =
    let l1 = unary_begins c.args.room.max c.peek.ensures.more c.peek.ensures.is c.unary_operator.ensures c.in-Some.is in
    let l2 = fails _ l1 (no_room c.args.room.max 0 (omega (arith, c.if-room-eq0.true))) in
    record { tells = refused l2 c.peek.ensures.more }

pub expression::unary-returns-in_err-operand-clause-reads : goal.expression::unary-returns-in_err-operand-clause-reads
expression::unary-returns-in_err-operand-clause-reads t c =
    let l1 = unary_begins c.args.room.max c.peek.ensures.more c.peek.ensures.is c.unary_operator.ensures c.in-Some.is in
    let l2 = holds _ l1 (has_room c.args.room.max 0 (omega (arith, c.if-room-eq0.false))) in
    let l3 = rw (← c.line-line.ensures.is) at l2 in
    let l4 = passed l3 c.peek.ensures.more (c.skip.ensures) in
    failed_by l4 c.in_err-operand.ensures.reads (search rules)

pub expression::unary-returns-clause-reads : goal.expression::unary-returns-clause-reads
expression::unary-returns-clause-reads t c =
    let l1 = unary_begins c.args.room.max c.peek.ensures.more c.peek.ensures.is c.unary_operator.ensures c.in-Some.is in
    let l2 = holds _ l1 (has_room c.args.room.max 0 (omega (arith, c.if-room-eq0.false))) in
    let l3 = rw (← c.line-line.ensures.is) at l2 in
    let l4 = passed l3 c.peek.ensures.more (c.skip.ensures) in
    let l5 = found l4 (c.in_ok-operand.ensures.reads.tells) in
    record { tells = ended_as l5 (ap an_exp c.in_ok-unary.ensures.node) c.in_ok-unary.ensures.levels }

pub block::block-returns-in_err-items-clause-reads : goal.block::block-returns-in_err-items-clause-reads
block::block-returns-in_err-items-clause-reads t c = failed_by (starts block c.args.room.max c.args.cursor.now) c.in_err-items.ensures.reads (search rules)

pub block::block-returns-clause-reads : goal.block::block-returns-clause-reads
block::block-returns-clause-reads t c =
    let l1 = found (starts block c.args.room.max c.args.cursor.now) (c.in_ok-items.ensures.reads.tells) in
    let counts : c.left-before.result - c.left.result ≡ length c.args.cursor.now - length c.items.new.cursor = rw (c.left-before.ensures, c.left.ensures) refl in
    let l2 = rw (← counts) at l1 in
    record { tells = ended_as l2 (ap a_block c.block.ensures.node) c.block.ensures.levels }

pub expression::simple-returns-in-Some-clause-reads : goal.expression::simple-returns-in-Some-clause-reads
expression::simple-returns-in-Some-clause-reads t c =
    let l1 = picked (starts simple c.args.room.max c.args.cursor.now) c.peek.ensures.more in
    let l2 = rw (constant_is (first c.args.cursor.now) c.peek.ensures.is c.line-line.ensures.is c.in_ok-node.ensures c.in-Some.is) at l1 in
    let l3 = passed l2 c.peek.ensures.more (c.skip.ensures) in
    record { tells = ended_as l3 (refl) (refl) }

pub expression::simple-returns-in_err-body-clause-reads : goal.expression::simple-returns-in_err-body-clause-reads
expression::simple-returns-in_err-body-clause-reads t c =
    let l1 = picked (starts simple c.args.room.max c.args.cursor.now) c.peek.ensures.more in
    let l2 = rw (constant_is (first c.args.cursor.now) c.peek.ensures.is c.line-line.ensures.is c.in_ok-node.ensures c.in_default.is) at l1 in
    let l3 = holds _ l2 (sym c.if-is.ensures.is) in
    let l4 = rw (← c.line-line.ensures.is) at l3 in
    let l5 = passed l4 c.if-is.ensures.more (c.skip-then-is.ensures) in
    let r : c.from_residual-in_err-body.result ≡ Err c.in_err-body.field-0.0 = search rules in rw r (failed l5 _ (rw c.new.ensures.items at c.in_err-body.ensures.reads))

pub expression::simple-returns-then-is-clause-reads : goal.expression::simple-returns-then-is-clause-reads
expression::simple-returns-then-is-clause-reads t c =
    let l1 = picked (starts simple c.args.room.max c.args.cursor.now) c.peek.ensures.more in
    let l2 = rw (constant_is (first c.args.cursor.now) c.peek.ensures.is c.line-line.ensures.is c.in_ok-node.ensures c.in_default.is) at l1 in
    let l3 = holds _ l2 (sym c.if-is.ensures.is) in
    let l4 = rw (← c.line-line.ensures.is) at l3 in
    let l5 = passed l4 c.if-is.ensures.more (c.skip-then-is.ensures) in
    let l6 = found l5 ((rw c.new.ensures.items at c.in_ok-body.ensures.reads).tells) in
    record { tells = ended_as l6 (ap an_exp c.in_ok-function.ensures.node) c.in_ok-function.ensures.levels }

pub expression::simple-returns-then-is-2-clause-reads : goal.expression::simple-returns-then-is-2-clause-reads
expression::simple-returns-then-is-2-clause-reads t c =
    let l1 = picked (starts simple c.args.room.max c.args.cursor.now) c.peek.ensures.more in
    let l2 = rw (constant_is (first c.args.cursor.now) c.peek.ensures.is c.line-line.ensures.is c.in_ok-node.ensures c.in_default.is) at l1 in
    let l3 = fails _ l2 (sym c.if-is.ensures.is) in
    let l4 = holds _ l3 (sym c.if-is-2.ensures.is) in
    answered (into l4) c.table.result c.table.ensures.reads

pub expression::simple-returns-clause-reads : goal.expression::simple-returns-clause-reads
expression::simple-returns-clause-reads t c =
    let l1 = picked (starts simple c.args.room.max c.args.cursor.now) c.peek.ensures.more in
    let l2 = rw (constant_is (first c.args.cursor.now) c.peek.ensures.is c.line-line.ensures.is c.in_ok-node.ensures c.in_default.is) at l1 in
    let l3 = fails _ l2 (sym c.if-is.ensures.is) in
    let l4 = fails _ l3 (sym c.if-is-2.ensures.is) in
    answered (into l4) c.prefix.result c.prefix.ensures.reads

pub expression::explist-returns-in_err-first-clause-reads : goal.expression::explist-returns-in_err-first-clause-reads
expression::explist-returns-in_err-first-clause-reads t c = failed_by (starts explist c.args.room.max c.args.cursor.now) c.in_err-first.ensures.reads (search rules)

pub expression::explist-loop-alloc-init : goal.expression::explist-loop-alloc-init
expression::explist-loop-alloc-init t c =
    let l1 = found (starts explist c.args.room.max c.args.cursor.now) (c.in_ok-first.ensures.reads.tells) in
    record { leads = placed c.args.room.max more_exps (into l1) c.in_ok-items.ensures.node c.in_ok-items.ensures.levels; low = omega (arith, c.in_ok-items.ensures.levels, c.in_ok-first.ensures.bound.0); taken = c.in_ok-first.ensures.bound.1 }

pub expression::explist-returns-in_err-item-clause-reads : goal.expression::explist-returns-in_err-item-clause-reads
expression::explist-returns-in_err-item-clause-reads t c =
    failed_by (passed (holds _ (picked c.loop-alloc.invariant.leads c.loop-alloc-test.ensures.more) (sym c.loop-alloc-test.ensures.is)) c.loop-alloc-test.ensures.more (c.skip.ensures)) c.in_err-item.ensures.reads (search rules)

pub expression::explist-loop-alloc-preserved : goal.expression::explist-loop-alloc-preserved
expression::explist-loop-alloc-preserved t c =
    let l1 = picked c.loop-alloc.invariant.leads c.loop-alloc-test.ensures.more in
    let l2 = holds _ l1 (sym c.loop-alloc-test.ensures.is) in
    let l3 = passed l2 c.loop-alloc-test.ensures.more (c.skip.ensures) in
    let l4 = found l3 (c.in_ok-item.ensures.reads.tells) in
    record { leads = placed c.args.room.max more_exps (into l4) (mapped plain_exp c.loop-alloc.items.node.items c.in_ok-item.item.node.value c.in_ok-items-2.items.node.items c.in_ok-items-2.ensures.items) c.in_ok-items-2.ensures.levels; low = omega (arith, c.in_ok-items-2.ensures.levels, c.in_ok-item.ensures.bound.0, c.loop-alloc.invariant.low); taken = omega (arith, c.loop-alloc.invariant.taken, c.in_ok-item.ensures.bound.1, one_less c.loop-alloc-test.ensures.more c.skip.ensures) }

pub expression::explist-returns-clause-reads : goal.expression::explist-returns-clause-reads
expression::explist-returns-clause-reads t c =
    record { tells = ended_as (fails _ (picked c.loop-alloc.invariant.leads c.loop-alloc-test.ensures.more) (sym c.loop-alloc-test.ensures.is)) (refl) (refl) }

pub branch::arms-returns-in_err-first-clause-reads : goal.branch::arms-returns-in_err-first-clause-reads
branch::arms-returns-in_err-first-clause-reads t c = failed_by (starts arms c.args.room.max c.args.cursor.now) c.in_err-first.ensures.reads (search rules)

pub branch::arms-loop-alloc-init : goal.branch::arms-loop-alloc-init
branch::arms-loop-alloc-init t c =
    let l1 = found (starts arms c.args.room.max c.args.cursor.now) (c.in_ok-first.ensures.reads.tells) in
    record { leads = placed c.args.room.max more_arms (into l1) c.in_ok-items.ensures.node c.in_ok-items.ensures.levels; low = omega (arith, c.in_ok-items.ensures.levels, c.in_ok-first.ensures.bound.0); taken = c.in_ok-first.ensures.bound.1 }

pub branch::arms-returns-in_err-item-clause-reads : goal.branch::arms-returns-in_err-item-clause-reads
branch::arms-returns-in_err-item-clause-reads t c =
    failed_by (passed (holds _ (picked c.loop-alloc.invariant.leads c.loop-alloc-test.ensures.more) (sym c.loop-alloc-test.ensures.is)) c.loop-alloc-test.ensures.more (c.skip.ensures)) c.in_err-item.ensures.reads (search rules)

pub branch::arms-loop-alloc-preserved : goal.branch::arms-loop-alloc-preserved
branch::arms-loop-alloc-preserved t c =
    let l1 = picked c.loop-alloc.invariant.leads c.loop-alloc-test.ensures.more in
    let l2 = holds _ l1 (sym c.loop-alloc-test.ensures.is) in
    let l3 = passed l2 c.loop-alloc-test.ensures.more (c.skip.ensures) in
    let l4 = found l3 (c.in_ok-item.ensures.reads.tells) in
    record { leads = placed c.args.room.max more_arms (into l4) (mapped plain_arm c.loop-alloc.items.node.items c.in_ok-item.item.node c.in_ok-items-2.items.node.items c.in_ok-items-2.ensures.items) c.in_ok-items-2.ensures.levels; low = omega (arith, c.in_ok-items-2.ensures.levels, c.in_ok-item.ensures.bound.0, c.loop-alloc.invariant.low); taken = omega (arith, c.loop-alloc.invariant.taken, c.in_ok-item.ensures.bound.1, one_less c.loop-alloc-test.ensures.more c.skip.ensures) }

pub branch::arms-returns-clause-reads : goal.branch::arms-returns-clause-reads
branch::arms-returns-clause-reads t c = record { tells = ended_as (fails _ (picked c.loop-alloc.invariant.leads c.loop-alloc-test.ensures.more) (sym c.loop-alloc-test.ensures.is)) (refl) (refl) }

pub suffix::prefix-returns-in_err-left-clause-reads : goal.suffix::prefix-returns-in_err-left-clause-reads
suffix::prefix-returns-in_err-left-clause-reads t c = failed_by (starts prefix c.args.room.max c.args.cursor.now) c.in_err-left.ensures.reads (search rules)

pub suffix::prefix-loop-alloc-init : goal.suffix::prefix-loop-alloc-init
suffix::prefix-loop-alloc-init t c =
    record { leads = into (found (starts prefix c.args.room.max c.args.cursor.now) (c.in_ok-left.ensures.reads.tells)); low = c.in_ok-left.ensures.bound.0; taken = c.in_ok-left.ensures.bound.1 }

pub suffix::prefix-returns-in_err-left-2-clause-reads : goal.suffix::prefix-returns-in_err-left-2-clause-reads
suffix::prefix-returns-in_err-left-2-clause-reads t c =
    failed_by (holds _ (picked c.loop-alloc.invariant.leads c.peek.ensures.more) (ap begins_suffix (sym c.peek.ensures.is) ∙ sym c.loop-alloc-test.ensures)) c.in_err-left-2.ensures.reads (search rules)

pub suffix::prefix-loop-alloc-preserved : goal.suffix::prefix-loop-alloc-preserved
suffix::prefix-loop-alloc-preserved t c =
    let l1 = picked c.loop-alloc.invariant.leads c.peek.ensures.more in
    let l2 = holds _ l1 (ap begins_suffix (sym c.peek.ensures.is) ∙ sym c.loop-alloc-test.ensures) in
    let l3 = found l2 (c.in_ok-left-2.ensures.reads.tells) in
    record { leads = into l3; low = c.in_ok-left-2.ensures.bound.0; taken = omega (arith, c.loop-alloc.invariant.taken, c.in_ok-left-2.ensures.bound.1) }

pub suffix::prefix-returns-clause-reads : goal.suffix::prefix-returns-clause-reads
suffix::prefix-returns-clause-reads t c =
    record { tells = ended_as (fails _ (picked c.loop-alloc.invariant.leads c.peek.ensures.more) (ap begins_suffix (sym c.peek.ensures.is) ∙ sym c.loop-alloc-test.ensures)) (refl) (refl) }

pub table::fields-loop-alloc-init : goal.table::fields-loop-alloc-init
table::fields-loop-alloc-init t c =
    record { leads = placed c.args.room.max more_fields (starts (more_fields [] 0) c.args.room.max c.args.cursor.now) c.no_fields-items.ensures.node c.no_fields-items.ensures.levels; low = omega (arith, c.no_fields-items.ensures.levels); kept = omega arith }

pub table::fields-returns-in_err-item-clause-reads : goal.table::fields-returns-in_err-item-clause-reads
table::fields-returns-in_err-item-clause-reads t c =
    failed_by (fails _ (picked c.loop-alloc.invariant.leads c.loop-alloc-test.ensures.more) (sym c.loop-alloc-test.ensures.is)) c.in_err-item.ensures.reads (search rules)

pub table::fields-loop-alloc-preserved : goal.table::fields-loop-alloc-preserved
table::fields-loop-alloc-preserved t c =
    let l1 = picked c.loop-alloc.invariant.leads c.loop-alloc-test.ensures.more in
    let l2 = fails _ l1 (sym c.loop-alloc-test.ensures.is) in
    let l3 = found l2 (c.in_ok-item.ensures.reads.tells) in
    record { leads = placed c.args.room.max more_fields (into l3) (mapped plain_field c.loop-alloc.items.node.items c.in_ok-item.item.node c.in_ok-items.items.node.items c.in_ok-items.ensures.items) c.in_ok-items.ensures.levels; low = omega (arith, c.in_ok-items.ensures.levels, c.in_ok-item.ensures.bound.0, c.loop-alloc.invariant.low); kept = omega (arith, c.loop-alloc.invariant.kept, c.in_ok-item.ensures.bound.1) }

pub table::fields-returns-clause-reads : goal.table::fields-returns-clause-reads
table::fields-returns-clause-reads t c =
    record { tells = ended_as (passed (holds _ (picked c.loop-alloc.invariant.leads c.loop-alloc-test.ensures.more) (sym c.loop-alloc-test.ensures.is)) c.loop-alloc-test.ensures.more (c.skip.ensures)) (refl) (refl) }

pub block::items-loop-cursor-init : goal.block::items-loop-cursor-init
block::items-loop-cursor-init t c =
    record { leads = placed c.args.room.max items (starts (items [] 0) c.args.room.max c.args.cursor.now) c.no_stats-stats.ensures.node c.no_stats-stats.ensures.levels; low = omega (arith, c.no_stats-stats.ensures.levels); kept = omega arith }

pub block::items-returns-in_err-stat-clause-reads : goal.block::items-returns-in_err-stat-clause-reads
block::items-returns-in_err-stat-clause-reads t c =
    let l1 = picked c.loop-cursor.invariant.leads c.peek.ensures.more in
    let l2 = fails _ l1 (neither_first (is_word RETURN (first c.loop-cursor.cursor).0) (ends_block (first c.loop-cursor.cursor).0) (ap (λ t. is_word RETURN t || ends_block t) (sym c.peek.ensures.is) ∙ sym c.loop-cursor-test.ensures)) in
    let l3 = fails _ l2 (neither_second (is_word RETURN (first c.loop-cursor.cursor).0) (ends_block (first c.loop-cursor.cursor).0) (ap (λ t. is_word RETURN t || ends_block t) (sym c.peek.ensures.is) ∙ sym c.loop-cursor-test.ensures)) in
    failed_by l3 c.in_err-stat.ensures.reads (search rules)

pub block::items-loop-cursor-preserved : goal.block::items-loop-cursor-preserved
block::items-loop-cursor-preserved t c =
    let l1 = picked c.loop-cursor.invariant.leads c.peek.ensures.more in
    let l2 = fails _ l1 (neither_first (is_word RETURN (first c.loop-cursor.cursor).0) (ends_block (first c.loop-cursor.cursor).0) (ap (λ t. is_word RETURN t || ends_block t) (sym c.peek.ensures.is) ∙ sym c.loop-cursor-test.ensures)) in
    let l3 = fails _ l2 (neither_second (is_word RETURN (first c.loop-cursor.cursor).0) (ends_block (first c.loop-cursor.cursor).0) (ap (λ t. is_word RETURN t || ends_block t) (sym c.peek.ensures.is) ∙ sym c.loop-cursor-test.ensures)) in
    let l4 = found l3 (c.in_ok-stat.ensures.reads.tells) in
    record { leads = placed c.args.room.max items (into l4) (mapped plain_stat c.loop-cursor.stats.node.items c.in_ok-stat.stat.node c.in_ok-stats.stats.node.items c.in_ok-stats.ensures.items) c.in_ok-stats.ensures.levels; low = omega (arith, c.in_ok-stats.ensures.levels, c.in_ok-stat.ensures.bound.0, c.loop-cursor.invariant.low); kept = omega (arith, c.loop-cursor.invariant.kept, c.in_ok-stat.ensures.bound.1) }

pub block::items-returns-then-not-is-clause-reads : goal.block::items-returns-then-not-is-clause-reads
block::items-returns-then-not-is-clause-reads t c =
    let l1 = picked c.loop-cursor.invariant.leads c.peek.ensures.more in
    let l2 = rw (← c.line-line.ensures.is) at l1 in
    let l3 = fails _ l2 (sym c.if-not-is.ensures.is) in
    let l4 = holds _ l3 (either_second (is_word RETURN (first c.loop-cursor.cursor).0) (ends_block (first c.loop-cursor.cursor).0) (ap (λ t. is_word RETURN t || ends_block t) (sym c.peek.ensures.is) ∙ sym c.loop-cursor-test.ensures) (sym c.if-not-is.ensures.is)) in
    record { tells = ended_as l4 (ap (λ p. some_items p.0 p.1 p.2) c.items.ensures.node) c.items.ensures.levels }

pub block::items-returns-in_err-values-clause-reads : goal.block::items-returns-in_err-values-clause-reads
block::items-returns-in_err-values-clause-reads t c =
    failed_by (passed (holds _ (rw (← c.line-line.ensures.is) at (picked c.loop-cursor.invariant.leads c.peek.ensures.more)) (sym c.if-not-is.ensures.is)) c.if-not-is.ensures.more (c.skip.ensures)) c.in_err-values.ensures.reads (search rules)

pub block::items-returns-clause-reads : goal.block::items-returns-clause-reads
block::items-returns-clause-reads t c =
    let l1 = picked c.loop-cursor.invariant.leads c.peek.ensures.more in
    let l2 = rw (← c.line-line.ensures.is) at l1 in
    let l3 = holds _ l2 (sym c.if-not-is.ensures.is) in
    let l4 = passed l3 c.if-not-is.ensures.more (c.skip.ensures) in
    let l5 = found l4 (c.in_ok-values.ensures.reads.tells) in
    record { tells = ended_as l5 (ap (λ p. some_items p.0 p.1 p.2) c.returning.ensures.node) c.returning.ensures.levels }

pub assignment::targets-loop-alloc-init : goal.assignment::targets-loop-alloc-init
assignment::targets-loop-alloc-init t c =
    record { leads = placed c.args.room.max more_targets (starts (more_targets (plain_boxed c.args.first.node ∷ []) c.args.first.height) c.args.room.max c.args.cursor.now) c.in_ok-items.ensures.node c.in_ok-items.ensures.levels; low = omega (arith, c.in_ok-items.ensures.levels, c.requires.fits); kept = omega arith }

pub assignment::targets-returns-in_err-item-clause-reads : goal.assignment::targets-returns-in_err-item-clause-reads
assignment::targets-returns-in_err-item-clause-reads t c =
    failed_by (passed (holds _ (picked c.loop-alloc.invariant.leads c.loop-alloc-test.ensures.more) (sym c.loop-alloc-test.ensures.is)) c.loop-alloc-test.ensures.more (c.skip.ensures)) c.in_err-item.ensures.reads (search rules)

pub assignment::targets-returns-then-not-is_target-clause-reads : goal.assignment::targets-returns-then-not-is_target-clause-reads
assignment::targets-returns-then-not-is_target-clause-reads t c =
    let l1 = picked c.loop-alloc.invariant.leads c.loop-alloc-test.ensures.more in
    let l2 = holds _ l1 (sym c.loop-alloc-test.ensures.is) in
    let l3 = passed l2 c.loop-alloc-test.ensures.more (c.skip.ensures) in
    let l4 = found l3 (c.in_ok-item.ensures.reads.tells) in
    let l5 = fails _ l4 (sym c.if-not-is_target.ensures) in
    record { tells = refused l5 c.in_ok-item.ensures.more }

pub assignment::targets-loop-alloc-preserved : goal.assignment::targets-loop-alloc-preserved
assignment::targets-loop-alloc-preserved t c =
    let l1 = picked c.loop-alloc.invariant.leads c.loop-alloc-test.ensures.more in
    let l2 = holds _ l1 (sym c.loop-alloc-test.ensures.is) in
    let l3 = passed l2 c.loop-alloc-test.ensures.more (c.skip.ensures) in
    let l4 = found l3 (c.in_ok-item.ensures.reads.tells) in
    let l5 = holds _ l4 (sym c.if-not-is_target.ensures) in
    record { leads = placed c.args.room.max more_targets (into l5) (mapped plain_exp c.loop-alloc.items.node.items c.in_ok-item.item.node.value c.in_ok-items-2.items.node.items c.in_ok-items-2.ensures.items) c.in_ok-items-2.ensures.levels; low = omega (arith, c.in_ok-items-2.ensures.levels, c.in_ok-item.ensures.bound.0, c.loop-alloc.invariant.low); kept = omega (arith, c.loop-alloc.invariant.kept, c.in_ok-item.ensures.bound.1, one_less c.loop-alloc-test.ensures.more c.skip.ensures) }

pub assignment::targets-returns-clause-reads : goal.assignment::targets-returns-clause-reads
assignment::targets-returns-clause-reads t c =
    record { tells = ended_as (fails _ (picked c.loop-alloc.invariant.leads c.loop-alloc-test.ensures.more) (sym c.loop-alloc-test.ensures.is)) (refl) (refl) }

pub expression::operators-loop-infix-init : goal.expression::operators-loop-infix-init
expression::operators-loop-infix-init t c =
    record { leads = (starts (behind c.args.level (plain_boxed c.args.first.node) c.args.first.height) c.args.room.max c.args.cursor.now); low = c.requires.fits; kept = omega arith }

pub expression::operators-returns-then-left-room-clause-reads : goal.expression::operators-returns-then-left-room-clause-reads
expression::operators-returns-then-left-room-clause-reads t c =
    let l1 = operator_follows c.args.room.max c.args.level (plain_boxed c.loop-infix.left.node) c.loop-infix.left.height c.loop-infix.invariant.leads c.peek.ensures.more c.peek.ensures.is c.operator.ensures c.in-Some.is in
    let l2 = fails _ l1 (no_room c.args.room.max c.loop-infix.left.height c.if-left-room.true) in
    record { tells = refused l2 c.peek.ensures.more }

pub expression::operators-returns-in_err-right-clause-reads : goal.expression::operators-returns-in_err-right-clause-reads
expression::operators-returns-in_err-right-clause-reads t c =
    let l1 = operator_follows c.args.room.max c.args.level (plain_boxed c.loop-infix.left.node) c.loop-infix.left.height c.loop-infix.invariant.leads c.peek.ensures.more c.peek.ensures.is c.operator.ensures c.in-Some.is in
    let l2 = holds _ l1 (has_room c.args.room.max c.loop-infix.left.height c.if-left-room.false) in
    let l3 = rw (← c.line-line.ensures.is) at l2 in
    let l4 = passed l3 c.peek.ensures.more (c.skip.ensures) in
    failed_by l4 c.in_err-right.ensures.reads (search rules)

pub expression::operators-loop-infix-preserved : goal.expression::operators-loop-infix-preserved
expression::operators-loop-infix-preserved t c =
    let l1 = operator_follows c.args.room.max c.args.level (plain_boxed c.loop-infix.left.node) c.loop-infix.left.height c.loop-infix.invariant.leads c.peek.ensures.more c.peek.ensures.is c.operator.ensures c.in-Some.is in
    let l2 = holds _ l1 (has_room c.args.room.max c.loop-infix.left.height c.if-left-room.false) in
    let l3 = rw (← c.line-line.ensures.is) at l2 in
    let l4 = passed l3 c.peek.ensures.more (c.skip.ensures) in
    let l5 = found l4 (c.in_ok-right.ensures.reads.tells) in
    record { leads = placed c.args.room.max (behind c.args.level) (into l5) c.in_ok-left.ensures.node c.in_ok-left.ensures.levels; low = omega (arith, c.in_ok-left.ensures.levels, c.in_ok-right.ensures.bound.0, c.if-left-room.false); kept = omega (arith, c.loop-infix.invariant.kept, c.in_ok-right.ensures.bound.1, one_less c.peek.ensures.more c.skip.ensures) }

pub expression::operators-returns-clause-reads : goal.expression::operators-returns-clause-reads
expression::operators-returns-clause-reads t c =
    let l1 = operator_follows c.args.room.max c.args.level (plain_boxed c.loop-infix.left.node) c.loop-infix.left.height c.loop-infix.invariant.leads c.peek.ensures.more c.peek.ensures.is c.operator.ensures c.in_default.is in
    record { tells = ended_as l1 (refl) (refl) }

pub expression::chain-returns-in_err-left-clause-reads : goal.expression::chain-returns-in_err-left-clause-reads
expression::chain-returns-in_err-left-clause-reads t c =
    let r : c.from_residual.result ≡ Err c.in_err-left.field-0.0 = search rules in rw r (failed_chain Product c.args.level (at_most_product c.args.level) _ c.in_err-left.ensures.reads)

pub expression::chain-loop-current-init : goal.expression::chain-loop-current-init
expression::chain-loop-current-init t c = record { reads = c.in_ok-left.ensures.reads.tells; order = at_most_product c.args.level; low = c.in_ok-left.ensures.bound.0; taken = c.in_ok-left.ensures.bound.1 }

pub expression::chain-returns-then-not-may_join-clause-reads : goal.expression::chain-returns-then-not-may_join-clause-reads
expression::chain-returns-then-not-may_join-clause-reads t c =
    record { tells = alone_chain c.loop-current.current c.args.level c.args.room.max c.args.cursor.now c.loop-current.cursor (plain_boxed c.loop-current.left.node) c.loop-current.left.height c.loop-current.invariant.order c.peek.ensures.more (ap may_join (sym c.peek.ensures.is) ∙ sym c.if-not-may_join.ensures) c.loop-current.invariant.reads }

pub expression::chain-returns-in_err-left-2-clause-reads : goal.expression::chain-returns-in_err-left-2-clause-reads
expression::chain-returns-in_err-left-2-clause-reads t c =
    let r : c.from_residual-in_err-left-2.result ≡ Err c.in_err-left-2.field-0.0 = search rules in rw r (failed_operators c.loop-current.current c.args.level (less (rank c.args.level) (rank c.loop-current.current) c.loop-current-test.ensures) c.loop-current.invariant.reads _ c.in_err-left-2.ensures.reads)

pub expression::chain-loop-current-preserved : goal.expression::chain-loop-current-preserved
expression::chain-loop-current-preserved t c =
    let more = less (rank c.args.level) (rank c.loop-current.current) c.loop-current-test.ensures in record { reads = next_operand c.loop-current.current c.looser-current.result c.args.room.max c.args.cursor.now _ c.looser-current.ensures (omega (arith, more)) ((chain_leads c.loop-current.current c.args.room.max c.args.cursor.now c.loop-current.cursor (plain_boxed c.loop-current.left.node) c.loop-current.left.height c.loop-current.invariant.reads).leads _ c.in_ok-left-2.ensures.reads.tells); order = omega (arith, more, rank_looser c.loop-current.current, ap rank c.looser-current.ensures); low = c.in_ok-left-2.ensures.bound.0; taken = omega (arith, c.loop-current.invariant.taken, c.in_ok-left-2.ensures.bound.1) }

pub expression::chain-loop-current-smaller : goal.expression::chain-loop-current-smaller
expression::chain-loop-current-smaller t c =
    let more = less (rank c.args.level) (rank c.loop-current.current) c.loop-current-test.ensures in omega (arith, more, rank_looser c.loop-current.current, ap rank c.looser-current.ensures)

pub expression::chain-returns-clause-reads : goal.expression::chain-returns-clause-reads
expression::chain-returns-clause-reads t c =
    let same : c.loop-current.current ≡ c.args.level = same_rank c.loop-current.current c.args.level (omega (arith, not_less (rank c.args.level) (rank c.loop-current.current) c.loop-current-test.ensures, c.loop-current.invariant.order)) in
    let reads = subst (λ k. Reads (expects c.args.room.max (operand k)) c.args.cursor.now (whole (an_exp (plain_boxed c.loop-current.left.node)) c.loop-current.left.height c.loop-current.cursor)) same c.loop-current.invariant.reads in
    answered (chain_leads c.args.level c.args.room.max c.args.cursor.now c.loop-current.cursor (plain_boxed c.loop-current.left.node) c.loop-current.left.height reads) c.operators-2.result c.operators-2.ensures.reads

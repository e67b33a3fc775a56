use Rattle.std.proofs.Common.{rules, arith, cond, ◌&&◌, ◌≡◌, ◌+◌, ◌-◌, ◌++◌, ◌<◌, ◌≤◌, [], ◌∷◌, sym, ap, ap₂, ◌∙◌, subst, refl, false, length, map, take, drop, OnOk, Some, true}
use Rattle.std.specs.Prelude.{slice_index_or}
use Rattle.std.specs.Option.{option_map}
use Rattle.tree_core.specs.Tree as tree
use Rattle.tree_core.specs.declared.tree.Block.{out-Block}
use Rattle.tree_core.specs.declared.tree.Arm.{out-Arm}
use Rattle.tree_core.specs.Plain.{plain_exp, plain_exps, plain_stat, plain_stat_node, plain_block, plain_body, plain_arm}
use Rattle.tree_core.proofs.Rows.{plain-local, plain-assign, without_result, with_result}
use Rattle.code_core.specs.declared.opcode.Opcode.TheVariants.{ForPrep, TForPrep, TForCall, TForLoop}
use Rattle.code_of.specs.Coded.{with_abc, with_abx}
use Rattle.code_of.specs.Sizes.{block_size}
use Rattle.code_parts.specs.Scopes.{begun, ended_from}
use Rattle.code_emitter.specs.Leading.{led_on}
use Rattle.code_emitter.specs.Listing.{listed}
use Rattle.code_emitter.specs.Patches.{replaced}
use Rattle.code_stat.specs.declared.writer.Writer.{Writer}
use Rattle.code_stat.specs.Forms.{choice, level_at}
use Rattle.code_stat.proofs.Plain.{ends_at, marks_at, choice_plain, num_for_plain, gen_for_plain, arms_front}
use Rattle.code_stat.proofs.Heights.{stat_height, stats_height, choice_height, block_inside, within_height}
use Rattle.code_stat.proofs.Drafting.{written_sized}
use Rattle.code_stat.proofs.Choosing.{full_wrote, empty_wrote}
use Rattle.tree_activation.specs.Activation.{line_of_end}
use Rattle.tree_terms.specs.Levels.{levels_after, levels_in}
use Rattle.code_of.specs.Conditions.{test_code}
use Rattle.code_of.specs.Expressions.{made_by}
use Rattle.code_of.specs.Levels.{closings_after, closed_until, made_in_block}
use Rattle.code_of.specs.Parts.{close_code}
use Rattle.code_stat.specs.Drafts.{WroteStat, WroteBlock, WroteOpen, newest_first}
use Rattle.code_stat.proofs.Lists.{all_left, none_left, next_left, levels_next, closings_next}
use Rattle.code_stat.proofs.Looping.{while_wrote, repeat_wrote, counted_wrote, iterated_wrote, num_for_wrote, gen_for_wrote}
use Rattle.code_stat.proofs.Jumping.{until_wrote}
use Rattle.code_stat.proofs.Ends.{top_is, until_top, falls_wrote, returns_wrote, open_returns, nothing_wrote}
use Rattle.code_stat.specs.Declares.{DeclaresStat, DeclaresBlock, DeclaresOpen}
use Rattle.code_stat.proofs.Declaring.{begun_from, nothing_declared, next_declared, all_declared, scopes_end, block_ends, while_declares, repeat_declares, rounds_declare, counted_long, iterated_long, num_for_declares, gen_for_declares, arm_declares}
use Rattle.code_stat.proofs.writer.Writer.+statements.Goals as goal

-- statements by their forms

pub statement-returns-in-Empty-clause-code : goal.statement-returns-in-Empty-clause-code
statement-returns-in-Empty-clause-code t c =
    subst (λ s. WroteStat c.args.self.now c.args.self.now s c.args.closing c.args.level) (sym (ap (λ n. plain_stat_node n c.args.stat.now.line) c.in-Empty.is)) (nothing_wrote c.args.self.now)

pub statement-returns-in-Label-clause-code : goal.statement-returns-in-Label-clause-code
statement-returns-in-Label-clause-code t c =
    subst (λ s. WroteStat c.args.self.now c.args.self.now s c.args.closing c.args.level) (sym (ap (λ n. plain_stat_node n c.args.stat.now.line) c.in-Label.is)) (nothing_wrote c.args.self.now)

pub statement-returns-in-Local-clause-code : goal.statement-returns-in-Local-clause-code
statement-returns-in-Local-clause-code t c =
    let is : plain_stat c.args.stat.now ≡ tree.Local c.args.stat.now.line c.in-Local.names.items (tree.exps (plain_exps c.in-Local.values.items)) =
    ap (λ n. plain_stat_node n c.args.stat.now.line) c.in-Local.is ∙ plain-local c.args.stat.now.line c.in-Local.names c.in-Local.values in
    subst (λ s. OnOk c.local.result (WroteStat c.args.self.now c.local.new.self s c.args.closing c.args.level)) (sym is) (c.local.ensures.code c.args.closing)

pub statement-returns-in-LocalFunction-clause-code : goal.statement-returns-in-LocalFunction-clause-code
statement-returns-in-LocalFunction-clause-code t c =
    let is : plain_stat c.args.stat.now ≡ tree.LocalFunction c.args.stat.now.line c.in-LocalFunction.name (plain_body c.deref.result.now) =
    ap (λ n. plain_stat_node n c.args.stat.now.line) c.in-LocalFunction.is ∙ ap (λ b. tree.LocalFunction c.args.stat.now.line c.in-LocalFunction.name (plain_body b)) (sym c.deref.ensures) in
    subst (λ s. OnOk c.local_function.result (WroteStat c.args.self.now c.local_function.new.self s c.args.closing c.args.level)) (sym is) (c.local_function.ensures.code c.args.stat.now.line c.args.closing)

pub statement-returns-in-Assign-clause-code : goal.statement-returns-in-Assign-clause-code
statement-returns-in-Assign-clause-code t c =
    let is : plain_stat c.args.stat.now ≡ tree.Assign c.args.stat.now.line (tree.exps (plain_exps c.in-Assign.targets.items)) (tree.exps (plain_exps c.in-Assign.values.items)) =
    ap (λ n. plain_stat_node n c.args.stat.now.line) c.in-Assign.is ∙ plain-assign c.args.stat.now.line c.in-Assign.targets c.in-Assign.values in
    subst (λ s. OnOk c.assign.result (WroteStat c.args.self.now c.assign.new.self s c.args.closing c.args.level)) (sym is) (c.assign.ensures.code c.args.closing)

pub statement-returns-in-If-clause-code : goal.statement-returns-in-If-clause-code
statement-returns-in-If-clause-code t c =
    subst (λ s. OnOk c.arms.result (WroteStat c.args.self.now c.arms.new.self s c.args.closing c.args.level)) (sym (choice_plain c.args.stat.now c.in-If.list c.in-If.otherwise c.in-If.is)) c.arms.ensures.code

pub statement-returns-in_ok-counted-in-NumFor-clause-code : goal.statement-returns-in_ok-counted-in-NumFor-clause-code
statement-returns-in_ok-counted-in-NumFor-clause-code t c =
    let line = c.args.stat.now.line in
    let step = option_map (λ e. plain_exp e.value) c.in-NumFor.step in
    let is = num_for_plain c.args.stat.now c.in-NumFor.name c.in-NumFor.from c.in-NumFor.limit c.in-NumFor.step c.in-NumFor.block c.deref-in-NumFor.result.now c.deref-in-NumFor-2.result.now c.deref-in-NumFor-3.result.now
    c.in-NumFor.is c.deref-in-NumFor.ensures c.deref-in-NumFor-2.ensures c.deref-in-NumFor-3.ensures in
    subst (λ s. WroteStat c.args.self.now c.counted.new.self s c.args.closing c.args.level) (sym is)
    (num_for_wrote c.args.self.now (record c.args.self.now { emitter = c.write_range.new.emitter }) c.counted.new.self c.write_range.new.emitter c.in-NumFor.name (plain_exp c.deref-in-NumFor.result.now) (plain_exp c.deref-in-NumFor-2.result.now) step
    (plain_block c.deref-in-NumFor-3.result.now) c.args.closing c.args.level line c.in_ok-write_range-in-NumFor.ensures refl refl refl c.in_ok-counted-in-NumFor.ensures.code)

pub statement-returns-in_ok-iterated-in-GenFor-clause-code : goal.statement-returns-in_ok-iterated-in-GenFor-clause-code
statement-returns-in_ok-iterated-in-GenFor-clause-code t c =
    let line = c.args.stat.now.line in
    let es = tree.exps (plain_exps c.in-GenFor.values.items) in
    let is = gen_for_plain c.args.stat.now c.in-GenFor.names c.in-GenFor.values c.in-GenFor.block c.deref-in-GenFor.result.now c.in-GenFor.is c.deref-in-GenFor.ensures in
    subst (λ s. WroteStat c.args.self.now c.iterated.new.self s c.args.closing c.args.level) (sym is)
    (gen_for_wrote c.args.self.now (record c.args.self.now { emitter = c.list.new.emitter }) c.iterated.new.self c.list.new.emitter c.in-GenFor.names.items es (plain_block c.deref-in-GenFor.result.now) c.args.closing (length c.in-GenFor.names.items) c.args.level line refl
    c.in_ok-list-in-GenFor.ensures refl refl refl c.in_ok-iterated-in-GenFor.ensures.code)

-- the statements of a block

pub statements-loop-stat-init : goal.statements-loop-stat-init
statements-loop-stat-init t c = (
  refl,
  ap (λ l. levels_after (tree.stats (map plain_stat l)) c.args.level) c.deref-stat-items.ensures.value,
  ap (λ l. closings_after (tree.stats (map plain_stat l)) c.args.closing) c.deref-stat-items.ensures.value,
  all_left c.args.list.now.items c.deref-stat-items.result.now c.args.self.now c.args.falls c.args.closing c.args.outer c.args.level (newest_first c.new-passed.result.items []) c.deref-stat-items.ensures.value (search rules),
  ap (λ l. c.args.self.now.variables ++ begun_from c.args.self.now (tree.stats (map plain_stat l)) c.args.closing c.args.level) c.deref-stat-items.ensures.value,
)

pub statements-loop-stat-preserved : goal.statements-loop-stat-preserved
statements-loop-stat-preserved t c =
    let inside : c.loop-stat.stat-index < length c.deref-stat-items.result.now = omega (arith, c.loop-stat-test.true, c.loop-stat.auto.stat-index-end) in
    let from : c.len-from.result ≡ length c.loop-stat.self.jumps.items = search rules in
    let first : c.len-first.result ≡ length c.args.self.now.jumps.items = search rules in
    let there : c.level_at-there.result ≡ level_at (tree.stats (map plain_stat (drop c.in_ok-done.done c.args.list.now.items))) c.args.falls c.args.outer c.loop-stat.scope.level =
    c.level_at-there.ensures ∙ ap (λ b. cond (c.args.falls && b) c.args.outer c.loop-stat.scope.level) (sym (c.void_from.ensures c.in_ok-done.done)) in (
      omega (arith, c.loop-stat.invariant.0, c.in_ok-done.ensures),
      levels_next c.deref-stat-items.result.now c.loop-stat.stat-index c.stat-item.result c.loop-stat.scope.level c.in_ok-scope.scope.level _ inside c.stat-item.is c.in_ok-scope.ensures.level c.loop-stat.invariant.1,
      closings_next c.deref-stat-items.result.now c.loop-stat.stat-index c.stat-item.result c.loop-stat.scope.closing c.in_ok-scope.scope.closing _ inside c.stat-item.is c.in_ok-scope.ensures.closing c.loop-stat.invariant.2,
      next_left c.args.list.now.items c.deref-stat-items.result.now c.loop-stat.stat-index (c.in_ok-done.done) c.stat-item.result c.args.self.now c.loop-stat.self c.statement.new.self (record c.statement.new.self { jumps = c.meet_label.new.jumps })
          c.settle_all.new.jumps.items c.args.falls c.loop-stat.scope.closing c.in_ok-scope.scope.closing c.args.closing c.args.outer c.loop-stat.scope.level c.in_ok-scope.scope.level c.args.level c.len-first.result c.len-from.result c.place.result c.level_at-there.result
          (newest_first c.loop-stat.passed.items []) (newest_first c.meet_label.new.passed.items []) c.deref-stat-items.ensures.value inside c.stat-item.is (c.in_ok-done.ensures ∙ ap (λ n. n + 1) c.loop-stat.invariant.0) first from c.place.ensures
          c.loop-stat.invariant.3 c.in_ok-statement.ensures.code c.settle_all.ensures.front c.settle_all.ensures.leads c.in_ok-meet_label.ensures.front there c.in_ok-meet_label.ensures.leads refl refl c.in_ok-meet_label.ensures.passed
          c.in_ok-scope.ensures.level c.in_ok-scope.ensures.closing,
      next_declared c.deref-stat-items.result.now c.args.list.now.items c.loop-stat.stat-index c.stat-item.result c.args.self.now c.loop-stat.self c.statement.new.self (record c.statement.new.self { jumps = c.meet_label.new.jumps })
          c.loop-stat.scope.closing c.in_ok-scope.scope.closing c.args.closing c.loop-stat.scope.level c.in_ok-scope.scope.level c.args.level inside c.stat-item.is c.loop-stat.invariant.4 c.in_ok-statement.ensures.code c.in_ok-statement.ensures.variables
          refl refl refl c.in_ok-scope.ensures.level c.in_ok-scope.ensures.closing,
    )

pub statements-returns-clause-code : goal.statements-returns-clause-code
statements-returns-clause-code t c =
    let over : length c.deref-stat-items.result.now ≤ c.loop-stat.stat-index = omega (arith, c.loop-stat-test.false) in
    none_left c.args.list.now.items c.deref-stat-items.result.now c.loop-stat.stat-index c.args.self.now c.loop-stat.self c.args.falls c.loop-stat.scope.closing c.args.closing c.args.outer c.loop-stat.scope.level c.args.level
    (newest_first c.loop-stat.passed.items []) over c.loop-stat.invariant.3

-- loops

pub while_loop-returns-clause-code : goal.while_loop-returns-clause-code
while_loop-returns-clause-code t c =
    let first : c.len-first.result ≡ length c.args.self.now.jumps.items = search rules in
    while_wrote c.args.self.now (record c.args.self.now { emitter = c.condition.new.emitter }) c.block.new.self c.end_loop.new.self
    c.put_jump_back.new.self c.lead.new.self (plain_exp c.args.test.now) (plain_block c.args.block.now) c.args.closing c.args.level c.args.line c.place-start.result c.place-end.result c.len-first.result c.in_ok-away.away.items
    c.place-start.ensures first c.in_ok-away.ensures refl refl c.in_ok-block.ensures.code c.in_ok-put_jump_back.ensures c.place-end.ensures c.in_ok-lead.ensures
    (record { emitter_is = c.end_loop.ensures.emitter; back_is = c.end_loop.ensures.back; front = c.end_loop.ensures.front; leads = c.end_loop.ensures.leads })

pub repeat_loop-returns-clause-code : goal.repeat_loop-returns-clause-code
repeat_loop-returns-clause-code t c =
    let first : c.len-first.result ≡ length c.args.self.now.jumps.items = search rules in
    let line_is : (out-Block c.args.block.now).line ≡ line_of_end (plain_block c.args.block.now) = ends_at c.args.block.now in
    let e = plain_exp c.args.test.now in
    let block = plain_block c.args.block.now in
    let q = c.open_block.new.self.emitter in
    let top = c.closed_below-top.result in
    let end_line = (out-Block c.args.block.now).line in
    let behind : c.made-behind.result ≡ c.args.self.now.emitter.made + made_in_block block + made_by e =
    c.made-behind.ensures ∙ c.in_ok-away.ensures.made_is ∙ ap (λ z. z.made + made_by e) c.in_ok-inner.ensures.code.emitter_is in
    let closes : top ≡ closed_until block e c.args.level =
    until_top block e c.args.level c.in_ok-inner.inner top c.args.self.now.emitter.made c.made-before.result c.made-behind.result _ c.in_ok-inner.ensures.level (marks_at c.args.block.now) c.made-before.ensures behind c.closed_below-top.ensures in
    repeat_wrote c.args.self.now c.open_block.new.self (record c.end_loop.new.self { variables = c.end_scopes.new.self }) c.write_close-2.new.emitter e block c.args.closing c.args.level c.args.line end_line c.in_ok-inner.inner
    top c.place-start.result c.len-first.result c.place-start.ensures first c.in_ok-inner.ensures.code c.in_ok-inner.ensures.level line_is closes
    (until_wrote q c.condition.new.emitter c.write_close.new.emitter c.put_jump_back.new.self c.lead.new.self c.write_close-2.new.emitter (λ ahead. test_code q.constants e false ahead c.in_ok-inner.inner q.made) (close_code c.args.level top end_line) (made_by e)
    c.place-start.result c.place-exit.result c.args.line c.in_ok-away.away.items c.in_ok-away.ensures c.in_ok-write_close.ensures c.in_ok-put_jump_back.ensures c.place-exit.ensures c.in_ok-lead.ensures c.in_ok-write_close-2.ensures)
    (record { emitter_is = c.end_loop.ensures.emitter; back_is = c.end_loop.ensures.back; front = c.end_loop.ensures.front; leads = c.end_loop.ensures.leads })

pub counted-returns-clause-code : goal.counted-returns-clause-code
counted-returns-clause-code t c =
    let first : c.len-first.result ≡ length c.args.self.now.jumps.items = search rules in
    let size : c.saturating_sub-size.result ≡ length c.block.new.self.emitter.steps - (length c.args.self.now.emitter.steps + 1) = search rules in
    let set : c.set_abx.new.self ≡ replaced c.put_abx-2.new.self (length c.args.self.now.emitter.steps) (with_abx ForPrep c.args.level c.saturating_sub-size.result c.args.line) =
    subst (λ n. c.set_abx.new.self ≡ replaced c.put_abx-2.new.self n (with_abx ForPrep c.args.level c.saturating_sub-size.result c.args.line)) c.place-start.ensures c.set_abx.ensures in
    counted_wrote c.args.self.now (record c.args.self.now { emitter = c.put_abx.new.self; variables = c.declare.new.self }) c.block.new.self (record c.end_loop.new.self { variables = c.end_scopes-2.new.self }) c.put_abx-2.new.self c.set_abx.new.self (plain_block c.args.block.now) c.args.closing c.args.level c.args.line
    c.len-first.result c.saturating_sub-size.result c.in_ok-outer.outer c.in_ok-inner.inner first c.in_ok-outer.ensures c.in_ok-inner.ensures c.in_ok-put_abx.ensures refl refl c.in_ok-block.ensures.code size c.in_ok-put_abx-2.ensures set
    (record { emitter_is = c.end_loop.ensures.emitter; back_is = c.end_loop.ensures.back; front = c.end_loop.ensures.front; leads = c.end_loop.ensures.leads })

pub iterated-returns-clause-code : goal.iterated-returns-clause-code
iterated-returns-clause-code t c =
    let first : c.len-first.result ≡ length c.args.self.now.jumps.items = search rules in
    let size : c.saturating_sub-size.result ≡ length c.block.new.self.emitter.steps - (length c.args.self.now.emitter.steps + 1) = search rules in
    let set : c.set_abx.new.self ≡ replaced c.put_abc-2.new.self (length c.args.self.now.emitter.steps) (with_abx TForPrep c.args.level c.saturating_sub-size.result c.args.line) =
    subst (λ n. c.set_abx.new.self ≡ replaced c.put_abc-2.new.self n (with_abx TForPrep c.args.level c.saturating_sub-size.result c.args.line)) c.place-start.ensures c.set_abx.ensures in
    let loops : c.put_abx-2.new.self ≡ listed c.put_abc.new.self (with_abx TForLoop c.args.level (c.saturating_sub-size.result + 2) c.args.line ∷ []) =
    subst (λ n. c.put_abx-2.new.self ≡ listed c.put_abc.new.self (with_abx TForLoop c.args.level n c.args.line ∷ [])) c.in_ok-behind.ensures c.in_ok-put_abx-2.ensures in
    let count : c.len.result ≡ length c.args.names.now.items = search rules in
    let again : c.len-2.result ≡ length c.args.names.now.items = search rules in
    let inner : c.in_ok-inner.inner ≡ c.in_ok-outer.outer + length c.args.names.now.items = c.in_ok-inner.ensures ∙ ap (λ n. c.in_ok-outer.outer + n) count in
    let called : c.put_abc.new.self ≡ listed c.block.new.self.emitter (with_abc TForCall c.args.level 0 (length c.args.names.now.items) c.args.line ∷ []) =
    c.in_ok-put_abc.ensures ∙ ap (λ n. listed c.block.new.self.emitter (with_abc TForCall c.args.level 0 n c.args.line ∷ [])) again in
    iterated_wrote c.args.self.now (record c.args.self.now { emitter = c.put_abx.new.self; variables = c.declare_names.new.self }) c.block.new.self (record c.end_loop.new.self { variables = c.end_scopes-2.new.self }) c.put_abc.new.self c.put_abx-2.new.self c.put_abc-2.new.self c.set_abx.new.self (plain_block c.args.block.now) (length c.args.names.now.items)
    c.args.level c.args.line c.len-first.result c.saturating_sub-size.result c.in_ok-outer.outer c.in_ok-inner.inner first c.in_ok-outer.ensures inner c.in_ok-put_abx.ensures refl refl c.in_ok-block.ensures.code size called loops
    c.in_ok-put_abc-2.ensures set
    (record { emitter_is = c.end_loop.ensures.emitter; back_is = c.end_loop.ensures.back; front = c.end_loop.ensures.front; leads = c.end_loop.ensures.leads })

-- blocks

pub block-returns-in_ok-end_scopes-in-None-clause-code : goal.block-returns-in_ok-end_scopes-in-None-clause-code
block-returns-in_ok-end_scopes-in-None-clause-code t c =
    let b = out-Block c.args.block.now in
    let top = top_is c.args.self.now c.statements.new.self (tree.stats (map plain_stat b.stats.items)) c.args.closing c.args.outer c.args.level c.in_ok-end-in-None.end.level c.closed_below-top.result c.made-before.result c.made-behind.result
    c.in_ok-end-in-None.ensures.code c.in_ok-end-in-None.ensures.level c.made-before.ensures c.made-behind.ensures c.closed_below-top.ensures in
    subst (λ p. WroteBlock c.args.self.now (record c.statements.new.self { emitter = c.write_close.new.emitter; variables = c.end_scopes.new.self }) p c.args.closing c.args.outer c.args.level) (sym (without_result c.args.block.now c.in-None.is))
    (falls_wrote c.args.self.now c.statements.new.self (record c.statements.new.self { emitter = c.write_close.new.emitter; variables = c.end_scopes.new.self }) (tree.stats (map plain_stat b.stats.items)) b.tokens b.line c.args.closing c.args.outer c.args.level c.closed_below-top.result
    c.in_ok-end-in-None.ensures.code top c.in_ok-write_close-in-None.ensures refl refl)

pub block-returns-in_ok-end_scopes-in-Some-clause-code : goal.block-returns-in_ok-end_scopes-in-Some-clause-code
block-returns-in_ok-end_scopes-in-Some-clause-code t c =
    let b = out-Block c.args.block.now in
    let after : Writer = record c.statements-in-Some.new.self { emitter = c.write_return.new.emitter; variables = c.end_scopes-in-Some.new.self } in
    subst (λ p. WroteBlock c.args.self.now after p c.args.closing c.args.outer c.args.level) (sym (with_result c.args.block.now c.in-Some.values c.in-Some.is))
    (returns_wrote c.args.self.now c.statements-in-Some.new.self after (tree.stats (map plain_stat b.stats.items)) (tree.exps (plain_exps c.in-Some.values.items)) b.tokens b.line c.args.closing c.in_ok-end-in-Some.end.closing c.args.outer c.args.level
    c.in_ok-end-in-Some.end.level c.statements-in-Some.new.self.back.back c.in_ok-end-in-Some.ensures.code c.in_ok-end-in-Some.ensures.level c.in_ok-end-in-Some.ensures.closing refl c.in_ok-write_return-in-Some.ensures refl refl)

pub open_block-returns-in-None-clause-code : goal.open_block-returns-in-None-clause-code
open_block-returns-in-None-clause-code t c = subst (λ p. WroteOpen c.args.self.now c.statements.new.self p c.args.closing c.args.level) (sym (without_result c.args.block.now c.in-None.is)) c.in_ok-end.ensures.code

pub open_block-returns-in-None-clause-level : goal.open_block-returns-in-None-clause-level
open_block-returns-in-None-clause-level t c = c.in_ok-end.ensures.level ∙ sym (ap (λ p. levels_in p c.args.level) (without_result c.args.block.now c.in-None.is))

pub open_block-returns-in_ok-write_return-in-Some-clause-code : goal.open_block-returns-in_ok-write_return-in-Some-clause-code
open_block-returns-in_ok-write_return-in-Some-clause-code t c =
    let b = out-Block c.args.block.now in
    let after : Writer = record c.statements.new.self { emitter = c.write_return.new.emitter } in
    subst (λ p. WroteOpen c.args.self.now after p c.args.closing c.args.level) (sym (with_result c.args.block.now c.in-Some.values c.in-Some.is))
    (open_returns c.args.self.now c.statements.new.self after (tree.stats (map plain_stat b.stats.items)) (tree.exps (plain_exps c.in-Some.values.items)) b.tokens b.line c.args.closing c.in_ok-end.end.closing c.args.level
    c.in_ok-end.end.level c.statements.new.self.back.back c.in_ok-end.ensures.code c.in_ok-end.ensures.level c.in_ok-end.ensures.closing refl c.in_ok-write_return-in-Some.ensures refl refl)

pub open_block-returns-in_ok-write_return-in-Some-clause-level : goal.open_block-returns-in_ok-write_return-in-Some-clause-level
open_block-returns-in_ok-write_return-in-Some-clause-level t c = c.in_ok-end.ensures.level ∙ sym (ap (λ p. levels_in p c.args.level) (with_result c.args.block.now c.in-Some.values c.in-Some.is))

-- an `if`

pub otherwise-returns-in-None-clause-code : goal.otherwise-returns-in-None-clause-code
otherwise-returns-in-None-clause-code t c =
    subst (λ o. WroteStat c.args.self.now c.args.self.now (choice c.args.line tree.EndArms (option_map (λ b. plain_block b.value) o)) c.args.closing c.args.level) (sym c.in-None.is) (nothing_wrote c.args.self.now)

pub arms-returns-then-end-place-clause-code : goal.arms-returns-then-end-place-clause-code
arms-returns-then-end-place-clause-code t c =
    let arm = c.index-arm.result.now in
    let others = tree.arms (map plain_arm (drop (c.args.at + 1) c.args.list.now.items)) in
    let o = option_map (λ b. plain_block b.value) c.args.otherwise.now in
    let after : Writer = record c.arms.new.self { emitter = c.lead.new.self } in
    let inside : c.args.at < length c.args.list.now.items = search rules in
    let is : arm ≡ slice_index_or c.args.list.now.items c.args.at arm = search rules in
    let more : length c.put_open_jump.new.self.steps < length c.arms.new.self.emitter.steps = search rules in
    let led : c.lead.new.self ≡ led_on c.land.new.self c.in_ok-away.away.items c.place-place.result = search rules in
    subst (λ l. WroteStat c.args.self.now after (choice c.args.line l o) c.args.closing c.args.level) (sym (arms_front c.args.list.now.items c.args.at arm inside is))
    (full_wrote c.args.self.now (record c.args.self.now { emitter = c.condition.new.emitter }) c.block.new.self (record c.block.new.self { emitter = c.put_open_jump.new.self }) c.arms.new.self after
    c.land.new.self (plain_exp (out-Arm arm).test) (plain_block (out-Arm arm).block) others o c.args.closing c.args.level c.args.line c.in_ok-past.past c.place-place.result
    (length c.arms.new.self.emitter.steps - length c.put_open_jump.new.self.steps - 1) c.in_ok-away.away.items
    c.in_ok-away.ensures refl refl c.in_ok-block.ensures.code c.in_ok-past.ensures.jump c.in_ok-past.ensures.place refl refl c.place-place.ensures c.in_ok-arms.ensures.code
    (omega (arith, more)) c.land.ensures led refl refl)

pub arms-returns-clause-code : goal.arms-returns-clause-code
arms-returns-clause-code t c =
    let arm = c.index-arm.result.now in
    let others = tree.arms (map plain_arm (drop (c.args.at + 1) c.args.list.now.items)) in
    let o = option_map (λ b. plain_block b.value) c.args.otherwise.now in
    let before : Writer = record c.block.new.self { emitter = c.put_open_jump.new.self } in
    let after : Writer = record c.arms.new.self { emitter = c.lead-2.new.self; jumps = c.truncate.new.self } in
    let inside : c.args.at < length c.args.list.now.items = search rules in
    let is : arm ≡ slice_index_or c.args.list.now.items c.args.at arm = search rules in
    let most : length c.arms.new.self.emitter.steps ≤ length c.put_open_jump.new.self.steps = search rules in
    let first : c.len-first.result ≡ length c.block.new.self.jumps.items = search rules in
    let kept : c.truncate.new.self.items ≡ take c.len-first.result c.arms.new.self.jumps.items = search rules in
    let led : c.lead-2.new.self ≡ led_on c.cut.new.self c.in_ok-away.away.items c.in_ok-past.past = search rules in
    let grown : length c.arms.new.self.emitter.steps ≡ length c.put_open_jump.new.self.steps + length c.in_ok-arms.ensures.code.draft = written_sized c.put_open_jump.new.self c.arms.new.self.emitter c.in_ok-arms.ensures.code.draft _ c.in_ok-arms.ensures.code.emitter_is in
    subst (λ l. WroteStat c.args.self.now after (choice c.args.line l o) c.args.closing c.args.level) (sym (arms_front c.args.list.now.items c.args.at arm inside is))
    (empty_wrote c.args.self.now (record c.args.self.now { emitter = c.condition.new.emitter }) c.block.new.self before c.arms.new.self after
    c.cut.new.self (plain_exp (out-Arm arm).test) (plain_block (out-Arm arm).block) others o c.args.closing c.args.level c.args.line c.in_ok-past.past c.len-first.result c.in_ok-away.away.items
    c.in_ok-away.ensures refl refl c.in_ok-block.ensures.code c.in_ok-past.ensures.jump c.in_ok-past.ensures.place refl refl first c.in_ok-arms.ensures.code
    (omega (arith, most, grown)) c.cut.ensures led kept refl)

-- calls go down the tree

pub block-statements-requires : goal.block-statements-requires
block-statements-requires t c = let h = block_inside c.args.block.now in (omega (arith, c.decreases, h), tt)

pub block-statements-requires-in-Some : goal.block-statements-requires-in-Some
block-statements-requires-in-Some t c = let h = block_inside c.args.block.now in (omega (arith, c.decreases, h), tt)

pub open_block-statements-requires : goal.open_block-statements-requires
open_block-statements-requires t c = let h = block_inside c.args.block.now in (omega (arith, c.decreases, h), tt)

pub statement-arms-requires : goal.statement-arms-requires
statement-arms-requires t c =
    let h = ap stat_height (choice_plain c.args.stat.now c.in-If.list c.in-If.otherwise c.in-If.is) ∙ choice_height c.args.stat.now.line (tree.arms (map plain_arm c.in-If.list.items)) c.in-If.otherwise in
    (omega (arith, c.decreases, h), tt)

pub statements-statement-requires : goal.statements-statement-requires
statements-statement-requires t c =
    let inside : c.loop-stat.stat-index < length c.deref-stat-items.result.now = omega (arith, c.loop-stat-test.true, c.loop-stat.auto.stat-index-end) in
    let h = within_height c.deref-stat-items.result.now c.loop-stat.stat-index c.stat-item.result inside c.stat-item.is in
    let same = ap (λ l. stats_height (tree.stats (map plain_stat l))) c.deref-stat-items.ensures.value in
    (omega (arith, c.decreases, h, same), tt)

-- the variables of statements by their forms

pub statement-returns-in-Empty-clause-variables : goal.statement-returns-in-Empty-clause-variables
statement-returns-in-Empty-clause-variables t c =
    subst (λ s. DeclaresStat c.args.self.now c.args.self.now s c.args.closing c.args.level) (sym (ap (λ n. plain_stat_node n c.args.stat.now.line) c.in-Empty.is)) (nothing_declared c.args.self.now c.args.self.now refl)

pub statement-returns-in-Label-clause-variables : goal.statement-returns-in-Label-clause-variables
statement-returns-in-Label-clause-variables t c =
    subst (λ s. DeclaresStat c.args.self.now c.args.self.now s c.args.closing c.args.level) (sym (ap (λ n. plain_stat_node n c.args.stat.now.line) c.in-Label.is)) (nothing_declared c.args.self.now c.args.self.now refl)

pub statement-returns-in-Local-clause-variables : goal.statement-returns-in-Local-clause-variables
statement-returns-in-Local-clause-variables t c =
    let is : plain_stat c.args.stat.now ≡ tree.Local c.args.stat.now.line c.in-Local.names.items (tree.exps (plain_exps c.in-Local.values.items)) =
    ap (λ n. plain_stat_node n c.args.stat.now.line) c.in-Local.is ∙ plain-local c.args.stat.now.line c.in-Local.names c.in-Local.values in
    subst (λ s. OnOk c.local.result (DeclaresStat c.args.self.now c.local.new.self s c.args.closing c.args.level)) (sym is) (c.local.ensures.variables c.args.closing)

pub statement-returns-in-LocalFunction-clause-variables : goal.statement-returns-in-LocalFunction-clause-variables
statement-returns-in-LocalFunction-clause-variables t c =
    let is : plain_stat c.args.stat.now ≡ tree.LocalFunction c.args.stat.now.line c.in-LocalFunction.name (plain_body c.deref.result.now) =
    ap (λ n. plain_stat_node n c.args.stat.now.line) c.in-LocalFunction.is ∙ ap (λ b. tree.LocalFunction c.args.stat.now.line c.in-LocalFunction.name (plain_body b)) (sym c.deref.ensures) in
    subst (λ s. OnOk c.local_function.result (DeclaresStat c.args.self.now c.local_function.new.self s c.args.closing c.args.level)) (sym is) (c.local_function.ensures.variables c.args.stat.now.line c.args.closing)

pub statement-returns-in-If-clause-variables : goal.statement-returns-in-If-clause-variables
statement-returns-in-If-clause-variables t c =
    subst (λ s. OnOk c.arms.result (DeclaresStat c.args.self.now c.arms.new.self s c.args.closing c.args.level)) (sym (choice_plain c.args.stat.now c.in-If.list c.in-If.otherwise c.in-If.is)) c.arms.ensures.variables

pub statement-returns-in_ok-counted-in-NumFor-clause-variables : goal.statement-returns-in_ok-counted-in-NumFor-clause-variables
statement-returns-in_ok-counted-in-NumFor-clause-variables t c =
    let line = c.args.stat.now.line in
    let step = option_map (λ e. plain_exp e.value) c.in-NumFor.step in
    let is = num_for_plain c.args.stat.now c.in-NumFor.name c.in-NumFor.from c.in-NumFor.limit c.in-NumFor.step c.in-NumFor.block c.deref-in-NumFor.result.now c.deref-in-NumFor-2.result.now c.deref-in-NumFor-3.result.now
    c.in-NumFor.is c.deref-in-NumFor.ensures c.deref-in-NumFor-2.ensures c.deref-in-NumFor-3.ensures in
    subst (λ s. DeclaresStat c.args.self.now c.counted.new.self s c.args.closing c.args.level) (sym is)
    (num_for_declares c.args.self.now (record c.args.self.now { emitter = c.write_range.new.emitter }) c.counted.new.self c.write_range.new.emitter c.in-NumFor.name (plain_exp c.deref-in-NumFor.result.now) (plain_exp c.deref-in-NumFor-2.result.now) step
    (plain_block c.deref-in-NumFor-3.result.now) c.args.closing c.args.level line c.in_ok-write_range-in-NumFor.ensures refl refl refl c.in_ok-counted-in-NumFor.ensures.variables)

pub statement-returns-in_ok-iterated-in-GenFor-clause-variables : goal.statement-returns-in_ok-iterated-in-GenFor-clause-variables
statement-returns-in_ok-iterated-in-GenFor-clause-variables t c =
    let line = c.args.stat.now.line in
    let es = tree.exps (plain_exps c.in-GenFor.values.items) in
    let is = gen_for_plain c.args.stat.now c.in-GenFor.names c.in-GenFor.values c.in-GenFor.block c.deref-in-GenFor.result.now c.in-GenFor.is c.deref-in-GenFor.ensures in
    subst (λ s. DeclaresStat c.args.self.now c.iterated.new.self s c.args.closing c.args.level) (sym is)
    (gen_for_declares c.args.self.now (record c.args.self.now { emitter = c.list.new.emitter }) c.iterated.new.self c.list.new.emitter c.in-GenFor.names.items es (plain_block c.deref-in-GenFor.result.now) c.args.closing c.args.level line
    c.in_ok-list-in-GenFor.ensures refl refl refl c.in_ok-iterated-in-GenFor.ensures.variables)

-- those of the statements of a block

pub statements-returns-clause-variables : goal.statements-returns-clause-variables
statements-returns-clause-variables t c =
    let most : length c.deref-stat-items.result.now ≤ c.loop-stat.stat-index = omega (arith, c.loop-stat-test.false) in
    all_declared c.deref-stat-items.result.now c.args.list.now.items c.loop-stat.stat-index c.args.self.now c.loop-stat.self c.loop-stat.scope.closing c.args.closing c.loop-stat.scope.level c.args.level most c.loop-stat.invariant.4

-- those of loops

pub while_loop-returns-clause-variables : goal.while_loop-returns-clause-variables
while_loop-returns-clause-variables t c =
    while_declares c.args.self.now (record c.args.self.now { emitter = c.condition.new.emitter }) c.block.new.self c.end_loop.new.self (plain_exp c.args.test.now) (plain_block c.args.block.now) c.args.closing c.args.level c.args.line
    c.in_ok-away.away.items c.in_ok-away.ensures refl refl c.in_ok-block.ensures.variables c.end_loop.ensures.variables

pub repeat_loop-returns-clause-variables : goal.repeat_loop-returns-clause-variables
repeat_loop-returns-clause-variables t c =
    let after : Writer = record c.end_loop.new.self { variables = c.end_scopes.new.self } in
    let first : c.count-declared.result ≡ length c.args.self.now.variables = search rules in
    let place : c.place-place.result ≡ length c.end_loop.new.self.emitter.steps = c.place-place.ensures in
    let ended : c.end_scopes.new.self ≡ ended_from c.count-declared.result c.place-place.result c.open_block.new.self.variables = c.in_ok-end_scopes.ensures ∙ ap (ended_from c.count-declared.result c.place-place.result) c.end_loop.ensures.variables in
    repeat_declares c.args.self.now c.open_block.new.self after (plain_block c.args.block.now) (plain_exp c.args.test.now) c.args.closing c.args.level c.args.line c.count-declared.result c.place-place.result
    first c.in_ok-inner.ensures.variables ended place (repeat_loop-returns-clause-code t c)

pub counted-returns-clause-variables : goal.counted-returns-clause-variables
counted-returns-clause-variables t c =
    let a = c.args.self.now in
    let after : Writer = record c.end_loop.new.self { variables = c.end_scopes-2.new.self } in
    let hidden_at : c.count-hidden.result ≡ length a.variables = search rules in
    let named_at : c.count-named.result ≡ length c.hide.new.self = search rules in
    let begin : c.in_ok-next.field-0 ≡ c.place-start.result + 1 = c.in_ok-next.ensures in
    let ended : c.end_scopes-2.new.self ≡ ended_from c.count-hidden.result c.place-place.result c.end_scopes.new.self = c.in_ok-end_scopes-2.ensures ∙ ap (ended_from c.count-hidden.result c.place-place.result) c.end_loop.ensures.variables in
    let long : length c.end_loop.new.self.emitter.steps ≡ length a.emitter.steps + (block_size a.emitter.constants a.back (plain_block c.args.block.now) c.args.closing (c.args.level + 3) (c.args.level + 4) a.emitter.made + 2) =
    counted_long a after (plain_block c.args.block.now) c.args.closing c.args.level c.args.line (counted-returns-clause-code t c) in
    rounds_declare a (record a { emitter = c.put_abx.new.self; variables = c.declare.new.self }) c.block.new.self after (with_abx ForPrep c.args.level 0 c.args.line) 3 (c.args.name.now ∷ []) (plain_block c.args.block.now) c.args.closing
    c.in_ok-outer.outer c.in_ok-inner.inner (c.args.level + 3) (c.args.level + 4) 2 c.place-start.result c.in_ok-next.field-0 c.count-hidden.result c.count-named.result c.place-end.result c.place-place.result c.hide.new.self c.end_scopes.new.self
    c.in_ok-outer.ensures c.in_ok-inner.ensures c.place-start.ensures begin hidden_at c.in_ok-hide.ensures named_at c.in_ok-declare.ensures c.in_ok-put_abx.ensures refl c.in_ok-block.ensures.code c.in_ok-block.ensures.variables
    c.place-end.ensures c.in_ok-end_scopes.ensures ended (c.place-place.ensures ∙ long)

pub iterated-returns-clause-variables : goal.iterated-returns-clause-variables
iterated-returns-clause-variables t c =
    let a = c.args.self.now in
    let names = c.args.names.now.items in
    let after : Writer = record c.end_loop.new.self { variables = c.end_scopes-2.new.self } in
    let hidden_at : c.count-hidden.result ≡ length a.variables = search rules in
    let named_at : c.count-named.result ≡ length c.hide.new.self = search rules in
    let begin : c.in_ok-next.field-0 ≡ c.place-start.result + 1 = c.in_ok-next.ensures in
    let count : c.len.result ≡ length names = search rules in
    let inner : c.in_ok-inner.inner ≡ c.args.level + 4 + length names = c.in_ok-inner.ensures ∙ ap₂ (λ m n. m + n) c.in_ok-outer.ensures count in
    let declared : c.declare_names.new.self ≡ c.hide.new.self ++ map (λ name. begun (Some name.text) c.in_ok-next.field-0) names =
    c.in_ok-declare_names.ensures ∙ ap (λ l. c.hide.new.self ++ map (λ name. begun (Some name.text) c.in_ok-next.field-0) l) c.deref.ensures.value in
    let ended : c.end_scopes-2.new.self ≡ ended_from c.count-hidden.result c.place-place.result c.end_scopes.new.self = c.in_ok-end_scopes-2.ensures ∙ ap (ended_from c.count-hidden.result c.place-place.result) c.end_loop.ensures.variables in
    let long : length c.end_loop.new.self.emitter.steps ≡ length a.emitter.steps + (block_size a.emitter.constants a.back (plain_block c.args.block.now) true (c.args.level + 4) (c.args.level + 4 + length names) a.emitter.made + 4) =
    iterated_long a after (plain_block c.args.block.now) (length names) c.args.level c.args.line (iterated-returns-clause-code t c) in
    rounds_declare a (record a { emitter = c.put_abx.new.self; variables = c.declare_names.new.self }) c.block.new.self after (with_abx TForPrep c.args.level 0 c.args.line) 4 names (plain_block c.args.block.now) true
    c.in_ok-outer.outer c.in_ok-inner.inner (c.args.level + 4) (c.args.level + 4 + length names) 4 c.place-start.result c.in_ok-next.field-0 c.count-hidden.result c.count-named.result c.place-end.result c.place-place.result c.hide.new.self c.end_scopes.new.self
    c.in_ok-outer.ensures inner c.place-start.ensures begin hidden_at c.in_ok-hide.ensures named_at declared c.in_ok-put_abx.ensures refl c.in_ok-block.ensures.code c.in_ok-block.ensures.variables
    c.place-end.ensures c.in_ok-end_scopes.ensures ended (c.place-place.ensures ∙ long)

-- those of blocks

pub block-returns-in_ok-end_scopes-in-None-clause-variables : goal.block-returns-in_ok-end_scopes-in-None-clause-variables
block-returns-in_ok-end_scopes-in-None-clause-variables t c =
    let b = out-Block c.args.block.now in
    let a = c.args.self.now in
    let ss = tree.stats (map plain_stat b.stats.items) in
    let is = without_result c.args.block.now c.in-None.is in
    let after : Writer = record c.statements.new.self { emitter = c.write_close.new.emitter; variables = c.end_scopes.new.self } in
    let first : c.count-first.result ≡ length a.variables = search rules in
    let code : WroteBlock a after (tree.Falls ss b.tokens b.line) c.args.closing c.args.outer c.args.level =
    subst (λ p. WroteBlock a after p c.args.closing c.args.outer c.args.level) is (block-returns-in_ok-end_scopes-in-None-clause-code t c) in
    subst (λ p. DeclaresBlock a after p c.args.closing c.args.outer c.args.level) (sym is)
    (scopes_end a c.statements.new.self after ss c.args.closing c.args.level c.count-first.result c.place-closed.result _ first c.in_ok-end-in-None.ensures.variables c.in_ok-end_scopes-in-None.ensures
    (c.place-closed.ensures ∙ block_ends a after (tree.Falls ss b.tokens b.line) c.args.closing c.args.outer c.args.level code))

pub block-returns-in_ok-end_scopes-in-Some-clause-variables : goal.block-returns-in_ok-end_scopes-in-Some-clause-variables
block-returns-in_ok-end_scopes-in-Some-clause-variables t c =
    let b = out-Block c.args.block.now in
    let a = c.args.self.now in
    let ss = tree.stats (map plain_stat b.stats.items) in
    let es = tree.exps (plain_exps c.in-Some.values.items) in
    let is = with_result c.args.block.now c.in-Some.values c.in-Some.is in
    let after : Writer = record c.statements-in-Some.new.self { emitter = c.write_return.new.emitter; variables = c.end_scopes-in-Some.new.self } in
    let first : c.count-first.result ≡ length a.variables = search rules in
    let code : WroteBlock a after (tree.Returns ss es b.tokens b.line) c.args.closing c.args.outer c.args.level =
    subst (λ p. WroteBlock a after p c.args.closing c.args.outer c.args.level) is (block-returns-in_ok-end_scopes-in-Some-clause-code t c) in
    subst (λ p. DeclaresBlock a after p c.args.closing c.args.outer c.args.level) (sym is)
    (scopes_end a c.statements-in-Some.new.self after ss c.args.closing c.args.level c.count-first.result c.place-returned.result _ first c.in_ok-end-in-Some.ensures.variables c.in_ok-end_scopes-in-Some.ensures
    (c.place-returned.ensures ∙ block_ends a after (tree.Returns ss es b.tokens b.line) c.args.closing c.args.outer c.args.level code))

pub open_block-returns-in-None-clause-variables : goal.open_block-returns-in-None-clause-variables
open_block-returns-in-None-clause-variables t c = subst (λ p. DeclaresOpen c.args.self.now c.statements.new.self p c.args.closing c.args.level) (sym (without_result c.args.block.now c.in-None.is)) c.in_ok-end.ensures.variables

pub open_block-returns-in_ok-write_return-in-Some-clause-variables : goal.open_block-returns-in_ok-write_return-in-Some-clause-variables
open_block-returns-in_ok-write_return-in-Some-clause-variables t c =
    subst (λ p. DeclaresOpen c.args.self.now (record c.statements.new.self { emitter = c.write_return.new.emitter }) p c.args.closing c.args.level) (sym (with_result c.args.block.now c.in-Some.values c.in-Some.is)) c.in_ok-end.ensures.variables

-- those of an `if`

pub otherwise-returns-in-None-clause-variables : goal.otherwise-returns-in-None-clause-variables
otherwise-returns-in-None-clause-variables t c =
    subst (λ o. DeclaresStat c.args.self.now c.args.self.now (choice c.args.line tree.EndArms (option_map (λ b. plain_block b.value) o)) c.args.closing c.args.level) (sym c.in-None.is) (nothing_declared c.args.self.now c.args.self.now refl)

pub arms-returns-then-end-place-clause-variables : goal.arms-returns-then-end-place-clause-variables
arms-returns-then-end-place-clause-variables t c =
    let arm = c.index-arm.result.now in
    let others = tree.arms (map plain_arm (drop (c.args.at + 1) c.args.list.now.items)) in
    let o = option_map (λ b. plain_block b.value) c.args.otherwise.now in
    let after : Writer = record c.arms.new.self { emitter = c.lead.new.self } in
    let inside : c.args.at < length c.args.list.now.items = search rules in
    let is : arm ≡ slice_index_or c.args.list.now.items c.args.at arm = search rules in
    subst (λ l. DeclaresStat c.args.self.now after (choice c.args.line l o) c.args.closing c.args.level) (sym (arms_front c.args.list.now.items c.args.at arm inside is))
    (arm_declares c.args.self.now (record c.args.self.now { emitter = c.condition.new.emitter }) c.block.new.self (record c.block.new.self { emitter = c.put_open_jump.new.self }) c.arms.new.self after
    (plain_exp (out-Arm arm).test) (plain_block (out-Arm arm).block) others o c.args.closing c.args.level c.args.line c.in_ok-away.away.items
    c.in_ok-away.ensures refl refl c.in_ok-block.ensures.code c.in_ok-block.ensures.variables c.in_ok-past.ensures.jump refl refl c.in_ok-arms.ensures.variables refl)

pub arms-returns-clause-variables : goal.arms-returns-clause-variables
arms-returns-clause-variables t c =
    let arm = c.index-arm.result.now in
    let others = tree.arms (map plain_arm (drop (c.args.at + 1) c.args.list.now.items)) in
    let o = option_map (λ b. plain_block b.value) c.args.otherwise.now in
    let after : Writer = record c.arms.new.self { emitter = c.lead-2.new.self; jumps = c.truncate.new.self } in
    let inside : c.args.at < length c.args.list.now.items = search rules in
    let is : arm ≡ slice_index_or c.args.list.now.items c.args.at arm = search rules in
    subst (λ l. DeclaresStat c.args.self.now after (choice c.args.line l o) c.args.closing c.args.level) (sym (arms_front c.args.list.now.items c.args.at arm inside is))
    (arm_declares c.args.self.now (record c.args.self.now { emitter = c.condition.new.emitter }) c.block.new.self (record c.block.new.self { emitter = c.put_open_jump.new.self }) c.arms.new.self after
    (plain_exp (out-Arm arm).test) (plain_block (out-Arm arm).block) others o c.args.closing c.args.level c.args.line c.in_ok-away.away.items
    c.in_ok-away.ensures refl refl c.in_ok-block.ensures.code c.in_ok-block.ensures.variables c.in_ok-past.ensures.jump refl refl c.in_ok-arms.ensures.variables refl)

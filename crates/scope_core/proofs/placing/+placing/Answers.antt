use Rattle.std.proofs.Common.{arith, ap, sym, ◌∙◌, ap₂}
use Rattle.tree_core.specs.Tree as tree
use Rattle.tree_core.specs.Plain.{plain_exps}
use Rattle.tree_core.proofs.Rows.{with_result, without_result}
use Rattle.scope_core.specs.Walked.{after_exps, after_open, settled_exps, settled_block}
use Rattle.scope_core.proofs.Going.{goes_on, gone_through}
use Rattle.scope_core.proofs.TreeRows.{rolled_rows, rows_of, exps_walk, fields_walk, stats_walk, arms_walk}
use Rattle.tree_core.specs.declared.tree.Block.{out-Block}
use Rattle.scope_core.proofs.placing.+placing.Goals as goal

pub place_arms-loop-arm-preserved : goal.place_arms-loop-arm-preserved
place_arms-loop-arm-preserved t c = goes_on c.arm-item.result _ c.loop-arm.invariant (omega (arith, c.loop-arm-test.true, c.loop-arm.auto.arm-items)) c.in_ok-place_arm.ensures.after c.in_ok-place_arm.ensures.settled

pub place_arms-returns : goal.place_arms-returns
place_arms-returns t c =
    let all = gone_through arms_walk c.args.list.now c.loop-arm.invariant.1 (omega (arith, c.loop-arm-test.false, c.loop-arm.auto.arm-items)) c.loop-arm.auto.arm-items c.deref_mut-arm-items.ensures.value in record { after = all.0; settled = all.1 }

pub place_block-returns-in_ok-place_exps-in-Some-clause-after : goal.place_block-returns-in_ok-place_exps-in-Some-clause-after
place_block-returns-in_ok-place_exps-in-Some-clause-after t c =
    c.in_ok-place_exps-in-Some.ensures.after
    ∙ ap (λ fs. after_exps fs (tree.exps (plain_exps c.in-Some.values.items))) c.in_ok-place_stats.ensures.after
    ∙ sym (ap (after_open c.args.nesting.now) (with_result c.args.block.now c.in-Some.values c.in-Some.is))

pub place_block-returns-in_ok-place_exps-in-Some-clause-settled : goal.place_block-returns-in_ok-place_exps-in-Some-clause-settled
place_block-returns-in_ok-place_exps-in-Some-clause-settled t c =
    let b = out-Block c.args.block.now in
    rolled_rows _ _ _ _
    ∙ ap₂ (λ ss vs. tree.Returns ss vs b.tokens b.line) c.in_ok-place_stats.ensures.settled
    (c.in_ok-place_exps-in-Some.ensures.settled ∙ ap (λ fs. settled_exps fs (tree.exps (plain_exps c.in-Some.values.items))) c.in_ok-place_stats.ensures.after)
    ∙ sym (ap (settled_block c.args.nesting.now) (with_result c.args.block.now c.in-Some.values c.in-Some.is))

pub place_block-returns-in-None-clause-after : goal.place_block-returns-in-None-clause-after
place_block-returns-in-None-clause-after t c =
    c.in_ok-place_stats.ensures.after ∙ sym (ap (after_open c.args.nesting.now) (without_result c.args.block.now c.in-None.is))

pub place_block-returns-in-None-clause-settled : goal.place_block-returns-in-None-clause-settled
place_block-returns-in-None-clause-settled t c =
    let b = out-Block c.args.block.now in
    rolled_rows _ _ _ _
    ∙ ap (λ r. rows_of c.place_stats.new.list r b.tokens b.line) c.in-None.is
    ∙ ap (λ ss. tree.Falls ss b.tokens b.line) c.in_ok-place_stats.ensures.settled
    ∙ sym (ap (settled_block c.args.nesting.now) (without_result c.args.block.now c.in-None.is))

pub place_exps-loop-exp-preserved : goal.place_exps-loop-exp-preserved
place_exps-loop-exp-preserved t c = goes_on c.exp-item.result _ c.loop-exp.invariant (omega (arith, c.loop-exp-test.true, c.loop-exp.auto.exp-items)) c.in_ok-place_exp.ensures.after c.in_ok-place_exp.ensures.settled

pub place_exps-returns : goal.place_exps-returns
place_exps-returns t c =
    let all = gone_through exps_walk c.args.list.now c.loop-exp.invariant.1 (omega (arith, c.loop-exp-test.false, c.loop-exp.auto.exp-items)) c.loop-exp.auto.exp-items c.deref_mut-exp-items.ensures.value in record { after = all.0; settled = all.1 }

pub place_fields-loop-field-preserved : goal.place_fields-loop-field-preserved
place_fields-loop-field-preserved t c = goes_on c.field-item.result _ c.loop-field.invariant (omega (arith, c.loop-field-test.true, c.loop-field.auto.field-items)) c.in_ok-place_field.ensures.after c.in_ok-place_field.ensures.settled

pub place_fields-returns : goal.place_fields-returns
place_fields-returns t c =
    let all = gone_through fields_walk c.args.list.now c.loop-field.invariant.1 (omega (arith, c.loop-field-test.false, c.loop-field.auto.field-items)) c.loop-field.auto.field-items c.deref_mut-field-items.ensures.value in record { after = all.0; settled = all.1 }

pub place_stats-loop-stat-preserved : goal.place_stats-loop-stat-preserved
place_stats-loop-stat-preserved t c = goes_on c.stat-item.result _ c.loop-stat.invariant (omega (arith, c.loop-stat-test.true, c.loop-stat.auto.stat-items)) c.in_ok-place_stat.ensures.after c.in_ok-place_stat.ensures.settled

pub place_stats-returns : goal.place_stats-returns
place_stats-returns t c =
    let all = gone_through stats_walk c.args.list.now c.loop-stat.invariant.1 (omega (arith, c.loop-stat-test.false, c.loop-stat.auto.stat-items)) c.loop-stat.auto.stat-items c.deref_mut-stat-items.ensures.value in record { after = all.0; settled = all.1 }

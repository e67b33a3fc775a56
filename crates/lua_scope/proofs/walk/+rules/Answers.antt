use Rattle.std.proofs.Common.{arith, rules, ◌≡◌, ◌+◌, ◌-◌, ◌<◌, ◌≤◌, subst, List, [], ◌∷◌, ◌++◌, false, ap, ap₂, sym, ◌∙◌, refl, map, min, length, take, reverse}
use Rattle.std.specs.Prelude.{Option, nat_lt, slice_index_or}
use Rattle.tree_core.specs.declared.tree.Exp.{Exp}
use Rattle.tree_core.specs.declared.tree.Field.{Field}
use Rattle.tree_core.specs.declared.tree.Arm.{Arm}
use Rattle.tree_core.specs.declared.tree.Block.{out-Block}
use Rattle.tree_core.specs.declared.tree.Body.{out-Body}
use Rattle.tree_core.specs.Tree as tree
use Rattle.tree_core.specs.Plain.{plain_arm, plain_block, plain_exp, plain_exp_node, plain_exps, plain_field, plain_stat, plain_stat_node}
use Rattle.tree_core.proofs.Rows.{plain-call, plain-method, plain-local, plain-assign, plain-gen_for, plain-body, with_result, without_result}
use Rattle.scope_core.specs.declared.violation.Violation.{Violation}
use Rattle.scope_core.specs.Scopes.{Frame, behind, behind_stats, declare_all, declared_by, plain_variable, numeric_hidden, generic_hidden}
use Rattle.scope_core.specs.Rules.{breach}
use Rattle.scope_core.specs.Held.{held, held_behind}
use Rattle.scope_core.specs.Walked.{kept}
use Rattle.lua_scope.specs.Met.{met_arm, met_arms, met_block, met_body, met_declarations, met_exp, met_exps, met_field, met_fields, met_for, met_stat, met_stats, meet_all}
use Rattle.lua_scope.specs.declared.labels.BlockPlace.{BlockPlace}
use Rattle.lua_scope.specs.Blocks.{scope_at, moved}
use Rattle.lua_scope.proofs.Looping.{on, at_end, mapped, within, gone}
use Rattle.lua_scope.proofs.Placing.{around_here, gone_out, next_behind, next_met}
use Rattle.lua_scope.proofs.Endings.{ended_behind}
use Rattle.lua_scope.proofs.Walking.{returned_met, called_met, body_left, body_met, repeated_met, for_ended, for_met}
use Rattle.lua_scope.proofs.walk.+rules.Goals as goal

pub meet_exps-loop-exp-preserved : goal.meet_exps-loop-exp-preserved
meet_exps-loop-exp-preserved t c = (
  c.in_ok-meet_exp.ensures.nesting ∙ c.loop-exp.invariant.0,
  on (λ (s : List Frame × Option Violation) (xs : List Exp). met_exps s.0 c.args.is_vararg s.1 (tree.exps (plain_exps xs))) (λ s x xs. (s.0, met_exp s.0 c.args.is_vararg s.1 (plain_exp x))) (λ s x xs. refl)
      (c.loop-exp.nesting, c.loop-exp.least.violation) (c.meet_exp.new.nesting, c.meet_exp.new.least.violation) c.deref-exp-items.result.now c.loop-exp.exp-index c.exp-item.result _
      (omega (arith, c.loop-exp-test.true, c.loop-exp.auto.exp-index-end)) c.exp-item.is (ap₂ (λ a b. (a, b)) c.in_ok-meet_exp.ensures.nesting c.in_ok-meet_exp.ensures.met) c.loop-exp.invariant.1,
)

pub meet_exps-returns-clause-met : goal.meet_exps-returns-clause-met
meet_exps-returns-clause-met t c =
    at_end (λ (o : Option Violation) (xs : List Exp). met_exps c.loop-exp.nesting c.args.is_vararg o (tree.exps (plain_exps xs))) c.loop-exp.least.violation c.deref-exp-items.result.now c.loop-exp.exp-index _
    (omega (arith, c.loop-exp-test.false, c.loop-exp.auto.exp-index-end)) c.loop-exp.invariant.1

pub meet_fields-loop-field-preserved : goal.meet_fields-loop-field-preserved
meet_fields-loop-field-preserved t c = (
  c.in_ok-meet_field.ensures.nesting ∙ c.loop-field.invariant.0,
  on (λ (s : List Frame × Option Violation) (xs : List Field). met_fields s.0 c.args.is_vararg s.1 (tree.fields (map plain_field xs))) (λ s x xs. (s.0, met_field s.0 c.args.is_vararg s.1 (plain_field x))) (λ s x xs. refl)
      (c.loop-field.nesting, c.loop-field.least.violation) (c.meet_field.new.nesting, c.meet_field.new.least.violation) c.deref-field-items.result.now c.loop-field.field-index c.field-item.result _
      (omega (arith, c.loop-field-test.true, c.loop-field.auto.field-index-end)) c.field-item.is (ap₂ (λ a b. (a, b)) c.in_ok-meet_field.ensures.nesting c.in_ok-meet_field.ensures.met) c.loop-field.invariant.1,
)

pub meet_fields-returns-clause-met : goal.meet_fields-returns-clause-met
meet_fields-returns-clause-met t c =
    at_end (λ (o : Option Violation) (xs : List Field). met_fields c.loop-field.nesting c.args.is_vararg o (tree.fields (map plain_field xs))) c.loop-field.least.violation c.deref-field-items.result.now c.loop-field.field-index _
    (omega (arith, c.loop-field-test.false, c.loop-field.auto.field-index-end)) c.loop-field.invariant.1

pub meet_arms-loop-arm-preserved : goal.meet_arms-loop-arm-preserved
meet_arms-loop-arm-preserved t c =
    let same : c.meet_arm.new.least.violation ≡ met_arm (scope_at c.loop-arm.nesting c.args.blocks.now.items c.args.flags) c.loop-arm.least.violation (plain_arm c.arm-item.result) =
    c.in_ok-meet_arm.ensures.met ∙ ap (λ bs. met_arm (scope_at c.loop-arm.nesting bs c.args.flags) c.loop-arm.least.violation (plain_arm c.arm-item.result)) c.loop-arm.invariant.1 in (
      c.in_ok-meet_arm.ensures.nesting ∙ c.loop-arm.invariant.0,
      c.in_ok-meet_arm.ensures.blocks ∙ c.loop-arm.invariant.1,
      on (λ (s : List Frame × Option Violation) (xs : List Arm). met_arms (scope_at s.0 c.args.blocks.now.items c.args.flags) s.1 (tree.arms (map plain_arm xs))) (λ s x xs. (s.0, met_arm (scope_at s.0 c.args.blocks.now.items c.args.flags) s.1 (plain_arm x))) (λ s x xs. refl)
          (c.loop-arm.nesting, c.loop-arm.least.violation) (c.meet_arm.new.nesting, c.meet_arm.new.least.violation) c.deref-arm-items.result.now c.loop-arm.arm-index c.arm-item.result _
          (omega (arith, c.loop-arm-test.true, c.loop-arm.auto.arm-index-end)) c.arm-item.is (ap₂ (λ a b. (a, b)) c.in_ok-meet_arm.ensures.nesting same) c.loop-arm.invariant.2,
    )

pub meet_arms-returns-clause-met : goal.meet_arms-returns-clause-met
meet_arms-returns-clause-met t c =
    at_end (λ (o : Option Violation) (xs : List Arm). met_arms (scope_at c.loop-arm.nesting c.args.blocks.now.items c.args.flags) o (tree.arms (map plain_arm xs))) c.loop-arm.least.violation c.deref-arm-items.result.now c.loop-arm.arm-index _
    (omega (arith, c.loop-arm-test.false, c.loop-arm.auto.arm-index-end)) c.loop-arm.invariant.2

pub meet_stats-loop-stat-init : goal.meet_stats-loop-stat-init
meet_stats-loop-stat-init t c =
    let standing : c.push.new.self.items ≡ c.args.blocks.now.items ++ c.in_ok-block.block ∷ [] = search rules in
    let same : c.deref-stat-items.result.now ≡ c.args.list.now.items = search rules in
    (record { block = c.in_ok-block.block; is_last = standing; same_stats = c.in_ok-block.ensures.stats; same_end = c.in_ok-block.ensures.ends }, refl, same, refl, refl)

pub meet_stats-loop-stat-preserved : goal.meet_stats-loop-stat-preserved
meet_stats-loop-stat-preserved t c =
    let items = c.args.list.now.items in
    let i = c.loop-stat.stat-index in
    let before = c.loop-stat.before in
    let inside = c.loop-stat.invariant.0 in
    let here : BlockPlace = moved inside.block before (before + 1) in
    let standing : c.move_to.new.blocks.items ≡ c.args.blocks.now.items ++ here ∷ [] = c.move_to.ensures c.args.blocks.now.items inside.block inside.is_last in
    let all : c.deref-stat-items.result.now ≡ items = c.loop-stat.invariant.2 in
    let h : i < length items = subst (λ xs. i < length xs) all (omega (arith, c.loop-stat-test.true)) in
    let is = mapped plain_stat items i c.stat-item.result h (subst (λ xs. c.stat-item.result ≡ slice_index_or xs i c.stat-item.result) all c.stat-item.is) in
    let h' = within plain_stat items i h in (
      record { block = here; is_last = c.in_ok-meet_placed.ensures.blocks ∙ standing; same_stats = inside.same_stats; same_end = inside.same_end },
      ap (λ n. n + 1) c.loop-stat.invariant.1,
      all,
      next_behind c.loop-stat.nesting c.meet_placed.new.nesting _ (map plain_stat items) i (plain_stat c.stat-item.result) h' is c.in_ok-meet_placed.ensures.nesting c.loop-stat.invariant.3,
      next_met c.loop-stat.nesting c.meet_placed.new.nesting c.move_to.new.blocks.items c.args.blocks.now.items c.args.flags here c.args.ends_scope
          (map plain_stat items) i (plain_stat c.stat-item.result) c.loop-stat.least.violation c.meet_placed.new.least.violation _ h' is standing
          (around_here inside.block items c.args.ends_scope before i inside.same_stats inside.same_end c.loop-stat.invariant.1)
          c.in_ok-meet_placed.ensures.nesting c.in_ok-meet_placed.ensures.met c.loop-stat.invariant.4,
    )

pub meet_stats-returns-clause-blocks : goal.meet_stats-returns-clause-blocks
meet_stats-returns-clause-blocks t c =
    let inside = c.loop-stat.invariant.0 in
    let out : c.pop.new.self.items ≡ take (length c.loop-stat.blocks.items - 1) c.loop-stat.blocks.items = search rules in
    out ∙ gone_out c.loop-stat.blocks.items c.args.blocks.now.items inside.block inside.is_last

pub meet_stats-returns-clause-nesting : goal.meet_stats-returns-clause-nesting
meet_stats-returns-clause-nesting t c =
    at_end (λ (fs : List Frame) (ss : List tree.Stat). behind_stats fs (tree.stats ss)) c.loop-stat.nesting (map plain_stat c.args.list.now.items) c.loop-stat.stat-index _
    (gone plain_stat c.args.list.now.items c.loop-stat.stat-index (subst (λ xs. length xs ≤ c.loop-stat.stat-index) c.loop-stat.invariant.2 (omega (arith, c.loop-stat-test.false)))) c.loop-stat.invariant.3

pub meet_stats-returns-clause-met : goal.meet_stats-returns-clause-met
meet_stats-returns-clause-met t c =
    at_end (λ (o : Option Violation) (ss : List tree.Stat). met_stats (scope_at c.loop-stat.nesting c.args.blocks.now.items c.args.flags) (reverse (take c.loop-stat.stat-index (map plain_stat c.args.list.now.items))) c.args.ends_scope o (tree.stats ss))
    c.loop-stat.least.violation (map plain_stat c.args.list.now.items) c.loop-stat.stat-index _
    (gone plain_stat c.args.list.now.items c.loop-stat.stat-index (subst (λ xs. length xs ≤ c.loop-stat.stat-index) c.loop-stat.invariant.2 (omega (arith, c.loop-stat-test.false)))) c.loop-stat.invariant.4

pub meet_block-returns-in_ok-meet_exps-in-Some-clause-nesting : goal.meet_block-returns-in_ok-meet_exps-in-Some-clause-nesting
meet_block-returns-in_ok-meet_exps-in-Some-clause-nesting t c =
    c.in_ok-meet_exps-in-Some.ensures.nesting
    ∙ c.in_ok-meet_stats-in-Some.ensures.nesting
    ∙ sym (ap (behind c.args.nesting.now) (with_result c.args.block.now c.in-Some.values c.in-Some.is))

pub meet_block-returns-in_ok-meet_exps-in-Some-clause-met : goal.meet_block-returns-in_ok-meet_exps-in-Some-clause-met
meet_block-returns-in_ok-meet_exps-in-Some-clause-met t c =
    let b = out-Block c.args.block.now in
    let scope = scope_at c.args.nesting.now c.args.blocks.now.items c.args.flags in
    returned_met scope c.args.ends_scope (tree.stats (map plain_stat b.stats.items)) (tree.exps (plain_exps c.in-Some.values.items)) b.tokens b.line
    c.args.least.now.violation c.meet_stats.new.least.violation c.check_held.new.least.violation c.meet_exps.new.least.violation c.meet_stats.new.nesting c.held_by_list.result
    c.in_ok-meet_stats-in-Some.ensures.nesting c.in_ok-meet_stats-in-Some.ensures.met
    (c.held_by_list.ensures ∙ ap (λ xs. min (held_behind 0 (tree.exps (plain_exps xs))) 1000) c.deref.ensures.value)
    c.check_held.ensures c.in_ok-meet_exps-in-Some.ensures.met
    ∙ sym (ap (met_block scope c.args.ends_scope c.args.least.now.violation) (with_result c.args.block.now c.in-Some.values c.in-Some.is))

pub meet_block-returns-in_ok-meet_stats-in-None-clause-nesting : goal.meet_block-returns-in_ok-meet_stats-in-None-clause-nesting
meet_block-returns-in_ok-meet_stats-in-None-clause-nesting t c =
    c.in_ok-meet_stats-in-None.ensures.nesting ∙ sym (ap (behind c.args.nesting.now) (without_result c.args.block.now c.in-None.is))

pub meet_block-returns-in_ok-meet_stats-in-None-clause-met : goal.meet_block-returns-in_ok-meet_stats-in-None-clause-met
meet_block-returns-in_ok-meet_stats-in-None-clause-met t c =
    c.in_ok-meet_stats-in-None.ensures.met
    ∙ sym (ap (met_block (scope_at c.args.nesting.now c.args.blocks.now.items c.args.flags) c.args.ends_scope c.args.least.now.violation) (without_result c.args.block.now c.in-None.is))

pub meet_body-returns-clause-nesting : goal.meet_body-returns-clause-nesting
meet_body-returns-clause-nesting t c =
    let b = out-Body c.args.body.now in
    body_left c.args.nesting.now c.enter.new.self c.declare_names.new.nesting c.meet_block.new.nesting c.leave.new.self (map plain_variable b.params.items) (plain_block b.block)
    c.in_ok-enter.ensures c.in_ok-declare_names.ensures.nesting c.in_ok-meet_block.ensures.nesting c.leave.ensures.left

pub meet_body-returns-clause-met : goal.meet_body-returns-clause-met
meet_body-returns-clause-met t c =
    let b = out-Body c.args.body.now in
    let size : c.len.result ≡ length b.upvalues.items = search rules in
    body_met c.args.nesting.now c.enter.new.self c.declare_names.new.nesting c.new-blocks.result.items (record { in_loop = false; is_vararg = b.vararg }) b.params.items b.vararg b.upvalues.items b.line (plain_block b.block)
    c.args.least.now.violation c.meet_where.new.least.violation c.declare_names.new.least.violation c.meet_block.new.least.violation
    (c.meet_where.ensures ∙ ap (λ n. meet_all c.args.least.now.violation (breach (nat_lt 255 n) b.line 10)) size)
    c.in_ok-enter.ensures c.in_ok-declare_names.ensures.nesting c.in_ok-declare_names.ensures.met c.new-blocks.ensures.items refl c.in_ok-meet_block.ensures.met
    ∙ sym (ap (met_body c.args.nesting.now c.args.least.now.violation) (plain-body c.args.body.now))

pub meet_placed-returns-clause-met : goal.meet_placed-returns-clause-met
meet_placed-returns-clause-met t c =
    c.in_ok-meet_stat.ensures.met
    ∙ ap (λ o. met_stat (scope_at c.args.nesting.now c.args.blocks.now.items c.args.flags) o (plain_stat c.args.stat.now)) c.check_stat.ensures

pub meet_counted-returns-clause-nesting : goal.meet_counted-returns-clause-nesting
meet_counted-returns-clause-nesting t c =
    for_ended c.args.nesting.now c.hide_numeric.new.self c.declare_name.new.nesting c.meet_block.new.nesting c.keep.new.self numeric_hidden (plain_variable c.args.name.now ∷ []) (plain_block c.args.block.now) c.count-count.result
    c.count-count.ensures c.in_ok-hide_numeric.ensures c.in_ok-declare_name.ensures.nesting c.in_ok-meet_block.ensures.nesting c.keep.ensures

pub meet_counted-returns-clause-met : goal.meet_counted-returns-clause-met
meet_counted-returns-clause-met t c =
    for_met c.args.nesting.now c.hide_numeric.new.self c.declare_name.new.nesting c.args.blocks.now.items c.args.flags c.in_loop.result numeric_hidden c.args.line (c.args.name.now ∷ []) (plain_block c.args.block.now)
    c.args.least.now.violation c.check_declared.new.least.violation c.declare_name.new.least.violation c.meet_block.new.least.violation
    c.in_ok-hide_numeric.ensures c.check_declared.ensures c.in_ok-declare_name.ensures.nesting c.in_ok-declare_name.ensures.met c.in_loop.ensures c.in_ok-meet_block.ensures.met

pub meet_iterated-returns-clause-nesting : goal.meet_iterated-returns-clause-nesting
meet_iterated-returns-clause-nesting t c =
    for_ended c.args.nesting.now c.hide_generic.new.self c.declare_names.new.nesting c.meet_block.new.nesting c.keep.new.self generic_hidden (map plain_variable c.args.names.now.items) (plain_block c.args.block.now) c.count-count.result
    c.count-count.ensures c.in_ok-hide_generic.ensures c.in_ok-declare_names.ensures.nesting c.in_ok-meet_block.ensures.nesting c.keep.ensures

pub meet_iterated-returns-clause-met : goal.meet_iterated-returns-clause-met
meet_iterated-returns-clause-met t c =
    for_met c.args.nesting.now c.hide_generic.new.self c.declare_names.new.nesting c.args.blocks.now.items c.args.flags c.in_loop.result generic_hidden c.args.line c.args.names.now.items (plain_block c.args.block.now)
    c.args.least.now.violation c.check_declared.new.least.violation c.declare_names.new.least.violation c.meet_block.new.least.violation
    c.in_ok-hide_generic.ensures c.check_declared.ensures c.in_ok-declare_names.ensures.nesting c.in_ok-declare_names.ensures.met c.in_loop.ensures c.in_ok-meet_block.ensures.met

pub meet_exp-returns-in_ok-meet_exps-in-Call-clause-met : goal.meet_exp-returns-in_ok-meet_exps-in-Call-clause-met
meet_exp-returns-in_ok-meet_exps-in-Call-clause-met t c =
    called_met c.args.nesting.now c.meet_exp-in-Call.new.nesting c.args.is_vararg (plain_exp c.in-Call.called.value) _ (tree.exps (plain_exps c.in-Call.arguments.items)) c.args.least.now.violation c.meet_exp-in-Call.new.least.violation _
    (ap plain_exp c.deref-in-Call.ensures) c.in_ok-meet_exp-in-Call.ensures.nesting c.in_ok-meet_exp-in-Call.ensures.met c.in_ok-meet_exps-in-Call.ensures.met
    ∙ sym (ap (met_exp c.args.nesting.now c.args.is_vararg c.args.least.now.violation) (ap (λ node. plain_exp_node node c.args.exp.now.line) c.in-Call.is ∙ plain-call c.args.exp.now.line c.in-Call.called c.in-Call.arguments))

pub meet_exp-returns-in_ok-meet_exps-in-Method-clause-met : goal.meet_exp-returns-in_ok-meet_exps-in-Method-clause-met
meet_exp-returns-in_ok-meet_exps-in-Method-clause-met t c =
    called_met c.args.nesting.now c.meet_exp-in-Method.new.nesting c.args.is_vararg (plain_exp c.in-Method.object.value) _ (tree.exps (plain_exps c.in-Method.arguments.items)) c.args.least.now.violation c.meet_exp-in-Method.new.least.violation _
    (ap plain_exp c.deref-in-Method.ensures) c.in_ok-meet_exp-in-Method.ensures.nesting c.in_ok-meet_exp-in-Method.ensures.met c.in_ok-meet_exps-in-Method.ensures.met
    ∙ sym (ap (met_exp c.args.nesting.now c.args.is_vararg c.args.least.now.violation) (ap (λ node. plain_exp_node node c.args.exp.now.line) c.in-Method.is ∙ plain-method c.args.exp.now.line c.in-Method.object c.in-Method._name c.in-Method.arguments))

pub meet_stat-returns-in_ok-declare_locals-in-Local-clause-met : goal.meet_stat-returns-in_ok-declare_locals-in-Local-clause-met
meet_stat-returns-in_ok-declare_locals-in-Local-clause-met t c =
    c.in_ok-declare_locals-in-Local.ensures.met
    ∙ ap₂ (λ fs o. met_declarations fs o c.in-Local.names.items) c.in_ok-meet_exps-in-Local.ensures.nesting c.in_ok-meet_exps-in-Local.ensures.met
    ∙ sym (ap (met_stat (scope_at c.args.nesting.now c.args.blocks.now.items c.args.flags) c.args.least.now.violation)
    (ap (λ node. plain_stat_node node c.args.stat.now.line) c.in-Local.is ∙ plain-local c.args.stat.now.line c.in-Local.names c.in-Local.values))

pub meet_stat-returns-in_ok-meet_exps-in-Assign-2-clause-met : goal.meet_stat-returns-in_ok-meet_exps-in-Assign-2-clause-met
meet_stat-returns-in_ok-meet_exps-in-Assign-2-clause-met t c =
    c.in_ok-meet_exps-in-Assign-2.ensures.met
    ∙ ap₂ (λ fs o. met_exps fs c.args.flags.is_vararg o (tree.exps (plain_exps c.in-Assign.values.items))) c.in_ok-meet_exps-in-Assign.ensures.nesting c.in_ok-meet_exps-in-Assign.ensures.met
    ∙ sym (ap (met_stat (scope_at c.args.nesting.now c.args.blocks.now.items c.args.flags) c.args.least.now.violation)
    (ap (λ node. plain_stat_node node c.args.stat.now.line) c.in-Assign.is ∙ plain-assign c.args.stat.now.line c.in-Assign.targets c.in-Assign.values))

pub meet_stat-returns-in_ok-meet_iterated-in-GenFor-clause-met : goal.meet_stat-returns-in_ok-meet_iterated-in-GenFor-clause-met
meet_stat-returns-in_ok-meet_iterated-in-GenFor-clause-met t c =
    let scope = scope_at c.args.nesting.now c.args.blocks.now.items c.args.flags in
    c.in_ok-meet_iterated-in-GenFor.ensures.met
    ∙ ap₂ (λ fs o. met_for (scope_at fs c.args.blocks.now.items c.args.flags) generic_hidden c.args.stat.now.line c.in-GenFor.names.items o (plain_block c.deref-in-GenFor.result.now)) c.in_ok-meet_exps-in-GenFor.ensures.nesting c.in_ok-meet_exps-in-GenFor.ensures.met
    ∙ ap (λ b. met_for scope generic_hidden c.args.stat.now.line c.in-GenFor.names.items (met_exps c.args.nesting.now c.args.flags.is_vararg c.args.least.now.violation (tree.exps (plain_exps c.in-GenFor.values.items))) (plain_block b)) c.deref-in-GenFor.ensures
    ∙ sym (ap (met_stat scope c.args.least.now.violation)
    (ap (λ node. plain_stat_node node c.args.stat.now.line) c.in-GenFor.is ∙ plain-gen_for c.args.stat.now.line c.in-GenFor.names c.in-GenFor.values c.in-GenFor.block))

pub meet_stat-returns-in_ok-meet_exp-in-Repeat-clause-nesting : goal.meet_stat-returns-in_ok-meet_exp-in-Repeat-clause-nesting
meet_stat-returns-in_ok-meet_exp-in-Repeat-clause-nesting t c =
    c.keep.ensures
    ∙ ap₂ kept c.count-count.ensures (c.in_ok-meet_exp-in-Repeat.ensures.nesting ∙ c.in_ok-meet_block-in-Repeat.ensures.nesting)
    ∙ ended_behind c.args.nesting.now (plain_block c.deref-in-Repeat.result.now)
    ∙ sym (ap (λ node. declare_all c.args.nesting.now (declared_by (plain_stat_node node c.args.stat.now.line))) c.in-Repeat.is)

pub meet_stat-returns-in_ok-meet_exp-in-Repeat-clause-met : goal.meet_stat-returns-in_ok-meet_exp-in-Repeat-clause-met
meet_stat-returns-in_ok-meet_exp-in-Repeat-clause-met t c =
    let scope = scope_at c.args.nesting.now c.args.blocks.now.items c.args.flags in
    repeated_met c.args.nesting.now c.meet_block.new.nesting c.args.blocks.now.items c.args.flags c.in_loop-in-Repeat.result c.args.stat.now.line (plain_block c.in-Repeat.block.value) (plain_exp c.in-Repeat.test.value)
    c.args.least.now.violation c.meet_block.new.least.violation c.check_held.new.least.violation c.meet_exp-in-Repeat.new.least.violation c.held_by.result
    c.in_loop-in-Repeat.ensures
    (c.in_ok-meet_block-in-Repeat.ensures.nesting ∙ ap (λ b. behind c.args.nesting.now (plain_block b)) c.deref-in-Repeat.ensures)
    (c.in_ok-meet_block-in-Repeat.ensures.met ∙ ap (λ b. met_block (scope_at c.args.nesting.now c.args.blocks.now.items c.in_loop-in-Repeat.result) false c.args.least.now.violation (plain_block b)) c.deref-in-Repeat.ensures)
    (c.held_by.ensures ∙ ap (λ e. min (held (plain_exp e)) 1000) c.deref-in-Repeat-2.ensures)
    c.check_held.ensures
    (c.in_ok-meet_exp-in-Repeat.ensures.met ∙ ap (λ e. met_exp c.meet_block.new.nesting c.args.flags.is_vararg c.check_held.new.least.violation (plain_exp e)) c.deref-in-Repeat-3.ensures)
    ∙ sym (ap (λ node. met_stat scope c.args.least.now.violation (plain_stat_node node c.args.stat.now.line)) c.in-Repeat.is)

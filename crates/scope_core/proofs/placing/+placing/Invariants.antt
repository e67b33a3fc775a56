-- What is left of a list is as before, and leads to where the whole list leads.
use Rattle.tree_core.specs.Plain.{plain_arm, plain_exp, plain_field, plain_stat}
use Rattle.scope_core.specs.Walked.{after_arm, settled_arm, after_exp, settled_exp, after_field, settled_field, after_stat, settled_stat}
use Rattle.scope_core.proofs.Going.{IsGoing}
use Rattle.scope_core.proofs.placing.+placing.Given as goal

abbrev pub invariant-place_arms-loop-arm : goal.invariant-place_arms-loop-arm
invariant-place_arms-loop-arm l = goal.unvisited-place_arms-loop-arm l × IsGoing plain_arm after_arm settled_arm l.nesting l.arm-items l.arm-index l.fn.nesting l.initial.arm-items

abbrev pub invariant-place_exps-loop-exp : goal.invariant-place_exps-loop-exp
invariant-place_exps-loop-exp l = goal.unvisited-place_exps-loop-exp l × IsGoing plain_exp after_exp settled_exp l.nesting l.exp-items l.exp-index l.fn.nesting l.initial.exp-items

abbrev pub invariant-place_fields-loop-field : goal.invariant-place_fields-loop-field
invariant-place_fields-loop-field l = goal.unvisited-place_fields-loop-field l × IsGoing plain_field after_field settled_field l.nesting l.field-items l.field-index l.fn.nesting l.initial.field-items

abbrev pub invariant-place_stats-loop-stat : goal.invariant-place_stats-loop-stat
invariant-place_stats-loop-stat l = goal.unvisited-place_stats-loop-stat l × IsGoing plain_stat after_stat settled_stat l.nesting l.stat-items l.stat-index l.fn.nesting l.initial.stat-items

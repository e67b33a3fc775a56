-- What is left of a list leads to what the whole list leads to.
use Rattle.std.proofs.Common.{◌≡◌, map, drop}
use Rattle.tree_core.specs.Tree.{exps, fields}
use Rattle.tree_core.specs.Plain.{plain_exps, plain_field}
use Rattle.code_of.specs.Constants.{of_exps, of_fields}
use Rattle.code_constants.proofs.constants.Constants.+collecting.Given as goal

abbrev pub invariant-add_exps-loop-exp : goal.invariant-add_exps-loop-exp
invariant-add_exps-loop-exp l = of_exps (exps (plain_exps (drop l.exp-index l.exp-items))) l.self ≡ of_exps (exps (plain_exps l.list.items)) l.fn.self

abbrev pub invariant-add_fields-loop-field : goal.invariant-add_fields-loop-field
invariant-add_fields-loop-field l = of_fields (fields (map plain_field (drop l.field-index l.field-items))) l.self ≡ of_fields (fields (map plain_field l.list.items)) l.fn.self

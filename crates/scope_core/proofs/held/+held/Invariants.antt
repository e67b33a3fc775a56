-- The greatest number so far and that of what is left give that of all.
use Rattle.std.proofs.Common.{◌≡◌, ◌≤◌, map, drop, min, max}
use Rattle.tree_core.specs.Tree.{exps, fields}
use Rattle.tree_core.specs.Plain.{plain_exps, plain_field}
use Rattle.scope_core.specs.Held.{held_behind, held_fields}
use Rattle.scope_core.proofs.held.+held.Given as goal

abbrev pub invariant-held_by_list-loop-exp : goal.invariant-held_by_list-loop-exp
invariant-held_by_list-loop-exp l =
    (l.next ≤ 1000)
    × (l.most ≤ 1000)
    × (min (max l.most (held_behind l.next (exps (plain_exps (drop l.exp-index l.list))))) 1000 ≡ min (held_behind l.fn.before (exps (plain_exps l.list))) 1000)

abbrev pub invariant-held_by_fields-loop-field : goal.invariant-held_by_fields-loop-field
invariant-held_by_fields-loop-field l =
    (l.items ≤ l.field-index)
    × (l.most ≤ 1000)
    × (min (max l.most (held_fields l.items (fields (map plain_field (drop l.field-index l.list))))) 1000 ≡ min (held_fields 0 (fields (map plain_field l.list))) 1000)

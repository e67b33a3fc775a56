-- The functions that are listed and those of what is left of a list are those of all.
use Rattle.std.proofs.Common.{◌≡◌, ◌++◌, map, drop}
use Rattle.tree_core.specs.Tree.{exps, fields}
use Rattle.tree_core.specs.Plain.{plain_exps, plain_field, plain_body}
use Rattle.code_parts.specs.Bodies.{exps_bodies, fields_bodies}
use Rattle.code_parts.proofs.bodies.+expressions.Given as goal

abbrev pub invariant-find_in_exps-loop-exp : goal.invariant-find_in_exps-loop-exp
invariant-find_in_exps-loop-exp l =
    map (λ b. plain_body b.now) l.found.items ++ exps_bodies (exps (plain_exps (drop l.exp-index l.exp-items)))
    ≡ map (λ b. plain_body b.now) l.fn.found.items ++ exps_bodies (exps (plain_exps l.list.items))

abbrev pub invariant-find_in_fields-loop-field : goal.invariant-find_in_fields-loop-field
invariant-find_in_fields-loop-field l =
    map (λ b. plain_body b.now) l.found.items ++ fields_bodies (fields (map plain_field (drop l.field-index l.field-items)))
    ≡ map (λ b. plain_body b.now) l.fn.found.items ++ fields_bodies (fields (map plain_field l.list.items))

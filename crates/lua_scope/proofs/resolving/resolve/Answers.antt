use Rattle.std.proofs.Common.{◌≡◌, [], None, Some, ap, sym, ◌∙◌}
use Rattle.tree_core.specs.Plain.{plain_block, plain_body}
use Rattle.lua_scope.specs.Met.{met_body}
use Rattle.lua_scope.proofs.Folding.{walked_least}
use Rattle.lua_scope.proofs.resolving.resolve.Goals as goal

pub returns-in-Ok-None-clause-resolved : goal.returns-in-Ok-None-clause-resolved
returns-in-Ok-None-clause-resolved c =
    let met : c.in-Ok-None.field-0 ≡ met_body [] None (plain_body c.in-Ok.main) = c.in-Ok-None.ensures in
    (walked_least (plain_block c.args.block) None (sym c.in-Ok-None.field-0-is ∙ met ∙ ap (met_body [] None) c.in-Ok.ensures), c.in-Ok.ensures)

pub returns-in-Ok-Some-clause-refused : goal.returns-in-Ok-Some-clause-refused
returns-in-Ok-Some-clause-refused c =
    let met : c.in-Ok-Some.field-0 ≡ met_body [] None (plain_body c.in-Ok.main) = c.in-Ok-Some.ensures in
    walked_least (plain_block c.args.block) (Some c.in-Ok-Some.violation) (sym c.in-Ok-Some.field-0-is ∙ met ∙ ap (met_body [] None) c.in-Ok.ensures)

-- The law of bodies that fit: a body fits where its names are in scope, it keeps the limits of the static rules, its forms are those of the grammar,
-- each block weighs at most its tokens, and the whole is not too great. Each jump reaches 2 ^ 24 places, and CLOSURE has 17 bits for the number of
-- a function.
use Rattle.std.specs.Prelude.{ℕ, ◌≤◌, ◌^◌, List, Option}
use Rattle.tree_core.specs.Tree.{Body}
use Rattle.scope_laws.specs.Keeping.{BodyKeeps}
use Rattle.scope_laws.specs.Finding.{BodyFinds}
use Rattle.stat_laws.specs.Fits.{BodyFits}
use Rattle.tree_terms.specs.Weight.{weight_of_body}
use Rattle.tree_terms.specs.FunctionCount.{functions_in_body}
use Rattle.grammar_laws.specs.Formed.{BodyIsFormed}
use Rattle.grammar_laws.specs.Counted.{BodyIsCounted}

-- a weight of 2 ^ 21 is that of a source of twice the bytes that a source may have, and six instructions for each unit are fewer than 2 ^ 24
abbrev pub BodiesFit : Type 0
BodiesFit =
    (source : Option (List ℕ)) (body : Body) → BodyKeeps body → BodyFinds body → BodyIsFormed body → BodyIsCounted body
    → weight_of_body body ≤ 2 ^ 21 → functions_in_body body ≤ 2 ^ 17 → BodyFits source body

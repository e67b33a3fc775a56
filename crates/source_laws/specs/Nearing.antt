-- The law of bodies that are near: a body is near, with the functions in it, where its names are in scope, it keeps the limits of the static rules,
-- its forms are those of the grammar, its code means it, and the fields of its code's instructions are wide enough.
use Rattle.std.specs.Prelude.{ℕ, ◌≤◌, ◌^◌, List, Option}
use Rattle.tree_core.specs.Tree.{Body}
use Rattle.scope_laws.specs.Keeping.{BodyKeeps}
use Rattle.scope_laws.specs.Finding.{BodyFinds}
use Rattle.grammar_laws.specs.Formed.{BodyIsFormed}
use Rattle.stat_laws.specs.Fits.{BodyFits}
use Rattle.grammar_laws.specs.Each.{InBody}
use Rattle.source_laws.specs.Fields.{FunctionFits, LoopFits}
use Rattle.tree_terms.specs.Weight.{weight_of_body}
use Rattle.code_checked.specs.Near.{AreNear}

abbrev pub BodiesAreNear : Type 0
BodiesAreNear =
    (source : Option (List ℕ)) (body : Body) → BodyKeeps body → BodyFinds body → BodyIsFormed body → BodyFits source body
    → InBody FunctionFits LoopFits body → weight_of_body body ≤ 2 ^ 21 → AreNear source body

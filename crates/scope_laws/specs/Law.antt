-- The law of resolved trees.
use Rattle.std.specs.Prelude.{◌≡◌, []}
use Rattle.tree_core.specs.Tree.{Block, Body}
use Rattle.tree_terms.specs.Bodies.{upvalues_of}
use Rattle.scope_core.specs.Places.{placed, main_upvalues}
use Rattle.scope_core.specs.Rules.{violations}
use Rattle.scope_laws.specs.Keeping.{BodyKeeps}
use Rattle.scope_laws.specs.Finding.{BodyFinds}

abbrev pub BodyNamesFit : Body → Type 0
BodyNamesFit body = BodyKeeps body × BodyFinds body

-- the main function's one upvalue is `_ENV`
abbrev pub ResolvedNamesFit : Type 0
ResolvedNamesFit = (source : Block) → violations source ≡ [] → BodyNamesFit (placed source) × (upvalues_of (placed source) ≡ main_upvalues)

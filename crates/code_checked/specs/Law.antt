-- The law of rules on code: what a body is compiled to is checked code, and so are the functions in it.
use Rattle.std.specs.Prelude.{ℕ, List, Option}
use Rattle.tree_core.specs.Tree.{Body}
use Rattle.code_core.specs.Check.{IsChecked}
use Rattle.code_of.specs.CodeOf.{code_of}
use Rattle.code_checked.specs.Near.{BodyIsNear}

-- of the bodies that keep the static rules and come from a source within the limits
abbrev pub CodeIsChecked : Type 0
CodeIsChecked = (source : Option (List ℕ)) (body : Body) → BodyIsNear source body → IsChecked (code_of source body)

-- What the body of a function tells of itself.
use Rattle.std.specs.Prelude.{ℕ, List}
use Rattle.tree_core.specs.declared.name.UpName.{UpName}
use Rattle.tree_core.specs.Tree.{Body, BodyOf}

abbrev pub line_of_body : Body → ℕ
line_of_body (BodyOf params vararg inner ups line) = line

abbrev pub upvalues_of : Body → List UpName
upvalues_of (BodyOf params vararg inner ups line) = ups

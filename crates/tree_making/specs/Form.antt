-- Which forms of expression may stand where (Lua 5.4 manual, 3.3.3 and 3.3.6).
use Rattle.std.specs.Prelude.{Bool, true, false, Option, Some, None}
use Rattle.tree_core.specs.declared.name.Name.{Name}
use Rattle.tree_core.specs.Tree.{Exp, Var, Index, Call, Method}

-- what may be assigned to
abbrev pub is_target : Exp → Bool
is_target (Var line name) = true
is_target (Index line e key) = true
is_target _ = false

-- what may stand alone
abbrev pub is_call : Exp → Bool
is_call (Call line e args) = true
is_call (Method line e name args) = true
is_call _ = false

-- the name that an expression is
abbrev pub variable_of : Exp → Option Name
variable_of (Var line name) = Some name
variable_of _ = None

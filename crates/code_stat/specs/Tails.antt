-- A call in the place of its caller.
use Rattle.std.specs.Prelude.{ℕ, Bool, true, false, List, []}
use Rattle.tree_core.specs.Tree.{Exp, Call, Method}
use Rattle.code_core.specs.declared.proto.Const.{Const}
use Rattle.code_of.specs.Coded.{Coded}
use Rattle.code_of.specs.Parts.{call_last, method_last}

abbrev pub is_called : Exp → Bool
is_called (Call line f es) = true
is_called (Method line object name es) = true
is_called _ = false

abbrev pub tail_code : List Const → Exp → (t j back : ℕ) → List Coded
tail_code constants (Call line f es) t j back = call_last constants f es t j line back
tail_code constants (Method line object name es) t j back = method_last constants object name.text es t j line back
tail_code constants _ t j back = []

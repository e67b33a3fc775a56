-- The law of compiled code: it makes the asks of the function's body, in the same order and with the same lines and values, whatever the answers.
use Rattle.std.specs.Prelude.{ℕ, List, Option}
use Rattle.tree_core.specs.Tree.{Body}
use Rattle.code_means.specs.Means.{Means}
use Rattle.code_of.specs.CodeOf.{code_of}
use Rattle.stat_laws.specs.Fits.{is_known, BodyFits}

abbrev pub CodeMeansBody : Type 0
CodeMeansBody = (source : Option (List ℕ)) (body : Body) → BodyFits source body → Means (is_known source) (code_of source body) body

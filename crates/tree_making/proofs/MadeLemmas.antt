-- From the node that an expression holds to its plain tree.
use Rattle.std.proofs.Common.{◌≡◌, ℕ, Result, Ok, Err, IfOk, Box, Global, ap, ◌∙◌}
use Rattle.tree_core.specs.declared.tree.Exp.{Exp}
use Rattle.tree_core.specs.Tree as tree
use Rattle.tree_core.specs.Plain.{plain_exp}
use Rattle.tree_making.specs.declared.part.Found.{Found}
use Rattle.tree_making.specs.Made.{IsMade, plain_boxed}

pub made_as : {E : Type 0} (result : Result (Found (Box Exp Global)) E) (e : Exp) (value : tree.Exp) (h height : ℕ) → IfOk result (λ made. made.node.value ≡ e) → IfOk result (λ made. made.height ≡ h) → plain_exp e ≡ value → h ≡ height → IfOk result (λ made. IsMade plain_boxed made value height)
made_as (Ok made) e value h height is levels same low = record { node = ap plain_exp is ∙ same; levels = levels ∙ low }
made_as (Err fault) e value h height is levels same low = tt

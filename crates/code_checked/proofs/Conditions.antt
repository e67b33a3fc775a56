-- The code of each condition is a piece, where its jumps lead to a place that may be landed on.
use Rattle.std.proofs.Common.{ℕ, List, Option}
use Rattle.tree_core.specs.Tree.{Exp}
use Rattle.code_core.specs.Prototype.{Prototype}
use Rattle.code_checked.proofs.Loads.{Whole}
use Rattle.code_checked.proofs.TestForms.{TestLaw}
use Rattle.code_checked.proofs.Exps.{one_law, tested_law}

module _ (p : Prototype) (W : Whole p) (source : Option (List ℕ)) where
  pub test_law : (e : Exp) → TestLaw p W source e
  test_law e = tested_law p W source e (λ H. one_law p W source e H)

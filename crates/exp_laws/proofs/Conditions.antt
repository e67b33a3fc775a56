-- The law of a condition: both come to the place behind it where the truth is k, and else to the place that its jumps lead to.
use Rattle.std.proofs.Common.{List}
use Rattle.tree_core.specs.Tree.{Exp}
use Rattle.tree_activation.specs.Work.{Pending}
use Rattle.exp_laws.specs.Setting.{Setting}
use Rattle.exp_laws.proofs.TestForms.{TestSame}
use Rattle.exp_laws.proofs.Exps.{exp_same, test_law}

module _ (S : Setting) (pending : List Pending) where
  pub test_same : (e : Exp) → TestSame S pending e
  test_same e = test_law S pending e (exp_same S pending e)

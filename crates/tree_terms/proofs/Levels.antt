-- Statements take no local out of scope.
use Rattle.std.proofs.Common.{ℕ, ◌≤◌, arith}
use Rattle.tree_core.specs.Tree.{Stat, Local, LocalFunction, Stats, EndStats, MoreStats}
use Rattle.tree_terms.specs.Levels.{level_after, levels_after}

pub level_rises : (s : Stat) (t : ℕ) → t ≤ level_after s t
level_rises (Local line names es) t = omega arith
level_rises (LocalFunction line name body) t = omega arith
level_rises _ t = omega arith

pub levels_rise : (ss : Stats) (t : ℕ) → t ≤ levels_after ss t
levels_rise EndStats t = omega arith
levels_rise (MoreStats s ss) t = let a = level_rises s t in let b = levels_rise ss (level_after s t) in omega (arith, a, b)

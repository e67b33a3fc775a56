-- How many locals are in scope after a statement, where t are before it.
use Rattle.std.specs.Prelude.{ℕ, ◌+◌, length}
use Rattle.tree_core.specs.Tree.{Block, Falls, Returns, Stats, EndStats, MoreStats, Stat, Local, LocalFunction}

abbrev pub level_after : Stat → ℕ → ℕ
level_after (Local line names es) t = t + length names
level_after (LocalFunction line name body) t = t + 1
level_after _ t = t

abbrev pub levels_after : Stats → ℕ → ℕ
levels_after EndStats t = t
levels_after (MoreStats s ss) t = levels_after ss (level_after s t)

abbrev pub levels_in : Block → ℕ → ℕ
levels_in (Falls ss tokens line) t = levels_after ss t
levels_in (Returns ss es tokens line) t = levels_after ss t

-- A variable that is to be closed is so to the end of the statements behind it.
use Rattle.std.proofs.Common.{◌≡◌, true, refl, ap, ◌∙◌}
use Rattle.tree_core.specs.Tree.{Stats, EndStats, MoreStats, Stat, Empty}
use Rattle.code_of.specs.Levels.{closing_after, closings_after}

still_closing : (s : Stat) → closing_after s true ≡ true
still_closing (Empty line) = refl
still_closing _ = refl

pub all_closing : (ss : Stats) → closings_after ss true ≡ true
all_closing EndStats = refl
all_closing (MoreStats s ss) = ap (closings_after ss) (still_closing s) ∙ all_closing ss

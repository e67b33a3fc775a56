-- Trees in which each block weighs at most its tokens, as they were counted when it was read.
use Rattle.std.specs.Prelude.{◌+◌, ◌≤◌}
use Rattle.tree_core.specs.Tree.{Block, Falls, Returns, Body}
use Rattle.tree_terms.specs.Weight.{weight_of_exps, weight_of_stats}
use Rattle.tree_terms.specs.Asked.{Asked, nothing_asked, BlockMeets, BodyMeets}

abbrev pub block_is_counted : Block → Type 0 → Type 0
block_is_counted (Falls ss tokens line) parts = (weight_of_stats ss ≤ tokens) × parts
block_is_counted (Returns ss es tokens line) parts = (weight_of_stats ss + weight_of_exps es + 1 ≤ tokens) × parts

abbrev pub all_counted : Asked
all_counted = record nothing_asked { block = block_is_counted }

abbrev pub BlockIsCounted : Block → Type 0
BlockIsCounted block = BlockMeets all_counted block

abbrev pub BodyIsCounted : Body → Type 0
BodyIsCounted body = BodyMeets all_counted body

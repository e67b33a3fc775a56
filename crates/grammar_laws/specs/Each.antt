-- A condition on each function in a piece of tree, and one on the block of each `for` in it.
use Rattle.tree_core.specs.Tree.{Block, Body}
use Rattle.tree_terms.specs.Asked.{Asked, nothing_asked, BodyMeets}

module _ (OfFunction : Body → Type 0) (OfLoop : Block → Type 0) where
  abbrev pub each_one : Asked
  each_one = record nothing_asked { loop = λ b parts. OfLoop b × parts; body = λ b parts. OfFunction b × parts }

  abbrev pub InBody : Body → Type 0
  InBody body = BodyMeets each_one body

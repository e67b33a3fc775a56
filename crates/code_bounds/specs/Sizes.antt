-- The laws of the sizes of code: what bounds hold for the code of any tree, by its weight.
use Rattle.std.specs.Prelude.{ℕ, ◌+◌, ◌*◌, ◌≤◌, Bool, List, length}
use Rattle.tree_core.specs.Tree.{Block, Body, Stat, Exp}
use Rattle.code_core.specs.declared.proto.Const.{Const}
use Rattle.code_of.specs.declared.leaving.Leaving.{Leaving}
use Rattle.code_of.specs.Constants.{of_block}
use Rattle.code_of.specs.Expressions.{exp_code}
use Rattle.code_of.specs.Levels.{made_in_block}
use Rattle.code_of.specs.Sizes.{stat_size, block_size}
use Rattle.code_of.specs.CodeOf.{body_code}
use Rattle.tree_terms.specs.FunctionCount.{functions_in_block}
use Rattle.tree_terms.specs.Weight.{weight, weight_of_stat, weight_of_block, weight_of_body}

-- a block may end by a CLOSE that no token stands for
pub record CodeIsShort : Type 0 where
  pub of_exp : (constants : List Const) (e : Exp) (t j c : ℕ) → length (exp_code constants e t j c) ≤ 6 * weight e
  pub of_stat : (constants : List Const) (back : Leaving) (s : Stat) (closing : Bool) (t j : ℕ) → stat_size constants back s closing t j ≤ 6 * weight_of_stat s
  pub of_block : (constants : List Const) (back : Leaving) (block : Block) (closing : Bool) (outer t j : ℕ) →
      block_size constants back block closing outer t j ≤ 6 * weight_of_block block + 1
  pub of_body : (body : Body) → length (body_code body) ≤ 6 * weight_of_body body

abbrev pub ConstantsAreFew : Type 0
ConstantsAreFew = (block : Block) (constants : List Const) → length (of_block block constants) ≤ length constants + weight_of_block block

-- of a block in a function: what it makes is written in it, and what is written in it weighs something
pub record FunctionsAreFew : Type 0 where
  pub of_block : (block : Block) → made_in_block block ≤ functions_in_block block
  pub of_weight : (block : Block) → functions_in_block block ≤ weight_of_block block

-- Rows of trees by the items of their vectors.
use Rattle.std.proofs.Common.{◌≡◌, Option, Some, None, List, ℕ, refl, ap, ◌∙◌}
use Rattle.tree_core.specs.declared.tree.Exp.{Exp}
use Rattle.tree_core.specs.Tree as tree
use Rattle.tree_core.specs.Plain.{plain_block, block_of}
use Rattle.tree_core.specs.declared.tree.Block.{Block, out-Block}
use Rattle.scope_core.specs.Rules.{tokens_of}
use Rattle.tree_core.proofs.Rows.{plain-block}

tokens_kept : (ss : List tree.Stat) (r : Option (List tree.Exp)) (tokens line : ℕ) → tokens_of (block_of ss r tokens line) ≡ tokens
tokens_kept ss None tokens line = refl
tokens_kept ss (Some es) tokens line = refl

pub block_tokens : (b : Block) → tokens_of (plain_block b) ≡ (out-Block b).tokens
block_tokens b = ap tokens_of (plain-block b) ∙ tokens_kept _ _ _ _

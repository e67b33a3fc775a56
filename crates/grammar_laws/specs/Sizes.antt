-- The laws of the sizes of sources: what bounds hold for the tree of a source.
use Rattle.std.specs.Prelude.{◌≡◌, ℕ, ◌+◌, ◌*◌, ◌≤◌, List, length}
use Rattle.tree_core.specs.Tree.{Block}
use Rattle.token_cursor.specs.Words.{Lexeme}
use Rattle.lua_lex.specs.Lexical.{TokensOf}
use Rattle.lua_parse.specs.Reading.{Derives}
use Rattle.scope_core.specs.Places.{placed}
use Rattle.tree_terms.specs.FunctionCount.{functions_in_block, functions_in_body}
use Rattle.tree_terms.specs.Weight.{weight_of_block, weight_of_body}
use Rattle.grammar_laws.specs.Counted.{BlockIsCounted, BodyIsCounted}
use Rattle.grammar_laws.specs.Lines.{BlockIsWithin, BodyIsWithin}

-- what a list of tokens says of its tree; the last token is the end of the source
pub record Weighs (tokens : List Lexeme) (tree : Block) : Type 0 where
  pub whole : weight_of_block tree + 1 ≤ length tokens
  pub blocks : BlockIsCounted tree

abbrev pub TreesWeighTheirTokens : Type 0
TreesWeighTheirTokens = (tokens : List Lexeme) (tree : Block) → Derives tokens tree → Weighs tokens tree

-- what a source says of its tokens and of its tree: each token has a byte of its own, and each function the eight bytes of its keyword
pub record TakesBytes (source : List ℕ) (tokens : List Lexeme) (tree : Block) : Type 0 where
  pub tokens_count : length tokens ≤ length source + 1
  pub functions_count : 8 * functions_in_block tree ≤ length source

abbrev pub TreesTakeBytes : Type 0
TreesTakeBytes = (source : List ℕ) (tokens : List Lexeme) (tree : Block) → TokensOf source tokens → Derives tokens tree → TakesBytes source tokens tree

-- the tree with its places weighs what it weighed, and the brackets and the `end` of a function more
pub record WeighsAlike (tree : Block) : Type 0 where
  pub weight : weight_of_body (placed tree) ≡ weight_of_block tree + 3
  pub functions : functions_in_body (placed tree) ≡ functions_in_block tree
  pub blocks : BlockIsCounted tree → BodyIsCounted (placed tree)

abbrev pub PlacesWeighNothing : Type 0
PlacesWeighNothing = (tree : Block) → WeighsAlike tree

-- lines begin at 1, and there are at most as many more as the source has bytes
pub record HasFewLines (source : List ℕ) (tree : Block) : Type 0 where
  pub as_read : BlockIsWithin (length source + 1) tree
  pub as_placed : BodyIsWithin (length source + 1) (placed tree)

abbrev pub TreesHaveFewLines : Type 0
TreesHaveFewLines = (source : List ℕ) (tokens : List Lexeme) (tree : Block) → TokensOf source tokens → Derives tokens tree → HasFewLines source tree

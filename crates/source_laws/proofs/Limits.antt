-- The texts and integers in the tree of a source fit, and its functions are nested at most 400 deep.
use Rattle.std.proofs.Common.{ℕ, ◌≤◌, ◌<◌, List, [], length, Option, refl, arith}
use Rattle.tree_core.specs.Tree.{Block}
use Rattle.token_cursor.specs.Words.{Lexeme}
use Rattle.lua_lex.specs.Lexical.{TokensOf}
use Rattle.lua_parse.specs.Moves.{a_block, chunk}
use Rattle.lua_parse.specs.Reading.{Derives}
use Rattle.scope_core.specs.Places.{placed}
use Rattle.code_core.specs.Writable.{depth, greatest_depth}
use Rattle.code_of.specs.CodeOf.{from_body}
use Rattle.source_laws.proofs.Texts.{BlockTextsFit, BodyTextsFit}
use Rattle.grammar_laws.proofs.Nesting.{nesting_in_block}
use Rattle.grammar_laws.proofs.Walk.{any_tokens, goes}
use Rattle.source_laws.proofs.TextParts.{part_fits}
use Rattle.source_laws.proofs.TokenTexts.{tokens_fit}
use Rattle.source_laws.proofs.PlacedTexts.{placed_fits}
use Rattle.grammar_laws.proofs.NestingParts.{part_nests}
use Rattle.grammar_laws.proofs.PlacedSizes.{placed_nests}
use Rattle.source_laws.proofs.Within.{deep_body}

tree_fits : (source : List ℕ) (tokens : List Lexeme) (tree : Block) → length source ≤ 1048576 → TokensOf source tokens → Derives tokens tree → BlockTextsFit tree
tree_fits source tokens tree small t d = (goes part_fits (a_block tree) d.height [] d.reads refl (part_fits chunk 400 tt) (tokens_fit (omega (arith, small)) t)).holds

pub texts_fit : (source : List ℕ) (tokens : List Lexeme) (tree : Block) → length source ≤ 1048576 → TokensOf source tokens → Derives tokens tree → BodyTextsFit (placed tree)
texts_fit source tokens tree small t d = placed_fits tree (tree_fits source tokens tree small t d)

tree_nests : (tokens : List Lexeme) (tree : Block) → Derives tokens tree → nesting_in_block tree ≤ 400
tree_nests tokens tree d = (goes part_nests (a_block tree) d.height [] d.reads refl (part_nests chunk 400 tt) (any_tokens tokens)).holds

pub shallow : (tokens : List Lexeme) (tree : Block) → Derives tokens tree → (name : Option (List ℕ)) → depth (from_body name (placed tree)) < greatest_depth
shallow tokens tree d name =
    let nests = tree_nests tokens tree d in
    let same = placed_nests tree in
    let deep = deep_body name (placed tree) in
    omega (arith, nests, same, deep)

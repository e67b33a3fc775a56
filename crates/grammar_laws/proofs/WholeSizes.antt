-- The laws, joined.
use Rattle.std.proofs.Common.{ℕ, ◌+◌, List, [], length, refl, arith}
use Rattle.tree_core.specs.Tree.{Block}
use Rattle.token_cursor.specs.Words.{Lexeme}
use Rattle.lua_lex.specs.Lexical.{TokensOf}
use Rattle.lua_parse.specs.Moves.{a_block, chunk}
use Rattle.lua_parse.specs.Reading.{Derives}
use Rattle.grammar_laws.specs.Sizes.{Weighs, TakesBytes, WeighsAlike, HasFewLines}
use Rattle.grammar_laws.proofs.SizeReadings.{Gone, part_kept, goes}
use Rattle.grammar_laws.proofs.Bytes.{tokens_count, openings_fit}
use Rattle.grammar_laws.proofs.PlacedSizes.{placed_has, placed_weighs}
use Rattle.grammar_laws.proofs.PlacedBlocks.{placed_counted}
use Rattle.grammar_laws.proofs.LineReadings.{tree_within}
use Rattle.grammar_laws.proofs.PlacedLines.{placed_within}

read : (tokens : List Lexeme) (tree : Block) → Derives tokens tree → Gone chunk (a_block tree) 0 0 tokens []
read tokens tree d = goes (a_block tree) d.height [] d.reads refl (part_kept chunk 400 tt) tt

pub weighs : (tokens : List Lexeme) (tree : Block) → Derives tokens tree → Weighs tokens tree
weighs tokens tree d =
    let g = read tokens tree d in
    record { whole = omega (arith, g.counts, g.claim.0); blocks = g.claim.2 }

pub takes : (source : List ℕ) (tokens : List Lexeme) (tree : Block) → TokensOf source tokens → Derives tokens tree → TakesBytes source tokens tree
takes source tokens tree t d =
    let g = read tokens tree d in
    record { tokens_count = tokens_count t; functions_count = omega (arith, openings_fit t, g.opens, g.claim.1) }

pub weighs_alike : (tree : Block) → WeighsAlike tree
weighs_alike tree = record { weight = placed_weighs tree; functions = placed_has tree; blocks = placed_counted tree }

pub lines : (source : List ℕ) (tokens : List Lexeme) (tree : Block) → TokensOf source tokens → Derives tokens tree → HasFewLines source tree
lines source tokens tree t d =
    let within = tree_within source tokens tree t d in
    record { as_read = within; as_placed = placed_within (length source + 1) tree within }

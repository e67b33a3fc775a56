-- The tree of a list of tokens is formed.
use Rattle.std.proofs.Common.{List, [], refl}
use Rattle.tree_core.specs.Tree as tree
use Rattle.token_cursor.specs.Words.{Lexeme}
use Rattle.lua_parse.specs.Moves.{a_block, chunk}
use Rattle.lua_parse.specs.Reading.{Derives}
use Rattle.grammar_laws.specs.Formed.{BlockIsFormed}
use Rattle.grammar_laws.proofs.Walk.{any_tokens, goes}
use Rattle.grammar_laws.proofs.FormParts.{part_gives}

pub tree_formed : (tokens : List Lexeme) (tree : tree.Block) → Derives tokens tree → BlockIsFormed tree
tree_formed tokens tree d = (goes part_gives (a_block tree) d.height [] d.reads refl (part_gives chunk 400 tt) (any_tokens tokens)).holds

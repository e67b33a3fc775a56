-- The laws of forms: the grammar gives them, and setting places keeps them.
use Rattle.std.specs.Prelude.{List}
use Rattle.tree_core.specs.Tree.{Block}
use Rattle.token_cursor.specs.Words.{Lexeme}
use Rattle.lua_parse.specs.Reading.{Derives}
use Rattle.scope_core.specs.Places.{placed}
use Rattle.grammar_laws.specs.Formed.{BlockIsFormed, BodyIsFormed}

abbrev pub TreesAreFormed : Type 0
TreesAreFormed = (tokens : List Lexeme) (tree : Block) → Derives tokens tree → BlockIsFormed tree

abbrev pub PlacesKeepForms : Type 0
PlacesKeepForms = (tree : Block) → BlockIsFormed tree → BodyIsFormed (placed tree)

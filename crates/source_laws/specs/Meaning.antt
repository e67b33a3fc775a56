-- The law of compiled sources: the code of a source of at most 1,048,576 bytes that the grammar reads as a tree without violations of the static rules
-- makes the asks of that tree, in the same order and with the same values, whatever the answers. Where it is given a name, lines are kept and agree too.
use Rattle.std.specs.Prelude.{◌≡◌, ℕ, ◌≤◌, List, [], length, Option}
use Rattle.tree_core.specs.Tree.{Block}
use Rattle.token_cursor.specs.Words.{Lexeme}
use Rattle.lua_lex.specs.Lexical.{TokensOf}
use Rattle.lua_parse.specs.Reading.{Derives}
use Rattle.scope_core.specs.Places.{placed}
use Rattle.scope_core.specs.Rules.{violations}
use Rattle.code_means.specs.Means.{Means}
use Rattle.code_of.specs.CodeOf.{code_of}
use Rattle.stat_laws.specs.Fits.{is_known}

abbrev pub CodeMeansSource : Type 0
CodeMeansSource =
    (source : List ℕ) (tokens : List Lexeme) (tree : Block) → length source ≤ 1048576 → TokensOf source tokens → Derives tokens tree → violations tree ≡ []
    → (name : Option (List ℕ)) → Means (is_known name) (code_of name (placed tree)) (placed tree)

-- The law of checked sources: the code of a source of at most 1,048,576 bytes that the grammar reads as a tree without violations of the static rules
-- is checked code, with the functions in it. The source's name may have as many bytes as a string.
use Rattle.std.specs.Prelude.{◌≡◌, ℕ, ◌≤◌, List, [], length, Option, IsTrue}
use Rattle.tree_core.specs.Tree.{Block}
use Rattle.token_cursor.specs.Words.{Lexeme}
use Rattle.lua_lex.specs.Lexical.{TokensOf}
use Rattle.lua_parse.specs.Reading.{Derives}
use Rattle.scope_core.specs.Places.{placed}
use Rattle.scope_core.specs.Rules.{violations}
use Rattle.code_core.specs.Check.{IsChecked}
use Rattle.code_core.specs.Writable.{name_fits}
use Rattle.code_of.specs.CodeOf.{code_of}

abbrev pub CodeOfSourcesIsChecked : Type 0
CodeOfSourcesIsChecked =
    (source : List ℕ) (tokens : List Lexeme) (tree : Block) → length source ≤ 1048576 → TokensOf source tokens → Derives tokens tree → violations tree ≡ []
    → (name : Option (List ℕ)) → IsTrue (name_fits name) → IsChecked (code_of name (placed tree))

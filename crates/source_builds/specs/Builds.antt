-- What sources are built to: a source to its tree, whose locals have their places, and where code runs to the code of that tree.
use Rattle.std.specs.Prelude.{◌≡◌, ℕ, ◌≤◌, List, [], length, Some}
use Rattle.tree_core.specs.Tree.{Block, Body}
use Rattle.token_cursor.specs.Words.{Lexeme}
use Rattle.lua_lex.specs.Lexical.{TokensOf}
use Rattle.lua_parse.specs.Reading.{Derives}
use Rattle.scope_core.specs.Places.{placed}
use Rattle.scope_core.specs.Rules.{violations}
use Rattle.code_core.specs.Prototype.{Prototype}
use Rattle.code_of.specs.CodeOf.{code_of}
use Rattle.load_rows.specs.Loading.{Built, built, refused_at, Builds}

-- the source has at most 1,048,576 bytes, and the grammar reads it as a tree without violations of the static rules, which this body is
pub record IsBuiltTo (source : List ℕ) (body : Body) : Type 0 where
  pub tree : Block
  pub tokens : List Lexeme
  pub limited : length source ≤ 1048576
  pub lexed : TokensOf source tokens
  pub derived : Derives tokens tree
  pub lawful : violations tree ≡ []
  pub placed_is : body ≡ placed tree

-- sources alone are built to trees, whatever their names are
abbrev pub BuildsSources : Builds Body → Type 0
BuildsSources builds = (name source : List ℕ) (body : Body) → builds name source ≡ built body → IsBuiltTo source body

-- the code of such a tree has the name under which it is loaded
abbrev pub code_built : (name : List ℕ) → Built Body → Built Prototype
code_built name (built body) = built (code_of (Some name) body)
code_built name (refused_at line rule) = refused_at line rule

abbrev pub code_builds : Builds Body → Builds Prototype
code_builds builds name source = code_built name (builds name source)

-- The tree that the compiler is given.
use Rattle.std.specs.Prelude.{ℕ, ◌≤◌, Bool, true, false, List, length, Option, Some, None}
use Rattle.tree_core.specs.Tree.{Block}
use Rattle.token_cursor.specs.Words.{Lexeme}
use Rattle.lua_lex.specs.Lexical.{TokensOf}
use Rattle.lua_parse.specs.Reading.{Derives}
use Rattle.scope_core.specs.Answers.{IsResolved}
use Rattle.scope_core.specs.declared.resolved.Resolved.{Resolved}

-- a source of at most 1,048,576 bytes is read as a tree that keeps the static rules, and this is the tree with its places set
pub record IsOfSource (resolved : Resolved) : Type 0 where
  pub source : List ℕ
  pub limited : length source ≤ 1048576
  pub tokens : List Lexeme
  pub lexed : TokensOf source tokens
  pub tree : Block
  pub derived : Derives tokens tree
  pub resolves : IsResolved tree resolved

-- code keeps the source's name where it keeps lines
abbrev pub name_where : (lines : Bool) → List ℕ → Option (List ℕ)
name_where true source = Some source
name_where false source = None

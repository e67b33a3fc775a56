-- What a source is, and why it is none (Lua 5.4 manual, 3 and 9).
use Rattle.std.specs.Prelude.{◌≡◌, ℕ, ◌<◌, ◌≤◌, List, [], length}
use Rattle.token_cursor.specs.Words.{Lexeme}
use Rattle.lua_lex.specs.Lexical.{TokensOf, BadToken}
use Rattle.tree_core.specs.Tree.{Block}
use Rattle.tree_core.specs.Plain.{plain_body}
use Rattle.lua_parse.specs.Reading.{Derives}
use Rattle.lua_parse.specs.Answers.{IsRefusal}
use Rattle.scope_core.specs.Places.{placed}
use Rattle.scope_core.specs.Rules.{violations}
use Rattle.scope_core.specs.Least.{IsLeast}
use Rattle.scope_core.specs.declared.resolved.Resolved.{Resolved}
use Rattle.compile_text.specs.declared.fault.TextFault.{TextFault}
use Rattle.compile_text.specs.declared.fault.TextFault.TheVariants.{Source, Rule, Memory}

-- the source has at most 1,048,576 bytes, and its tokens have this tree
pub record HasTree (source : List ℕ) (tree : Block) : Type 0 where
  pub limited : length source ≤ 1048576
  pub tokens : List Lexeme
  pub lexed : TokensOf source tokens
  pub derived : Derives tokens tree

-- the tree of a source that keeps the static rules: there is no other
pub record IsSource (source : List ℕ) (tree : Block) : Type 0 where
  pub has_tree : HasTree source tree
  pub lawful : violations tree ≡ []
  pub only : (other : Block) → HasTree source other → other ≡ tree

pub record IsTreeOf (source : List ℕ) (resolved : Resolved) : Type 0 where
  pub tree : Block
  pub is_source : IsSource source tree
  pub placed_is : plain_body resolved.main ≡ placed tree

-- a place begins no token, or the tokens have no tree: then the line is that of the token at which they are refused
pub data RefusedOn (source : List ℕ) (line : ℕ) : Type 0 where
  bad_token : BadToken source line → RefusedOn source line
  no_tree : (tokens : List Lexeme) → TokensOf source tokens → IsRefusal tokens line → RefusedOn source line

-- the least violation of the static rules; or the source is too long, which is rule 13 at line 1
pub data Violates (source : List ℕ) (rule line : ℕ) : Type 0 where
  breaks : (tree : Block) → HasTree source tree → IsLeast (violations tree) (record { line = line; rule = rule }) → Violates source rule line
  too_long : 1048576 < length source → rule ≡ 13 → line ≡ 1 → Violates source rule line

-- a refused source is the source of no tree
pub record IsRefusedFor (source : List ℕ) (Cause : Type 0) : Type 0 where
  pub none : (tree : Block) → IsSource source tree → ⊥
  pub cause : Cause

abbrev pub IsRefused : List ℕ → TextFault → Type 0
IsRefused source (Source line) = IsRefusedFor source ((length source ≤ 1048576) × RefusedOn source line)
IsRefused source (Rule rule line) = IsRefusedFor source (Violates source rule line)
IsRefused source Memory = Unit {0}

-- What a source means and what the machine does with its code: for each source, in the world of the libraries, both print the same and end alike.
use Rattle.std.specs.Prelude.{◌≡◌, ℕ, ◌≤◌, List, [], length, Option, Some, None, IsTrue}
use Rattle.int_core.specs.Value.{greatest_string}
use Rattle.tree_core.specs.Tree.{Block, Body, BodyOf}
use Rattle.tree_activation.specs.Work.{when_declared, State}
use Rattle.token_cursor.specs.Words.{Lexeme}
use Rattle.lua_lex.specs.Lexical.{TokensOf}
use Rattle.lua_parse.specs.Reading.{Derives}
use Rattle.scope_core.specs.Places.{placed}
use Rattle.scope_core.specs.Rules.{violations}
use Rattle.code_core.specs.Prototype.{Prototype, list_of}
use Rattle.code_core.specs.Writable.{name_fits}
use Rattle.code_of.specs.CodeOf.{code_of}
use Rattle.code_parts.specs.Bodies.{block_bodies}
use Rattle.stat_laws.specs.Fits.{is_known}
use Rattle.library_rows.specs.Library.{Entry}
use Rattle.library_rows.specs.PreludeText.{prelude_text}
use Rattle.machine_sound.specs.Sound.{Each}
use Rattle.load_rows.specs.Loading.{Builds}
use Rattle.source_builds.specs.Builds.{BuildsSources}
use Rattle.loaded_code.specs.Laws.{library}
use Rattle.lua_meaning.specs.Meaning as meaning
use Rattle.lua_meaning.specs.Meaning.{Meaning, Outcome, IsMeaning}
use Rattle.lua_meaning.specs.Opening.{primitives, prelude_of}
use Rattle.lua_meaning.specs.TreeMeaning.{trees, tree_opening}
use Rattle.runs_alike.specs.Alike.{EntriesAlike, script}
use Rattle.machine_runs.specs.Laws.{PreludeOk}
use Rattle.machine_runs.specs.Opening.{opening, begun}
use Rattle.machine_runs.specs.Runs.{Close, has_returned, has_failed, has_spent, is_suspended, Run, CodeRun}
use Rattle.means_runs.specs.Runs.{IsBare}

-- a source of at most 1,048,576 bytes that the grammar reads as a tree without violations of the static rules
pub record IsRead (source : List ℕ) (tree : Block) : Type 0 where
  pub limited : length source ≤ 1048576
  pub tokens : List Lexeme
  pub lexed : TokensOf source tokens
  pub derived : Derives tokens tree
  pub lawful : violations tree ≡ []

-- functions of a prelude and their code, which is checked and has neither lines nor names
pub record IsPrelude (prelude : List (Entry Body)) (compiled : List (Entry Prototype)) : Type 0 where
  pub alike : EntriesAlike prelude compiled
  pub ok : PreludeOk compiled
  pub bare : Each IsBare compiled

-- how a run of the machine ended, and how the script by its meaning

abbrev pub EndsAs : Close → Outcome Body State → Type 0
EndsAs has_returned meaning.has_returned = Unit {0}
EndsAs has_failed meaning.has_failed = Unit {0}
EndsAs has_spent meaning.has_spent = Unit {0}
EndsAs is_suspended (meaning.is_suspended W) = Unit {0}
EndsAs _ _ = ⊥

pub record RunsAs (r : Run) (m : Meaning Body State) : Type 0 where
  pub printed : r.printed ≡ m.printed
  pub ends : EndsAs r.close m.outcome

-- the name of a source whose lines are known
abbrev pub name_in : Option (List ℕ) → List ℕ
name_in None = []
name_in (Some name) = name

module _ (builds : Builds Body) (tree : Block) (given : Option (List ℕ)) (input : List (List ℕ)) (budget : ℕ) where
  -- the machine does this with the code of the tree
  abbrev pub Does : (compiled : List (Entry Prototype)) → Run → Type 0
  Does compiled r = CodeRun (library builds) (begun (opening compiled) (code_of given (placed tree))) input budget r

  -- the tree means this by the letter of the manual
  abbrev pub MeansSo : (prelude : List (Entry Body)) → Meaning Body State → Type 0
  MeansSo prelude m = IsMeaning (trees when_declared) (primitives builds) (tree_opening prelude) (script (placed tree) (name_in given) (is_known given)) input budget m

-- in both what is loaded is built as `builds` says: sources alone to their trees, or in the machine to the trees' code

-- a source, a prelude, and lines of input that strings can hold; lines and names are kept in the code where it is given the source's name
pub record Begins (source : List ℕ) (tree : Block) (prelude : List (Entry Body)) (compiled : List (Entry Prototype)) (given : Option (List ℕ)) (input : List (List ℕ)) : Type 0 where
  pub read : IsRead source tree
  pub libraries : IsPrelude prelude compiled
  pub name : IsTrue (name_fits given)
  pub lines : Each (λ (line : List ℕ). length line ≤ greatest_string) input

abbrev pub ScriptsDo : Type 0
ScriptsDo =
    (builds : Builds Body) → BuildsSources builds → (source : List ℕ) (tree : Block) (prelude : List (Entry Body)) (compiled : List (Entry Prototype)) (given : Option (List ℕ)) (input : List (List ℕ)) (budget : ℕ)
    → Begins source tree prelude compiled given input
    → (r : Run) → Does builds tree given input budget compiled r → (m : Meaning Body State) × MeansSo builds tree given input budget prelude m × RunsAs r m

abbrev pub ScriptsMean : Type 0
ScriptsMean =
    (builds : Builds Body) → BuildsSources builds → (source : List ℕ) (tree : Block) (prelude : List (Entry Body)) (compiled : List (Entry Prototype)) (given : Option (List ℕ)) (input : List (List ℕ)) (budget : ℕ)
    → Begins source tree prelude compiled given input
    → (m : Meaning Body State) → MeansSo builds tree given input budget prelude m → (r : Run) × Does builds tree given input budget compiled r × RunsAs r m

-- the prelude that is there: the functions that its text defines, in their order, with the code of each

abbrev pub functions_in : Body → List Body
functions_in (BodyOf params vararg inner upvalues line) = block_bodies inner

abbrev pub PreludeIsAlike : Type 0
PreludeIsAlike = (tree : Block) → IsRead prelude_text tree → IsPrelude (prelude_of (functions_in (placed tree))) (prelude_of (list_of (code_of None (placed tree)).inner))

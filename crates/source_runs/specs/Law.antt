-- The law of whole runs of compiled sources: on the same lines of input and the same budget a source's code prints the same bytes as its tree, whose
-- locals get their cells as they are declared, and ends in the same way.
use Rattle.load_rows.specs.Loading.{Builds}
use Rattle.std.specs.Prelude.{◌≡◌, ℕ, ◌≤◌, List, [], ◌∷◌, length, map, Option, None}
use Rattle.tree_core.specs.Tree.{Block, Body}
use Rattle.tree_activation.specs.Work.{when_declared, State}
use Rattle.token_cursor.specs.Words.{Lexeme}
use Rattle.lua_lex.specs.Lexical.{TokensOf}
use Rattle.lua_parse.specs.Reading.{Derives}
use Rattle.scope_core.specs.Places.{placed}
use Rattle.scope_core.specs.Rules.{violations}
use Rattle.code_core.specs.Prototype.{Prototype}
use Rattle.machine_core.specs.Talk.{State as CodeState}
use Rattle.library_rows.specs.Library.{Entry, entry}
use Rattle.lua_meaning.specs.Meaning.{Meaning, IsMeaning}
use Rattle.lua_meaning.specs.Opening.{primitives}
use Rattle.lua_meaning.specs.TreeMeaning.{trees, tree_opening}
use Rattle.code_means.specs.Runs.{codes_run, code_opening}
use Rattle.code_of.specs.CodeOf.{code_of}
use Rattle.source_builds.specs.Builds.{BuildsSources, code_builds}
use Rattle.stat_laws.specs.Fits.{is_known, BodyFits}
use Rattle.runs_alike.specs.Alike.{BuildsAlike, IsMeantBy, EntriesAlike, script, CodeEnds}
use Rattle.cells_alike.specs.Alike.{LetterEnds}

-- the code of what is loaded means it
abbrev pub LoadedCodeIsAlike : Type 0
LoadedCodeIsAlike = (builds : Builds Body) → BuildsSources builds → BuildsAlike IsMeantBy builds (code_builds builds)

-- both ways, in worlds of the libraries whose preludes are alike: of a source of at most 1,048,576 bytes that the grammar reads as a tree without
-- violations of the static rules. Its lines are known where its code is given a name
abbrev pub CompiledSourcesRunAlike : Type 0
CompiledSourcesRunAlike =
    (builds : Builds Body) → BuildsSources builds
    → (source : List ℕ) (tokens : List Lexeme) (tree : Block) → length source ≤ 1048576 → TokensOf source tokens → Derives tokens tree → violations tree ≡ []
    → (prelude : List (Entry Body)) (compiled : List (Entry Prototype)) → EntriesAlike prelude compiled
    → (given : Option (List ℕ)) (name : List ℕ) (input : List (List ℕ)) (budget : ℕ)
    → ((m : Meaning Body State) → IsMeaning (trees when_declared) (primitives builds) (tree_opening prelude) (script (placed tree) name (is_known given)) input budget m
    → CodeEnds (code_builds builds) (code_opening compiled) (script (code_of given (placed tree)) name (is_known given)) input budget m)
    × ((m : Meaning Prototype CodeState) → IsMeaning codes_run (primitives (code_builds builds)) (code_opening compiled) (script (code_of given (placed tree)) name (is_known given)) input budget m
    → LetterEnds builds (tree_opening prelude) (script (placed tree) name (is_known given)) input budget m)

-- a prelude is compiled function by function, without lines

abbrev pub compiled_entry : Entry Body → Entry Prototype
compiled_entry x = entry x.library x.name (code_of None x.entry)

abbrev pub EntriesFit : List (Entry Body) → Type 0
EntriesFit [] = Unit {0}
EntriesFit (x ∷ xs) = BodyFits None x.entry × EntriesFit xs

abbrev pub CompiledPreludesAreAlike : Type 0
CompiledPreludesAreAlike = (prelude : List (Entry Body)) → EntriesFit prelude → EntriesAlike prelude (map compiled_entry prelude)

-- Main functions that mean the tree of a source, whoever compiled them: what the machine does with one, and what the source means.
use Rattle.std.specs.Prelude.{◌≡◌, ℕ, List, length, Option}
use Rattle.tree_core.specs.Tree.{Block, Body}
use Rattle.tree_activation.specs.Work.{State}
use Rattle.scope_core.specs.Places.{placed}
use Rattle.code_core.specs.Prototype.{Prototype}
use Rattle.code_core.specs.Check.{IsChecked}
use Rattle.code_of.specs.CodeOf.{code_of}
use Rattle.stat_laws.specs.Fits.{is_known}
use Rattle.code_means.specs.Means.{Means}
use Rattle.library_rows.specs.Library.{Entry}
use Rattle.load_rows.specs.Loading.{Builds}
use Rattle.source_builds.specs.Builds.{BuildsSources}
use Rattle.loaded_code.specs.Laws.{library}
use Rattle.lua_meaning.specs.Meaning.{Meaning}
use Rattle.machine_means.specs.Joined.{Named}
use Rattle.machine_runs.specs.Opening.{opening, begun}
use Rattle.machine_runs.specs.Runs.{Run, CodeRun}
use Rattle.scripts_mean.specs.Scripts.{Begins, MeansSo, RunsAs, name_in}

-- checked code that means the tree and names the globals alone; all functions in it have the source's name where it is given, and else neither name nor lines
pub record IsMain (tree : Block) (given : Option (List ℕ)) (main : Prototype) : Type 0 where
  pub checked : IsChecked main
  pub means : Means (is_known given) main (placed tree)
  pub names_globals : length main.own.upvalues ≡ 1
  pub named : Named (is_known given) (name_in given) main

-- the machine does this with it
abbrev pub DoesWith : Builds Body → (main : Prototype) → (compiled : List (Entry Prototype)) → (input : List (List ℕ)) → (budget : ℕ) → Run → Type 0
DoesWith builds main compiled input budget r = CodeRun (library builds) (begun (opening compiled) main) input budget r

abbrev pub MainsDo : Type 0
MainsDo =
    (builds : Builds Body) → BuildsSources builds → (source : List ℕ) (tree : Block) (prelude : List (Entry Body)) (compiled : List (Entry Prototype)) (given : Option (List ℕ)) (input : List (List ℕ)) (budget : ℕ)
    → Begins source tree prelude compiled given input → (main : Prototype) → IsMain tree given main
    → (r : Run) → DoesWith builds main compiled input budget r → (m : Meaning Body State) × MeansSo builds tree given input budget prelude m × RunsAs r m

abbrev pub MainsMean : Type 0
MainsMean =
    (builds : Builds Body) → BuildsSources builds → (source : List ℕ) (tree : Block) (prelude : List (Entry Body)) (compiled : List (Entry Prototype)) (given : Option (List ℕ)) (input : List (List ℕ)) (budget : ℕ)
    → Begins source tree prelude compiled given input → (main : Prototype) → IsMain tree given main
    → (m : Meaning Body State) → MeansSo builds tree given input budget prelude m → (r : Run) × DoesWith builds main compiled input budget r × RunsAs r m

abbrev pub CodeIsMain : Type 0
CodeIsMain =
    (builds : Builds Body) → BuildsSources builds → (source : List ℕ) (tree : Block) (prelude : List (Entry Body)) (compiled : List (Entry Prototype)) (given : Option (List ℕ)) (input : List (List ℕ))
    → Begins source tree prelude compiled given input → IsMain tree given (code_of given (placed tree))

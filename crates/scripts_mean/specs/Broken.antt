-- What a source means is defined, step by step: no run of it is broken, in any of the three worlds that give a script its meaning.
use Rattle.std.specs.Prelude.{◌≢◌, ℕ, List, Option}
use Rattle.tree_core.specs.Tree.{Block, Body}
use Rattle.tree_activation.specs.Work.{Celling, State}
use Rattle.scope_core.specs.Places.{placed}
use Rattle.code_core.specs.Prototype.{Prototype}
use Rattle.code_of.specs.CodeOf.{code_of}
use Rattle.stat_laws.specs.Fits.{is_known}
use Rattle.library_rows.specs.Library.{Entry}
use Rattle.load_rows.specs.Loading.{Builds}
use Rattle.source_builds.specs.Builds.{BuildsSources, code_builds}
use Rattle.machine_core.specs.Talk.{State as CodeState}
use Rattle.lua_meaning.specs.Meaning.{Meaning, is_broken, IsMeaning}
use Rattle.lua_meaning.specs.Opening.{primitives}
use Rattle.lua_meaning.specs.TreeMeaning.{trees, tree_opening}
use Rattle.code_means.specs.Runs.{codes_run, code_opening}
use Rattle.runs_alike.specs.Alike.{script}
use Rattle.scripts_mean.specs.Scripts.{Begins, name_in}

module _ (builds : Builds Body) (tree : Block) (prelude : List (Entry Body)) (compiled : List (Entry Prototype)) (given : Option (List ℕ)) (input : List (List ℕ)) (budget : ℕ) where
  pub record IsNeverBroken : Type 0 where
    -- of the tree, whether its locals get their cells as they are declared or as they are captured
    pub by_tree : (celling : Celling) (m : Meaning Body State)
        → IsMeaning (trees celling) (primitives builds) (tree_opening prelude) (script (placed tree) (name_in given) (is_known given)) input budget m → m.outcome ≢ is_broken
    -- of its code
    pub by_code : (m : Meaning Prototype CodeState)
        → IsMeaning codes_run (primitives (code_builds builds)) (code_opening compiled) (script (code_of given (placed tree)) (name_in given) (is_known given)) input budget m → m.outcome ≢ is_broken

abbrev pub SourcesAreNeverBroken : Type 0
SourcesAreNeverBroken =
    (builds : Builds Body) → BuildsSources builds → (source : List ℕ) (tree : Block) (prelude : List (Entry Body)) (compiled : List (Entry Prototype)) (given : Option (List ℕ)) (input : List (List ℕ)) (budget : ℕ)
    → Begins source tree prelude compiled given input → IsNeverBroken builds tree prelude compiled given input budget

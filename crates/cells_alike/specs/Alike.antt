-- Runs of a script in the two forms in which locals get their cells: both print the same and end alike, whatever the lines and the budget are.
use Rattle.std.specs.Prelude.{◌≡◌, ℕ, ◌<◌, Bool, List, [], ◌∷◌, length, Some, slice_get}
use Rattle.tree_core.specs.Tree.{Body}
use Rattle.tree_activation.specs.Work.{Celling, when_declared, when_captured, State}
use Rattle.code_core.specs.Prototype.{Prototype}
use Rattle.machine_core.specs.Talk.{State as CodeState}
use Rattle.load_rows.specs.Loading.{Builds}
use Rattle.library_rows.specs.Library.{Entry}
use Rattle.lua_meaning.specs.World.{Function, Coroutine, World}
use Rattle.lua_meaning.specs.Calls.{frames_in}
use Rattle.lua_meaning.specs.Meaning.{Script, Meaning, IsMeaning}
use Rattle.lua_meaning.specs.Opening.{primitives}
use Rattle.lua_meaning.specs.TreeMeaning.{trees, tree_opening}
use Rattle.code_means.specs.Means.{Means}
use Rattle.code_means.specs.Runs.{codes_run}
use Rattle.runs_alike.specs.Alike.{BuildsAlike, IsMeantBy, script, EndsAs, CodeEnds, TreeEnds, WorldsAlike}

abbrev pub AreThere : List ℕ → (size : ℕ) → Type 0
AreThere [] size = Unit {0}
AreThere (c ∷ cells) size = (c < size) × AreThere cells size

-- a world before a script: no coroutine has frames, and the cells that functions name are there
pub record IsReady (W : World Body State) : Type 0 where
  pub coroutines : (n : ℕ) (c : Coroutine State) → slice_get W.coroutines n ≡ Some c → frames_in (Some c) ≡ []
  pub functions : (n : ℕ) (f : Function Body) → slice_get W.functions n ≡ Some f → AreThere f.cells (length W.cells)

-- a run in this form prints the same and ends alike
abbrev pub Ends : Celling → Builds Body → World Body State → Script Body → (input : List (List ℕ)) → (budget : ℕ) → Meaning Body State → Type 0
Ends celling builds W s input budget m = EndsAs (trees celling) (primitives builds) W s input budget m

abbrev pub RunsDoNotShowCells : Type 0
RunsDoNotShowCells =
    (builds : Builds Body) (W : World Body State) → IsReady W → (s : Script Body) (input : List (List ℕ)) (budget : ℕ) (m : Meaning Body State)
    → (IsMeaning (trees when_declared) (primitives builds) W s input budget m → Ends when_captured builds W s input budget m)
    × (IsMeaning (trees when_captured) (primitives builds) W s input budget m → Ends when_declared builds W s input budget m)

-- worlds of the libraries are such worlds
abbrev pub OpeningsAreReady : Type 0
OpeningsAreReady = (prelude : List (Entry Body)) → IsReady (tree_opening prelude)

-- code, and the tree by the letter of the manual

abbrev pub LetterEnds : Builds Body → World Body State → Script Body → List (List ℕ) → ℕ → Meaning Prototype CodeState → Type 0
LetterEnds trees_built W s input budget m = TreeEnds when_declared trees_built W s input budget m

-- where code means the main function and the functions that are there before the script, the tree's meaning by the letter is the code's, and the
-- other way round
abbrev pub CodeKeepsTheLetter : Type 0
CodeKeepsTheLetter =
    (trees_built : Builds Body) (code_built : Builds Prototype) → BuildsAlike IsMeantBy trees_built code_built
    → (W : World Body State) (V : World Prototype CodeState) → IsReady W → WorldsAlike IsMeantBy W V
    → (main : Body) (code : Prototype) (name : List ℕ) (lines : Bool) → Means lines code main → (input : List (List ℕ)) (budget : ℕ)
    → ((m : Meaning Body State) → IsMeaning (trees when_declared) (primitives trees_built) W (script main name lines) input budget m → CodeEnds code_built V (script code name lines) input budget m)
    × ((m : Meaning Prototype CodeState) → IsMeaning codes_run (primitives code_built) V (script code name lines) input budget m → LetterEnds trees_built W (script main name lines) input budget m)

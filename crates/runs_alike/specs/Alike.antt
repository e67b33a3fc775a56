-- Runs of a script's tree and of code that means it: both print the same and end alike, whatever the lines and the budget are.
use Rattle.std.specs.Prelude.{◌≡◌, ℕ, Bool, true, false, List, [], ◌∷◌}
use Rattle.tree_core.specs.Tree.{Body}
use Rattle.tree_activation.specs.Work.{Celling, when_captured, State as TreeState}
use Rattle.code_core.specs.Prototype.{Prototype}
use Rattle.machine_core.specs.Talk.{State as CodeState}
use Rattle.load_rows.specs.Loading.{Built, built, refused_at, Builds}
use Rattle.library_rows.specs.Library.{Entry}
use Rattle.lua_meaning.specs.World.{System, Function, Coroutine, fresh, running, dead, failed, World}
use Rattle.lua_meaning.specs.Step.{Primitives}
use Rattle.lua_meaning.specs.Meaning.{Script, Meaning, IsMeaning}
use Rattle.lua_meaning.specs.Opening.{primitives}
use Rattle.lua_meaning.specs.TreeMeaning.{trees, outer_of, tree_opening}
use Rattle.code_means.specs.Means.{Means}
use Rattle.code_means.specs.Runs.{codes_run, outer_in, code_opening, RunAlike}

-- two functions differ only in what they are made of, and these are related
pub record FunctionAlike {A B : Type 0} (R : Bool → A → B → Type 0) (f : Function A) (g : Function B) : Type 0 where
  pub made_of : R f.has_lines f.made_of g.made_of
  pub source : f.source ≡ g.source
  pub has_lines : f.has_lines ≡ g.has_lines
  pub cells : f.cells ≡ g.cells

abbrev pub FunctionsAlike : {A B : Type 0} → (Bool → A → B → Type 0) → List (Function A) → List (Function B) → Type 0
FunctionsAlike R [] [] = Unit {0}
FunctionsAlike R (f ∷ fs) (g ∷ gs) = FunctionAlike R f g × FunctionsAlike R fs gs
FunctionsAlike R _ _ = ⊥

-- coroutines of which none waits
abbrev pub CoroutineAlike : {S T : Type 0} → Coroutine S → Coroutine T → Type 0
CoroutineAlike (fresh f) (fresh g) = f ≡ g
CoroutineAlike running running = Unit {0}
CoroutineAlike dead dead = Unit {0}
CoroutineAlike (failed e vs) (failed d ws) = (e ≡ d) × (vs ≡ ws)
CoroutineAlike _ _ = ⊥

abbrev pub CoroutinesAlike : {S T : Type 0} → List (Coroutine S) → List (Coroutine T) → Type 0
CoroutinesAlike [] [] = Unit {0}
CoroutinesAlike (c ∷ cs) (d ∷ ds) = CoroutineAlike c d × CoroutinesAlike cs ds
CoroutinesAlike _ _ = ⊥

-- what a source is built to is related, its lines being known, or both are refused at the same line and for the same rule
abbrev pub BuiltAlike : {A B : Type 0} → (Bool → A → B → Type 0) → Built A → Built B → Type 0
BuiltAlike R (built a) (built b) = R true a b
BuiltAlike R (refused_at line rule) (refused_at other broken) = (line ≡ other) × (rule ≡ broken)
BuiltAlike R _ _ = ⊥

abbrev pub BuildsAlike : {A B : Type 0} → (Bool → A → B → Type 0) → Builds A → Builds B → Type 0
BuildsAlike R x y = (name source : List ℕ) → BuiltAlike R (x name source) (y name source)

pub record PrimitivesAlike {A B : Type 0} (R : Bool → A → B → Type 0) (x : Primitives A) (y : Primitives B) : Type 0 where
  pub numbered : (n : ℕ) → x.numbered n ≡ y.numbered n
  pub builds : BuildsAlike R x.builds y.builds

-- two worlds in which a script is about to run: what functions of the same number are made of is related, and all else is the same.
-- Frames, printed bytes, the budget and what is going on are those of the script, so nothing is asked of them
pub record WorldsAlike {A B S T : Type 0} (R : Bool → A → B → Type 0) (W : World A S) (V : World B T) : Type 0 where
  pub heap : W.heap ≡ V.heap
  pub functions : FunctionsAlike R W.functions V.functions
  pub cells : W.cells ≡ V.cells
  pub coroutines : CoroutinesAlike W.coroutines V.coroutines
  pub globals : W.globals ≡ V.globals
  pub chain : W.chain ≡ V.chain

-- code means a body
abbrev pub IsMeantBy : Bool → Body → Prototype → Type 0
IsMeantBy lines b p = Means lines p b

abbrev pub script : {F : Type 0} → (main : F) → (name : List ℕ) → (has_lines : Bool) → Script F
script main name has_lines = record { main = main; name = name; has_lines = has_lines }

-- a run of a script that prints the same as another run, and ends alike
pub record EndsAs {F S G T : Type 0} (system : System F S) (known : Primitives F) (W : World F S) (s : Script F) (input : List (List ℕ)) (budget : ℕ) (m : Meaning G T) : Type 0 where
  pub meaning : Meaning F S
  pub is_meant : IsMeaning system known W s input budget meaning
  pub alike : RunAlike m meaning

-- what the tree means, the code means as well
abbrev pub CodeEnds : Builds Prototype → World Prototype CodeState → Script Prototype → (input : List (List ℕ)) → (budget : ℕ) → Meaning Body TreeState → Type 0
CodeEnds code_built W s input budget m = EndsAs codes_run (primitives code_built) W s input budget m

-- and the other way round, of a tree whose locals get their cells in this form
pub record TreeEnds (celling : Celling) (trees_built : Builds Body) (W : World Body TreeState) (s : Script Body) (input : List (List ℕ)) (budget : ℕ) (m : Meaning Prototype CodeState) : Type 0 where
  pub meaning : Meaning Body TreeState
  pub is_meant : IsMeaning (trees celling) (primitives trees_built) W s input budget meaning
  pub alike : RunAlike meaning m

abbrev pub WholeRunsEndAlike : Type 0
WholeRunsEndAlike =
    (trees_built : Builds Body) (code_built : Builds Prototype) → BuildsAlike IsMeantBy trees_built code_built
    → (W : World Body TreeState) (V : World Prototype CodeState) → WorldsAlike IsMeantBy W V
    → (main : Body) (code : Prototype) (name : List ℕ) (lines : Bool) → Means lines code main → (input : List (List ℕ)) (budget : ℕ)
    → ((m : Meaning Body TreeState) → IsMeaning (trees when_captured) (primitives trees_built) W (script main name lines) input budget m → CodeEnds code_built V (script code name lines) input budget m)
    × ((m : Meaning Prototype CodeState) → IsMeaning codes_run (primitives code_built) V (script code name lines) input budget m → TreeEnds when_captured trees_built W (script main name lines) input budget m)

-- functions of the prelude of the same name and library, whose lines are not known, and that name as many outer variables
pub record EntryAlike (x : Entry Body) (y : Entry Prototype) : Type 0 where
  pub library : x.library ≡ y.library
  pub name : x.name ≡ y.name
  pub outer : outer_of x.entry ≡ outer_in y.entry
  pub meant : IsMeantBy false x.entry y.entry

abbrev pub EntriesAlike : List (Entry Body) → List (Entry Prototype) → Type 0
EntriesAlike [] [] = Unit {0}
EntriesAlike (x ∷ xs) (y ∷ ys) = EntryAlike x y × EntriesAlike xs ys
EntriesAlike _ _ = ⊥

-- worlds of the libraries, with such preludes
abbrev pub OpeningsAlike : Type 0
OpeningsAlike = (xs : List (Entry Body)) (ys : List (Entry Prototype)) → EntriesAlike xs ys → WorldsAlike IsMeantBy (tree_opening xs) (code_opening ys)

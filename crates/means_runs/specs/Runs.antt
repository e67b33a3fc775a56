-- A script's code by the machine, and as activations that talk to the world: what it prints and how it ends.
use Rattle.lua_meaning.specs.Step.{Primitives}
use Rattle.std.specs.Prelude.{◌≡◌, ◌≤◌, ℕ, false, List, [], ◌∷◌, length, Option, map}
use Rattle.int_core.specs.Value.{greatest_string}
use Rattle.code_core.specs.Prototype.{Prototype}
use Rattle.code_core.specs.Check.{IsChecked}
use Rattle.library_rows.specs.Library.{Entry}
use Rattle.machine_core.specs.World.{closed, World}
use Rattle.machine_core.specs.Moves.{Row}
use Rattle.machine_core.specs.Talk.{State}
use Rattle.lua_meaning.specs.World.{running}
use Rattle.lua_meaning.specs.Meaning as meaning
use Rattle.lua_meaning.specs.Meaning.{Script, Meaning, Outcome, IsMeaning}
use Rattle.code_means.specs.Runs.{codes_run, code_opening}
use Rattle.machine_sound.specs.Sound.{Each, Sound}
use Rattle.machine_sound.specs.Laws.{PrimitivesSafe}
use Rattle.machine_runs.specs.Opening.{opening, begun}
use Rattle.machine_runs.specs.Runs.{Close, has_returned, has_failed, has_spent, is_suspended, Run, CodeRun}
use Rattle.machine_means.specs.Joined.{TalkWorld, FunctionsPair, Named}
use Rattle.means_steps.specs.Steps.{MainWaits, SameLibrary}

-- both worlds before a script: the same tables, functions of the same code and cells, and the same values in the cells. In the machine's
-- world no coroutine has been made; in the other one the main coroutine is at hand
pub record OpenAlike (W : World) (T : TalkWorld) : Type 0 where
  pub heap : W.heap ≡ T.heap
  pub globals : W.globals ≡ T.globals
  pub functions : FunctionsPair W.functions T.functions
  pub cells : W.cells ≡ map closed T.cells
  pub idle : W.chain ≡ []
  pub none : W.coroutines ≡ []
  pub chain : T.chain ≡ 0 ∷ []
  pub main : T.coroutines ≡ running ∷ []

-- a script whose main function names the globals alone; its source's name and lines are known or not
pub record ScriptOk (script : Script Prototype) : Type 0 where
  pub checked : IsChecked script.main
  pub names_globals : length script.main.own.upvalues ≡ 1
  pub named : Named script.has_lines script.name script.main

-- how a run of the machine ended, and how one of the other world did
abbrev pub EndsAlike : Close → World → Outcome Prototype State → Type 0
EndsAlike has_returned W meaning.has_returned = Unit {0}
EndsAlike has_failed W meaning.has_failed = Unit {0}
EndsAlike has_spent W meaning.has_spent = Unit {0}
EndsAlike is_suspended W (meaning.is_suspended T) = MainWaits W T
EndsAlike _ W _ = ⊥

pub record RunsAlike (r : Run) (m : Meaning Prototype State) : Type 0 where
  pub printed : r.printed ≡ m.printed
  pub ends : EndsAlike r.close r.last m.outcome

-- what a run stands on
pub record ScriptWorlds (primitives : ℕ) (rows : ℕ → Row) (library : Primitives Prototype) (W : World) (T : TalkWorld) (script : Script Prototype) (input : List (List ℕ)) : Type 0 where
  pub safe : PrimitivesSafe primitives rows
  pub same : SameLibrary primitives rows library
  pub sound : Sound primitives W
  pub opened : OpenAlike W T
  pub script_ok : ScriptOk script
  pub lines : Each (λ (line : List ℕ). length line ≤ greatest_string) input

-- what the machine does on some lines is what the script's code means on them
abbrev pub ScriptsRun : Type 0
ScriptsRun =
    (primitives : ℕ) (rows : ℕ → Row) (library : Primitives Prototype) (W : World) (T : TalkWorld) (script : Script Prototype) (input : List (List ℕ)) (budget : ℕ) → ScriptWorlds primitives rows library W T script input
    → (r : Run) → CodeRun rows (begun W script.main) input budget r → (m : Meaning Prototype State) × IsMeaning codes_run library T script input budget m × RunsAlike r m

-- and the machine does what it means
abbrev pub ScriptsMean : Type 0
ScriptsMean =
    (primitives : ℕ) (rows : ℕ → Row) (library : Primitives Prototype) (W : World) (T : TalkWorld) (script : Script Prototype) (input : List (List ℕ)) (budget : ℕ) → ScriptWorlds primitives rows library W T script input
    → (m : Meaning Prototype State) → IsMeaning codes_run library T script input budget m → (r : Run) × CodeRun rows (begun W script.main) input budget r × RunsAlike r m

-- code without lines and names
abbrev pub IsBare : Entry Prototype → Type 0
IsBare e = Named false [] e.entry

-- the machine's world of the libraries, and that in which activations talk
abbrev pub OpensAlike : Type 0
OpensAlike = (prelude : List (Entry Prototype)) → Each IsBare prelude → OpenAlike (opening prelude) (code_opening prelude)

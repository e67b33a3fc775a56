-- That an image stands for a script that waits for a line.
use Rattle.std.specs.Prelude.{◌≡◌, ℕ, List}
use Rattle.tree_core.specs.Tree.{Body}
use Rattle.tree_activation.specs.Work.{when_declared, State}
use Rattle.code_core.specs.Prototype.{Prototype}
use Rattle.library_rows.specs.Library.{Entry}
use Rattle.load_rows.specs.Loading.{Builds}
use Rattle.lua_meaning.specs.World.{World as TreeWorld}
use Rattle.lua_meaning.specs.Meaning.{Meaning, is_suspended, IsOnward}
use Rattle.lua_meaning.specs.Opening.{primitives}
use Rattle.lua_meaning.specs.TreeMeaning.{trees}
use Rattle.machine_core.specs.World.{World}
use Rattle.machine_runs.specs.Laws.{AreShort}
use Rattle.machine_runs.specs.Runs.{Run, CodeOnward}
use Rattle.loaded_code.specs.Laws.{library}
use Rattle.lua_saving.specs.Saving.{IsSession, HasYielded}
use Rattle.scripts_mean.specs.Scripts.{RunsAs}

-- On all further lines and with every budget a session does what a suspended script means, and nothing else. What is loaded is built in both as `builds` says
pub record GoesOnAs (builds : Builds Body) (session : World) (script : TreeWorld Body State) : Type 0 where
  pub does : (lines : List (List ℕ)) (budget : ℕ) → AreShort lines → (run : Run) → CodeOnward (library builds) session lines budget run
      → (m : Meaning Body State) × IsOnward (trees when_declared) (primitives builds) script lines budget m × RunsAs run m
  pub means : (lines : List (List ℕ)) (budget : ℕ) → AreShort lines → (m : Meaning Body State) → IsOnward (trees when_declared) (primitives builds) script lines budget m
      → (run : Run) × CodeOnward (library builds) session lines budget run × RunsAs run m

-- the bytes stand for a suspended script: they are the image of a session that goes on as the script does
pub record Stands (builds : Builds Body) (prelude : List (Entry Prototype)) (bytes : List ℕ) (script : TreeWorld Body State) : Type 0 where
  pub session : World
  pub holds : IsSession prelude bytes session
  pub waits : HasYielded session
  pub goes_on : GoesOnAs builds session script

-- the meaning of a script is suspended, and the bytes stand for that
pub record StandsFor (builds : Builds Body) (prelude : List (Entry Prototype)) (bytes : List ℕ) (m : Meaning Body State) : Type 0 where
  pub script : TreeWorld Body State
  pub suspended : m.outcome ≡ is_suspended script
  pub stands : Stands builds prelude bytes script

-- What a call of the program on a script saved.
use Rattle.std.specs.Prelude.{◌≡◌, ℕ, ◌≤◌, false, List, length, Option, Some}
use Rattle.tree_core.specs.Tree.{Body}
use Rattle.tree_activation.specs.Work.{State}
use Rattle.code_core.specs.Prototype.{Prototype}
use Rattle.io_edge.specs.Content.{FileMap}
use Rattle.io_edge.specs.Lines.{lines_of}
use Rattle.load_rows.specs.Loading.{Builds}
use Rattle.lua_meaning.specs.Meaning.{Meaning}
use Rattle.prelude_code.specs.Prelude.{IsPreludeCode}
use Rattle.source_builds.specs.Builds.{BuildsSources}
use Rattle.program.specs.declared.session.Session.{Session}
use Rattle.program.specs.Devices.{Device, Holds}
use Rattle.program.specs.Checking.{begins_chunk}
use Rattle.program.specs.Meaning.{MeansOn}
use Rattle.machine_runs.specs.Laws.{AreShort}
use Rattle.program.specs.Running.{IsRun}
use Rattle.program.specs.Sessions.{functions_of}
use Rattle.calls_mean.specs.Images.{StandsFor}

-- a call of `run` on a file that holds a script and no chunk, over devices that tell. It answers 3, and the file that is named to save the session in holds
-- these bytes then
pub record IsSavingCall (builds : Builds Body) (name content text image bytes : List ℕ) (budget : ℕ) : Type 0 where
  pub files : Device FileMap
  pub input : Device (List ℕ)
  pub out : Device (List ℕ)
  pub last : Option Session
  pub is_run : IsRun builds name budget (Some image) files input out last 3
  pub holds : Holds files.content name content
  pub is_script : begins_chunk content ≡ false
  pub reads : input.content ≡ Some text
  pub saved : Holds files.content' image bytes
  pub short : length name ≤ 65536
  pub lines : AreShort (lines_of text)

-- the bytes stand for the session with the functions of the prelude's text
pub record StandFor (builds : Builds Body) (bytes : List ℕ) (m : Meaning Body State) : Type 0 where
  pub prelude : Prototype
  pub is_prelude : IsPreludeCode prelude
  pub stands : StandsFor builds (functions_of prelude) bytes m

-- what is loaded is built in the call, in the meaning and further on as `builds` says
abbrev pub SavedCallsStand : Type 0
SavedCallsStand =
    (builds : Builds Body) → BuildsSources builds → (name content text image bytes : List ℕ) (budget : ℕ)
    → IsSavingCall builds name content text image bytes budget → (m : Meaning Body State) → MeansOn builds name content (lines_of text) budget m → StandFor builds bytes m

-- Calls of `resume` on what a call before saved.
use Rattle.std.specs.Prelude.{◌≡◌, ◌≢◌, ◌≤◌, ℕ, false, List, [], ◌∷◌, ◌++◌, length, Option, Some, IsSome}
use Rattle.std.specs.Option.{option_map}
use Rattle.tree_core.specs.Tree.{Body}
use Rattle.tree_activation.specs.Work.{State}
use Rattle.io_edge.specs.Content.{FileMap}
use Rattle.io_edge.specs.Lines.{lines_of}
use Rattle.command_words.specs.Words.{Command, run, resume}
use Rattle.lua_meaning.specs.Meaning.{Meaning}
use Rattle.load_rows.specs.Loading.{Builds}
use Rattle.source_builds.specs.Readings.{AsRead}
use Rattle.machine_runs.specs.Runs.{Run}
use Rattle.program.specs.declared.session.Session.{Session}
use Rattle.program.specs.Checking.{begins_chunk}
use Rattle.program.specs.Devices.{Device, RoseIn, Holds}
use Rattle.program.specs.Meaning.{MeansOn}
use Rattle.machine_runs.specs.Laws.{AreShort}
use Rattle.program.specs.Program.{IsCall}
use Rattle.program.specs.Resuming.{ResumesOn}
use Rattle.program.specs.Sessions.{status_of_close, IsKept}
use Rattle.calls_mean.specs.Calls.{SavedCalls}
use Rattle.calls_mean.specs.Law.{all_lines, IsAsMeant}

-- a call that answered 3, and the file of a name that holds its session then; its input tells its bytes, whose lines strings can hold
pub record Saves (command : Command) (image session : List ℕ) : Type 0 where
  pub files : Device FileMap
  pub input : Device (List ℕ)
  pub out : Device (List ℕ)
  pub last : Option Session
  pub is_call : AsRead (λ builds. IsCall builds (Some command) files input out last 3)
  pub text : List ℕ
  pub reads : input.content ≡ Some text
  pub lines : AreShort (lines_of text)
  pub holds : Holds files.content' image session

-- a call of `run` on a script or a chunk, or of `resume` on an image, wherever that is from
pub data IsSavedByCall (session : List ℕ) : Type 0 where
  by_run : (name : List ℕ) (budget : ℕ) (image : List ℕ) → length name ≤ 65536 → Saves (run name budget (Some image)) image session → IsSavedByCall session
  by_resume : (name : List ℕ) (budget : ℕ) (image : List ℕ) → Saves (resume name budget (Some image)) image session → IsSavedByCall session

-- no call of `resume` answers that the bytes are no image of a session
abbrev pub SavedIsNotRefused : Type 0
SavedIsNotRefused =
    (session : List ℕ) → IsSavedByCall session → (name : List ℕ) (budget : ℕ) (save : Option (List ℕ)) (files : Device FileMap) (input out : Device (List ℕ)) (last : Option Session) (status : ℕ)
    → AsRead (λ builds. IsCall builds (Some (resume name budget save)) files input out last status) → Holds files.content name session → status ≢ 8

-- a call of `resume` whose devices tell and do not fail, within the limits and with memory
pub record ResumesCalmly (budget : ℕ) (session text : List ℕ) (out : Device (List ℕ)) (status : ℕ) : Type 0 where
  pub name : List ℕ
  pub save : Option (List ℕ)
  pub files : Device FileMap
  pub input : Device (List ℕ)
  pub last : Option Session
  pub is_call : AsRead (λ builds. IsCall builds (Some (resume name budget save)) files input out last status)
  pub holds : Holds files.content name session
  pub reads : input.content ≡ Some text
  pub files_calm : ¬ (RoseIn files)
  pub input_calm : ¬ (RoseIn input)
  pub out_calm : ¬ (RoseIn out)
  pub within : status ≢ 7
  pub ample : status ≢ 9

-- a run of the session of the bytes on the lines of the input, which is written and answered, and saved where a file is named for that
pub record IsResumed (builds : Builds Body) (budget : ℕ) (session text : List ℕ) (out : Device (List ℕ)) (status : ℕ) (save : Option (List ℕ)) (files : Device FileMap) : Type 0 where
  pub run : Run
  pub does : ResumesOn builds session (lines_of text) budget run
  pub answers : status ≡ status_of_close run.close
  pub writes : out.content' ≡ option_map (λ before. before ++ run.printed) out.content
  pub keeps : IsKept does.prelude run files save

-- such a call goes on with the session, unless an image from elsewhere had changed the prelude and the session is to be saved
abbrev pub SavedGoesOn : Type 0
SavedGoesOn =
    (session : List ℕ) → IsSavedByCall session → (budget : ℕ) (text : List ℕ) (out : Device (List ℕ)) (status : ℕ) (call : ResumesCalmly budget session text out status) → (IsSome call.save → status ≢ 12)
    → AsRead (λ builds. IsResumed builds budget session text out status call.save call.files)

-- After calls on a script or a chunk no call of `resume` answers 12, whatever its arguments and its devices are: no code has changed what saving looks at
abbrev pub SavedIsUnchanged : Type 0
SavedIsUnchanged =
    (name content : List ℕ) (budget : ℕ) (texts : List (List ℕ)) (printed session : List ℕ) → SavedCalls budget name content texts printed session → length name ≤ 65536 → AreShort (all_lines texts)
    → (other : List ℕ) (own : ℕ) (save : Option (List ℕ)) (files : Device FileMap) (input out : Device (List ℕ)) (last : Option Session) (status : ℕ)
    → AsRead (λ builds. IsCall builds (Some (resume other own save)) files input out last status) → Holds files.content other session → (text : List ℕ) → input.content ≡ Some text → AreShort (lines_of text) → status ≢ 12

-- what it writes is the rest of what the script means on all lines, and its status is that of the script's end
abbrev pub ResumesAsMeant : Type 0
ResumesAsMeant =
    (name content : List ℕ) (budget : ℕ) (texts : List (List ℕ)) (printed session : List ℕ) → SavedCalls budget name content texts printed session → begins_chunk content ≡ false → length name ≤ 65536
    → (text before : List ℕ) (out : Device (List ℕ)) (status : ℕ) → AreShort (all_lines (texts ++ text ∷ [])) → out.content ≡ Some before → ResumesCalmly budget session text out status
    → (more : List ℕ) × (out.content' ≡ Some (before ++ more))
    × AsRead (λ builds. (m : Meaning Body State) × MeansOn builds name content (all_lines (texts ++ text ∷ [])) budget m × IsAsMeant m (printed ++ more) status)

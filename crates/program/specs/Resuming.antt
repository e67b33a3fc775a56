-- What `resume` does with a file: the session whose image it holds goes on with the lines of the input.
use Rattle.std.specs.Prelude.{◌≡◌, ◌≢◌, ◌⊎◌, ℕ, true, List, ◌++◌, Option, Some, None, IsSome, IfSome, IsSomeAnd}
use Rattle.std.specs.Option.{option_map}
use Rattle.load_rows.specs.Loading.{Builds}
use Rattle.tree_core.specs.Tree.{Body}
use Rattle.code_core.specs.Prototype.{Prototype}
use Rattle.io_edge.specs.Content.{FileMap, GrowsByFront, MayEndTelling}
use Rattle.io_edge.specs.Lines.{lines_of}
use Rattle.prelude_code.specs.Prelude.{IsPreludeCode}
use Rattle.machine_core.specs.World.{World}
use Rattle.machine_runs.specs.Runs.{is_suspended, Run, CodeOnward}
use Rattle.loaded_code.specs.Laws.{library}
use Rattle.lua_feed.specs.Feeding.{GoesOn, OnlyGrows}
use Rattle.lua_feed.specs.Limits.{usable_lines, passes_limits}
use Rattle.lua_saving.specs.Saving.{IsSession, HasYielded}
use Rattle.program.specs.Devices.{Device, RoseIn, GrewIn, Lacks, Holds, Has, IsUntouched, KeepsOthers}
use Rattle.program.specs.Meaning.{has_ended}
use Rattle.program.specs.Sessions.{functions_of, status_of_close, IsSessionOf, IsKept, IsCutShort, Ends}
use Rattle.program.specs.declared.session.Session.{Session}

-- what the session of an image does on lines of input, in a world of the libraries, whose prelude is its text's code; each turn has the budget
pub record ResumesOn (builds : Builds Body) (content : List ℕ) (lines : List (List ℕ)) (budget : ℕ) (run : Run) : Type 0 where
  pub prelude : Prototype
  pub is_prelude : IsPreludeCode prelude
  pub session : World
  pub holds : IsSession (functions_of prelude) content session
  pub waits : HasYielded session
  pub runs : CodeOnward (library builds) session lines budget run

-- the bytes are no image of a session that waits for a line
abbrev pub HoldsNoSession : List ℕ → Type 0
HoldsNoSession content = (prelude : Prototype) → IsPreludeCode prelude → (session : World) → IsSession (functions_of prelude) content session → HasYielded session → ⊥

-- why no session goes on: the file is not there, reading it failed, and no file is changed, the prelude is refused, the file holds no session, or there is no memory
pub data IsNotResumed (name : List ℕ) (files : Device FileMap) : (status : ℕ) → Type 0 where
  absent : IfSome files.content (λ held. held name ≡ None) → IsNotResumed name files 11
  unread : RoseIn files → MayEndTelling files.content files.content' → IsNotResumed name files 6
  no_prelude : ((code : Prototype) → IsPreludeCode code → ⊥) → IsNotResumed name files 12
  no_session : (content : List ℕ) → Has files name content → HoldsNoSession content → IsNotResumed name files 8
  no_memory : IsNotResumed name files 9

pub data IsCause (builds : Builds Body) (name : List ℕ) (budget : ℕ) (save : Option (List ℕ)) (files : Device FileMap) (input out : Device (List ℕ)) (last : Option Session) (status : ℕ) : Type 0 where
  not_resumed : IsNotResumed name files status → IsUntouched input → IsUntouched out → IsCause builds name budget save files input out last status
  goes_on : (content : List ℕ) (prelude : Prototype) (session : World) → Has files name content → IsPreludeCode prelude → IsSession (functions_of prelude) content session → HasYielded session
      → Ends prelude (GoesOn (library builds) session budget) save files input out last status → IsCause builds name budget save files input out last status

-- What resuming does to the devices, and what it answers: what the session does is written and answered, and where it waits for a line at the end, it is saved
-- in the file that is named for that. 0 returned, 1 failed, 3 suspended, 4 budget spent, 6 device fault, 7 input limit or image too large, 8 image refused,
-- 9 out of memory, 11 no such file, 12 prelude refused, or changed where it is to be saved, which takes an image that no call has written.
pub record IsResume (builds : Builds Body) (name : List ℕ) (budget : ℕ) (save : Option (List ℕ)) (files : Device FileMap) (input out : Device (List ℕ)) (last : Option Session) (status : ℕ) : Type 0 where
  -- each status has its cause
  pub cause : IsCause builds name budget save files input out last status
  -- and the cause gives the status, unless memory runs out
  pub absent : Lacks files.content name → ¬ (RoseIn files) → status ≡ 11
  pub no_session : (content : List ℕ) → Holds files.content name content → HoldsNoSession content → ¬ (RoseIn files) → status ≢ 9 → status ≢ 12 → status ≡ 8
  pub runs : (content text : List ℕ) (run : Run) → Holds files.content name content → input.content ≡ Some text → (does : ResumesOn builds content (lines_of text) budget run)
      → ¬ (RoseIn files) → ¬ (RoseIn input) → ¬ (RoseIn out) → status ≢ 7 → status ≢ 9 → (IsSome save → status ≢ 12)
      → (status ≡ status_of_close run.close) × (out.content' ≡ option_map (λ before. before ++ run.printed) out.content) × IsKept does.prelude run files save
  -- the session that went on is handed back, saved or not
  pub session : (content text : List ℕ) (run : Run) → Holds files.content name content → input.content ≡ Some text → ResumesOn builds content (lines_of text) budget run
      → has_ended status ≡ true → IsSomeAnd last (IsSessionOf run)
  -- Where the line that is waited for is past the limits, what the lines before it give is written, and nothing is saved
  pub limit : (content text : List ℕ) (run : Run) → Holds files.content name content → input.content ≡ Some text → ResumesOn builds content (usable_lines 0 text) budget run
      → run.close ≡ is_suspended → passes_limits 0 text ≡ true → ¬ (RoseIn files) → ¬ (RoseIn input) → ¬ (RoseIn out) → status ≢ 9
      → (status ≡ 7) × (out.content' ≡ option_map (λ before. before ++ run.printed) out.content) × (files.content' ≡ files.content)
  pub fault : GrewIn files ⊎ (GrewIn input ⊎ GrewIn out) → status ≡ 6
  -- where the input failed, all is written that its first lines give, up to one for which the session waits then
  pub cut_short : (content text : List ℕ) → Holds files.content name content → input.content ≡ Some text → GrewIn input
      → IsCutShort (λ lines run. ResumesOn builds content lines budget run) text out
  -- whatever the status is, a prefix is written of what the lines give that are not past the limits
  pub front : (content text : List ℕ) (run : Run) → Holds files.content name content → input.content ≡ Some text → ResumesOn builds content (usable_lines 0 text) budget run
      → GrowsByFront run.printed out.content out.content'
  pub grows : OnlyGrows out.content out.content'
  pub others_kept : KeepsOthers save files
  pub files_same : (status ≡ 6 → ¬ (RoseIn files)) → (status ≡ 3 → save ≡ None) → files.content' ≡ files.content

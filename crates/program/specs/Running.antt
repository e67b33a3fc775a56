-- What `run` does with a file: the code in it runs on the lines of the input (Lua's `lua.c`).
use Rattle.std.specs.Prelude.{◌≡◌, ◌≢◌, ◌⊎◌, ℕ, List, ◌++◌, true, false, Option, Some, None, IfSome, IsSomeAnd}
use Rattle.std.specs.Bool.{MatchBool}
use Rattle.std.specs.Option.{option_map}
use Rattle.load_rows.specs.Loading.{Builds}
use Rattle.tree_core.specs.Tree.{Block, Body}
use Rattle.tree_activation.specs.Work.{State}
use Rattle.scope_core.specs.Places.{placed}
use Rattle.code_core.specs.Prototype.{Prototype}
use Rattle.code_core.specs.Check.{IsChecked}
use Rattle.code_means.specs.Means.{Means}
use Rattle.io_edge.specs.Content.{FileMap, GrowsByFront, MayEndTelling}
use Rattle.io_edge.specs.Lines.{lines_of}
use Rattle.compile_text.specs.Source.{IsSource}
use Rattle.compile_chunk.specs.Chunk.{IsCodeOf, script_in}
use Rattle.prelude_code.specs.Prelude.{IsPreludeCode}
use Rattle.lua_meaning.specs.Meaning.{Meaning}
use Rattle.machine_runs.specs.Runs.{Run, CodeRun, is_suspended}
use Rattle.loaded_code.specs.Laws.{library}
use Rattle.lua_feed.specs.Feeding.{Does, OnlyGrows}
use Rattle.lua_feed.specs.Limits.{usable_lines, passes_limits}
use Rattle.lua_feed.specs.Running.{started}
use Rattle.program.specs.Devices.{Device, RoseIn, GrewIn, Lacks, Holds, Has, IsUntouched, KeepsOthers}
use Rattle.program.specs.Checking.{begins_chunk, IsAccepted, HoldsNoChunk}
use Rattle.program.specs.Compiling.{source_name, HoldsNoScript}
use Rattle.program.specs.Meaning.{MeansOn, EndsWith, IsWaiting, has_ended, IsDoneAsMeant, IsMeantShort}
use Rattle.machine_runs.specs.Laws.{AreShort}
use Rattle.program.specs.Sessions.{status_of_close, IsSessionOf, IsKept, IsCutShort, Ends}
use Rattle.program.specs.declared.session.Session.{Session}

-- the code in a file: that of the chunk with which it begins, or that of the script in it, with the file's name and lines
abbrev pub HoldsCode : (name content : List ℕ) → Prototype → Type 0
HoldsCode name content code = MatchBool (begins_chunk content) (IsAccepted content code) (IsCodeOf (source_name name) (script_in content) true code)

-- what the code in a file does on lines of input, from the world of the libraries, whose prelude is its text's code; each turn has the budget
pub record RunsOn (builds : Builds Body) (name content : List ℕ) (lines : List (List ℕ)) (budget : ℕ) (run : Run) : Type 0 where
  pub prelude : Prototype
  pub is_prelude : IsPreludeCode prelude
  pub code : Prototype
  pub holds : HoldsCode name content code
  pub runs : CodeRun (library builds) (started prelude code) lines budget run

-- what a script's code does on lines of input: checked code that means the tree of the script in the file, from the world of the libraries
pub record RunsScript (builds : Builds Body) (name content : List ℕ) (lines : List (List ℕ)) (budget : ℕ) (run : Run) : Type 0 where
  pub tree : Block
  pub is_source : IsSource (script_in content) tree
  pub prelude : Prototype
  pub is_prelude : IsPreludeCode prelude
  pub code : Prototype
  pub holds : HoldsCode name content code
  pub checked : IsChecked code
  pub means : Means true code (placed tree)
  pub runs : CodeRun (library builds) (started prelude code) lines budget run

-- why a file is not run: it is not there, reading it failed, and no file is changed, the prelude is refused, it holds no script or no chunk, or there is no memory
pub data IsNotRun (name : List ℕ) (files : Device FileMap) : (status : ℕ) → Type 0 where
  absent : IfSome files.content (λ held. held name ≡ None) → IsNotRun name files 11
  unread : RoseIn files → MayEndTelling files.content files.content' → IsNotRun name files 6
  no_prelude : ((code : Prototype) → IsPreludeCode code → ⊥) → IsNotRun name files 12
  no_script : (content : List ℕ) → Has files name content → begins_chunk content ≡ false → HoldsNoScript content → IsNotRun name files 5
  no_chunk : (content : List ℕ) → Has files name content → begins_chunk content ≡ true → HoldsNoChunk content → IsNotRun name files 8
  no_memory : IsNotRun name files 9

pub data IsCause (builds : Builds Body) (name : List ℕ) (budget : ℕ) (save : Option (List ℕ)) (files : Device FileMap) (input out : Device (List ℕ)) (last : Option Session) (status : ℕ) : Type 0 where
  not_run : IsNotRun name files status → IsUntouched input → IsUntouched out → IsCause builds name budget save files input out last status
  has_run : (content : List ℕ) (prelude code : Prototype) → Has files name content → IsPreludeCode prelude → HoldsCode name content code
      → Ends prelude (Does (library builds) (started prelude code) budget) save files input out last status → IsCause builds name budget save files input out last status

-- What running does to the devices, and what it answers. What a script means is written and answered, and of a chunk what its code does; where it waits for
-- a line at the end, its session is saved in the file that is named for that. 0 returned, 1 failed, 3 suspended, 4 budget spent, 5 source refused, 6 device
-- fault, 7 input limit or image too large, 8 chunk refused, 9 out of memory, 11 no such file, 12 prelude refused.
pub record IsRun (builds : Builds Body) (name : List ℕ) (budget : ℕ) (save : Option (List ℕ)) (files : Device FileMap) (input out : Device (List ℕ)) (last : Option Session) (status : ℕ) : Type 0 where
  -- each status has its cause
  pub cause : IsCause builds name budget save files input out last status
  -- and the cause gives the status, unless memory runs out
  pub absent : Lacks files.content name → ¬ (RoseIn files) → status ≡ 11
  pub no_script : (content : List ℕ) → Holds files.content name content → begins_chunk content ≡ false → HoldsNoScript content
      → ¬ (RoseIn files) → status ≢ 9 → status ≢ 12 → status ≡ 5
  pub no_chunk : (content : List ℕ) → Holds files.content name content → begins_chunk content ≡ true → HoldsNoChunk content
      → ¬ (RoseIn files) → status ≢ 9 → status ≢ 12 → status ≡ 8
  pub runs : (content text : List ℕ) (run : Run) → Holds files.content name content → input.content ≡ Some text → (does : RunsOn builds name content (lines_of text) budget run)
      → ¬ (RoseIn files) → ¬ (RoseIn input) → ¬ (RoseIn out) → status ≢ 7 → status ≢ 9
      → (status ≡ status_of_close run.close) × (out.content' ≡ option_map (λ before. before ++ run.printed) out.content) × IsKept does.prelude run files save
  -- 12 tells that the libraries' text is refused, and nothing of a script: whatever its code does, it leaves what saving looks at as it was made
  pub no_prelude : status ≡ 12 → (code : Prototype) → IsPreludeCode code → ⊥
  -- what the source of a script means is written and answered, and a script that was run to an end did what its source means
  pub means : (content text : List ℕ) (m : Meaning Body State) → Holds files.content name content → input.content ≡ Some text → AreShort (lines_of text)
      → MeansOn builds name content (lines_of text) budget m → ¬ (RoseIn files) → ¬ (RoseIn input) → ¬ (RoseIn out) → status ≢ 7 → status ≢ 9 → status ≢ 12
      → EndsWith m.outcome status × (out.content' ≡ option_map (λ before. before ++ m.printed) out.content)
  pub meant : (content text : List ℕ) → Holds files.content name content → begins_chunk content ≡ false → input.content ≡ Some text → AreShort (lines_of text)
      → has_ended status ≡ true → IsDoneAsMeant builds name content (lines_of text) budget out status
  -- the session that ran is handed back, saved or not, and that of a script is one in which its code ran
  pub session : (content text : List ℕ) (run : Run) → Holds files.content name content → input.content ≡ Some text → RunsOn builds name content (lines_of text) budget run
      → has_ended status ≡ true → IsSomeAnd last (IsSessionOf run)
  pub ran_script : (content text : List ℕ) → Holds files.content name content → begins_chunk content ≡ false → input.content ≡ Some text → has_ended status ≡ true
      → (run : Run) × RunsScript builds name content (lines_of text) budget run × IsSomeAnd last (IsSessionOf run)
  -- Where the line that is waited for is past the limits, what the lines before it give is written, and nothing is saved
  pub limit : (content text : List ℕ) (run : Run) → Holds files.content name content → input.content ≡ Some text → RunsOn builds name content (usable_lines 0 text) budget run
      → run.close ≡ is_suspended → passes_limits 0 text ≡ true → ¬ (RoseIn files) → ¬ (RoseIn input) → ¬ (RoseIn out) → status ≢ 9
      → (status ≡ 7) × (out.content' ≡ option_map (λ before. before ++ run.printed) out.content) × (files.content' ≡ files.content)
  pub meant_limit : (content text : List ℕ) (m : Meaning Body State) → Holds files.content name content → input.content ≡ Some text → MeansOn builds name content (usable_lines 0 text) budget m
      → IsWaiting m.outcome → passes_limits 0 text ≡ true → ¬ (RoseIn files) → ¬ (RoseIn input) → ¬ (RoseIn out) → status ≢ 9 → status ≢ 12
      → (status ≡ 7) × (out.content' ≡ option_map (λ before. before ++ m.printed) out.content)
  pub fault : GrewIn files ⊎ (GrewIn input ⊎ GrewIn out) → status ≡ 6
  -- where the input failed, all is written that its first lines give, up to one for which the script waits then
  pub cut_short : (content text : List ℕ) → Holds files.content name content → input.content ≡ Some text → GrewIn input
      → IsCutShort (λ lines run. RunsOn builds name content lines budget run) text out
  pub meant_cut_short : (content text : List ℕ) → Holds files.content name content → begins_chunk content ≡ false → input.content ≡ Some text → GrewIn input
      → IsMeantShort builds name content text budget out
  -- whatever the status is, a prefix is written of what the lines give that are not past the limits
  pub front : (content text : List ℕ) (run : Run) → Holds files.content name content → input.content ≡ Some text → RunsOn builds name content (usable_lines 0 text) budget run
      → GrowsByFront run.printed out.content out.content'
  pub meant_front : (content text : List ℕ) (m : Meaning Body State) → Holds files.content name content → input.content ≡ Some text
      → MeansOn builds name content (usable_lines 0 text) budget m → GrowsByFront m.printed out.content out.content'
  pub grows : OnlyGrows out.content out.content'
  pub others_kept : KeepsOthers save files
  pub files_same : (status ≡ 6 → ¬ (RoseIn files)) → (status ≡ 3 → save ≡ None) → files.content' ≡ files.content

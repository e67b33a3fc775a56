-- What `work` does: the script of so many functions runs without input, and then the number of its functions and that of its bytes are written.
use Rattle.std.specs.Prelude.{◌≡◌, ◌≢◌, ℕ, List, [], ◌++◌, length, true, Option, IsSomeAnd, codes, decimal}
use Rattle.std.specs.Option.{option_map}
use Rattle.load_rows.specs.Loading.{Builds}
use Rattle.tree_core.specs.Tree.{Block, Body}
use Rattle.tree_activation.specs.Work.{when_declared, State}
use Rattle.scope_core.specs.Places.{placed}
use Rattle.code_core.specs.Prototype.{Prototype}
use Rattle.code_core.specs.Check.{IsChecked}
use Rattle.library_rows.specs.PreludeText.{prelude_text}
use Rattle.io_edge.specs.Content.{GrowsByFront}
use Rattle.compile_text.specs.Source.{IsSource}
use Rattle.compile_chunk.specs.Chunk.{IsCodeOf}
use Rattle.prelude_code.specs.Prelude.{IsPreludeCode}
use Rattle.lua_meaning.specs.Meaning.{Meaning, IsMeaning}
use Rattle.lua_meaning.specs.Opening.{primitives, prelude_of}
use Rattle.lua_meaning.specs.TreeMeaning.{trees, tree_opening}
use Rattle.runs_alike.specs.Alike.{script}
use Rattle.machine_runs.specs.Runs.{Run, CodeRun}
use Rattle.loaded_code.specs.Laws.{library}
use Rattle.scripts_mean.specs.Scripts.{IsRead, functions_in}
use Rattle.lua_feed.specs.Running.{started}
use Rattle.work_script.specs.Script.{work_script}
use Rattle.program.specs.declared.session.Session.{Session}
use Rattle.program.specs.Devices.{Device, RoseIn, GrewIn, IsUntouched}
use Rattle.lua_feed.specs.Feeding.{OnlyGrows}
use Rattle.program.specs.Meaning.{EndsWith, has_ended}
use Rattle.program.specs.Sessions.{status_of_close, IsSessionOf}

-- What the script means by the letter of the manual, under the name `work` and with lines: in the world of the libraries, whose Lua functions are those of the
-- prelude's text, on no line of input. Each turn has the budget that a call has where its arguments name none
pub record WorkMeans (builds : Builds Body) (count : ℕ) (m : Meaning Body State) : Type 0 where
  pub tree : Block
  pub is_source : IsSource (work_script count) tree
  pub prelude : Block
  pub is_prelude : IsRead prelude_text prelude
  pub means : IsMeaning (trees when_declared) (primitives builds) (tree_opening (prelude_of (functions_in (placed prelude)))) (script (placed tree) (codes "work") true) [] 10000000 m

-- what its code does: checked code that means the script's tree, from the world of the libraries
pub record WorkRuns (builds : Builds Body) (count : ℕ) (run : Run) : Type 0 where
  pub prelude : Prototype
  pub is_prelude : IsPreludeCode prelude
  pub code : Prototype
  pub is_code : IsCodeOf (codes "work") (work_script count) true code
  pub checked : IsChecked code
  pub runs : CodeRun (library builds) (started prelude code) [] 10000000 run

-- `work`, the number of functions and that of the script's bytes
abbrev pub line_of_work : (count : ℕ) → List ℕ
line_of_work count = codes "work " ++ (decimal count ++ (codes " " ++ (decimal (length (work_script count)) ++ codes "\n")))

-- why the script is not run: the prelude is refused, the script is none, or there is no memory
pub data IsNotRun (count : ℕ) : (status : ℕ) → Type 0 where
  no_prelude : ((code : Prototype) → IsPreludeCode code → ⊥) → IsNotRun count 12
  no_script : ((tree : Block) → IsSource (work_script count) tree → ⊥) → IsNotRun count 5
  no_memory : IsNotRun count 9

pub data IsCause (builds : Builds Body) (count : ℕ) (out : Device (List ℕ)) (last : Option Session) : (status : ℕ) → Type 0 where
  not_run : (status : ℕ) → IsNotRun count status → IsUntouched out → IsCause builds count out last status
  has_run : (run : Run) → WorkRuns builds count run → out.content' ≡ option_map (λ before. before ++ (run.printed ++ line_of_work count)) out.content → IsSomeAnd last (IsSessionOf run)
      → IsCause builds count out last (status_of_close run.close)
  failed : RoseIn out → IsCause builds count out last 6
  out_of_memory : IsCause builds count out last 9

-- What working does to the output, and what it answers. What the script means is written, then its line, and the status is that of how it ends: 0 returned,
-- 1 failed, 3 suspended, 4 budget spent. Else it is 5 for a script that is none, 6 device fault, 9 out of memory, and 12 prelude refused.
pub record IsWork (builds : Builds Body) (count : ℕ) (out : Device (List ℕ)) (last : Option Session) (status : ℕ) : Type 0 where
  -- each status has its cause
  pub cause : IsCause builds count out last status
  -- and the cause gives the status, unless memory runs out
  pub runs : (run : Run) → WorkRuns builds count run → ¬ (RoseIn out) → status ≢ 9
      → (status ≡ status_of_close run.close) × (out.content' ≡ option_map (λ before. before ++ (run.printed ++ line_of_work count)) out.content)
  pub means : (m : Meaning Body State) → WorkMeans builds count m → ¬ (RoseIn out) → status ≢ 9 → status ≢ 12
      → EndsWith m.outcome status × (out.content' ≡ option_map (λ before. before ++ (m.printed ++ line_of_work count)) out.content)
  pub meant : has_ended status ≡ true
      → (m : Meaning Body State) × WorkMeans builds count m × EndsWith m.outcome status × (out.content' ≡ option_map (λ before. before ++ (m.printed ++ line_of_work count)) out.content)
  -- the session that ran is handed back
  pub session : has_ended status ≡ true → (run : Run) × WorkRuns builds count run × IsSomeAnd last (IsSessionOf run)
  pub fault : GrewIn out → status ≡ 6
  -- whatever the status is
  pub front : (run : Run) → WorkRuns builds count run → GrowsByFront (run.printed ++ line_of_work count) out.content out.content'
  pub meant_front : (m : Meaning Body State) → WorkMeans builds count m → GrowsByFront (m.printed ++ line_of_work count) out.content out.content'
  pub grows : OnlyGrows out.content out.content'

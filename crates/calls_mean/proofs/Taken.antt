-- What a call saved is never refused: there is a session of the bytes, and it goes on.
use Rattle.std.proofs.Common.{◌≡◌, ◌≢◌, ℕ, ◌≤◌, Bool, true, false, List, length, Option, Some, refl, sym, subst, ◌∙◌, ⊎_elim, arith}
use Rattle.std.specs.Prelude.{IsSome}
use Rattle.std.specs.Bool.{MatchBool}
use Rattle.code_core.specs.Check.{IsChecked}
use Rattle.code_core.specs.Prototype.{Prototype}
use Rattle.compile_chunk.specs.Chunk.{IsCodeOf, script_in}
use Rattle.prelude_code.specs.Prelude.{IsPreludeCode}
use Rattle.io_edge.specs.Content.{FileMap}
use Rattle.io_edge.specs.Lines.{lines_of}
use Rattle.machine_runs.specs.Laws.{PreludeOk, AreShort}
use Rattle.machine_runs.specs.Runs.{Close, has_returned, has_failed, has_spent, is_suspended, Run, CodeOnward}
use Rattle.loaded_code.specs.Laws.{library, load_by}
use Rattle.load_rows.specs.Loading.{Builds}
use Rattle.source_builds.specs.Builds.{BuildsSources}
use Rattle.source_builds.proofs.Knowing.{read_map}
use Rattle.source_builds.proofs.Lookups.{read_some}
use Rattle.tree_core.specs.Tree.{Body}
use Rattle.lua_feed.specs.Feeding.{Does, GoesOn}
use Rattle.lua_feed.specs.Running.{started}
use Rattle.lua_saving.specs.Saving.{IsSession}
use Rattle.scripts_mean.specs.Scripts.{PreludeIsAlike}
use Rattle.session_images.specs.Laws.{IsLibrary}
use Rattle.sessions_join.specs.Sessions.{IsSaved}
use Rattle.sessions_load.specs.Law.{IsLoadable, RunIsLoadable, OnwardIsLoadable}
use Rattle.sessions_mean.proofs.Meant.{LoadingStands, loading_fits}
use Rattle.source_laws.specs.Checked.{CodeOfSourcesIsChecked}
use Rattle.program.specs.declared.session.Session.{Session}
use Rattle.program.specs.Checking.{begins_chunk, IsAccepted}
use Rattle.program.specs.Compiling.{source_name}
use Rattle.program.specs.Devices.{Device, RoseIn, Holds, Has}
use Rattle.program.specs.Resuming as resuming
use Rattle.program.specs.Resuming.{HoldsNoSession, IsNotResumed}
use Rattle.program.specs.Running as running
use Rattle.program.specs.Running.{HoldsCode}
use Rattle.program.specs.Sessions as session
use Rattle.program.specs.Sessions.{functions_of, status_of_close, IsKept, IsLeft, Ends}
use Rattle.program.proofs.DeviceLemmas.{same_content, no_content}
use Rattle.program.proofs.Endings.{told_lines}
use Rattle.program.proofs.Meant.{not_run_ends}
use Rattle.program.proofs.MeaningLemmas.{read_of, name_is_short}
use Rattle.calls_mean.specs.Resumes.{IsSavedByCall, by_run, by_resume, SavedIsNotRefused, ResumesCalmly, IsResumed, SavedGoesOn}
use Rattle.calls_mean.proofs.Ended.{saved_so}
use Rattle.calls_mean.proofs.Meant.{all_there}
use Rattle.program.proofs.ResumeLemmas.{not_resumed_ends}

-- a session of the bytes, in a world of the libraries
record IsTaken (session : List ℕ) : Type 0 where
  prelude : Prototype
  is_prelude : IsPreludeCode prelude
  loadable : IsLoadable (functions_of prelude) session

-- what the libraries have

pub library_of : PreludeIsAlike → (prelude : Prototype) → IsPreludeCode prelude → IsLibrary (functions_of prelude)
library_of alike prelude own =
    let made = own.compiled in
    record {
      ok = subst (λ p. PreludeOk (functions_of p)) (sym made.code_is) (alike made.tree (read_of _ made.tree made.is_source)).ok;
      count = all_there prelude own;
    }

-- the code in a file is checked
pub code_checked : CodeOfSourcesIsChecked → (name content : List ℕ) (code : Prototype) → length name ≤ 65536 → HoldsCode name content code → IsChecked code
code_checked law name content code short holds = by (begins_chunk content) holds
  where
    by : (b : Bool) → MatchBool b (IsAccepted content code) (IsCodeOf (source_name name) (script_in content) true code) → IsChecked code
    by true accepted = accepted.checked
    by false made =
        let read = read_of (script_in content) made.tree made.is_source in
        subst IsChecked (sym made.code_is) (law (script_in content) read.tokens made.tree read.limited read.lexed read.derived read.lawful (Some (source_name name)) (name_is_short name short))

-- what is known of a run that ended so
pub record Waited (prelude : Prototype) (Runs : List (List ℕ) → Run → Type 0) (text session : List ℕ) : Type 0 where
  pub run : Run
  pub runs : Runs (lines_of text) run
  pub suspended : run.close ≡ is_suspended
  pub saved : IsSaved (functions_of prelude) run.last session

pub waited : (prelude : Prototype) (Runs : List (List ℕ) → Run → Type 0) (files : Device FileMap) (input out : Device (List ℕ)) (last : Option Session) (image text bytes : List ℕ) (status : ℕ)
    → Ends prelude Runs (Some image) files input out last status → status ≡ 3 → input.content ≡ Some text → Holds files.content' image bytes → Waited prelude Runs text bytes
waited prelude Runs files input out last image text bytes status (session.closed lines are run runs written left handed) is told holds =
    let s = saved_so prelude run files image bytes status left is holds in
    record { run = run; runs = subst (λ (l : List (List ℕ)). Runs l run) (told_lines input.content text lines are told) runs; suspended = s.0; saved = s.1 }
waited prelude Runs files input out last image text bytes status (session.failed rose so) is told holds = let k : 3 ≡ 6 = sym is ∙ so in absurd (omega (arith, k))
waited prelude Runs files input out last image text bytes status (session.past_limits past so) is told holds = let k : 3 ≡ 7 = sym is ∙ so in absurd (omega (arith, k))
waited prelude Runs files input out last image text bytes status (session.no_memory so) is told holds = let k : 3 ≡ 9 = sym is ∙ so in absurd (omega (arith, k))

-- a call that answers 8 has read no session

no_close : (c : Close) → status_of_close c ≡ 8 → ⊥
no_close has_returned is = let k : 0 ≡ 8 = is in absurd (omega (arith, k))
no_close has_failed is = let k : 1 ≡ 8 = is in absurd (omega (arith, k))
no_close is_suspended is = let k : 3 ≡ 8 = is in absurd (omega (arith, k))
no_close has_spent is = let k : 4 ≡ 8 = is in absurd (omega (arith, k))

not_left : (prelude : Prototype) (run : Run) (save : Option (List ℕ)) (files : Device FileMap) (status : ℕ) → IsLeft prelude run save files status → status ≡ 8 → ⊥
not_left prelude run save files _ (session.kept kept) is = no_close run.close is
not_left prelude run save files _ (session.too_large named waits large) is = let k : 7 ≡ 8 = is in absurd (omega (arith, k))
not_left prelude run save files _ (session.changed named waits other) is = let k : 12 ≡ 8 = is in absurd (omega (arith, k))
not_left prelude run save files _ (session.unwritten named waits rose) is = let k : 6 ≡ 8 = is in absurd (omega (arith, k))
not_left prelude run save files _ (session.no_memory named waits) is = let k : 9 ≡ 8 = is in absurd (omega (arith, k))

not_ends : (prelude : Prototype) (Runs : List (List ℕ) → Run → Type 0) (save : Option (List ℕ)) (files : Device FileMap) (input out : Device (List ℕ)) (last : Option Session) (status : ℕ)
    → Ends prelude Runs save files input out last status → status ≡ 8 → ⊥
not_ends prelude Runs save files input out last status (session.closed lines are run runs written left handed) is = not_left prelude run save files status left is
not_ends prelude Runs save files input out last status (session.failed rose so) is = let k : 8 ≡ 6 = sym is ∙ so in absurd (omega (arith, k))
not_ends prelude Runs save files input out last status (session.past_limits past so) is = let k : 8 ≡ 7 = sym is ∙ so in absurd (omega (arith, k))
not_ends prelude Runs save files input out last status (session.no_memory so) is = let k : 8 ≡ 9 = sym is ∙ so in absurd (omega (arith, k))

-- the bytes are a session's image
no_bare : (name bytes content : List ℕ) (files : Device FileMap) → IsTaken bytes → Has files name content → HoldsNoSession content → Holds files.content name bytes → ⊥
no_bare name bytes content files taken has bare holds =
    let contents : bytes ≡ content = same_content name content bytes files.content has holds in
    let l = taken.loadable in
    bare taken.prelude taken.is_prelude l.session (subst (λ c. IsSession (functions_of taken.prelude) c l.session) contents l.holds) l.waits

not_bare : (name bytes : List ℕ) (files : Device FileMap) (status : ℕ) → IsTaken bytes → IsNotResumed name files status → Holds files.content name bytes → status ≡ 8 → ⊥
not_bare name bytes files _ taken (resuming.absent lacks) holds is = let k : 11 ≡ 8 = is in absurd (omega (arith, k))
not_bare name bytes files _ taken (resuming.unread rose kept) holds is = let k : 6 ≡ 8 = is in absurd (omega (arith, k))
not_bare name bytes files _ taken (resuming.no_prelude bad) holds is = let k : 12 ≡ 8 = is in absurd (omega (arith, k))
not_bare name bytes files _ taken (resuming.no_session content has bare) holds is = no_bare name bytes content files taken has bare holds
not_bare name bytes files _ taken resuming.no_memory holds is = let k : 9 ≡ 8 = is in absurd (omega (arith, k))

not_8 : (builds : Builds Body) (name bytes : List ℕ) (budget : ℕ) (save : Option (List ℕ)) (files : Device FileMap) (input out : Device (List ℕ)) (last : Option Session) (status : ℕ)
    → IsTaken bytes → resuming.IsCause builds name budget save files input out last status → Holds files.content name bytes → status ≢ 8
not_8 builds name bytes budget save files input out last status taken (resuming.not_resumed why still quiet) holds is = not_bare name bytes files status taken why holds is
not_8 builds name bytes budget save files input out last status taken (resuming.goes_on content prelude session found is_prelude loaded waits ends) holds is =
    not_ends prelude (GoesOn (library builds) session budget) save files input out last status ends is

-- a call that is calm goes on

goes : (name bytes : List ℕ) (files : Device FileMap) (status : ℕ) → IsTaken bytes → IsNotResumed name files status → Holds files.content name bytes → ¬ (RoseIn files) → status ≢ 9 → ⊥
goes name bytes files _ taken (resuming.absent lacks) holds calm ample = no_content name bytes files.content lacks holds
goes name bytes files _ taken (resuming.unread rose kept) holds calm ample = calm rose
goes name bytes files _ taken (resuming.no_prelude bad) holds calm ample = bad taken.prelude taken.is_prelude
goes name bytes files _ taken (resuming.no_session content has bare) holds calm ample = no_bare name bytes content files taken has bare holds
goes name bytes files _ taken resuming.no_memory holds calm ample = ample refl

record IsDone (prelude : Prototype) (run : Run) (save : Option (List ℕ)) (files : Device FileMap) (status : ℕ) : Type 0 where
  answers : status ≡ status_of_close run.close
  keeps : IsKept prelude run files save

done : (prelude : Prototype) (run : Run) (save : Option (List ℕ)) (files : Device FileMap) (status : ℕ) → IsLeft prelude run save files status → ¬ (RoseIn files) → status ≢ 7 → status ≢ 9 → (IsSome save → status ≢ 12) → IsDone prelude run save files status
done prelude run save files _ (session.kept kept) calm within ample unchanged = record { answers = refl; keeps = kept }
done prelude run save files _ (session.too_large named waits large) calm within ample unchanged = absurd (within refl)
done prelude run save files _ (session.changed named waits other) calm within ample unchanged = absurd (unchanged named refl)
done prelude run save files _ (session.unwritten named waits rose) calm within ample unchanged = absurd (calm rose)
done prelude run save files _ (session.no_memory named waits) calm within ample unchanged = absurd (ample refl)

resumed : (builds : Builds Body) (budget : ℕ) (bytes text : List ℕ) (out : Device (List ℕ)) (status : ℕ) (c : ResumesCalmly budget bytes text out status) → (IsSome c.save → status ≢ 12) → IsTaken bytes → resuming.IsCause builds c.name budget c.save c.files c.input out c.last status
    → IsResumed builds budget bytes text out status c.save c.files
resumed builds budget bytes text out status c unchanged taken (resuming.not_resumed why still quiet) = absurd (goes c.name bytes c.files status taken why c.holds c.files_calm c.ample)
resumed builds budget bytes text out status c unchanged taken (resuming.goes_on content prelude world found own loaded waits ends) = by ends
  where
    contents : content ≡ bytes
    contents = sym (same_content c.name content bytes c.files.content found c.holds)

    by : Ends prelude (GoesOn (library builds) world budget) c.save c.files c.input out c.last status → IsResumed builds budget bytes text out status c.save c.files
    by (session.closed lines are run runs written left handed) =
        let d = done prelude run c.save c.files status left c.files_calm c.within c.ample unchanged in
        record {
          run = run;
          does = record {
            prelude = prelude;
            is_prelude = own;
            session = world;
            holds = subst (λ b. IsSession (functions_of prelude) b world) contents loaded;
            waits = waits;
            runs = subst (λ (l : List (List ℕ)). CodeOnward (library builds) world l budget run) (told_lines c.input.content text lines are c.reads) runs;
          };
          answers = d.answers;
          writes = written;
          keeps = d.keeps;
        }
    by (session.failed rose is) = absurd (⊎_elim (λ broken. c.input_calm broken.0) c.out_calm rose)
    by (session.past_limits past is) = absurd (c.within is)
    by (session.no_memory is) = absurd (c.ample is)

module _ (alike : PreludeIsAlike) (checks : CodeOfSourcesIsChecked) (loading : LoadingStands) (runs_load : RunIsLoadable) (onward_loads : OnwardIsLoadable) where
  run_taken : (builds : Builds Body) → BuildsSources builds → (name bytes : List ℕ) (budget : ℕ) (image text : List ℕ) (files : Device FileMap) (input out : Device (List ℕ)) (last : Option Session) → length name ≤ 65536
      → running.IsCause builds name budget (Some image) files input out last 3 → input.content ≡ Some text → AreShort (lines_of text) → Holds files.content' image bytes → IsTaken bytes
  run_taken builds are name bytes budget image text files input out last short (running.not_run why still quiet) told lines holds = absurd (not_run_ends name files 3 why refl)
  run_taken builds are name bytes budget image text files input out last short (running.has_run content prelude code found own has ends) told lines holds =
      let w = waited prelude (Does (library builds) (started prelude code) budget) files input out last image text bytes 3 ends refl told holds in
      record {
        prelude = prelude;
        is_prelude = own;
        loadable = runs_load (load_by builds) (loading_fits loading builds are) (functions_of prelude) (library_of alike prelude own) code (code_checked checks name content code short has) (lines_of text) budget w.run lines w.runs w.suspended bytes w.saved;
      }

  resume_taken : (builds : Builds Body) → BuildsSources builds → (name bytes : List ℕ) (budget : ℕ) (image text : List ℕ) (files : Device FileMap) (input out : Device (List ℕ)) (last : Option Session)
      → resuming.IsCause builds name budget (Some image) files input out last 3 → input.content ≡ Some text → AreShort (lines_of text) → Holds files.content' image bytes → IsTaken bytes
  resume_taken builds are name bytes budget image text files input out last (resuming.not_resumed why still quiet) told lines holds = absurd (not_resumed_ends name files 3 why refl)
  resume_taken builds are name bytes budget image text files input out last (resuming.goes_on content prelude session found own loaded waits ends) told lines holds =
      let w = waited prelude (GoesOn (library builds) session budget) files input out last image text bytes 3 ends refl told holds in
      record {
        prelude = prelude;
        is_prelude = own;
        loadable = onward_loads (load_by builds) (loading_fits loading builds are) (functions_of prelude) (library_of alike prelude own) content session loaded waits (lines_of text) budget w.run lines w.runs w.suspended bytes w.saved;
      }

  taken_of : (bytes : List ℕ) → IsSavedByCall bytes → IsTaken bytes
  taken_of bytes (by_run name budget image short s) = let c = read_some s.is_call in run_taken c.0 c.1 name bytes budget image s.text s.files s.input s.out s.last short c.2.cause s.reads s.lines s.holds
  taken_of bytes (by_resume name budget image s) = let c = read_some s.is_call in resume_taken c.0 c.1 name bytes budget image s.text s.files s.input s.out s.last c.2.cause s.reads s.lines s.holds

  pub saved_is_not_refused : SavedIsNotRefused
  saved_is_not_refused bytes by name budget save files input out last status call holds = let c = read_some call in not_8 c.0 name bytes budget save files input out last status (taken_of bytes by) c.2.cause holds

  pub saved_goes_on : SavedGoesOn
  saved_goes_on bytes by budget text out status call unchanged = read_map (λ builds are is. resumed builds budget bytes text out status call unchanged (taken_of bytes by) is.cause) call.is_call

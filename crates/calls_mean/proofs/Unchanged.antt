-- After calls on a script no call of `resume` finds the prelude changed.
use Rattle.std.proofs.Common.{◌≡◌, ◌≢◌, ℕ, ◌≤◌, List, [], length, Option, Some, refl, sym, subst, ◌∙◌, arith}
use Rattle.code_core.specs.Prototype.{Prototype}
use Rattle.prelude_code.specs.Prelude.{IsPreludeCode}
use Rattle.prelude_code.proofs.Preludes.{prelude_once}
use Rattle.prelude_stays.specs.Laws.{GuardedCode}
use Rattle.io_edge.specs.Content.{FileMap}
use Rattle.io_edge.specs.Lines.{lines_of}
use Rattle.machine_core.specs.World.{World}
use Rattle.machine_runs.specs.Runs.{is_suspended, Run, CodeOnward}
use Rattle.loaded_code.specs.Laws.{library}
use Rattle.load_rows.specs.Loading.{Builds}
use Rattle.source_builds.specs.Builds.{BuildsSources, code_builds}
use Rattle.source_builds.proofs.Lookups.{read_some}
use Rattle.tree_core.specs.Tree.{Body}
use Rattle.lua_feed.specs.Feeding.{Does, GoesOn}
use Rattle.lua_feed.specs.Running.{started}
use Rattle.lua_saving.specs.Saving.{IsSession}
use Rattle.scripts_mean.specs.Scripts.{PreludeIsAlike}
use Rattle.session_images.specs.Prelude.{HasPrelude}
use Rattle.sessions_join.specs.Sessions.{IsSaved}
use Rattle.sessions_load.specs.Law.{KeepsPrelude, RunKeepsPrelude, OnwardKeepsPrelude}
use Rattle.sessions_mean.proofs.Meant.{LoadingStands, loading_fits}
use Rattle.source_laws.specs.Checked.{CodeOfSourcesIsChecked}
use Rattle.program.specs.declared.session.Session.{Session}
use Rattle.program.specs.Devices.{Device, Holds, Has}
use Rattle.machine_runs.specs.Laws.{AreShort}
use Rattle.program.specs.Resuming as resuming
use Rattle.program.specs.Resuming.{IsNotResumed}
use Rattle.program.specs.Running as running
use Rattle.program.specs.Sessions as session
use Rattle.program.specs.Sessions.{functions_of, IsLeft, Ends}
use Rattle.program.proofs.DeviceLemmas.{same_content}
use Rattle.program.proofs.Endings.{not_12, told_lines}
use Rattle.program.proofs.Meant.{not_run_ends}
use Rattle.calls_mean.specs.Calls.{SavedCalls, first_saves, next_saves}
use Rattle.calls_mean.specs.Law.{all_lines}
use Rattle.calls_mean.specs.Resumes.{SavedIsUnchanged}
use Rattle.calls_mean.proofs.Resumed.{front_short, last_short}
use Rattle.calls_mean.proofs.Taken.{library_of, code_checked, waited}
use Rattle.program.proofs.ResumeLemmas.{not_resumed_ends}

-- the bytes are what a session was saved as that keeps the prelude
record Kept (bytes : List ℕ) : Type 0 where
  prelude : Prototype
  is_prelude : IsPreludeCode prelude
  world : World
  keeps : KeepsPrelude (functions_of prelude) world
  saved : IsSaved (functions_of prelude) world bytes

-- what is left of a run that has the prelude where it waits for a line
left_so : (prelude : Prototype) (run : Run) (save : Option (List ℕ)) (files : Device FileMap) (status : ℕ) → (run.close ≡ is_suspended → HasPrelude (functions_of prelude) run.last) → IsLeft prelude run save files status → status ≢ 12
left_so prelude run save files _ there (session.kept kept) is = not_12 run.close is
left_so prelude run save files _ there (session.too_large named waits large) is = let k : 7 ≡ 12 = is in absurd (omega (arith, k))
left_so prelude run save files _ there (session.changed named waits other) is = other.is (there waits)
left_so prelude run save files _ there (session.unwritten named waits rose) is = let k : 6 ≡ 12 = is in absurd (omega (arith, k))
left_so prelude run save files _ there (session.no_memory named waits) is = let k : 9 ≡ 12 = is in absurd (omega (arith, k))

ends_so : (prelude : Prototype) (Runs : List (List ℕ) → Run → Type 0) (save : Option (List ℕ)) (files : Device FileMap) (input out : Device (List ℕ)) (last : Option Session) (status : ℕ) (text : List ℕ) → input.content ≡ Some text
    → ((run : Run) → Runs (lines_of text) run → run.close ≡ is_suspended → HasPrelude (functions_of prelude) run.last) → Ends prelude Runs save files input out last status → status ≢ 12
ends_so prelude Runs save files input out last status text told there (session.closed lines are run runs written left handed) =
    left_so prelude run save files status (there run (subst (λ (l : List (List ℕ)). Runs l run) (told_lines input.content text lines are told) runs)) left
ends_so prelude Runs save files input out last status text told there (session.failed rose so) = λ is. let k : 12 ≡ 6 = sym is ∙ so in absurd (omega (arith, k))
ends_so prelude Runs save files input out last status text told there (session.past_limits past so) = λ is. let k : 12 ≡ 7 = sym is ∙ so in absurd (omega (arith, k))
ends_so prelude Runs save files input out last status text told there (session.no_memory so) = λ is. let k : 12 ≡ 9 = sym is ∙ so in absurd (omega (arith, k))

-- a session that does not go on, where there is a prelude
bare_so : (name : List ℕ) (files : Device FileMap) (status : ℕ) (prelude : Prototype) → IsPreludeCode prelude → IsNotResumed name files status → status ≢ 12
bare_so name files _ prelude own (resuming.absent lacks) is = let k : 11 ≡ 12 = is in absurd (omega (arith, k))
bare_so name files _ prelude own (resuming.unread rose kept) is = let k : 6 ≡ 12 = is in absurd (omega (arith, k))
bare_so name files _ prelude own (resuming.no_prelude bad) is = bad prelude own
bare_so name files _ prelude own (resuming.no_session content has bare) is = let k : 8 ≡ 12 = is in absurd (omega (arith, k))
bare_so name files _ prelude own resuming.no_memory is = let k : 9 ≡ 12 = is in absurd (omega (arith, k))

module _ (alike : PreludeIsAlike) (checks : CodeOfSourcesIsChecked) (loading : LoadingStands) (guarded : GuardedCode) (runs_keep : RunKeepsPrelude) (onward_keeps : OnwardKeepsPrelude) where
  run_kept : (builds : Builds Body) → BuildsSources builds → (name bytes : List ℕ) (budget : ℕ) (image text : List ℕ) (files : Device FileMap) (input out : Device (List ℕ)) (last : Option Session) → length name ≤ 65536
      → running.IsCause builds name budget (Some image) files input out last 3 → input.content ≡ Some text → AreShort (lines_of text) → Holds files.content' image bytes → Kept bytes
  run_kept builds are name bytes budget image text files input out last short (running.not_run why still quiet) told lines holds = absurd (not_run_ends name files 3 why refl)
  run_kept builds are name bytes budget image text files input out last short (running.has_run content prelude code found own has ends) told lines holds =
      let w = waited prelude (Does (library builds) (started prelude code) budget) files input out last image text bytes 3 ends refl told holds in
      record {
        prelude = prelude;
        is_prelude = own;
        world = w.run.last;
        keeps = runs_keep (code_builds builds) (loading_fits loading builds are) (functions_of prelude) (library_of alike prelude own) (guarded prelude own.guarded) code (code_checked checks name content code short has) (lines_of text) budget w.run lines w.runs w.suspended;
        saved = w.saved;
      }

  -- a run of a session that was loaded from such bytes
  onward_kept : (builds : Builds Body) → BuildsSources builds → (name bytes : List ℕ) (budget : ℕ) (files : Device FileMap) → Kept bytes → (content : List ℕ) (prelude : Prototype) (loaded : World) → Has files name content → IsPreludeCode prelude
      → IsSession (functions_of prelude) content loaded → Holds files.content name bytes → (lines : List (List ℕ)) → AreShort lines → (run : Run) → CodeOnward (library builds) loaded lines budget run → run.close ≡ is_suspended → KeepsPrelude (functions_of prelude) run.last
  onward_kept builds are name bytes budget files k content prelude loaded found own is_session holds lines short run runs suspended =
      let contents : content ≡ bytes = sym (same_content name content bytes files.content found holds) in
      let preludes : k.prelude ≡ prelude = prelude_once k.prelude prelude k.is_prelude own in
      onward_keeps (code_builds builds) (loading_fits loading builds are) (functions_of prelude) (library_of alike prelude own) (guarded prelude own.guarded) k.world (subst (λ p. KeepsPrelude (functions_of p) k.world) preludes k.keeps)
      bytes (subst (λ p. IsSaved (functions_of p) k.world bytes) preludes k.saved) loaded (subst (λ b. IsSession (functions_of prelude) b loaded) contents is_session) lines budget run short runs suspended

  resume_kept : (builds : Builds Body) → BuildsSources builds → (name bytes next : List ℕ) (budget : ℕ) (image text : List ℕ) (files : Device FileMap) (input out : Device (List ℕ)) (last : Option Session) → Kept bytes
      → resuming.IsCause builds name budget (Some image) files input out last 3 → Holds files.content name bytes → input.content ≡ Some text → AreShort (lines_of text) → Holds files.content' image next → Kept next
  resume_kept builds are name bytes next budget image text files input out last k (resuming.not_resumed why still quiet) holds told lines put = absurd (not_resumed_ends name files 3 why refl)
  resume_kept builds are name bytes next budget image text files input out last k (resuming.goes_on content prelude loaded found own is_session waits ends) holds told lines put =
      let w = waited prelude (GoesOn (library builds) loaded budget) files input out last image text next 3 ends refl told put in
      record {
        prelude = prelude;
        is_prelude = own;
        world = w.run.last;
        keeps = onward_kept builds are name bytes budget files k content prelude loaded found own is_session holds (lines_of text) lines w.run w.runs w.suspended;
        saved = w.saved;
      }

  kept_by : (budget : ℕ) (name content : List ℕ) (texts : List (List ℕ)) (printed bytes : List ℕ) → length name ≤ 65536 → AreShort (all_lines texts) → SavedCalls budget name content texts printed bytes → Kept bytes
  kept_by budget name content _ printed bytes short lines (first_saves text _ image _ call holds) =
      let c = read_some call.is_call in
      run_kept c.0 c.1 name bytes budget image text call.files call.input call.out call.last short c.2.cause call.reads (last_short [] text lines) holds
  kept_by budget name content _ _ next short lines (next_saves texts printed bytes other text more image _ before call holds) =
      let c = read_some call.is_call in
      resume_kept c.0 c.1 other bytes next budget image text call.files call.input call.out call.last (kept_by budget name content texts printed bytes short (front_short texts text lines) before)
      c.2.cause call.holds call.reads (last_short texts text lines) holds

  not_changed : (builds : Builds Body) → BuildsSources builds → (name bytes : List ℕ) (budget : ℕ) (save : Option (List ℕ)) (files : Device FileMap) (input out : Device (List ℕ)) (last : Option Session) (status : ℕ) (text : List ℕ) → Kept bytes
      → Holds files.content name bytes → input.content ≡ Some text → AreShort (lines_of text) → resuming.IsCause builds name budget save files input out last status → status ≢ 12
  not_changed builds are name bytes budget save files input out last status text k holds told lines (resuming.not_resumed why still quiet) = bare_so name files status k.prelude k.is_prelude why
  not_changed builds are name bytes budget save files input out last status text k holds told lines (resuming.goes_on content prelude loaded found own is_session waits ends) =
      ends_so prelude (GoesOn (library builds) loaded budget) save files input out last status text told
      (λ run runs suspended. (onward_kept builds are name bytes budget files k content prelude loaded found own is_session holds (lines_of text) lines run runs suspended).has) ends

  pub saved_is_unchanged : SavedIsUnchanged
  saved_is_unchanged name content budget texts printed bytes saved short lines other own save files input out last status call holds text told fits =
      let c = read_some call in
      not_changed c.0 c.1 other bytes own save files input out last status text (kept_by budget name content texts printed bytes short lines saved) holds told fits c.2.cause

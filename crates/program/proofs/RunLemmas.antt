-- How the running of a file ends.
use Rattle.std.proofs.Common.{Result, Err, IsErrAnd, ◌≡◌, ◌≢◌, ◌⊎◌, inl, inr, ℕ, ◌<◌, ◌≤◌, length, List, ◌++◌, Bool, true, false, Option, Some, None, IfSome, refl, sym, ap, subst, ◌∙◌, arith}
use Rattle.std.specs.Prelude.{IsErrOf}
use Rattle.std.specs.Bool.{OnTrue, OnFalse, MatchBool}
use Rattle.std.specs.Option.{option_map}
use Rattle.std.specs.declared.vec.Vec.{Vec}
use Rattle.std.specs.declared.alloc.Global.{Global}
use Rattle.load_rows.specs.Loading.{Builds}
use Rattle.source_builds.specs.Builds.{BuildsSources}
use Rattle.code_core.specs.Prototype.{Prototype}
use Rattle.code_core.specs.Check.{IsChecked}
use Rattle.io_edge.specs.declared.fault.FileFault.{FileFault}
use Rattle.io_edge.specs.declared.fault.FileFault.TheVariants.{Failed, Absent, Memory}
use Rattle.io_edge.specs.Causes.{HasCause, Rose, is_failed}
use Rattle.io_edge.specs.Content.{FileMap, GrowsByFront, MayEndTelling}
use Rattle.io_edge.specs.Lines.{lines_of}
use Rattle.compile_chunk.specs.Chunk.{IsCodeOf, script_in}
use Rattle.compile_text.specs.Source.{IsSource}
use Rattle.prelude_code.specs.Prelude.{IsPreludeCode, IsNoPrelude}
use Rattle.prelude_code.specs.declared.fault.PreludeFault.{PreludeFault}
use Rattle.prelude_code.specs.declared.fault.PreludeFault.TheVariants as prelude
use Rattle.machine_runs.specs.Runs.{Run, CodeRun}
use Rattle.scripts_mean.specs.Scripts.{EndsAs, RunsAs, ScriptsDo, ScriptsMean, PreludeIsAlike}
use Rattle.lua_meaning.specs.Meaning.{Meaning}
use Rattle.tree_core.specs.Tree.{Body}
use Rattle.tree_activation.specs.Work.{State}
use Rattle.loaded_code.specs.Laws.{library}
use Rattle.lua_feed.specs.Feeding.{Does}
use Rattle.lua_feed.specs.Limits.{usable_lines, passes_limits}
use Rattle.lua_feed.specs.Running.{started}
use Rattle.program.specs.declared.fault.Fault.{Fault}
use Rattle.program.specs.declared.fault.Fault.TheVariants as fault
use Rattle.program.specs.declared.session.Session.{Session}
use Rattle.program.specs.Devices.{Device, Lacks, Holds}
use Rattle.program.specs.Checking.{begins_chunk, IsAccepted, HoldsNoChunk}
use Rattle.program.specs.Compiling.{source_name, HoldsNoScript}
use Rattle.program.specs.Faults.{fault_of_file, fault_of_prelude, status_of}
use Rattle.program.specs.Outcomes.{IsCodeIn, IsNoChunkFor, IsNoScriptFor, IsNoCodeFor}
use Rattle.program.specs.Report.{status_of_fault}
use Rattle.program.specs.Meaning.{MeansOn, EndsWith}
use Rattle.machine_runs.specs.Laws.{AreShort}
use Rattle.session_images.specs.Prelude.{HasPrelude}
use Rattle.program.specs.Sessions.{functions_of, IsKept}
use Rattle.program.specs.Running as running
use Rattle.program.specs.Running.{HoldsCode, RunsOn, IsNotRun, not_run, has_run, IsRun}
use Rattle.program.proofs.DeviceLemmas.{files_of, stream_of, grows_by_none, only_same, keeps_telling, kept_others, same_content, not_lacking, no_content, stays, told_lacking}
use Rattle.program.proofs.Raised.{raised}
use Rattle.program.proofs.MeaningLemmas.{meaning_run, ends_with, handed_short, usable_short, waiting, waits_too}
use Rattle.program.proofs.Endings.{Ran, ran_so, short_of, told_so}
use Rattle.program.proofs.Meant.{not_run_ends, done, run_meant}
use Rattle.program.proofs.CodeLemmas.{of_chunk, of_script}

-- what a file without code refuses

script_refuses : (name content content' : List ℕ) (held : Option FileMap) (code : Prototype) → IfSome held (λ h. h name ≡ Some content) → Holds held name content' → begins_chunk content ≡ false → HoldsNoScript content → HoldsCode name content' code → ⊥
script_refuses name content content' held code found has begins none holds =
    let same : content' ≡ content = same_content name content content' held found has in
    let own : HoldsCode name content code = subst (λ c. HoldsCode name c code) same holds in
    let made = of_script (IsAccepted content code) (IsCodeOf (source_name name) (script_in content) true code) (begins_chunk content) begins own in
    none made.tree made.is_source

chunk_refuses : (name content content' : List ℕ) (held : Option FileMap) (code : Prototype) → IfSome held (λ h. h name ≡ Some content) → Holds held name content' → begins_chunk content ≡ true → HoldsNoChunk content → HoldsCode name content' code → ⊥
chunk_refuses name content content' held code found has begins none holds =
    let same : content' ≡ content = same_content name content content' held found has in
    let own : HoldsCode name content code = subst (λ c. HoldsCode name c code) same holds in
    none code (of_chunk (IsAccepted content code) (IsCodeOf (source_name name) (script_in content) true code) (begins_chunk content) begins own)

-- a file that is not run

-- of the causes the prelude's has status 12
refused_alone : (name : List ℕ) (files : Device FileMap) (status : ℕ) → IsNotRun name files status → status ≡ 12 → (code : Prototype) → IsPreludeCode code → ⊥
refused_alone name files _ (running.absent lacks) is code own = let k : 11 ≡ 12 = is in absurd (omega (arith, k))
refused_alone name files _ (running.unread rose kept) is code own = let k : 6 ≡ 12 = is in absurd (omega (arith, k))
refused_alone name files _ (running.no_prelude none) is code own = none code own
refused_alone name files _ (running.no_script content has begins bare) is code own = let k : 5 ≡ 12 = is in absurd (omega (arith, k))
refused_alone name files _ (running.no_chunk content has begins bare) is code own = let k : 8 ≡ 12 = is in absurd (omega (arith, k))
refused_alone name files _ running.no_memory is code own = let k : 9 ≡ 12 = is in absurd (omega (arith, k))

-- what is known whatever the cause is
not_run_by : {builds : Builds Body} → (name : List ℕ) (budget : ℕ) (save : Option (List ℕ)) (f f' i k : ℕ) (held held' : Option FileMap) (left written : Option (List ℕ)) (last : Option Session) (status : ℕ)
    → IsNotRun name (files_of f f' held held') status
    → (Lacks held name → ¬ (Rose f f') → status ≡ 11)
    → ((content : List ℕ) → Holds held name content → begins_chunk content ≡ false → HoldsNoScript content → ¬ (Rose f f') → status ≢ 9 → status ≢ 12 → status ≡ 5)
    → ((content : List ℕ) → Holds held name content → begins_chunk content ≡ true → HoldsNoChunk content → ¬ (Rose f f') → status ≢ 9 → status ≢ 12 → status ≡ 8)
    → ((content : List ℕ) (lines : List (List ℕ)) (run : Run) → Holds held name content → RunsOn builds name content lines budget run → ¬ (Rose f f') → status ≢ 9 → ⊥)
    → ((content : List ℕ) (lines : List (List ℕ)) (m : Meaning Body State) → Holds held name content → MeansOn builds name content lines budget m → ¬ (Rose f f') → status ≢ 9 → status ≢ 12 → ⊥)
    → (f < f' → status ≡ 6)
    → MayEndTelling held held' → ((status ≡ 6 → ¬ (Rose f f')) → held' ≡ held)
    → IsRun builds name budget save (files_of f f' held held') (stream_of i i left left) (stream_of k k written written) last status
not_run_by name budget save f f' i k held held' left written last status why absent no_script no_chunk runs means fault kept same = record {
  cause = not_run why (record { no_fault = refl; unwritten = refl }) (record { no_fault = refl; unwritten = refl });
  absent = absent;
  no_script = no_script;
  no_chunk = no_chunk;
  runs = λ content text run has told goes calm calm' calm'' within ample. absurd (runs content (lines_of text) run has goes calm ample);
  no_prelude = λ is code own. refused_alone name (files_of f f' held held') status why is code own;
  means = λ content text m has told short goes calm calm' calm'' within ample made. absurd (means content (lines_of text) m has goes calm ample made);
  meant = λ content text has begins told short ended. absurd (not_run_ends name (files_of f f' held held') status why ended);
  session = λ content text run has told goes ended. absurd (not_run_ends name (files_of f f' held held') status why ended);
  ran_script = λ content text has begins told ended. absurd (not_run_ends name (files_of f f' held held') status why ended);
  fault = λ grew. elim grew [ inl less ↦ fault less | inr more ↦ absurd (elim more [ inl less ↦ stays i left left less | inr less ↦ stays k written written less ]) ];
  cut_short = λ content text has told grew. absurd (stays i left left grew);
  meant_cut_short = λ content text has begins told grew. absurd (stays i left left grew);
  limit = λ content text run has told goes waits past calm calm' calm'' ample. absurd (runs content (usable_lines 0 text) run has goes calm ample);
  meant_limit = λ content text m has told goes waits past calm calm' calm'' ample made. absurd (means content (usable_lines 0 text) m has goes calm ample made);
  front = λ content text run has told goes. grows_by_none run.printed written;
  meant_front = λ content text m has told goes. grows_by_none m.printed written;
  grows = only_same written;
  others_kept = kept_others save (files_of f f' held held') kept;
  files_same = λ calm unnamed. same calm;
}

pub unread_run : {builds : Builds Body} → (name : List ℕ) (budget : ℕ) (save : Option (List ℕ)) (f f' i k : ℕ) (held held' : Option FileMap) (left written : Option (List ℕ)) (last : Option Session) (reason : FileFault) → HasCause f f' (is_failed {T = Vec ℕ Global} (Err reason)) → (IsErrOf {T = Vec ℕ Global} (Err reason) Absent → IfSome held (λ files. files name ≡ None)) → IfSome held (λ files. files name ≡ None → IsErrOf {T = Vec ℕ Global} (Err reason) Absent ⊎ IsErrOf {T = Vec ℕ Global} (Err reason) Failed) → OnFalse (is_failed {T = Vec ℕ Global} (Err reason)) (held' ≡ held) → OnTrue (is_failed {T = Vec ℕ Global} (Err reason)) (MayEndTelling held held')
    → IsRun builds name budget save (files_of f f' held held') (stream_of i i left left) (stream_of k k written written) last (status_of_fault (fault_of_file reason))
unread_run name budget save f f' i k held held' left written last Failed cause absent lacking kept failed =
    not_run_by name budget save f f' i k held held' left written last 6 (running.unread cause.rose failed)
    (λ lacks calm. absurd (calm cause.rose)) (λ content has begins none calm ample made. absurd (calm cause.rose)) (λ content has begins none calm ample made. absurd (calm cause.rose))
    (λ content lines run has goes calm ample. calm cause.rose) (λ content lines m has goes calm ample made. calm cause.rose) (λ less. refl) failed (λ calm. absurd (calm refl cause.rose))
unread_run name budget save f f' i k held held' left written last Absent cause absent lacking kept failed =
    let none = absent refl in
    not_run_by name budget save f f' i k held held' left written last 11 (running.absent none)
    (λ lacks calm. refl) (λ content has begins bare calm ample made. absurd (no_content name content held none has)) (λ content has begins bare calm ample made. absurd (no_content name content held none has))
    (λ content lines run has goes calm ample. no_content name content held none has) (λ content lines m has goes calm ample made. no_content name content held none has) (λ less. absurd (omega (arith, cause.only, less))) (rw kept (keeps_telling held)) (λ other. kept)
unread_run name budget save f f' i k held held' left written last Memory cause absent lacking kept failed =
    not_run_by name budget save f f' i k held held' left written last 9 running.no_memory
    (λ lacks calm. absurd (elim (told_lacking name held lacking lacks) [ inl bad ↦ cc | inr bad ↦ cc ])) (λ content has begins none calm ample made. absurd (ample refl)) (λ content has begins none calm ample made. absurd (ample refl))
    (λ content lines run has goes calm ample. ample refl) (λ content lines m has goes calm ample made. ample refl) (λ less. absurd (omega (arith, cause.only, less))) (rw kept (keeps_telling held)) (λ other. kept)

-- the file is read, and the prelude is refused, or no memory is found

pub memory_run : {builds : Builds Body} → (name content : List ℕ) (budget : ℕ) (save : Option (List ℕ)) (f i k : ℕ) (held : Option FileMap) (left written : Option (List ℕ)) (last : Option Session) → IfSome held (λ h. h name ≡ Some content)
    → IsRun builds name budget save (files_of f f held held) (stream_of i i left left) (stream_of k k written written) last 9
memory_run name content budget save f i k held left written last found =
    not_run_by name budget save f f i k held held left written last 9 running.no_memory
    (λ lacks calm. absurd (not_lacking name content held found lacks)) (λ content' has begins none calm ample made. absurd (ample refl)) (λ content' has begins none calm ample made. absurd (ample refl))
    (λ content' lines run has goes calm ample. ample refl) (λ content' lines m has goes calm ample made. ample refl) (λ less. absurd (omega (arith, less))) (keeps_telling held) (λ other. refl)

pub no_prelude_run : {builds : Builds Body} → (name content : List ℕ) (budget : ℕ) (save : Option (List ℕ)) (f i k : ℕ) (held : Option FileMap) (left written : Option (List ℕ)) (last : Option Session) (reason : PreludeFault) → IfSome held (λ h. h name ≡ Some content) → IsNoPrelude reason
    → IsRun builds name budget save (files_of f f held held) (stream_of i i left left) (stream_of k k written written) last (status_of_fault (fault_of_prelude reason))
no_prelude_run name content budget save f i k held left written last prelude.Refused found none =
    not_run_by name budget save f f i k held held left written last 12 (running.no_prelude none)
    (λ lacks calm. absurd (not_lacking name content held found lacks)) (λ content' has begins bare calm ample made. absurd (made refl)) (λ content' has begins bare calm ample made. absurd (made refl))
    (λ content' lines run has goes calm ample. none goes.prelude goes.is_prelude) (λ content' lines m has goes calm ample made. made refl) (λ less. absurd (omega (arith, less))) (keeps_telling held) (λ other. refl)
no_prelude_run name content budget save f i k held left written last prelude.Memory found none = memory_run name content budget save f i k held left written last found

-- the file is read, and there is no code in it, or no memory is found

no_script_run : {builds : Builds Body} → (name content : List ℕ) (budget : ℕ) (save : Option (List ℕ)) (f i k : ℕ) (held : Option FileMap) (left written : Option (List ℕ)) (last : Option Session) (reason : Fault) → IfSome held (λ h. h name ≡ Some content) → begins_chunk content ≡ false → IsNoScriptFor content reason
    → IsRun builds name budget save (files_of f f held held) (stream_of i i left left) (stream_of k k written written) last (status_of_fault reason)
no_script_run name content budget save f i k held left written last reason found begins own =
    rw own.status (not_run_by name budget save f f i k held held left written last 5 (running.no_script content found begins own.holds_none)
    (λ lacks calm. absurd (not_lacking name content held found lacks)) (λ content' has begins' none calm ample made. refl)
    (λ content' has begins' none calm ample made. absurd (let same : content' ≡ content = same_content name content content' held found has in let bad : true ≡ false = sym begins' ∙ ap begins_chunk same ∙ begins in cc))
    (λ content' lines run has goes calm ample. script_refuses name content content' held goes.code found has begins own.holds_none goes.holds)
    (λ content' lines m has goes calm ample made. own.holds_none goes.tree (subst (λ c. IsSource (script_in c) goes.tree) (same_content name content content' held found has) goes.is_source)) (λ less. absurd (omega (arith, less))) (keeps_telling held) (λ other. refl))

no_chunk_run : {builds : Builds Body} → (name content : List ℕ) (budget : ℕ) (save : Option (List ℕ)) (f i k : ℕ) (held : Option FileMap) (left written : Option (List ℕ)) (last : Option Session) (reason : Fault) → IfSome held (λ h. h name ≡ Some content) → begins_chunk content ≡ true → IsNoChunkFor content reason
    → IsRun builds name budget save (files_of f f held held) (stream_of i i left left) (stream_of k k written written) last (status_of_fault reason)
no_chunk_run name content budget save f i k held left written last reason found begins own =
    rw own.status (not_run_by name budget save f f i k held held left written last 8 (running.no_chunk content found begins own.holds_none)
    (λ lacks calm. absurd (not_lacking name content held found lacks))
    (λ content' has begins' none calm ample made. absurd (let same : content' ≡ content = same_content name content content' held found has in let bad : false ≡ true = sym begins' ∙ ap begins_chunk same ∙ begins in cc))
    (λ content' has begins' none calm ample made. refl)
    (λ content' lines run has goes calm ample. chunk_refuses name content content' held goes.code found has begins own.holds_none goes.holds)
    (λ content' lines m has goes calm ample made. (let same : content' ≡ content = same_content name content content' held found has in let bad : false ≡ true = sym goes.is_script ∙ ap begins_chunk same ∙ begins in cc)) (λ less. absurd (omega (arith, less))) (keeps_telling held) (λ other. refl))

by_first : {C : Type 0} (b : Bool) (A B : Type 0) → (b ≡ true → A → C) → (b ≡ false → B → C) → MatchBool b A B → C
by_first true A B first second given = first refl given
by_first false A B first second given = second refl given

pub no_code_run : {builds : Builds Body} → (name content : List ℕ) (budget : ℕ) (save : Option (List ℕ)) (f i k : ℕ) (held : Option FileMap) (left written : Option (List ℕ)) (last : Option Session) (reason : Fault) → IfSome held (λ h. h name ≡ Some content) → IsNoCodeFor content reason ⊎ (reason ≡ fault.Memory)
    → IsRun builds name budget save (files_of f f held held) (stream_of i i left left) (stream_of k k written written) last (status_of_fault reason)
no_code_run name content budget save f i k held left written last reason found (inl own) =
    by_first (begins_chunk content) (IsNoChunkFor content reason) (IsNoScriptFor content reason)
    (λ begins none. no_chunk_run name content budget save f i k held left written last reason found begins none)
    (λ begins none. no_script_run name content budget save f i k held left written last reason found begins none) own
no_code_run name content budget save f i k held left written last reason found (inr memory) = rw memory (memory_run name content budget save f i k held left written last found)

-- the code in the file runs

-- the one run of the code in the file
same_run : {builds : Builds Body} → (name content content' : List ℕ) (budget : ℕ) (held : Option FileMap) (prelude code : Prototype) (lines : List (List ℕ)) (run : Run) → IfSome held (λ h. h name ≡ Some content) → Holds held name content'
    → ((other : Prototype) → IsPreludeCode other → prelude ≡ other) → IsCodeIn name content code → RunsOn builds name content' lines budget run → CodeRun (library builds) (started prelude code) lines budget run
same_run name content content' budget held prelude code lines run found has only own goes =
    let same : content' ≡ content = same_content name content content' held found has in
    let holds : HoldsCode name content goes.code = subst (λ c. HoldsCode name c goes.code) same goes.holds in
    let codes : code ≡ goes.code = own.only goes.code holds in
    let preludes : prelude ≡ goes.prelude = only goes.prelude goes.is_prelude in
    rw (preludes, codes) goes.runs

-- what is known of a session that was fed is known of the run of the file
pub run_of : {builds : Builds Body} → BuildsSources builds → ScriptsDo → ScriptsMean → PreludeIsAlike → (name content : List ℕ) (budget : ℕ) (save : Option (List ℕ)) (prelude code : Prototype) (files : Device FileMap) (input out : Device (List ℕ)) (last : Option Session) (status : ℕ) → length name ≤ 65536
    → IfSome files.content (λ h. h name ≡ Some content) → IsPreludeCode prelude → ((other : Prototype) → IsPreludeCode other → prelude ≡ other) → IsCodeIn name content code → IsChecked code
    → ((lines : List (List ℕ)) → AreShort lines → (run : Run) → CodeRun (library builds) (started prelude code) lines budget run → HasPrelude (functions_of prelude) run.last)
    → Ran prelude (Does (library builds) (started prelude code) budget) save files input out last status → IsRun builds name budget save files input out last status
run_of {builds = builds} sources does law alike name content budget save prelude code files input out last status short found is_prelude only own checked keeps ran = record {
  cause = has_run content prelude code found is_prelude own.holds ran.ends;
  absent = λ lacks calm. absurd (not_lacking name content files.content found lacks);
  no_script = λ content' has begins none calm ample made. absurd (script_refuses' content' has begins none);
  no_chunk = λ content' has begins none calm ample made. absurd (chunk_refuses' content' has begins none);
  runs = λ content' text run has told goes calm calm' calm'' within ample.
      let d = ran.does text run told (same_run name content content' budget files.content prelude code (lines_of text) run found has only own goes) calm calm' calm'' within ample (λ named. never) in
      (d.0, d.1, subst (λ p. IsKept p run files save) (only goes.prelude goes.is_prelude) d.2);
  no_prelude = λ is other its. never is;
  means = λ content' text m has told fits goes calm calm' calm'' within ample made.
      let r = its_run content' (lines_of text) m has fits goes in
      let d = ran.does text r.0 told r.1 calm calm' calm'' within ample (λ named. made) in
      (subst (EndsWith m.outcome) (sym d.0) (ends_with r.0.close m.outcome r.2.ends), d.1 ∙ ap (λ b. option_map (λ before. before ++ b) out.content) r.2.printed);
  meant = λ content' text has begins told fits ended.
      let same : content' ≡ content = same_content name content content' files.content found has in
      done sources does alike name content' text budget prelude code save files input out last status short is_prelude (subst (λ c. HoldsCode name c code) (sym same) own.holds) begins told fits ended ran.ends;
  session = λ content' text run has told goes ended. ran.session text run told (same_run name content content' budget files.content prelude code (lines_of text) run found has only own goes) ended;
  ran_script = λ content' text has begins told ended.
      let its : HoldsCode name content' code = subst (λ c. HoldsCode name c code) (sym (same_content name content content' files.content found has)) own.holds in
      let made = of_script (IsAccepted content' code) (IsCodeOf (source_name name) (script_in content') true code) (begins_chunk content') begins its in
      let went = ran_so prelude (Does (library builds) (started prelude code) budget) save files input out last status text ran.ends told ended in
      (went.0, record { tree = made.tree; is_source = made.is_source; prelude = prelude; is_prelude = is_prelude; code = code; holds = its; checked = checked; means = made.means; runs = went.1 }, went.2);
  fault = ran.fault;
  cut_short = λ content' text has told grew.
      short_of (Does (library builds) (started prelude code) budget) (λ lines run. RunsOn builds name content' lines budget run) text input out told (λ lines run goes. its_code content' lines run has goes) (ran.broken grew);
  meant_cut_short = λ content' text has begins told grew.
      let b = ran.broken grew in
      let first = told_so (λ bytes. (more : List (List ℕ)) × (usable_lines 0 bytes ≡ b.lines ++ more)) input.content text b.are told in
      let meant = run_meant sources does alike name content' b.lines budget b.run short (handed_short b.lines b.short) begins (its_code content' b.lines b.run has b.runs) in
      record {
        lines = b.lines;
        more = first.0;
        first = first.1;
        m = meant.0;
        means = meant.1;
        waits = waiting meant.0.outcome (subst (λ c. EndsAs c meant.0.outcome) b.waits meant.2.ends);
        written = b.grown ∙ ap (λ p. option_map (λ before. before ++ p) out.content) meant.2.printed;
      };
  limit = λ content' text run has told goes waits past calm calm' calm'' ample.
      ran.limit text run told (same_run name content content' budget files.content prelude code (usable_lines 0 text) run found has only own goes) waits past calm calm' calm'' ample;
  meant_limit = λ content' text m has told goes waits past calm calm' calm'' ample made.
      let r = its_run content' (usable_lines 0 text) m has (usable_short 0 (lines_of text)) goes in
      let d = ran.limit text r.0 told r.1 (waits_too r.0.close m.outcome r.2.ends waits) past calm calm' calm'' ample in
      (d.0, d.1 ∙ ap (λ b. option_map (λ before. before ++ b) out.content) r.2.printed);
  front = λ content' text run has told goes. ran.front text run told (same_run name content content' budget files.content prelude code (usable_lines 0 text) run found has only own goes);
  meant_front = λ content' text m has told goes.
      let r = its_run content' (usable_lines 0 text) m has (usable_short 0 (lines_of text)) goes in
      subst (λ b. GrowsByFront b out.content out.content') r.2.printed (ran.front text r.0 told r.1);
  grows = ran.grows;
  others_kept = ran.others;
  files_same = ran.same;
}
  where
    -- the prelude is there, and a run leaves it as it was made
    never : status ≢ 12
    never = ran.unchanged (λ lines run short goes. keeps lines (handed_short lines short) run goes)

    its_code : (content' : List ℕ) (lines : List (List ℕ)) (run : Run) → Holds files.content name content' → CodeRun (library builds) (started prelude code) lines budget run → RunsOn builds name content' lines budget run
    its_code content' lines run has goes =
        record { prelude = prelude; is_prelude = is_prelude; code = code; holds = subst (λ c. HoldsCode name c code) (sym (same_content name content content' files.content found has)) own.holds; runs = goes }

    script_refuses' : (content' : List ℕ) → Holds files.content name content' → begins_chunk content' ≡ false → HoldsNoScript content' → ⊥
    script_refuses' content' has begins none =
        let same : content' ≡ content = same_content name content content' files.content found has in
        let its : HoldsCode name content' code = subst (λ c. HoldsCode name c code) (sym same) own.holds in
        let made = of_script (IsAccepted content' code) (IsCodeOf (source_name name) (script_in content') true code) (begins_chunk content') begins its in
        none made.tree made.is_source

    chunk_refuses' : (content' : List ℕ) → Holds files.content name content' → begins_chunk content' ≡ true → HoldsNoChunk content' → ⊥
    chunk_refuses' content' has begins none =
        let same : content' ≡ content = same_content name content content' files.content found has in
        let its : HoldsCode name content' code = subst (λ c. HoldsCode name c code) (sym same) own.holds in
        none code (of_chunk (IsAccepted content' code) (IsCodeOf (source_name name) (script_in content') true code) (begins_chunk content') begins its)

    its_run : (content' : List ℕ) (lines : List (List ℕ)) (m : Meaning Body State) → Holds files.content name content' → AreShort lines → MeansOn builds name content' lines budget m
        → (run : Run) × CodeRun (library builds) (started prelude code) lines budget run × RunsAs run m
    its_run content' lines m has fits goes =
        let same : content' ≡ content = same_content name content content' files.content found has in
        meaning_run sources law alike name content lines budget prelude code m short fits is_prelude own.holds (subst (λ c. MeansOn builds name c lines budget m) same goes)

-- the files stayed as they were up to there
pub run_since : {builds : Builds Body} → (name : List ℕ) (budget : ℕ) (save : Option (List ℕ)) (f f' f'' : ℕ) (held held' held'' : Option FileMap) (input out : Device (List ℕ)) (last : Option Session) (status status' : ℕ) → f' ≡ f → held' ≡ held → status ≡ status'
    → IsRun builds name budget save (files_of f' f'' held' held'') input out last status' → IsRun builds name budget save (files_of f f'' held held'') input out last status
run_since name budget save f f' f'' held held' held'' input out last status status' faults kept same run = rw (sym faults, sym kept, same) run

pub run_before : {builds : Builds Body} → (name : List ℕ) (budget : ℕ) (save : Option (List ℕ)) (f f' : ℕ) (held held' : Option FileMap) (input out : Device (List ℕ)) (last : Option Session) (status status' : ℕ) → f' ≡ f → held' ≡ held → status ≡ status'
    → IsRun builds name budget save (files_of f f held held) input out last status' → IsRun builds name budget save (files_of f f' held held') input out last status
run_before name budget save f f' held held' input out last status status' faults kept same run = rw (faults, kept, same) run

-- the exit of a `?` for want of memory, where the file is read
pub short_run : {builds : Builds Body} → (name content : List ℕ) (budget : ℕ) (save : Option (List ℕ)) (f f' i k : ℕ) (held held' : Option FileMap) (left written : Option (List ℕ)) (last : Option Session) (result : Result ℕ Fault) → f' ≡ f → held' ≡ held
    → IfSome held (λ h. h name ≡ Some content) → IsErrAnd result (λ made. made ≡ fault.Memory) → IsRun builds name budget save (files_of f f' held held') (stream_of i i left left) (stream_of k k written written) last (status_of result)
short_run name content budget save f f' i k held held' left written last result faults kept found short =
    run_before name budget save f f' held held' (stream_of i i left left) (stream_of k k written written) last (status_of result) 9 faults kept (ap status_of (raised result fault.Memory short)) (memory_run name content budget save f i k held left written last found)

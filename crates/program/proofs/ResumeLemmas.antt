-- How the going on of a session ends.
use Rattle.std.proofs.Common.{Result, Err, IsErrAnd, ◌≡◌, ◌≢◌, ◌⊎◌, inl, inr, ℕ, ◌<◌, true, List, [], Option, Some, None, IfSome, refl, sym, ap, subst, ◌∙◌, arith}
use Rattle.std.specs.Prelude.{IsErrOf}
use Rattle.std.specs.Bool.{OnTrue, OnFalse}
use Rattle.std.specs.declared.vec.Vec.{Vec}
use Rattle.std.specs.declared.alloc.Global.{Global}
use Rattle.load_rows.specs.Loading.{Builds}
use Rattle.tree_core.specs.Tree.{Body}
use Rattle.code_core.specs.Prototype.{Prototype}
use Rattle.library_rows.specs.Library.{Entry}
use Rattle.io_edge.specs.declared.fault.FileFault.{FileFault}
use Rattle.io_edge.specs.declared.fault.FileFault.TheVariants.{Failed, Absent, Memory}
use Rattle.io_edge.specs.Causes.{HasCause, Rose, is_failed}
use Rattle.io_edge.specs.Content.{FileMap, MayEndTelling}
use Rattle.io_edge.specs.Lines.{lines_of}
use Rattle.prelude_code.specs.Prelude.{IsPreludeCode, IsNoPrelude}
use Rattle.prelude_code.specs.declared.fault.PreludeFault.{PreludeFault}
use Rattle.prelude_code.specs.declared.fault.PreludeFault.TheVariants as prelude
use Rattle.machine_core.specs.World.{World}
use Rattle.machine_runs.specs.Runs.{Run, CodeOnward}
use Rattle.loaded_code.specs.Laws.{library}
use Rattle.image_bytes.specs.Format.{Fault as Refusal, read}
use Rattle.session_images.specs.Saved.{session_of}
use Rattle.lua_feed.specs.Feeding.{GoesOn}
use Rattle.lua_feed.specs.Limits.{usable_lines}
use Rattle.lua_saving.specs.Saving.{IsSession, HasYielded}
use Rattle.program.specs.declared.fault.Fault.{Fault}
use Rattle.program.specs.declared.fault.Fault.TheVariants as fault
use Rattle.program.specs.declared.session.Session.{Session}
use Rattle.program.specs.Devices.{Device, Lacks, Holds}
use Rattle.program.specs.Faults.{fault_of_file, fault_of_prelude, status_of}
use Rattle.program.specs.Outcomes.{told_refusal, IsNoSessionFor}
use Rattle.program.specs.Meaning.{has_ended}
use Rattle.program.specs.Report.{status_of_fault}
use Rattle.program.specs.Sessions.{functions_of, IsKept}
use Rattle.program.specs.Resuming as resuming
use Rattle.program.specs.Resuming.{ResumesOn, HoldsNoSession, IsNotResumed, not_resumed, goes_on, IsResume}
use Rattle.program.proofs.DeviceLemmas.{files_of, stream_of, grows_by_none, only_same, keeps_telling, kept_others, same_content, not_lacking, no_content, stays, told_lacking}
use Rattle.program.proofs.Raised.{raised}
use Rattle.program.proofs.Endings.{Ran, short_of}

-- a file whose session does not go on

pub not_resumed_ends : (name : List ℕ) (files : Device FileMap) (status : ℕ) → IsNotResumed name files status → has_ended status ≡ true → ⊥
not_resumed_ends name files _ (resuming.absent lacks) ended = cc
not_resumed_ends name files _ _ ended = cc

-- what is known whatever the cause is
not_resumed_by : {builds : Builds Body} → (name : List ℕ) (budget : ℕ) (save : Option (List ℕ)) (f f' i k : ℕ) (held held' : Option FileMap) (left written : Option (List ℕ)) (last : Option Session) (status : ℕ)
    → IsNotResumed name (files_of f f' held held') status
    → (Lacks held name → ¬ (Rose f f') → status ≡ 11)
    → ((content : List ℕ) → Holds held name content → HoldsNoSession content → ¬ (Rose f f') → status ≢ 9 → status ≢ 12 → status ≡ 8)
    → ((content : List ℕ) (lines : List (List ℕ)) (run : Run) → Holds held name content → ResumesOn builds content lines budget run → ¬ (Rose f f') → status ≢ 9 → ⊥)
    → (f < f' → status ≡ 6)
    → MayEndTelling held held' → ((status ≡ 6 → ¬ (Rose f f')) → held' ≡ held)
    → IsResume builds name budget save (files_of f f' held held') (stream_of i i left left) (stream_of k k written written) last status
not_resumed_by name budget save f f' i k held held' left written last status why absent no_session runs fault kept same = record {
  cause = not_resumed why (record { no_fault = refl; unwritten = refl }) (record { no_fault = refl; unwritten = refl });
  absent = absent;
  no_session = no_session;
  runs = λ content text run has told goes calm calm' calm'' within ample unchanged. absurd (runs content (lines_of text) run has goes calm ample);
  session = λ content text run has told goes ended. absurd (not_resumed_ends name (files_of f f' held held') status why ended);
  fault = λ grew. elim grew [ inl less ↦ fault less | inr more ↦ absurd (elim more [ inl less ↦ stays i left left less | inr less ↦ stays k written written less ]) ];
  cut_short = λ content text has told grew. absurd (stays i left left grew);
  limit = λ content text run has told goes waits past calm calm' calm'' ample. absurd (runs content (usable_lines 0 text) run has goes calm ample);
  front = λ content text run has told goes. grows_by_none run.printed written;
  grows = only_same written;
  others_kept = kept_others save (files_of f f' held held') kept;
  files_same = λ calm unnamed. same calm;
}

pub unread_resume : {builds : Builds Body} → (name : List ℕ) (budget : ℕ) (save : Option (List ℕ)) (f f' i k : ℕ) (held held' : Option FileMap) (left written : Option (List ℕ)) (last : Option Session) (reason : FileFault) → HasCause f f' (is_failed {T = Vec ℕ Global} (Err reason)) → (IsErrOf {T = Vec ℕ Global} (Err reason) Absent → IfSome held (λ files. files name ≡ None)) → IfSome held (λ files. files name ≡ None → IsErrOf {T = Vec ℕ Global} (Err reason) Absent ⊎ IsErrOf {T = Vec ℕ Global} (Err reason) Failed) → OnFalse (is_failed {T = Vec ℕ Global} (Err reason)) (held' ≡ held) → OnTrue (is_failed {T = Vec ℕ Global} (Err reason)) (MayEndTelling held held')
    → IsResume builds name budget save (files_of f f' held held') (stream_of i i left left) (stream_of k k written written) last (status_of_fault (fault_of_file reason))
unread_resume name budget save f f' i k held held' left written last Failed cause absent lacking kept failed =
    not_resumed_by name budget save f f' i k held held' left written last 6 (resuming.unread cause.rose failed)
    (λ lacks calm. absurd (calm cause.rose)) (λ content has none calm ample made. absurd (calm cause.rose))
    (λ content lines run has goes calm ample. calm cause.rose) (λ less. refl) failed (λ calm. absurd (calm refl cause.rose))
unread_resume name budget save f f' i k held held' left written last Absent cause absent lacking kept failed =
    let none = absent refl in
    not_resumed_by name budget save f f' i k held held' left written last 11 (resuming.absent none)
    (λ lacks calm. refl) (λ content has bare calm ample made. absurd (no_content name content held none has))
    (λ content lines run has goes calm ample. no_content name content held none has) (λ less. absurd (omega (arith, cause.only, less))) (rw kept (keeps_telling held)) (λ other. kept)
unread_resume name budget save f f' i k held held' left written last Memory cause absent lacking kept failed =
    not_resumed_by name budget save f f' i k held held' left written last 9 resuming.no_memory
    (λ lacks calm. absurd (elim (told_lacking name held lacking lacks) [ inl bad ↦ cc | inr bad ↦ cc ])) (λ content has none calm ample made. absurd (ample refl))
    (λ content lines run has goes calm ample. ample refl) (λ less. absurd (omega (arith, cause.only, less))) (rw kept (keeps_telling held)) (λ other. kept)

-- the file is read, and the prelude is refused, or no memory is found

pub memory_resume : {builds : Builds Body} → (name content : List ℕ) (budget : ℕ) (save : Option (List ℕ)) (f i k : ℕ) (held : Option FileMap) (left written : Option (List ℕ)) (last : Option Session) → IfSome held (λ h. h name ≡ Some content)
    → IsResume builds name budget save (files_of f f held held) (stream_of i i left left) (stream_of k k written written) last 9
memory_resume name content budget save f i k held left written last found =
    not_resumed_by name budget save f f i k held held left written last 9 resuming.no_memory
    (λ lacks calm. absurd (not_lacking name content held found lacks)) (λ content' has none calm ample made. absurd (ample refl))
    (λ content' lines run has goes calm ample. ample refl) (λ less. absurd (omega (arith, less))) (keeps_telling held) (λ other. refl)

pub no_prelude_resume : {builds : Builds Body} → (name content : List ℕ) (budget : ℕ) (save : Option (List ℕ)) (f i k : ℕ) (held : Option FileMap) (left written : Option (List ℕ)) (last : Option Session) (reason : PreludeFault) → IfSome held (λ h. h name ≡ Some content) → IsNoPrelude reason
    → IsResume builds name budget save (files_of f f held held) (stream_of i i left left) (stream_of k k written written) last (status_of_fault (fault_of_prelude reason))
no_prelude_resume name content budget save f i k held left written last prelude.Refused found none =
    not_resumed_by name budget save f f i k held held left written last 12 (resuming.no_prelude none)
    (λ lacks calm. absurd (not_lacking name content held found lacks)) (λ content' has bare calm ample made. absurd (made refl))
    (λ content' lines run has goes calm ample. none goes.prelude goes.is_prelude) (λ less. absurd (omega (arith, less))) (keeps_telling held) (λ other. refl)
no_prelude_resume name content budget save f i k held left written last prelude.Memory found none = memory_resume name content budget save f i k held left written last found

-- the bytes are no session's image, or no memory is found

status_8 : (reason : Fault) (why : Refusal) → told_refusal reason ≡ Some why → status_of_fault reason ≡ 8
status_8 (fault.NoImage kind) why told = refl
status_8 (fault.NoPermanent kind key) why told = refl
status_8 _ why told = absurd (cc)

pub no_session_resume : {builds : Builds Body} → (name content : List ℕ) (budget : ℕ) (save : Option (List ℕ)) (prelude : Prototype) (f i k : ℕ) (held : Option FileMap) (left written : Option (List ℕ)) (last : Option Session) (reason : Fault) → IfSome held (λ h. h name ≡ Some content)
    → ((other : Prototype) → IsPreludeCode other → prelude ≡ other) → IsNoSessionFor prelude content reason ⊎ (reason ≡ fault.Memory)
    → IsResume builds name budget save (files_of f f held held) (stream_of i i left left) (stream_of k k written written) last (status_of_fault reason)
no_session_resume name content budget save prelude f i k held left written last reason found only (inl own) =
    let none : HoldsNoSession content = λ other is_prelude session holds waits. own.holds_none session (subst (λ p. IsSession (functions_of p) content session) (sym (only other is_prelude)) holds) waits in
    rw (status_8 reason own.why own.told) (not_resumed_by name budget save f f i k held held left written last 8 (resuming.no_session content found none)
    (λ lacks calm. absurd (not_lacking name content held found lacks)) (λ content' has bare calm ample made. refl)
    (λ content' lines run has goes calm ample. none goes.prelude goes.is_prelude goes.session (subst (λ c. IsSession (functions_of goes.prelude) c goes.session) (same_content name content content' held found has) goes.holds) goes.waits)
    (λ less. absurd (omega (arith, less))) (keeps_telling held) (λ other. refl))
no_session_resume name content budget save prelude f i k held left written last reason found only (inr memory) = rw memory (memory_resume name content budget save f i k held left written last found)

-- the session goes on

-- bytes are the image of one session
session_once : (prelude : List (Entry Prototype)) (content : List ℕ) (X Y : World) → IsSession prelude content X → IsSession prelude content Y → X ≡ Y
session_once prelude content X Y x y =
    let both : read x.image x.met [] ≡ read y.image y.met [] = sym x.accepted ∙ y.accepted in
    let images : x.image ≡ y.image = cc in
    let worlds : Some X ≡ Some Y = sym x.session ∙ ap (session_of prelude) images ∙ y.session in
    cc

-- the one run of the session in the file
same_onward : {builds : Builds Body} → (name content content' : List ℕ) (budget : ℕ) (held : Option FileMap) (prelude : Prototype) (session : World) (lines : List (List ℕ)) (run : Run) → IfSome held (λ h. h name ≡ Some content) → Holds held name content'
    → ((other : Prototype) → IsPreludeCode other → prelude ≡ other) → IsSession (functions_of prelude) content session → ResumesOn builds content' lines budget run → CodeOnward (library builds) session lines budget run
same_onward {builds = builds} name content content' budget held prelude session lines run found has only own goes =
    let same : content' ≡ content = same_content name content content' held found has in
    let preludes : goes.prelude ≡ prelude = sym (only goes.prelude goes.is_prelude) in
    let holds : IsSession (functions_of goes.prelude) content goes.session = subst (λ c. IsSession (functions_of goes.prelude) c goes.session) same goes.holds in
    let its : IsSession (functions_of prelude) content goes.session = subst (λ p. IsSession (functions_of p) content goes.session) preludes holds in
    subst (λ X. CodeOnward (library builds) X lines budget run) (session_once (functions_of prelude) content goes.session session its own) goes.runs

-- what is known of a session that was fed is known of the one in the file
pub resume_of : {builds : Builds Body} → (name content : List ℕ) (budget : ℕ) (save : Option (List ℕ)) (prelude : Prototype) (session : World) (files : Device FileMap) (input out : Device (List ℕ)) (last : Option Session) (status : ℕ)
    → IfSome files.content (λ h. h name ≡ Some content) → IsPreludeCode prelude → ((other : Prototype) → IsPreludeCode other → prelude ≡ other) → IsSession (functions_of prelude) content session → HasYielded session
    → Ran prelude (GoesOn (library builds) session budget) save files input out last status → IsResume builds name budget save files input out last status
resume_of {builds = builds} name content budget save prelude session files input out last status found is_prelude only own waits ran = record {
  cause = goes_on content prelude session found is_prelude own waits ran.ends;
  absent = λ lacks calm. absurd (not_lacking name content files.content found lacks);
  no_session = λ content' has none calm ample made.
      let same : content' ≡ content = same_content name content content' files.content found has in
      absurd (none prelude is_prelude session (subst (λ c. IsSession (functions_of prelude) c session) (sym same) own) waits);
  runs = λ content' text run has told goes calm calm' calm'' within ample unchanged.
      let d = ran.does text run told (same_onward name content content' budget files.content prelude session (lines_of text) run found has only own goes) calm calm' calm'' within ample unchanged in
      (d.0, d.1, subst (λ p. IsKept p run files save) (only goes.prelude goes.is_prelude) d.2);
  session = λ content' text run has told goes ended. ran.session text run told (same_onward name content content' budget files.content prelude session (lines_of text) run found has only own goes) ended;
  fault = ran.fault;
  cut_short = λ content' text has told grew.
      let its : IsSession (functions_of prelude) content' session = subst (λ c. IsSession (functions_of prelude) c session) (sym (same_content name content content' files.content found has)) own in
      short_of (GoesOn (library builds) session budget) (λ lines run. ResumesOn builds content' lines budget run) text input out told
      (λ lines run goes. record { prelude = prelude; is_prelude = is_prelude; session = session; holds = its; waits = waits; runs = goes }) (ran.broken grew);
  limit = λ content' text run has told goes waits past calm calm' calm'' ample.
      ran.limit text run told (same_onward name content content' budget files.content prelude session (usable_lines 0 text) run found has only own goes) waits past calm calm' calm'' ample;
  front = λ content' text run has told goes. ran.front text run told (same_onward name content content' budget files.content prelude session (usable_lines 0 text) run found has only own goes);
  grows = ran.grows;
  others_kept = ran.others;
  files_same = ran.same;
}

-- the files stayed as they were up to there
pub resume_since : {builds : Builds Body} → (name : List ℕ) (budget : ℕ) (save : Option (List ℕ)) (f f' f'' : ℕ) (held held' held'' : Option FileMap) (input out : Device (List ℕ)) (last : Option Session) (status status' : ℕ) → f' ≡ f → held' ≡ held → status ≡ status'
    → IsResume builds name budget save (files_of f' f'' held' held'') input out last status' → IsResume builds name budget save (files_of f f'' held held'') input out last status
resume_since name budget save f f' f'' held held' held'' input out last status status' faults kept same run = rw (sym faults, sym kept, same) run

pub resume_before : {builds : Builds Body} → (name : List ℕ) (budget : ℕ) (save : Option (List ℕ)) (f f' : ℕ) (held held' : Option FileMap) (input out : Device (List ℕ)) (last : Option Session) (status status' : ℕ) → f' ≡ f → held' ≡ held → status ≡ status'
    → IsResume builds name budget save (files_of f f held held) input out last status' → IsResume builds name budget save (files_of f f' held held') input out last status
resume_before name budget save f f' held held' input out last status status' faults kept same run = rw (faults, kept, same) run

-- the exit of a `?` for want of memory, where the file is read
pub short_resume : {builds : Builds Body} → (name content : List ℕ) (budget : ℕ) (save : Option (List ℕ)) (f f' i k : ℕ) (held held' : Option FileMap) (left written : Option (List ℕ)) (last : Option Session) (result : Result ℕ Fault) → f' ≡ f → held' ≡ held
    → IfSome held (λ h. h name ≡ Some content) → IsErrAnd result (λ made. made ≡ fault.Memory) → IsResume builds name budget save (files_of f f' held held') (stream_of i i left left) (stream_of k k written written) last (status_of result)
short_resume name content budget save f f' i k held held' left written last result faults kept found short =
    resume_before name budget save f f' held held' (stream_of i i left left) (stream_of k k written written) last (status_of result) 9 faults kept (ap status_of (raised result fault.Memory short)) (memory_resume name content budget save f i k held left written last found)

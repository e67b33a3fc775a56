-- How the checking of a file ends.
use Rattle.std.proofs.Common.{Result, Ok, Err, OnOk, OnErr, IfErr, ◌≡◌, ◌≢◌, ◌<◌, ◌⊎◌, inl, inr, ℕ, List, ◌++◌, Option, Some, None, IfSome, true, refl, sym, ap, subst, ◌∙◌, arith}
use Rattle.std.specs.Option.{option_map}
use Rattle.std.specs.Prelude.{is_err, IsErrOf}
use Rattle.std.specs.Bool.{OnTrue, OnFalse}
use Rattle.std.specs.declared.vec.Vec.{Vec}
use Rattle.std.specs.declared.alloc.Global.{Global}
use Rattle.code_core.specs.Prototype.{Prototype}
use Rattle.io_edge.specs.declared.fault.FileFault.{FileFault}
use Rattle.io_edge.specs.declared.fault.FileFault.TheVariants.{Failed, Absent, Memory}
use Rattle.io_edge.specs.Causes.{HasCause, Rose, is_failed}
use Rattle.io_edge.specs.Content.{FileMap, GrowsByFront, MayEndTelling}
use Rattle.program.specs.declared.fault.Fault.{Fault}
use Rattle.program.specs.declared.fault.Fault.TheVariants as fault
use Rattle.program.specs.Devices.{Device, Holds, Lacks}
use Rattle.program.specs.Checking as check
use Rattle.program.specs.Checking.{IsAccepted, HoldsNoChunk, Reports, report_of, IsCheck}
use Rattle.program.specs.Faults.{done_status, fault_of_file}
use Rattle.program.specs.Outcomes.{IsChunkIn, IsNoChunkFor}
use Rattle.program.specs.Report.{ChunkFits, status_of_fault}
use Rattle.program.proofs.DeviceLemmas.{grows_by_none, grows_by_all, only_same, only_front, keeps_telling, same_content, not_lacking, no_content, stays, told_lacking}

-- the text is what is written of the bytes
pub record IsCounts (content text : List ℕ) : Type 0 where
  pub writes : Reports content text
  pub only : (text' : List ℕ) → Reports content text' → text' ≡ text

pub counted : (content text : List ℕ) (code : Prototype) → IsChunkIn content code → text ≡ report_of code → IsCounts content text
counted content text code own is = record {
  writes = (code, own.accepted, is);
  only = λ text' (other, accepted, is'). is' ∙ ap report_of (sym (own.only other accepted)) ∙ sym is;
}

-- nothing is written: what is known whatever the cause is
not_checked_by : (name : List ℕ) (f f' k : ℕ) (held held' : Option FileMap) (written : Option (List ℕ)) (status : ℕ)
    → check.IsCause name (record { faults = f; faults' = f'; content = held; content' = held' }) (record { faults = k; faults' = k; content = written; content' = written }) status
    → (Lacks held name → ¬ (Rose f f') → status ≡ 11)
    → ((content : List ℕ) → Holds held name content → HoldsNoChunk content → ¬ (Rose f f') → status ≢ 9 → status ≡ 8)
    → ((content text : List ℕ) → Holds held name content → Reports content text → ¬ (Rose f f') → status ≢ 9 → ⊥)
    → (f < f' → status ≡ 6)
    → MayEndTelling held held' → (status ≢ 6 → held' ≡ held)
    → IsCheck name (record { faults = f; faults' = f'; content = held; content' = held' }) (record { faults = k; faults' = k; content = written; content' = written }) status
not_checked_by name f f' k held held' written status cause absent refused done fault kept same = record {
  cause = cause;
  absent = absent;
  refused = refused;
  fault = λ grew. elim grew [ inl less ↦ fault less | inr less ↦ absurd (stays k written written less) ];
  done = λ content text has writes calm calm' ample. absurd (done content text has writes calm ample);
  front = λ content text has writes. grows_by_none text written;
  grows = only_same written;
  none_lacking = λ lacks. refl;
  none_refused = λ content has refuses. refl;
  files_kept = kept;
  files_same = same;
}

pub refused_check : (name content : List ℕ) (f k : ℕ) (held : Option FileMap) (written : Option (List ℕ)) (status : ℕ) → status ≡ 8 → IfSome held (λ files. files name ≡ Some content) → HoldsNoChunk content → IsCheck name (record { faults = f; faults' = f; content = held; content' = held }) (record { faults = k; faults' = k; content = written; content' = written }) status
refused_check name content f k held written status own found refuses =
    not_checked_by name f f k held held written status (rw own (check.no_chunk content found refuses (record { no_fault = refl; unwritten = refl })))
    (λ lacks calm. absurd (not_lacking name content held found lacks)) (λ content' has refuses' calm ample. own)
    (λ content' text has writes calm ample. refuses writes.0 (subst (λ c. IsAccepted c writes.0) (same_content name content content' held found has) writes.1)) (λ less. absurd (omega (arith, less))) (keeps_telling held) (λ other. refl)

pub memory_check : (name content : List ℕ) (f k : ℕ) (held : Option FileMap) (written : Option (List ℕ)) → IfSome held (λ files. files name ≡ Some content) → IsCheck name (record { faults = f; faults' = f; content = held; content' = held }) (record { faults = k; faults' = k; content = written; content' = written }) 9
memory_check name content f k held written found =
    not_checked_by name f f k held held written 9 (check.no_memory (record { no_fault = refl; unwritten = refl }))
    (λ lacks calm. absurd (not_lacking name content held found lacks)) (λ content' has refuses calm ample. absurd (ample refl))
    (λ content' text has writes calm ample. ample refl) (λ less. absurd (omega (arith, less))) (keeps_telling held) (λ other. refl)

failed_check : (name content text : List ℕ) (f k k' : ℕ) (held : Option FileMap) (written written' : Option (List ℕ)) → IfSome held (λ files. files name ≡ Some content) → IsCounts content text → HasCause k k' true → GrowsByFront text written written' → IsCheck name (record { faults = f; faults' = f; content = held; content' = held }) (record { faults = k; faults' = k'; content = written; content' = written' }) 6
failed_check name content text f k k' held written written' found own cause front =
    record {
      cause = check.unwritten content text found own.writes cause.rose front;
      absent = λ lacks same. absurd (not_lacking name content held found lacks);
      refused = λ content' has refuses same ample. absurd (refuses own.writes.0 (subst (λ c. IsAccepted c own.writes.0) (sym (same_content name content content' held found has)) own.writes.1));
      fault = λ grew. refl;
      done = λ content' text' has writes same same' ample. absurd (same' cause.rose);
      front = λ content' text' has writes. subst (λ t. GrowsByFront t written written') (sym (own.only text' (subst (λ c. Reports c text') (same_content name content content' held found has) writes))) front;
      grows = only_front text written written' front;
      none_lacking = λ lacks. absurd (not_lacking name content held found lacks);
      none_refused = λ content' has refuses. absurd (refuses own.writes.0 (subst (λ c. IsAccepted c own.writes.0) (sym (same_content name content content' held found has)) own.writes.1));
      files_kept = keeps_telling held;
      files_same = λ other. absurd (other refl);
    }

done_check : (name content text : List ℕ) (f k k' : ℕ) (held : Option FileMap) (written written' : Option (List ℕ)) → IfSome held (λ files. files name ≡ Some content) → IsCounts content text → k' ≡ k → written' ≡ option_map (λ before. before ++ text) written → IsCheck name (record { faults = f; faults' = f; content = held; content' = held }) (record { faults = k; faults' = k'; content = written; content' = written' }) 0
done_check name content text f k k' held written written' found own same_count wrote =
    record {
      cause = check.counted content text found own.writes wrote;
      absent = λ lacks same. absurd (not_lacking name content held found lacks);
      refused = λ content' has refuses same ample. absurd (refuses own.writes.0 (subst (λ c. IsAccepted c own.writes.0) (sym (same_content name content content' held found has)) own.writes.1));
      fault = λ grew. absurd (elim grew [ inl less ↦ stays f held held less | inr less ↦ omega (arith, same_count) ]);
      done = λ content' text' has writes same same' ample.
          let texts = own.only text' (subst (λ c. Reports c text') (same_content name content content' held found has) writes) in
          (refl, wrote ∙ ap (λ t. option_map (λ before. before ++ t) written) (sym texts));
      front = λ content' text' has writes. subst (λ t. GrowsByFront t written written') (sym (own.only text' (subst (λ c. Reports c text') (same_content name content content' held found has) writes))) (grows_by_all text written written' wrote);
      grows = only_front text written written' (grows_by_all text written written' wrote);
      none_lacking = λ lacks. absurd (not_lacking name content held found lacks);
      none_refused = λ content' has refuses. absurd (refuses own.writes.0 (subst (λ c. IsAccepted c own.writes.0) (sym (same_content name content content' held found has)) own.writes.1));
      files_kept = keeps_telling held;
      files_same = λ other. refl;
    }

-- the counts are written, or that fails
pub written_check : (name content text : List ℕ) (f k k' : ℕ) (held : Option FileMap) (written written' : Option (List ℕ)) (result : Result (Unit {0}) Fault) → IfSome held (λ files. files name ≡ Some content) → IsCounts content text → HasCause k k' (is_err result) → OnOk result (written' ≡ option_map (λ before. before ++ text) written) → OnErr result (GrowsByFront text written written') → IfErr result (λ made. made ≡ fault.Device) → IsCheck name (record { faults = f; faults' = f; content = held; content' = held }) (record { faults = k; faults' = k'; content = written; content' = written' }) (done_status result)
written_check name content text f k k' held written written' (Ok done) found own cause wrote front device = done_check name content text f k k' held written written' found own cause.only wrote
written_check name content text f k k' held written written' (Err reason) found own cause wrote front device = rw device (failed_check name content text f k k' held written written' found own cause front)

-- the bytes are refused, or no memory is found
pub stopped_check : (name content : List ℕ) (f k : ℕ) (held : Option FileMap) (written : Option (List ℕ)) (reason : Fault) → IfSome held (λ files. files name ≡ Some content) → IsNoChunkFor content reason ⊎ (reason ≡ fault.Memory) → IsCheck name (record { faults = f; faults' = f; content = held; content' = held }) (record { faults = k; faults' = k; content = written; content' = written }) (status_of_fault reason)
stopped_check name content f k held written reason found (inl refusal) = refused_check name content f k held written (status_of_fault reason) refusal.status found refusal.holds_none
stopped_check name content f k held written reason found (inr memory) = rw memory (memory_check name content f k held written found)

-- the file is not read
pub unread_check : (name : List ℕ) (f f' k : ℕ) (held held' : Option FileMap) (written : Option (List ℕ)) (reason : FileFault) → HasCause f f' (is_failed {T = Vec ℕ Global} (Err reason)) → (IsErrOf {T = Vec ℕ Global} (Err reason) Absent → IfSome held (λ files. files name ≡ None)) → IfSome held (λ files. files name ≡ None → IsErrOf {T = Vec ℕ Global} (Err reason) Absent ⊎ IsErrOf {T = Vec ℕ Global} (Err reason) Failed) → OnFalse (is_failed {T = Vec ℕ Global} (Err reason)) (held' ≡ held) → OnTrue (is_failed {T = Vec ℕ Global} (Err reason)) (MayEndTelling held held') → IsCheck name (record { faults = f; faults' = f'; content = held; content' = held' }) (record { faults = k; faults' = k; content = written; content' = written }) (status_of_fault (fault_of_file reason))
unread_check name f f' k held held' written Failed cause absent lacking kept failed =
    not_checked_by name f f' k held held' written 6 (check.unread cause.rose (record { no_fault = refl; unwritten = refl }))
    (λ lacks calm. absurd (calm cause.rose)) (λ content has refuses calm ample. absurd (calm cause.rose))
    (λ content text has writes calm ample. calm cause.rose) (λ less. refl) failed (λ other. absurd (other refl))
unread_check name f f' k held held' written Absent cause absent lacking kept failed =
    let none = absent refl in
    not_checked_by name f f' k held held' written 11 (check.absent none (record { no_fault = refl; unwritten = refl }))
    (λ lacks calm. refl) (λ content has refuses calm ample. absurd (no_content name content held none has))
    (λ content text has writes calm ample. no_content name content held none has) (λ less. absurd (omega (arith, cause.only, less))) (rw kept (keeps_telling held)) (λ other. kept)
unread_check name f f' k held held' written Memory cause absent lacking kept failed =
    not_checked_by name f f' k held held' written 9 (check.no_memory (record { no_fault = refl; unwritten = refl }))
    (λ lacks calm. absurd (elim (told_lacking name held lacking lacks) [ inl bad ↦ cc | inr bad ↦ cc ])) (λ content has refuses calm ample. absurd (ample refl))
    (λ content text has writes calm ample. ample refl) (λ less. absurd (omega (arith, cause.only, less))) (rw kept (keeps_telling held)) (λ other. kept)

-- the files stay as they are
pub with_files_kept : (name : List ℕ) (f f' : ℕ) (held held' : Option FileMap) (out : Device (List ℕ)) (status status' : ℕ) → f' ≡ f → held' ≡ held → status ≡ status' → IsCheck name (record { faults = f; faults' = f; content = held; content' = held }) out status' → IsCheck name (record { faults = f; faults' = f'; content = held; content' = held' }) out status
with_files_kept name f f' held held' out status status' faults kept same work = rw (faults, kept, same) work

-- the bytes that were refused are those of the file
pub refused_file : {bytes content : List ℕ} {reason : Fault} → bytes ≡ content → IsNoChunkFor bytes reason ⊎ (reason ≡ fault.Memory) → IsNoChunkFor content reason ⊎ (reason ≡ fault.Memory)
refused_file {reason = reason} same refused = subst (λ s. IsNoChunkFor s reason ⊎ (reason ≡ fault.Memory)) same refused

-- what a refusal tells of the bytes that the files hold
pub refusal_tells : (name content content' : List ℕ) (held : Option FileMap) (reason : Fault) → IfSome held (λ files. files name ≡ Some content) → Holds held name content' → IsNoChunkFor content reason ⊎ (reason ≡ fault.Memory) → ChunkFits content' reason
refusal_tells name content content' held reason found has (inl refusal) = subst (λ c. ChunkFits c reason) (sym (same_content name content content' held found has)) refusal.fits
refusal_tells name content content' held reason found has (inr memory) = rw memory tt

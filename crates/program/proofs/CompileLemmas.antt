-- How compiling a script's file ends.
use Rattle.std.proofs.Common.{Err, ◌≡◌, ◌⊎◌, inl, inr, ℕ, List, Option, Some, None, IfSome, Bool, true, not, refl, sym, ap, subst, ◌∙◌, arith, rules}
use Rattle.std.specs.Option.{option_map}
use Rattle.std.specs.Prelude.{IsErrOf}
use Rattle.std.specs.Bool.{OnTrue, OnFalse}
use Rattle.std.specs.declared.vec.Vec.{Vec}
use Rattle.std.specs.declared.alloc.Global.{Global}
use Rattle.io_edge.specs.declared.fault.FileFault.{FileFault}
use Rattle.io_edge.specs.declared.fault.FileFault.TheVariants.{Failed, Absent, Memory}
use Rattle.io_edge.specs.Causes.{HasCause, is_failed}
use Rattle.io_edge.specs.Content.{FileMap, MayEndTelling, KeepsOtherFiles, with_file}
use Rattle.compile_text.specs.Source.{IsRefused, IsSource}
use Rattle.compile_text.specs.declared.fault.TextFault.{TextFault}
use Rattle.compile_text.specs.declared.fault.TextFault.TheVariants as text
use Rattle.compile_chunk.specs.Chunk.{script_in}
use Rattle.program.specs.declared.fault.Fault.{Fault}
use Rattle.program.specs.declared.fault.Fault.TheVariants as fault
use Rattle.program.specs.Faults.{fault_of_file, fault_of_text}
use Rattle.program.specs.Outcomes.{IsChunk, IsNoScriptFor}
use Rattle.program.specs.Devices.{Holds}
use Rattle.program.specs.Compiling as compile
use Rattle.program.specs.Compiling.{Compiles, HoldsNoScript, IsCompilation}
use Rattle.program.specs.Report.{status_of_fault}
use Rattle.program.proofs.DeviceLemmas.{keeps_others, replaces_others, keeps_telling, same_telling, same_content, not_lacking, no_content, stays, told_lacking}

pub text_refused : (content : List ℕ) (reason : TextFault) → IsRefused (script_in content) reason → IsNoScriptFor content (fault_of_text reason) ⊎ (fault_of_text reason ≡ fault.Memory)
text_refused content (text.Source line) refused = inl (record { status = refl; holds_none = refused.none; fits = refused })
text_refused content (text.Rule rule line) refused = inl (record { status = refl; holds_none = refused.none; fits = refused })
text_refused content text.Memory refused = inr refl

-- the file of the script is not read
pub unread_compilation : (script chunk : List ℕ) (strip : Bool) (f f' : ℕ) (held held' : Option FileMap) (reason : FileFault) → HasCause f f' (is_failed {T = Vec ℕ Global} (Err reason)) → (IsErrOf {T = Vec ℕ Global} (Err reason) Absent → IfSome held (λ files. files script ≡ None)) → IfSome held (λ files. files script ≡ None → IsErrOf {T = Vec ℕ Global} (Err reason) Absent ⊎ IsErrOf {T = Vec ℕ Global} (Err reason) Failed) → OnFalse (is_failed {T = Vec ℕ Global} (Err reason)) (held' ≡ held) → OnTrue (is_failed {T = Vec ℕ Global} (Err reason)) (MayEndTelling held held')
    → IsCompilation script chunk strip (record { faults = f; faults' = f'; content = held; content' = held' }) (status_of_fault (fault_of_file reason))
unread_compilation script chunk strip f f' held held' Failed cause absent lacking kept failed = record {
  cause = compile.unread cause.rose failed;
  absent = λ lacks same. absurd (same cause.rose);
  refused = λ content has none same ample. absurd (same cause.rose);
  fault = λ grew. refl;
  done = λ content bytes has compiles same ample. absurd (same cause.rose);
  others_kept = keeps_others chunk held held' failed;
  none_lacking = λ lacks. failed;
  none_refused = λ content has none. failed;
  files_same = λ other other'. absurd (other' refl);
}
unread_compilation script chunk strip f f' held held' Absent cause absent lacking kept failed =
    let none = absent refl in
    record {
      cause = compile.absent none (record { no_fault = cause.only; unwritten = kept });
      absent = λ lacks same. refl;
      refused = λ content has refuses same ample. absurd (no_content script content held none has);
      fault = λ grew. absurd (omega (arith, cause.only, grew));
      done = λ content bytes has compiles same ample. absurd (no_content script content held none has);
      others_kept = keeps_others chunk held held' (rw kept (keeps_telling held));
      none_lacking = λ lacks. same_telling held held' kept;
      none_refused = λ content has refuses. same_telling held held' kept;
      files_same = λ other other'. kept;
    }
unread_compilation script chunk strip f f' held held' Memory cause absent lacking kept failed = record {
  cause = compile.no_memory (record { no_fault = cause.only; unwritten = kept });
  absent = λ lacks same. absurd (elim (told_lacking script held lacking lacks) [ inl bad ↦ cc | inr bad ↦ cc ]);
  refused = λ content has refuses same ample. absurd (ample refl);
  fault = λ grew. absurd (omega (arith, cause.only, grew));
  done = λ content bytes has compiles same ample. absurd (ample refl);
  others_kept = keeps_others chunk held held' (rw kept (keeps_telling held));
  none_lacking = λ lacks. same_telling held held' kept;
  none_refused = λ content has refuses. same_telling held held' kept;
  files_same = λ other other'. kept;
}

-- the file holds no script
refused_compilation : (script chunk : List ℕ) (strip : Bool) (content : List ℕ) (f : ℕ) (held : Option FileMap) (status : ℕ) → status ≡ 5 → IfSome held (λ files. files script ≡ Some content) → HoldsNoScript content
    → IsCompilation script chunk strip (record { faults = f; faults' = f; content = held; content' = held }) status
refused_compilation script chunk strip content f held status own found none = record {
  cause = rw own (compile.no_script content found none (record { no_fault = refl; unwritten = refl }));
  absent = λ lacks same. absurd (not_lacking script content held found lacks);
  refused = λ content' has refuses same ample. own;
  fault = λ grew. absurd (stays f held held grew);
  done = λ content' bytes has compiles same ample. absurd (none compiles.tree (subst (λ c. IsSource (script_in c) compiles.tree) (same_content script content content' held found has) compiles.is_source));
  others_kept = keeps_others chunk held held (keeps_telling held);
  none_lacking = λ lacks. keeps_telling held;
  none_refused = λ content' has refuses. keeps_telling held;
  files_same = λ other other'. refl;
}

-- no memory is found
memory_compilation : (script chunk : List ℕ) (strip : Bool) (content : List ℕ) (f : ℕ) (held : Option FileMap) → IfSome held (λ files. files script ≡ Some content)
    → IsCompilation script chunk strip (record { faults = f; faults' = f; content = held; content' = held }) 9
memory_compilation script chunk strip content f held found = record {
  cause = compile.no_memory (record { no_fault = refl; unwritten = refl });
  absent = λ lacks same. absurd (not_lacking script content held found lacks);
  refused = λ content' has refuses same ample. absurd (ample refl);
  fault = λ grew. absurd (stays f held held grew);
  done = λ content' bytes has compiles same ample. absurd (ample refl);
  others_kept = keeps_others chunk held held (keeps_telling held);
  none_lacking = λ lacks. keeps_telling held;
  none_refused = λ content' has refuses. keeps_telling held;
  files_same = λ other other'. refl;
}

-- the script has no chunk, for one of both causes
pub stopped_compilation : (script chunk : List ℕ) (strip : Bool) (content : List ℕ) (f : ℕ) (held : Option FileMap) (reason : Fault) → IfSome held (λ files. files script ≡ Some content) → IsNoScriptFor content reason ⊎ (reason ≡ fault.Memory)
    → IsCompilation script chunk strip (record { faults = f; faults' = f; content = held; content' = held }) (status_of_fault reason)
stopped_compilation script chunk strip content f held reason found (inl refusal) = refused_compilation script chunk strip content f held (status_of_fault reason) refusal.status found refusal.holds_none
stopped_compilation script chunk strip content f held reason found (inr memory) = rw memory (memory_compilation script chunk strip content f held found)

-- the chunk is put into its file, or that fails

holds_script : (script content content' : List ℕ) (strip : Bool) (bytes : List ℕ) (held : Option FileMap) → IfSome held (λ files. files script ≡ Some content) → IsChunk script strip content bytes → Holds held script content' → HoldsNoScript content' → ⊥
holds_script script content content' strip bytes held found made has none =
    none made.compiles.tree (subst (λ c. IsSource (script_in c) made.compiles.tree) (sym (same_content script content content' held found has)) made.compiles.is_source)

pub put_compilation : (script chunk : List ℕ) (strip : Bool) (content bytes : List ℕ) (f f' : ℕ) (held held' : Option FileMap) → IfSome held (λ files. files script ≡ Some content) → IsChunk script strip content bytes
    → f' ≡ f → held' ≡ option_map (λ files. with_file files chunk bytes) held
    → IsCompilation script chunk strip (record { faults = f; faults' = f'; content = held; content' = held' }) 0
put_compilation script chunk strip content bytes f f' held held' found made same_count put = record {
  cause = compile.put content bytes found made.compiles same_count put;
  absent = λ lacks same. absurd (not_lacking script content held found lacks);
  refused = λ content' has none same ample. absurd (holds_script script content content' strip bytes held found made has none);
  fault = λ grew. absurd (omega (arith, same_count, grew));
  done = λ content' bytes' has compiles same ample.
      let one = made.only bytes' (subst (λ c. Compiles script strip c bytes') (same_content script content content' held found has) compiles) in
      (refl, put ∙ ap (λ b. option_map (λ files. with_file files chunk b) held) (sym one));
  others_kept = replaces_others chunk bytes held held' put;
  none_lacking = λ lacks. absurd (not_lacking script content held found lacks);
  none_refused = λ content' has none. absurd (holds_script script content content' strip bytes held found made has none);
  files_same = λ other other'. absurd (other refl);
}

unput_compilation : (script chunk : List ℕ) (strip : Bool) (content bytes : List ℕ) (f f' : ℕ) (held held' : Option FileMap) → IfSome held (λ files. files script ≡ Some content) → IsChunk script strip content bytes
    → HasCause f f' true → KeepsOtherFiles chunk held held'
    → IsCompilation script chunk strip (record { faults = f; faults' = f'; content = held; content' = held' }) 6
unput_compilation script chunk strip content bytes f f' held held' found made cause kept = record {
  cause = compile.unput content bytes found made.compiles cause.rose kept;
  absent = λ lacks same. absurd (same cause.rose);
  refused = λ content' has none same ample. absurd (same cause.rose);
  fault = λ grew. refl;
  done = λ content' bytes' has compiles same ample. absurd (same cause.rose);
  others_kept = kept;
  none_lacking = λ lacks. absurd (not_lacking script content held found lacks);
  none_refused = λ content' has none. absurd (holds_script script content content' strip bytes held found made has none);
  files_same = λ other other'. absurd (other' refl);
}

-- and what is known of the files is from before the script's file was read
pub unput_since : (script chunk : List ℕ) (strip : Bool) (content bytes : List ℕ) (f read f' : ℕ) (held after held' : Option FileMap) → read ≡ f → after ≡ held → IfSome held (λ files. files script ≡ Some content) → IsChunk script strip content bytes
    → HasCause read f' true → KeepsOtherFiles chunk after held'
    → IsCompilation script chunk strip (record { faults = f; faults' = f'; content = held; content' = held' }) 6
unput_since script chunk strip content bytes f read f' held after held' same kept found made cause others =
    unput_compilation script chunk strip content bytes f f' held held' found made (subst (λ n. HasCause n f' true) same cause) (subst (λ h. KeepsOtherFiles chunk h held') kept others)

-- the file was read, and the files are as they were
pub with_same_files : (script chunk : List ℕ) (strip : Bool) (f f' : ℕ) (held held' : Option FileMap) (status status' : ℕ) → f' ≡ f → held' ≡ held → status ≡ status'
    → IsCompilation script chunk strip (record { faults = f; faults' = f; content = held; content' = held }) status' → IsCompilation script chunk strip (record { faults = f; faults' = f'; content = held; content' = held' }) status
with_same_files script chunk strip f f' held held' status status' faults kept same work = rw (faults, kept, same) work

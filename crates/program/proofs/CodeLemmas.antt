-- The code in a file, or why there is none.
use Rattle.std.proofs.Common.{◌≡◌, ◌⊎◌, inl, inr, ℕ, Bool, true, false, List, Option, Some, IfSome, sym, subst}
use Rattle.std.specs.Bool.{MatchBool}
use Rattle.code_core.specs.Prototype.{Prototype}
use Rattle.io_edge.specs.Content.{FileMap}
use Rattle.compile_text.specs.Source.{IsRefused}
use Rattle.compile_text.specs.declared.fault.TextFault.{TextFault}
use Rattle.compile_chunk.specs.Chunk.{IsCodeOf, script_in}
use Rattle.prelude_code.proofs.Preludes.{code_once}
use Rattle.lua_feed.specs.declared.fault.FeedFault.{FeedFault}
use Rattle.lua_feed.specs.declared.fault.FeedFault.TheVariants as feeding
use Rattle.program.specs.declared.fault.Fault.{Fault}
use Rattle.program.specs.declared.fault.Fault.TheVariants as fault
use Rattle.program.specs.Devices.{Holds}
use Rattle.program.specs.Checking.{begins_chunk, IsAccepted}
use Rattle.program.specs.Compiling.{source_name}
use Rattle.program.specs.Faults.{fault_of_text, fault_of_feeding}
use Rattle.program.specs.Outcomes.{IsNoChunkFor, IsCodeIn, IsNoScriptFor, IsNoCodeFor}
use Rattle.program.specs.Report.{ChunkFits, ScriptFits, CodeFits}
use Rattle.program.proofs.CompileLemmas.{text_refused}
use Rattle.program.proofs.DeviceLemmas.{same_content}

-- the choice by the first byte

on_script : (A B : Type 0) (b : Bool) → b ≡ false → B → MatchBool b A B
on_script A B true is given = absurd (cc)
on_script A B false is given = given

pub of_chunk : (A B : Type 0) (b : Bool) → b ≡ true → MatchBool b A B → A
of_chunk A B true is given = given
of_chunk A B false is given = absurd (cc)

pub of_script : (A B : Type 0) (b : Bool) → b ≡ false → MatchBool b A B → B
of_script A B true is given = absurd (cc)
of_script A B false is given = given

pub either : {A B : Type 0} (b : Bool) → A → B → MatchBool b A B
either true first second = first
either false first second = second

-- the code

pub script_code : (name content : List ℕ) (code : Prototype) → begins_chunk content ≡ false → IsCodeOf (source_name name) (script_in content) true code → IsCodeIn name content code
script_code name content code begins own = record {
  holds = on_script (IsAccepted content code) (IsCodeOf (source_name name) (script_in content) true code) (begins_chunk content) begins own;
  only = λ other holds. code_once (source_name name) (script_in content) true code other own (of_script (IsAccepted content other) (IsCodeOf (source_name name) (script_in content) true other) (begins_chunk content) begins holds);
}

pub script_refusal : (content : List ℕ) (reason : TextFault) → begins_chunk content ≡ false → IsRefused (script_in content) reason → IsNoCodeFor content (fault_of_text reason) ⊎ (fault_of_text reason ≡ fault.Memory)
script_refusal content reason begins refused = by (text_refused content reason refused)
  where
    by : IsNoScriptFor content (fault_of_text reason) ⊎ (fault_of_text reason ≡ fault.Memory) → IsNoCodeFor content (fault_of_text reason) ⊎ (fault_of_text reason ≡ fault.Memory)
    by (inl own) = inl (on_script (IsNoChunkFor content (fault_of_text reason)) (IsNoScriptFor content (fault_of_text reason)) (begins_chunk content) begins own)
    by (inr memory) = inr memory

-- what a fault tells of the bytes that the files hold

pub memory_fits : (content : List ℕ) → CodeFits content fault.Memory
memory_fits content = either (begins_chunk content) tt tt

pub feeding_fits : (content : List ℕ) (reason : FeedFault) → CodeFits content (fault_of_feeding reason)
feeding_fits content feeding.Input = either (begins_chunk content) tt tt
feeding_fits content feeding.Output = either (begins_chunk content) tt tt
feeding_fits content feeding.Limit = either (begins_chunk content) tt tt
feeding_fits content feeding.Memory = either (begins_chunk content) tt tt

fits_by : (b : Bool) (content : List ℕ) (reason : Fault) → MatchBool b (IsNoChunkFor content reason) (IsNoScriptFor content reason) → MatchBool b (ChunkFits content reason) (ScriptFits content reason)
fits_by true content reason own = own.fits
fits_by false content reason own = own.fits

pub code_tells : (name content content' : List ℕ) (held : Option FileMap) (reason : Fault) → IfSome held (λ files. files name ≡ Some content) → Holds held name content' → IsNoCodeFor content reason ⊎ (reason ≡ fault.Memory) → CodeFits content' reason
code_tells name content content' held reason found has (inl own) = subst (λ c. CodeFits c reason) (sym (same_content name content content' held found has)) (fits_by (begins_chunk content) content reason own)
code_tells name content content' held reason found has (inr memory) = rw memory (memory_fits content')

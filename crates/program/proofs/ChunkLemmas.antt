-- A chunk that is read, and checked or not.
use Rattle.std.proofs.Common.{Err, ◌≡◌, ◌⊎◌, inl, inr, ℕ, List, Some, None, refl, sym, ap, ◌∙◌}
use Rattle.code_core.specs.Prototype.{Prototype}
use Rattle.code_core.specs.Check.{IsChecked}
use Rattle.chunk_format.specs.Grammar.{BeginsWith, ChunkOf}
use Rattle.chunk_format.specs.Reading.{chunk_kind}
use Rattle.chunk_format.specs.Views.{Answers, KindIs}
use Rattle.chunk_format.specs.declared.fault.ChunkFault.{ChunkFault}
use Rattle.chunk_format.specs.declared.fault.ChunkFault.TheVariants as chunk
use Rattle.chunk_check.specs.Answers.{CheckAnswers}
use Rattle.chunk_check.specs.Faults.{first_fault}
use Rattle.chunk_check.specs.declared.fault.CheckFault.{CheckFault}
use Rattle.chunk_check.specs.declared.fault.CheckFault.TheVariants as check
use Rattle.chunk_check.proofs.Exact.{no_fault_in_checked}
use Rattle.program.specs.declared.fault.Fault.TheVariants as fault
use Rattle.program.specs.Faults.{fault_of_chunk, fault_of_check}
use Rattle.program.specs.Outcomes.{IsChunkIn, IsNoChunkFor}

pub no_chunk : (bytes : List ℕ) (reason : ChunkFault) → ((proto : Prototype) (n : ℕ) → BeginsWith ChunkOf proto n bytes → Answers {A = Prototype} proto (Err reason)) → KindIs {A = Prototype} (chunk_kind bytes) (Err reason) → IsNoChunkFor bytes (fault_of_chunk reason) ⊎ (fault_of_chunk reason ≡ fault.Memory)
no_chunk bytes (chunk.Refused kind) only kind_is = inl (record { status = refl; holds_none = λ function accepted. only function accepted.taken accepted.begins; fits = kind_is })
no_chunk bytes chunk.Memory only kind_is = inr refl

broken_chunk : (bytes : List ℕ) (function : Prototype) (taken number pc rule : ℕ) → BeginsWith ChunkOf function taken bytes → ((other : Prototype) (n : ℕ) → BeginsWith ChunkOf other n bytes → function ≡ other) → first_fault function ≡ Some (record { function = number; pc = pc; rule = rule }) → IsNoChunkFor bytes (fault.BrokenRule number pc rule)
broken_chunk bytes function taken number pc rule begins only broken = record {
  status = refl;
  holds_none = λ other accepted.
      let same = only other accepted.taken accepted.begins in
      let none = no_fault_in_checked other accepted.checked in
      let bad : Some (record { function = number; pc = pc; rule = rule }) ≡ None = sym broken ∙ ap first_fault same ∙ none in
      cc;
  fits = record { function = function; taken = taken; begins = begins; first = broken };
}

pub checked : (bytes : List ℕ) (function : Prototype) (taken : ℕ) → BeginsWith ChunkOf function taken bytes → ((other : Prototype) (n : ℕ) → BeginsWith ChunkOf other n bytes → function ≡ other) → IsChecked function → IsChunkIn bytes function
checked bytes function taken begins only keeps = record {
  accepted = record { taken = taken; begins = begins; checked = keeps };
  only = λ other accepted. only other accepted.taken accepted.begins;
}

-- what the check answers of a function that was read
pub unchecked : (bytes : List ℕ) (function : Prototype) (taken : ℕ) (reason : CheckFault) → BeginsWith ChunkOf function taken bytes → ((other : Prototype) (n : ℕ) → BeginsWith ChunkOf other n bytes → function ≡ other) → CheckAnswers function (Err reason) → IsNoChunkFor bytes (fault_of_check reason) ⊎ (fault_of_check reason ≡ fault.Memory)
unchecked bytes function taken (check.Refused number pc rule) begins only broken = inl (broken_chunk bytes function taken number pc rule begins only broken)
unchecked bytes function taken check.Memory begins only broken = inr refl

-- What the machine does at the instructions of a generic `for`, as one equation each.
use Rattle.std.proofs.Common.{◌≡◌, ℕ, suc, ◌+◌, ◌<◌, ◌≤◌, ◌^◌, lit<, pos, Bool, false, cond, [], ◌∷◌, length, Some, None, refl, ap, ap₂, ◌∙◌, arith}
use borrow.Author.Tests.{lt-ltb, le-leb}
use Rattle.int_core.specs.Value.{Value, Shape, known, is_known, is_object, nil, primitive, is_nil, same_plain, nth, range, shape, holds}
use Rattle.int_core.specs.Ask.{calls, Reply, values, faulted, left, Captured}
use Rattle.code_core.specs.declared.opcode.Opcode.TheVariants.{TForPrep, TForCall, TForLoop}
use Rattle.code_core.specs.Instruction.{abc, abx, opcode_of}
use Rattle.code_core.specs.Prototype.{Prototype}
use Rattle.code_core.specs.Check.{at}
use Rattle.code_core.proofs.FieldLemmas.{opcode_of-abc, a_of-abc, c_of-abc, opcode_of-abx, a_of-abx, bx_of-abx}
use Rattle.machine_core.specs.World.{Activation, for_iterator, for_value}
use Rattle.machine_core.specs.Text.{Text, read, read_register, read_registers, write_register, drop_pending, cut_from, mark_pending, closable, own, call, pay, quick, go_by, trap}
use Rattle.machine_core.specs.InstructionRows.{next, then, back, write_values, rest_at, rest_by, told_values, variable_name}
use Rattle.machine_core.specs.InstructionRows as rows
use Rattle.machine_core.specs.Talk.{before, talk, talk_step, says_so, heard}
use Rattle.exp_laws.proofs.Steps.{row_step, own_step}
use Rattle.exp_laws.proofs.Calls.{cut_so, behind_fits}

pub told_iterator : (reply : Reply) → told_values for_iterator reply ≡ told_values for_value reply
told_iterator (values vs) = refl
told_iterator (faulted words) = refl
told_iterator (left e) = refl

-- the way back to the block
abbrev pub again_text : (t bx : ℕ) → Text
again_text t bx = then (write_register (t + 2) (read 0)) (back bx)

abbrev pub round_text : (t bx : ℕ) → Bool → Text
round_text t bx ended = cond ended next (quick pay (λ _. again_text t bx))

round_so : (t bx : ℕ) (v : Value)
    → elim (shape v) as (λ _. Text) [ is_known k ↦ cond (same_plain k nil) next (quick pay (λ _. again_text t bx)) | is_object kind ↦ quick pay (λ _. again_text t bx) ] ≡ round_text t bx (is_nil v)
round_so t bx (known (primitive n)) = refl
round_so t bx _ = refl

-- the text of TFORPREP once the value to be closed is known
abbrev pub preparing : (p : Prototype) → (pc r bx : ℕ) → Bool → Text
preparing p pc r bx b = cond b (closable (read 0) (variable_name p pc r) (then (mark_pending r) (go_by (pos (bx + 1))))) (go_by (pos (bx + 1)))

module _ (p : Prototype) where
  pub prepare_step : (t bx : ℕ) (a : Activation) (c : Captured) → at p a.pc ≡ Some (abx TForPrep t bx) → t < 2 ^ 8 → bx < 2 ^ 17 → t + 3 < length a.registers
      → talk_step p (before a c) ≡ talk p (preparing p a.pc (t + 3) bx (holds (shape (nth a.registers (t + 3))))) (nth a.registers (t + 3) ∷ []) a c
  prepare_step t bx a c here t_fits fits room =
      row_step p (abx TForPrep t bx) TForPrep (rows.marks p a.pc (t + 3) (go_by (pos (bx + 1)))) a c here (opcode_of-abx TForPrep t bx)
      (ap₂ (λ r b. rows.marks p a.pc (r + 3) (go_by (pos (b + 1)))) (a_of-abx TForPrep t bx t_fits) (bx_of-abx TForPrep t bx t_fits fits))
      ∙ own_step p (read_register (t + 3)) (λ v s. cond (holds s) (closable (read v) (variable_name p a.pc (t + 3)) (then (mark_pending (t + 3)) (go_by (pos (bx + 1))))) (go_by (pos (bx + 1)))) [] a c (lt-ltb (t + 3) (length a.registers) room)

  pub iterator_step : (t n : ℕ) (a : Activation) (c : Captured) → at p a.pc ≡ Some (abc TForCall t 0 n false) → t < 2 ^ 8 → t + 3 ≤ length a.registers
      → talk_step p (before a c) ≡ says_so (calls (nth a.registers t) (range (t + 1) 2 a.registers)) p (cut_so p (t + 4) a) c (λ x b d. heard for_iterator p x b d)
  iterator_step t n a c here t_fits room =
      row_step p (abc TForCall t 0 n false) TForCall (own (read_register t) (λ f _. own (read_registers (t + 1) 2) (λ v _. call (read f) v for_iterator (drop_pending (t + 4) ∷ cut_from (t + 4) ∷ [])))) a c here (opcode_of-abc TForCall t 0 n false)
      (ap (λ d. own (read_register d) (λ f _. own (read_registers (d + 1) 2) (λ v _. call (read f) v for_iterator (drop_pending (d + 4) ∷ cut_from (d + 4) ∷ [])))) (a_of-abc TForCall t 0 n false t_fits))
      ∙ own_step p (read_register t) (λ f _. own (read_registers (t + 1) 2) (λ v _. call (read f) v for_iterator (drop_pending (t + 4) ∷ cut_from (t + 4) ∷ []))) [] a c (lt-ltb t (length a.registers) (omega arith))
      ∙ own_step p (read_registers (t + 1) 2) (λ v _. call (read 0) v for_iterator (drop_pending (t + 4) ∷ cut_from (t + 4) ∷ [])) (nth a.registers t ∷ []) a c (le-leb _ (length a.registers) (behind_fits (t + 1) 2 (length a.registers) (omega arith)))

  pub iterator_rest : (t n pc : ℕ) → at p pc ≡ Some (abc TForCall t 0 n false) → t < 2 ^ 8 → n < 2 ^ 8 → rest_at {V = Value} for_iterator p pc ≡ write_values (t + 4) (suc n) 0
  iterator_rest t n pc here t_fits fits =
      let w = abc TForCall t 0 n false in
      let one : n + 1 ≡ suc n = omega arith in
      ap (λ o. elim o as (λ _. Text) [ None ↦ trap | Some i ↦ rest_by {V = Value} for_iterator p pc i (opcode_of i) ]) here
      ∙ ap (rest_by {V = Value} for_iterator p pc w) (opcode_of-abc TForCall t 0 n false)
      ∙ ap₂ (λ d e. write_values (d + 4) (e + 1) 0) (a_of-abc TForCall t 0 n false t_fits) (c_of-abc TForCall t 0 n false t_fits (lit< tt) fits)
      ∙ ap (λ f. write_values (t + 4) f 0) one

  pub round_step : (t bx : ℕ) (a : Activation) (c : Captured) → at p a.pc ≡ Some (abx TForLoop t bx) → t < 2 ^ 8 → bx < 2 ^ 17 → t + 4 < length a.registers
      → talk_step p (before a c) ≡ talk p (round_text t bx (is_nil (nth a.registers (t + 4)))) (nth a.registers (t + 4) ∷ []) a c
  round_step t bx a c here t_fits fits room =
      let text = λ (d b v : ℕ) (s : Shape). elim s as (λ _. Text) [
        | is_known k ↦ cond (same_plain k nil) next (quick pay (λ _. then (write_register (d + 2) (read v)) (back b)))
        | is_object kind ↦ quick pay (λ _. then (write_register (d + 2) (read v)) (back b))
      ] in
      row_step p (abx TForLoop t bx) TForLoop (own (read_register (t + 4)) (λ v s. text t bx v s)) a c here (opcode_of-abx TForLoop t bx)
      (ap₂ (λ d b. own (read_register (d + 4)) (λ v s. text d b v s)) (a_of-abx TForLoop t bx t_fits) (bx_of-abx TForLoop t bx t_fits fits))
      ∙ own_step p (read_register (t + 4)) (λ v s. text t bx v s) [] a c (lt-ltb (t + 4) (length a.registers) room)
      ∙ ap (λ x. talk p x (nth a.registers (t + 4) ∷ []) a c) (round_so t bx (nth a.registers (t + 4)))

-- TEST and TESTSET, and the jump behind them.
use Rattle.std.proofs.Common.{◌≡◌, ℕ, ◌+◌, ◌<◌, ◌^◌, Bool, true, false, cond, pos, ◌-ℤ◌, [], ◌∷◌, length, Some, ap, ap₂, ◌∙◌, arith}
use borrow.Author.Tests.{lt-ltb}
use Rattle.int_core.specs.Value.{nth, shape, holds, same_truth}
use Rattle.int_core.specs.Ask.{Captured, goes_on}
use Rattle.code_core.specs.declared.opcode.Opcode.TheVariants.{Jmp, Test, TestSet}
use Rattle.code_core.specs.declared.instruction.Instruction.{Instruction}
use Rattle.code_core.specs.Instruction.{abc, op_ax, a_of}
use Rattle.code_core.specs.Prototype.{Prototype}
use Rattle.code_core.specs.Check.{at}
use Rattle.code_core.proofs.FieldLemmas.{opcode_of-abc, a_of-abc, b_of-abc, opcode_of-ax, ax_of-ax}
use Rattle.machine_core.specs.World.{Activation}
use Rattle.machine_core.specs.Text.{read, read_register, own, go_by}
use Rattle.machine_core.specs.InstructionRows.{tested, jumps, to_register, skip}
use Rattle.machine_core.specs.Talk.{before, talk, talk_step}
use Rattle.exp_laws.proofs.Steps.{row_step, own_step, go_step, to_register_step, put_on}
use Rattle.code_of.proofs.Fields.{k_of-abc}

module _ (p : Prototype) (a : Activation) (c : Captured) where
  test_text : (t : ℕ) (k : Bool) → at p a.pc ≡ Some (abc Test t 0 0 k) → t < 2 ^ 8 → t < length a.registers
      → talk_step p (before a c) ≡ talk p (tested (holds (shape (nth a.registers t))) k) (nth a.registers t ∷ []) a c
  test_text t k here fits room =
      row_step p (abc Test t 0 0 k) Test (own (read_register t) (λ _ s. tested (holds s) k)) a c here (opcode_of-abc Test t 0 0 k)
      (ap₂ (λ d b. own (read_register d) (λ _ s. tested (holds s) b)) (a_of-abc Test t 0 0 k fits) (k_of-abc Test t 0 0 k fits))
      ∙ own_step p (read_register t) (λ _ s. tested (holds s) k) [] a c (lt-ltb t (length a.registers) room)

  -- the truth is k: on to the jump
  pub test_on : (t : ℕ) (k : Bool) (w : Instruction) → at p a.pc ≡ Some (abc Test t 0 0 k) → t < 2 ^ 8 → t < length a.registers
      → same_truth (holds (shape (nth a.registers t))) k ≡ true → at p (a.pc + 1) ≡ Some w → talk_step p (before a c) ≡ goes_on (before (record a { pc = a.pc + 1 }) c)
  test_on t k w here fits room e there =
      test_text t k here fits room ∙ ap (λ b. talk p (go_by (cond b (pos 1) (pos 2))) (nth a.registers t ∷ []) a c) e ∙ go_step p 1 w (nth a.registers t ∷ []) a c there

  -- it is not: past the jump
  pub test_past : (t : ℕ) (k : Bool) (w : Instruction) → at p a.pc ≡ Some (abc Test t 0 0 k) → t < 2 ^ 8 → t < length a.registers
      → same_truth (holds (shape (nth a.registers t))) k ≡ false → at p (a.pc + 2) ≡ Some w → talk_step p (before a c) ≡ goes_on (before (record a { pc = a.pc + 2 }) c)
  test_past t k w here fits room e there =
      test_text t k here fits room ∙ ap (λ b. talk p (go_by (cond b (pos 1) (pos 2))) (nth a.registers t ∷ []) a c) e ∙ go_step p 2 w (nth a.registers t ∷ []) a c there

  set_text : (t x : ℕ) (k : Bool) → at p a.pc ≡ Some (abc TestSet t x 0 k) → t < 2 ^ 8 → x < 2 ^ 8 → x < length a.registers
      → talk_step p (before a c) ≡ talk p (cond (same_truth (holds (shape (nth a.registers x))) k) (to_register t (read 0)) skip) (nth a.registers x ∷ []) a c
  set_text t x k here t_fits x_fits room =
      row_step p (abc TestSet t x 0 k) TestSet (own (read_register x) (λ v s. cond (same_truth (holds s) k) (to_register t (read v)) skip)) a c here (opcode_of-abc TestSet t x 0 k)
      (ap₂ (λ b q. own (read_register b) (λ v s. cond (same_truth (holds s) q) (to_register (a_of (abc TestSet t x 0 k)) (read v)) skip)) (b_of-abc TestSet t x 0 k t_fits x_fits) (k_of-abc TestSet t x 0 k t_fits)
      ∙ ap (λ d. own (read_register x) (λ v s. cond (same_truth (holds s) k) (to_register d (read v)) skip)) (a_of-abc TestSet t x 0 k t_fits))
      ∙ own_step p (read_register x) (λ v s. cond (same_truth (holds s) k) (to_register t (read v)) skip) [] a c (lt-ltb x (length a.registers) room)

  -- the truth of register x is k: its value goes to register t, and on to the jump
  pub set_on : (t x : ℕ) (k : Bool) (w : Instruction) → at p a.pc ≡ Some (abc TestSet t x 0 k) → t < 2 ^ 8 → x < 2 ^ 8 → x < length a.registers → t < length a.registers
      → same_truth (holds (shape (nth a.registers x))) k ≡ true → at p (a.pc + 1) ≡ Some w → talk_step p (before a c) ≡ goes_on (before (put_on p a t (nth a.registers x) 1) c)
  set_on t x k w here t_fits x_fits room t_room e there =
      set_text t x k here t_fits x_fits room ∙ ap (λ b. talk p (cond b (to_register t (read 0)) skip) (nth a.registers x ∷ []) a c) e ∙ to_register_step p t (read 0) w (nth a.registers x ∷ []) a c t_room there

  -- it is not: past the jump, and register t is as it was
  pub set_past : (t x : ℕ) (k : Bool) (w : Instruction) → at p a.pc ≡ Some (abc TestSet t x 0 k) → t < 2 ^ 8 → x < 2 ^ 8 → x < length a.registers
      → same_truth (holds (shape (nth a.registers x))) k ≡ false → at p (a.pc + 2) ≡ Some w → talk_step p (before a c) ≡ goes_on (before (record a { pc = a.pc + 2 }) c)
  set_past t x k w here t_fits x_fits room e there =
      set_text t x k here t_fits x_fits room ∙ ap (λ b. talk p (cond b (to_register t (read 0)) skip) (nth a.registers x ∷ []) a c) e ∙ go_step p 2 w (nth a.registers x ∷ []) a c there

  offset : (n : ℕ) → pos (16777215 + n) -ℤ pos 16777215 ≡ pos n
  offset n = grind arith

  pub jump_step : (n : ℕ) (w : Instruction) → at p a.pc ≡ Some (op_ax Jmp (16777215 + n)) → n < 2 ^ 24 → at p (a.pc + (n + 1)) ≡ Some w
      → talk_step p (before a c) ≡ goes_on (before (record a { pc = a.pc + (n + 1) }) c)
  jump_step n w here fits there =
      row_step p (op_ax Jmp (16777215 + n)) Jmp (go_by (pos (n + 1))) a c here (opcode_of-ax Jmp (16777215 + n))
      (ap (λ x. jumps (pos x -ℤ pos 16777215)) (ax_of-ax Jmp (16777215 + n) (omega arith)) ∙ ap jumps (offset n))
      ∙ go_step p (n + 1) w [] a c there

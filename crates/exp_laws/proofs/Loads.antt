-- Instructions that load constants, as one equation each.
use Rattle.std.proofs.Common.{◌≡◌, ℕ, ◌+◌, ◌<◌, ◌^◌, lit<, true, false, cond, ℤ, pos, negsuc, ◌-ℤ◌, List, [], ◌∷◌, length, Some, None, ap, ap₂, ◌∙◌, arith}
use borrow.Author.Tests.{lt-ltb, ltb-true, le-leb}
use Rattle.int_core.specs.Value.{Value, known, nil, integer, write}
use Rattle.int_core.specs.Ask.{Captured, goes_on}
use Rattle.code_core.specs.declared.opcode.Opcode.TheVariants.{LoadI, LoadK, LoadKx, LoadNil, ExtraArg}
use Rattle.code_core.specs.declared.instruction.Instruction.{Instruction}
use Rattle.code_core.specs.declared.proto.Const.{Const}
use Rattle.code_core.specs.Instruction.{abc, abx, op_ax, opcode_of, a_of, ax_of}
use Rattle.code_core.specs.Prototype.{Prototype}
use Rattle.code_core.specs.Check.{at, extra_at, is_same, there as there_is}
use Rattle.std.specs.Prelude.{option_and_then}
use Rattle.code_core.proofs.FieldLemmas.{opcode_of-abc, a_of-abc, b_of-abc, opcode_of-abx, a_of-abx, bx_of-abx, opcode_of-ax, ax_of-ax}
use Rattle.machine_core.specs.World.{Activation}
use Rattle.machine_core.specs.Text.{read, written, read_constant, write_register, write_nils, constant, own, Text, trap}
use Rattle.machine_core.specs.InstructionRows.{next, skip, then, to_register}
use Rattle.machine_core.specs.Talk.{before, talk, talk_step}
use Rattle.code_of.specs.Constants.{is_small, small_field, number_in, Found}
use Rattle.exp_laws.proofs.Steps.{found_below, row_step, own_step, go_step, put_on, put_step, to_register_step}
use Rattle.code_core.specs.Opcode.{number_of}
use Rattle.list_laws.proofs.Tests.{eq_refl}
use Rattle.code_of.proofs.Fields.{field_fits}

-- a small integer is the field of its LOADI

pub field_value : (z : ℤ) → is_small z ≡ true → pos (small_field z) -ℤ pos 65535 ≡ z
field_value (pos n) e = grind arith
field_value (negsuc n) e = let h : n < 65535 = ltb-true n 65535 e in grind arith

module _ (p : Prototype) (a : Activation) (c : Captured) (w : Instruction) (there : at p (a.pc + 1) ≡ Some w) where
  pub nil_step : (t : ℕ) → at p a.pc ≡ Some (abc LoadNil t 0 0 false) → t < 2 ^ 8 → t < length a.registers
      → talk_step p (before a c) ≡ goes_on (before (put_on p a t (known nil) 1) c)
  nil_step t here fits room =
      row_step p (abc LoadNil t 0 0 false) LoadNil (then (write_nils t 1) next) a c here (opcode_of-abc LoadNil t 0 0 false)
      (ap₂ (λ d b. then (write_nils d (b + 1)) next) (a_of-abc LoadNil t 0 0 false fits) (b_of-abc LoadNil t 0 0 false fits (lit< tt)))
      ∙ own_step p (write_nils t 1) (λ _ _. next) [] a c (le-leb (t + 1) (length a.registers) (omega arith))
      ∙ go_step p 1 w [] (record a { registers = write t (known nil) a.registers }) c there

  pub integer_step : (t : ℕ) (z : ℤ) → at p a.pc ≡ Some (abx LoadI t (small_field z)) → is_small z ≡ true → t < 2 ^ 8 → t < length a.registers
      → talk_step p (before a c) ≡ goes_on (before (put_on p a t (known (integer z)) 1) c)
  integer_step t z here is fits room =
      row_step p (abx LoadI t (small_field z)) LoadI (to_register t (written (integer z))) a c here (opcode_of-abx LoadI t (small_field z))
      (ap₂ (λ d b. to_register d (written (integer (pos b -ℤ pos 65535)))) (a_of-abx LoadI t (small_field z) fits) (bx_of-abx LoadI t (small_field z) fits (field_fits z is))
      ∙ ap (λ y. to_register t (written (integer y))) (field_value z is))
      ∙ to_register_step p t (written (integer z)) w [] a c room there

  pub constant_step : (t : ℕ) (x : Const) → at p a.pc ≡ Some (abx LoadK t (number_in p.own.constants x)) → number_in p.own.constants x < 131072 → Found p.own.constants x → t < 2 ^ 8 → t < length a.registers
      → talk_step p (before a c) ≡ goes_on (before (put_on p a t (known (constant x)) 1) c)
  constant_step t x here short found fits room =
      let n = number_in p.own.constants x in
      let near : n < 2 ^ 17 = short in
      row_step p (abx LoadK t n) LoadK (own (read_constant n) (λ v _. to_register t (read v))) a c here (opcode_of-abx LoadK t n)
      (ap₂ (λ b d. own (read_constant b) (λ v _. to_register d (read v))) (bx_of-abx LoadK t n fits near) (a_of-abx LoadK t n fits))
      ∙ own_step p (read_constant n) (λ v _. to_register t (read v)) [] a c (lt-ltb n (length p.own.constants) (found_below p.own.constants n x found.there))
      ∙ ap (λ o. talk p (to_register t (read 0)) (elim o as (λ _. List Value) [ None ↦ [] | Some k ↦ known (constant k) ∷ [] ]) a c) found.there
      ∙ to_register_step p t (read 0) w (known (constant x) ∷ []) a c room there

module _ (p : Prototype) where
  -- the field of an EXTRAARG behind an instruction
  pub extra_is : (pc n : ℕ) → at p (pc + 1) ≡ Some (op_ax ExtraArg n) → n < 2 ^ 25 → extra_at p pc ≡ Some n
  extra_is pc n here fits =
      ap (λ o. option_and_then (λ w. cond (there_is (is_same ExtraArg) (opcode_of w)) (Some (ax_of w)) None) o) here
      ∙ ap (λ o. cond (there_is (is_same ExtraArg) o) (Some (ax_of (op_ax ExtraArg n))) None) (opcode_of-ax ExtraArg n)
      ∙ ap (λ b. cond b (Some (ax_of (op_ax ExtraArg n))) None) (eq_refl (number_of ExtraArg)) ∙ ap Some (ax_of-ax ExtraArg n fits)

  pub far_step : (t : ℕ) (x : Const) (a : Activation) (c : Captured) (w : Instruction) → at p a.pc ≡ Some (abx LoadKx t 0) → at p (a.pc + 1) ≡ Some (op_ax ExtraArg (number_in p.own.constants x)) → at p (a.pc + 2) ≡ Some w
      → Found p.own.constants x → t < 2 ^ 8 → t < length a.registers → talk_step p (before a c) ≡ goes_on (before (put_on p a t (known (constant x)) 2) c)
  far_step t x a c w here extra behind found fits room =
      let n = number_in p.own.constants x in
      row_step p (abx LoadKx t 0) LoadKx (own (read_constant n) (λ v _. then (write_register t (read v)) skip)) a c here (opcode_of-abx LoadKx t 0)
      (ap (λ o. elim o as (λ _. Text) [ None ↦ trap | Some ax ↦ own (read_constant ax) (λ v _. then (write_register (a_of (abx LoadKx t 0)) (read v)) skip) ]) (extra_is a.pc n extra found.near)
      ∙ ap (λ d. own (read_constant n) (λ v _. then (write_register d (read v)) skip)) (a_of-abx LoadKx t 0 fits))
      ∙ own_step p (read_constant n) (λ v _. then (write_register t (read v)) skip) [] a c (lt-ltb n (length p.own.constants) (found_below p.own.constants n x found.there))
      ∙ ap (λ o. talk p (then (write_register t (read 0)) skip) (elim o as (λ _. List Value) [ None ↦ [] | Some k ↦ known (constant k) ∷ [] ]) a c) found.there
      ∙ put_step p t 2 (read 0) w (known (constant x) ∷ []) a c room behind

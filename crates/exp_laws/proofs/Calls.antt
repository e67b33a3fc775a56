-- What the machine does at calls, at `...` and at lists of values, as one equation each.
use Rattle.std.proofs.Common.{slice_get, Bool, true, ◌≡◌, ℕ, zero, suc, ◌+◌, ◌-◌, ◌<◌, ◌≤◌, ◌^◌, lit<, false, cond, pos, List, [], ◌∷◌, ◌++◌, length, Some, None, refl, sym, ap, ap₂, ◌∙◌, arith}
use Rattle.std.specs.Prelude.{filter, nat_lt, ◌==◌, if◌then◌else◌, option_and_then}
use borrow.Author.Tests.{lt-ltb, le-leb}
use Rattle.int_core.specs.Value.{Value, Shape, known, is_known, nil, integer, nth, range, write, write_all}
use Rattle.int_core.specs.Operations.{index}
use Rattle.int_core.specs.Ask.{operates, calls, calls_last, Captured, goes_on}
use Rattle.code_core.specs.declared.opcode.Opcode.{Opcode}
use Rattle.code_core.specs.declared.opcode.Opcode.TheVariants.{OpSelf, VarArg, LoadNil, TailCall, Call as CallCode}
use Rattle.code_core.specs.declared.instruction.Instruction.{Instruction}
use Rattle.code_core.specs.declared.proto.Const.{Const}
use Rattle.code_core.specs.Instruction.{abc, opcode_of, a_of, c_of}
use Rattle.code_core.specs.Fields.{opens}
use Rattle.code_core.specs.Prototype.{Prototype}
use Rattle.code_core.specs.Check.{at, mark, left_by, open_from, opened as opened_mark}
use Rattle.code_core.proofs.FieldLemmas.{opcode_of-abc, a_of-abc, b_of-abc, c_of-abc}
use Rattle.machine_core.specs.World.{Activation, for_call, for_value}
use Rattle.machine_core.specs.Text.{read, constant, read_register, read_constant, read_registers, read_list, read_varargs, write_register, write_registers, write_list, write_nils, drop_pending, cut_from, Text, own, call, tail_call, trap, list_end, list_values, nils, blanked, behind, is_there}
use Rattle.machine_core.specs.InstructionRows.{next, gets, read_values, write_values, rest_at, rest_by, register_or_constant}
use Rattle.machine_core.specs.Talk.{before, amid, talk, talk_step, says_so, heard, marked}
use Rattle.exp_laws.proofs.Lists.{Holds, range_held}
use Rattle.exp_laws.proofs.Steps.{row_step, own_step, go_step, found_below}
use Rattle.exp_laws.proofs.Arithmetic.{front_of}
use Rattle.code_of.proofs.Fields.{k_of-abc}
use Rattle.code_of.specs.Rooms.{room_of_values}

-- values that an instruction with this field B or C leaves in registers, and how long the open list then is

abbrev pub filled : (field t : ℕ) → (ws regs : List Value) → List Value
filled zero t ws regs = write_all t ws regs
filled (suc count) t ws regs = write_all t (range 0 count ws) regs

abbrev pub left_open : (field : ℕ) → (ws : List Value) → (opened : ℕ) → ℕ
left_open zero ws opened = length ws
left_open (suc count) ws opened = opened

-- a list that an instruction with field B takes: so many registers, or all up to the end of the open list
abbrev pub Passed : Prototype → (field from : ℕ) → (args : List Value) → Activation → Type 0
Passed p zero from args a = (list_end p a ≡ Some (from + length args)) × Holds from (length args) args a.registers
Passed p (suc count) from args a = (length args ≡ count) × ((from + count ≤ length a.registers) × Holds from (length args) args a.registers)

abbrev pub told_of : (field : ℕ) → List Value → Shape
told_of zero args = is_known (integer (pos (length args)))
told_of (suc count) args = is_known nil

pub behind_fits : (from count size : ℕ) → from + count ≤ size → behind from count ≤ size
behind_fits from zero size h = omega arith
behind_fits from (suc count) size h = h

module _ (p : Prototype) where
  pub read_values_step : (from field : ℕ) (k : ℕ → Shape → Text) (env args : List Value) (a : Activation) (c : Captured) → Passed p field from args a
      → talk p (read_values from field k) env a c ≡ talk p (k (length env) (told_of field args)) (env ++ args) a c
  read_values_step from zero k env args a c h =
      let size : from + length args - from ≡ length args = omega arith in
      let same : list_values from a.registers (list_end p a) ≡ args = ap (list_values from a.registers) h.0 ∙ ap (λ n. range from n a.registers) size ∙ range_held from args a.registers h.1 in
      own_step p (read_list from) k env a c (ap is_there h.0)
      ∙ ap (λ vs. talk p (k (length env) (is_known (integer (pos (length vs))))) (env ++ vs) a c) same
  read_values_step from (suc count) k env args a c h =
      let same : range from count a.registers ≡ args = ap (λ n. range from n a.registers) (sym h.0) ∙ range_held from args a.registers h.1.1 in
      own_step p (read_registers from count) k env a c (le-leb (behind from count) (length a.registers) (behind_fits from count (length a.registers) h.1.0))
      ∙ ap (λ vs. talk p (k (length env) (is_known nil)) (env ++ vs) a c) same

  pub values_step : (field t : ℕ) (ws : List Value) (w : Instruction) (a : Activation) (c : Captured) → at p (a.pc + 1) ≡ Some w → t + room_of_values field ≤ length a.registers
      → talk p (write_values t field 0) ws a c ≡ goes_on (before (record a { registers = filled field t ws a.registers; opened = left_open field ws a.opened; pc = a.pc + 1 }) c)
  values_step zero t ws w a c there room =
      own_step p (write_list t 0) (λ _ _. next) ws a c (lt-ltb t (length a.registers) (omega arith))
      ∙ go_step p 1 w (ws ++ []) (record a { registers = write_all t ws a.registers; opened = length ws }) c there
  values_step (suc count) t ws w a c there room =
      own_step p (write_registers t count 0) (λ _ _. next) ws a c (le-leb (behind t count) (length a.registers) (behind_fits t count (length a.registers) room))
      ∙ go_step p 1 w (ws ++ []) (record a { registers = write_all t (range 0 count ws) a.registers }) c there

  -- behind a call or `...` with field C 0 stands an open list
  pub open_mark : (op : Opcode) (t b pc : ℕ) → at p pc ≡ Some (abc op t b 0 false) → opens op (abc op t b 0 false) ≡ (if c_of (abc op t b 0 false) == 0 then Some (a_of (abc op t b 0 false)) else None)
      → t < 2 ^ 8 → b < 2 ^ 8 → mark p (pc + 1) ≡ open_from t
  open_mark op t b pc here is t_fits b_fits =
      let w = abc op t b 0 false in
      ap left_by (front_of p pc ∙ here)
      ∙ ap (λ o. opened_mark (option_and_then (λ q. opens q w) o)) (opcode_of-abc op t b 0 false)
      ∙ ap opened_mark is
      ∙ ap₂ (λ n r. opened_mark (if n == 0 then Some r else None)) (c_of-abc op t b 0 false t_fits b_fits (lit< tt)) (a_of-abc op t b 0 false t_fits)

  -- a call: what stands from its register on is gone
  abbrev pub cut_so : ℕ → Activation → Activation
  cut_so t a = record a { pending = filter (λ q. nat_lt q t) a.pending; registers = blanked (λ i. nat_lt i t) 0 p.own.stack a.registers; opened = 0 }

  pub call_step : (t b field : ℕ) (args : List Value) (a : Activation) (c : Captured) → at p a.pc ≡ Some (abc CallCode t b field false) → t < 2 ^ 8 → b < 2 ^ 8 → t < length a.registers → Passed p b (t + 1) args a
      → talk_step p (before a c) ≡ says_so (calls (nth a.registers t) args) p (cut_so t a) c (λ x b d. heard for_call p x b d)
  call_step t b field args a c here t_fits b_fits room passed =
      let w = abc CallCode t b field false in
      row_step p w CallCode (own (read_register t) (λ f _. read_values (t + 1) b (λ v _. call (read f) v for_call (drop_pending t ∷ cut_from t ∷ [])))) a c here (opcode_of-abc CallCode t b field false)
      (ap₂ (λ d e. own (read_register d) (λ f _. read_values (d + 1) e (λ v _. call (read f) v for_call (drop_pending d ∷ cut_from d ∷ [])))) (a_of-abc CallCode t b field false t_fits) (b_of-abc CallCode t b field false t_fits b_fits))
      ∙ own_step p (read_register t) (λ f _. read_values (t + 1) b (λ v _. call (read f) v for_call (drop_pending t ∷ cut_from t ∷ []))) [] a c (lt-ltb t (length a.registers) room)
      ∙ read_values_step (t + 1) b (λ v _. call (read 0) v for_call (drop_pending t ∷ cut_from t ∷ [])) (nth a.registers t ∷ []) args a c passed

  pub call_rest : (t b field pc : ℕ) → at p pc ≡ Some (abc CallCode t b field false) → t < 2 ^ 8 → b < 2 ^ 8 → field < 2 ^ 8 → rest_at {V = Value} for_call p pc ≡ write_values t field 0
  call_rest t b field pc here t_fits b_fits fits =
      let w = abc CallCode t b field false in
      ap (λ o. elim o as (λ _. Text) [ None ↦ trap | Some i ↦ rest_by {V = Value} for_call p pc i (opcode_of i) ]) here
      ∙ ap (rest_by {V = Value} for_call p pc w) (opcode_of-abc CallCode t b field false)
      ∙ ap₂ (λ d e. write_values d e 0) (a_of-abc CallCode t b field false t_fits) (c_of-abc CallCode t b field false t_fits b_fits fits)

  pub varargs_step : (t field : ℕ) (a : Activation) (c : Captured) → at p a.pc ≡ Some (abc VarArg t 0 field false) → t < 2 ^ 8 → field < 2 ^ 8
      → talk_step p (before a c) ≡ talk p (write_values t field 0) a.varargs a c
  varargs_step t field a c here t_fits fits =
      let w = abc VarArg t 0 field false in
      row_step p w VarArg (own read_varargs (λ v _. write_values t field v)) a c here (opcode_of-abc VarArg t 0 field false)
      (ap₂ (λ d e. own read_varargs (λ v _. write_values d e v)) (a_of-abc VarArg t 0 field false t_fits) (c_of-abc VarArg t 0 field false t_fits (lit< tt) fits))
      ∙ own_step p read_varargs (λ v _. write_values t field v) [] a c refl

  -- a method: its object goes to the register after it, and the method is asked for. Its name stands in a register or is a constant

  abbrev method_text : (x t : ℕ) → (k : Bool) → (c : ℕ) → Text
  method_text x t k c =
      own (read_register x) (λ o _. cond k (own (read_constant c) (λ key _. gets (read o) (read key) (write_register (t + 1) (read o) ∷ []) t)) (own (read_register c) (λ key _. gets (read o) (read key) (write_register (t + 1) (read o) ∷ []) t)))

  method_row : (x t y : ℕ) (k : Bool) (a : Activation) (c : Captured) → at p a.pc ≡ Some (abc OpSelf t x y k) → x < 2 ^ 8 → t < 2 ^ 8 → y < 2 ^ 8 → talk_step p (before a c) ≡ talk p (method_text x t k y) [] a c
  method_row x t y k a c here x_fits t_fits fits =
      let w = abc OpSelf t x y k in
      row_step p w OpSelf (method_text x t k y) a c here (opcode_of-abc OpSelf t x y k)
      (ap₂ (λ b d. own (read_register b) (λ o _. register_or_constant w (λ key _. gets (read o) (read key) (write_register (d + 1) (read o) ∷ []) d))) (b_of-abc OpSelf t x y k t_fits x_fits) (a_of-abc OpSelf t x y k t_fits)
      ∙ ap (λ k. method_text x t k (c_of w)) (k_of-abc OpSelf t x y k t_fits)
      ∙ ap (method_text x t k) (c_of-abc OpSelf t x y k t_fits x_fits fits))

  pub self_step : (x t y : ℕ) (a : Activation) (c : Captured) → at p a.pc ≡ Some (abc OpSelf t x y false) → x < 2 ^ 8 → t < 2 ^ 8 → y < 2 ^ 8 → x < length a.registers → y < length a.registers
      → talk_step p (before a c) ≡ says_so (operates index (nth a.registers x ∷ nth a.registers y ∷ [])) p (record a { registers = write (t + 1) (nth a.registers x) a.registers }) c (λ x b d. heard for_value p x b d)
  self_step x t y a c here x_fits t_fits fits x_room room =
      method_row x t y false a c here x_fits t_fits fits
      ∙ own_step p (read_register x) (λ o _. own (read_register y) (λ key _. gets (read o) (read key) (write_register (t + 1) (read o) ∷ []) t)) [] a c (lt-ltb x (length a.registers) x_room)
      ∙ own_step p (read_register y) (λ key _. gets (read 0) (read key) (write_register (t + 1) (read 0) ∷ []) t) (nth a.registers x ∷ []) a c (lt-ltb y (length a.registers) room)

  pub self_key_step : (x t number : ℕ) (key : Const) (a : Activation) (c : Captured) → at p a.pc ≡ Some (abc OpSelf t x number true) → x < 2 ^ 8 → t < 2 ^ 8 → number < 2 ^ 8 → x < length a.registers → slice_get p.own.constants number ≡ Some key
      → talk_step p (before a c) ≡ says_so (operates index (nth a.registers x ∷ known (constant key) ∷ [])) p (record a { registers = write (t + 1) (nth a.registers x) a.registers }) c (λ x b d. heard for_value p x b d)
  self_key_step x t number key a c here x_fits t_fits fits x_room there =
      method_row x t number true a c here x_fits t_fits fits
      ∙ own_step p (read_register x) (λ o _. own (read_constant number) (λ key _. gets (read o) (read key) (write_register (t + 1) (read o) ∷ []) t)) [] a c (lt-ltb x (length a.registers) x_room)
      ∙ own_step p (read_constant number) (λ key _. gets (read 0) (read key) (write_register (t + 1) (read 0) ∷ []) t) (nth a.registers x ∷ []) a c
      (lt-ltb number (length p.own.constants) (found_below p.own.constants number key there))
      ∙ ap (λ o. talk p (gets (read 0) (read 1) (write_register (t + 1) (read 0) ∷ []) t) (nth a.registers x ∷ elim o as (λ _. List Value) [ None ↦ [] | Some k ↦ known (constant k) ∷ [] ]) a c) there

  pub nils_step : (t n : ℕ) (w : Instruction) (a : Activation) (c : Captured) → at p a.pc ≡ Some (abc LoadNil t n 0 false) → at p (a.pc + 1) ≡ Some w → t < 2 ^ 8 → n < 2 ^ 8 → t + (n + 1) ≤ length a.registers
      → talk_step p (before a c) ≡ goes_on (before (record a { registers = write_all t (nils (n + 1)) a.registers; pc = a.pc + 1 }) c)
  nils_step t n w a c here there fits n_fits room =
      row_step p (abc LoadNil t n 0 false) LoadNil (own (write_nils t (n + 1)) (λ _ _. next)) a c here (opcode_of-abc LoadNil t n 0 false)
      (ap₂ (λ d b. own (write_nils d (b + 1)) (λ _ _. next)) (a_of-abc LoadNil t n 0 false fits) (b_of-abc LoadNil t n 0 false fits n_fits))
      ∙ own_step p (write_nils t (n + 1)) (λ _ _. next) [] a c (le-leb (t + (n + 1)) (length a.registers) room)
      ∙ go_step p 1 w [] (record a { registers = write_all t (nils (n + 1)) a.registers }) c there

  -- a call in the function's place
  pub tail_step : (t b field : ℕ) (args : List Value) (a : Activation) (c : Captured) → at p a.pc ≡ Some (abc TailCall t b field (nat_lt 0 t)) → t < 2 ^ 8 → b < 2 ^ 8 → t < length a.registers → Passed p b (t + 1) args a
      → talk_step p (before a c) ≡ says_so (calls_last (nth a.registers t) args) p a c (λ x b d. amid (marked trap p b.pc x.reply) [] b d)
  tail_step t b field args a c here t_fits b_fits room passed =
      let w = abc TailCall t b field (nat_lt 0 t) in
      row_step p w TailCall (own (read_register t) (λ f _. read_values (t + 1) b (λ v _. tail_call (read f) v))) a c here (opcode_of-abc TailCall t b field (nat_lt 0 t))
      (ap₂ (λ d e. own (read_register d) (λ f _. read_values (d + 1) e (λ v _. tail_call (read f) v))) (a_of-abc TailCall t b field (nat_lt 0 t) t_fits) (b_of-abc TailCall t b field (nat_lt 0 t) t_fits b_fits))
      ∙ own_step p (read_register t) (λ f _. read_values (t + 1) b (λ v _. tail_call (read f) v)) [] a c (lt-ltb t (length a.registers) room)
      ∙ read_values_step (t + 1) b (λ v _. tail_call (read 0) v) (nth a.registers t ∷ []) args a c passed

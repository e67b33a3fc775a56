-- What the rules on code say of an instruction: the registers and constants that it names are there, and so are the places to which it goes.
use Rattle.std.proofs.Common.{◌≡◌, ℕ, ◌+◌, ◌<◌, List, length, Option, Some, None, refl, ap, sym, ◌∙◌, subst, arith, false}
use Rattle.std.specs.Prelude.{ℤ, pos, negsuc, slice_get, IsTrue, nat_lt, cond, option_and_then}
use Rattle.std.proofs.lemmas.List.{length-map}
use Rattle.code_core.specs.Check.{at, there, lands, is_landing, constant_is, extra_at, goes_on, is_same}
use Rattle.code_core.specs.Fields.{registers, constants, target, second_half, is_return, Wanted}
use Rattle.code_core.specs.Instruction.{opcode_of, ax_of}
use Rattle.code_core.specs.declared.instruction.Instruction.{Instruction}
use Rattle.code_core.specs.declared.opcode.Opcode.{Opcode}
use Rattle.code_core.specs.declared.opcode.Opcode.TheVariants.{ExtraArg}
use Rattle.code_core.specs.Opcode.{number_of}
use Rattle.code_core.specs.Prototype.{Prototype}
use Rattle.int_core.specs.Value.{known}
use Rattle.lua_heap.specs.Reading.{value}
use Rattle.machine_core.specs.Text.{constant}
use Rattle.machine_sound.proofs.Lists.{some_is}
use Rattle.machine_sound.proofs.Values.{lt_of, both_of, all_get}
use Rattle.machine_sound.proofs.Rules.{RulesAt, rules_at, or_of}
use Rattle.machine_sound.proofs.RowEnds.{second_at, there_within}
use Rattle.machine_view.specs.View.{IsAt}
use Rattle.table_core.specs.declared.value.Value.{Value as Kept}

extra_of : (p : Prototype) (pc : ℕ) (v : Instruction) → at p (pc + 1) ≡ Some v → opcode_of v ≡ Some ExtraArg → extra_at p pc ≡ Some (ax_of v)
unfolding number_of
extra_of p pc v a o =
    ap (λ (x : Option Instruction). option_and_then (λ w. cond (there (is_same ExtraArg) (opcode_of w)) (Some (ax_of w)) None) x) a
    ∙ ap (λ (x : Option Opcode). cond (there (is_same ExtraArg) x) (Some (ax_of v)) None) o

module _ {op : Opcode} {w : Instruction} {ws : List Instruction} {ks r : List Kept} {pc : ℕ} (h : IsAt op w ws ks r pc) where
  pub in_code : at h.code pc ≡ Some w
  in_code = ap (λ ws. slice_get ws pc) h.is_code.words_are ∙ h.at_pc

  pub rule : RulesAt h.code pc w op
  rule = rules_at h.code pc w op h.checked in_code h.is_opcode

  within : (n : ℕ) → n < length h.code.own.code → n < length ws
  within n l = subst (λ xs. n < length xs) h.is_code.words_are l

  -- the register that is named at a place of the list
  pub register_there : (n i : ℕ) → slice_get (registers op w) n ≡ Some i → i < length r
  register_there n i e =
      let l = lt_of i h.code.own.stack (all_get (λ i. nat_lt i h.code.own.stack) (registers op w) rule.registers_there n i e) in
      let m = h.size in
      omega arith

  pub constants_long : length h.code.own.constants ≡ length ks
  constants_long = sym (length-map h.code.own.constants (λ k. known (constant k))) ∙ ap length h.is_code.constants_are ∙ length-map ks (value h.texts)

  pub constant_there : (n c : ℕ) (k : Wanted) → slice_get (constants op w (extra_at h.code pc)) n ≡ Some (k, c) → c < length ks
  constant_there n c k e =
      let l = there_within (constant_is k) h.code.own.constants c (all_get (λ (used : Wanted × ℕ). there (constant_is used.0) (slice_get h.code.own.constants used.1)) (constants op w (extra_at h.code pc)) rule.constants_there n (k, c) e) in
      subst (λ m. c < m) constants_long l

  pub next_there : is_return op ≡ false → pc + 1 < length ws
  next_there n = within (pc + 1) (lt_of (pc + 1) (length h.code.own.code) (or_of (is_return op) _ n rule.goes_on))

  -- the second half of a pair
  pub second_there : (second : Opcode) → second_half op w ≡ Some second → (v : Instruction) × (at h.code (pc + 1) ≡ Some v) × (opcode_of v ≡ Some second)
  second_there second e =
      let a = (both_of (goes_on h.code pc w (second_half op w)) _ rule.paired).0 in
      let b = second_at h.code pc w second (subst (λ s. IsTrue (goes_on h.code pc w s)) e a) in
      (b.0, b.1, b.2)

  pub behind_there : (second : Opcode) → second_half op w ≡ Some second → is_return second ≡ false → pc + 2 < length ws
  behind_there second e n =
      let v = second_there second e in
      let q = rules_at h.code (pc + 1) v.0 second h.checked v.1 v.2 in
      let l = lt_of (pc + 1 + 1) (length h.code.own.code) (or_of (is_return second) _ n q.goes_on) in
      within (pc + 2) (omega arith)

  -- the field of the EXTRAARG behind it
  pub extra_there : (v : Instruction) → second_half op w ≡ Some ExtraArg → slice_get ws (pc + 1) ≡ Some v → extra_at h.code pc ≡ Some (ax_of v)
  extra_there v e f =
      let u = second_there ExtraArg e in
      let at_next : at h.code (pc + 1) ≡ Some v = ap (λ ws. slice_get ws (pc + 1)) h.is_code.words_are ∙ f in
      let o : opcode_of v ≡ Some ExtraArg = subst (λ v. opcode_of v ≡ Some ExtraArg) (some_is u.1 at_next) u.2 in
      extra_of h.code pc v at_next o

  landing : (z : ℤ) → IsTrue (lands h.code z) → (to : ℕ) × (z ≡ pos to) × (to < length ws)
  landing (negsuc n) l = absurd (cc)
  landing (pos n) l = (n, refl, within n (there_within _ h.code.own.code n l))

  -- the place to which it jumps
  pub target_there : (z : ℤ) → target pc op w ≡ Some z → (to : ℕ) × (z ≡ pos to) × (to < length ws)
  target_there z e = landing z (subst (λ o. IsTrue (is_landing h.code o)) e rule.landing)

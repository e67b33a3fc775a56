-- The rules on code at one place, by name.
use Rattle.std.proofs.Common.{ℕ, suc, ◌≡◌, ◌+◌, [], ◌∷◌, Option, Some, None, refl, subst, sym, ap, ◌∙◌, length, Bool, true, false, arith}
use Rattle.std.specs.Prelude.{slice_get, IsTrue, ◌||◌, nat_lt, cond}
use Rattle.std.specs.List.{list_all}
use Rattle.std.proofs.lemmas.Bool.Decides.{nat_tests}
use Rattle.code_core.specs.declared.opcode.Opcode.{Opcode}
use Rattle.code_core.specs.declared.opcode.Opcode.TheVariants.{ExtraArg}
use Rattle.code_core.specs.declared.instruction.Instruction.{Instruction}
use Rattle.code_core.specs.Opcode.{opcodes, number_of}
use Rattle.code_core.specs.Instruction.{opcode_of}
use Rattle.code_core.specs.Fields.{is_whole, registers, constants, upvalues, target, second_half, is_return}
use Rattle.code_core.specs.Prototype.{Prototype}
use Rattle.code_core.specs.Check.{CodeIsChecked, AllHold, rules_by, opcode_rules, at, in_front, there, is_same, extra_at, constant_is, function_there, is_landing, is_paired, goes_on, begins_with, lists_fit_marks, varargs_fit}
use Rattle.code_core.proofs.Opcodes.{opcodes-number}
use Rattle.machine_sound.specs.Sound.{is_extra}
use Rattle.machine_sound.proofs.Lists.{some_is}
use Rattle.machine_sound.proofs.Values.{both_of}

-- the rules on one instruction, by name
pub record RulesAt (p : Prototype) (pc : ℕ) (w : Instruction) (op : Opcode) : Type 0 where
  pub whole : is_whole op ≡ true
  pub registers_there : IsTrue (list_all (λ r. nat_lt r p.own.stack) (registers op w))
  pub constants_there : IsTrue (list_all (λ used. there (constant_is used.0) (slice_get p.own.constants used.1)) (constants op w (extra_at p pc)))
  pub upvalues_there : IsTrue (list_all (λ u. nat_lt u (length p.own.upvalues)) (upvalues op w))
  pub function : IsTrue (function_there p op w)
  pub landing : IsTrue (is_landing p (target pc op w))
  pub paired : IsTrue (is_paired p pc op w)
  pub goes_on : IsTrue (is_return op || nat_lt (pc + 1) (length p.own.code))
  pub lists : IsTrue (lists_fit_marks p pc op w)
  pub varargs : IsTrue (varargs_fit p pc op)

pub rules_at : (p : Prototype) (pc : ℕ) (w : Instruction) (op : Opcode) → CodeIsChecked p → at p pc ≡ Some w → opcode_of w ≡ Some op → RulesAt p pc w op
rules_at p pc w op c a o = from (is_whole op) refl (subst (λ o. AllHold (rules_by p pc w o)) o (c.places pc w a))
  where
    from : (b : Bool) → is_whole op ≡ b → AllHold (cond b ((2, true) ∷ opcode_rules p pc w op) ((2, false) ∷ [])) → RulesAt p pc w op
    from true e h = record {
      whole = e;
      registers_there = h.1.0;
      constants_there = h.1.1.0;
      upvalues_there = h.1.1.1.0;
      function = h.1.1.1.1.0;
      landing = h.1.1.1.1.1.0;
      paired = h.1.1.1.1.1.1.0;
      goes_on = h.1.1.1.1.1.1.1.0;
      lists = h.1.1.1.1.1.1.1.1.0;
      varargs = h.1.1.1.1.1.1.1.1.1.0;
    }
    from false e h = absurd (let k = h.0 in cc)

-- every place of checked code has an opcode
pub opcode_there : (p : Prototype) (pc : ℕ) (w : Instruction) → CodeIsChecked p → at p pc ≡ Some w → (op : Opcode) × (opcode_of w ≡ Some op)
opcode_there p pc w c a = from (opcode_of w) refl (c.places pc w a)
  where
    from : (o : Option Opcode) → opcode_of w ≡ o → AllHold (rules_by p pc w o) → (op : Opcode) × (o ≡ Some op)
    from None e h = absurd (let k = h.0 in cc)
    from (Some op) e h = (op, refl)

pub or_of : (a b : Bool) → a ≡ false → IsTrue (a || b) → IsTrue b
or_of true b e h = absurd (cc)
or_of false b e h = h

pub same_opcode : (a b : Opcode) → IsTrue (is_same a b) → a ≡ b
same_opcode a b h =
    let e : number_of a ≡ number_of b = grind (arith, nat_tests) in
    some_is (ap (slice_get opcodes) (sym e) ∙ opcodes-number a) (opcodes-number b)

-- an EXTRAARG stands behind an instruction that begins a pair with it
abbrev pub extra_behind : Option Opcode → Bool
extra_behind None = false
extra_behind (Some second) = is_extra second

front_begins : (p : Prototype) (pc : ℕ) (w : Instruction) (op : Opcode) → CodeIsChecked p → at p pc ≡ Some w → opcode_of w ≡ Some op → op ≡ ExtraArg → IsTrue (there (begins_with ExtraArg) (in_front p pc))
front_begins p pc w op c a o e =
    let r = rules_at p pc w ExtraArg c a (o ∙ ap Some e) in
    (both_of (goes_on p pc w (second_half ExtraArg w)) _ r.paired).1

pub extra_is : (op : Opcode) → is_extra op ≡ true → op ≡ ExtraArg
extra_is ExtraArg h = refl
extra_is _ h = absurd (cc)

pub first_no_extra : (p : Prototype) (w : Instruction) (op : Opcode) → CodeIsChecked p → at p 0 ≡ Some w → opcode_of w ≡ Some op → is_extra op ≡ false
first_no_extra p w op c a o = from (is_extra op) refl
  where
    from : (b : Bool) → is_extra op ≡ b → is_extra op ≡ false
    from true e = absurd (let k = front_begins p 0 w op c a o (extra_is op e) in cc)
    from false e = e

pub next_no_extra : (p : Prototype) (pc : ℕ) (w v : Instruction) (op next : Opcode) → CodeIsChecked p → at p pc ≡ Some w → opcode_of w ≡ Some op → extra_behind (second_half op w) ≡ false → at p (suc pc) ≡ Some v → opcode_of v ≡ Some next → is_extra next ≡ false
next_no_extra p pc w v op next c a o n b q = from (is_extra next) refl
  where
    second : (s : Option Opcode) → extra_behind s ≡ false → IsTrue (there (is_same ExtraArg) s) → ⊥
    second None n h = cc
    second (Some s) n h = let e = same_opcode ExtraArg s h in let k : is_extra ExtraArg ≡ false = subst (λ s. is_extra s ≡ false) (sym e) n in cc

    from : (b : Bool) → is_extra next ≡ b → is_extra next ≡ false
    from true e =
        let k = front_begins p (suc pc) v next c b q (extra_is next e) in
        let k' : IsTrue (begins_with ExtraArg w) = subst (λ i. IsTrue (there (begins_with ExtraArg) i)) a k in
        let k'' : IsTrue (there (is_same ExtraArg) (second_half op w)) = subst (λ o. IsTrue (there (λ op. there (is_same ExtraArg) (second_half op w)) o)) o k' in
        absurd (second (second_half op w) n k'')
    from false e = e

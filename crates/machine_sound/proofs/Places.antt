-- What the rules on code give at each place.
use Rattle.std.proofs.Common.{ℕ, zero, suc, ◌≡◌, ◌<◌, ◌≤◌, ◌+◌, List, Option, Some, None, refl, subst, sym, ap, ◌∙◌, length, Bool, true, false, arith}
use Rattle.std.specs.Prelude.{ℤ, pos, IsTrue, IsSome, not, ◌||◌, nat_le, max, option_and_then}
use Rattle.int_core.specs.Value.{Value}
use Rattle.code_core.specs.declared.opcode.Opcode.{Opcode}
use Rattle.code_core.specs.declared.instruction.Instruction.{Instruction}
use Rattle.code_core.specs.Instruction.{opcode_of, a_of}
use Rattle.code_core.specs.Fields.{second_half, opens, takes_list, is_return}
use Rattle.code_core.specs.Prototype.{Prototype}
use Rattle.code_core.specs.Check.{CodeIsChecked, at, there, Mark, fixed, open_from, opened, leaves, mark, is_fixed, takes_from, is_taken, left_by}
use Rattle.machine_core.specs.Moves.{place_from}
use Rattle.machine_core.specs.InstructionRows.{next}
use Rattle.machine_core.specs.Text.{go_by}
use Rattle.machine_core.specs.FrameRows.{expand}
use Rattle.machine_sound.specs.Sound.{Top, MarkFits, Fits, FitsIfRuns}
use Rattle.machine_sound.specs.Safe.{on_lua, HasPlace, Safe}
use Rattle.machine_sound.proofs.Rules.{RulesAt, rules_at, opcode_there, or_of, extra_behind, next_no_extra}
use Rattle.machine_sound.proofs.Lists.{get_there, some_is}
use Rattle.machine_sound.proofs.Values.{lt_of, le_of, both_of}

-- a running frame at an instruction of checked code; where the instruction takes no open list, it has the registers of its code, and no list
pub record Here (t : Top) (w : Instruction) (op : Opcode) : Type 0 where
  pub checked : CodeIsChecked t.code
  pub at_pc : at t.code t.pc ≡ Some w
  pub is_opcode : opcode_of w ≡ Some op
  pub rule : RulesAt t.code t.pc w op
  pub plain : takes_list op w ≡ false → MarkFits fixed t.code.own.stack t.size t.opened
  pub pending : t.pending ≡ t.code.own.stack
  pub cells : t.cells ≡ t.code.own.stack
  pub runs : IsTrue t.runs

abbrev pub place : {t : Top} {w : Instruction} {op : Opcode} → Here t w op → HasPlace t
place {w = w} {op = op} h = record { instruction = w; at_pc = h.at_pc; opcode = op; is_opcode = h.is_opcode }

-- not the last place
pub more : {t : Top} {w : Instruction} {op : Opcode} → Here t w op → is_return op ≡ false → t.pc + 1 < length t.code.own.code
more {t = t} {op = op} h r = lt_of _ _ (or_of (is_return op) _ r h.rule.goes_on)

-- what stands behind an instruction
pub leaves_is : (w : Instruction) (op : Opcode) → opcode_of w ≡ Some op → leaves w ≡ opened (opens op w)
leaves_is w op o = ap (λ o. opened (option_and_then (λ op. opens op w) o)) o

pub mark_behind : (p : Prototype) (pc : ℕ) (w : Instruction) (op : Opcode) → at p pc ≡ Some w → opcode_of w ≡ Some op → mark p (pc + 1) ≡ opened (opens op w)
mark_behind p pc w op a o = let e : pc + 1 ≡ suc pc = omega arith in ap (mark p) e ∙ ap left_by a ∙ leaves_is w op o

-- a list that is opened is taken by the next instruction
pub taken : (p : Prototype) (pc r : ℕ) (w : Instruction) (op : Opcode) → CodeIsChecked p → at p pc ≡ Some w → opcode_of w ≡ Some op → mark p pc ≡ open_from r → IsTrue (takes_list op w) × (a_of w ≤ r)
taken p zero r w op c a o m = absurd (cc)
taken p (suc pc) r w op c a o m = from (at p pc) refl m
  where
    from : (i : Option Instruction) → at p pc ≡ i → left_by i ≡ open_from r → IsTrue (takes_list op w) × (a_of w ≤ r)
    from None e m = absurd (cc)
    from (Some v) e m =
        let q = opcode_there p pc v c e in
        let l = (both_of (is_taken p pc (leaves v)) _ (rules_at p pc v q.0 c e q.1).lists).0 in
        let k : IsTrue (there (takes_from r) (at p (pc + 1))) = subst (λ m. IsTrue (is_taken p pc m)) m l in
        let e' : pc + 1 ≡ suc pc = omega arith in
        let k' : IsTrue (takes_from r w) = subst (λ i. IsTrue (there (takes_from r) i)) (ap (at p) e' ∙ a) k in
        let b = both_of (there (λ op. takes_list op w) (opcode_of w)) (nat_le (a_of w) r) k' in
        (subst (λ o. IsTrue (there (λ op. takes_list op w) o)) o b.0, le_of (a_of w) r b.1)

-- where one is taken it is open, from the instruction's register or above
pub record Listed (t : Top) (w : Instruction) : Type 0 where
  pub from : ℕ
  pub mark_is : mark t.code t.pc ≡ open_from from
  pub size : t.size ≡ max t.code.own.stack (from + t.opened)
  pub below : a_of w ≤ from

module _ (t : Top) (w : Instruction) (op : Opcode) (c : CodeIsChecked t.code) (a : at t.code t.pc ≡ Some w) (o : opcode_of w ≡ Some op) (f : MarkFits (mark t.code t.pc) t.code.own.stack t.size t.opened) where
  -- where no list is taken there are the registers of the code alone
  pub plain_there : takes_list op w ≡ false → MarkFits fixed t.code.own.stack t.size t.opened
  plain_there n = from (mark t.code t.pc) refl f
    where
      from : (m : Mark) → mark t.code t.pc ≡ m → MarkFits m t.code.own.stack t.size t.opened → MarkFits fixed t.code.own.stack t.size t.opened
      from fixed e f = f
      from (open_from r) e f = let k = (taken t.code t.pc r w op c a o e).0 in absurd (cc)

  pub listed_there : takes_list op w ≡ true → Listed t w
  listed_there n = from (mark t.code t.pc) refl f
    where
      from : (m : Mark) → mark t.code t.pc ≡ m → MarkFits m t.code.own.stack t.size t.opened → Listed t w
      from fixed e f =
          let l = (both_of (is_taken t.code t.pc (leaves w)) _ (rules_at t.code t.pc w op c a o).lists).1 in
          let k = (both_of (not (takes_list op w) || not (is_fixed (mark t.code t.pc))) _ l).0 in
          let k' : IsTrue (not (takes_list op w) || false) = subst (λ m. IsTrue (not (takes_list op w) || not (is_fixed m))) e k in
          let k'' : IsTrue (not true || false) = subst (λ b. IsTrue (not b || false)) n k' in
          absurd (cc)
      from (open_from r) e f = record { from = r; mark_is = e; size = f; below = (taken t.code t.pc r w op c a o e).1 }

-- going on

fits_if : (b : Bool) (t : Top) → Fits t → FitsIfRuns b t
fits_if true t h = h
fits_if false t h = tt

some_at : {A : Type 0} (o : Option A) (a : A) → o ≡ Some a → IsSome o
some_at o a e = rw e refl

-- a jump to a place that the frame fits
pub go_safe : (u : Top) (env : List Value) (z : ℤ) (pc : ℕ) → IsTrue u.runs → place_from u.pc z ≡ Some pc → Fits (record u { pc = pc }) → Safe (on_lua u) env (expand (go_by z))
go_safe u env z pc r e f = (
  (r, record { place = pc; is = e; there = some_at (at u.code pc) f.instruction f.at_pc }),
  λ l. fits_if u.runs (record u { pc = l.place }) (subst (λ k. Fits (record u { pc = k })) (some_is e l.is) f),
)

-- the frame fits the place behind an instruction
pub fits_behind : (u : Top) (p : Prototype) (pc : ℕ) (w : Instruction) (op : Opcode) → at p pc ≡ Some w → opcode_of w ≡ Some op → pc + 1 < length p.own.code → CodeIsChecked p → extra_behind (second_half op w) ≡ false → u.code ≡ p → MarkFits (opened (opens op w)) p.own.stack u.size u.opened → u.cells ≤ p.own.stack → Fits (record u { pc = pc + 1 })
fits_behind u p pc w op a o l ch ex c m k =
    let j = get_there p.own.code (pc + 1) l in
    let q = opcode_there p (pc + 1) j.0 ch j.1 in
    let e : suc pc ≡ pc + 1 = omega arith in
    record {
      instruction = j.0;
      at_pc = ap (λ p. at p (pc + 1)) c ∙ j.1;
      opcode = q.0;
      is_opcode = q.1;
      no_extra = next_no_extra p pc w j.0 op q.0 ch a o ex (ap (at p) e ∙ j.1) q.1;
      fits_mark = subst (λ p. MarkFits (mark p (pc + 1)) p.own.stack u.size u.opened) (sym c) (subst (λ m. MarkFits m p.own.stack u.size u.opened) (sym (mark_behind p pc w op a o)) m);
      cells = subst (λ (p : Prototype). u.cells ≤ p.own.stack) (sym c) k;
    }

-- one place on, behind the instruction at hand
pub next_safe : {t : Top} {w : Instruction} {op : Opcode} (u : Top) (env : List Value) → Here t w op → is_return op ≡ false → extra_behind (second_half op w) ≡ false → u.code ≡ t.code → u.pc ≡ t.pc → IsTrue u.runs → MarkFits (opened (opens op w)) t.code.own.stack u.size u.opened → u.cells ≤ t.code.own.stack → Safe (on_lua u) env (expand next)
next_safe {t = t} {w = w} {op = op} u env h r ex c p run m k =
    go_safe u env (pos 1) (t.pc + 1) run (ap (λ pc. place_from pc (pos 1)) p) (fits_behind u t.code t.pc w op h.at_pc h.is_opcode (more h r) h.checked ex c m k)

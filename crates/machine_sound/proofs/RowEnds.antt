-- How rows of checked code end: on the next place, behind a pair, at a jump's target, with an error, or in a call.
use Rattle.std.proofs.Common.{ℕ, suc, ◌≡◌, ◌<◌, ◌≤◌, ◌+◌, List, [], ◌∷◌, ◌++◌, Option, Some, None, refl, subst, sym, ap, ◌∙◌, length, drop, Bool, true, false, arith}
use Rattle.std.specs.Prelude.{ℤ, pos, negsuc, ◌+ℤ◌, slice_get, IsTrue, not, ◌&&◌, ◌||◌, nat_lt}
use Rattle.int_core.specs.Value.{Value}
use Rattle.int_core.specs.Operations.{Operation}
use Rattle.code_core.specs.declared.opcode.Opcode.{Opcode}
use Rattle.code_core.specs.declared.instruction.Instruction.{Instruction}
use Rattle.code_core.specs.Instruction.{opcode_of}
use Rattle.code_core.specs.Fields.{registers, constants, upvalues, target, second_half, opens, takes_list, is_return, Wanted}
use Rattle.code_core.specs.Prototype.{Prototype}
use Rattle.code_core.specs.Check.{CodeIsChecked, at, there, is_same, Mark, fixed, opened, leaves, mark, is_fixed, extra_at, constant_is, is_landing, lands, lands_fixed, is_taken, goes_on, agrees, is_second, open_from}
use Rattle.machine_core.specs.World.{Wait}
use Rattle.machine_core.specs.Text.{Arg, read, Own, Text, go_by, operate}
use Rattle.machine_core.specs.InstructionRows.{next, skip, to_register}
use Rattle.machine_core.specs.Moves.{settle, CallShape, is_entered, is_primitive, not_paid, not_entered, place_from, is_found, only, is_asked, is_fault}
use Rattle.machine_core.specs.FrameRows.{expand, raises, call_row, after_call}
use Rattle.machine_sound.specs.Sound.{Top, waits_at, waiting_size, kept_below, is_extra, MarkFits, Fits}
use Rattle.machine_sound.specs.Safe.{on_lua, TopReady, ArgOk, WaitArgOk, HasPlace, WaitsAs, MayEnter, SettledEvent, has_found, asks_for, fails_with, Safe, after_entering, after_all, settled_values, settled_told}
use Rattle.machine_sound.proofs.Lists.{get_within}
use Rattle.machine_sound.proofs.Values.{lt_of, both_of, all_get}
use Rattle.machine_sound.proofs.Rules.{rules_at, opcode_there, or_of, same_opcode, extra_behind, extra_is}
use Rattle.machine_sound.proofs.Places.{Here, place, go_safe, fits_behind, next_safe}

-- an instruction that goes on to the next one, which is no EXTRAARG, and has nothing to do with open lists
abbrev pub IsPlain : Opcode → Instruction → Type 0
IsPlain op w = (is_return op ≡ false) × (extra_behind (second_half op w) ≡ false) × (opened (opens op w) ≡ fixed) × (takes_list op w ≡ false)

-- what an instruction names is there

pub reg : {t : Top} {w : Instruction} {op : Opcode} → Here t w op → (i r : ℕ) → slice_get (registers op w) i ≡ Some r → r < t.code.own.stack
reg {t = t} {w = w} {op = op} h i r e = lt_of r t.code.own.stack (all_get (λ r. nat_lt r t.code.own.stack) (registers op w) h.rule.registers_there i r e)

pub plain_size : {t : Top} {w : Instruction} {op : Opcode} → Here t w op → takes_list op w ≡ false → MarkFits fixed t.code.own.stack t.size t.opened
plain_size h n = h.plain n

pub sized : {t : Top} {w : Instruction} {op : Opcode} → Here t w op → takes_list op w ≡ false → (i r : ℕ) → slice_get (registers op w) i ≡ Some r → r < t.size
sized h n i r e = let a = (h.plain n).0 in let b = reg h i r e in omega arith

pub there_within : {A : Type 0} (test : A → Bool) (xs : List A) (n : ℕ) → IsTrue (there test (slice_get xs n)) → n < length xs
there_within test xs n h = from (slice_get xs n) refl h
  where
    from : (o : Option _) → slice_get xs n ≡ o → IsTrue (there test o) → n < length xs
    from None e h = absurd (cc)
    from (Some x) e h = get_within xs n x e

pub con : {t : Top} {w : Instruction} {op : Opcode} → Here t w op → (i n : ℕ) (k : Wanted) → slice_get (constants op w (extra_at t.code t.pc)) i ≡ Some (k, n) → n < length t.code.own.constants
con {t = t} {w = w} {op = op} h i n k e =
    there_within (constant_is k) t.code.own.constants n (all_get (λ (used : Wanted × ℕ). there (constant_is used.0) (slice_get t.code.own.constants used.1)) (constants op w (extra_at t.code t.pc)) h.rule.constants_there i (k, n) e)

pub up : {t : Top} {w : Instruction} {op : Opcode} → Here t w op → (i u : ℕ) → slice_get (upvalues op w) i ≡ Some u → u < length t.code.own.upvalues
up {t = t} {w = w} {op = op} h i u e = lt_of u (length t.code.own.upvalues) (all_get (λ u. nat_lt u (length t.code.own.upvalues)) (upvalues op w) h.rule.upvalues_there i u e)

-- the next place

fits_fixed : (m : Mark) (stack size opened : ℕ) → m ≡ fixed → MarkFits fixed stack size opened → MarkFits m stack size opened
fits_fixed m stack size opened e s = subst (λ m. MarkFits m stack size opened) (sym e) s

pub on_next : {t : Top} {w : Instruction} {op : Opcode} (u : Top) (env : List Value) → Here t w op → IsPlain op w → u.code ≡ t.code → u.pc ≡ t.pc → IsTrue u.runs → MarkFits fixed t.code.own.stack u.size u.opened → u.cells ≤ t.code.own.stack → Safe (on_lua u) env (expand next)
on_next {t = t} {w = w} {op = op} u env h p c q r s k = next_safe u env h p.0 p.1 c q r (fits_fixed (opened (opens op w)) t.code.own.stack u.size u.opened p.2 s) k

pub ends_next : {t : Top} {w : Instruction} {op : Opcode} (env : List Value) → Here t w op → IsPlain op w → Safe (on_lua t) env (expand next)
ends_next {t = t} env h p = on_next t env h p refl refl h.runs (h.plain p.3) (let e = h.cells in omega arith)

-- a register is written, and on
pub ends_write : {t : Top} {w : Instruction} {op : Opcode} (env : List Value) (r : ℕ) (x : Arg) → Here t w op → IsPlain op w → r < t.code.own.stack → ArgOk x → Safe (on_lua t) env (expand (to_register r x))
ends_write {t = t} env r x h p l a = (((let e = (h.plain p.3).0 in omega arith, a), h.runs), λ _. ends_next (env ++ []) h p)

-- pairs

pub record Second (t : Top) (w : Instruction) (second : Opcode) : Type 0 where
  pub instruction : Instruction
  pub at_pc : at t.code (t.pc + 1) ≡ Some instruction
  pub is_opcode : opcode_of instruction ≡ Some second
  pub agrees_so : IsTrue (agrees w instruction second)

pub second_at : (p : Prototype) (pc : ℕ) (w : Instruction) (second : Opcode) → IsTrue (goes_on p pc w (Some second)) → (v : Instruction) × (at p (pc + 1) ≡ Some v) × (opcode_of v ≡ Some second) × IsTrue (agrees w v second)
second_at p pc w second h = from (at p (pc + 1)) refl h
  where
    from : (o : Option Instruction) → at p (pc + 1) ≡ o → IsTrue (there (λ v. there (is_same second) (opcode_of v) && agrees w v second) o) → (v : Instruction) × (at p (pc + 1) ≡ Some v) × (opcode_of v ≡ Some second) × IsTrue (agrees w v second)
    from None e h = absurd (cc)
    from (Some v) e h = let b = both_of (there (is_same second) (opcode_of v)) (agrees w v second) h in (v, e, named (opcode_of v) refl b.0, b.1)
      where
        named : (o : Option Opcode) → opcode_of v ≡ o → IsTrue (there (is_same second) o) → opcode_of v ≡ Some second
        named None e h = absurd (cc)
        named (Some op) e h = e ∙ ap Some (sym (same_opcode second op h))

pub second_there : {t : Top} {w : Instruction} {op : Opcode} → Here t w op → (second : Opcode) → second_half op w ≡ Some second → Second t w second
second_there {t = t} {w = w} {op = op} h second e =
    let a = (both_of (goes_on t.code t.pc w (second_half op w)) _ h.rule.paired).0 in
    let b = second_at t.code t.pc w second (subst (λ s. IsTrue (goes_on t.code t.pc w s)) e a) in
    record { instruction = b.0; at_pc = b.1; is_opcode = b.2; agrees_so = b.3 }

-- a second half that goes on to a place with no open list
abbrev pub IsSecond : Opcode → Type 0
IsSecond second = (v : Instruction) → (is_return second ≡ false) × (extra_behind (second_half second v) ≡ false) × (opened (opens second v) ≡ fixed)

-- past the second half
pub on_skip : {t : Top} {w : Instruction} {op : Opcode} (u : Top) (env : List Value) → Here t w op → (second : Opcode) → second_half op w ≡ Some second → IsSecond second → u.code ≡ t.code → u.pc ≡ t.pc → IsTrue u.runs → MarkFits fixed t.code.own.stack u.size u.opened → u.cells ≤ t.code.own.stack → Safe (on_lua u) env (expand skip)
on_skip {t = t} {w = w} {op = op} u env h second e i c q r s k =
    let v = second_there h second e in
    let j = i v.instruction in
    let g = (rules_at t.code (t.pc + 1) v.instruction second h.checked v.at_pc v.is_opcode).goes_on in
    let l = lt_of (t.pc + 1 + 1) (length t.code.own.code) (or_of (is_return second) _ j.0 g) in
    let f = fits_behind u t.code (t.pc + 1) v.instruction second v.at_pc v.is_opcode l h.checked j.1 c (fits_fixed (opened (opens second v.instruction)) t.code.own.stack u.size u.opened j.2 s) k in
    let m : t.pc + 1 + 1 ≡ t.pc + 2 = omega arith in
    go_safe u env (pos 2) (t.pc + 2) r (ap (λ pc. place_from pc (pos 2)) q) (subst (λ pc. Fits (record u { pc = pc })) m f)

pub ends_skip : {t : Top} {w : Instruction} {op : Opcode} (env : List Value) → Here t w op → (second : Opcode) → second_half op w ≡ Some second → IsSecond second → takes_list op w ≡ false → Safe (on_lua t) env (expand skip)
ends_skip {t = t} env h second e i n = on_skip t env h second e i refl refl h.runs (h.plain n) (let c = h.cells in omega arith)

-- jumps

not_second : (p : Prototype) (pc : ℕ) (op : Opcode) → is_second p pc op ≡ false → is_extra op ≡ false
not_second p pc op h = from (is_extra op) refl
  where
    from : (b : Bool) → is_extra op ≡ b → is_extra op ≡ false
    from true e = let k = subst (λ op. is_second p pc op ≡ false) (extra_is op e) h in absurd (cc)
    from false e = e

pub false_of : (b : Bool) → IsTrue (not b) → b ≡ false
false_of true h = absurd (cc)
false_of false h = refl

lands_at : (p : Prototype) (z : ℤ) → CodeIsChecked p → IsTrue (lands p z) → (k : ℕ) × (z ≡ pos k) × (w : Instruction) × (at p k ≡ Some w) × (op : Opcode) × (opcode_of w ≡ Some op) × (is_extra op ≡ false)
lands_at p (negsuc n) c h = absurd (cc)
lands_at p (pos k) c h = from (at p k) refl h
  where
    from : (o : Option Instruction) → at p k ≡ o → IsTrue (there (λ w. not (there (is_second p k) (opcode_of w))) o) → (j : ℕ) × (pos k ≡ pos j) × (w : Instruction) × (at p j ≡ Some w) × (op : Opcode) × (opcode_of w ≡ Some op) × (is_extra op ≡ false)
    from None e h = absurd (cc)
    from (Some w) e h =
        let o = opcode_there p k w c e in
        let n = false_of (there (is_second p k) (opcode_of w)) h in
        (k, refl, w, e, o.0, o.1, not_second p k o.0 (subst (λ o. there (is_second p k) o ≡ false) o.1 n))

fixed_of : (m : Mark) → IsTrue (is_fixed m) → m ≡ fixed
fixed_of fixed h = refl
fixed_of (open_from r) h = absurd (cc)

-- a jump to the instruction's target
pub on_land : {t : Top} {w : Instruction} {op : Opcode} (u : Top) (env : List Value) (d z : ℤ) → Here t w op → target t.pc op w ≡ Some z → pos t.pc +ℤ d ≡ z → u.code ≡ t.code → u.pc ≡ t.pc → IsTrue u.runs → MarkFits fixed t.code.own.stack u.size u.opened → u.cells ≤ t.code.own.stack → Safe (on_lua u) env (expand (go_by d))
on_land {t = t} {w = w} {op = op} u env d z h e q c p r s k =
    let l = lands_at t.code z h.checked (subst (λ o. IsTrue (is_landing t.code o)) e h.rule.landing) in
    let lf = (both_of (is_taken t.code t.pc (leaves w)) _ h.rule.lists).1 in
    let f : IsTrue (lands_fixed t.code (target t.pc op w)) = (both_of (not (takes_list op w) || not (is_fixed (mark t.code t.pc))) _ lf).1 in
    let f' : IsTrue (is_fixed (mark t.code l.0)) = subst (λ o. IsTrue (lands_fixed t.code o)) (e ∙ ap Some l.1) f in
    let m = fixed_of (mark t.code l.0) f' in
    go_safe u env d l.0 r (ap (λ pc. place_from pc d) p ∙ ap (λ z. elim z as (λ _. Option ℕ) [ pos n ↦ Some n | negsuc _ ↦ None ]) (q ∙ l.1)) (record {
      instruction = l.2;
      at_pc = ap (λ p. at p l.0) c ∙ l.3;
      opcode = l.4;
      is_opcode = l.5;
      no_extra = l.6;
      fits_mark = subst (λ p. MarkFits (mark p l.0) p.own.stack u.size u.opened) (sym c) (subst (λ m. MarkFits m t.code.own.stack u.size u.opened) (sym m) s);
      cells = subst (λ (p : Prototype). u.cells ≤ p.own.stack) (sym c) k;
    })

-- errors and calls

abbrev pub moved_place : {t : Top} (u : Top) → HasPlace t → u.code ≡ t.code → u.pc ≡ t.pc → HasPlace u
moved_place {t = t} u h c p = record { instruction = h.instruction; at_pc = ap (λ k. at k u.pc) c ∙ ap (at t.code) p ∙ h.at_pc; opcode = h.opcode; is_opcode = h.is_opcode }

pub raise_safe : (u : Top) (env : List Value) (text : List ℕ) → HasPlace u → Safe (on_lua u) env (raises text)
raise_safe u env text h = (h, λ _. tt)

waiting_place : (u : Top) → HasPlace u → HasPlace (record u { runs = false })
waiting_place u h = record { instruction = h.instruction; at_pc = h.at_pc; opcode = h.opcode; is_opcode = h.is_opcode }

pub call_safe : (t : Top) (env : List Value) (f : Arg) (slot : ℕ) (wait : Wait Arg) (prepared : List Own) → MayEnter t env f wait prepared → Safe (on_lua t) env (call_row f slot wait prepared)
call_safe t env f slot wait prepared r = (r, λ s. ends s)
  where
    ends : (s : CallShape) → Safe (after_entering s t (after_all prepared env t)) (env ++ []) (after_call s)
    ends is_entered = tt
    ends (is_primitive n) = refl
    ends not_paid = tt
    ends (not_entered text) = raise_safe (record (after_all prepared env t) { runs = false }) (env ++ []) text (waiting_place (after_all prepared env t) r.waits.place)

pub drop_front : {A : Type 0} (xs ys : List A) → drop (length xs) (xs ++ ys) ≡ ys
drop_front [] ys = refl
drop_front (x ∷ xs) ys = drop_front xs ys

-- an operation that is settled at once, asks for a handler, or fails
pub operate_safe : (t : Top) (env : List Value) (op : Operation) (xs : List Arg) (wait : Wait Arg) (rest : Text) → TopReady t env (settle op xs) → WaitsAs wait t → ((vs : List Value) → Safe (on_lua t) vs (expand rest)) → Safe (on_lua t) env (expand (operate op xs wait [] rest))
operate_safe t env op xs wait rest a w k = (a, λ e. ends e)
  where
    ends : (e : SettledEvent) → Safe (on_lua t) (env ++ settled_values e) (elim (settled_told e) [
      | is_found ↦ only (length env) (expand rest)
      | is_asked ↦ call_row (read (length env)) (suc (length env)) wait []
      | is_fault text ↦ raises text
    ])
    ends (has_found vs) = subst (λ vs. Safe (on_lua t) vs (expand rest)) (sym (drop_front env vs)) (k vs)
    ends (asks_for f vs) = call_safe t (env ++ f ∷ vs) (read (length env)) (suc (length env)) wait [] (record { callee = tt; prepares = tt; waits = w })
    ends (fails_with text) = raise_safe t (env ++ []) text w.place

-- the frame may wait where it stands
pub may_wait : {t : Top} {w : Instruction} {op : Opcode} (wait : Wait Arg) → Here t w op → takes_list op w ≡ false → IsTrue (waits_at wait op w) → waiting_size wait w t.code.own.stack ≡ t.code.own.stack → kept_below wait w t.code.own.stack ≡ t.code.own.stack → WaitArgOk wait → WaitsAs wait t
may_wait {t = t} wait h n f s k e = record { place = place h; fits = f; size = (h.plain n).0 ∙ sym s; kept = (let a = h.pending in omega arith); opened = (h.plain n).1; error = e }

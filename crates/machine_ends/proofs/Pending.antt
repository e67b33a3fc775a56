-- What moves on a frame's own activation do to its place and its pending registers.
use Rattle.std.proofs.Common.{ℕ, suc, ◌+◌, ◌*◌, ◌-◌, ◌≤◌, ◌≡◌, List, [], ◌∷◌, Option, Some, None, refl, ap, ◌∙◌, length, arith, Bool, true, false, cond, filter, length-append}
use Rattle.std.specs.Prelude.{nat_le, nat_lt, nat_eq, IsTrue}
use Rattle.std.specs.List.{list_all}
use Rattle.std.proofs.lemmas.Bool.Decides.{nat_tests}
use Rattle.int_core.specs.Value.{Value, boolean, is_known}
use Rattle.code_core.specs.Prototype.{Prototype}
use Rattle.machine_core.specs.World.{Wait, running, Activation, LuaFrame}
use Rattle.machine_core.specs.Text.{Arg, Own, write_register, write_registers, write_list, write_nils, end_list, cut_from, close_cells, mark_pending, take_pending, drop_pending, keep_results, keep_pending, last_pending, without_pending, is_there, effect, done}
use Rattle.machine_core.specs.Moves.{named}
use Rattle.machine_sound.proofs.Values.{both_of}
use Rattle.machine_ends.specs.Measure.{wait_weight, own_weight}
use Rattle.machine_ends.specs.Falls.{no_mark, saved, seen_by}

-- one that is pending at a register or above
abbrev pub Seen : Option ℕ → List ℕ → Type 0
Seen None ps = Unit {0}
Seen (Some r) ps = (p : ℕ) × (last_pending r ps ≡ Some p)

pub seen_told : (r : ℕ) (ps : List ℕ) (o : Option ℕ) → last_pending r ps ≡ o → Seen (seen_by r (is_known (boolean (is_there o)))) ps
seen_told r ps None e = tt
seen_told r ps (Some p) e = (p, e)

filter_shorter : (test : ℕ → Bool) (ps : List ℕ) → length (filter test ps) ≤ length ps
filter_shorter test [] = omega arith
filter_shorter test (p ∷ ps) = pick (test p) (filter_shorter test ps)
  where
    pick : (b : Bool) → length (filter test ps) ≤ length ps → length (cond b (p ∷ filter test ps) (filter test ps)) ≤ suc (length ps)
    pick true l = omega arith
    pick false l = omega arith

without_shorter : (r : ℕ) (ps : List ℕ) → length (without_pending r ps) ≤ length ps
without_shorter r [] = omega arith
without_shorter r (q ∷ ps) = pick (is_there (last_pending r ps)) (nat_le r q) (without_shorter r ps)
  where
    pick : (a b : Bool) → length (without_pending r ps) ≤ length ps → length (cond a (q ∷ without_pending r ps) (cond b ps (q ∷ ps))) ≤ suc (length ps)
    pick true b l = omega arith
    pick false true l = omega arith
    pick false false l = omega arith

-- the one that is there is taken
taken_shorter : (r : ℕ) (ps : List ℕ) (p : ℕ) → last_pending r ps ≡ Some p → length (without_pending r ps) + 1 ≤ length ps
taken_shorter r [] p e = absurd (cc)
taken_shorter r (q ∷ ps) p e = pick (last_pending r ps) (nat_le r q) e (λ p e. taken_shorter r ps p e) refl
  where
    pick : (o : Option ℕ) (b : Bool) → elim o as (λ _. Option ℕ) [ Some p ↦ Some p | None ↦ cond b (Some q) None ] ≡ Some p → ((p : ℕ) → last_pending r ps ≡ Some p → length (without_pending r ps) + 1 ≤ length ps) → last_pending r ps ≡ o
        → length (cond (is_there o) (q ∷ without_pending r ps) (cond b ps (q ∷ ps))) + 1 ≤ suc (length ps)
    pick (Some s) b e f k = let l = f s k in omega arith
    pick None true e f k = omega arith
    pick None false e f k = absurd (cc)

pub effect_pc : (m : Own) (p : Prototype) (env : List Value) (own : Activation) → (effect m p env own).pc ≡ own.pc
effect_pc (write_register r x) p env own = refl
effect_pc (write_registers at count slot) p env own = refl
effect_pc (write_list at slot) p env own = refl
effect_pc (write_nils at count) p env own = refl
effect_pc end_list p env own = refl
effect_pc (cut_from r) p env own = refl
effect_pc (mark_pending r) p env own = refl
effect_pc (take_pending r) p env own = refl
effect_pc (drop_pending r) p env own = refl
effect_pc (keep_results from count) p env own = refl
effect_pc keep_pending p env own = refl
effect_pc _ p env own = refl

pub effect_pending : (m : Own) (p : Prototype) (env : List Value) (own : Activation) → IsTrue (no_mark m) → length (effect m p env own).pending ≤ length own.pending
effect_pending (mark_pending r) p env own n = absurd (cc)
effect_pending (take_pending r) p env own n = without_shorter r own.pending
effect_pending (drop_pending r) p env own n = filter_shorter (λ q. nat_lt q r) own.pending
effect_pending (write_register r x) p env own n = omega arith
effect_pending (write_registers at count slot) p env own n = omega arith
effect_pending (write_list at slot) p env own n = omega arith
effect_pending (write_nils at count) p env own n = omega arith
effect_pending end_list p env own n = omega arith
effect_pending (cut_from r) p env own n = omega arith
effect_pending (keep_results from count) p env own n = omega arith
effect_pending keep_pending p env own n = omega arith
effect_pending _ p env own n = omega arith

pub marked : (r : ℕ) (p : Prototype) (env : List Value) (own : Activation) → length (effect (mark_pending r) p env own).pending ≡ length own.pending + 1
marked r p env own = length-append own.pending (r ∷ [])

pub done_pc : (ms : List Own) (p : Prototype) (env : List Value) (own : Activation) → (done ms p env own).pc ≡ own.pc
done_pc [] p env own = refl
done_pc (m ∷ ms) p env own = done_pc ms p env (effect m p env own) ∙ effect_pc m p env own

pub done_pending : (ms : List Own) (p : Prototype) (env : List Value) (own : Activation) → IsTrue (list_all no_mark ms) → length (done ms p env own).pending ≤ length own.pending
done_pending [] p env own n = omega arith
done_pending (m ∷ ms) p env own n =
    let b = both_of (no_mark m) (list_all no_mark ms) n in
    let k = done_pending ms p env (effect m p env own) b.1 in
    let j = effect_pending m p env own b.0 in omega arith

same_number : (r s : ℕ) → nat_eq r s ≡ true → r ≡ s
same_number r s e = grind (arith, nat_tests)

-- and fewer by the one that is taken
pub done_saved : (seen : Option ℕ) (ms : List Own) (p : Prototype) (env : List Value) (own : Activation) → Seen seen own.pending → IsTrue (list_all no_mark ms) → 20 * length (done ms p env own).pending + saved seen ms ≤ 20 * length own.pending
done_saved None ms p env own s n = let k = done_pending ms p env own n in omega arith
done_saved (Some r) (close_cells q ∷ take_pending t ∷ ms) p env own s n = pick (nat_eq r t) refl
  where
    pick : (b : Bool) → nat_eq r t ≡ b → 20 * length (done ms p env (effect (take_pending t) p env own)).pending + cond b 20 0 ≤ 20 * length own.pending
    pick true e =
        let k = done_pending ms p env (effect (take_pending t) p env own) n in
        let q = same_number r t e in
        let j = taken_shorter r own.pending s.0 s.1 in
        let i = ap (λ r. length (without_pending r own.pending)) q in omega arith
    pick false e =
        let k = done_pending ms p env (effect (take_pending t) p env own) n in
        let j = without_shorter t own.pending in omega arith
done_saved (Some r) ms p env own s n = let k = done_pending ms p env own n in omega arith

pub named_weight : (env : List Value) (w : Wait Arg) → wait_weight (named env w) ≡ wait_weight w
named_weight env running = refl
named_weight env _ = refl

-- what weighs a frame at the same place
pub own_below : (most : ℕ) (f : LuaFrame) (w : Wait Value) (own : Activation) → own.pc ≡ f.own.pc → (n m : ℕ) → 20 * length own.pending + n ≤ 20 * length f.own.pending + m
    → own_weight most (record f { wait = w; own = own }) + n ≤ own_weight most f + m
own_below most f w own e n m l = let k = ap (λ pc. 40 * (most - pc)) e in omega arith

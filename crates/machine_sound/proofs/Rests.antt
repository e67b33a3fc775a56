-- What is left of an instruction, when the answer comes for which its frame waited, is safe in checked code.
use Rattle.std.proofs.Common.{ℕ, zero, suc, ◌≡◌, ◌<◌, ◌≤◌, ◌+◌, ◌-◌, List, [], ◌∷◌, ◌++◌, Option, Some, None, refl, subst, sym, ap, ◌∙◌, length, Bool, arith}
use Rattle.std.specs.Prelude.{slice_get, cond, IsTrue, if◌then◌else◌}
use Rattle.int_core.specs.Value.{Value}
use Rattle.code_core.specs.declared.opcode.Opcode.{Opcode}
use Rattle.code_core.specs.declared.opcode.Opcode.TheVariants.{GetTabUp, GetTable, GetI, GetField, SetTabUp, SetTable, SetI, SetField, OpSelf, MmBin, MmBinI, MmBinK, Unm, BNot, Len, Concat, Close, Eq, Lt, Le, EqK, EqI, LtI, LeI, GtI, GeI, Call, Return, Return0, Return1, TForCall}
use Rattle.code_core.specs.declared.instruction.Instruction.{Instruction}
use Rattle.code_core.specs.Instruction.{opcode_of, a_of, b_of, c_of}
use Rattle.code_core.specs.Fields.{registers, last_of}
use Rattle.code_core.specs.Check.{CodeIsChecked, at, opened}
use Rattle.machine_core.specs.World.{Wait, for_call, for_iterator, for_value, for_truth, dropped, for_concat, for_close, returning, leaving}
use Rattle.machine_core.specs.Text.{Arg, read, arg, behind, thrown, Text, close, leave, trap, is_there}
use Rattle.machine_core.specs.InstructionRows.{rest, rest_at, rest_by, fails, left_so, to_register, write_values, joins}
use Rattle.machine_core.specs.Moves.{TopShape, lua_top}
use Rattle.machine_core.specs.FrameRows.{expand, after_leaving}
use Rattle.machine_sound.specs.Sound.{Top, waits_at, waiting_size}
use Rattle.machine_sound.specs.Safe.{on_lua, waiting, HasPlace, list_of_option, Safe}
use Rattle.machine_sound.proofs.Values.{le_of}
use Rattle.machine_sound.proofs.Rules.{rules_at}
use Rattle.machine_sound.proofs.Places.{Here}
use Rattle.machine_sound.proofs.RowEnds.{IsPlain, reg, ends_next, ends_write, moved_place, call_safe}
use Rattle.machine_sound.proofs.OpcodesNumbers.{front_there, before_safe, joins_safe}
use Rattle.machine_sound.proofs.OpcodesTests.{decides_safe, closes_safe}
use Rattle.machine_sound.proofs.OpcodesCalls.{returns_safe, zero_is, not_zero, last_is}
use Rattle.machine_sound.proofs.OpcodesLists.{puts_safe}

-- leaving with an error: the pending variables are closed first

left_by_error : (env : List Value) (x : Arg) (s : TopShape) → Safe (waiting (Some s)) env (after_leaving (thrown x) s)
left_by_error env x lua_top = tt
left_by_error env x _ = tt

pub fails_safe : (t : Top) (env : List Value) → HasPlace t → t.pending ≤ t.code.own.stack → Safe (on_lua t) env (expand fails)
fails_safe t env p q = ((tt, tt), λ o. from o)
  where
    from : (o : Option Value) → Safe (on_lua t) (env ++ list_of_option o) (expand (cond (is_there o) (close (read (length env)) (read 0) (leaving (read 0)) left_so) (leave (thrown (read 0)))))
    from None = (tt, λ s. left_by_error ((env ++ []) ++ []) (read 0) s)
    from (Some v) = (
      (tt, tt),
      λ g. call_safe t ((env ++ v ∷ []) ++ g ∷ arg (env ++ v ∷ []) (read (length env)) ∷ arg (env ++ v ∷ []) (read 0) ∷ []) (read (length (env ++ v ∷ []))) (suc (length (env ++ v ∷ []))) (leaving (read 0)) left_so (record {
        callee = tt;
        prepares = (tt, (tt, (omega arith, tt)));
        waits = record { place = moved_place (record t { cells = 0; captured = []; size = t.code.own.stack; opened = 0 }) p refl refl; fits = refl; size = refl; kept = q; opened = refl; error = tt };
      }),
    )

-- a frame that waited, and gets what it waited for
pub record Back (t : Top) (w : Instruction) (op : Opcode) : Type 0 where
  pub checked : CodeIsChecked t.code
  pub at_pc : at t.code t.pc ≡ Some w
  pub is_opcode : opcode_of w ≡ Some op
  pub pending : t.pending ≡ t.code.own.stack
  pub cells : t.cells ≡ t.size
  pub opened : t.opened ≡ 0
  pub runs : IsTrue t.runs

here : {t : Top} {w : Instruction} {op : Opcode} → Back t w op → t.size ≡ t.code.own.stack → Here t w op
here {t = t} {w = w} {op = op} b s = record {
  checked = b.checked;
  at_pc = b.at_pc;
  is_opcode = b.is_opcode;
  rule = rules_at t.code t.pc w op b.checked b.at_pc b.is_opcode;
  plain = λ _. (s, b.opened);
  pending = b.pending;
  cells = b.cells ∙ s;
  runs = b.runs;
}

abbrev back_place : {t : Top} {w : Instruction} {op : Opcode} → Back t w op → HasPlace t
back_place {w = w} {op = op} b = record { instruction = w; at_pc = b.at_pc; opcode = op; is_opcode = b.is_opcode }

call_back : {t : Top} {w : Instruction} (vs : List Value) → Here t w Call → t.size ≡ t.code.own.stack → t.opened ≡ 0 → Safe (on_lua t) vs (expand (write_values (a_of w) (c_of w) 0))
call_back {t = t} {w = w} vs h s o =
    puts_safe t vs (a_of w) (c_of w) 0 h refl refl refl refl h.runs (s, o) (let e = h.cells in omega arith)
    (λ e. ap (λ (b : Bool). opened (if b then Some (a_of w) else None)) (zero_is (c_of w) e))
    (λ n e. ap (λ (b : Bool). opened (if b then Some (a_of w) else None)) (not_zero (c_of w) n e))
    (λ e. (let l = reg h 0 (a_of w) refl in less (a_of w) t.size t.code.own.stack s l))
    (λ n e. there_all n e n refl)
  where
    less : (a size stack : ℕ) → size ≡ stack → a < stack → a < size
    less a size stack s l = omega arith

    -- the last of the results
    results_last : (m : ℕ) → (b : ℕ) → c_of w - 1 ≡ suc m → (i : ℕ) × (slice_get (a_of w ∷ last_of (a_of w) b ++ last_of (a_of w) (c_of w - 1)) i ≡ Some (a_of w + m))
    results_last m zero q = (1, ap (λ c. slice_get (a_of w ∷ last_of (a_of w) c) 1) q ∙ ap (λ x. slice_get (a_of w ∷ x) 1) (last_is (a_of w) m))
    results_last m (suc b) q =
        (2, ap (λ x. slice_get (a_of w ∷ x ++ last_of (a_of w) (c_of w - 1)) 2) (last_is (a_of w) b) ∙ ap (λ c. slice_get (a_of w ∷ (a_of w + b) ∷ last_of (a_of w) c) 2) q ∙ ap (λ x. slice_get (a_of w ∷ (a_of w + b) ∷ x) 2) (last_is (a_of w) m))

    there_all : (n : ℕ) → c_of w ≡ suc n → (m : ℕ) → m ≡ n → behind (a_of w) m ≤ t.size
    there_all n e zero q = omega arith
    there_all n e (suc m) q =
        let k : c_of w - 1 ≡ suc m = omega arith in
        let r = results_last m (b_of w) k in
        within (a_of w) m t.size t.code.own.stack s (reg h r.0 (a_of w + m) r.1)
      where
        within : (a m size stack : ℕ) → size ≡ stack → a + m < stack → behind a (suc m) ≤ size
        within a m size stack s l = omega arith

iterator_back : {t : Top} {w : Instruction} (vs : List Value) → Here t w TForCall → t.size ≡ t.code.own.stack → t.opened ≡ 0 → Safe (on_lua t) vs (expand (write_values (a_of w + 4) (c_of w + 1) 0))
iterator_back {t = t} {w = w} vs h s o =
    puts_safe t vs (a_of w + 4) (c_of w + 1) 0 h refl refl refl refl h.runs (s, o) (let e = h.cells in omega arith)
    (λ e. absurd (omega arith)) (λ n e. refl) (λ e. absurd (omega arith))
    (λ n e. there_all n (let k : n ≡ c_of w = omega arith in k))
  where
    there_all : (n : ℕ) → n ≡ c_of w → behind (a_of w + 4) n ≤ t.size
    there_all zero e = omega arith
    there_all (suc m) e = within (a_of w) m (c_of w) t.size t.code.own.stack e s (reg h 1 (a_of w + 3 + c_of w) refl)
      where
        within : (a m c size stack : ℕ) → suc m ≡ c → size ≡ stack → a + 3 + c < stack → behind (a + 4) (suc m) ≤ size
        within a m c size stack e s l = omega arith

concat_back : {t : Top} {w : Instruction} (vs : List Value) (left : ℕ) → Here t w Concat → left + 2 ≤ b_of w → Safe (on_lua t) vs (expand (joins (a_of w) left (read 0)))
concat_back {t = t} {w = w} vs left h l = from (b_of w) refl
  where
    from : (b : ℕ) → b_of w ≡ b → Safe (on_lua t) vs (expand (joins (a_of w) left (read 0)))
    from zero e = absurd (none (b_of w) left l e)
      where
        none : (b left : ℕ) → left + 2 ≤ b → b ≡ 0 → ⊥
        none b left l e = omega arith
    from (suc n) e =
        let q : slice_get (registers Concat w) 1 ≡ Some (a_of w + n) = ap (λ b. slice_get (a_of w ∷ last_of (a_of w) b) 1) e ∙ ap (λ x. slice_get (a_of w ∷ x) 1) (last_is (a_of w) n) in
        joins_safe h left vs (read 0) (under (b_of w) left l) (below (a_of w) n (b_of w) left t.code.own.stack e l (reg h 1 (a_of w + n) q)) tt
      where
        under : (b left : ℕ) → left + 2 ≤ b → left < b
        under b left l = omega arith

        below : (a n b left stack : ℕ) → b ≡ suc n → left + 2 ≤ b → a + n < stack → a + left < stack
        below a n b left stack e l r = omega arith

-- the value of an operation
value_back : {t : Top} {w : Instruction} {op : Opcode} (vs : List Value) → Here t w op → IsPlain op w → slice_get (registers op w) 0 ≡ Some (a_of w) → Safe (on_lua t) vs (expand (to_register (a_of w) (read 0)))
value_back {w = w} vs h p e = ends_write vs (a_of w) (read 0) h p (reg h 0 (a_of w) e) tt

self_back : {t : Top} {w : Instruction} (vs : List Value) → Here t w OpSelf → Safe (on_lua t) vs (expand (to_register (a_of w) (read 0)))
self_back {t = t} {w = w} vs h = ends_write vs (a_of w) (read 0) h (refl, refl, refl, refl) (below (a_of w) t.code.own.stack (reg h 0 (a_of w + 1) refl)) tt
  where
    below : (a n : ℕ) → a + 1 < n → a < n
    below a n l = omega arith

pub rest_safe : (wait : Wait Value) (op : Opcode) (t : Top) (w : Instruction) (vs : List Value) → Back t w op → IsTrue (waits_at wait op w) → t.size ≡ waiting_size wait w t.code.own.stack → Safe (on_lua t) vs (expand (rest wait t.code t.pc op w))
rest_safe for_call Call t w vs b f s = call_back vs (here b s) s b.opened
rest_safe for_iterator TForCall t w vs b f s = iterator_back vs (here b s) s b.opened
rest_safe for_value GetTabUp t w vs b f s = value_back vs (here b s) (refl, refl, refl, refl) refl
rest_safe for_value GetTable t w vs b f s = value_back vs (here b s) (refl, refl, refl, refl) refl
rest_safe for_value GetI t w vs b f s = value_back vs (here b s) (refl, refl, refl, refl) refl
rest_safe for_value GetField t w vs b f s = value_back vs (here b s) (refl, refl, refl, refl) refl
rest_safe for_value OpSelf t w vs b f s = self_back vs (here b s)
rest_safe for_value MmBin t w vs b f s = let h = here b s in before_safe vs h (front_there h refl) refl (refl, refl, refl, refl)
rest_safe for_value MmBinI t w vs b f s = let h = here b s in before_safe vs h (front_there h refl) refl (refl, refl, refl, refl)
rest_safe for_value MmBinK t w vs b f s = let h = here b s in before_safe vs h (front_there h refl) refl (refl, refl, refl, refl)
rest_safe for_value Unm t w vs b f s = value_back vs (here b s) (refl, refl, refl, refl) refl
rest_safe for_value BNot t w vs b f s = value_back vs (here b s) (refl, refl, refl, refl) refl
rest_safe for_value Len t w vs b f s = value_back vs (here b s) (refl, refl, refl, refl) refl
rest_safe for_truth Eq t w vs b f s = decides_safe vs (here b s) refl (refl, refl, refl, refl)
rest_safe for_truth Lt t w vs b f s = decides_safe vs (here b s) refl (refl, refl, refl, refl)
rest_safe for_truth Le t w vs b f s = decides_safe vs (here b s) refl (refl, refl, refl, refl)
rest_safe for_truth LtI t w vs b f s = decides_safe vs (here b s) refl (refl, refl, refl, refl)
rest_safe for_truth EqK t w vs b f s = decides_safe vs (here b s) refl (refl, refl, refl, refl)
rest_safe for_truth EqI t w vs b f s = decides_safe vs (here b s) refl (refl, refl, refl, refl)
rest_safe for_truth LeI t w vs b f s = decides_safe vs (here b s) refl (refl, refl, refl, refl)
rest_safe for_truth GtI t w vs b f s = decides_safe vs (here b s) refl (refl, refl, refl, refl)
rest_safe for_truth GeI t w vs b f s = decides_safe vs (here b s) refl (refl, refl, refl, refl)
rest_safe dropped SetTabUp t w vs b f s = ends_next vs (here b s) (refl, refl, refl, refl)
rest_safe dropped SetTable t w vs b f s = ends_next vs (here b s) (refl, refl, refl, refl)
rest_safe dropped SetI t w vs b f s = ends_next vs (here b s) (refl, refl, refl, refl)
rest_safe dropped SetField t w vs b f s = ends_next vs (here b s) (refl, refl, refl, refl)
rest_safe (for_concat count) Concat t w vs b f s = concat_back vs count (here b s) (le_of (count + 2) (b_of w) f)
rest_safe for_close Close t w vs b f s = closes_safe vs (here b s)
rest_safe (returning count) Return t w vs b f s = returns_safe t vs count (back_place b) b.runs (omega arith) (let e = b.pending in omega arith) refl
rest_safe (returning count) Return0 t w vs b f s = returns_safe t vs count (back_place b) b.runs (omega arith) (let e = b.pending in omega arith) refl
rest_safe (returning count) Return1 t w vs b f s = returns_safe t vs count (back_place b) b.runs (omega arith) (let e = b.pending in omega arith) refl
rest_safe (leaving e) op t w vs b f s = fails_safe t vs (back_place b) (let e = b.pending in omega arith)
rest_safe _ _ t w vs b f s = absurd (cc)

-- the text of what is left of the instruction at hand
pub rest_text_safe : (wait : Wait Value) (op : Opcode) (t : Top) (w : Instruction) (vs : List Value) → Back t w op → IsTrue (waits_at wait op w) → t.size ≡ waiting_size wait w t.code.own.stack → Safe (on_lua t) vs (expand (rest_at wait t.code t.pc))
rest_text_safe wait op t w vs b f s =
    subst (λ (x : Text). Safe (on_lua t) vs (expand x))
    (sym (ap (λ (o : Option Instruction). elim o as (λ _. Text) [ None ↦ trap | Some w ↦ rest_by wait t.code t.pc w (opcode_of w) ]) b.at_pc ∙ ap (rest_by wait t.code t.pc w) b.is_opcode)) (rest_safe wait op t w vs b f s)

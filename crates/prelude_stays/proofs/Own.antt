-- Moves on the own activation: they write no environment, and read it from no register that may not hold it.
use Rattle.std.proofs.Common.{ℕ, zero, suc, ◌+◌, ◌-◌, ◌≤◌, ◌≡◌, List, [], ◌∷◌, Option, Some, None, refl, subst, ◌∙◌, length, take, drop, arith, Bool, true, false, cond}
use Rattle.std.specs.Prelude.{slice_get, max, nat_le, nat_lt, ◌&&◌, ◌||◌}
use Rattle.int_core.specs.Value.{Value, known, nil, nth, range, write, write_all}
use Rattle.code_core.specs.declared.proto.Const.{Const}
use Rattle.code_core.specs.Prototype.{Prototype}
use Rattle.machine_core.specs.World.{Cell, closed, Coroutine, Activation}
use Rattle.machine_core.specs.Text.{Arg, read, written, arg, args_of, behind, constant, list_end, list_values, value_if, Own, read_register, read_registers, read_list, read_constant, read_varargs, write_register, write_registers, write_list, write_nils, end_list, cut_from, close_cells, mark_pending, see_pending, take_pending, drop_pending, keep_results, keep_pending, reads, effect, done, nils, blanked, last_pending, is_pending}
use Rattle.machine_core.specs.Moves.{cells_after, cells_done}
use Rattle.machine_sound.specs.Sound.{Each}
use Rattle.machine_sound.proofs.Lists.{each_none, each_cons, each_one, each_tail, each_push, each_drop, each_filter}
use Rattle.machine_sound.proofs.Values.{nth_ok, each_range, each_nils}
use Rattle.machine_sound.proofs.Own.{each_left}
use Rattle.prelude_stays.specs.Guards.{Guard, OwnReads, AllRead}
use Rattle.prelude_stays.specs.Kept.{Apart, RegistersOk, function_at}
use Rattle.prelude_stays.proofs.Cells.{Carries, close_get, close_carries}

-- values that a row names

pub arg_apart : (e : ℕ) (env : List Value) (x : Arg) → Each (Apart e) env → Apart e (arg env x)
arg_apart e env (read n) v = nth_ok (Apart e) tt env n v
arg_apart e env (written p) v = tt

pub args_apart : (e : ℕ) (env : List Value) (xs : List Arg) → Each (Apart e) env → Each (Apart e) (args_of env xs)
args_apart e env [] v = each_none (Apart e)
args_apart e env (x ∷ xs) v = each_cons (Apart e) (arg env x) (args_of env xs) (arg_apart e env x v) (args_apart e env xs v)

-- registers, where something holds of those at some places

module _ (P : Value → Type 0) (nil_ok : P (known nil)) where
  pub held_write : (Q : ℕ → Type 0) (n : ℕ) (v : Value) (vs : List Value) → (Q n → P v) → ((r : ℕ) → Q r → P (nth vs r)) → (r : ℕ) → Q r → P (nth (write n v vs) r)
  held_write Q zero v [] p h zero q = p q
  held_write Q zero v [] p h (suc r) q = nil_ok
  held_write Q zero v (w ∷ vs) p h zero q = p q
  held_write Q zero v (w ∷ vs) p h (suc r) q = h (suc r) q
  held_write Q (suc n) v [] p h zero q = nil_ok
  held_write Q (suc n) v [] p h (suc r) q = held_write (λ r. Q (suc r)) n v [] p (λ r q. nil_ok) r q
  held_write Q (suc n) v (w ∷ vs) p h zero q = h zero q
  held_write Q (suc n) v (w ∷ vs) p h (suc r) q = held_write (λ r. Q (suc r)) n v vs p (λ r q. h (suc r) q) r q

  held_write_all : (Q : ℕ → Type 0) (at : ℕ) (ws vs : List Value) → Each P ws → ((r : ℕ) → Q r → P (nth vs r)) → (r : ℕ) → Q r → P (nth (write_all at ws vs) r)
  held_write_all Q at [] vs k h = h
  held_write_all Q at (w ∷ ws) vs k h = held_write_all Q (suc at) ws (write at w vs) (each_tail P w ws k) (held_write Q at w vs (λ _. k zero w refl) h)

  held_take : (Q : ℕ → Type 0) (n : ℕ) (vs : List Value) → ((r : ℕ) → Q r → P (nth vs r)) → (r : ℕ) → Q r → P (nth (take n vs) r)
  held_take Q zero vs h r q = nil_ok
  held_take Q (suc n) [] h r q = nil_ok
  held_take Q (suc n) (v ∷ vs) h zero q = h zero q
  held_take Q (suc n) (v ∷ vs) h (suc r) q = held_take (λ r. Q (suc r)) n vs (λ r q. h (suc r) q) r q

  held_blanked : (Q : ℕ → Type 0) (keeps : ℕ → Bool) (i count : ℕ) (vs : List Value) → ((r : ℕ) → Q r → P (nth vs r)) → (r k : ℕ) → k ≡ i + r → Q k → P (nth (blanked keeps i count vs) r)
  held_blanked Q keeps i zero vs h r k e q = nil_ok
  held_blanked Q keeps i (suc count) vs h zero k e q = pick (keeps i)
    where
      pick : (b : Bool) → P (cond b (nth vs i) (known nil))
      pick true = h i (subst Q (let z : k ≡ i = omega arith in z) q)
      pick false = nil_ok
  held_blanked Q keeps i (suc count) vs h (suc r) k e q = held_blanked Q keeps (suc i) count vs h r k (omega arith) q

  held_range : (Q : ℕ → Type 0) (from count : ℕ) (vs : List Value) → ((r : ℕ) → Q r → P (nth vs r)) → ((r : ℕ) → from ≤ r → Q r) → Each P (range from count vs)
  held_range Q from zero vs h k = each_none P
  held_range Q from (suc count) vs h k = each_cons P (nth vs from) (range (suc from) count vs) (h from (k from (omega arith))) (held_range Q (suc from) count vs h (λ r l. k r (omega arith)))

-- pending registers

last_held : (P : ℕ → Type 0) (r : ℕ) (qs : List ℕ) (q : ℕ) → Each P qs → last_pending r qs ≡ Some q → P q
last_held P r [] q h e = absurd (cc)
last_held P r (p ∷ qs) q h e = from (last_pending r qs) refl e (last_held P r qs q (each_tail P p qs h))
  where
    alone : (b : Bool) → cond b (Some p) None ≡ Some q → P q
    alone true e = let k : p ≡ q = cc in subst P k (h zero p refl)
    alone false e = absurd (cc)

    from : (o : Option ℕ) → last_pending r qs ≡ o → elim o [ Some p ↦ Some p | None ↦ cond (nat_le r p) (Some p) None ] ≡ Some q → (last_pending r qs ≡ Some q → P q) → P q
    from (Some z) d e more = more (d ∙ e)
    from None d e more = alone (nat_le r p) e

-- an activation

pub record OwnOk (e : ℕ) (g : Guard) (own : Activation) : Type 0 where
  pub registers : RegistersOk e g own.registers
  pub varargs : Each (Apart e) own.varargs
  pub pending : Each (λ r. g.registers r ≡ false) own.pending

module _ (e : ℕ) (g : Guard) (p : Prototype) (env : List Value) (v : Each (Apart e) env) where
  -- another list of registers, and of those that are pending
  abbrev with_registers : (own : Activation) (vs : List Value) (opened : ℕ) → OwnOk e g own → RegistersOk e g vs → OwnOk e g (record own { registers = vs; opened = opened })
  with_registers own vs opened h k = record { registers = k; varargs = h.varargs; pending = h.pending }

  abbrev with_pending : (own : Activation) (qs : List ℕ) → OwnOk e g own → Each (λ r. g.registers r ≡ false) qs → OwnOk e g (record own { pending = qs })
  with_pending own qs h k = record { registers = h.registers; varargs = h.varargs; pending = k }

  blanked_ok : (keeps : ℕ → Bool) (count : ℕ) (vs : List Value) → RegistersOk e g vs → RegistersOk e g (blanked keeps 0 count vs)
  blanked_ok keeps count vs h r q = held_blanked (Apart e) tt (λ r. g.registers r ≡ false) keeps 0 count vs h r r (omega arith) q

  pub effect_ok : (m : Own) (own : Activation) → OwnReads g m → OwnOk e g own → OwnOk e g (effect m p env own)
  effect_ok (write_register r x) own k h = with_registers own _ own.opened h (held_write (Apart e) tt (λ r. g.registers r ≡ false) r (arg env x) own.registers (λ _. arg_apart e env x v) h.registers)
  effect_ok (write_registers at count slot) own k h = with_registers own _ own.opened h (held_write_all (Apart e) tt (λ r. g.registers r ≡ false) at (range slot count env) own.registers (each_range (Apart e) tt slot count env v) h.registers)
  effect_ok (write_list at slot) own k h = with_registers own _ (length (drop slot env)) h (held_write_all (Apart e) tt (λ r. g.registers r ≡ false) at (drop slot env) own.registers (each_drop (Apart e) slot env v) h.registers)
  effect_ok (write_nils at count) own k h = with_registers own _ own.opened h (held_write_all (Apart e) tt (λ r. g.registers r ≡ false) at (nils count) own.registers (each_nils (Apart e) tt count) h.registers)
  effect_ok end_list own k h = with_registers own _ 0 h (held_take (Apart e) tt (λ r. g.registers r ≡ false) p.own.stack own.registers h.registers)
  effect_ok (cut_from r) own k h = with_registers own _ 0 h (blanked_ok (λ i. nat_lt i r) p.own.stack own.registers h.registers)
  effect_ok (mark_pending r) own k h = with_pending own _ h (each_push (λ r. g.registers r ≡ false) own.pending r h.pending k)
  effect_ok (take_pending r) own k h = with_pending own _ h (each_left (λ r. g.registers r ≡ false) r own.pending h.pending)
  effect_ok (drop_pending r) own k h = with_pending own _ h (each_filter (λ r. g.registers r ≡ false) (λ q. nat_lt q r) own.pending h.pending)
  effect_ok (keep_results from count) own k h = with_registers own _ 0 h (blanked_ok (λ i. is_pending own.pending i || (nat_le from i && nat_lt i (from + count))) (max p.own.stack (behind from count)) own.registers h.registers)
  effect_ok keep_pending own k h = with_registers own _ 0 h (blanked_ok (is_pending own.pending) p.own.stack own.registers h.registers)
  effect_ok _ own k h = h

  pub reads_ok : (m : Own) (own : Activation) → OwnReads g m → OwnOk e g own → Each (Apart e) (reads m p env own)
  reads_ok (read_register r) own k h = each_one (Apart e) (nth own.registers r) (h.registers r k)
  reads_ok (read_registers from count) own k h = held_range (Apart e) tt (λ r. g.registers r ≡ false) from count own.registers h.registers k
  reads_ok (read_list from) own k h = by (list_end p own)
    where
      by : (o : Option ℕ) → Each (Apart e) (list_values from own.registers o)
      by None = each_none (Apart e)
      by (Some end) = held_range (Apart e) tt (λ r. g.registers r ≡ false) from (end - from) own.registers h.registers k
  reads_ok (read_constant n) own k h = by (slice_get p.own.constants n)
    where
      by : (o : Option Const) → Each (Apart e) (elim o [ None ↦ [] | Some c ↦ known (constant c) ∷ [] ])
      by None = each_none (Apart e)
      by (Some c) = each_one (Apart e) (known (constant c)) tt
  reads_ok read_varargs own k h = h.varargs
  reads_ok (see_pending r) own k h = by (last_pending r own.pending) refl
    where
      by : (o : Option ℕ) → last_pending r own.pending ≡ o → Each (Apart e) (value_if own.registers o)
      by None d = each_none (Apart e)
      by (Some q) d = each_one (Apart e) (nth own.registers q) (h.registers q (last_held (λ r. g.registers r ≡ false) r own.pending q h.pending d))
  reads_ok _ own k h = each_none (Apart e)

  pub done_ok : (ms : List Own) (own : Activation) → AllRead g ms → OwnOk e g own → OwnOk e g (done ms p env own)
  done_ok [] own k h = h
  done_ok (m ∷ ms) own k h = done_ok ms (effect m p env own) k.1 (effect_ok m own k.0 h)

  -- the cells, of which moves close some that are open in the frame

  module _ (gs : List Guard) (cos : List Coroutine) (co n f : ℕ) (stands : function_at cos co n ≡ Some f) (there : slice_get gs f ≡ Some g) where
    after_carries : (m : Own) (own : Activation) (cells : List Cell) → OwnOk e g own → Carries e gs cos cells cos (cells_after m co n own cells)
    after_carries (close_cells r) own cells h = close_carries e gs cos cos co n r own.registers g f stands there h.registers (λ d m q k z s. s) cells
    after_carries m own cells h = λ c k. k

    pub done_carries : (ms : List Own) (own : Activation) (cells : List Cell) → AllRead g ms → OwnOk e g own → Carries e gs cos cells cos (cells_done ms p co n env own cells)
    done_carries [] own cells k h = λ c z. z
    done_carries (m ∷ ms) own cells k h = λ c z. done_carries ms (effect m p env own) (cells_after m co n own cells) k.1 (effect_ok m own k.0 h) c (after_carries m own cells h c z)

-- a closed cell stays as it is

pub closed_after : (m : Own) (co n : ℕ) (own : Activation) (cells : List Cell) (c : ℕ) (v : Value) → slice_get cells c ≡ Some (closed v) → slice_get (cells_after m co n own cells) c ≡ Some (closed v)
closed_after (close_cells r) co n own cells c v h = close_get co n r own.registers cells c (closed v) h
closed_after m co n own cells c v h = h

pub closed_done : (ms : List Own) (p : Prototype) (co n : ℕ) (env : List Value) (own : Activation) (cells : List Cell) (c : ℕ) (v : Value) → slice_get cells c ≡ Some (closed v) → slice_get (cells_done ms p co n env own cells) c ≡ Some (closed v)
closed_done [] p co n env own cells c v h = h
closed_done (m ∷ ms) p co n env own cells c v h = closed_done ms p co n env (effect m p env own) (cells_after m co n own cells) c v (closed_after m co n own cells c v h)

-- What a move on the own activation reads and tells, and that it does not trap.
use Rattle.std.proofs.Common.{ℕ, ◌+◌, ◌-◌, ◌<◌, ◌≡◌, List, [], Option, Some, None, refl, subst, sym, ap, ◌∙◌, length, arith, true}
use Rattle.std.specs.Prelude.{slice_get, IsSome}
use Rattle.int_core.specs.Value.{Value, known, nth, range}
use Rattle.code_core.specs.Prototype.{Prototype}
use Rattle.code_core.specs.Check.{Mark, fixed, open_from, mark}
use Rattle.machine_core.specs.World.{Cell, Activation}
use Rattle.machine_core.specs.Text.{behind, constant, is_there, list_end, list_values, last_pending, Own, read_register, read_registers, read_list, read_constant, read_varargs, write_register, write_registers, write_list, write_nils, mark_pending, see_pending, reads, tells, fits}
use Rattle.machine_sound.specs.Sound.{Each, Sizes, Valid, Top}
use Rattle.machine_sound.specs.Safe.{end_by, end_of, list_length, OwnReady, OwnEvent, own_values, own_told}
use Rattle.machine_sound.proofs.Lists.{get_there, each_none, each_one}
use Rattle.machine_sound.proofs.Values.{lt_true, le_true, nth_ok, each_range, each_list, length_range}
use Rattle.machine_sound.proofs.Own.{OwnIs}

pub record IsRead (z : Sizes) (p : Prototype) (env : List Value) (t : Top) (own : Activation) (m : Own) : Type 0 where
  pub event : OwnEvent t m
  pub values : own_values t m event ≡ reads m p env own
  pub told : own_told t env m event ≡ tells m p env own
  pub valid : Each (Valid z) (own_values t m event)
  pub fits_so : fits m p own ≡ true

end_same : (m : Mark) (n : ℕ) → end_by m n ≡ elim m [ fixed ↦ None | open_from r ↦ Some (r + n) ]
end_same fixed n = refl
end_same (open_from r) n = refl

list_count : (from : ℕ) (vs : List Value) (end : Option ℕ) → length (list_values from vs end) ≡ list_length from end
list_count from vs None = refl
list_count from vs (Some end) = length_range from (end - from) vs

there_of : {A : Type 0} (o : Option A) → IsSome o → is_there o ≡ true
there_of None h = absurd (cc)
there_of (Some a) h = refl

module _ (z : Sizes) (old : List Cell) (p : Prototype) (co k : ℕ) (env : List Value) (constants : Each (λ c. Valid z (known (constant c))) p.own.constants) where
  end_is : (t : Top) (own : Activation) (cells : List Cell) → OwnIs z old p co k t own cells → list_end p own ≡ end_of t
  end_is t own cells h = sym (end_same (mark p own.pc) own.opened) ∙ ap (λ c. end_by (mark c own.pc) own.opened) (sym h.code) ∙ ap (λ n. end_by (mark t.code n) own.opened) h.pc ∙ ap (end_by (mark t.code t.pc)) h.opened

  nothing : (t : Top) (own : Activation) (cells : List Cell) → OwnIs z old p co k t own cells → Each (Valid z) []
  nothing t own cells h = each_none (Valid z)

  pub own_read : (m : Own) (t : Top) (own : Activation) (cells : List Cell) → OwnReady t m → OwnIs z old p co k t own cells → IsRead z p env t own m
  own_read (read_register r) t own cells c h =
      record { event = nth own.registers r; values = refl; told = refl; valid = each_one (Valid z) (nth own.registers r) (nth_ok (Valid z) tt own.registers r h.registers); fits_so = lt_true r (length own.registers) (let s = h.size in omega arith) }
  own_read (read_registers from count) t own cells c h =
      record { event = range from count own.registers; values = refl; told = refl; valid = each_range (Valid z) tt from count own.registers h.registers; fits_so = le_true (behind from count) (length own.registers) (let s = h.size in omega arith) }
  own_read (read_list from) t own cells c h =
      let e = end_is t own cells h in
      record {
        event = record { values = list_values from own.registers (list_end p own); count = list_count from own.registers (list_end p own) ∙ ap (list_length from) e };
        values = refl;
        told = refl;
        valid = each_list (Valid z) tt from own.registers (list_end p own) h.registers;
        fits_so = there_of (list_end p own) (subst (λ o. IsSome o) (sym e) c);
      }
  own_read (read_constant n) t own cells c h =
      let b : n < length p.own.constants = (let q = ap (λ (p : Prototype). length p.own.constants) h.code in omega arith) in
      let v = get_there p.own.constants n b in
      let there : slice_get t.code.own.constants n ≡ Some v.0 = ap (λ (p : Prototype). slice_get p.own.constants n) h.code ∙ v.1 in
      record {
        event = record { found = v.0; there = there };
        values = rw (v.1, reads) refl;
        told = rw (v.1, tells) refl;
        valid = each_one (Valid z) (known (constant v.0)) (constants n v.0 v.1);
        fits_so = lt_true n (length p.own.constants) b;
      }
  own_read read_varargs t own cells c h = record { event = own.varargs; values = refl; told = refl; valid = h.varargs; fits_so = refl }
  own_read (see_pending r) t own cells c h = from (last_pending r own.pending) refl
    where
      from : (o : Option ℕ) → last_pending r own.pending ≡ o → IsRead z p env t own (see_pending r)
      from None e = record { event = None; values = rw e refl; told = rw e refl; valid = each_none (Valid z); fits_so = refl }
      from (Some q) e = record { event = Some (nth own.registers q); values = rw e refl; told = rw e refl; valid = each_one (Valid z) (nth own.registers q) (nth_ok (Valid z) tt own.registers q h.registers); fits_so = refl }
  own_read (write_register r x) t own cells c h = record { event = tt; values = refl; told = refl; valid = each_none (Valid z); fits_so = lt_true r (length own.registers) (let s = h.size in let d = c.0 in omega arith) }
  own_read (write_registers at count slot) t own cells c h = record { event = tt; values = refl; told = refl; valid = each_none (Valid z); fits_so = le_true (behind at count) (length own.registers) (let s = h.size in omega arith) }
  own_read (write_list at slot) t own cells c h = record { event = tt; values = refl; told = refl; valid = each_none (Valid z); fits_so = lt_true at (length own.registers) (let s = h.size in omega arith) }
  own_read (write_nils at count) t own cells c h = record { event = tt; values = refl; told = refl; valid = each_none (Valid z); fits_so = le_true (at + count) (length own.registers) (let s = h.size in omega arith) }
  own_read (mark_pending r) t own cells c h = record { event = tt; values = refl; told = refl; valid = each_none (Valid z); fits_so = lt_true r (length own.registers) (let s = h.size in let d = c.0 in omega arith) }
  own_read _ t own cells c h = record { event = tt; values = refl; told = refl; valid = each_none (Valid z); fits_so = refl }

-- Moves of a text whose frame stays on top: on its activation, on cells, and outside.
use Rattle.std.proofs.Common.{ℕ, zero, suc, ◌≡◌, List, [], ◌∷◌, ◌++◌, Option, Some, None, refl, subst, sym, ap, ◌∙◌, length, drop, Bool, true, false, cond}
use Rattle.std.specs.Prelude.{slice_get, slice_set, nat_lt}
use Rattle.int_core.specs.Value.{a_table, a_function, Value, object, bind}
use Rattle.int_core.specs.Heap.{Table, Heap, add_table, filled, filled_table}
use Rattle.int_core.specs.Operations.{Operation, Settled, found, ask, fault, cannot_arise, does}
use Rattle.code_core.specs.Prototype.{list_of}
use Rattle.machine_core.specs.World.{Cell, World, Place, place_of, read_cell, write_cell, find_open}
use Rattle.machine_core.specs.Text.{Own, fits, Quick, read_upvalue, write_upvalue, make_table, make_function, fill_table, pay, arg, args_of}
use Rattle.machine_core.specs.Moves.{on_own, open_register, outside, settle, Made, made, own_cell, captured, do_outside, settled, with_own, move}
use Rattle.machine_sound.specs.Sound.{Each}
use Rattle.machine_sound.proofs.Lists.{each_none, each_cons, each_one, each_drop, bind_some, get_push_old, some_is}
use Rattle.machine_sound.proofs.TableRows.{filled_has}
use Rattle.prelude_stays.specs.Guards.{Guard, OwnReads, QuickReads}
use Rattle.prelude_stays.specs.Kept.{Home, Apart, CellOk, HeapOk, Keeps}
use Rattle.prelude_stays.proofs.Heaps.{SettledOk, put_table}
use Rattle.prelude_stays.proofs.Looks.{new_table_ok, new_apart}
use Rattle.prelude_stays.proofs.Own.{arg_apart, reads_ok}
use Rattle.prelude_stays.proofs.Worlds.{TopIs, top_function, OnPlace, place_there, place_top, top_ok, function_there, heap_keeps, fuel_keeps}
use Rattle.prelude_stays.proofs.Frames.{own_ok, own_keeps, own_top}
use Rattle.prelude_stays.proofs.Outside.{MadeOn, on_bind, read_apart, write_keeps, open_keeps}
use Rattle.prelude_stays.proofs.Growing.{made_guard, function_keeps}

pub on_cond : {B : Type 0} (y : Home) (g : Guard) (b : Bool) (p q : Option (Made B)) → MadeOn y g p → MadeOn y g q → MadeOn y g (cond b p q)
on_cond y g true p q h k = h
on_cond y g false p q h k = k

-- the same frame is on top
pub top_same : (gs : List Guard) (g : Guard) (W V : World) → top_function V ≡ top_function W → TopIs gs g W → TopIs gs g V
top_same gs g W V e t f h = t f (sym e ∙ h)

pub top_own : (gs : List Guard) (g : Guard) (W V : World) (p : Place) → OnPlace W p → top_function V ≡ Some p.top.function → TopIs gs g W → TopIs gs g V
top_own gs g W V p o e t = top_same gs g W V (e ∙ sym (place_top W p o)) t

module _ (y : Home) (gs : List Guard) (W : World) (k : Keeps y gs W) (g : Guard) (t : TopIs gs g W) where
  abbrev none : Each (Apart y.table) []
  none = each_none (Apart y.table)

  guard_of : (p : Place) → OnPlace W p → slice_get gs p.top.function ≡ Some g
  guard_of p o = t p.top.function (place_top W p o)

  pub own_goes : (m : Own) (env : List Value) → OwnReads g m → Each (Apart y.table) env → MadeOn y g (move (on_own m) env W)
  own_goes m env r v =
      on_bind y g (place_of W) _ (λ p e.
      let o = place_there W p e in
      let q = guard_of p o in
      let l = top_ok y gs W k p o in
      on_cond y g (fits m p.function.code p.top.own) _ _ (
        gs,
        own_keeps y gs W k p o g q p.top.wait (m ∷ []) env l.wait (r, tt) v,
        reads_ok y.table g p.function.code env v m p.top.own r (own_ok y gs W k p o g q),
        top_own gs g W (with_own W p p.top.wait (m ∷ []) env) p o (own_top y gs W k p o p.top.wait (m ∷ []) env) t,
      ) tt)

  pub open_goes : (r : ℕ) (env : List Value) → MadeOn y g (move (open_register r) env W)
  open_goes r env =
      on_bind y g (place_of W) _ (λ p e.
      on_cond y g (nat_lt r (length p.top.own.registers)) _ _ (gs, open_keeps y gs W k (find_open p.stack.coroutine p.number r W.cells) p.stack.coroutine p.number r, none, t) tt)

  -- the cell of an upvalue
  cell_of : (p : Place) (u : ℕ) (c : ℕ × Cell) → own_cell W p u ≡ Some c → (slice_get p.function.cells u ≡ Some c.0) × (slice_get W.cells c.0 ≡ Some c.1)
  cell_of p u c h =
      let a = bind_some (λ n. bind (slice_get W.cells n) (λ cell. Some (n, cell))) (slice_get p.function.cells u) c h in
      let b = bind_some (λ cell. Some (a.0, cell)) (slice_get W.cells a.0) c a.2 in
      from a.0 b.0 a.1 b.1 b.2
    where
      from : (n : ℕ) (cell : Cell) → slice_get p.function.cells u ≡ Some n → slice_get W.cells n ≡ Some cell → Some (n, cell) ≡ Some c → (slice_get p.function.cells u ≡ Some c.0) × (slice_get W.cells c.0 ≡ Some c.1)
      from n cell a b e = subst (λ (c : ℕ × Cell). (slice_get p.function.cells u ≡ Some c.0) × (slice_get W.cells c.0 ≡ Some c.1)) (some_is refl e) (a, b)

  cell_ok : (p : Place) → OnPlace W p → (u : ℕ) (c : ℕ × Cell) → g.upvalues u ≡ false → own_cell W p u ≡ Some c → (slice_get W.cells c.0 ≡ Some c.1) × CellOk y.table gs W.coroutines c.1
  cell_ok p o u c h e =
      let z = cell_of p u c e in
      let f = function_there y gs W k p o in
      let x = f.cells u c.0 z.0 (ap (λ (g : Guard). g.upvalues u) (some_is f.there (guard_of p o)) ∙ h) in
      (z.1, subst (CellOk y.table gs W.coroutines) (some_is x.there z.1) x.right)

  fill_ok : (v : Value) (last : ℕ) (vs : List Value) (H : Heap) → Apart y.table v → Each (Apart y.table) vs → filled_table W.heap v last vs ≡ Some H → HeapOk y H
  fill_ok (object a_table n) last vs H a b e = by (slice_get W.heap.tables n) refl e
    where
      by : (o : Option Table) → slice_get W.heap.tables n ≡ o → bind o (λ u. Some (record W.heap { tables = slice_set W.heap.tables n (record u { rows = filled last vs u.rows }) })) ≡ Some H → HeapOk y H
      by None q e = absurd (cc)
      by (Some u) q e =
          subst (HeapOk y) (some_is refl e)
          (put_table y W.heap k.heap n u (record u { rows = filled last vs u.rows }) a (record { rows = filled_has (Apart y.table) (λ n. tt) last vs u.rows b (k.heap.tables n u q).rows; metatable = (k.heap.tables n u q).metatable }))
  fill_ok _ last vs H a b e = absurd (cc)

  outside_goes : (q : Quick) (env : List Value) → QuickReads g q → Each (Apart y.table) env → (p : Place) → OnPlace W p → MadeOn y g (do_outside q env W p)
  outside_goes (read_upvalue u) env r v p o =
      on_bind y g (own_cell W p u) _ (λ c e. on_bind y g (read_cell W c.1) _ (λ x q. (gs, k, each_one (Apart y.table) x (read_apart y gs W k c.1 x (cell_ok p o u c r e).1 q), t)))
  outside_goes (write_upvalue u x) env r v p o =
      on_bind y g (own_cell W p u) _ (λ c e. on_bind y g (read_cell W c.1) _ (λ _ _.
      let z = cell_ok p o u c r e in
      let w = write_keeps y gs W k c.0 c.1 (arg env x) z.0 z.1 (arg_apart y.table env x v) in
      (gs, w.0, none, top_same gs g W (write_cell W c.0 c.1 (arg env x)) w.1 t)))
  outside_goes make_table env r v p o = (gs, heap_keeps y gs W (add_table W.heap) k (new_table_ok y W.heap k.heap), each_one (Apart y.table) (object a_table (length W.heap.tables)) (new_apart y W.heap k.heap), t)
  outside_goes (make_function n) env r v p o =
      on_bind y g (slice_get (list_of p.function.code.inner) n) _ (λ q e. on_bind y g (captured q.own.upvalues p.stack.coroutine p.number p.function.cells W.cells) _ (λ ids h.
      let h' = made_guard y gs W k p o g (guard_of p o) n q e ids h in
      (gs ++ h' ∷ [], function_keeps y gs W k p o g (guard_of p o) n q e ids h, each_one (Apart y.table) (object a_function (length W.functions)) tt, λ f x. get_push_old gs (h' ∷ []) f g (t f x))))
  outside_goes (fill_table x last slot) env r v p o =
      on_bind y g (filled_table W.heap (arg env x) last (drop slot env)) _ (λ H e.
      (gs, heap_keeps y gs W H k (fill_ok (arg env x) last (drop slot env) H (arg_apart y.table env x v) (each_drop (Apart y.table) slot env v) e), none, t))
  outside_goes pay env r v p o = by W.fuel
    where
      by : (n : ℕ) → MadeOn y g (elim n as (λ _. Option (Made Bool)) [ zero ↦ made W [] false | suc fuel ↦ made (record W { fuel = fuel }) [] true ])
      by zero = (gs, k, none, t)
      by (suc fuel) = (gs, fuel_keeps y gs W fuel k, none, t)

  pub quick_goes : (q : Quick) (env : List Value) → QuickReads g q → Each (Apart y.table) env → MadeOn y g (move (outside q) env W)
  quick_goes q env r v = on_bind y g (place_of W) _ (λ p e. outside_goes q env r v p (place_there W p e))

  -- what an operation came to
  settled_goes : (p : Place) (s : Settled) → SettledOk y W.heap k.heap s → MadeOn y g (settled W p s)
  settled_goes p (found H vs) h = (gs, heap_keeps y gs W H k h.0, h.1, t)
  settled_goes p (ask f vs) h = (gs, k, each_cons (Apart y.table) f vs h.0 h.1, t)
  settled_goes p (fault text) h = (gs, k, none, t)
  settled_goes p cannot_arise h = tt

  pub settle_goes : (op : Operation) (xs : List _) (env : List Value) → SettledOk y W.heap k.heap (does op (args_of env xs) W.heap) → MadeOn y g (move (settle op xs) env W)
  settle_goes op xs env h = on_bind y g (place_of W) _ (λ p e. settled_goes p (does op (args_of env xs) W.heap) h)

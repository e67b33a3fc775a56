-- Worlds after moves on frames: the top with another activation, a frame pushed or gone, and calls.
use Rattle.std.proofs.Common.{ℕ, zero, suc, ◌≡◌, ⊎_elim, List, [], ◌∷◌, ◌++◌, Option, Some, None, refl, subst, sym, ap, ◌∙◌, length, take, drop, arith, Bool, true, false, cond}
use Rattle.std.specs.Prelude.{slice_get, slice_set, nat_eq, nat_lt}
use Rattle.std.proofs.lemmas.Bool.{cases_eq}
use Rattle.std.proofs.lemmas.Bool.Decides.{nat_tests}
use Rattle.int_core.specs.Value.{primitive, a_table, a_function, Value, known, object, bind, last, without_last, fitted}
use Rattle.int_core.specs.Operations.{Callee, callee, not_callable, callee_of, greatest_chain}
use Rattle.machine_core.specs.World.{Function, Cell, closed, Wait, LuaFrame, Frame, lua, Coroutine, in_progress, World, Stack, stack_of, frames_of, Place, put_frames, put_top, push, pop, close_from}
use Rattle.machine_core.specs.Text.{Own, done}
use Rattle.machine_core.specs.Moves.{made, not_paid, cells_done, with_own, new_frame, push_all, has_room, enters, enters_paid, called, popped, called_tail}
use Rattle.machine_sound.specs.Sound.{Each}
use Rattle.machine_sound.proofs.Lists.{each_none, each_push, each_take, each_drop, get_set_same, get_set_other, some_is, last_splits}
use Rattle.machine_sound.proofs.Values.{nth_ok, each_fitted}
use Rattle.prelude_stays.specs.Guards.{Guard, AllRead}
use Rattle.prelude_stays.specs.Kept.{Home, Apart, WaitOk, LuaOk, FrameOk, function_at, Keeps}
use Rattle.prelude_stays.proofs.Heaps.{CalleeOk, callee_ok}
use Rattle.prelude_stays.proofs.Cells.{in_frames, function_of, Carries, FramesStay, Stay, in_base, in_push, top_stays, base_stays, set_stays, stay_carries, close_get, close_carries, is_closed_by}
use Rattle.prelude_stays.proofs.Own.{OwnOk, done_ok, done_carries, closed_done}
use Rattle.prelude_stays.proofs.Worlds.{MadeKeeps, made_bind, made_cond, top_function, OnStack, stack_there, OnPlace, top_at, top_ok, base_ok, frames_ok, stands_at, stack_keeps, set_keeps, moving_keeps, fuel_keeps}

module _ (y : Home) (gs : List Guard) (W : World) (k : Keeps y gs W) (p : Place) (o : OnPlace W p) where
  abbrev base : List Frame
  base = without_last p.stack.frames

  module _ (g : Guard) (t : slice_get gs p.top.function ≡ Some g) where
    pub own_ok : OwnOk y.table g p.top.own
    own_ok =
        let l = top_ok y gs W k p o in
        subst (λ g. OwnOk y.table g p.top.own) (some_is l.there t) (record { registers = l.registers; varargs = l.varargs; pending = l.pending })

    -- another frame of the same function on top, and other cells
    pub top_keeps : (f : LuaFrame) → f.function ≡ p.top.function → OwnOk y.table g f.own → WaitOk y.table f.wait → (cells : List Cell) → Carries y.table gs W.coroutines W.cells W.coroutines cells
        → slice_get cells y.cell ≡ Some (closed (object a_table y.table)) → Keeps y gs (record W { cells = cells; coroutines = slice_set W.coroutines p.stack.coroutine (in_progress (without_last p.stack.frames ++ lua f ∷ [])) })
    top_keeps f e a w cells c z =
        stack_keeps y gs W k p.stack (base ++ lua f ∷ []) cells o.stack (each_push (FrameOk y.table gs) base (lua f) (base_ok y gs W k p.stack (lua p.top) o.stack o.splits) right)
        (λ n h. stay_carries y.table gs W.coroutines (slice_set W.coroutines p.stack.coroutine (in_progress (base ++ lua f ∷ []))) cells stays n (c n h)) z
      where
        right : LuaOk y.table gs f
        right = record { guard = g; there = ap (slice_get gs) e ∙ t; registers = a.registers; varargs = a.varargs; pending = a.pending; wait = w }

        stays : Stay W.coroutines (slice_set W.coroutines p.stack.coroutine (in_progress (base ++ lua f ∷ [])))
        stays = set_stays W.coroutines p.stack.coroutine (in_progress p.stack.frames) (in_progress (base ++ lua f ∷ [])) o.stack.there
            (subst (λ fs. FramesStay (Some fs) (Some (base ++ lua f ∷ []))) (sym o.splits) (top_stays base (lua p.top) (lua f) (λ j q. ap Some e ∙ q)))

    pub own_keeps : (w : Wait Value) (ms : List Own) (env : List Value) → WaitOk y.table w → AllRead g ms → Each (Apart y.table) env → Keeps y gs (with_own W p w ms env)
    unfolding with_own put_top put_frames
    own_keeps w ms env a r v =
        top_keeps (record p.top { wait = w; own = done ms p.function.code env p.top.own }) refl (done_ok y.table g p.function.code env v ms p.top.own r own_ok) a
        (cells_done ms p.function.code p.stack.coroutine p.number env p.top.own W.cells)
        (done_carries y.table g p.function.code env v gs W.coroutines p.stack.coroutine p.number p.top.function (stands_at y gs W k p o) t ms p.top.own W.cells r own_ok)
        (closed_done ms p.function.code p.stack.coroutine p.number env p.top.own W.cells y.cell (object a_table y.table) k.cell)

  pub own_top : (w : Wait Value) (ms : List Own) (env : List Value) → top_function (with_own W p w ms env) ≡ Some p.top.function
  unfolding with_own put_top put_frames
  own_top w ms env =
      let f : LuaFrame = record p.top { wait = w; own = done ms p.function.code env p.top.own } in
      top_at (with_own W p w ms env) p.stack.coroutine base (lua f) o.stack.chain (get_set_same W.coroutines p.stack.coroutine (in_progress p.stack.frames) (in_progress (base ++ lua f ∷ [])) o.stack.there)

  -- the frame is gone, and its cells are closed
  pub popped_keeps : Keeps y gs (popped W p)
  unfolding popped pop put_frames
  popped_keeps =
      let l = top_ok y gs W k p o in
      stack_keeps y gs W k p.stack base (close_from p.stack.coroutine p.number 0 p.top.own.registers W.cells) o.stack (base_ok y gs W k p.stack (lua p.top) o.stack o.splits)
      (close_carries y.table gs W.coroutines new p.stack.coroutine p.number 0 p.top.own.registers l.guard p.top.function (stands_at y gs W k p o) l.there l.registers others W.cells)
      (close_get p.stack.coroutine p.number 0 p.top.own.registers W.cells y.cell (closed (object a_table y.table)) k.cell)
    where
      new : List Coroutine
      new = slice_set W.coroutines p.stack.coroutine (in_progress base)

      others : (d m q j : ℕ) → is_closed_by p.stack.coroutine p.number 0 d m q ≡ false → function_at W.coroutines d m ≡ Some j → function_at new d m ≡ Some j
      others d m q j z h = ⊎_elim here (λ x. ap (λ o. in_frames (bind o frames_of) m) (get_set_other W.coroutines p.stack.coroutine d (in_progress base) (λ e. x (sym e))) ∙ h) (cases_eq d p.stack.coroutine)
        where
          here : d ≡ p.stack.coroutine → function_at new d m ≡ Some j
          here x =
              let a : in_frames (Some (base ++ lua p.top ∷ [])) m ≡ Some j = sym (ap (λ o. in_frames (bind o frames_of) m) (o.stack.there ∙ ap (λ fs. Some (in_progress fs)) o.splits)) ∙ ap (λ d. function_at W.coroutines d m) (sym x) ∙ h in
              let b : function_at new d m ≡ in_frames (Some base) m = ap (λ d. function_at new d m) x ∙ ap (λ o. in_frames (bind o frames_of) m) (get_set_same W.coroutines p.stack.coroutine (in_progress p.stack.frames) (in_progress base) o.stack.there) in
              b ∙ ⊎_elim (λ q. q) top (in_base base (lua p.top) m j a)
            where
              top : (m ≡ length base) × (function_of (lua p.top) ≡ Some j) → in_frames (Some base) m ≡ Some j
              top e =
                  let u : nat_eq p.stack.coroutine d ≡ true = (let s = sym x in grind (arith, nat_tests)) in
                  let w : nat_eq p.number m ≡ true = (let s = o.number ∙ sym e.0 in grind (arith, nat_tests)) in
                  let c : nat_lt q 0 ≡ false = grind (arith, nat_tests) in
                  let f : is_closed_by p.stack.coroutine p.number 0 d m q ≡ true = rw (u, w, c) refl in
                  absurd (let g = sym f ∙ z in cc)

-- frames pushed and popped

module _ (y : Home) (gs : List Guard) (W : World) (k : Keeps y gs W) where
  pub push_keeps : (s : Stack) (x : Frame) → OnStack W s → FrameOk y.table gs x → Keeps y gs (push W s x)
  unfolding push put_frames
  push_keeps s x o a =
      set_keeps y gs W k s.coroutine (in_progress s.frames) (in_progress (s.frames ++ x ∷ [])) o.there (λ n j h. in_push s.frames (x ∷ []) n j h)
      (each_push (FrameOk y.table gs) s.frames x (frames_ok y gs W k s o) a)

  pub all_keeps : (x : Frame) → FrameOk y.table gs x → Keeps y gs (push_all W (x ∷ []))
  all_keeps x a = by (stack_of W) refl
    where
      by : (o : Option Stack) → stack_of W ≡ o → Keeps y gs (elim o [ None ↦ W | Some s ↦ push W s x ])
      by None e = k
      by (Some s) e = push_keeps s x (stack_there W s e) a

  -- another frame that is no Lua frame in place of one
  pub other_top : (s : Stack) (x z : Frame) → OnStack W s → last s.frames ≡ Some x → function_of x ≡ None → FrameOk y.table gs z → Keeps y gs (put_top W s z)
  unfolding put_top put_frames
  other_top s x z o l n a =
      let e = last_splits s.frames x l in
      set_keeps y gs W k s.coroutine (in_progress s.frames) (in_progress (without_last s.frames ++ z ∷ [])) o.there
      (subst (λ fs. FramesStay (Some fs) (Some (without_last s.frames ++ z ∷ []))) (sym e) (top_stays (without_last s.frames) x z (λ f q. absurd (let b = sym n ∙ q in cc))))
      (each_push (FrameOk y.table gs) (without_last s.frames) z (base_ok y gs W k s x o e) a)

  -- a frame that is no Lua frame is gone
  pub pop_keeps : (s : Stack) → OnStack W s → top_function W ≡ None → Keeps y gs (pop W s)
  unfolding pop put_frames
  pop_keeps s o t = by (last s.frames) refl
    where
      by : (l : Option Frame) → last s.frames ≡ l → Keeps y gs (record W { coroutines = slice_set W.coroutines s.coroutine (in_progress (without_last s.frames)) })
      by None e = set_keeps y gs W k s.coroutine (in_progress s.frames) (in_progress (without_last s.frames)) o.there (none_last s.frames e) (none_each s.frames e)
        where
          none_last : (fs : List Frame) → last fs ≡ None → FramesStay (Some fs) (Some (without_last fs))
          none_last [] e n j h = absurd (cc)
          none_last (f ∷ fs) e n j h = absurd (let a = some_last f fs in let b = sym a.1 ∙ e in cc)
            where
              some_last : (f : Frame) (fs : List Frame) → (x : Frame) × (last (f ∷ fs) ≡ Some x)
              some_last f [] = (f, refl)
              some_last f (g ∷ fs) = some_last g fs

          none_each : (fs : List Frame) → last fs ≡ None → Each (FrameOk y.table gs) (without_last fs)
          none_each [] e = each_none (FrameOk y.table gs)
          none_each (f ∷ fs) e = absurd (let a = some_last f fs in let b = sym a.1 ∙ e in cc)
            where
              some_last : (f : Frame) (fs : List Frame) → (x : Frame) × (last (f ∷ fs) ≡ Some x)
              some_last f [] = (f, refl)
              some_last f (g ∷ fs) = some_last g fs
      by (Some x) e =
          let q = last_splits s.frames x e in
          let n : function_of x ≡ None = sym (top_at W s.coroutine (without_last s.frames) x o.chain (o.there ∙ ap (λ fs. Some (in_progress fs)) q)) ∙ t in
          set_keeps y gs W k s.coroutine (in_progress s.frames) (in_progress (without_last s.frames)) o.there
          (subst (λ fs. FramesStay (Some fs) (Some (without_last s.frames))) (sym q) (base_stays (without_last s.frames) x n)) (base_ok y gs W k s x o q)

  -- calls

  pub new_ok : (n : ℕ) (f : Function) (vs : List Value) → slice_get W.functions n ≡ Some f → Each (Apart y.table) vs → FrameOk y.table gs (new_frame n f.code vs)
  new_ok n f vs e v =
      let h = k.functions n f e in record {
        guard = h.guard;
        there = h.there;
        registers = λ r q. nth_ok (Apart y.table) tt (fitted f.code.own.stack (take f.code.own.params vs)) r (each_fitted (Apart y.table) tt f.code.own.stack (take f.code.own.params vs) (each_take (Apart y.table) f.code.own.params vs v));
        varargs = by f.code.own.vararg;
        pending = each_none (λ r. h.guard.registers r ≡ false);
        wait = tt;
      }
    where
      by : (b : Bool) → Each (Apart y.table) (cond b (drop f.code.own.params vs) [])
      by true = each_drop (Apart y.table) f.code.own.params vs v
      by false = each_none (Apart y.table)

  pub enters_keeps : (f : Value) (vs : List Value) → Each (Apart y.table) vs → MadeKeeps y (enters W f vs)
  enters_keeps (known (primitive n)) vs v = (gs, moving_keeps y gs W vs k v, each_none (Apart y.table))
  enters_keeps (object a_function n) vs v =
      made_bind y (slice_get W.functions n) _ (λ f e. made_cond y (has_room W 1) _ _ (gs, all_keeps (new_frame n f.code vs) (new_ok n f vs e v), each_none (Apart y.table)) (gs, k, each_none (Apart y.table)))
  enters_keeps _ vs v = tt

module _ (y : Home) (gs : List Guard) (W : World) (k : Keeps y gs W) where
  paid_keeps : (P : World) → Keeps y gs P → (c : Callee) → CalleeOk y W.heap k.heap c → MadeKeeps y (enters_paid W P c)
  paid_keeps P h (not_callable text) a = (gs, h, each_none (Apart y.table))
  paid_keeps P h (callee f vs) a = by W.fuel
    where
      by : (n : ℕ) → MadeKeeps y (elim n [ zero ↦ made W [] not_paid | suc fuel ↦ enters (record P { fuel = fuel }) f vs ])
      by zero = (gs, k, each_none (Apart y.table))
      by (suc fuel) = enters_keeps y gs (record P { fuel = fuel }) (fuel_keeps y gs P fuel h) f vs a.2

  pub called_keeps : (P : World) → Keeps y gs P → (f : Value) (vs : List Value) → Apart y.table f → Each (Apart y.table) vs → MadeKeeps y (called W P f vs)
  called_keeps P h f vs a v = paid_keeps P h (callee_of greatest_chain W.heap f vs) (callee_ok y W.heap k.heap greatest_chain f vs a v)

  pub tail_keeps : (p : Place) → OnPlace W p → (f : Value) (vs : List Value) → Apart y.table f → Each (Apart y.table) vs → MadeKeeps y (called_tail W p (callee_of greatest_chain W.heap f vs))
  tail_keeps p o f vs a v = by (callee_of greatest_chain W.heap f vs) (callee_ok y W.heap k.heap greatest_chain f vs a v)
    where
      by : (c : Callee) → CalleeOk y W.heap k.heap c → MadeKeeps y (called_tail W p c)
      by (not_callable text) a = (gs, k, each_none (Apart y.table))
      by (callee f vs) a = paid W.fuel
        where
          paid : (n : ℕ) → MadeKeeps y (elim n [ zero ↦ made W [] not_paid | suc fuel ↦ enters (record (popped W p) { fuel = fuel }) f vs ])
          paid zero = (gs, k, each_none (Apart y.table))
          paid (suc fuel) = enters_keeps y gs (record (popped W p) { fuel = fuel }) (fuel_keeps y gs (popped W p) fuel (popped_keeps y gs W k p o)) f vs a.2

-- Tables stay tables in each move.
use Rattle.std.proofs.Common.{ℕ, zero, suc, Bool, true, false, cond, List, [], ◌∷◌, Option, Some, None, length}
use Rattle.std.specs.Prelude.{slice_get, slice_set, drop, flat_map, ◌&&◌, nat_lt, codes}
use Rattle.int_core.specs.Value.{primitive, a_function, Value, known, object, bind, last, without_last, error_or_nil}
use Rattle.int_core.specs.Heap.{Heap, filled_table}
use Rattle.int_core.specs.Limits.{greatest_resumes}
use Rattle.int_core.specs.Operations.{Settled, found, ask, fault, cannot_arise, does, Callee, callee, not_callable, callee_of, greatest_chain, is_function}
use Rattle.library_rows.specs.Look.{Done, done, refused as was_refused, raised as was_raised, looked}
use Rattle.code_core.specs.Prototype.{Prototype, list_of}
use Rattle.code_core.specs.Check.{at}
use Rattle.machine_core.specs.World.{Cell, closed, open_at, Wait, leaving, Frame, lua, pcall, xpcall, handler, closing, Coroutine, fresh, suspended, in_progress, normal, dead, failed, World, Stack, stack_of, Place, place_of, put_frames, put_top, push, pop, read_cell, write_cell, write_in_coroutine}
use Rattle.machine_core.specs.Text.{arg, args_of, Own, close_cells, keep_pending, Quick, read_upvalue, write_upvalue, make_table, make_function, fill_table, pay, given_values, fits}
use Rattle.machine_core.specs.Moves.{frame_over, Move, on_own, move_pc, open_register, outside, settle, enter, enter_tail, await, begin_leaving, leave_frame, push_frame, call_value, see_top, see_catcher, pop_frame, take_closing, set_error, end_coroutine, fail_coroutine, suspend, resume, begin_closing, consult, create, see_status, see_running, print, make_loaded, Made, made, CallShape, not_paid, one_left, resumed, refused, runs_main, bytes_in, named, blamed, with_own, place_from, captured, own_cell, do_outside, new_frame, push_all, has_room, enters, enters_paid, called, popped, called_tail, top_now, next_closing, with_error, pending_values, put_coroutine, awake, back_to_resumer, bury, ends_as, suspend_running, wait_for_another, go_into, starts_in, can_start, resumes, closes_in, closes_coroutine, coroutine_number, add_coroutine, add_printed, add_loaded, environment_in, consulted, settled, move}
use Rattle.tables_stay.specs.Laws.{AreTables, TablesWhenDone, MayMove}
use Rattle.tables_stay.proofs.Heaps.{TablesIfSome, SettledKeeps, new_kept, filled_kept, does_kept}

-- what a move leaves, where it does not trap
abbrev pub TablesIfMade : {A : Type 0} → Option (Made A) → Type 0
TablesIfMade None = Unit {0}
TablesIfMade (Some d) = AreTables d.world.heap

-- what hangs on a case

kept_bind : {A B : Type 0} (o : Option A) (f : A → Option (Made B)) → ((a : A) → TablesIfMade (f a)) → TablesIfMade (bind o f)
kept_bind None f h = tt
kept_bind (Some a) f h = h a

kept_cond : {B : Type 0} (b : Bool) (x y : Option (Made B)) → TablesIfMade x → TablesIfMade y → TablesIfMade (cond b x y)
kept_cond true x y h k = h
kept_cond false x y h k = k

-- frames

top_kept : (W : World) (s : Stack) (f : Frame) → AreTables W.heap → AreTables (put_top W s f).heap
unfolding put_top put_frames
top_kept W s f h = h

push_kept : (W : World) (s : Stack) (f : Frame) → AreTables W.heap → AreTables (push W s f).heap
unfolding push put_frames
push_kept W s f h = h

pop_kept : (W : World) (s : Stack) → AreTables W.heap → AreTables (pop W s).heap
unfolding pop put_frames
pop_kept W s h = h

own_kept : (W : World) (p : Place) (w : Wait Value) (ms : List Own) (env : List Value) → AreTables W.heap → AreTables (with_own W p w ms env).heap
unfolding with_own put_top put_frames
own_kept W p w ms env h = h

popped_kept : (W : World) (p : Place) → AreTables W.heap → AreTables (popped W p).heap
unfolding popped pop put_frames
popped_kept W p h = h

all_kept : (fs : List Frame) (W : World) → AreTables W.heap → AreTables (push_all W fs).heap
all_kept [] W h = h
all_kept (f ∷ fs) W h = by (stack_of W) (λ s. all_kept fs (push W s f) (push_kept W s f h))
  where
    by : (o : Option Stack) → ((s : Stack) → AreTables (push_all (push W s f) fs).heap) → AreTables (elim o as (λ _. World) [ None ↦ W | Some s ↦ push_all (push W s f) fs ]).heap
    by None k = h
    by (Some s) k = k s

-- calls

enters_kept : (W : World) (v : Value) (vs : List Value) → AreTables W.heap → TablesIfMade (enters W v vs)
enters_kept W (known (primitive n)) vs h = h
enters_kept W (object a_function n) vs h = kept_bind (slice_get W.functions n) _ (λ f. kept_cond (has_room W 1) _ _ (all_kept (new_frame n f.code vs ∷ []) W h) h)
enters_kept W _ vs h = tt

paid_kept : (W P : World) (c : Callee) → AreTables W.heap → AreTables P.heap → TablesIfMade (enters_paid W P c)
paid_kept W P (not_callable text) h k = k
paid_kept W P (callee f vs) h k = by W.fuel
  where
    by : (n : ℕ) → TablesIfMade (elim n [ zero ↦ made W [] not_paid | suc fuel ↦ enters (record P { fuel = fuel }) f vs ])
    by zero = h
    by (suc fuel) = enters_kept (record P { fuel = fuel }) f vs k

called_kept : (W P : World) (v : Value) (vs : List Value) → AreTables W.heap → AreTables P.heap → TablesIfMade (called W P v vs)
called_kept W P v vs h k = paid_kept W P (callee_of greatest_chain W.heap v vs) h k

tail_kept : (W : World) (p : Place) (c : Callee) → AreTables W.heap → TablesIfMade (called_tail W p c)
tail_kept W p (not_callable text) h = h
tail_kept W p (callee f vs) h = by W.fuel
  where
    by : (n : ℕ) → TablesIfMade (elim n [ zero ↦ made W [] not_paid | suc fuel ↦ enters (record (popped W p) { fuel = fuel }) f vs ])
    by zero = h
    by (suc fuel) = enters_kept (record (popped W p) { fuel = fuel }) f vs (popped_kept W p h)

-- cells, functions and tables

cell_kept : (W : World) (n : ℕ) (c : Cell) (v : Value) → AreTables W.heap → AreTables (write_cell W n c v).heap
unfolding write_cell
cell_kept W n (closed x) v h = h
cell_kept W n (open_at co frame register) v h = by (slice_get W.coroutines co)
  where
    by : (o : Option Coroutine) → AreTables (elim o as (λ _. World) [ None ↦ W | Some c ↦ record W { coroutines = slice_set W.coroutines co (write_in_coroutine frame register v c) } ]).heap
    by None = h
    by (Some c) = h

fill_kept : (W : World) (o : Option Heap) → TablesIfSome o → TablesIfMade (bind o (λ H. made (record W { heap = H }) [] true))
fill_kept W None k = tt
fill_kept W (Some H) k = k

outside_kept : (q : Quick) (env : List Value) (W : World) (p : Place) → AreTables W.heap → TablesIfMade (do_outside q env W p)
outside_kept (read_upvalue u) env W p h = kept_bind (own_cell W p u) _ (λ c. kept_bind (read_cell W c.1) _ (λ v. h))
outside_kept (write_upvalue u x) env W p h = kept_bind (own_cell W p u) _ (λ c. kept_bind (read_cell W c.1) _ (λ v. cell_kept W c.0 c.1 (arg env x) h))
outside_kept make_table env W p h = new_kept W.heap h
outside_kept (make_function n) env W p h =
    kept_bind (slice_get (list_of p.function.code.inner) n) _ (λ q. kept_bind (captured q.own.upvalues p.stack.coroutine p.number p.function.cells W.cells) _ (λ cells. h))
outside_kept (fill_table t n slot) env W p h = fill_kept W (filled_table W.heap (arg env t) n (drop slot env)) (filled_kept W.heap h (arg env t) n (drop slot env))
outside_kept pay env W p h = by W.fuel
  where
    by : (n : ℕ) → TablesIfMade (elim n [ zero ↦ made W [] false | suc fuel ↦ made (record W { fuel = fuel }) [] true ])
    by zero = h
    by (suc fuel) = h

-- closing frames

next_kept : (W : World) (s : Stack) (f : Frame) → AreTables W.heap → TablesIfMade (next_closing W s f)
next_kept W s (closing None []) h = h
next_kept W s (closing (Some e) []) h = h
next_kept W s (closing e (v ∷ left)) h = by (last (v ∷ left))
  where
    by : (o : Option Value) → TablesIfMade (elim o [
      | None ↦ None
      | Some x ↦ made (put_top W s (closing e (without_last (v ∷ left)))) (x ∷ error_or_nil e ∷ []) one_left
    ])
    by None = tt
    by (Some x) = top_kept W s (closing e (without_last (v ∷ left))) h
next_kept W s (lua f) h = tt
next_kept W s pcall h = tt
next_kept W s (xpcall v) h = tt
next_kept W s handler h = tt

error_kept : (W : World) (s : Stack) (f : Frame) (v : Value) → AreTables W.heap → TablesIfMade (with_error W s f v)
error_kept W s (closing e left) v h = top_kept W s (closing (Some v) left) h
error_kept W s _ v h = tt

-- coroutines

put_kept : (W : World) (co : ℕ) (c : Coroutine) → AreTables W.heap → AreTables (put_coroutine W co c).heap
unfolding put_coroutine
put_kept W co c h = h

back_kept : (W : World) → AreTables W.heap → AreTables (back_to_resumer W).heap
unfolding back_to_resumer
back_kept W h = by (last (without_last W.chain))
  where
    by : (o : Option ℕ)
        → AreTables (elim o as (λ _. World) [ None ↦ record W { chain = without_last W.chain } | Some co ↦ put_coroutine (record W { chain = without_last W.chain }) co (in_progress (awake (slice_get W.coroutines co))) ]).heap
    by None = h
    by (Some co) = put_kept (record W { chain = without_last W.chain }) co (in_progress (awake (slice_get W.coroutines co))) h

bury_kept : (W : World) (co : ℕ) (fs : List Frame) (c : Coroutine) → AreTables W.heap → AreTables (bury W co fs c).heap
unfolding bury put_coroutine
bury_kept W co fs c h = h

suspend_kept : (W : World) (s : Stack) → AreTables W.heap → AreTables (suspend_running W s).heap
unfolding suspend_running
suspend_kept W s h = back_kept (put_coroutine W s.coroutine (suspended s.frames)) (put_kept W s.coroutine (suspended s.frames) h)

wait_kept : (W : World) (s : Stack) → AreTables W.heap → AreTables (wait_for_another W s).heap
unfolding wait_for_another
wait_kept W s h = put_kept W s.coroutine (normal s.frames) h

into_kept : (W : World) (co : ℕ) (fs : List Frame) → AreTables W.heap → AreTables (go_into W co fs).heap
unfolding go_into put_coroutine
into_kept W co fs h = h

pub starts_kept : (W : World) (co : ℕ) (c : Coroutine) (vs : List Value) → AreTables W.heap → TablesIfMade (starts_in W co c vs)
starts_kept W co (fresh v) vs h = by (enters (go_into W co []) v vs) (enters_kept (go_into W co []) v vs (into_kept W co [] h))
  where
    by : (o : Option (Made CallShape)) → TablesIfMade o → TablesIfMade (bind o (λ d. made d.world [] (resumed d.told)))
    by None k = tt
    by (Some d) k = k
starts_kept W co (suspended fs) vs h = into_kept W co fs h
starts_kept W co _ vs h = h

resumes_kept : (W : World) (s : Stack) (co : ℕ) (c : Coroutine) (vs : List Value) → AreTables W.heap → TablesIfMade (resumes W s co c vs)
resumes_kept W s co c vs h =
    kept_cond (can_start c && nat_lt greatest_resumes (length W.chain)) (made W [] (refused (codes "too many nested resumes"))) (starts_in (cond (can_start c) (wait_for_another W s) W) co c vs) h
    (by (can_start c))
  where
    by : (b : Bool) → TablesIfMade (starts_in (cond b (wait_for_another W s) W) co c vs)
    by true = starts_kept (wait_for_another W s) co c vs (wait_kept W s h)
    by false = starts_kept W co c vs h

closes_kept : (W D : World) (s : Stack) (e : Option Value) (left : List Value) → AreTables W.heap → AreTables D.heap → TablesIfMade (closes_in W D s e left)
closes_kept W D s e left h k = kept_cond (has_room W 1) _ _ (push_kept D s (closing e left) k) h

closing_kept : (W : World) (s : Stack) (co : ℕ) (c : Coroutine) → AreTables W.heap → TablesIfMade (closes_coroutine W s co c)
closing_kept W s co (fresh v) h = closes_kept W (put_coroutine W co dead) s None [] h (put_kept W co dead h)
closing_kept W s co (suspended fs) h = closes_kept W (bury W co fs dead) s None (flat_map pending_values fs) h (bury_kept W co fs dead h)
closing_kept W s co (failed e vs) h = closes_kept W (put_coroutine W co dead) s (Some e) vs h (put_kept W co dead h)
closing_kept W s co dead h = closes_kept W W s None [] h h
closing_kept W s co (in_progress fs) h = h
closing_kept W s co (normal fs) h = h

end_kept : {B : Type 0} (W : World) (c : Coroutine) (b : B) → AreTables W.heap → TablesIfMade (bind (ends_as W c) (λ V. made V [] b))
end_kept W c b h = by (stack_of W)
  where
    by : (o : Option Stack) → TablesIfMade (bind (bind o (λ s. Some (back_to_resumer (bury W s.coroutine s.frames c)))) (λ V. made V [] b))
    by None = tt
    by (Some s) = back_kept (bury W s.coroutine s.frames c) (bury_kept W s.coroutine s.frames c h)

-- values

settled_kept : (W : World) (p : Place) (s : Settled) → AreTables W.heap → SettledKeeps s → TablesIfMade (settled W p s)
settled_kept W p (found H vs) h k = k
settled_kept W p (ask f vs) h k = h
settled_kept W p (fault text) h k = h
settled_kept W p cannot_arise h k = tt

consulted_kept : (W : World) (d : Done) → AreTables W.heap → TablesWhenDone d → TablesIfMade (consulted W d)
consulted_kept W (done H vs) h k = k
consulted_kept W (was_refused text) h k = h
consulted_kept W (was_raised H v) h k = k

add_kept : (W : World) (v : Value) → AreTables W.heap → AreTables (add_coroutine W v).heap
unfolding add_coroutine
add_kept W v h = h

print_kept : (W : World) (bytes : List ℕ) → AreTables W.heap → AreTables (add_printed W bytes).heap
unfolding add_printed
print_kept W bytes h = h

loaded_kept : (W : World) (p : Prototype) (environment : Value) → AreTables W.heap → AreTables (add_loaded W p environment).heap
unfolding add_loaded
loaded_kept W p environment h = h

-- moves

pub moves_keep : (m : Move) → MayMove m → (env : List Value) (W : World) → AreTables W.heap → TablesIfMade (move m env W)
moves_keep (on_own m) may env W h = kept_bind (place_of W) _ (λ p. kept_cond (fits m p.function.code p.top.own) _ _ (own_kept W p p.top.wait (m ∷ []) env h) tt)
moves_keep (move_pc z) may env W h = kept_bind (place_of W) _ (λ p. kept_bind (place_from p.top.own.pc z) _ (λ pc. kept_bind (at p.function.code pc) _ (λ i. top_kept W p.stack _ h)))
moves_keep (open_register r) may env W h = kept_bind (place_of W) _ (λ p. kept_cond (nat_lt r (length p.top.own.registers)) _ _ h tt)
moves_keep (outside q) may env W h = kept_bind (place_of W) _ (λ p. outside_kept q env W p h)
moves_keep (settle op xs) may env W h = kept_bind (place_of W) _ (λ p. settled_kept W p (does op (args_of env xs) W.heap) h (does_kept W.heap h op (args_of env xs)))
moves_keep (enter f slot wait prepared) may env W h =
    kept_bind (place_of W) _ (λ p. called_kept W (with_own W p (named env wait) prepared env) (arg env f) (drop slot env) h (own_kept W p (named env wait) prepared env h))
moves_keep (enter_tail f slot) may env W h = kept_bind (place_of W) _ (λ p. tail_kept W p (callee_of greatest_chain W.heap (arg env f) (drop slot env)) h)
moves_keep (await f slot wait prepared) may env W h = kept_bind (place_of W) _ (λ p. own_kept W p (named env wait) prepared env h)
moves_keep (begin_leaving text) may env W h = kept_bind (place_of W) _ (λ p. own_kept W p (leaving (blamed W text)) (close_cells 0 ∷ keep_pending ∷ []) [] h)
moves_keep (leave_frame given) may env W h = kept_bind (place_of W) _ (λ p. kept_bind (top_now (record (popped W p) { moving = given_values env given })) _ (λ top. popped_kept W p h))
moves_keep (push_frame over) may env W h = kept_cond (has_room W 1) _ _ (all_kept (frame_over over env ∷ []) W h) h
moves_keep (call_value f slot) may env W h = called_kept W W (arg env f) (drop slot env) h h
moves_keep see_top may env W h = kept_bind (top_now W) _ (λ top. h)
moves_keep see_catcher may env W h = kept_bind (stack_of W) _ (λ s. h)
moves_keep pop_frame may env W h = kept_bind (stack_of W) _ (λ s. pop_kept W s h)
moves_keep take_closing may env W h = kept_bind (stack_of W) _ (λ s. kept_bind (last s.frames) _ (λ f. next_kept W s f h))
moves_keep (set_error x) may env W h = kept_bind (stack_of W) _ (λ s. kept_bind (last s.frames) _ (λ f. error_kept W s f (arg env x) h))
moves_keep end_coroutine may env W h = end_kept W dead (runs_main W) h
moves_keep (fail_coroutine x) may env W h = kept_bind (stack_of W) _ (λ s. end_kept W (failed (arg env x) (flat_map pending_values s.frames)) tt h)
moves_keep suspend may env W h = kept_bind (stack_of W) _ (λ s. suspend_kept W s h)
moves_keep (resume x slot) may env W h = kept_bind (stack_of W) _ (λ s. kept_bind (coroutine_number (arg env x)) _ (λ co. kept_bind (slice_get W.coroutines co) _ (λ c. resumes_kept W s co c (drop slot env) h)))
moves_keep (begin_closing x) may env W h = kept_bind (stack_of W) _ (λ s. kept_bind (coroutine_number (arg env x)) _ (λ co. kept_bind (slice_get W.coroutines co) _ (λ c. closing_kept W s co c h)))
moves_keep (consult l slot) may env W h = consulted_kept W (looked l (drop slot env) W.heap) h (may (drop slot env) W.heap h)
moves_keep (create x) may env W h = kept_cond (is_function (arg env x)) _ _ (add_kept W (arg env x) h) tt
moves_keep (see_status x) may env W h = kept_bind (coroutine_number (arg env x)) _ (λ co. kept_bind (slice_get W.coroutines co) _ (λ c. h))
moves_keep see_running may env W h = kept_bind (last W.chain) _ (λ co. h)
moves_keep (print x) may env W h = print_kept W (bytes_in (arg env x)) h
moves_keep (make_loaded p x) may env W h = loaded_kept W p (environment_in W env x) h
moves_keep _ may env W h = h

-- Each move leaves all functions as they are.
use Rattle.std.proofs.Common.{ℕ, zero, suc, ◌≡◌, Bool, true, false, cond, List, [], ◌∷◌, ◌++◌, Option, Some, None, refl, subst, sym, ◌∙◌, ap, length, append_assoc, append-nil}
use Rattle.std.specs.Prelude.{ℤ, slice_get, slice_set, drop, reverse, flat_map, ◌&&◌, nat_lt, codes}
use Rattle.int_core.specs.Value.{primitive, a_function, Kind, Plain, Value, known, object, Shape, bind, last, without_last, error_or_nil}
use Rattle.int_core.specs.Heap.{add_table, filled_table}
use Rattle.int_core.specs.Limits.{greatest_depth, greatest_resumes}
use Rattle.int_core.specs.Operations.{Operation, Settled, found, ask, fault, cannot_arise, does, Callee, callee, not_callable, callee_of, greatest_chain, is_function}
use Rattle.library_rows.specs.Look.{Done, done, refused as was_refused, raised as was_raised, looked}
use Rattle.code_core.specs.Prototype.{Prototype, list_of}
use Rattle.code_core.specs.Check.{at}
use Rattle.machine_core.specs.World.{Function, Cell, closed, open_at, Wait, leaving, Frame, lua, pcall, xpcall, handler, closing, Coroutine, fresh, suspended, in_progress, normal, dead, failed, World, Stack, stack_of, Place, place_of, put_frames, put_top, push, pop, read_cell, write_cell, find_open, with_frames, write_in_coroutine}
use Rattle.machine_core.specs.Text.{Arg, arg, args_of, Own, close_cells, keep_pending, Quick, read_upvalue, write_upvalue, make_table, make_function, fill_table, pay, Given, given_values, fits, reads, tells}
use Rattle.machine_core.specs.Moves.{Over, frame_over, Move, on_own, move_pc, open_register, outside, settle, enter, enter_tail, await, begin_leaving, leave_frame, take_moving, give, give_with, blame, push_frame, call_value, see_top, see_catcher, pop_frame, take_closing, set_error, end_coroutine, fail_coroutine, suspend, resume, begin_closing, consult, create, see_status, see_running, print, make_loaded, Made, made, CallShape, not_paid, one_left, resumed, refused, runs_main, bytes_in, named, blamed, with_own, do_own, place_from, moved_pc, opened_cells, captured, made_function, own_cell, do_outside, new_frame, push_all, has_room, enters, enters_paid, called, popped, called_tail, top_now, catcher, next_closing, with_error, pending_values, put_coroutine, awake, back_to_resumer, bury, ends_as, suspend_running, wait_for_another, go_into, starts_in, can_start, resumes, closes_in, closes_coroutine, coroutine_number, add_coroutine, add_printed, add_loaded, environment_in, consulted, settled, move}
use Rattle.functions_stay.specs.Laws.{Keeps, KeepsIfMade, MovesKeep}

-- worlds that have the same functions

pub same : (W V : World) → V.functions ≡ W.functions → V.prelude_environment ≡ W.prelude_environment → V.prelude_functions ≡ W.prelude_functions → Keeps W V
same W V f e p = record { made = []; functions = f ∙ sym (append-nil W.functions); environment = e; prelude = p }

pub still : (W : World) → Keeps W W
still W = same W W refl refl refl

pub keeps_then : (W V X : World) → Keeps W V → Keeps V X → Keeps W X
keeps_then W V X a b = record {
  made = a.made ++ b.made;
  functions = b.functions ∙ (ap (λ fs. fs ++ b.made) a.functions ∙ append_assoc W.functions a.made b.made);
  environment = b.environment ∙ a.environment;
  prelude = b.prelude ∙ a.prelude;
}

-- what hangs on a case

kept_bind : {A B : Type 0} (W : World) (o : Option A) (f : A → Option (Made B)) → ((a : A) → KeepsIfMade W (f a)) → KeepsIfMade W (bind o f)
kept_bind W None f h = tt
kept_bind W (Some a) f h = h a

kept_cond : {B : Type 0} (W : World) (b : Bool) (x y : Option (Made B)) → KeepsIfMade W x → KeepsIfMade W y → KeepsIfMade W (cond b x y)
kept_cond W true x y h k = h
kept_cond W false x y h k = k

-- after another change
pub kept_after : {B : Type 0} (W V : World) (o : Option (Made B)) → Keeps W V → KeepsIfMade V o → KeepsIfMade W o
kept_after W V None k h = tt
kept_after W V (Some d) k h = keeps_then W V d.world k h

-- frames

frames_kept : (W : World) (co : ℕ) (fs : List Frame) → Keeps W (put_frames W co fs)
unfolding put_frames
frames_kept W co fs = same W (put_frames W co fs) refl refl refl

top_kept : (W : World) (s : Stack) (f : Frame) → Keeps W (put_top W s f)
unfolding put_top put_frames
top_kept W s f = same W (put_top W s f) refl refl refl

push_kept : (W : World) (s : Stack) (f : Frame) → Keeps W (push W s f)
unfolding push put_frames
push_kept W s f = same W (push W s f) refl refl refl

pop_kept : (W : World) (s : Stack) → Keeps W (pop W s)
unfolding pop put_frames
pop_kept W s = same W (pop W s) refl refl refl

own_kept : (W : World) (p : Place) (w : Wait Value) (ms : List Own) (env : List Value) → Keeps W (with_own W p w ms env)
unfolding with_own put_top put_frames
own_kept W p w ms env = same W (with_own W p w ms env) refl refl refl

popped_kept : (W : World) (p : Place) → Keeps W (popped W p)
unfolding popped pop put_frames
popped_kept W p = same W (popped W p) refl refl refl

all_kept : (fs : List Frame) (W : World) → Keeps W (push_all W fs)
all_kept [] W = still W
all_kept (f ∷ fs) W = by (stack_of W) (λ s. keeps_then W (push W s f) (push_all (push W s f) fs) (push_kept W s f) (all_kept fs (push W s f)))
  where
    by : (o : Option Stack) → ((s : Stack) → Keeps W (push_all (push W s f) fs)) → Keeps W (elim o [ None ↦ W | Some s ↦ push_all (push W s f) fs ])
    by None h = still W
    by (Some s) h = h s

-- calls

enters_kept : (W : World) (v : Value) (vs : List Value) → KeepsIfMade W (enters W v vs)
enters_kept W (known (primitive n)) vs = same W (record W { moving = vs }) refl refl refl
enters_kept W (object a_function n) vs = kept_bind W (slice_get W.functions n) _ (λ f. kept_cond W (has_room W 1) _ _ (all_kept (new_frame n f.code vs ∷ []) W) (still W))
enters_kept W _ vs = tt

paid_kept : (W P : World) (c : Callee) → Keeps W P → KeepsIfMade W (enters_paid W P c)
paid_kept W P (not_callable text) k = k
paid_kept W P (callee f vs) k = by W.fuel
  where
    by : (n : ℕ) → KeepsIfMade W (elim n [ zero ↦ made W [] not_paid | suc fuel ↦ enters (record P { fuel = fuel }) f vs ])
    by zero = still W
    by (suc fuel) = kept_after W (record P { fuel = fuel }) (enters (record P { fuel = fuel }) f vs) (keeps_then W P (record P { fuel = fuel }) k (same P (record P { fuel = fuel }) refl refl refl)) (enters_kept (record P { fuel = fuel }) f vs)

called_kept : (W P : World) (v : Value) (vs : List Value) → Keeps W P → KeepsIfMade W (called W P v vs)
called_kept W P v vs k = paid_kept W P (callee_of greatest_chain W.heap v vs) k

tail_kept : (W : World) (p : Place) (c : Callee) → KeepsIfMade W (called_tail W p c)
tail_kept W p (not_callable text) = still W
tail_kept W p (callee f vs) = by W.fuel
  where
    by : (n : ℕ) → KeepsIfMade W (elim n [ zero ↦ made W [] not_paid | suc fuel ↦ enters (record (popped W p) { fuel = fuel }) f vs ])
    by zero = still W
    by (suc fuel) =
        let P = record (popped W p) { fuel = fuel } in
        kept_after W P (enters P f vs) (keeps_then W (popped W p) P (popped_kept W p) (same (popped W p) P refl refl refl)) (enters_kept P f vs)

-- cells and functions

cell_kept : (W : World) (n : ℕ) (c : Cell) (v : Value) → Keeps W (write_cell W n c v)
unfolding write_cell
cell_kept W n (closed x) v = same W (record W { cells = slice_set W.cells n (closed v) }) refl refl refl
cell_kept W n (open_at co frame register) v = by (slice_get W.coroutines co)
  where
    by : (o : Option Coroutine) → Keeps W (elim o [ None ↦ W | Some c ↦ record W { coroutines = slice_set W.coroutines co (write_in_coroutine frame register v c) } ])
    by None = still W
    by (Some c) = same W (record W { coroutines = slice_set W.coroutines co (write_in_coroutine frame register v c) }) refl refl refl

outside_kept : (q : Quick) (env : List Value) (W : World) (p : Place) → KeepsIfMade W (do_outside q env W p)
outside_kept (read_upvalue u) env W p = kept_bind W (own_cell W p u) _ (λ c. kept_bind W (read_cell W c.1) _ (λ v. still W))
outside_kept (write_upvalue u x) env W p = kept_bind W (own_cell W p u) _ (λ c. kept_bind W (read_cell W c.1) _ (λ v. cell_kept W c.0 c.1 (arg env x)))
outside_kept make_table env W p = same W (record W { heap = add_table W.heap }) refl refl refl
outside_kept (make_function n) env W p =
    kept_bind W (slice_get (list_of p.function.code.inner) n) _ (λ q. kept_bind W (captured q.own.upvalues p.stack.coroutine p.number p.function.cells W.cells) _ (λ cells.
    record { made = record { code = q; cells = cells } ∷ []; functions = refl; environment = refl; prelude = refl }))
outside_kept (fill_table t n slot) env W p = kept_bind W (filled_table W.heap (arg env t) n (drop slot env)) _ (λ H. same W (record W { heap = H }) refl refl refl)
outside_kept pay env W p = by W.fuel
  where
    by : (n : ℕ) → KeepsIfMade W (elim n [ zero ↦ made W [] false | suc fuel ↦ made (record W { fuel = fuel }) [] true ])
    by zero = still W
    by (suc fuel) = same W (record W { fuel = fuel }) refl refl refl

-- closing frames

next_kept : (W : World) (s : Stack) (f : Frame) → KeepsIfMade W (next_closing W s f)
next_kept W s (closing None []) = still W
next_kept W s (closing (Some e) []) = still W
next_kept W s (closing e (v ∷ left)) = by (last (v ∷ left))
  where
    by : (o : Option Value) → KeepsIfMade W (elim o [
      | None ↦ None
      | Some x ↦ made (put_top W s (closing e (without_last (v ∷ left)))) (x ∷ error_or_nil e ∷ []) one_left
    ])
    by None = tt
    by (Some x) = top_kept W s (closing e (without_last (v ∷ left)))
next_kept W s (lua f) = tt
next_kept W s pcall = tt
next_kept W s (xpcall h) = tt
next_kept W s handler = tt

error_kept : (W : World) (s : Stack) (f : Frame) (v : Value) → KeepsIfMade W (with_error W s f v)
error_kept W s (closing e left) v = top_kept W s (closing (Some v) left)
error_kept W s _ v = tt

-- coroutines

put_kept : (W : World) (co : ℕ) (c : Coroutine) → Keeps W (put_coroutine W co c)
unfolding put_coroutine
put_kept W co c = same W (put_coroutine W co c) refl refl refl

back_kept : (W : World) → Keeps W (back_to_resumer W)
unfolding back_to_resumer
back_kept W = by (last (without_last W.chain))
  where
    by : (o : Option ℕ)
        → Keeps W (elim o [ None ↦ record W { chain = without_last W.chain } | Some co ↦ put_coroutine (record W { chain = without_last W.chain }) co (in_progress (awake (slice_get W.coroutines co))) ])
    by None = same W (record W { chain = without_last W.chain }) refl refl refl
    by (Some co) =
        let V = record W { chain = without_last W.chain } in
        keeps_then W V (put_coroutine V co (in_progress (awake (slice_get W.coroutines co)))) (same W V refl refl refl) (put_kept V co (in_progress (awake (slice_get W.coroutines co))))

bury_kept : (W : World) (co : ℕ) (fs : List Frame) (c : Coroutine) → Keeps W (bury W co fs c)
unfolding bury put_coroutine
bury_kept W co fs c = same W (bury W co fs c) refl refl refl

suspend_kept : (W : World) (s : Stack) → Keeps W (suspend_running W s)
unfolding suspend_running
suspend_kept W s =
    let V = put_coroutine W s.coroutine (suspended s.frames) in keeps_then W V (back_to_resumer V) (put_kept W s.coroutine (suspended s.frames)) (back_kept V)

wait_kept : (W : World) (s : Stack) → Keeps W (wait_for_another W s)
unfolding wait_for_another
wait_kept W s = put_kept W s.coroutine (normal s.frames)

into_kept : (W : World) (co : ℕ) (fs : List Frame) → Keeps W (go_into W co fs)
unfolding go_into put_coroutine
into_kept W co fs = same W (go_into W co fs) refl refl refl

pub starts_kept : (W : World) (co : ℕ) (c : Coroutine) (vs : List Value) → KeepsIfMade W (starts_in W co c vs)
starts_kept W co (fresh v) vs =
    by (enters (go_into W co []) v vs) (kept_after W (go_into W co []) (enters (go_into W co []) v vs) (into_kept W co []) (enters_kept (go_into W co []) v vs))
  where
    by : (o : Option (Made CallShape)) → KeepsIfMade W o → KeepsIfMade W (bind o (λ d. made d.world [] (resumed d.told)))
    by None h = tt
    by (Some d) h = h
starts_kept W co (suspended fs) vs = keeps_then W (go_into W co fs) (record (go_into W co fs) { moving = vs }) (into_kept W co fs) (same (go_into W co fs) (record (go_into W co fs) { moving = vs }) refl refl refl)
starts_kept W co _ vs = still W

resumes_kept : (W : World) (s : Stack) (co : ℕ) (c : Coroutine) (vs : List Value) → KeepsIfMade W (resumes W s co c vs)
resumes_kept W s co c vs =
    kept_cond W (can_start c && nat_lt greatest_resumes (length W.chain)) (made W [] (refused (codes "too many nested resumes"))) (starts_in (cond (can_start c) (wait_for_another W s) W) co c vs) (still W)
    (by (can_start c))
  where
    by : (b : Bool) → KeepsIfMade W (starts_in (cond b (wait_for_another W s) W) co c vs)
    by true = kept_after W (wait_for_another W s) (starts_in (wait_for_another W s) co c vs) (wait_kept W s) (starts_kept (wait_for_another W s) co c vs)
    by false = starts_kept W co c vs

closes_kept : (W D : World) (s : Stack) (e : Option Value) (left : List Value) → Keeps W D → KeepsIfMade W (closes_in W D s e left)
closes_kept W D s e left k = kept_cond W (has_room W 1) _ _ (keeps_then W D (push D s (closing e left)) k (push_kept D s (closing e left))) (still W)

closing_kept : (W : World) (s : Stack) (co : ℕ) (c : Coroutine) → KeepsIfMade W (closes_coroutine W s co c)
closing_kept W s co (fresh v) = closes_kept W (put_coroutine W co dead) s None [] (put_kept W co dead)
closing_kept W s co (suspended fs) = closes_kept W (bury W co fs dead) s None (flat_map pending_values fs) (bury_kept W co fs dead)
closing_kept W s co (failed e vs) = closes_kept W (put_coroutine W co dead) s (Some e) vs (put_kept W co dead)
closing_kept W s co dead = closes_kept W W s None [] (still W)
closing_kept W s co (in_progress fs) = still W
closing_kept W s co (normal fs) = still W

end_kept : {B : Type 0} (W : World) (c : Coroutine) (b : B) → KeepsIfMade W (bind (ends_as W c) (λ V. made V [] b))
end_kept W c b = by (stack_of W)
  where
    by : (o : Option Stack) → KeepsIfMade W (bind (bind o (λ s. Some (back_to_resumer (bury W s.coroutine s.frames c)))) (λ V. made V [] b))
    by None = tt
    by (Some s) = keeps_then W (bury W s.coroutine s.frames c) (back_to_resumer (bury W s.coroutine s.frames c)) (bury_kept W s.coroutine s.frames c) (back_kept (bury W s.coroutine s.frames c))

-- values

settled_kept : (W : World) (p : Place) (s : Settled) → KeepsIfMade W (settled W p s)
settled_kept W p (found H vs) = same W (record W { heap = H }) refl refl refl
settled_kept W p (ask h vs) = still W
settled_kept W p (fault text) = still W
settled_kept W p cannot_arise = tt

consulted_kept : (W : World) (d : Done) → KeepsIfMade W (consulted W d)
consulted_kept W (done H vs) = same W (record W { heap = H }) refl refl refl
consulted_kept W (was_refused text) = still W
consulted_kept W (was_raised H v) = same W (record W { heap = H }) refl refl refl

add_kept : (W : World) (v : Value) → Keeps W (add_coroutine W v)
unfolding add_coroutine
add_kept W v = same W (add_coroutine W v) refl refl refl

print_kept : (W : World) (bytes : List ℕ) → Keeps W (add_printed W bytes)
unfolding add_printed
print_kept W bytes = same W (add_printed W bytes) refl refl refl

loaded_kept : (W : World) (p : Prototype) (environment : Value) → Keeps W (add_loaded W p environment)
unfolding add_loaded
loaded_kept W p environment = record { made = record { code = p; cells = length W.cells ∷ [] } ∷ []; functions = refl; environment = refl; prelude = refl }

-- moves

moving_kept : (W V : World) (vs : List Value) → Keeps W V → Keeps W (record V { moving = vs })
moving_kept W V vs k = keeps_then W V (record V { moving = vs }) k (same V (record V { moving = vs }) refl refl refl)

pub moves_keep : MovesKeep
moves_keep (on_own m) env W = kept_bind W (place_of W) _ (λ p. kept_cond W (fits m p.function.code p.top.own) _ _ (own_kept W p p.top.wait (m ∷ []) env) tt)
moves_keep (move_pc z) env W = kept_bind W (place_of W) _ (λ p. kept_bind W (place_from p.top.own.pc z) _ (λ pc. kept_bind W (at p.function.code pc) _ (λ i. top_kept W p.stack _)))
moves_keep (open_register r) env W = kept_bind W (place_of W) _ (λ p. by (nat_lt r (length p.top.own.registers)) (opened_cells (find_open p.stack.coroutine p.number r W.cells) p.stack.coroutine p.number r W.cells))
  where
    by : (b : Bool) (cells : List Cell) → KeepsIfMade {A = Unit {0}} W (cond b (made (record W { cells = cells }) [] tt) None)
    by true cells = same W (record W { cells = cells }) refl refl refl
    by false cells = tt
moves_keep (outside q) env W = kept_bind W (place_of W) _ (λ p. outside_kept q env W p)
moves_keep (settle op xs) env W = kept_bind W (place_of W) _ (λ p. settled_kept W p (does op (args_of env xs) W.heap))
moves_keep (enter f slot wait prepared) env W = kept_bind W (place_of W) _ (λ p. called_kept W (with_own W p (named env wait) prepared env) (arg env f) (drop slot env) (own_kept W p (named env wait) prepared env))
moves_keep (enter_tail f slot) env W = kept_bind W (place_of W) _ (λ p. tail_kept W p (callee_of greatest_chain W.heap (arg env f) (drop slot env)))
moves_keep (await f slot wait prepared) env W =
    kept_bind W (place_of W) _ (λ p. moving_kept W (with_own W p (named env wait) prepared env) (arg env f ∷ drop slot env) (own_kept W p (named env wait) prepared env))
moves_keep (begin_leaving text) env W =
    kept_bind W (place_of W) _ (λ p. moving_kept W (with_own W p (leaving (blamed W text)) (close_cells 0 ∷ keep_pending ∷ []) []) (blamed W text ∷ []) (own_kept W p (leaving (blamed W text)) (close_cells 0 ∷ keep_pending ∷ []) []))
moves_keep (leave_frame given) env W =
    kept_bind W (place_of W) _ (λ p. kept_bind W (top_now (record (popped W p) { moving = given_values env given })) _ (λ top. moving_kept W (popped W p) (given_values env given) (popped_kept W p)))
moves_keep take_moving env W = same W (record W { moving = [] }) refl refl refl
moves_keep (give xs) env W = moving_kept W W (args_of env xs) (still W)
moves_keep (give_with xs slot) env W = moving_kept W W (args_of env xs ++ drop slot env) (still W)
moves_keep (blame text) env W = moving_kept W W (blamed W text ∷ []) (still W)
moves_keep (push_frame over) env W = kept_cond W (has_room W 1) _ _ (all_kept (frame_over over env ∷ []) W) (still W)
moves_keep (call_value f slot) env W = called_kept W W (arg env f) (drop slot env) (still W)
moves_keep see_top env W = kept_bind W (top_now W) _ (λ top. still W)
moves_keep see_catcher env W = kept_bind W (stack_of W) _ (λ s. still W)
moves_keep pop_frame env W = kept_bind W (stack_of W) _ (λ s. pop_kept W s)
moves_keep take_closing env W = kept_bind W (stack_of W) _ (λ s. kept_bind W (last s.frames) _ (λ f. next_kept W s f))
moves_keep (set_error x) env W = kept_bind W (stack_of W) _ (λ s. kept_bind W (last s.frames) _ (λ f. error_kept W s f (arg env x)))
moves_keep end_coroutine env W = end_kept W dead (runs_main W)
moves_keep (fail_coroutine x) env W = kept_bind W (stack_of W) _ (λ s. end_kept W (failed (arg env x) (flat_map pending_values s.frames)) tt)
moves_keep suspend env W = kept_bind W (stack_of W) _ (λ s. suspend_kept W s)
moves_keep (resume x slot) env W = kept_bind W (stack_of W) _ (λ s. kept_bind W (coroutine_number (arg env x)) _ (λ co. kept_bind W (slice_get W.coroutines co) _ (λ c. resumes_kept W s co c (drop slot env))))
moves_keep (begin_closing x) env W = kept_bind W (stack_of W) _ (λ s. kept_bind W (coroutine_number (arg env x)) _ (λ co. kept_bind W (slice_get W.coroutines co) _ (λ c. closing_kept W s co c)))
moves_keep (consult l slot) env W = consulted_kept W (looked l (drop slot env) W.heap)
moves_keep (create x) env W = kept_cond W (is_function (arg env x)) _ _ (add_kept W (arg env x)) tt
moves_keep (see_status x) env W = kept_bind W (coroutine_number (arg env x)) _ (λ co. kept_bind W (slice_get W.coroutines co) _ (λ c. still W))
moves_keep see_running env W = kept_bind W (last W.chain) _ (λ co. still W)
moves_keep (print x) env W = print_kept W (bytes_in (arg env x))
moves_keep (make_loaded p x) env W = loaded_kept W p (environment_in W env x)
moves_keep _ env W = still W

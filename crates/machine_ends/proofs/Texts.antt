-- Parts of rows of instructions that make the measure smaller.
use Rattle.std.proofs.Common.{ℕ, zero, suc, ◌+◌, ◌-◌, ◌<◌, ◌≤◌, ◌≡◌, List, [], ◌∷◌, Option, Some, None, refl, ap, arith, Bool, true, false, cond}
use Rattle.std.specs.Prelude.{IsTrue, nat_eq, ℤ, pos}
use Rattle.std.specs.List.{list_all}
use Rattle.std.proofs.lemmas.Bool.Decides.{nat_tests}
use Rattle.int_core.specs.Value.{nil, boolean, integer, string, primitive, Shape, is_known, is_object}
use Rattle.int_core.specs.Operations.{Event, Operation, computed, by_zero}
use Rattle.machine_core.specs.World.{Wait, for_close, returning, leaving}
use Rattle.machine_core.specs.Text.{Arg, read, written, Own, write_register, close_cells, take_pending, keep_pending, keep_results, results, thrown, Text, go_by, own, operate, close, raise, leave, read_registers}
use Rattle.machine_core.specs.InstructionRows.{next, skip, to_register, is_true, left_so, returned_so, fails, returns, closes, read_values, write_values, fast, then}
use Rattle.machine_core.specs.Moves.{SettledShape, is_found, is_asked, is_fault, CallShape, is_entered, is_primitive, not_paid, not_entered, TopShape, lua_top, Row, only}
use Rattle.machine_core.specs.FrameRows.{handed, raises, after_call, call_row, ask_row, When, at_once, by_asking, calls_row, prepares, leave_row, expand_by}
use Rattle.machine_ends.specs.Measure.{wait_weight}
use Rattle.machine_ends.specs.Falls.{on_lua, anywhere, no_mark, saved, is_small, IsForward, seen_by, Falls, after_enter}

-- a Lua frame runs or goes on with some credit
abbrev pub Comes : ℕ → Row → Type 0
Comes c r = Falls (on_lua false c None true) r

pub forward : (w : When) (c : ℕ) (seen : Option ℕ) (z : ℤ) → IsForward z → Falls (on_lua false c seen true) (expand_by w (go_by z))
forward w c seen z f = (f, λ n t. (let l : 30 < c + 40 = omega arith in l))

pub next_falls : (w : When) (c : ℕ) → Comes c (expand_by w next)
next_falls w c = forward w c None (pos 1) tt

pub skip_falls : (w : When) (c : ℕ) → Comes c (expand_by w skip)
skip_falls w c = forward w c None (pos 2) tt

pub register_falls : (w : When) (c r : ℕ) (x : Arg) → Comes c (expand_by w (to_register r x))
register_falls w c r x = (tt, λ n s. next_falls w c)

pub raises_falls : (rich : Bool) (c : ℕ) (seen : Option ℕ) (runs : Bool) (text : List ℕ) → 7 < c → Falls (on_lua rich c seen runs) (raises text)
raises_falls true c seen runs text l = (tt, λ n t. l)
raises_falls false c seen runs text l = (tt, λ n t. l)

-- calls

after_falls : (c : ℕ) → 7 < c → (s : CallShape) → Falls (after_enter s (on_lua false c None false)) (after_call s)
after_falls c l is_entered = omega arith
after_falls c l (is_primitive n) = omega arith
after_falls c l not_paid = tt
after_falls c l (not_entered text) = raises_falls false c None false text l

pub call_falls : (c : ℕ) (seen : Option ℕ) (f : Arg) (slot : ℕ) (wait : Wait Arg) (prepared : List Own) → IsTrue (list_all no_mark prepared) → IsTrue (is_small wait) → 7 < c → Falls (on_lua false c seen true) (call_row f slot wait prepared)
call_falls c seen f slot wait prepared n z l = ((n, z), λ k s. after_falls c l s)

pub ask_falls : (c : ℕ) (seen : Option ℕ) (runs : Bool) (f : Arg) (slot : ℕ) (wait : Wait Arg) (prepared : List Own) → IsTrue (list_all no_mark prepared) → wait_weight wait + 8 < c + saved seen prepared → Falls (on_lua false c seen runs) (ask_row f slot wait prepared)
ask_falls c seen runs f slot wait prepared n l = ((n, (let a : wait_weight wait ≤ c + saved seen prepared = omega arith in a)), λ k t. (let a : 8 < c + saved seen prepared - wait_weight wait = omega arith in a))

-- a call by a frame that runs, or by one that goes on
abbrev pub MayCall : When → (credit : ℕ) → Wait Arg → Type 0
MayCall at_once c wait = IsTrue (is_small wait)
MayCall by_asking c wait = wait_weight wait + 8 < c

pub calls_fall : (w : When) (c : ℕ) (f : Arg) (slot : ℕ) (wait : Wait Arg) (prepared : List Own) → IsTrue (list_all no_mark prepared) → 7 < c → MayCall w c wait → Comes c (calls_row w f slot wait prepared)
calls_fall at_once c f slot wait prepared n l m = call_falls c None f slot wait prepared n m l
calls_fall by_asking c f slot wait prepared n l m = ask_falls c None true f slot wait prepared n (omega arith)

-- operations

settled_falls : (c : ℕ) (s : SettledShape) (found asked fault : Row) → Comes c found → Comes c asked → ((text : List ℕ) → Comes c (prepares [] (raises text)))
    → Comes c (elim s as (λ _. Row) [ is_found ↦ found | is_asked ↦ asked | is_fault text ↦ prepares [] (raises text) ])
settled_falls c is_found found asked fault f a r = f
settled_falls c is_asked found asked fault f a r = a
settled_falls c (is_fault text) found asked fault f a r = r text

pub operate_falls : (w : When) (c : ℕ) (op : Operation) (xs : List Arg) (wait : Wait Arg) (t : Text) → 7 < c → MayCall w c wait → Comes c (expand_by w t) → Comes c (expand_by w (operate op xs wait [] t))
operate_falls w c op xs wait t l m k = (tt, λ n s. settled_falls c s (only n (expand_by w t)) (calls_row w (read n) (suc n) wait []) (raises []) k (calls_fall w c (read n) (suc n) wait [] refl l m) (λ text. raises_falls false c None true text l))

-- with one register written first
kept_falls : (c r : ℕ) (x : Arg) (s : SettledShape) (found asked : Row) → Comes c found → Comes c asked → 7 < c
    → Comes c (elim s as (λ _. Row) [ is_found ↦ prepares (write_register r x ∷ []) found | is_asked ↦ asked | is_fault text ↦ prepares (write_register r x ∷ []) (raises text) ])
kept_falls c r x is_found found asked f a l = (tt, λ n t. f)
kept_falls c r x is_asked found asked f a l = a
kept_falls c r x (is_fault text) found asked f a l = (tt, λ n t. raises_falls false c None true text l)

pub operate_kept : (c : ℕ) (op : Operation) (xs : List Arg) (wait : Wait Arg) (r : ℕ) (x : Arg) (t : Text) → 7 < c → IsTrue (is_small wait) → Comes c (expand_by at_once t) → Comes c (expand_by at_once (operate op xs wait (write_register r x ∷ []) t))
operate_kept c op xs wait r x t l m k = (tt, λ n s. kept_falls c r x s (only n (expand_by at_once t)) (call_row (read n) (suc n) wait (write_register r x ∷ [])) k (call_falls c None (read n) (suc n) wait (write_register r x ∷ []) refl m l) l)

pub fast_falls : (event : Event) (r : ℕ) (a b : Option ℤ) → Comes 30 (expand_by at_once (fast event r a b))
fast_falls event r None b = next_falls at_once 30
fast_falls event r (Some m) None = next_falls at_once 30
fast_falls event r (Some m) (Some n) = by (computed event m n)
  where
    by : (o : Option ℤ) → Comes 30 (expand_by at_once (elim o as (λ _. Text) [ None ↦ raise (by_zero event) | Some k ↦ then (write_register r (written (integer k))) skip ]))
    by None = raises_falls false 30 None true (by_zero event) (omega arith)
    by (Some k) = (tt, λ n s. skip_falls at_once 30)

-- lists of values

pub write_falls : (w : When) (c r n slot : ℕ) → Comes c (expand_by w (write_values r n slot))
write_falls w c r zero slot = (tt, λ n s. next_falls w c)
write_falls w c r (suc n) slot = (tt, λ n s. next_falls w c)

pub read_falls : (w : When) (c r n : ℕ) (k : ℕ → Shape → Text) → ((v : ℕ) (s : Shape) → Comes c (expand_by w (k v s))) → Comes c (expand_by w (read_values r n k))
read_falls w c r zero k f = (tt, f)
read_falls w c r (suc n) k f = (tt, f)

-- leaving

pub handed_falls : (rich : Bool) (c : ℕ) (t : TopShape) → 1 < c → Falls (anywhere rich c (Some t)) (handed t)
handed_falls rich c lua_top l = omega arith
handed_falls rich c _ l = l

pub results_fall : (c : ℕ) (seen : Option ℕ) (runs : Bool) (slot : ℕ) → Falls (on_lua false c seen runs) (leave_row (results slot))
results_fall c seen runs slot = (tt, λ n t. handed_falls false (c + 3) t (omega arith))

pub thrown_falls : (c : ℕ) (seen : Option ℕ) (runs : Bool) (x : Arg) → Falls (on_lua false c seen runs) (leave_row (thrown x))
thrown_falls c seen runs x = (tt, λ n t. (let l : 2 < c + 3 = omega arith in l))

-- closing, by a frame that goes on: a register is taken off the pending ones

same_self : (r : ℕ) → nat_eq r r ≡ true
same_self r = grind (arith, nat_tests)

saves : (r : ℕ) (ms : List Own) → saved (Some r) (close_cells r ∷ take_pending r ∷ ms) ≡ 20
saves r ms = ap (λ b. cond b 20 0) (same_self r)

close_asks : (c r : ℕ) (runs : Bool) (v e : Arg) (wait : Wait Arg) (ms : List Own) → IsTrue (list_all no_mark ms) → wait_weight wait ≤ 10 → Falls (on_lua false c (Some r) runs) (expand_by by_asking (close v e wait (close_cells r ∷ take_pending r ∷ ms)))
close_asks c r runs v e wait ms n l = (tt, λ k t. ask_falls c (Some r) runs (read k) (suc k) wait (close_cells r ∷ take_pending r ∷ ms) n (let s = saves r ms in omega arith))

abbrev failing : (v : ℕ) → Shape → Text
failing v s = cond (is_true s) (close (read v) (read 0) (leaving (read 0)) left_so) (leave (thrown (read 0)))

pub failing_falls : (c : ℕ) (runs : Bool) (v : ℕ) (s : Shape) → Falls (on_lua false c (seen_by 0 s) runs) (expand_by by_asking (failing v s))
failing_falls c runs v (is_known (boolean true)) = close_asks c 0 runs (read v) (read 0) (leaving (read 0)) (keep_pending ∷ []) refl (omega arith)
failing_falls c runs v _ = thrown_falls c None runs (read 0)

pub fails_falls : (c : ℕ) (runs : Bool) → Falls (on_lua false c None runs) (expand_by by_asking fails)
fails_falls c runs = (tt, λ v s. failing_falls c runs v s)

-- by a frame that runs it is called in the same step
close_calls : (c r : ℕ) (v e : Arg) (wait : Wait Arg) (ms : List Own) → IsTrue (list_all no_mark ms) → IsTrue (is_small wait) → 7 < c → Falls (on_lua false c (Some r) true) (expand_by at_once (close v e wait (close_cells r ∷ take_pending r ∷ ms)))
close_calls c r v e wait ms n z l = (tt, λ k t. call_falls c (Some r) (read k) (suc k) wait (close_cells r ∷ take_pending r ∷ ms) n z l)

abbrev pub MayClose : When → ℕ → Type 0
MayClose at_once c = 7 < c
MayClose by_asking c = Unit {0}

close_falls : (w : When) (c r : ℕ) (v e : Arg) (wait : Wait Arg) (ms : List Own) → IsTrue (list_all no_mark ms) → IsTrue (is_small wait) → wait_weight wait ≤ 10 → MayClose w c
    → Falls (on_lua false c (Some r) true) (expand_by w (close v e wait (close_cells r ∷ take_pending r ∷ ms)))
close_falls at_once c r v e wait ms n z l m = close_calls c r v e wait ms n z m
close_falls by_asking c r v e wait ms n z l m = close_asks c r true v e wait ms n l

pub returns_fall : (w : When) (c from count : ℕ) → MayClose w c → Comes c (expand_by w (returns from count))
returns_fall w c from count m = (tt, λ v s. told v s)
  where
    given : (v : ℕ) → Comes c (expand_by w (own (read_registers from count) (λ w' _. leave (results w'))))
    given v = (tt, λ n s. results_fall c None true n)

    told : (v : ℕ) (s : Shape) → Falls (on_lua false c (seen_by 0 s) true)
        (expand_by w (cond (is_true s) (close (read v) (written nil) (returning count) (returned_so from count)) (own (read_registers from count) (λ w' _. leave (results w')))))
    told v (is_known (boolean true)) = close_falls w c 0 (read v) (written nil) (returning count) (keep_results from count ∷ []) refl refl (omega arith) m
    told v (is_known (boolean false)) = given v
    told v (is_known nil) = given v
    told v (is_known (integer n)) = given v
    told v (is_known (string b)) = given v
    told v (is_known (primitive n)) = given v
    told v (is_object k) = given v

pub closes_fall : (w : When) (c r : ℕ) → MayClose w c → Comes c (expand_by w (closes r))
closes_fall w c r m = (tt, λ v s. told v s)
  where
    gone : Comes c (expand_by w (then (close_cells r) next))
    gone = (tt, λ n s. next_falls w c)

    told : (v : ℕ) (s : Shape) → Falls (on_lua false c (seen_by r s) true)
        (expand_by w (cond (is_true s) (close (read v) (written nil) for_close (close_cells r ∷ take_pending r ∷ [])) (then (close_cells r) next)))
    told v (is_known (boolean true)) = close_falls w c r (read v) (written nil) for_close [] refl refl (omega arith) m
    told v (is_known (boolean false)) = gone
    told v (is_known nil) = gone
    told v (is_known (integer n)) = gone
    told v (is_known (string b)) = gone
    told v (is_known (primitive n)) = gone
    told v (is_object k) = gone

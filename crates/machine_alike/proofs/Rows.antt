-- Every move keeps agreement; so does every row that makes no function, and the row of a text that opens what it shares.
use Rattle.std.proofs.Common.{ℕ, List, [], ◌∷◌, ◌++◌, length, drop, Bool, true, false, cond, Option, Some, None, subst, sym}
use Rattle.std.specs.Prelude.{nat_lt}
use Rattle.code_core.specs.Prototype.{Prototype}
use Rattle.int_core.specs.Value.{Value, bind}
use Rattle.machine_core.specs.World.{World, Place, place_of, find_open}
use Rattle.machine_core.specs.Text.{Text, go_by, own, open_cell, quick, operate, call, tail_call, close, closable, raise, leave, trap, read_upvalue, write_upvalue, make_table, make_function, fill_table, pay}
use Rattle.machine_core.specs.Moves.{Move, on_own, move_pc, open_register, outside, settle, enter, enter_tail, await, find_close, is_closable, begin_leaving, leave_frame, take_moving, look, give, give_with, blame, place_text, push_frame, call_value, see_top, see_catcher, pop_frame, take_closing, set_error, end_coroutine, fail_coroutine, suspend, resume, begin_closing, consult, create, see_status, see_running, print, make_loaded, Told, Made, made, move, opened_cells, Row, traps, stop, only, act, Outcome, trapped, run}
use Rattle.machine_core.specs.FrameRows.{When, at_once, expand_by, expand}
use Rattle.machine_core.specs.RowFits.{MakesNone, OpensFirst}
use Rattle.machine_alike.specs.Agree.{Pairs, SameValue, SameValues, AgreeInTurn, Extends}
use Rattle.machine_alike.specs.Laws.{SameOutcome, both_trap, both_end, Alike, Keeps, MovesKeep, NoneMade, RowsKeep}
use Rattle.machine_alike.proofs.Pairwise.{zip_append, zip_length, zip_drop}
use Rattle.machine_alike.proofs.Same.{extends_self, extends_on, values_on}
use Rattle.machine_alike.proofs.Frames.{place_on}
use Rattle.machine_alike.proofs.OwnFrame.{own_keeps, pc_keeps, open_keeps, opened_at, outside_keeps, settle_keeps}
use Rattle.machine_alike.proofs.Calls.{await_keeps, enter_keeps, enter_tail_keeps, find_close_keeps, is_closable_keeps, begin_leaving_keeps, leave_keeps}
use Rattle.machine_alike.proofs.OtherFrames.{take_moving_keeps, look_keeps, give_keeps, give_with_keeps, blame_keeps, place_text_keeps, push_frame_keeps, call_value_keeps, see_top_keeps, see_catcher_keeps, pop_keeps, take_closing_keeps, set_error_keeps}
use Rattle.machine_alike.proofs.Looks.{consult_keeps}
use Rattle.machine_alike.proofs.Coroutines.{end_keeps, fail_keeps, suspend_keeps, resume_keeps, begin_closing_keeps, create_keeps, see_status_keeps, see_running_keeps, print_keeps}
use Rattle.machine_alike.proofs.NewFunctions.{make_loaded_keeps}
use Rattle.machine_alike.proofs.PlainRows.{expand_none}
use Rattle.machine_alike.proofs.Opened.{open_one_more, Ready, makes_alike}

pub moves_keep : MovesKeep
moves_keep (on_own m) = own_keeps m
moves_keep (move_pc z) = pc_keeps z
moves_keep (open_register r) = open_keeps r
moves_keep (outside q) = outside_keeps q
moves_keep (settle op xs) = settle_keeps op xs
moves_keep (enter f slot wait prepared) = enter_keeps f slot wait prepared
moves_keep (enter_tail f slot) = enter_tail_keeps f slot
moves_keep (find_close v e) = find_close_keeps v e
moves_keep (is_closable v) = is_closable_keeps v
moves_keep (begin_leaving text) = begin_leaving_keeps text
moves_keep (leave_frame given) = leave_keeps given
moves_keep take_moving = take_moving_keeps
moves_keep (look x) = look_keeps x
moves_keep (give xs) = give_keeps xs
moves_keep (give_with xs slot) = give_with_keeps xs slot
moves_keep (blame text) = blame_keeps text
moves_keep (await f slot wait prepared) = await_keeps f slot wait prepared
moves_keep (place_text x level) = place_text_keeps x level
moves_keep (push_frame over) = push_frame_keeps over
moves_keep (call_value f slot) = call_value_keeps f slot
moves_keep see_top = see_top_keeps
moves_keep see_catcher = see_catcher_keeps
moves_keep pop_frame = pop_keeps
moves_keep take_closing = take_closing_keeps
moves_keep (set_error x) = set_error_keeps x
moves_keep end_coroutine = end_keeps
moves_keep (fail_coroutine x) = fail_keeps x
moves_keep suspend = suspend_keeps
moves_keep (resume x slot) = resume_keeps x slot
moves_keep (begin_closing x) = begin_closing_keeps x
moves_keep (consult l slot) = consult_keeps l slot
moves_keep (create x) = create_keeps x
moves_keep (see_status x) = see_status_keeps x
moves_keep see_running = see_running_keeps
moves_keep (print x) = print_keeps x
moves_keep (make_loaded code x) = make_loaded_keeps code x

-- rows

pub outcome_on : (p q : Pairs) (o o' : Outcome) → Extends p q → SameOutcome q o o' → SameOutcome p o o'
outcome_on p q o o' e both_trap = both_trap
outcome_on p q o o' e (both_end r f W X h a) = both_end r f W X (extends_on p q r e h) a

-- a row after a move, from what it left
abbrev pub after_move : (m : Move) → (ℕ → Told m → Row) → List Value → Option (Made (Told m)) → Outcome
after_move m k env d = elim d [ None ↦ trapped | Some d ↦ run (k (length env) d.told) (env ++ d.values) d.world ]

pub on_from : (p : Pairs) (m : Move) (k : ℕ → Told m → Row) (env other : List Value) → SameValues p env other
    → ((n : ℕ) (a : Told m) (q : Pairs) (es fs : List Value) (W X : World) → SameValues q es fs → AgreeInTurn q W X → SameOutcome q (run (k n a) es W) (run (k n a) fs X))
    → (d e : Option (Made (Told m))) → Alike p (Told m) d e → SameOutcome p (after_move m k env d) (after_move m k other e)
on_from p m k env other s ih None None h = both_trap
on_from p m k env other s ih None (Some e) h = absurd h
on_from p m k env other s ih (Some d) None h = absurd h
on_from p m k env other s ih (Some d) (Some e) h =
    let es : SameValues h.now (env ++ d.values) (other ++ e.values) = zip_append (SameValue h.now) env other d.values e.values (values_on p h.now h.more env other s) h.values in
    let o = ih (length env) d.told h.now (env ++ d.values) (other ++ e.values) d.world e.world es h.agree in
    let o' = subst (λ n. SameOutcome h.now (run (k (length env) d.told) (env ++ d.values) d.world) (run (k n d.told) (other ++ e.values) e.world)) (zip_length (SameValue p) env other s) o in
    outcome_on p h.now (run (k (length env) d.told) (env ++ d.values) d.world) (run (k (length other) e.told) (other ++ e.values) e.world) h.more
    (subst (λ (a : Told m). SameOutcome h.now (run (k (length env) d.told) (env ++ d.values) d.world) (run (k (length other) a) (other ++ e.values) e.world)) h.told o')

-- a row that makes no function begins with a move that is kept, and goes on so
record Plain (m : Move) (k : ℕ → Told m → Row) : Type 0 where
  pub keeps : Keeps m
  pub next : (n : ℕ) (t : Told m) → NoneMade (k n t)

plain : (m : Move) (k : ℕ → Told m → Row) → NoneMade (act m k) → Plain m k
plain (outside (make_function n)) k h = absurd h
plain (outside (read_upvalue u)) k h = record { keeps = moves_keep (outside (read_upvalue u)); next = h }
plain (outside (write_upvalue u x)) k h = record { keeps = moves_keep (outside (write_upvalue u x)); next = h }
plain (outside make_table) k h = record { keeps = moves_keep (outside make_table); next = h }
plain (outside (fill_table t last slot)) k h = record { keeps = moves_keep (outside (fill_table t last slot)); next = h }
plain (outside pay) k h = record { keeps = moves_keep (outside pay); next = h }
plain (on_own m) k h = record { keeps = moves_keep (on_own m); next = h }
plain (move_pc z) k h = record { keeps = moves_keep (move_pc z); next = h }
plain (open_register r) k h = record { keeps = moves_keep (open_register r); next = h }
plain (settle op xs) k h = record { keeps = moves_keep (settle op xs); next = h }
plain (enter f slot wait prepared) k h = record { keeps = moves_keep (enter f slot wait prepared); next = h }
plain (enter_tail f slot) k h = record { keeps = moves_keep (enter_tail f slot); next = h }
plain (find_close v e) k h = record { keeps = moves_keep (find_close v e); next = h }
plain (is_closable v) k h = record { keeps = moves_keep (is_closable v); next = h }
plain (begin_leaving text) k h = record { keeps = moves_keep (begin_leaving text); next = h }
plain (leave_frame given) k h = record { keeps = moves_keep (leave_frame given); next = h }
plain take_moving k h = record { keeps = moves_keep take_moving; next = h }
plain (look x) k h = record { keeps = moves_keep (look x); next = h }
plain (give xs) k h = record { keeps = moves_keep (give xs); next = h }
plain (give_with xs slot) k h = record { keeps = moves_keep (give_with xs slot); next = h }
plain (blame text) k h = record { keeps = moves_keep (blame text); next = h }
plain (await f slot wait prepared) k h = record { keeps = moves_keep (await f slot wait prepared); next = h }
plain (place_text x level) k h = record { keeps = moves_keep (place_text x level); next = h }
plain (push_frame over) k h = record { keeps = moves_keep (push_frame over); next = h }
plain (call_value f slot) k h = record { keeps = moves_keep (call_value f slot); next = h }
plain see_top k h = record { keeps = moves_keep see_top; next = h }
plain see_catcher k h = record { keeps = moves_keep see_catcher; next = h }
plain pop_frame k h = record { keeps = moves_keep pop_frame; next = h }
plain take_closing k h = record { keeps = moves_keep take_closing; next = h }
plain (set_error x) k h = record { keeps = moves_keep (set_error x); next = h }
plain end_coroutine k h = record { keeps = moves_keep end_coroutine; next = h }
plain (fail_coroutine x) k h = record { keeps = moves_keep (fail_coroutine x); next = h }
plain suspend k h = record { keeps = moves_keep suspend; next = h }
plain (resume x slot) k h = record { keeps = moves_keep (resume x slot); next = h }
plain (begin_closing x) k h = record { keeps = moves_keep (begin_closing x); next = h }
plain (consult l slot) k h = record { keeps = moves_keep (consult l slot); next = h }
plain (create x) k h = record { keeps = moves_keep (create x); next = h }
plain (see_status x) k h = record { keeps = moves_keep (see_status x); next = h }
plain see_running k h = record { keeps = moves_keep see_running; next = h }
plain (print x) k h = record { keeps = moves_keep (print x); next = h }
plain (make_loaded code x) k h = record { keeps = moves_keep (make_loaded code x); next = h }

pub rows_keep : RowsKeep
rows_keep traps h p env other W X s a = both_trap
rows_keep (stop e) h p env other W X s a = both_end p e W X (extends_self p) a
rows_keep (only slot r) h p env other W X s a = rows_keep r h p (drop slot env) (drop slot other) W X (zip_drop (SameValue p) slot env other s) a
rows_keep (act m k) h p env other W X s a =
    let l = plain m k h in
    on_from p m k env other s (λ n b q es fs V Y t c. rows_keep (k n b) (l.next n b) q es fs V Y t c) (move m env W) (move m other X) (l.keeps p env other W X s a)

-- the row of a text that opens what it shares

pub keeps_plain_by : (when : When) (t : Text) → MakesNone t → (p : Pairs) (env other : List Value) (W X : World) → SameValues p env other → AgreeInTurn p W X → SameOutcome p (run (expand_by when t) env W) (run (expand_by when t) other X)
keeps_plain_by when t h p env other W X s a = rows_keep (expand_by when t) (expand_none when t h) p env other W X s a

pub keeps_plain : (t : Text) → MakesNone t → (p : Pairs) (env other : List Value) (W X : World) → SameValues p env other → AgreeInTurn p W X → SameOutcome p (run (expand t) env W) (run (expand t) other X)
keeps_plain t h p env other W X s a = keeps_plain_by at_once t h p env other W X s a

-- what the move at a place opens
abbrev opened_world : World → Place → ℕ → World
opened_world W a r = record W { cells = opened_cells (find_open a.stack.coroutine a.number r W.cells) a.stack.coroutine a.number r W.cells }

abbrev opens_there : World → Place → ℕ → Option (Made (Unit {0}))
opens_there W a r = cond (nat_lt r (length a.top.own.registers)) (made (opened_world W a r) [] tt) None

ready_more : (p : Pairs) (code : Prototype) (opened : List ℕ) (W X : World) (r : ℕ) (h : Ready p code opened W X) → Ready p code (r ∷ opened) (opened_world W h.a r) (opened_world X h.b r)
ready_more p code opened W X r h = record { a = h.a; b = h.b; left = h.left; right = h.right; same = h.same; same_code = h.same_code; opens = open_one_more opened h.a h.b W.cells X.cells r h.opens }

pub ready_on : (p q : Pairs) (code : Prototype) (opened : List ℕ) (W X : World) → Extends p q → Ready p code opened W X → Ready q code opened W X
ready_on p q code opened W X e h = record { a = h.a; b = h.b; left = h.left; right = h.right; same = place_on p q e h.a h.b h.same; same_code = h.same_code; opens = h.opens }

opened_goes_on : (p : Pairs) (code : Prototype) (opened : List ℕ) (W X : World) (r : ℕ) (row : Row) (env other : List Value) → SameValues p env other → AgreeInTurn p W X → (h : Ready p code opened W X)
    → ((q : Pairs) (es fs : List Value) (V Y : World) → SameValues q es fs → AgreeInTurn q V Y → Ready q code (r ∷ opened) V Y → SameOutcome q (run row es V) (run row fs Y))
    → SameOutcome p (after_move (open_register r) (λ _ _. row) env (opens_there W h.a r)) (after_move (open_register r) (λ _ _. row) other (opens_there X h.b r))
opened_goes_on p code opened W X r row env other s g h on = by (nat_lt r (length h.a.top.own.registers)) (nat_lt r (length h.b.top.own.registers)) (opened_at p W X h.a h.b r g h.same)
  where
    by : (t t' : Bool) → Alike p (Unit {0}) (cond t (made (opened_world W h.a r) [] tt) None) (cond t' (made (opened_world X h.b r) [] tt) None)
        → SameOutcome p (after_move (open_register r) (λ _ _. row) env (cond t (made (opened_world W h.a r) [] tt) None)) (after_move (open_register r) (λ _ _. row) other (cond t' (made (opened_world X h.b r) [] tt) None))
    by false false k = both_trap
    by false true k = absurd k
    by true false k = absurd k
    by true true k = outcome_on p k.now _ _ k.more
        (on k.now (env ++ []) (other ++ []) (opened_world W h.a r) (opened_world X h.b r) (zip_append (SameValue k.now) env other [] [] (values_on p k.now k.more env other s) tt) k.agree
        (ready_on p k.now code (r ∷ opened) (opened_world W h.a r) (opened_world X h.b r) k.more (ready_more p code opened W X r h)))

-- a text whose open cells and function come first
pub first_keeps : (t : Text) (code : Prototype) (opened : List ℕ) → OpensFirst code opened t → (p : Pairs) (env other : List Value) (W X : World) → SameValues p env other → AgreeInTurn p W X → Ready p code opened W X
    → SameOutcome p (run (expand t) env W) (run (expand t) other X)
first_keeps (open_cell r t) code opened h p env other W X s g ready =
    subst (λ o. SameOutcome p (after_move (open_register r) (λ _ _. expand t) env (bind o (λ a. opens_there W a r))) (after_move (open_register r) (λ _ _. expand t) other (bind (place_of X) (λ b. opens_there X b r)))) (sym ready.left)
    (subst (λ o. SameOutcome p (after_move (open_register r) (λ _ _. expand t) env (opens_there W ready.a r)) (after_move (open_register r) (λ _ _. expand t) other (bind o (λ b. opens_there X b r)))) (sym ready.right)
    (opened_goes_on p code opened W X r (expand t) env other s g ready (λ q es fs V Y u c l. first_keeps t code (r ∷ opened) h q es fs V Y u c l)))
first_keeps (quick (make_function n) k) code opened h p env other W X s g ready =
    on_from p (outside (make_function n)) (λ m _. expand (k m)) env other s (λ m b q es fs V Y u c. keeps_plain (k m) (h.1 m) q es fs V Y u c) (move (outside (make_function n)) env W) (move (outside (make_function n)) other X)
    (makes_alike p code opened W X n env other s g ready h.0)
first_keeps (go_by z) code opened h p env other W X s g ready = keeps_plain (go_by z) h p env other W X s g
first_keeps (own m k) code opened h p env other W X s g ready = keeps_plain (own m k) h p env other W X s g
first_keeps (quick (read_upvalue u) k) code opened h p env other W X s g ready = keeps_plain (quick (read_upvalue u) k) h p env other W X s g
first_keeps (quick (write_upvalue u x) k) code opened h p env other W X s g ready = keeps_plain (quick (write_upvalue u x) k) h p env other W X s g
first_keeps (quick make_table k) code opened h p env other W X s g ready = keeps_plain (quick make_table k) h p env other W X s g
first_keeps (quick (fill_table t last slot) k) code opened h p env other W X s g ready = keeps_plain (quick (fill_table t last slot) k) h p env other W X s g
first_keeps (quick pay k) code opened h p env other W X s g ready = keeps_plain (quick pay k) h p env other W X s g
first_keeps (operate operation xs wait prepared t) code opened h p env other W X s g ready = keeps_plain (operate operation xs wait prepared t) h p env other W X s g
first_keeps (call f slot wait prepared) code opened h p env other W X s g ready = keeps_plain (call f slot wait prepared) h p env other W X s g
first_keeps (tail_call f slot) code opened h p env other W X s g ready = keeps_plain (tail_call f slot) h p env other W X s g
first_keeps (close v e wait prepared) code opened h p env other W X s g ready = keeps_plain (close v e wait prepared) h p env other W X s g
first_keeps (closable v name t) code opened h p env other W X s g ready = keeps_plain (closable v name t) h p env other W X s g
first_keeps (raise text) code opened h p env other W X s g ready = keeps_plain (raise text) h p env other W X s g
first_keeps (leave given) code opened h p env other W X s g ready = keeps_plain (leave given) h p env other W X s g
first_keeps trap code opened h p env other W X s g ready = keeps_plain trap h p env other W X s g

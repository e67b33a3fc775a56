-- Rows that make the measure smaller, by recursion over the row: how far it is below what it was (`credit`), behind each move.
use Rattle.std.specs.Prelude.{ℕ, suc, ◌+◌, ◌-◌, ◌≤◌, ◌<◌, ℤ, pos, Bool, true, false, cond, List, ◌∷◌, Option, Some, None, nat_eq, nat_le, IsTrue}
use Rattle.std.specs.List.{list_all}
use Rattle.int_core.specs.Value.{boolean, Shape, is_known}
use Rattle.machine_core.specs.World.{Wait, for_concat}
use Rattle.machine_core.specs.Text.{Own, close_cells, see_pending, mark_pending, take_pending, pay}
use Rattle.machine_core.specs.Moves.{Over, over_pcall, over_xpcall, over_handler, Move, on_own, move_pc, open_register, outside, settle, enter, enter_tail, await, find_close, is_closable, begin_leaving, leave_frame, take_moving, look, give, give_with, blame, place_text, push_frame, call_value, see_top, see_catcher, pop_frame, take_closing, set_error, end_coroutine, fail_coroutine, suspend, resume, begin_closing, consult, create, see_status, see_running, print, Told, CallShape, is_entered, is_primitive, not_paid, not_entered, TopShape, lua_top, pcall_top, xpcall_top, handler_top, closing_top, no_top, ClosingShape, one_left, ResumeShape, resumed, refused, Ending, go, returned, asks, calls_primitive, raised, unwinding, spent, main_yielded, main_returned, main_failed, Row, traps, stop, only, act}
use Rattle.machine_ends.specs.Measure.{wait_weight, asks_weight}

-- where a row stands. A Lua frame is on top: what it waits for is not counted, `seen` is a register at or above which one is pending, and it may be known to
-- run. Anywhere: what is on top may be known. A credit is rich where a unit has been paid of which a new frame's weight is left.
-- A tail call was refused: by a frame that runs and is still there, or behind a unit that was paid. Nothing is known where a turn ends
pub data Phase : Type 0 where
  on_lua : (rich : Bool) → (credit : ℕ) → (seen : Option ℕ) → (runs : Bool) → Phase
  anywhere : (rich : Bool) → (credit : ℕ) → (top : Option TopShape) → Phase
  tail_refused : (credit : ℕ) → Phase
  ended : Phase

-- what comes of a move: it may not be made there, it is not told so there, or the row stands so
pub data After : Type 0 where
  not_made : After
  not_told : After
  stands : Phase → After

-- moves on the own activation

abbrev pub no_mark : Own → Bool
no_mark (mark_pending r) = false
no_mark _ = true

-- a pending register that is taken as the frame begins to wait for what closes it
abbrev pub saved : Option ℕ → List Own → ℕ
saved (Some r) (close_cells q ∷ take_pending s ∷ ms) = cond (nat_eq r s) 20 0
saved _ _ = 0

abbrev pub seen_by : ℕ → Shape → Option ℕ
seen_by r (is_known (boolean true)) = Some r
seen_by r _ = None

abbrev pub is_small : {V : Type 0} → Wait V → Bool
is_small (for_concat left) = nat_le left 255
is_small _ = true

abbrev pub IsForward : ℤ → Type 0
IsForward (pos (suc n)) = Unit {0}
IsForward _ = ⊥

-- what is known of the top

abbrev pub is_shape : TopShape → TopShape → Bool
is_shape lua_top lua_top = true
is_shape pcall_top pcall_top = true
is_shape xpcall_top xpcall_top = true
is_shape handler_top handler_top = true
is_shape closing_top closing_top = true
is_shape (no_top a) (no_top b) = true
is_shape _ _ = false

abbrev pub may_be : Option TopShape → TopShape → Bool
may_be None t = true
may_be (Some known) t = is_shape known t

abbrev pub is_frame : TopShape → Bool
is_frame (no_top b) = false
is_frame _ = true

abbrev pub IsFrame : Option TopShape → Type 0
IsFrame None = ⊥
IsFrame (Some t) = IsTrue (is_frame t)

abbrev pub over_top : Over → TopShape
over_top over_pcall = pcall_top
over_top (over_xpcall h) = xpcall_top
over_top over_handler = handler_top

abbrev pub IsClosing : Option TopShape → Type 0
IsClosing (Some closing_top) = Unit {0}
IsClosing _ = ⊥

-- what a move needs

abbrev pub own_needs : Own → (credit : ℕ) → Type 0
own_needs (mark_pending r) c = IsTrue (nat_le 20 c)
own_needs _ c = Unit {0}

abbrev pub lua_needs : (rich : Bool) (credit : ℕ) (seen : Option ℕ) (runs : Bool) → Move → Type 0
lua_needs rich c seen runs (on_own m) = own_needs m c
lua_needs true c seen runs (move_pc z) = Unit {0}
lua_needs false c seen runs (move_pc z) = IsForward z
lua_needs rich c seen runs (enter f slot wait prepared) = IsTrue (list_all no_mark prepared) × IsTrue (is_small wait)
lua_needs rich c seen runs (await f slot wait prepared) = IsTrue (list_all no_mark prepared) × (wait_weight wait ≤ c + saved seen prepared)
lua_needs rich c seen runs (enter_tail f slot) = IsTrue runs
lua_needs rich c seen runs _ = Unit {0}

abbrev pub other_needs : (rich : Bool) (credit : ℕ) (top : Option TopShape) → Move → Type 0
other_needs rich c top (on_own m) = own_needs m c
other_needs rich c top (push_frame over) = IsTrue (nat_le 3 c)
other_needs rich c top pop_frame = IsFrame top
other_needs rich c top take_closing = IsClosing top
other_needs rich c top (set_error x) = IsClosing top
other_needs rich c top (resume x slot) = IsTrue rich × IsTrue (nat_le 100 c)
other_needs rich c top (begin_closing x) = IsTrue (nat_le 100 c)
other_needs rich c top (create x) = IsTrue (nat_le 5 c)
other_needs rich c top _ = Unit {0}

abbrev pub Needs : Phase → Move → Type 0
Needs (on_lua rich c seen runs) m = lua_needs rich c seen runs m
Needs (anywhere rich c top) m = other_needs rich c top m
Needs (tail_refused c) m = IsTrue (nat_le c 100)
Needs ended m = Unit {0}

-- where the row stands behind it

abbrev pub after_own : Own → (rich : Bool) (credit : ℕ) (runs : Bool) → Shape → Phase
after_own (see_pending r) rich c runs t = on_lua rich c (seen_by r t) runs
after_own (mark_pending r) rich c runs t = on_lua rich (c - 20) None runs
after_own _ rich c runs t = on_lua rich c None runs

abbrev pub after_pay : (rich : Bool) (credit : ℕ) (runs paid : Bool) → Phase
after_pay rich c runs true = on_lua true (c + 3000) None runs
after_pay rich c runs false = ended

abbrev pub after_enter : CallShape → Phase → Phase
after_enter is_entered x = anywhere false 1 None
after_enter (is_primitive n) x = anywhere true 101 None
after_enter not_paid x = ended
after_enter (not_entered text) x = x

abbrev pub after_move_pc : (rich : Bool) (credit : ℕ) (runs : Bool) → Phase
after_move_pc true c runs = on_lua false c None runs
after_move_pc false c runs = on_lua false (c + 40) None runs

abbrev pub lua_next : (rich : Bool) (credit : ℕ) (seen : Option ℕ) (runs : Bool) → (m : Move) → Told m → After
lua_next rich c seen runs (on_own m) t = stands (after_own m rich c runs t)
lua_next rich c seen runs (move_pc z) t = stands (after_move_pc rich c runs)
lua_next rich c seen runs (open_register r) t = stands (on_lua rich c None runs)
lua_next rich c seen runs (outside pay) t = stands (after_pay rich c runs t)
lua_next rich c seen runs (outside q) t = stands (on_lua rich c None runs)
lua_next rich c seen runs (settle op xs) t = stands (on_lua rich c None runs)
lua_next rich c seen runs (enter f slot wait prepared) t = stands (after_enter t (on_lua false c None false))
lua_next rich c seen runs (enter_tail f slot) t = stands (after_enter t (tail_refused c))
lua_next rich c seen runs (await f slot wait prepared) t = stands (anywhere false (c + saved seen prepared - wait_weight wait) None)
lua_next rich c seen runs (find_close v e) t = stands (on_lua rich c seen runs)
lua_next rich c seen runs (is_closable v) t = stands (on_lua rich c seen runs)
lua_next rich c seen runs (begin_leaving text) t = stands (anywhere rich c (Some lua_top))
lua_next rich c seen runs (leave_frame given) t = stands (anywhere rich (c + 3) (Some t))
lua_next rich c seen runs take_moving t = stands (on_lua rich c seen runs)
lua_next rich c seen runs _ t = not_made

abbrev pub after_resume : (credit : ℕ) → ResumeShape → After
after_resume c (resumed is_entered) = stands (anywhere false 50 None)
after_resume c (resumed (is_primitive n)) = stands (anywhere true (c + 2) None)
after_resume c (resumed not_paid) = not_told
after_resume c (resumed (not_entered text)) = stands (anywhere false 50 None)
after_resume c (refused text) = stands (anywhere false 50 None)

abbrev pub after_beginning : ResumeShape → After
after_beginning (resumed is_entered) = stands (anywhere false 50 (Some closing_top))
after_beginning (resumed (is_primitive n)) = not_told
after_beginning (resumed not_paid) = not_told
after_beginning (resumed (not_entered text)) = stands (anywhere false 50 None)
after_beginning (refused text) = stands (anywhere false 50 None)

abbrev pub after_closing : ClosingShape → (rich : Bool) (credit : ℕ) → Phase
after_closing one_left rich c = anywhere rich (c + 20) (Some closing_top)
after_closing _ rich c = anywhere rich c (Some closing_top)

abbrev pub after_push : Over → (rich : Bool) (credit : ℕ) (top : Option TopShape) (room : Bool) → Phase
after_push over rich c top true = anywhere rich (c - 3) (Some (over_top over))
after_push over rich c top false = anywhere rich c top

-- moves of a Lua frame, where one is known to be on top
abbrev pub if_lua : Option TopShape → After → After
if_lua (Some lua_top) x = x
if_lua _ x = not_made

abbrev pub other_next : (rich : Bool) (credit : ℕ) (top : Option TopShape) → (m : Move) → Told m → After
other_next rich c top (on_own m) t = if_lua top (stands (after_own m rich c false t))
other_next rich c top (leave_frame given) t = if_lua top (stands (anywhere rich (c + 3) (Some t)))
other_next rich c top take_moving t = stands (anywhere rich c top)
other_next rich c top (look x) t = stands (anywhere rich c top)
other_next rich c top (give xs) t = stands (anywhere rich c top)
other_next rich c top (give_with xs slot) t = stands (anywhere rich c top)
other_next rich c top (blame text) t = stands (anywhere rich c top)
other_next rich c top (place_text x level) t = stands (anywhere rich c top)
other_next rich c top (find_close v e) t = stands (anywhere rich c top)
other_next rich c top (see_status x) t = stands (anywhere rich c top)
other_next rich c top see_running t = stands (anywhere rich c top)
other_next rich c top (print x) t = stands (anywhere rich c top)
other_next rich c top (consult l slot) t = stands (anywhere rich c top)
other_next rich c top (push_frame over) t = stands (after_push over rich c top t)
other_next rich c top (call_value f slot) t = stands (after_enter t (anywhere rich c top))
other_next rich c top see_top t = cond (may_be top t) (stands (anywhere rich c (Some t))) not_told
other_next rich c top see_catcher t = stands (anywhere rich c top)
other_next rich c top pop_frame t = stands (anywhere rich (c + 3) None)
other_next rich c top take_closing t = stands (after_closing t rich c)
other_next rich c top (set_error x) t = stands (anywhere rich c (Some closing_top))
other_next rich c top end_coroutine t = stands (anywhere rich (c + 3) None)
other_next rich c top (fail_coroutine x) t = stands (anywhere rich (c + 3) None)
other_next rich c top suspend t = stands (anywhere rich (c + 3) None)
other_next rich c top (resume x slot) t = after_resume c t
other_next rich c top (begin_closing x) t = after_beginning t
other_next rich c top (create x) t = stands (anywhere rich (c - 5) None)
other_next rich c top (begin_leaving text) t = stands (anywhere rich c (Some lua_top))
other_next rich c top _ t = not_made

abbrev pub next : Phase → (m : Move) → Told m → After
next (on_lua rich c seen runs) m t = lua_next rich c seen runs m t
next (anywhere rich c top) m t = other_next rich c top m t
next (tail_refused c) (begin_leaving text) t = stands (anywhere false c (Some lua_top))
next _ m t = not_made

-- how a row may end

abbrev pub EndsLow : Ending → Phase → Type 0
EndsLow spent x = Unit {0}
EndsLow main_yielded x = Unit {0}
EndsLow main_returned x = Unit {0}
EndsLow main_failed x = Unit {0}
EndsLow go (on_lua rich c seen true) = 30 < c
EndsLow go (anywhere rich c top) = 0 < c
EndsLow returned (anywhere rich c top) = 1 < c
EndsLow unwinding (anywhere rich c top) = 2 < c
EndsLow raised (anywhere rich c top) = 7 < c
EndsLow asks (anywhere rich c top) = asks_weight top < c
EndsLow (calls_primitive n) (anywhere true c top) = 100 < c
EndsLow _ _ = ⊥

-- a row that makes the measure smaller, or ends the turn

abbrev pub Falls : Phase → Row → Type 0
Falls x traps = Unit {0}
Falls x (stop e) = EndsLow e x
Falls x (only slot r) = Falls x r
Falls x (act m k) = Needs x m × ((n : ℕ) (t : Told m) → elim (next x m t) [ not_made ↦ ⊥ | not_told ↦ Unit {0} | stands y ↦ Falls y (k n t) ])

-- The second reading of a text, over whole worlds; the rows of the frames that are not Lua functions', of errors on their way, and of the
-- moves between coroutines; and the machine's step (ldo.c, lcorolib.c of Lua 5.4; Lua 5.4 manual, 2.3, 2.6 and 3.3.8).
use Rattle.std.specs.Prelude.{ℕ, suc, true, false, cond, List, [], ◌∷◌, ◌++◌, codes}
use Rattle.int_core.specs.Value.{boolean, string}
use Rattle.int_core.specs.Limits.{stack_overflow}
use Rattle.machine_core.specs.World.{Wait}
use Rattle.machine_core.specs.Text.{Arg, read, written, Own, Quick, pay, Text, go_by, own, open_cell, quick, operate, call, tail_call, close, closable, raise, leave, trap, Given, results, thrown}
use Rattle.machine_core.specs.InstructionRows.{fails}
use Rattle.machine_core.specs.Moves.{Over, over_handler, Move, on_own, move_pc, open_register, outside, settle, enter, enter_tail, await, find_close, is_closable, begin_leaving, leave_frame, take_moving, give, give_with, blame, push_frame, call_value, see_top, see_catcher, pop_frame, take_closing, set_error, end_coroutine, fail_coroutine, is_found, is_asked, is_fault, CallShape, is_entered, is_primitive, not_paid, not_entered, TopShape, lua_top, pcall_top, xpcall_top, handler_top, closing_top, no_top, ClosingShape, one_left, all_closed, closed_with_error, go, returned, asks, calls_primitive, raised, unwinding, spent, main_returned, main_failed, Row, traps, stop, only, act}

abbrev pub then : Move → Row → Row
then m r = act m (λ _ _. r)

-- what moves is for the frame on top
abbrev pub handed : TopShape → Row
handed lua_top = stop go
handed _ = stop returned

abbrev pub hand_over : Row
hand_over = act see_top (λ _ top. handed top)

-- the frame on top is a Lua frame, and its own step is at fault: it begins to be left at once
abbrev pub raises : List ℕ → Row
raises text = then (begin_leaving text) (stop raised)

abbrev pub after_call : CallShape → Row
after_call is_entered = stop go
after_call (is_primitive n) = stop (calls_primitive n)
after_call not_paid = stop spent
after_call (not_entered text) = raises text

abbrev pub call_row : Arg → ℕ → Wait Arg → List Own → Row
call_row f slot wait prepared = act (enter f slot wait prepared) (λ _ s. after_call s)

-- the frame waits, and what it asks for is called in a step of its own
abbrev pub ask_row : Arg → ℕ → Wait Arg → List Own → Row
ask_row f slot wait prepared = then (await f slot wait prepared) (stop asks)

-- when a text's calls are done: in the step of a frame that runs, or after that of one that goes on with what came
pub data When : Type 0 where
  at_once : When
  by_asking : When

abbrev pub calls_row : When → Arg → ℕ → Wait Arg → List Own → Row
calls_row at_once f slot wait prepared = call_row f slot wait prepared
calls_row by_asking f slot wait prepared = ask_row f slot wait prepared

abbrev pub prepares : List Own → Row → Row
prepares [] r = r
prepares (m ∷ ms) r = then (on_own m) (prepares ms r)

-- an error that leaves a frame goes on to the next one
abbrev pub after_leaving : Given → TopShape → Row
after_leaving (results slot) top = handed top
after_leaving (thrown x) top = stop unwinding

abbrev pub leave_row : Given → Row
leave_row given = act (leave_frame given) (λ _ top. after_leaving given top)

abbrev pub quick_row : Quick → (ℕ → Row) → Row
quick_row pay k = act (outside pay) (λ n paid. cond paid (k n) (stop spent))
quick_row q k = act (outside q) (λ n _. k n)

-- second reading
abbrev pub expand_by : When → Text → Row
expand_by when (go_by z) = then (move_pc z) (stop go)
expand_by when (own m k) = act (on_own m) (λ n s. expand_by when (k n s))
expand_by when (open_cell r t) = then (open_register r) (expand_by when t)
expand_by when (quick q k) = quick_row q (λ n. expand_by when (k n))
expand_by when (operate op xs wait prepared t) = act (settle op xs) (λ n s. elim s [
  | is_found ↦ prepares prepared (only n (expand_by when t))
  | is_asked ↦ calls_row when (read n) (suc n) wait prepared
  | is_fault text ↦ prepares prepared (raises text)
])
expand_by when (call f slot wait prepared) = calls_row when f slot wait prepared
expand_by when (tail_call f slot) = act (enter_tail f slot) (λ _ s. after_call s)
expand_by when (close v e wait prepared) = act (find_close v e) (λ n _. calls_row when (read n) (suc n) wait prepared)
expand_by when (closable v name t) = act (is_closable v) (λ _ yes. cond yes (expand_by when t) (raises (codes "variable '" ++ name ++ codes "' got a non-closable value")))
expand_by when (raise text) = raises text
expand_by when (leave given) = leave_row given
expand_by when trap = traps

-- of a frame that runs, and of one that goes on
abbrev pub expand : Text → Row
expand t = expand_by at_once t

abbrev pub goes_on_by : Text → Row
goes_on_by t = expand_by by_asking t

-- errors

abbrev pub error_in_handler : Arg
error_in_handler = written (string (codes "error in error handling"))

abbrev pub gives_up : Row
gives_up = then (give (error_in_handler ∷ [])) (stop unwinding)

-- an error that nothing in a resumed coroutine catches
abbrev pub coroutine_fails : Row
coroutine_fails = act take_moving (λ e _. then (fail_coroutine (read e)) (then (give (written (boolean false) ∷ read e ∷ [])) hand_over))

-- the message handler is called before any frame is left
abbrev pub raised_to : TopShape → (h : ℕ) → Row
raised_to xpcall_top h = act take_moving (λ e _. act (push_frame over_handler) (λ _ room. cond room (then (give_with (read h ∷ []) e) (stop asks)) gives_up))
raised_to (no_top false) h = coroutine_fails
raised_to _ h = stop unwinding

abbrev pub raised_row : Row
raised_row = act see_catcher (λ h top. raised_to top h)

-- `pcall` and `xpcall` answer false and the error
abbrev pub caught : Row
caught = act take_moving (λ e _. then pop_frame (then (give (written (boolean false) ∷ read e ∷ [])) hand_over))

abbrev pub blames : List ℕ → Row
blames text = then (blame text) (stop raised)

-- a value is called over a frame that is pushed for it
abbrev pub over_frame : Over → Row → Row
over_frame over r = act (push_frame over) (λ _ room. cond room r (blames stack_overflow))

-- what was asked for is called; where it cannot be, it is the error of the frame on top
abbrev pub refused_under : TopShape → List ℕ → Row
refused_under lua_top text = raises text
refused_under handler_top text = gives_up
refused_under top text = blames text

abbrev pub after_asked : CallShape → Row
after_asked is_entered = stop go
after_asked (is_primitive n) = stop (calls_primitive n)
after_asked not_paid = stop spent
after_asked (not_entered text) = act see_top (λ _ top. refused_under top text)

abbrev pub asked_row : Row
asked_row = act take_moving (λ f _. act (call_value (read f) (suc f)) (λ _ s. after_asked s))

-- what `coroutine.close` goes on with: the methods are called one after another
abbrev pub closing_by : ClosingShape → (slot : ℕ) → Row
closing_by one_left v = act (find_close (read v) (read (suc v))) (λ h _. then (give_with (read h ∷ []) (suc h)) (stop asks))
closing_by all_closed v = then pop_frame (then (give (written (boolean true) ∷ [])) hand_over)
closing_by closed_with_error v = then pop_frame (then (give (written (boolean false) ∷ read v ∷ [])) hand_over)

abbrev pub closing_row : Row
closing_row = act take_closing (λ v s. closing_by s v)

-- an error reaches the frame on top; the main script fails with it
abbrev pub unwound : TopShape → Row
unwound lua_top = act take_moving (λ _ _. goes_on_by fails)
unwound pcall_top = caught
unwound xpcall_top = caught
unwound handler_top = then pop_frame gives_up
unwound closing_top = act take_moving (λ e _. then (set_error (read e)) closing_row)
unwound (no_top true) = act take_moving (λ e _. then (give (read e ∷ [])) (then (fail_coroutine (read e)) (stop main_failed)))
unwound (no_top false) = coroutine_fails

-- results reach it
abbrev pub handed_to : TopShape → Row
handed_to pcall_top = act take_moving (λ v _. then pop_frame (then (give_with (written (boolean true) ∷ []) v) hand_over))
handed_to xpcall_top = act take_moving (λ v _. then pop_frame (then (give_with (written (boolean true) ∷ []) v) hand_over))
handed_to handler_top = act take_moving (λ v _. then pop_frame (then (give (read v ∷ [])) (stop unwinding)))
handed_to closing_top = act take_moving (λ _ _. closing_row)
handed_to (no_top true) = then end_coroutine (stop main_returned)
handed_to (no_top false) = act take_moving (λ v _. then end_coroutine (then (give_with (written (boolean true) ∷ []) v) hand_over))
handed_to lua_top = stop go

-- the whole rows look at what is on top first
abbrev pub results_row : Row
results_row = act see_top (λ _ top. handed_to top)

abbrev pub unwinding_row : Row
unwinding_row = act see_top (λ _ top. unwound top)

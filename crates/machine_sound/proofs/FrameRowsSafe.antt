-- The rows of frames that are no Lua functions', of errors on their way, and of the primitives that move frames and coroutines are safe.
use Rattle.std.proofs.Common.{◌≡◌, ◌≤◌, ap, ◌∙◌, List, [], ◌∷◌, ◌++◌, Option, Some, None, refl, subst, sym, length, Bool, true, false}
use Rattle.std.specs.Prelude.{ℕ, zero, suc, ℤ, pos, negsuc, cond, codes}
use Rattle.int_core.specs.Value.{Value, boolean, object, a_table, a_function, a_coroutine, Shape, is_known, is_object, shape, greatest_string}
use Rattle.int_core.specs.Limits.{stack_overflow}
use Rattle.library_rows.specs.Look.{Look}
use Rattle.machine_core.specs.Text.{read, written, arg}
use Rattle.machine_core.specs.Moves.{Over, over_pcall, give, asks, main_failed, CallShape, is_entered, is_primitive, not_paid, not_entered, TopShape, lua_top, pcall_top, xpcall_top, handler_top, closing_top, no_top, ResumeShape, resumed, refused, Row, stop, act, see_top, main_returned, give_with, main_yielded, take_moving, create, Status, is_suspended}
use Rattle.machine_core.specs.FrameRows.{raises, handed, hand_over, error_in_handler, gives_up, raised_to, raised_row, caught, blames, over_frame, refused_under, after_asked, asked_row, closing_by, closing_row, unwound, handed_to}
use Rattle.machine_core.specs.InstructionRows.{fails}
use Rattle.machine_core.specs.MachineStep.{pcall_row, xpcall_row, level_in, errs_at, error_row, after_entry, after_resume, resumes, resume_row, yield_row, after_closing, closes_coroutine, close_row, gives_back, can_call, wrong_type, creates, create_row, status_word, sees_status, status_row, running_row, yieldable_row, print_row, after_look, look_row}
use Rattle.machine_sound.specs.Sound.{Top, FitsIfRuns}
use Rattle.machine_sound.specs.Safe.{Phase, on_lua, waiting, handing, HeldLua, OverOk, SeenTop, seen_lua, seen_other, ClosingEvent, takes_one, takes_none, takes_error, IsNoLua, IsOtherTop, RefusalOk, after_catcher, after_end, after_over, after_resuming, after_beginning, after_handing, see_leads, LookOk, LookEvent, gave, refused_with, raised_with, look_values, look_told, EndsWell, Safe, closing_values, closing_told}
use Rattle.machine_sound.proofs.Values.{le_of}
use Rattle.machine_sound.proofs.Rests.{fails_safe}
use Rattle.machine_sound.proofs.Asking.{asking_safe}
use Rattle.std.proofs.lemmas.List.{append-nil}

held_ends : (b : Bool) (t : Top) → b ≡ false → FitsIfRuns b t
held_ends true t e = absurd (cc)
held_ends false t e = tt

-- what moves is for whatever is on top

other_handed : (s : TopShape) (env : List Value) → Safe (waiting (Some s)) env (handed s)
other_handed lua_top env = tt
other_handed _ env = tt

pub hand_over_safe : (s : Option TopShape) (env : List Value) → Safe (waiting s) env hand_over
hand_over_safe s env = (tt, λ e. from e)
  where
    from : (e : SeenTop) → Safe (see_leads e).phase (env ++ (see_leads e).values) (handed (see_leads e).told)
    from (seen_lua held) = held_ends held.top.runs held.top held.waits
    from (seen_other k l) = other_handed k (env ++ [])

handing_safe : (env : List Value) → Safe handing env hand_over
handing_safe env = (tt, λ e. from e)
  where
    from : (k : TopShape) → Safe (after_handing k) (env ++ []) (handed k)
    from lua_top = tt
    from _ = tt

-- calls

entry_safe : (env : List Value) (c : CallShape) → Safe (after_over c) env (after_entry c)
entry_safe env is_entered = tt
entry_safe env (is_primitive n) = refl
entry_safe env not_paid = tt
entry_safe env (not_entered text) = (tt, λ _. tt)

gives_up_safe : (s : Option TopShape) (env : List Value) → Safe (waiting s) env gives_up
gives_up_safe s env = ((le_of _ greatest_string refl, tt), λ _. tt)

held_raises : (held : HeldLua) (env : List Value) (text : List ℕ) → Safe (on_lua held.top) env (raises text)
held_raises held env text = (held.place, λ _. tt)

-- what was asked for is called
pub asked_safe : Safe (waiting None) [] asked_row
asked_safe = (tt, λ vs. (tt, λ c. from ([] ++ vs ++ []) c))
  where
    other : (s : TopShape) → IsNoLua s → (env : List Value) (text : List ℕ) → Safe (waiting (Some s)) env (refused_under s text)
    other lua_top k env text = absurd k
    other pcall_top k env text = (tt, λ _. tt)
    other xpcall_top k env text = (tt, λ _. tt)
    other handler_top k env text = gives_up_safe (Some handler_top) env
    other closing_top k env text = (tt, λ _. tt)
    other (no_top b) k env text = (tt, λ _. tt)

    seen : (e : SeenTop) (env : List Value) (text : List ℕ) → Safe (see_leads e).phase (env ++ (see_leads e).values) (refused_under (see_leads e).told text)
    seen (seen_lua held) env text = held_raises held (env ++ []) text
    seen (seen_other s k) env text = other s k (env ++ []) text

    from : (env : List Value) (c : CallShape) → Safe (after_over c) env (after_asked c)
    from env is_entered = tt
    from env (is_primitive n) = refl
    from env not_paid = tt
    from env (not_entered text) = (tt, λ e. seen e env text)

-- a frame is pushed, and what is then given asked for
over_safe : (over : Over) (env : List Value) (r : Row) → OverOk over → ((s : Option TopShape) (env : List Value) → Safe (waiting s) env r) → Safe (waiting None) env (over_frame over r)
over_safe over env r o k = (o, λ room. from room)
  where
    from : (room : Bool) → Safe (waiting None) (env ++ []) (cond room r (blames stack_overflow))
    from true = k None (env ++ [])
    from false = (tt, λ _. tt)

-- errors

pub raised_safe : Safe (waiting None) [] raised_row
raised_safe = (tt, λ e. from e.0 e.1)
  where
    from : (s : TopShape) (vs : List Value) → Safe (after_catcher s) vs (raised_to s 0)
    from xpcall_top vs = (tt, λ es. (tt, λ room. called room vs es))
      where
        called : (room : Bool) (vs es : List Value) → Safe (waiting None) ((vs ++ es) ++ []) (cond room (Rattle.machine_core.specs.FrameRows.then (give_with (read 0 ∷ []) (length vs)) (stop asks)) gives_up)
        called true vs es = ((tt, tt), λ _. tt)
        called false vs es = gives_up_safe None ((vs ++ es) ++ [])
    from (no_top true) vs = tt
    from (no_top false) vs = (tt, λ es. (tt, λ _. ((tt, (tt, tt)), λ _. hand_over_safe None (((vs ++ es) ++ []) ++ []))))
    from lua_top vs = tt
    from pcall_top vs = tt
    from handler_top vs = tt
    from closing_top vs = tt

caught_safe : (s : TopShape) (env : List Value) → IsOtherTop (Some s) → Safe (waiting (Some s)) env caught
caught_safe s env k = (tt, λ es. (k, λ _. ((tt, (tt, tt)), λ _. hand_over_safe None (((env ++ es) ++ []) ++ []))))

closing_row_safe : (env : List Value) → Safe (waiting (Some closing_top)) env closing_row
closing_row_safe env = (tt, λ e. from e)
  where
    from : (e : ClosingEvent) → Safe (waiting (Some closing_top)) (env ++ closing_values e) (closing_by (closing_told e) (length env))
    from (takes_one v x) = ((tt, tt), λ h. ((tt, tt), λ _. tt))
    from takes_none = (tt, λ _. ((tt, tt), λ _. hand_over_safe None _))
    from (takes_error x) = (tt, λ _. ((tt, (tt, tt)), λ _. hand_over_safe None _))

main_ends : (b : Bool) → Some (no_top true) ≡ Some (no_top b) → EndsWell main_failed (after_end b)
main_ends true e = tt
main_ends false e = absurd (cc)

other_ends : (b : Bool) (env : List Value) → Some (no_top false) ≡ Some (no_top b) → Safe (after_end b) env (Rattle.machine_core.specs.FrameRows.then (give (written (boolean false) ∷ read 0 ∷ [])) hand_over)
other_ends true env e = absurd (cc)
other_ends false env e = ((tt, (tt, tt)), λ _. hand_over_safe None (env ++ []))

pub unwinding_safe : Safe (waiting None) [] (act see_top (λ _ top. unwound top))
unwinding_safe = (tt, λ e. from e)
  where
    other : (s : TopShape) → IsNoLua s → Safe (waiting (Some s)) [] (unwound s)
    other lua_top k = absurd k
    other pcall_top k = caught_safe pcall_top [] tt
    other xpcall_top k = caught_safe xpcall_top [] tt
    other handler_top k = (tt, λ _. gives_up_safe None [])
    other closing_top k = (tt, λ es. ((tt, tt), λ _. closing_row_safe (es ++ [])))
    other (no_top true) k = (tt, λ es. ((tt, tt), λ _. ((tt, tt), λ e. main_ends e.in_main e.is)))
    other (no_top false) k = (tt, λ es. ((tt, tt), λ e. other_ends e.in_main (([] ++ es) ++ []) e.is))

    from : (e : SeenTop) → Safe (see_leads e).phase ([] ++ (see_leads e).values) (unwound (see_leads e).told)
    from (seen_lua held) = (tt, λ vs. asking_safe fails (on_lua held.top) vs (fails_safe held.top vs held.place held.pending))
    from (seen_other k l) = other k l

-- results

ended_main : (b : Bool) → Some (no_top true) ≡ Some (no_top b) → EndsWell main_returned (after_end b)
ended_main true e = tt
ended_main false e = absurd (cc)

ended_other : (b : Bool) (env : List Value) (r : Row) → Some (no_top false) ≡ Some (no_top b) → Safe (waiting None) env r → Safe (after_end b) env r
ended_other true env r e s = absurd (cc)
ended_other false env r e s = s

pub returned_safe : Safe (waiting None) [] (act see_top (λ _ top. handed_to top))
returned_safe = (tt, λ e. from e)
  where
    other : (s : TopShape) → IsNoLua s → Safe (waiting (Some s)) [] (handed_to s)
    other lua_top k = absurd k
    other pcall_top k = (tt, λ vs. (tt, λ _. ((tt, tt), λ _. hand_over_safe None ((vs ++ []) ++ []))))
    other xpcall_top k = (tt, λ vs. (tt, λ _. ((tt, tt), λ _. hand_over_safe None ((vs ++ []) ++ []))))
    other handler_top k = (tt, λ vs. (tt, λ _. ((tt, tt), λ _. tt)))
    other closing_top k = (tt, λ vs. closing_row_safe vs)
    other (no_top true) k = (tt, λ e. ended_main e.in_main e.is)
    other (no_top false) k = (tt, λ vs. (tt, λ e. ended_other e.in_main (vs ++ []) (Rattle.machine_core.specs.FrameRows.then (give_with (written (boolean true) ∷ []) 0) hand_over) e.is ((tt, tt), λ _. hand_over_safe None ((vs ++ []) ++ []))))

    from : (e : SeenTop) → Safe (see_leads e).phase ([] ++ (see_leads e).values) (handed_to (see_leads e).told)
    from (seen_lua held) = held_ends held.top.runs held.top held.waits
    from (seen_other k l) = other k l

-- primitives

pub pcall_safe : Safe (waiting None) [] pcall_row
pcall_safe = (tt, λ vs. over_safe over_pcall vs _ tt (λ s env. ((tt, tt), λ _. tt)))

pub xpcall_safe : Safe (waiting None) [] xpcall_row
xpcall_safe = (tt, λ vs. over_safe over_pcall vs _ tt (λ s env. ((tt, tt), λ _. tt)))

pub error_safe : Safe (waiting None) [] error_row
error_safe = (tt, λ vs. (tt, λ _. from (shape (arg vs (read 1))) (vs ++ []) (level_in (shape (arg vs (read 1))))))
  where
    from : (s : Shape) (env : List Value) (level : Option ℤ) → Safe (waiting None) env (errs_at 0 s level)
    from s env None = (tt, λ _. tt)
    from s env (Some (pos zero)) = ((tt, tt), λ _. tt)
    from s env (Some (pos (suc n))) = (tt, λ v. ((tt, tt), λ _. tt))
    from s env (Some (negsuc n)) = ((tt, tt), λ _. tt)

resumed_safe : (env : List Value) (r : ResumeShape) → RefusalOk r → Safe (after_resuming r) env (after_resume r)
resumed_safe env (resumed is_entered) k = handing_safe env
resumed_safe env (resumed (is_primitive n)) k = refl
resumed_safe env (resumed not_paid) k = tt
resumed_safe env (resumed (not_entered text)) k = (tt, λ _. tt)
resumed_safe env (refused text) k = ((tt, (k, tt)), λ _. hand_over_safe None (env ++ []))

-- nothing was read
nothing_more : (x : Phase) (env : List Value) (r : Row) → Safe x env r → Safe x (env ++ []) r
nothing_more x env r s = subst (λ l. Safe x l r) (sym (append-nil env)) s

pub resume_safe : Safe (waiting None) [] resume_row
resume_safe = (tt, λ vs. (tt, λ _. nothing_more (waiting None) vs (resumes (shape (arg vs (read 0))) 0) (from vs (shape (arg vs (read 0))) refl)))
  where
    from : (vs : List Value) (s : Shape) → shape (arg vs (read 0)) ≡ s → Safe (waiting None) vs (resumes s 0)
    from vs (is_object a_coroutine) e = (e, λ r. resumed_safe (vs ++ []) r.outcome r.right)
    from vs (is_object a_table) e = (tt, λ _. tt)
    from vs (is_object a_function) e = (tt, λ _. tt)
    from vs (is_known p) e = (tt, λ _. tt)

pub yield_safe : Safe (waiting None) [] yield_row
yield_safe = (tt, λ b. from b)
  where
    from : (b : Bool) → Safe (after_end b) [] (cond b (stop main_yielded) (act take_moving (λ v _. Rattle.machine_core.specs.FrameRows.then (give_with (written (boolean true) ∷ []) v) hand_over)))
    from true = tt
    from false = (tt, λ vs. ((tt, tt), λ _. hand_over_safe None (vs ++ [])))

begun_safe : (env : List Value) (r : ResumeShape) → Safe (after_beginning r) env (after_closing r)
begun_safe env (resumed is_entered) = closing_row_safe env
begun_safe env (resumed (is_primitive n)) = refl
begun_safe env (resumed not_paid) = tt
begun_safe env (resumed (not_entered text)) = (tt, λ _. tt)
begun_safe env (refused text) = (tt, λ _. tt)

pub close_safe : Safe (waiting None) [] close_row
close_safe = (tt, λ vs. (tt, λ _. nothing_more (waiting None) vs (closes_coroutine (shape (arg vs (read 0))) 0) (from vs (shape (arg vs (read 0))) refl)))
  where
    from : (vs : List Value) (s : Shape) → shape (arg vs (read 0)) ≡ s → Safe (waiting None) vs (closes_coroutine s 0)
    from vs (is_object a_coroutine) e = (e, λ r. begun_safe (vs ++ []) r.outcome)
    from vs (is_object a_table) e = (tt, λ _. tt)
    from vs (is_object a_function) e = (tt, λ _. tt)
    from vs (is_known p) e = (tt, λ _. tt)

-- a function or a primitive, or an error
create_by : (vs : List Value) (s : Shape) → shape (arg vs (read 0)) ≡ s → (b : Bool) → can_call s ≡ b → Safe (waiting None) vs (cond b (act (create (read 0)) (λ co _. gives_back (read co ∷ []))) (blames (wrong_type 1 (codes "create") (codes "function") s)))
create_by vs s e true c = ((tt, ap can_call e ∙ c), λ co. ((tt, tt), λ _. hand_over_safe None ((vs ++ object a_coroutine co ∷ []) ++ [])))
create_by vs s e false c = (tt, λ _. tt)

pub create_safe : Safe (waiting None) [] create_row
create_safe = (tt, λ vs. (tt, λ _. nothing_more (waiting None) vs (creates (shape (arg vs (read 0))) 0) (create_by vs (shape (arg vs (read 0))) refl (can_call (shape (arg vs (read 0)))) refl)))

word_fits : (s : Status) → length (status_word s) ≤ greatest_string
word_fits is_suspended = le_of _ greatest_string refl
word_fits _ = le_of _ greatest_string refl

pub status_safe : Safe (waiting None) [] status_row
status_safe = (tt, λ vs. (tt, λ _. nothing_more (waiting None) vs (sees_status (shape (arg vs (read 0))) 0) (from vs (shape (arg vs (read 0))) refl)))
  where
    from : (vs : List Value) (s : Shape) → shape (arg vs (read 0)) ≡ s → Safe (waiting None) vs (sees_status s 0)
    from vs (is_object a_coroutine) e = (e, λ status. ((word_fits status, tt), λ _. hand_over_safe None ((vs ++ []) ++ [])))
    from vs (is_object a_table) e = (tt, λ _. tt)
    from vs (is_object a_function) e = (tt, λ _. tt)
    from vs (is_known p) e = (tt, λ _. tt)

pub running_safe : Safe (waiting None) [] running_row
running_safe = (tt, λ co. ((tt, (tt, tt)), λ _. hand_over_safe None ((object a_coroutine co ∷ []) ++ [])))

pub yieldable_safe : Safe (waiting None) [] yieldable_row
yieldable_safe = ((tt, tt), λ _. hand_over_safe None [])

pub print_safe : Safe (waiting None) [] print_row
print_safe = (tt, λ vs. (tt, λ _. hand_over_safe None (vs ++ [])))

-- a library row that looks at values and tables alone, where what it writes out is right
pub look_safe : (l : Look) → LookOk l → Safe (waiting None) [] (look_row l)
look_safe l k = (tt, λ vs. (k, λ e. from vs e))
  where
    from : (vs : List Value) (e : LookEvent) → Safe (waiting None) (vs ++ look_values e) (after_look (length vs) (look_told e))
    from vs (gave ws) = (tt, λ _. hand_over_safe None ((vs ++ ws) ++ []))
    from vs (refused_with text) = (tt, λ _. tt)
    from vs (raised_with v) = ((tt, tt), λ _. tt)

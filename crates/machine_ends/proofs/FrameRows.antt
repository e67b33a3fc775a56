-- Rows of frames that are no Lua functions', of errors on their way, and of primitives make the measure smaller.
use Rattle.std.proofs.Common.{ℕ, zero, suc, ◌≡◌, ◌+◌, ◌<◌, List, [], ◌∷◌, Option, Some, None, refl, arith, Bool, true, false, cond}
use Rattle.std.specs.Prelude.{ℤ, pos, negsuc, codes, slice_get}
use Rattle.int_core.specs.Limits.{stack_overflow}
use Rattle.int_core.specs.Value.{boolean, a_coroutine, Shape, is_object}
use Rattle.library_rows.specs.Look.{Look}
use Rattle.library_rows.specs.Library.{Primitive, base_error, base_pcall, base_xpcall, coroutine_close, coroutine_create, coroutine_isyieldable, coroutine_resume, coroutine_running, coroutine_status, coroutine_yield, prelude_build, prelude_out, Entry, all_entries, row_of}
use Rattle.machine_core.specs.Text.{written, read}
use Rattle.machine_core.specs.InstructionRows.{fails}
use Rattle.machine_core.specs.Moves.{create as make_coroutine, Over, over_pcall, over_xpcall, over_handler, take_moving, give_with, see_top, CallShape, is_entered, is_primitive, not_paid, not_entered, TopShape, lua_top, pcall_top, xpcall_top, handler_top, closing_top, no_top, ClosingShape, one_left, all_closed, closed_with_error, ResumeShape, resumed, refused, LookShape, is_given, is_refused, is_raised, Row, traps, stop, act, asks, main_yielded}
use Rattle.machine_core.specs.FrameRows.{then, handed, hand_over, raises, goes_on_by, gives_up, coroutine_fails, raised_to, raised_row, caught, blames, refused_under, after_asked, asked_row, closing_by, closing_row, unwound, handed_to, over_frame}
use Rattle.machine_core.specs.MachineStep.{errs_at, level_in, after_resume, resumes, after_closing, closes_coroutine, can_call, creates, sees_status, after_look, look_row, yield_row, gives_back, wrong_type}
use Rattle.machine_core.specs.PrimitiveRows.{own_row, primitive_row, row_numbered}
use Rattle.machine_ends.specs.Falls.{anywhere, ended, After, not_made, not_told, stands, after_enter, after_closing as closed_after, after_beginning, may_be, Falls}
use Rattle.machine_ends.specs.Falls as to
use Rattle.machine_ends.specs.Laws.{PrimitiveFalls}
use Rattle.machine_ends.proofs.Texts.{failing_falls, handed_falls}

-- with some credit, whatever is on top
abbrev At : ℕ → Option TopShape → Row → Type 0
At c top r = Falls (anywhere false c top) r

abbrev RichAt : Row → Type 0
RichAt r = Falls (anywhere true 100 None) r

abbrev GoesOn : After → Row → Type 0
GoesOn a r = elim a [ not_made ↦ ⊥ | not_told ↦ Unit {0} | stands y ↦ Falls y r ]

pub hand_over_falls : (rich : Bool) (c : ℕ) (top : Option TopShape) → 1 < c → Falls (anywhere rich c top) hand_over
hand_over_falls rich c top l = (tt, λ n t. by (may_be top t) t)
  where
    by : (b : Bool) (t : TopShape) → GoesOn (cond b (stands (anywhere rich c (Some t))) not_told) (handed t)
    by true t = handed_falls rich c t l
    by false t = tt

-- from what is known to be on top
known_falls : (rich : Bool) (c : ℕ) (top : Option TopShape) (k : ℕ → TopShape → Row) → ((n : ℕ) (t : TopShape) → Falls (anywhere rich c (Some t)) (k n t)) → Falls (anywhere rich c top) (act see_top k)
known_falls rich c top k f = (tt, λ n t. by (may_be top t) n t)
  where
    by : (b : Bool) (n : ℕ) (t : TopShape) → GoesOn (cond b (stands (anywhere rich c (Some t))) not_told) (k n t)
    by true n t = f n t
    by false n t = tt

pub blames_fall : (rich : Bool) (c : ℕ) (top : Option TopShape) (text : List ℕ) → 7 < c → Falls (anywhere rich c top) (blames text)
blames_fall rich c top text l = (tt, λ n t. l)

begins_fall : (rich : Bool) (c : ℕ) (top : Option TopShape) (text : List ℕ) → 7 < c → Falls (anywhere rich c top) (raises text)
begins_fall rich c top text l = (tt, λ n t. l)

gives_up_falls : (rich : Bool) (c : ℕ) (top : Option TopShape) → 2 < c → Falls (anywhere rich c top) gives_up
gives_up_falls rich c top l = (tt, λ n t. l)

coroutine_fails_falls : (rich : Bool) (c : ℕ) (top : Option TopShape) → Falls (anywhere rich c top) coroutine_fails
coroutine_fails_falls rich c top = (tt, λ n t. (tt, λ n t. (tt, λ n t. hand_over_falls rich (c + 3) None (omega arith))))

-- closing

closing_falls : (rich : Bool) (c : ℕ) → Falls (anywhere rich c (Some closing_top)) closing_row
closing_falls rich c = (tt, λ v s. by v s)
  where
    by : (v : ℕ) (s : ClosingShape) → Falls (closed_after s rich c) (closing_by s v)
    by v one_left = (tt, λ n t. (tt, λ n t. (let l : 8 < c + 20 = omega arith in l)))
    by v all_closed = (refl, λ n t. (tt, λ n t. hand_over_falls rich (c + 3) None (omega arith)))
    by v closed_with_error = (refl, λ n t. (tt, λ n t. hand_over_falls rich (c + 3) None (omega arith)))

-- results reach what is on top

caught_falls : (c : ℕ) (t : TopShape) → (to.IsFrame (Some t)) → At c (Some t) caught
caught_falls c t f = (tt, λ n u. (f, λ n u. (tt, λ n u. hand_over_falls false (c + 3) None (omega arith))))

handed_to_falls : (t : TopShape) → At 1 (Some t) (handed_to t)
handed_to_falls pcall_top = (tt, λ n t. (refl, λ n t. (tt, λ n t. hand_over_falls false 4 None (omega arith))))
handed_to_falls xpcall_top = (tt, λ n t. (refl, λ n t. (tt, λ n t. hand_over_falls false 4 None (omega arith))))
handed_to_falls handler_top = (tt, λ n t. (refl, λ n t. (tt, λ n t. (let l : 2 < 4 = omega arith in l))))
handed_to_falls closing_top = (tt, λ n t. closing_falls false 1)
handed_to_falls (no_top true) = (tt, λ n t. tt)
handed_to_falls (no_top false) = (tt, λ n t. (tt, λ n t. (tt, λ n t. hand_over_falls false 4 None (omega arith))))
handed_to_falls lua_top = omega arith

pub returned_falls : At 1 None (act see_top (λ _ top. handed_to top))
returned_falls = known_falls false 1 None (λ _ top. handed_to top) (λ n t. handed_to_falls t)

-- an error reaches it

failing_lua : At 2 (Some lua_top) (goes_on_by fails)
failing_lua = (tt, λ v s. failing_falls 2 false v s)

unwound_falls : (t : TopShape) → At 2 (Some t) (unwound t)
unwound_falls lua_top = (tt, λ n t. failing_lua)
unwound_falls pcall_top = caught_falls 2 pcall_top refl
unwound_falls xpcall_top = caught_falls 2 xpcall_top refl
unwound_falls handler_top = (refl, λ n t. gives_up_falls false 5 None (omega arith))
unwound_falls closing_top = (tt, λ n t. (tt, λ n t. closing_falls false 2))
unwound_falls (no_top true) = (tt, λ n t. (tt, λ n t. (tt, λ n t. tt)))
unwound_falls (no_top false) = coroutine_fails_falls false 2 (Some (no_top false))

pub unwinding_falls : At 2 None (act see_top (λ _ top. unwound top))
unwinding_falls = known_falls false 2 None (λ _ top. unwound top) (λ n t. unwound_falls t)

-- who catches it

raised_to_falls : (t : TopShape) (h : ℕ) → At 7 None (raised_to t h)
raised_to_falls xpcall_top h = (tt, λ e u. (refl, λ n room. by e room))
  where
    by : (e : ℕ) (room : Bool) → Falls (to.after_push over_handler false 7 None room) (cond room (then (give_with (read h ∷ []) e) (stop asks)) gives_up)
    by e true = (tt, λ n t. (let l : 3 < 4 = omega arith in l))
    by e false = gives_up_falls false 7 None (omega arith)
raised_to_falls (no_top false) h = coroutine_fails_falls false 7 None
raised_to_falls _ h = omega arith

pub raised_falls : At 7 None raised_row
raised_falls = (tt, λ h t. raised_to_falls t h)

-- what is asked for

refused_falls : (t : TopShape) (text : List ℕ) → At 8 (Some t) (refused_under t text)
refused_falls lua_top text = begins_fall false 8 (Some lua_top) text (omega arith)
refused_falls handler_top text = gives_up_falls false 8 (Some handler_top) (omega arith)
refused_falls pcall_top text = blames_fall false 8 (Some pcall_top) text (omega arith)
refused_falls xpcall_top text = blames_fall false 8 (Some xpcall_top) text (omega arith)
refused_falls closing_top text = blames_fall false 8 (Some closing_top) text (omega arith)
refused_falls (no_top b) text = blames_fall false 8 (Some (no_top b)) text (omega arith)

after_asked_falls : (s : CallShape) → Falls (after_enter s (anywhere false 8 None)) (after_asked s)
after_asked_falls is_entered = omega arith
after_asked_falls (is_primitive n) = omega arith
after_asked_falls not_paid = tt
after_asked_falls (not_entered text) = known_falls false 8 None (λ _ top. refused_under top text) (λ n t. refused_falls t text)

pub asked_falls : At 8 None asked_row
asked_falls = (tt, λ f t. (tt, λ n s. after_asked_falls s))

-- and over a message handler's frame
handler_refused : (text : List ℕ) (t : TopShape) → GoesOn (cond (may_be (Some handler_top) t) (stands (anywhere false 3 (Some t))) not_told) (refused_under t text)
handler_refused text handler_top = gives_up_falls false 3 (Some handler_top) (omega arith)
handler_refused text _ = tt

handler_asked : (s : CallShape) → Falls (after_enter s (anywhere false 3 (Some handler_top))) (after_asked s)
handler_asked is_entered = omega arith
handler_asked (is_primitive n) = omega arith
handler_asked not_paid = tt
handler_asked (not_entered text) = (tt, λ n t. handler_refused text t)

pub asked_over_handler : At 3 (Some handler_top) asked_row
asked_over_handler = (tt, λ f t. (tt, λ n s. handler_asked s))

-- primitives, each behind a unit that was paid

blamed : (text : List ℕ) → RichAt (blames text)
blamed text = blames_fall true 100 None text (omega arith)

over_falls : (over : Over) (r : Row) → Falls (anywhere true 97 (Some (to.over_top over))) r → RichAt (over_frame over r)
over_falls over r f = (refl, λ n room. by room)
  where
    by : (room : Bool) → Falls (to.after_push over true 100 None room) (cond room r (blames stack_overflow))
    by true = f
    by false = blamed stack_overflow

errs_fall : (e : ℕ) (s : Shape) (level : Option ℤ) → RichAt (errs_at e s level)
errs_fall e s None = (tt, λ n t. (let l : 7 < 100 = omega arith in l))
errs_fall e s (Some (pos (suc level))) = (tt, λ v t. (tt, λ n t. (let l : 7 < 100 = omega arith in l)))
errs_fall e s (Some (pos zero)) = (tt, λ n t. (let l : 7 < 100 = omega arith in l))
errs_fall e s (Some (negsuc k)) = (tt, λ n t. (let l : 7 < 100 = omega arith in l))

after_resume_falls : (s : ResumeShape) → GoesOn (to.after_resume 100 s) (after_resume s)
after_resume_falls (resumed is_entered) = hand_over_falls false 50 None (omega arith)
after_resume_falls (resumed (is_primitive n)) = omega arith
after_resume_falls (resumed not_paid) = tt
after_resume_falls (resumed (not_entered text)) = blames_fall false 50 None text (omega arith)
after_resume_falls (refused text) = (tt, λ n t. hand_over_falls false 50 None (omega arith))

resumes_fall : (s : Shape) (co : ℕ) → RichAt (resumes s co)
resumes_fall (is_object a_coroutine) co = ((refl, refl), λ n s. after_resume_falls s)
resumes_fall _ co = (tt, λ n t. (let l : 7 < 100 = omega arith in l))

after_closing_falls : (s : ResumeShape) → GoesOn (after_beginning s) (after_closing s)
after_closing_falls (resumed is_entered) = closing_falls false 50
after_closing_falls (resumed (is_primitive n)) = tt
after_closing_falls (resumed not_paid) = tt
after_closing_falls (resumed (not_entered text)) = blames_fall false 50 None text (omega arith)
after_closing_falls (refused text) = blames_fall false 50 None text (omega arith)

closes_fall : (s : Shape) (co : ℕ) → RichAt (closes_coroutine s co)
closes_fall (is_object a_coroutine) co = (refl, λ n s. after_closing_falls s)
closes_fall _ co = (tt, λ n t. (let l : 7 < 100 = omega arith in l))

creates_fall : (s : Shape) (f : ℕ) → RichAt (creates s f)
creates_fall s f = by (can_call s)
  where
    by : (b : Bool) → RichAt (cond b (act (make_coroutine (read f)) (λ co _. gives_back (read co ∷ []))) (blames (wrong_type 1 (codes "create") (codes "function") s)))
    by true = (refl, λ co t. (tt, λ n t. hand_over_falls true 95 None (omega arith)))
    by false = (tt, λ n t. (let l : 7 < 100 = omega arith in l))

status_falls : (s : Shape) (co : ℕ) → RichAt (sees_status s co)
status_falls (is_object a_coroutine) co = (tt, λ n t. (tt, λ n t. hand_over_falls true 100 None (omega arith)))
status_falls _ co = (tt, λ n t. (let l : 7 < 100 = omega arith in l))

yields_fall : RichAt yield_row
yields_fall = (tt, λ n b. by b)
  where
    by : (b : Bool) → Falls (anywhere true 103 None) (cond b (stop main_yielded) (act take_moving (λ v _. then (give_with (written (boolean true) ∷ []) v) hand_over)))
    by true = tt
    by false = (tt, λ n t. (tt, λ n t. hand_over_falls true 103 None (omega arith)))

after_look_falls : (v : ℕ) (s : LookShape) → RichAt (after_look v s)
after_look_falls v is_given = (tt, λ n t. hand_over_falls true 100 None (omega arith))
after_look_falls v (is_refused text) = blamed text
after_look_falls v is_raised = (tt, λ n t. (let l : 7 < 100 = omega arith in l))

pub look_falls : (l : Look) → RichAt (look_row l)
look_falls l = (tt, λ n t. (tt, λ v s. after_look_falls v s))

-- each primitive but `build`
module _ (build : Row) where
  pub own_falls : (p : Primitive) → (p ≡ prelude_build → ⊥) → RichAt (own_row build p)
  own_falls base_error q = (tt, λ e t. (tt, λ n s. errs_fall e s (level_in s)))
  own_falls base_pcall q = (tt, λ f t. over_falls over_pcall _ (tt, λ n t. (let l : 8 < 97 = omega arith in l)))
  own_falls base_xpcall q = (tt, λ f t. over_falls (over_xpcall (read (suc f))) _ (tt, λ n t. (let l : 8 < 97 = omega arith in l)))
  own_falls coroutine_close q = (tt, λ co t. (tt, λ n s. closes_fall s co))
  own_falls coroutine_create q = (tt, λ f t. (tt, λ n s. creates_fall s f))
  own_falls coroutine_isyieldable q = (tt, λ n t. hand_over_falls true 100 None (omega arith))
  own_falls coroutine_resume q = (tt, λ co t. (tt, λ n s. resumes_fall s co))
  own_falls coroutine_running q = (tt, λ co t. (tt, λ n t. hand_over_falls true 100 None (omega arith)))
  own_falls coroutine_status q = (tt, λ co t. (tt, λ n s. status_falls s co))
  own_falls coroutine_yield q = yields_fall
  own_falls prelude_build q = absurd (q refl)
  own_falls prelude_out q = (tt, λ v t. (tt, λ n t. hand_over_falls true 100 None (omega arith)))
  own_falls p q = tt

-- a `load` that refuses every text falls so, as do all rows beside it
pub refusing_falls : (text : List ℕ) → PrimitiveFalls (blames text)
refusing_falls text = blamed text

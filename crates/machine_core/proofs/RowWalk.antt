-- What is asked of each ending and each move of a row, and that the machine's own rows have it: those of frames, of errors, of what was asked for, and of
-- primitives.
use Rattle.std.proofs.Common.{ℕ, zero, suc, ◌≡◌, List, [], ◌∷◌, ◌++◌, Option, Some, None, Bool, true, false, cond, refl}
use Rattle.std.specs.Prelude.{ℤ, pos, negsuc, codes}
use Rattle.int_core.specs.Limits.{stack_overflow}
use Rattle.int_core.specs.Value.{a_coroutine, Shape, is_object}
use Rattle.code_core.specs.Prototype.{Prototype}
use Rattle.library_rows.specs.Look.{Look}
use Rattle.library_rows.specs.Library.{Primitive, base_error, base_pcall, base_xpcall, coroutine_close, coroutine_create, coroutine_isyieldable, coroutine_resume, coroutine_running, coroutine_status, coroutine_yield, prelude_build, prelude_out}
use Rattle.load_rows.specs.Loading.{Builds, Loaded, wrong, not_loaded, loaded, load_of}
use Rattle.machine_core.specs.World.{Wait, leaving}
use Rattle.machine_core.specs.Text.{Arg, read, Own, read_upvalue, write_upvalue, make_table, make_function, fill_table, pay, Given, results, thrown, Text, go_by, own, open_cell, quick, operate, call, tail_call, close, closable, raise, leave, trap, see_pending}
use Rattle.machine_core.specs.InstructionRows.{is_true, left_so, fails}
use Rattle.machine_core.specs.Moves.{Move, on_own, move_pc, open_register, outside, settle, enter, enter_tail, await, find_close, is_closable, begin_leaving, leave_frame, take_moving, look, give, give_with, blame, place_text, push_frame, call_value, see_top, see_catcher, pop_frame, take_closing, set_error, end_coroutine, fail_coroutine, suspend, resume, begin_closing, consult, create, see_status, see_running, print, make_loaded, Told, SettledShape, is_found, is_asked, is_fault, CallShape, is_entered, is_primitive, not_paid, not_entered, TopShape, lua_top, pcall_top, xpcall_top, handler_top, closing_top, no_top, ClosingShape, one_left, all_closed, closed_with_error, ResumeShape, resumed, refused, LookShape, is_given, is_refused, is_raised, Ending, go, returned, asks, calls_primitive, raised, unwinding, spent, main_yielded, main_returned, main_failed, Row, traps, stop, only, act}
use Rattle.machine_core.specs.FrameRows.{handed, hand_over, raises, after_call, When, at_once, by_asking, calls_row, prepares, after_leaving, leave_row, expand_by, gives_up, coroutine_fails, raised_to, raised_row, caught, blames, refused_under, after_asked, asked_row, closing_by, closing_row, unwound, handed_to}
use Rattle.machine_core.specs.MachineStep.{errs_at, after_entry, after_resume, resumes, after_closing, closes_coroutine, gives_back, after_look, look_row, can_call, creates, sees_status, level_in}
use Rattle.machine_core.specs.PrimitiveRows.{own_row, environment_at, loaded_row, load_row}

abbrev pub RowHas : (MayEnd : Ending → Type 0) (MayMove : Move → Type 0) → Row → Type 0
RowHas MayEnd MayMove traps = Unit {0}
RowHas MayEnd MayMove (stop e) = MayEnd e
RowHas MayEnd MayMove (only slot r) = RowHas MayEnd MayMove r
RowHas MayEnd MayMove (act m k) = MayMove m × ((n : ℕ) (t : Told m) → RowHas MayEnd MayMove (k n t))

-- every ending but that of a yield of main
abbrev pub IsNoYield : Ending → Type 0
IsNoYield main_yielded = ⊥
IsNoYield _ = Unit {0}

-- every move but one that makes a function of a script's code, and one that asks a library
abbrev pub IsUsual : Move → Type 0
IsUsual (outside (make_function n)) = ⊥
IsUsual (consult l slot) = ⊥
IsUsual _ = Unit {0}

-- the rows with which the machine goes on by itself, and those of sources that are loaded
pub record RowsHave (P : Row → Type 0) : Type 0 where
  pub of_raised : P raised_row
  pub of_asked : P asked_row
  pub of_unwound : (t : TopShape) → P (unwound t)
  pub of_handed : (t : TopShape) → P (handed_to t)
  pub of_resumed : (s : ResumeShape) → P (after_resume s)
  pub of_loads : (builds : Builds Prototype) → P (load_row builds)

module _ (MayEnd : Ending → Type 0) (MayMove : Move → Type 0) (may_end : (e : Ending) → IsNoYield e → MayEnd e) (may_move : (m : Move) → IsUsual m → MayMove m) where
  abbrev Has : Row → Type 0
  Has r = RowHas MayEnd MayMove r

  cond_has : (b : Bool) (r s : Row) → Has r → Has s → Has (cond b r s)
  cond_has true r s h k = h
  cond_has false r s h k = k

  -- rows of frames

  handed_has : (t : TopShape) → Has (handed t)
  handed_has lua_top = may_end go tt
  handed_has _ = may_end returned tt

  pub hand_over_has : Has hand_over
  hand_over_has = (may_move see_top tt, λ n t. handed_has t)

  raises_has : (text : List ℕ) → Has (raises text)
  raises_has text = (may_move (begin_leaving text) tt, λ n t. may_end raised tt)

  blames_has : (text : List ℕ) → Has (blames text)
  blames_has text = (may_move (blame text) tt, λ n t. may_end raised tt)

  pub after_call_has : (s : CallShape) → Has (after_call s)
  after_call_has is_entered = may_end go tt
  after_call_has (is_primitive n) = may_end (calls_primitive n) tt
  after_call_has not_paid = may_end spent tt
  after_call_has (not_entered text) = raises_has text

  pub calls_has : (w : When) (f : Arg) (slot : ℕ) (wait : Wait Arg) (ms : List Own) → Has (calls_row w f slot wait ms)
  calls_has at_once f slot wait ms = (may_move (enter f slot wait ms) tt, λ n s. after_call_has s)
  calls_has by_asking f slot wait ms = (may_move (await f slot wait ms) tt, λ n t. may_end asks tt)

  prepares_has : (ms : List Own) (r : Row) → Has r → Has (prepares ms r)
  prepares_has [] r h = h
  prepares_has (m ∷ ms) r h = (may_move (on_own m) tt, λ n t. prepares_has ms r h)

  after_leaving_has : (given : Given) (t : TopShape) → Has (after_leaving given t)
  after_leaving_has (results slot) t = handed_has t
  after_leaving_has (thrown x) t = may_end unwinding tt

  pub leave_has : (given : Given) → Has (leave_row given)
  leave_has given = (may_move (leave_frame given) tt, λ n t. after_leaving_has given t)

  -- the rows of texts, where a function of a script's code may be made
  module _ (makes : (n : ℕ) → MayMove (outside (make_function n))) where
    settled_has : (s : SettledShape) (found asked : Row) (ms : List Own) → Has found → Has asked → Has (elim s as (λ _. Row) [ is_found ↦ found | is_asked ↦ asked | is_fault text ↦ prepares ms (raises text) ])
    settled_has is_found found asked ms h k = h
    settled_has is_asked found asked ms h k = k
    settled_has (is_fault text) found asked ms h k = prepares_has ms (raises text) (raises_has text)

    pub text_has : (w : When) (t : Text) → Has (expand_by w t)
    text_has w (go_by z) = (may_move (move_pc z) tt, λ n t. may_end go tt)
    text_has w (own m k) = (may_move (on_own m) tt, λ n s. text_has w (k n s))
    text_has w (open_cell r t) = (may_move (open_register r) tt, λ n u. text_has w t)
    text_has w (quick pay k) = (may_move (outside pay) tt, λ n paid. cond_has paid (expand_by w (k n)) (stop spent) (text_has w (k n)) (may_end spent tt))
    text_has w (quick (read_upvalue u) k) = (may_move (outside (read_upvalue u)) tt, λ n paid. text_has w (k n))
    text_has w (quick (write_upvalue u x) k) = (may_move (outside (write_upvalue u x)) tt, λ n paid. text_has w (k n))
    text_has w (quick make_table k) = (may_move (outside make_table) tt, λ n paid. text_has w (k n))
    text_has w (quick (make_function u) k) = (makes u, λ n paid. text_has w (k n))
    text_has w (quick (fill_table x last slot) k) = (may_move (outside (fill_table x last slot)) tt, λ n paid. text_has w (k n))
    text_has w (operate op xs wait ms t) = (
      may_move (settle op xs) tt,
      λ n s. settled_has s (prepares ms (only n (expand_by w t))) (calls_row w (read n) (suc n) wait ms) ms (prepares_has ms (only n (expand_by w t)) (text_has w t)) (calls_has w (read n) (suc n) wait ms),
    )
    text_has w (call f slot wait ms) = calls_has w f slot wait ms
    text_has w (tail_call f slot) = (may_move (enter_tail f slot) tt, λ n s. after_call_has s)
    text_has w (close v e wait ms) = (may_move (find_close v e) tt, λ n t. calls_has w (read n) (suc n) wait ms)
    text_has w (closable v name t) =
        let refusal = raises (codes "variable '" ++ name ++ codes "' got a non-closable value") in
        (may_move (is_closable v) tt, λ n yes. cond_has yes (expand_by w t) refusal (text_has w t) (raises_has (codes "variable '" ++ name ++ codes "' got a non-closable value")))
    text_has w (raise text) = raises_has text
    text_has w (leave given) = leave_has given
    text_has w trap = tt

  -- the row with which a frame is left by an error
  fails_has : Has (expand_by by_asking fails)
  fails_has = (may_move (on_own (see_pending 0)) tt, λ v there. by (is_true there) v)
    where
      by : (b : Bool) (v : ℕ) → Has (expand_by by_asking (cond b (close (read v) (read 0) (leaving (read 0)) left_so) (leave (thrown (read 0)))))
      by true v = (may_move (find_close (read v) (read 0)) tt, λ n t. calls_has by_asking (read n) (suc n) (leaving (read 0)) left_so)
      by false v = leave_has (thrown (read 0))

  -- errors

  gives_up_has : Has gives_up
  gives_up_has = (may_move (give _) tt, λ n t. may_end unwinding tt)

  coroutine_fails_has : Has coroutine_fails
  coroutine_fails_has = (may_move take_moving tt, λ e t. (may_move (fail_coroutine _) tt, λ n u. (may_move (give _) tt, λ m v. hand_over_has)))

  raised_to_has : (t : TopShape) (h : ℕ) → Has (raised_to t h)
  raised_to_has xpcall_top h = (may_move take_moving tt, λ e t. (may_move (push_frame _) tt, λ n room. cond_has room _ gives_up (may_move (give_with _ _) tt, λ m u. may_end asks tt) gives_up_has))
  raised_to_has (no_top false) h = coroutine_fails_has
  raised_to_has _ h = may_end unwinding tt

  raised_has : Has raised_row
  raised_has = (may_move see_catcher tt, λ h t. raised_to_has t h)

  caught_has : Has caught
  caught_has = (may_move take_moving tt, λ e t. (may_move pop_frame tt, λ n u. (may_move (give _) tt, λ m v. hand_over_has)))

  -- what was asked for

  refused_has : (t : TopShape) (text : List ℕ) → Has (refused_under t text)
  refused_has lua_top text = raises_has text
  refused_has handler_top text = gives_up_has
  refused_has _ text = blames_has text

  after_asked_has : (s : CallShape) → Has (after_asked s)
  after_asked_has is_entered = may_end go tt
  after_asked_has (is_primitive n) = may_end (calls_primitive n) tt
  after_asked_has not_paid = may_end spent tt
  after_asked_has (not_entered text) = (may_move see_top tt, λ n t. refused_has t text)

  asked_has : Has asked_row
  asked_has = (may_move take_moving tt, λ f t. (may_move (call_value _ _) tt, λ n s. after_asked_has s))

  -- what comes to a frame

  closing_by_has : (s : ClosingShape) (v : ℕ) → Has (closing_by s v)
  closing_by_has one_left v = (may_move (find_close _ _) tt, λ h t. (may_move (give_with _ _) tt, λ n u. may_end asks tt))
  closing_by_has all_closed v = (may_move pop_frame tt, λ n t. (may_move (give _) tt, λ m u. hand_over_has))
  closing_by_has closed_with_error v = (may_move pop_frame tt, λ n t. (may_move (give _) tt, λ m u. hand_over_has))

  closing_has : Has closing_row
  closing_has = (may_move take_closing tt, λ v s. closing_by_has s v)

  unwound_has : (t : TopShape) → Has (unwound t)
  unwound_has lua_top = (may_move take_moving tt, λ n t. fails_has)
  unwound_has pcall_top = caught_has
  unwound_has xpcall_top = caught_has
  unwound_has handler_top = (may_move pop_frame tt, λ n t. gives_up_has)
  unwound_has closing_top = (may_move take_moving tt, λ e t. (may_move (set_error _) tt, λ n u. closing_has))
  unwound_has (no_top true) = (may_move take_moving tt, λ e t. (may_move (give _) tt, λ n u. (may_move (fail_coroutine _) tt, λ m v. may_end main_failed tt)))
  unwound_has (no_top false) = coroutine_fails_has

  handed_to_has : (t : TopShape) → Has (handed_to t)
  handed_to_has pcall_top = (may_move take_moving tt, λ v t. (may_move pop_frame tt, λ n u. (may_move (give_with _ _) tt, λ m w. hand_over_has)))
  handed_to_has xpcall_top = (may_move take_moving tt, λ v t. (may_move pop_frame tt, λ n u. (may_move (give_with _ _) tt, λ m w. hand_over_has)))
  handed_to_has handler_top = (may_move take_moving tt, λ v t. (may_move pop_frame tt, λ n u. (may_move (give _) tt, λ m w. may_end unwinding tt)))
  handed_to_has closing_top = (may_move take_moving tt, λ n t. closing_has)
  handed_to_has (no_top true) = (may_move end_coroutine tt, λ n t. may_end main_returned tt)
  handed_to_has (no_top false) = (may_move take_moving tt, λ v t. (may_move end_coroutine tt, λ n u. (may_move (give_with _ _) tt, λ m w. hand_over_has)))
  handed_to_has lua_top = may_end go tt

  -- rows of primitives

  over_has : (b : Bool) (r : Row) → Has r → Has (cond b r (blames stack_overflow))
  over_has b r h = cond_has b r (blames stack_overflow) h (blames_has stack_overflow)

  gives_back_has : (xs : List Arg) → Has (gives_back xs)
  gives_back_has xs = (may_move (give xs) tt, λ n t. hand_over_has)

  after_entry_has : (s : CallShape) → Has (after_entry s)
  after_entry_has is_entered = may_end go tt
  after_entry_has (is_primitive n) = may_end (calls_primitive n) tt
  after_entry_has not_paid = may_end spent tt
  after_entry_has (not_entered text) = blames_has text

  after_resume_has : (s : ResumeShape) → Has (after_resume s)
  after_resume_has (resumed is_entered) = hand_over_has
  after_resume_has (refused text) = (may_move (give _) tt, λ n t. hand_over_has)
  after_resume_has (resumed s) = after_entry_has s

  after_closing_has : (s : ResumeShape) → Has (after_closing s)
  after_closing_has (resumed is_entered) = closing_has
  after_closing_has (refused text) = blames_has text
  after_closing_has (resumed s) = after_entry_has s

  resumes_has : (s : Shape) (co : ℕ) → Has (resumes s co)
  resumes_has (is_object a_coroutine) co = (may_move (resume _ _) tt, λ n s. after_resume_has s)
  resumes_has _ co = blames_has _

  closes_has : (s : Shape) (co : ℕ) → Has (closes_coroutine s co)
  closes_has (is_object a_coroutine) co = (may_move (begin_closing _) tt, λ n s. after_closing_has s)
  closes_has _ co = blames_has _

  status_has : (s : Shape) (co : ℕ) → Has (sees_status s co)
  status_has (is_object a_coroutine) co = (may_move (see_status _) tt, λ n s. gives_back_has _)
  status_has _ co = blames_has _

  errs_has : (e : ℕ) (s : Shape) (level : Option ℤ) → Has (errs_at e s level)
  errs_has e s None = blames_has _
  errs_has e s (Some (pos (suc level))) = (may_move (place_text _ _) tt, λ v t. (may_move (give _) tt, λ n u. may_end raised tt))
  errs_has e s (Some (pos zero)) = (may_move (give _) tt, λ n t. may_end raised tt)
  errs_has e s (Some (negsuc k)) = (may_move (give _) tt, λ n t. may_end raised tt)

  after_look_has : (v : ℕ) (s : LookShape) → Has (after_look v s)
  after_look_has v is_given = (may_move (give_with _ _) tt, λ n t. hand_over_has)
  after_look_has v (is_refused text) = blames_has text
  after_look_has v is_raised = (may_move (give _) tt, λ n t. may_end raised tt)

  pub look_has : (l : Look) → ((slot : ℕ) → MayMove (consult l slot)) → Has (look_row l)
  look_has l h = (may_move take_moving tt, λ n t. (h n, λ v s. after_look_has v s))

  creates_has : (s : Shape) (f : ℕ) → Has (creates s f)
  creates_has s f = cond_has (can_call s) _ (blames _) (may_move (create _) tt, λ co t. gives_back_has _) (blames_has _)

  loaded_has : (x : Option Arg) (l : Loaded Prototype) → Has (loaded_row x l)
  loaded_has x (wrong error) = blames_has error
  loaded_has x (not_loaded why) = gives_back_has _
  loaded_has x (loaded name p) = (may_move (make_loaded p x) tt, λ f t. gives_back_has _)

  load_has : (builds : Builds Prototype) → Has (load_row builds)
  load_has builds = (
    may_move take_moving tt,
    λ c t. (may_move (look _) tt, λ count chunk. (may_move (look _) tt, λ n name. (may_move (look _) tt, λ m mode. loaded_has (environment_at c count) (load_of builds chunk name mode)))),
  )

  -- so they have what each row has that has this
  pub rows_have : (P : Row → Type 0) → ((r : Row) → Has r → P r) → RowsHave P
  rows_have P so = record {
    of_raised = so raised_row raised_has;
    of_asked = so asked_row asked_has;
    of_unwound = λ t. so (unwound t) (unwound_has t);
    of_handed = λ t. so (handed_to t) (handed_to_has t);
    of_resumed = λ s. so (after_resume s) (after_resume_has s);
    of_loads = λ builds. so (load_row builds) (load_has builds);
  }

  -- where the row of `build` has it, and main's yield where its row is asked for
  pub own_has : (build : Row) → Has build → (p : Primitive) → (p ≡ coroutine_yield → MayEnd main_yielded) → Has (own_row build p)
  own_has build b base_error y = (may_move take_moving tt, λ e t. (may_move (look _) tt, λ n s. errs_has e s (level_in s)))
  own_has build b base_pcall y = (may_move take_moving tt, λ f t. (may_move (push_frame _) tt, λ n room. over_has room _ (may_move (give_with _ _) tt, λ m u. may_end asks tt)))
  own_has build b base_xpcall y = (may_move take_moving tt, λ f t. (may_move (push_frame _) tt, λ n room. over_has room _ (may_move (give_with _ _) tt, λ m u. may_end asks tt)))
  own_has build b coroutine_close y = (may_move take_moving tt, λ co t. (may_move (look _) tt, λ n s. closes_has s co))
  own_has build b coroutine_create y = (may_move take_moving tt, λ f t. (may_move (look _) tt, λ n s. creates_has s f))
  own_has build b coroutine_isyieldable y = gives_back_has _
  own_has build b coroutine_resume y = (may_move take_moving tt, λ co t. (may_move (look _) tt, λ n s. resumes_has s co))
  own_has build b coroutine_running y = (may_move see_running tt, λ co t. gives_back_has _)
  own_has build b coroutine_status y = (may_move take_moving tt, λ co t. (may_move (look _) tt, λ n s. status_has s co))
  own_has build b coroutine_yield y = (may_move suspend tt, λ n in_main. cond_has in_main (stop main_yielded) _ (y refl) (may_move take_moving tt, λ v t. (may_move (give_with _ _) tt, λ m u. hand_over_has)))
  own_has build b prelude_build y = b
  own_has build b prelude_out y = (may_move take_moving tt, λ v t. (may_move (print _) tt, λ n u. hand_over_has))
  own_has build b p y = tt

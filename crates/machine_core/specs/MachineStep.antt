-- The machine's step over whole worlds, the rows of the primitives that move frames and coroutines, and runs of some steps.
use Rattle.std.specs.Prelude.{ℕ, zero, suc, ◌++◌, ℤ, pos, Bool, true, false, cond, List, [], ◌∷◌, Option, Some, None, slice_get, codes, decimal}
use Rattle.code_core.specs.Prototype.{Prototype}
use Rattle.int_core.specs.Numeral.{integer_of}
use Rattle.int_core.specs.Value.{nil, boolean, integer, string, primitive, a_function, a_coroutine, Value, Shape, is_known, is_object, bind, last}
use Rattle.machine_core.specs.World.{Wait, running, LuaFrame, Frame, lua, World, Stack, stack_of, put_top}
use Rattle.int_core.specs.Operations.{type_name}
use Rattle.library_rows.specs.Look.{Look}
use Rattle.machine_core.specs.Text.{Arg, read, written}
use Rattle.machine_core.specs.InstructionRows.{text_at, after, told_values}
use Rattle.int_core.specs.Ask.{values}
use Rattle.machine_core.specs.Moves.{over_pcall, over_xpcall, take_moving, look, give, give_with, place_text, see_top, suspend, resume, begin_closing, consult, LookShape, is_given, is_refused, is_raised, create, see_status, see_running, print, Status, is_suspended, is_running, is_normal, is_dead, CallShape, is_entered, is_primitive, not_paid, not_entered, ResumeShape, resumed, refused, Ending, go, returned, asks, calls_primitive, raised, unwinding, spent, main_yielded, Row, stop, act, Outcome, trapped, ends, run}
use Rattle.machine_core.specs.FrameRows.{then, hand_over, expand, goes_on_by, raised_row, blames, over_frame, asked_row, closing_row, unwound, handed_to}

-- primitives that move frames and coroutines; their arguments move

abbrev pub pcall_row : Row
pcall_row = act take_moving (λ f _. over_frame over_pcall (then (give_with (read f ∷ []) (suc f)) (stop asks)))

abbrev pub xpcall_row : Row
xpcall_row = act take_moving (λ f _. over_frame (over_xpcall (read (suc f))) (then (give_with (read f ∷ []) (suc (suc f))) (stop asks)))

abbrev pub bad_argument : (number : ℕ) → (name what : List ℕ) → List ℕ
bad_argument i name what = codes "bad argument #" ++ decimal i ++ codes " to '" ++ name ++ codes "' (" ++ what ++ codes ")"

abbrev pub wrong_type : (number : ℕ) → (name expected : List ℕ) → Shape → List ℕ
wrong_type i name expected s = bad_argument i name (expected ++ codes " expected, got " ++ type_name s)

-- the integer that a value is, or that a string spells
abbrev pub integer_in : Shape → Option ℤ
integer_in (is_known (integer n)) = Some n
integer_in (is_known (string text)) = integer_of text
integer_in _ = None

-- a missing level is 1
abbrev pub level_in : Shape → Option ℤ
level_in (is_known nil) = Some (pos 1)
level_in s = integer_in s

-- `error`: a string gets the place of a frame in front, by the level
abbrev pub errs_at : (e : ℕ) → Shape → Option ℤ → Row
errs_at e s None = blames (wrong_type 2 (codes "error") (codes "number") s)
errs_at e s (Some (pos (suc level))) = act (place_text (read e) level) (λ v _. then (give (read v ∷ [])) (stop raised))
errs_at e s (Some _) = then (give (read e ∷ [])) (stop raised)

abbrev pub error_row : Row
error_row = act take_moving (λ e _. act (look (read (suc e))) (λ _ s. errs_at e s (level_in s)))

abbrev pub not_coroutine : List ℕ → Shape → Row
not_coroutine name s = blames (wrong_type 1 name (codes "coroutine") s)

-- a coroutine's function was called, or a closing frame pushed
abbrev pub after_entry : CallShape → Row
after_entry is_entered = stop go
after_entry (is_primitive n) = stop (calls_primitive n)
after_entry not_paid = stop spent
after_entry (not_entered text) = blames text

abbrev pub after_resume : ResumeShape → Row
after_resume (resumed is_entered) = hand_over
after_resume (resumed s) = after_entry s
after_resume (refused text) = then (give (written (boolean false) ∷ written (string text) ∷ [])) hand_over

abbrev pub resumes : Shape → ℕ → Row
resumes (is_object a_coroutine) co = act (resume (read co) (suc co)) (λ _ s. after_resume s)
resumes s co = not_coroutine (codes "resume") s

abbrev pub resume_row : Row
resume_row = act take_moving (λ co _. act (look (read co)) (λ _ s. resumes s co))

-- a yield of the main coroutine ends the turn
abbrev pub yield_row : Row
yield_row = act suspend (λ _ in_main. cond in_main (stop main_yielded) (act take_moving (λ v _. then (give_with (written (boolean true) ∷ []) v) hand_over)))

abbrev pub after_closing : ResumeShape → Row
after_closing (resumed is_entered) = closing_row
after_closing (resumed s) = after_entry s
after_closing (refused text) = blames text

abbrev pub closes_coroutine : Shape → ℕ → Row
closes_coroutine (is_object a_coroutine) co = act (begin_closing (read co)) (λ _ s. after_closing s)
closes_coroutine s co = not_coroutine (codes "close") s

abbrev pub close_row : Row
close_row = act take_moving (λ co _. act (look (read co)) (λ _ s. closes_coroutine s co))

abbrev pub gives_back : List Arg → Row
gives_back xs = then (give xs) hand_over

-- a library row that looks at values and tables alone
abbrev pub after_look : (v : ℕ) → LookShape → Row
after_look v is_given = then (give_with [] v) hand_over
after_look v (is_refused text) = blames text
after_look v is_raised = then (give (read v ∷ [])) (stop raised)

abbrev pub look_row : Look → Row
look_row l = act take_moving (λ n _. act (consult l n) (λ v s. after_look v s))

-- what can be called without a `__call`
abbrev pub can_call : Shape → Bool
can_call (is_object a_function) = true
can_call (is_known (primitive _)) = true
can_call _ = false

abbrev pub creates : Shape → ℕ → Row
creates s f = cond (can_call s) (act (create (read f)) (λ co _. gives_back (read co ∷ []))) (blames (wrong_type 1 (codes "create") (codes "function") s))

abbrev pub create_row : Row
create_row = act take_moving (λ f _. act (look (read f)) (λ _ s. creates s f))

abbrev pub status_word : Status → List ℕ
status_word is_suspended = codes "suspended"
status_word is_running = codes "running"
status_word is_normal = codes "normal"
status_word is_dead = codes "dead"

abbrev pub sees_status : Shape → ℕ → Row
sees_status (is_object a_coroutine) co = act (see_status (read co)) (λ _ status. gives_back (written (string (status_word status)) ∷ []))
sees_status s co = not_coroutine (codes "status") s

abbrev pub status_row : Row
status_row = act take_moving (λ co _. act (look (read co)) (λ _ s. sees_status s co))

-- every coroutine may yield, the main one to the session; so none is the main one for a script
abbrev pub running_row : Row
running_row = act see_running (λ co _. gives_back (read co ∷ written (boolean false) ∷ []))

abbrev pub yieldable_row : Row
yieldable_row = gives_back (written (boolean true) ∷ [])

-- the prelude's own, which prints a string
abbrev pub print_row : Row
print_row = act take_moving (λ v _. then (print (read v)) hand_over)

-- the step

-- a frame that waits gets what moves, and runs
unfoldable pub woken : World → Stack → LuaFrame → World
woken W s f = record (put_top W s (lua (record f { wait = running }))) { moving = [] }

abbrev pub lua_step : World → Stack → LuaFrame → Prototype → Wait Value → Outcome
lua_step W s f p running = run (expand (text_at p f.own.pc)) [] W
lua_step W s f p wait = run (goes_on_by (after wait p f.own.pc (values W.moving))) (told_values wait (values W.moving)) (woken W s f)

abbrev pub frame_step : World → Stack → Frame → Option Outcome
frame_step W s (lua f) = bind (slice_get W.functions f.function) (λ g. Some (lua_step W s f g.code f.wait))
frame_step W s _ = None

abbrev pub top_step : World → Option Outcome
top_step W = bind (stack_of W) (λ s. bind (last s.frames) (frame_step W s))

-- a step that costs a unit while none is left has no effect
abbrev pub from_world : World → Outcome → Outcome
from_world W (ends spent V) = ends spent W
from_world W o = o

-- what is done by the ending of the row before
abbrev pub step_by : (ℕ → Row) → Ending → World → Outcome
step_by primitives go W = elim (top_step W) [ None ↦ trapped | Some o ↦ o ]
step_by primitives returned W = run (act see_top (λ _ top. handed_to top)) [] W
step_by primitives asks W = run asked_row [] W
step_by primitives (calls_primitive n) W = run (primitives n) [] W
step_by primitives raised W = run raised_row [] W
step_by primitives unwinding W = run (act see_top (λ _ top. unwound top)) [] W
step_by primitives ending W = ends ending W

abbrev pub step : (ℕ → Row) → Ending → World → Outcome
step primitives ending W = from_world W (step_by primitives ending W)

abbrev pub and_then : Outcome → (Ending → World → Outcome) → Outcome
and_then trapped f = trapped
and_then (ends ending W) f = f ending W

-- at most n steps
abbrev pub steps : (ℕ → Row) → ℕ → Ending → World → Outcome
steps primitives zero ending W = ends ending W
steps primitives (suc n) ending W = and_then (step primitives ending W) (steps primitives n)

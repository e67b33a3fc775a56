-- No function of a library pays, so none ends as spent.
use Rattle.std.proofs.Common.{◌≡◌, ℕ, zero, suc, List, [], ◌∷◌, ◌++◌, Bool, true, false, Option, Some, None, length, refl, ap, sym, subst}
use Rattle.std.specs.Prelude.{codes, ℤ, pos, negsuc, cond, drop}
use Rattle.int_core.specs.Limits.{stack_overflow}
use Rattle.int_core.specs.Value.{a_coroutine, Value, Shape, is_object}
use Rattle.machine_core.specs.World.{World}
use Rattle.machine_core.specs.Moves.{create, Told, Made, move, CallShape, is_entered, is_primitive, not_paid, not_entered, ResumeShape, resumed, refused, resumes, closes_coroutine, Ending, Row, traps, stop, only, act, Outcome, trapped, ends, run}
use Rattle.machine_core.specs.Text.{Arg, read}
use Rattle.machine_core.specs.FrameRows.{hand_over, blames, over_frame, closing_row}
use Rattle.machine_core.specs.MachineStep.{gives_back, look_row, after_look, pcall_row, xpcall_row, error_row, level_in, errs_at, after_entry, after_resume, resume_row, yield_row, after_closing, close_row, can_call, wrong_type, create_row, sees_status, status_row, running_row, print_row}
use Rattle.machine_core.specs.Moves.{Over, over_pcall, over_xpcall, LookShape, is_given, is_refused, is_raised, lua_top, one_left, all_closed, closed_with_error}
use Rattle.machine_core.specs.PrimitiveRows.{environment_at, loaded_row, load_row}
use Rattle.code_core.specs.Prototype.{Prototype}
use Rattle.tree_core.specs.Tree.{Body}
use Rattle.load_rows.specs.Loading.{Builds, Loaded, wrong, not_loaded, loaded, load_of}
use Rattle.source_builds.specs.Builds.{code_builds}
use Rattle.library_rows.specs.Look.{Look}
use Rattle.lib_base.specs.Functions.{function_row}
use Rattle.lua_heap.specs.declared.world.World.{World as Memory}
use Rattle.lua_heap.specs.Plain.{plain}
use Rattle.move_laws.specs.Memory.{Leads}
use Rattle.machine_primitives.specs.declared.primitives.Called.{Called}
use Rattle.machine_primitives.specs.declared.primitives.Called.TheVariants.{Library, Error, Pcall, Xpcall, Close, Create, IsYieldable, Resume, Running, Status, Yield, Build, Print}
use Rattle.machine_primitives.specs.Primitives.{row_by}
use Rattle.machine_sound.proofs.Unpaid.{ResumedUnpaid, Tells, tells_so}
use Rattle.move_laws.proofs.Order.{is_spent}

-- a row that never ends as spent
abbrev pub Unspent : Row → Type 0
Unspent traps = Unit {0}
Unspent (stop e) = is_spent e → ⊥
Unspent (only slot r) = Unspent r
Unspent (act m k) = (n : ℕ) (t : Told m) → Tells m t → Unspent (k n t)

ending_in : Outcome → Ending
ending_in trapped = Rattle.machine_core.specs.Moves.go
ending_in (ends e W) = e

pub unspent_ends : (r : Row) (env : List Value) (W V : World) (e : Ending) → Unspent r → run r env W ≡ ends e V → is_spent e → ⊥
unfolding ending_in
unspent_ends traps env W V e u h s = absurd (cc)
unspent_ends (stop f) env W V e u h s = u (subst is_spent (sym (ap ending_in h)) s)
unspent_ends (only slot r) env W V e u h s = unspent_ends r (drop slot env) W V e u h s
unspent_ends (act m k) env W V e u h s =
    by (λ d q h. unspent_ends (k (length env) d.told) (env ++ d.values) d.world V e (u (length env) d.told (tells_so m env W d q)) h s) (move m env W) refl h
  where
    by : ((d : Made (Told m)) → move m env W ≡ Some d → run (k (length env) d.told) (env ++ d.values) d.world ≡ ends e V → ⊥)
        → (o : Option (Made (Told m))) → move m env W ≡ o → elim o as (λ _. Outcome) [ None ↦ trapped | Some d ↦ run (k (length env) d.told) (env ++ d.values) d.world ] ≡ ends e V → ⊥
    by goes None q h = absurd (cc)
    by goes (Some d) q h = goes d q h

-- and the rows of the libraries are so

hands_over : Unspent hand_over
hands_over n lua_top c = λ h. h
hands_over n _ c = λ h. h

blames_so : (text : List ℕ) → Unspent (blames text)
blames_so text n t c = λ h. h

gives_so : (xs : List Arg) → Unspent (gives_back xs)
gives_so xs n t c = hands_over

looks : (l : Look) → Unspent (look_row l)
looks l n t c = λ m s d. by m s
  where
    by : (m : ℕ) (s : LookShape) → Unspent (after_look m s)
    by m is_given = λ n t c. hands_over
    by m (is_refused text) = blames_so text
    by m is_raised = λ n t c h. h

over_so : (over : Over) (r : Row) → Unspent r → Unspent (over_frame over r)
over_so over r u n true c = u
over_so over r u n false c = blames_so stack_overflow

pcall_so : Unspent pcall_row
pcall_so n t c = over_so over_pcall _ (λ n t c h. h)

xpcall_so : Unspent xpcall_row
xpcall_so n t c = over_so (over_xpcall (read (suc n))) _ (λ n t c h. h)

errs_so : (n : ℕ) (s : Shape) (o : Option ℤ) → Unspent (errs_at n s o)
errs_so n s None = blames_so []
errs_so n s (Some (pos zero)) = λ a b c h. h
errs_so n s (Some (pos (suc level))) = λ a b c x y z h. h
errs_so n s (Some (negsuc k)) = λ a b c h. h

error_so : Unspent error_row
error_so n t c = λ m s d. errs_so n s (level_in s)

entry_so : (s : CallShape) → ResumedUnpaid (resumed s) → Unspent (after_entry s)
entry_so is_entered f = λ h. h
entry_so (is_primitive n) f = λ h. h
entry_so not_paid f = λ h. f
entry_so (not_entered text) f = blames_so text

resumes_so : (s : ResumeShape) → ResumedUnpaid s → Unspent (after_resume s)
resumes_so (resumed is_entered) f = hands_over
resumes_so (resumed (is_primitive n)) f = λ h. h
resumes_so (resumed not_paid) f = λ h. f
resumes_so (resumed (not_entered text)) f = blames_so text
resumes_so (refused text) f = λ n t c. hands_over

resumed_so : (n : ℕ) (s : Shape) → Unspent (Rattle.machine_core.specs.MachineStep.resumes s n)
resumed_so n (is_object a_coroutine) = λ a s f. resumes_so s f
resumed_so n _ = blames_so []

resume_so : Unspent resume_row
resume_so n t c = λ m s d. resumed_so n s

yield_so : Unspent yield_row
yield_so n true c = λ h. h
yield_so n false c = λ a t d b u e. hands_over

closing_so : Unspent closing_row
closing_so n one_left c = λ a t d b u e h. h
closing_so n all_closed c = λ a t d b u e. hands_over
closing_so n closed_with_error c = λ a t d b u e. hands_over

closes_so : (s : ResumeShape) → ResumedUnpaid s → Unspent (after_closing s)
closes_so (resumed is_entered) f = closing_so
closes_so (resumed (is_primitive n)) f = λ h. h
closes_so (resumed not_paid) f = λ h. f
closes_so (resumed (not_entered text)) f = blames_so text
closes_so (refused text) f = blames_so text

closed_so : (n : ℕ) (s : Shape) → Unspent (Rattle.machine_core.specs.MachineStep.closes_coroutine s n)
closed_so n (is_object a_coroutine) = λ a s f. closes_so s f
closed_so n _ = blames_so []

close_so : Unspent close_row
close_so n t c = λ m s d. closed_so n s

creates_so : (n : ℕ) (text : List ℕ) (b : Bool) → Unspent (cond b (act (create (read n)) (λ co _. gives_back (read co ∷ []))) (blames text))
creates_so n text true = λ a b c. gives_so []
creates_so n text false = blames_so []

create_so : Unspent create_row
create_so n t c = λ m s d. creates_so n (wrong_type 1 (codes "create") (codes "function") s) (can_call s)

statuses_so : (n : ℕ) (s : Shape) → Unspent (sees_status s n)
statuses_so n (is_object a_coroutine) = λ a s f. gives_so []
statuses_so n _ = blames_so []

status_so : Unspent status_row
status_so n t c = λ m s d. statuses_so n s

running_so : Unspent running_row
running_so n t c = gives_so []

print_so : Unspent print_row
print_so n t c = λ a b d. hands_over

loaded_so : (x : Option Arg) (l : Loaded Prototype) → Unspent (loaded_row x l)
loaded_so x (wrong error) = blames_so error
loaded_so x (not_loaded why) = gives_so []
loaded_so x (loaded name p) = λ n t c. gives_so []

loads_so : (builds : Builds Prototype) → Unspent (load_row builds)
loads_so builds c t d = λ count chunk d m name e k mode f. loaded_so (environment_at c count) (load_of builds chunk name mode)

called_so : (builds : Builds Body) (c : Called) → Unspent (row_by builds c)
called_so builds (Library f) = looks (function_row f)
called_so builds Error = error_so
called_so builds Pcall = pcall_so
called_so builds Xpcall = xpcall_so
called_so builds Close = close_so
called_so builds Create = create_so
called_so builds IsYieldable = gives_so []
called_so builds Resume = resume_so
called_so builds Running = running_so
called_so builds Status = status_so
called_so builds Yield = yield_so
called_so builds Build = loads_so (code_builds builds)
called_so builds Print = print_so

pub called_unspent : {W V : Memory} (builds : Builds Body) (c : Called) (e : Ending) → Leads (row_by builds c) [] W V e → is_spent e → ⊥
called_unspent {W} {V} builds c e l = unspent_ends (row_by builds c) [] (plain W 0) (plain V 0) e (called_so builds c) (l.is 0)

-- Rows that end no turn and pay for nothing: what they come to at once, the other world comes to.
use Rattle.code_core.specs.Prototype.{Prototype}
use Rattle.lua_meaning.specs.Step.{Primitives}
use Rattle.std.proofs.Common.{ℕ, ◌≡◌, List, [], ◌++◌, length, Option, Some, None, refl, sym, subst, Bool, true, false}
use Rattle.std.specs.Prelude.{drop, cond}
use Rattle.int_core.specs.Value.{Value, a_coroutine, Shape, is_object}
use Rattle.machine_core.specs.World.{World}
use Rattle.machine_core.specs.Moves.{Made, Told, move, CallShape, is_entered, is_primitive, not_paid, not_entered, TopShape, lua_top, pcall_top, xpcall_top, handler_top, closing_top, no_top, ClosingShape, one_left, all_closed, closed_with_error, ResumeShape, resumed, refused, Row, traps, stop, only, act, Ending, spent, main_yielded, main_returned, main_failed, Outcome, trapped, ends, run}
use Rattle.machine_core.specs.FrameRows.{hand_over, handed, closing_by, handed_to, unwound, raised_row, raised_to, coroutine_fails}
use Rattle.machine_core.specs.MachineStep.{after_entry, after_resume, after_closing, resumes as row_resumes, closes_coroutine as row_closes, resume_row, close_row}
use Rattle.machine_sound.proofs.Unpaid.{Unpaid, ResumedUnpaid, Tells, tells_so}
use Rattle.machine_means.specs.Joined.{TalkWorld}
use Rattle.machine_means.specs.Laws.{GivesBack}
use Rattle.machine_means.specs.Stands.{Stands, results_come, ComesTo}
use Rattle.means_steps.specs.Steps.{EndsSo, Leads, GoesOn}

-- rows within a turn: they end none, and pay for nothing
abbrev pub EndsNoTurn : Row → Type 0
EndsNoTurn traps = Unit {0}
EndsNoTurn (stop ending) = GoesOn ending
EndsNoTurn (only slot r) = EndsNoTurn r
EndsNoTurn (act m k) = (n : ℕ) (told : Told m) → Tells m told → EndsNoTurn (k n told)

abbrev pub GoesOnIn : Outcome → Type 0
GoesOnIn trapped = Unit {0}
GoesOnIn (ends ending W) = GoesOn ending

pub goes_on_in : (r : Row) → EndsNoTurn r → (env : List Value) (W : World) → GoesOnIn (run r env W)
goes_on_in traps k env W = tt
goes_on_in (stop ending) k env W = k
goes_on_in (only slot r) k env W = goes_on_in r k (drop slot env) W
goes_on_in (act m t) k env W = by (move m env W) refl (λ d z. goes_on_in (t (length env) d.told) (k (length env) d.told (tells_so m env W d z)) (env ++ d.values) d.world)
  where
    by : (o : Option (Made (Told m))) → move m env W ≡ o → ((d : Made (Told m)) → move m env W ≡ Some d → GoesOnIn (run (t (length env) d.told) (env ++ d.values) d.world)) → GoesOnIn (elim o as (λ _. Outcome) [ None ↦ trapped | Some d ↦ run (t (length env) d.told) (env ++ d.values) d.world ])
    by None z ih = tt
    by (Some d) z ih = ih d z

ends_so : (shown : List ℕ) (ending : Ending) (W : World) (T : TalkWorld) → GoesOn ending → Stands ending W T → EndsSo shown ending W T
ends_so shown spent W T g s = absurd g
ends_so shown main_yielded W T g s = absurd g
ends_so shown main_returned W T g s = absurd g
ends_so shown main_failed W T g s = absurd g
ends_so shown _ W T g s = s

-- what such a row comes to at once
pub comes_leads : (library : Primitives Prototype) (shown : List ℕ) (r : Row) (env : List Value) (W : World) (T : TalkWorld) → EndsNoTurn r → ComesTo (run r env W) T → Leads library shown T (run r env W)
comes_leads library shown r env W T k c =
    subst (λ o. Leads library shown T o) (sym c.is) (0, ends_so shown c.ending c.world T (subst GoesOnIn c.is (goes_on_in r k env W)) c.stands)

-- the rows of frames that are no Lua functions'

handed_free : (top : TopShape) → EndsNoTurn (handed top)
handed_free lua_top = tt
handed_free _ = tt

pub hand_free : EndsNoTurn hand_over
hand_free = λ _ top _. handed_free top

closing_free : (s : ClosingShape) (v : ℕ) → EndsNoTurn (closing_by s v)
closing_free one_left v = λ _ _ _ _ _ _. tt
closing_free all_closed v = λ _ _ _ _ _ _. hand_free
closing_free closed_with_error v = λ _ _ _ _ _ _. hand_free

pub handed_to_free : (top : TopShape) → (top ≡ no_top true → ⊥) → EndsNoTurn (handed_to top)
handed_to_free lua_top n = tt
handed_to_free handler_top n = λ _ _ _ _ _ _ _ _ _. tt
handed_to_free closing_top n = λ _ _ _ v s _. closing_free s v
handed_to_free (no_top true) n = absurd (n refl)
handed_to_free _ n = λ _ _ _ _ _ _ _ _ _. hand_free

pub either : (b : Bool) (x y : Row) → EndsNoTurn x → EndsNoTurn y → EndsNoTurn (cond b x y)
either true x y k l = k
either false x y k l = l

fails_free : EndsNoTurn coroutine_fails
fails_free = λ _ _ _ _ _ _ _ _ _. hand_free

pub unwound_free : (top : TopShape) → (top ≡ lua_top → ⊥) → (top ≡ no_top true → ⊥) → EndsNoTurn (unwound top)
unwound_free lua_top n m = absurd (n refl)
unwound_free pcall_top n m = λ _ _ _ _ _ _ _ _ _. hand_free
unwound_free xpcall_top n m = λ _ _ _ _ _ _ _ _ _. hand_free
unwound_free handler_top n m = λ _ _ _ _ _ _. tt
unwound_free closing_top n m = λ _ _ _ _ _ _ v s _. closing_free s v
unwound_free (no_top true) n m = absurd (m refl)
unwound_free (no_top false) n m = fails_free

raised_free : (top : TopShape) (h : ℕ) → EndsNoTurn (raised_to top h)
raised_free xpcall_top h = λ _ _ _ _ room _. either room _ _ (λ _ _ _. tt) (λ _ _ _. tt)
raised_free (no_top false) h = fails_free
raised_free _ h = tt

pub raised_row_free : EndsNoTurn raised_row
raised_row_free = λ h top _. raised_free top h

-- results on their way
pub gives_leads : (library : Primitives Prototype) (shown : List ℕ) (o : Outcome) (T : TalkWorld) → GivesBack o T → Leads library shown T o
gives_leads library shown o T g =
    subst (λ o. Leads library shown T o) (sym g.is) (0, ends_so shown g.ending g.world T (subst GoesOnIn g.reached (goes_on_in hand_over hand_free [] g.world)) (results_come g.ending g.world T g.reached g.now g.joined))

-- a coroutine's function was called, or a closing frame pushed

pub entry_free : (s : CallShape) → Unpaid s → EndsNoTurn (after_entry s)
entry_free is_entered k = tt
entry_free (is_primitive n) k = tt
entry_free not_paid k = k
entry_free (not_entered text) k = λ _ _ _. tt

after_resume_free : (s : ResumeShape) → ResumedUnpaid s → EndsNoTurn (after_resume s)
after_resume_free (resumed is_entered) k = hand_free
after_resume_free (resumed (is_primitive n)) k = tt
after_resume_free (resumed not_paid) k = absurd k
after_resume_free (resumed (not_entered text)) k = λ _ _ _. tt
after_resume_free (refused text) k = λ _ _ _. hand_free

after_closing_free : (s : ResumeShape) → ResumedUnpaid s → EndsNoTurn (after_closing s)
after_closing_free (resumed is_entered) k = λ v s _. closing_free s v
after_closing_free (resumed (is_primitive n)) k = tt
after_closing_free (resumed not_paid) k = absurd k
after_closing_free (resumed (not_entered text)) k = λ _ _ _. tt
after_closing_free (refused text) k = λ _ _ _. tt

resumes_free : (s : Shape) (co : ℕ) → EndsNoTurn (row_resumes s co)
resumes_free (is_object a_coroutine) co = λ _ told k. after_resume_free told k
resumes_free _ co = λ _ _ _. tt

pub resume_free : EndsNoTurn resume_row
resume_free = λ co _ _ _ s _. resumes_free s co

closes_free : (s : Shape) (co : ℕ) → EndsNoTurn (row_closes s co)
closes_free (is_object a_coroutine) co = λ _ told k. after_closing_free told k
closes_free _ co = λ _ _ _. tt

pub close_free : EndsNoTurn close_row
close_free = λ co _ _ _ s _. closes_free s co

-- What a move of a coroutine tells: it calls without paying.
use Rattle.std.proofs.Common.{◌≡◌, ℕ, List, [], ◌∷◌, Bool, true, false, Option, Some, None, length, refl, subst}
use Rattle.std.specs.Prelude.{codes, cond, drop, slice_get, ◌&&◌, nat_lt}
use Rattle.int_core.specs.Limits.{greatest_resumes, stack_overflow}
use Rattle.int_core.specs.Value.{primitive, a_function, Value, known, object, bind}
use Rattle.machine_core.specs.World.{Function, Coroutine, fresh, suspended, in_progress, normal, dead, failed, World, Stack, stack_of}
use Rattle.machine_core.specs.Moves.{resume, begin_closing, Move, Told, Made, made, move, CallShape, is_entered, is_primitive, not_paid, not_entered, ResumeShape, resumed, refused, enters, has_room, push_all, new_frame, starts_in, can_start, resumes, wait_for_another, closes_in, closes_coroutine, go_into, coroutine_number}
use Rattle.machine_core.specs.World.{push, closing}
use Rattle.machine_sound.proofs.Lists.{bind_some, some_is}

abbrev pub Unpaid : CallShape → Type 0
Unpaid not_paid = ⊥
Unpaid _ = Unit {0}

abbrev pub ResumedUnpaid : ResumeShape → Type 0
ResumedUnpaid (resumed s) = Unpaid s
ResumedUnpaid (refused text) = Unit {0}

abbrev pub Tells : (m : Move) → Told m → Type 0
Tells (resume x slot) told = ResumedUnpaid told
Tells (begin_closing x) told = ResumedUnpaid told
Tells _ told = Unit {0}

tells_of : {A : Type 0} (P : A → Type 0) (W : World) (vs : List Value) (t : A) (d : Made A) → made W vs t ≡ Some d → P t → P d.told
tells_of {A} P W vs t d e p = subst (λ (d : Made A). P d.told) (some_is {o = made W vs t} refl e) p

entered_unpaid : (f : Value) (arguments : List Value) (W : World) (d : Made CallShape) → enters W f arguments ≡ Some d → ResumedUnpaid (resumed d.told)
entered_unpaid (known (primitive n)) arguments W d e = tells_of (λ s. ResumedUnpaid (resumed s)) (record W { moving = arguments }) [] (is_primitive n) d e tt
entered_unpaid (object a_function n) arguments W d e =
    let f = bind_some (λ (f : Function). cond (has_room W 1) (made (push_all W (new_frame n f.code arguments ∷ [])) [] is_entered) (made W [] (not_entered stack_overflow))) (slice_get W.functions n) d e in
    by (push_all W (new_frame n f.0.code arguments ∷ [])) (has_room W 1) f.2
  where
    by : (V : World) (room : Bool) → cond room (made V [] is_entered) (made W [] (not_entered stack_overflow)) ≡ Some d → ResumedUnpaid (resumed d.told)
    by V true e = tells_of (λ s. ResumedUnpaid (resumed s)) V [] is_entered d e tt
    by V false e = tells_of (λ s. ResumedUnpaid (resumed s)) W [] (not_entered stack_overflow) d e tt
entered_unpaid _ arguments W d e = absurd (cc)

starts_unpaid : (c : Coroutine) (W : World) (co : ℕ) (arguments : List Value) (d : Made ResumeShape) → starts_in W co c arguments ≡ Some d → ResumedUnpaid d.told
starts_unpaid (fresh body) W co arguments d e =
    let x = bind_some (λ (x : Made CallShape). made x.world [] (resumed x.told)) (enters (go_into W co []) body arguments) d e in
    tells_of ResumedUnpaid x.0.world [] (resumed x.0.told) d x.2 (entered_unpaid body arguments (go_into W co []) x.0 x.1)
starts_unpaid (suspended frames) W co arguments d e = tells_of ResumedUnpaid _ [] (resumed is_entered) d e tt
starts_unpaid _ W co arguments d e = tells_of ResumedUnpaid W [] (refused _) d e tt

resumes_unpaid : (W : World) (s : Stack) (co : ℕ) (c : Coroutine) (arguments : List Value) (d : Made ResumeShape) → resumes W s co c arguments ≡ Some d → ResumedUnpaid d.told
resumes_unpaid W s co c arguments d e = by (can_start c && nat_lt greatest_resumes (length W.chain)) e
  where
    by : (b : Bool) → cond b (made W [] (refused (codes "too many nested resumes"))) (starts_in (cond (can_start c) (wait_for_another W s) W) co c arguments) ≡ Some d → ResumedUnpaid d.told
    by true e = tells_of ResumedUnpaid W [] (refused _) d e tt
    by false e = starts_unpaid c (cond (can_start c) (wait_for_another W s) W) co arguments d e

closes_in_unpaid : (W D : World) (s : Stack) (x : Option Value) (left : List Value) (d : Made ResumeShape) → closes_in W D s x left ≡ Some d → ResumedUnpaid d.told
closes_in_unpaid W D s x left d e = by (has_room W 1) e
  where
    by : (b : Bool) → cond b (made (push D s (closing x left)) [] (resumed is_entered)) (made W [] (resumed (not_entered stack_overflow))) ≡ Some d → ResumedUnpaid d.told
    by true e = tells_of ResumedUnpaid _ [] (resumed is_entered) d e tt
    by false e = tells_of ResumedUnpaid W [] (resumed (not_entered stack_overflow)) d e tt

closes_unpaid : (c : Coroutine) (W : World) (s : Stack) (co : ℕ) (d : Made ResumeShape) → closes_coroutine W s co c ≡ Some d → ResumedUnpaid d.told
closes_unpaid (fresh body) W s co d e = closes_in_unpaid W _ s None [] d e
closes_unpaid (suspended frames) W s co d e = closes_in_unpaid W _ s None _ d e
closes_unpaid (in_progress frames) W s co d e = tells_of ResumedUnpaid W [] (refused _) d e tt
closes_unpaid (normal frames) W s co d e = tells_of ResumedUnpaid W [] (refused _) d e tt
closes_unpaid dead W s co d e = closes_in_unpaid W W s None [] d e
closes_unpaid (failed x left) W s co d e = closes_in_unpaid W _ s (Some x) left d e

pub tells_so : (m : Move) (env : List Value) (W : World) (d : Made (Told m)) → move m env W ≡ Some d → Tells m d.told
tells_so (resume x slot) env W d e =
    let s = bind_some (λ s. bind (coroutine_number (Rattle.machine_core.specs.Text.arg env x)) (λ co. bind (slice_get W.coroutines co) (λ c. resumes W s co c (drop slot env)))) (stack_of W) d e in
    let co = bind_some (λ co. bind (slice_get W.coroutines co) (λ c. resumes W s.0 co c (drop slot env))) (coroutine_number (Rattle.machine_core.specs.Text.arg env x)) d s.2 in
    let c = bind_some (λ c. resumes W s.0 co.0 c (drop slot env)) (slice_get W.coroutines co.0) d co.2 in
    resumes_unpaid W s.0 co.0 c.0 (drop slot env) d c.2
tells_so (begin_closing x) env W d e =
    let s = bind_some (λ s. bind (coroutine_number (Rattle.machine_core.specs.Text.arg env x)) (λ co. bind (slice_get W.coroutines co) (closes_coroutine W s co))) (stack_of W) d e in
    let co = bind_some (λ co. bind (slice_get W.coroutines co) (closes_coroutine W s.0 co)) (coroutine_number (Rattle.machine_core.specs.Text.arg env x)) d s.2 in
    let c = bind_some (closes_coroutine W s.0 co.0) (slice_get W.coroutines co.0) d co.2 in
    closes_unpaid c.0 W s.0 co.0 d c.2
tells_so _ env W d e = tt

-- What becomes of the main coroutine when it is resumed.
use Rattle.std.proofs.Common.{◌≡◌, ℕ, ◌+◌, ◌<◌, List, [], ◌∷◌, ◌++◌, length, Option, Some, None, refl, ap, sym, subst, ◌∙◌, Bool, true, false}
use Rattle.std.specs.Prelude.{cond, map, nat_le, option_map, slice_get, slice_set}
use Rattle.int_core.specs.Limits.{greatest_depth, stack_overflow}
use Rattle.int_core.specs.Operations.{is_function}
use Rattle.int_core.specs.Value.{primitive, Value, a_function, known, object, bind}
use Rattle.machine_core.specs.World.{Function as Body, Coroutine, fresh, suspended, in_progress, World, stack_of, Frame}
use Rattle.machine_core.specs.Moves.{Made, made, take_moving, CallShape, is_entered, is_primitive, not_entered, ResumeShape, resumed, go_into, put_coroutine, awake, enters, has_room, push_all, new_frame, starts_in, can_start, Ending, ends, run}
use Rattle.machine_core.specs.FrameRows.{hand_over}
use Rattle.machine_core.specs.MachineStep.{after_resume}
use Rattle.machine_runs.specs.Runs.{after_waking, wakes}
use Rattle.machine_runs.specs.Laws.{MayTurn}
use Rattle.machine_sound.specs.Sound.{Valid, sizes}
use Rattle.machine_sound.proofs.Frames.{stack_is}
use Rattle.machine_sound.proofs.Lists.{bind_at, get_map, get_set_same, get_there, get_within, last_push, map_get, some_is}
use Rattle.table_core.specs.declared.value.CoroId.{CoroId}
use Rattle.table_core.specs.declared.value.Value.{Value as Kept}
use Rattle.lua_stack.specs.Frames.{KeptStack, frames}
use Rattle.lua_heap.specs.declared.world.Coro.{Coro}
use Rattle.lua_heap.specs.declared.world.Coro.TheVariants.{Fresh, Suspended}
use Rattle.lua_heap.specs.declared.world.World.{World as Memory}
use Rattle.lua_heap.specs.Plain.{plain, coroutine}
use Rattle.lua_heap.specs.Reading.{value}
use Rattle.move_laws.specs.Memory.{HasStack, IsSound, Leads, Makes}
use Rattle.machine_calls.specs.declared.calling.Called.{Called}
use Rattle.machine_calls.specs.declared.calling.Called.TheVariants.{Function, Primitive}
use Rattle.machine_calls.specs.Calling.{CanEnter, told_of}
use Rattle.machine_calls.specs.Entering.{EntersSo}
use Rattle.lua_session.specs.Resuming.{HasYielded, Resumes, body_in}

abbrev moved : World → List Value → World
moved W vs = record W { moving = vs }

-- over whole worlds

abbrev so_far : Option (Made CallShape) → Option (Made ResumeShape)
so_far o = bind {B = Made ResumeShape} o (λ d. made d.world [] (resumed d.told))

abbrev from_main : World → ℕ → Option (Made ResumeShape)
from_main W co = bind {B = Made ResumeShape} (slice_get W.coroutines co) (λ c. starts_in (record W { moving = [] }) co c W.moving)

pub begins_so : (V U X : World) (co : ℕ) (body : Value) (told : CallShape) (e : Ending) → V.main ≡ Some co → slice_get V.coroutines co ≡ Some (fresh body) → go_into (record V { moving = [] }) co [] ≡ U
    → enters U body V.moving ≡ made X [] told → run (after_resume (resumed told)) [] X ≡ ends e X → wakes V ≡ ends e X
unfolding wakes
begins_so V U X co body told e m c g n h =
    ap after_waking (bind_at (from_main V) V.main co m
    ∙ bind_at (λ c. starts_in (record V { moving = [] }) co c V.moving) (slice_get V.coroutines co) (fresh body) c
    ∙ ap (λ U. so_far (enters U body V.moving)) g
    ∙ ap so_far n)
    ∙ h

pub goes_on_so : (V X : World) (co : ℕ) (fs : List Frame) (e : Ending) → V.main ≡ Some co → slice_get V.coroutines co ≡ Some (suspended fs)
    → record (go_into (record V { moving = [] }) co fs) { moving = V.moving } ≡ X → run hand_over [] X ≡ ends e X → wakes V ≡ ends e X
unfolding wakes
goes_on_so V X co fs e m c g h =
    ap after_waking (bind_at (from_main V) V.main co m
    ∙ bind_at (λ c. starts_in (record V { moving = [] }) co c V.moving) (slice_get V.coroutines co) (suspended fs) c
    ∙ ap (λ X. made X [] (resumed is_entered)) g)
    ∙ h

-- the coroutine that was gone into runs
pub runs_there : (V : World) (co : ℕ) (c : Coroutine) (fs : List Frame) → slice_get V.coroutines co ≡ Some c → stack_of (go_into V co fs) ≡ Some (record { coroutine = co; frames = fs })
unfolding go_into put_coroutine
runs_there V co c fs e = stack_is (record V { chain = V.chain ++ co ∷ []; coroutines = slice_set V.coroutines co (in_progress fs) }) co fs (last_push V.chain co) (get_set_same V.coroutines co c (in_progress fs) e)

-- a function is entered, since there is room on an empty stack

same_told : (V W : World) (a b : CallShape) → made V [] a ≡ made W [] b → a ≡ b
same_told V W a b e = ap (λ (d : Made CallShape). d.told) (some_is {o = made V [] a} refl e)

entered_there : (U X : World) (co n : ℕ) (f : Body) (vs : List Value) (told : CallShape) → stack_of U ≡ Some (record { coroutine = co; frames = [] }) → slice_get U.functions n ≡ Some f
    → enters U (object a_function n) vs ≡ made X [] told → told ≡ is_entered
entered_there U X co n f vs told s g e =
    let room : has_room U 1 ≡ true = ap (λ o. elim o as (λ _. Bool) [ None ↦ false | Some s ↦ nat_le (length s.frames + 1) greatest_depth ]) s in
    let yes : enters U (object a_function n) vs ≡ made (push_all U (new_frame n f.code vs ∷ [])) [] is_entered =
    bind_at (λ f. cond (has_room U 1) (made (push_all U (new_frame n f.code vs ∷ [])) [] is_entered) (made U [] (not_entered stack_overflow))) (slice_get U.functions n) f g
    ∙ ap (λ b. cond b (made (push_all U (new_frame n f.code vs ∷ [])) [] is_entered) (made U [] (not_entered stack_overflow))) room in
    same_told X (push_all U (new_frame n f.code vs ∷ [])) told is_entered (sym e ∙ yes)

told_entered : (texts : List (List ℕ)) (called : Called) → told_of texts called ≡ is_entered → (called ≡ Function → ⊥) → ⊥
told_entered texts Function e f = f refl
told_entered texts _ e f = absurd (cc)

told_primitive : (texts : List (List ℕ)) (n : ℕ) (called : Called) → told_of texts called ≡ is_primitive n → ((m : ℕ) → called ≡ Primitive m → ⊥) → ⊥
told_primitive texts n (Primitive m) e f = f m refl
told_primitive texts n _ e f = absurd (cc)

abbrev IsThere : World → Value → Type 0
IsThere U body = (n : ℕ) → body ≡ object a_function n → (f : Body) × (slice_get U.functions n ≡ Some f)

no_true : false ≡ true → ⊥
no_true e = cc

pub no_other : (U X : World) (co : ℕ) (body : Value) (vs : List Value) (texts : List (List ℕ)) (called : Called) → stack_of U ≡ Some (record { coroutine = co; frames = [] }) → is_function body ≡ true → IsThere U body
    → enters U body vs ≡ made X [] (told_of texts called) → (called ≡ Function → ⊥) → ((n : ℕ) → called ≡ Primitive n → ⊥) → ⊥
no_other U X co (known (primitive n)) vs texts called s b f e nf np = told_primitive texts n called (same_told X (record U { moving = vs }) (told_of texts called) (is_primitive n) (sym e)) np
no_other U X co (object a_function n) vs texts called s b f e nf np = let g = f n refl in told_entered texts called (entered_there U X co n g.0 vs (told_of texts called) s g.1 e) nf
no_other U X co _ vs texts called s b f e nf np = no_true b

-- in memory

same_world : {A : Type 0} (V W : World) (vs ws : List Value) (a b : A) → made V vs a ≡ made W ws b → V ≡ W
same_world {A} V W vs ws a b e = ap (λ (d : Made A). d.world) (some_is {o = made V vs a} refl e)

pub taken_world : (old taken : Memory) {vs : List Value} → Makes old taken take_moving [] vs tt → (fuel : ℕ) → moved (plain old fuel) [] ≡ plain taken fuel
taken_world old taken {vs} m fuel = same_world (moved (plain old fuel) []) (plain taken fuel) (plain old fuel).moving vs tt tt (m.is fuel)

pub taken_rest : (old taken into : Memory) → taken ≡ record old { moving = taken.moving } → into ≡ record taken { coros = into.coros; chain = into.chain }
    → into ≡ record old { coros = into.coros; chain = into.chain; moving = into.moving }
taken_rest old taken into t r =
    r
    ∙ ap (λ (W : Memory). record W { coros = into.coros; chain = into.chain }) t
    ∙ ap (λ moving. record old { coros = into.coros; chain = into.chain; moving = moving }) (sym (ap (λ (W : Memory). W.moving) r))

pub can_enter : (W V : Memory) (co : CoroId) (body : Kept) → IsSound W → V ≡ record W { coros = V.coros; chain = V.chain; moving = V.moving } → slice_get W.coros.objects co.0 ≡ Some (Fresh body) → CanEnter V (value V.strings body)
can_enter W V co body s r e =
    let there : slice_get (plain W 0).coroutines co.0 ≡ Some (fresh (value W.strings body)) = get_map (coroutine W.strings) W.coros.objects co.0 (Fresh body) e in
    let ok = s.sound.solid.coroutines co.0 (fresh (value W.strings body)) there in
    subst (λ texts. CanEnter V (value texts body)) (sym (ap (λ (W : Memory). W.strings) r)) (record {
      is = ok.1;
      there = λ n is.
          let valid : n < length (plain W 0).functions = subst (Valid (sizes s.primitives (plain W 0))) is ok.0 in
          let g = get_there (plain W 0).functions n valid in
          record { function = g.0; is = ap (λ (W : Memory). slice_get (plain W 0).functions n) r ∙ g.1; checked = (s.sound.solid.functions n g.0 g.1).code };
    })

pub no_other_call : (into new : Memory) (co : CoroId) (body : Kept) (vs : List Value) (called : Called) → stack_of (plain into 0) ≡ Some (record { coroutine = co.0; frames = [] }) → CanEnter into (value into.strings body)
    → EntersSo into new (value into.strings body) vs (told_of into.strings called) → (called ≡ Function → ⊥) → ((n : ℕ) → called ≡ Primitive n → ⊥) → ⊥
no_other_call into new co body vs called s k e nf np =
    no_other (plain into 0) (plain new 0) co.0 (value into.strings body) vs into.strings called s k.is (λ n is. let h = k.there n is in (h.function, h.is)) (e.is 0) nf np

module _ (old taken into : Memory) (co : CoroId) (c : Coroutine) (there : slice_get (plain old 0).coroutines co.0 ≡ Some c) (t : (fuel : ℕ) → moved (plain old fuel) [] ≡ plain taken fuel)
    (i : (fuel : ℕ) → plain into fuel ≡ go_into (plain taken fuel) co.0 (awake (slice_get (plain taken fuel).coroutines co.0))) where
  pub went_into : (fuel : ℕ) → go_into (moved (plain old fuel) []) co.0 (awake (Some c)) ≡ plain into fuel
  went_into fuel =
      ap (λ o. go_into (moved (plain old fuel) []) co.0 (awake o)) (sym there)
      ∙ ap (λ (W : World). go_into W co.0 (awake (slice_get W.coroutines co.0))) (t fuel)
      ∙ sym (i fuel)

  pub stack_there : stack_of (plain into 0) ≡ Some (record { coroutine = co.0; frames = awake (Some c) })
  stack_there = ap stack_of (sym (went_into 0)) ∙ runs_there (moved (plain old 0) []) co.0 c (awake (Some c)) there

  pub has_stack : HasStack into
  has_stack = record { stack = record { coroutine = co.0; frames = awake (Some c) }; is = stack_there }

pub begun_main : (old taken into new : Memory) (co : CoroId) (body : Kept) (called : Called) (told : CallShape) (arguments : List Kept) (e : Ending) → old.main ≡ Some co → slice_get old.coros.objects co.0 ≡ Some (Fresh body)
    → ((fuel : ℕ) → moved (plain old fuel) [] ≡ plain taken fuel) → ((fuel : ℕ) → plain into fuel ≡ go_into (plain taken fuel) co.0 (awake (slice_get (plain taken fuel).coroutines co.0)))
    → into.strings ≡ old.strings → arguments ≡ old.moving.items → EntersSo into new (value into.strings body) (map (value into.strings) arguments) (told_of into.strings called) → told_of into.strings called ≡ told
    → Leads (after_resume (resumed told)) [] new new e → Resumes old new e
begun_main old taken into new co body called told arguments e m s t i texts came enters_so tells h = record {
  is = λ fuel.
      let there : slice_get (plain old 0).coroutines co.0 ≡ Some (fresh (value old.strings body)) = get_map (coroutine old.strings) old.coros.objects co.0 (Fresh body) s in
      begins_so (plain old fuel) (plain into fuel) (plain new fuel) co.0 (value old.strings body) told e (ap (option_map (λ (co : CoroId). co.0)) m) there
      (went_into old taken into co (fresh (value old.strings body)) there t i fuel)
      (ap (λ texts. enters (plain into fuel) (value texts body) (map (value texts) old.moving.items)) (sym texts)
      ∙ ap (λ vs. enters (plain into fuel) (value into.strings body) (map (value into.strings) vs)) (sym came)
      ∙ enters_so.is fuel ∙ ap (λ told. made (plain new fuel) [] told) tells)
      (h.is fuel);
}

pub went_on : (old taken into new : Memory) (co : CoroId) (s : KeptStack) (arguments : List Kept) (e : Ending) → old.main ≡ Some co → slice_get old.coros.objects co.0 ≡ Some (Suspended s)
    → ((fuel : ℕ) → moved (plain old fuel) [] ≡ plain taken fuel) → ((fuel : ℕ) → plain into fuel ≡ go_into (plain taken fuel) co.0 (awake (slice_get (plain taken fuel).coroutines co.0)))
    → into.strings ≡ old.strings → arguments ≡ old.moving.items → ((fuel : ℕ) → plain new fuel ≡ moved (plain into fuel) (map (value into.strings) arguments))
    → Leads hand_over [] new new e → Resumes old new e
went_on old taken into new co s arguments e m k t i texts came gives h = record {
  is = λ fuel.
      let fs = frames (value old.strings) s in
      let there : slice_get (plain old 0).coroutines co.0 ≡ Some (suspended fs) = get_map (coroutine old.strings) old.coros.objects co.0 (Suspended s) k in
      goes_on_so (plain old fuel) (plain new fuel) co.0 fs e (ap (option_map (λ (co : CoroId). co.0)) m) there
      (ap (λ (W : World). moved W (plain old fuel).moving) (went_into old taken into co (suspended fs) there t i fuel)
      ∙ ap (moved (plain into fuel)) (sym (ap (λ texts. map (value texts) arguments) texts ∙ ap (map (value old.strings)) came))
      ∙ sym (gives fuel))
      (h.is fuel);
}

-- which of the two it is

only_yielded : (texts : List (List ℕ)) (c : Coro) → body_in c ≡ None → can_start (coroutine texts c) ≡ true → (stack : KeptStack) × (c ≡ Suspended stack)
only_yielded texts (Suspended stack) e t = (stack, refl)
only_yielded texts (Fresh body) e t = absurd (cc)
only_yielded texts _ e t = absurd (no_true t)

is_body : (c : Coro) (body : Kept) → body_in c ≡ Some body → c ≡ Fresh body
is_body (Fresh v) body e = let same : v ≡ body = some_is {o = Some v} refl e in ap (λ v. Fresh v) same
is_body _ body e = absurd (cc)

pub main_is : (W : Memory) (t : MayTurn (plain W 0)) (co : CoroId) → W.main ≡ Some co → t.main ≡ co.0
main_is W t co e = some_is t.is_main (ap (option_map (λ (co : CoroId). co.0)) e)

pub main_within : (W : Memory) (t : MayTurn (plain W 0)) (co : CoroId) → W.main ≡ Some co → co.0 < length W.coros.objects
main_within W t co e =
    let there : slice_get (plain W 0).coroutines co.0 ≡ Some t.coroutine = subst (λ n. slice_get (plain W 0).coroutines n ≡ Some t.coroutine) (main_is W t co e) t.there in
    let k = map_get (coroutine W.strings) W.coros.objects co.0 t.coroutine there in
    get_within W.coros.objects co.0 k.0 k.1

pub not_begun : (W : Memory) (co : CoroId) (c : Coro) (body : Kept) → slice_get W.coros.objects co.0 ≡ Some c → body_in c ≡ Some body → slice_get W.coros.objects co.0 ≡ Some (Fresh body)
not_begun W co c body there e = there ∙ ap Some (is_body c body e)

pub has_yielded : (W : Memory) (t : MayTurn (plain W 0)) (co : CoroId) (c : Coro) → W.main ≡ Some co → slice_get W.coros.objects co.0 ≡ Some c → body_in c ≡ None → HasYielded W co
has_yielded W t co c m there e =
    let at : slice_get (plain W 0).coroutines co.0 ≡ Some t.coroutine = subst (λ n. slice_get (plain W 0).coroutines n ≡ Some t.coroutine) (main_is W t co m) t.there in
    let same : t.coroutine ≡ coroutine W.strings c = some_is at (get_map (coroutine W.strings) W.coros.objects co.0 c there) in
    let k = only_yielded W.strings c e (ap can_start (sym same) ∙ t.waits) in
    record { stack = k.0; there = there ∙ ap Some k.1 }

pub no_main : (W : Memory) → MayTurn (plain W 0) → W.main ≡ None → ⊥
no_main W t e = let k : None ≡ Some t.main = sym (ap (option_map (λ (co : CoroId). co.0)) e) ∙ t.is_main in cc

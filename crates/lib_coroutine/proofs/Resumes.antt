-- The row of `coroutine.resume`, over whole worlds.
use Rattle.std.proofs.Common.{◌≡◌, ⊎_elim, ℕ, ◌+◌, ◌≤◌, List, [], ◌∷◌, ◌++◌, length, map, Option, Some, None, Result, refl, ap, sym, subst, ◌∙◌, append-nil, Bool, true, false, arith}
use Rattle.std.specs.Prelude.{◌&&◌, OnErr, cond, codes, drop, nat_lt, nat_le, slice_get}
use Rattle.std.specs.Global.{Vec}
use Rattle.lua_stack.proofs.Called.{on_err}
use Rattle.std.proofs.lemmas.List.{length-map}
use Rattle.int_core.specs.Limits.{greatest_depth, greatest_resumes, stack_overflow}
use Rattle.int_core.specs.Value.{boolean, string, Value, known, object, primitive, a_coroutine, a_function, shape, bind, last, nth}
use Rattle.list_laws.proofs.Items.{some_same}
use Rattle.list_laws.proofs.Tests.{lt_not, lt_off, split}
use Rattle.machine_core.specs.World.{Function, LuaFrame, Frame, lua, Coroutine, fresh, suspended, in_progress, World, Stack, stack_of, put_frames, push}
use Rattle.machine_core.specs.Text.{read}
use Rattle.machine_core.specs.FrameRows.{hand_over, handed}
use Rattle.machine_core.specs.Moves.{Made, made, is_entered, is_primitive, not_entered, ResumeShape, resumed, refused, resume, coroutine_number, can_start, enters, go_into, has_room, new_frame, push_all, put_coroutine, wait_for_another, starts_in, resumes as resumes_in, Ending, go, calls_primitive, stop, ends, run, TopShape, lua_top, top_shape, see_top}
use Rattle.machine_core.specs.MachineStep.{after_resume, resume_row, resumes}
use Rattle.machine_sound.proofs.Lists.{bind_at, get_map, get_set_same, last_push}
use Rattle.machine_sound.proofs.Frames.{stack_is}
use Rattle.table_core.specs.declared.value.CoroId.{CoroId}
use Rattle.table_core.specs.declared.value.Value.{Value as Kept}
use Rattle.lua_stack.specs.Frames.{KeptStack, frames}
use Rattle.lua_heap.specs.declared.world.Coro.{Coro}
use Rattle.lua_heap.specs.declared.world.Coro.TheVariants.{Fresh, Suspended}
use Rattle.lua_heap.specs.declared.world.World.{World as Memory}
use Rattle.lua_heap.specs.Reading.{value}
use Rattle.lua_heap.specs.Plain.{coroutine, plain}
use Rattle.lua_heap.specs.Cells.{CellsAreListed}
use Rattle.lua_heap.specs.Codes.{AreCodes}
use Rattle.move_laws.specs.Memory.{HasStack, InOrder, Leads, ReadsSame}
use Rattle.move_laws.proofs.Rows.{act_is}
use Rattle.lib_coroutine.specs.Arguments.{FirstIs}
use Rattle.lib_coroutine.specs.Resuming.{GoesInto, resumption_of, refusal_of}
use Rattle.lib_coroutine.specs.declared.resuming.Resumption.{Resumption}
use Rattle.lib_coroutine.specs.declared.resuming.Resumption.TheVariants as resumption
use Rattle.lib_coroutine.proofs.Rows.{leads_by, with_moving}
use Rattle.lib_coroutine.proofs.Switched.{fresh_waits, in_progress_there, set_twice}

-- the row, up to what the move comes to

abbrev moved_from : World → List Value → Option (Made ResumeShape)
moved_from V env = bind (stack_of V) (λ s. bind (coroutine_number (nth env 0)) (λ co. bind (slice_get V.coroutines co) (λ c. resumes_in V s co c (drop 1 env))))

module _ (V : World) (s : Stack) (co : ℕ) (c : Coroutine) (k : stack_of V ≡ Some s) (e : nth V.moving 0 ≡ object a_coroutine co) (t : slice_get V.coroutines co ≡ Some c) where
  abbrev V0 : World
  V0 = with_moving V []

  moved_is : moved_from V0 V.moving ≡ resumes_in V0 s co c (drop 1 V.moving)
  moved_is =
      bind_at (λ s. bind (coroutine_number (nth V.moving 0)) (λ co. bind (slice_get V.coroutines co) (λ c. resumes_in V0 s co c (drop 1 V.moving)))) (stack_of V) s k
      ∙ ap (λ v. bind (coroutine_number v) (λ co. bind (slice_get V.coroutines co) (λ c. resumes_in V0 s co c (drop 1 V.moving)))) e
      ∙ bind_at (λ c. resumes_in V0 s co c (drop 1 V.moving)) (slice_get V.coroutines co) c t

  pub row_is : (D : World) (told : ResumeShape) → resumes_in V0 s co c (drop 1 V.moving) ≡ made D [] told → run resume_row [] V ≡ run (after_resume told) (V.moving ++ [] ++ []) D
  row_is D told m =
      ap (λ s. run (resumes s 0) (V.moving ++ []) V0) (ap shape e)
      ∙ act_is (resume (read 0) 1) (λ _ s. after_resume s) (V.moving ++ []) V0 D [] told
      (ap (moved_from V0) (append-nil V.moving) ∙ moved_is ∙ m)

-- one that is not resumed

too_many : (b : Bool) (text : List ℕ) (x : Resumption) (n : Option (Made ResumeShape)) (W : World) → refusal_of (cond b resumption.TooMany x) ≡ Some text → refusal_of x ≡ None
    → cond b (made W [] (refused (codes "too many nested resumes"))) n ≡ made W [] (refused text)
too_many true text x n W e f = ap (λ t. made W [] (refused t)) (some_same _ _ e)
too_many false text x n W e f = let bad : None ≡ Some text = sym f ∙ e in absurd (cc)

not_resumed : (texts : List (List ℕ)) (W : World) (s : Stack) (co : ℕ) (c : Coro) (args : List Value) (text : List ℕ) → refusal_of (resumption_of c (length W.chain)) ≡ Some text
    → resumes_in W s co (coroutine texts c) args ≡ made W [] (refused text)
not_resumed texts W s co (Fresh body) args text e = too_many (nat_lt greatest_resumes (length W.chain)) text (resumption.Begins body) _ W e refl
not_resumed texts W s co (Suspended stack) args text e = too_many (nat_lt greatest_resumes (length W.chain)) text resumption.GoesOn _ W e refl
not_resumed texts W s co _ args text e = ap (λ t. made W [] (refused t)) (some_same _ _ e)

answered : (V : World) (text : List ℕ) → run (after_resume (refused text)) (V.moving ++ [] ++ []) (with_moving V []) ≡ run hand_over ((V.moving ++ [] ++ []) ++ []) (with_moving V (known (boolean false) ∷ known (string text) ∷ []))
answered V text = refl

module _ (old : Memory) (co : CoroId) (e : FirstIs old (object a_coroutine co.0)) (c : Coro) (there : slice_get old.coros.objects co.0 ≡ Some c) (runs : HasStack old) where
  stack_at : (fuel : ℕ) → stack_of (plain old fuel) ≡ Some runs.stack
  stack_at fuel = runs.is

  got : (fuel : ℕ) → slice_get (plain old fuel).coroutines co.0 ≡ Some (coroutine old.strings c)
  got fuel = get_map (coroutine old.strings) old.coros.objects co.0 c there

  chain_length : (fuel : ℕ) → length (plain old fuel).chain ≡ length old.chain.items
  chain_length fuel = length-map old.chain.items (λ (co : CoroId). co.0)

  row_at : (fuel : ℕ) (D : World) (told : ResumeShape) → resumes_in (with_moving (plain old fuel) []) runs.stack co.0 (coroutine old.strings c) (drop 1 (plain old fuel).moving) ≡ made D [] told
      → run resume_row [] (plain old fuel) ≡ run (after_resume told) ((plain old fuel).moving ++ [] ++ []) D
  row_at fuel D told m = row_is (plain old fuel) runs.stack co.0 (coroutine old.strings c) (stack_at fuel) e (got fuel) D told m

  pub refused_leads : {new : Memory} {ending : Ending} (text : List ℕ) → refusal_of (resumption_of c (length old.chain.items)) ≡ Some text
      → ((fuel : ℕ) → plain new fuel ≡ with_moving (plain old fuel) (known (boolean false) ∷ known (string text) ∷ [])) → ((env : List Value) → Leads hand_over env new new ending) → Leads resume_row [] old new ending
  refused_leads {new} text r w h =
      leads_by (((plain old 0).moving ++ [] ++ []) ++ []) (λ fuel.
      let V = plain old fuel in
      row_at fuel (with_moving V []) (refused text)
      (not_resumed old.strings (with_moving V []) runs.stack co.0 c (drop 1 V.moving) text (ap (λ n. refusal_of (resumption_of c n)) (chain_length fuel) ∙ r))
      ∙ answered V text ∙ ap (run hand_over ((V.moving ++ [] ++ []) ++ [])) (sym (w fuel))) h

  few_resumed : (fuel : ℕ) → length old.chain.items ≤ greatest_resumes → nat_lt greatest_resumes (length (plain old fuel).chain) ≡ false
  few_resumed fuel few = ap (nat_lt greatest_resumes) (chain_length fuel) ∙ lt_not greatest_resumes (length old.chain.items) (λ l. omega (arith, l, few))

-- one that goes on or begins

may_start : (W : World) (s : Stack) (co : ℕ) (c : Coroutine) (args : List Value) → can_start c ≡ true → nat_lt greatest_resumes (length W.chain) ≡ false → resumes_in W s co c args ≡ starts_in (wait_for_another W s) co c args
may_start W s co c args y n =
    ap (λ b. cond (b && nat_lt greatest_resumes (length W.chain)) (made W [] (refused (codes "too many nested resumes"))) (starts_in (cond b (wait_for_another W s) W) co c args)) y
    ∙ ap (λ b. cond b (made W [] (refused (codes "too many nested resumes"))) (starts_in (wait_for_another W s) co c args)) n

gone_moving : (V : World) (s : Stack) (co : ℕ) (fs : List Frame) (vs ws : List Value) → with_moving (go_into (wait_for_another (with_moving V vs) s) co fs) ws ≡ with_moving (go_into (wait_for_another V s) co fs) ws
unfolding go_into wait_for_another put_coroutine
gone_moving V s co fs vs ws = refl

module _ (old mid new : Memory) (co : CoroId) (e : FirstIs old (object a_coroutine co.0)) (runs : HasStack old) (few : length old.chain.items ≤ greatest_resumes) where
  pub goes_on_leads : {ending : Ending} (k : KeptStack) → slice_get old.coros.objects co.0 ≡ Some (Suspended k) → GoesInto old mid co.0 (frames (value old.strings) k)
      → ((fuel : ℕ) → plain new fuel ≡ with_moving (plain mid fuel) (drop 1 (plain old fuel).moving)) → ((env : List Value) → Leads hand_over env new new ending) → Leads resume_row [] old new ending
  goes_on_leads k there g w h =
      let fs = frames (value old.strings) k in
      leads_by ((plain old 0).moving ++ [] ++ []) (λ fuel.
      let V = plain old fuel in
      let args = drop 1 V.moving in
      let V0 = with_moving V [] in
      let s = runs.stack in
      row_at old co e (Suspended k) there runs fuel (with_moving (go_into (wait_for_another V0 s) co.0 fs) args) (resumed is_entered)
      (may_start V0 s co.0 (suspended fs) args refl (few_resumed old co e (Suspended k) there runs fuel few))
      ∙ ap (run hand_over (V.moving ++ [] ++ [])) (gone_moving V s co.0 fs [] args ∙ ap (λ W. with_moving W args) (sym (g.is fuel s runs.is)) ∙ sym (w fuel))) h

  pub calls_leads : (n : ℕ) (body : Kept) → value old.strings body ≡ known (primitive n) → slice_get old.coros.objects co.0 ≡ Some (Fresh body) → GoesInto old mid co.0 []
      → ((fuel : ℕ) → plain new fuel ≡ with_moving (plain mid fuel) (drop 1 (plain old fuel).moving)) → Leads resume_row [] old new (calls_primitive n)
  calls_leads n body b there g w = record {
    is = λ fuel.
        let V = plain old fuel in
        let args = drop 1 V.moving in
        let V0 = with_moving V [] in
        let s = runs.stack in
        row_at old co e (Fresh body) there runs fuel (with_moving (go_into (wait_for_another V0 s) co.0 []) args) (resumed (is_primitive n))
        (may_start V0 s co.0 (fresh (value old.strings body)) args refl (few_resumed old co e (Fresh body) there runs fuel few)
        ∙ ap (λ v. starts_in (wait_for_another V0 s) co.0 (fresh v) args) b)
        ∙ ap (λ W. ends (calls_primitive n) W) (gone_moving V s co.0 [] [] args ∙ ap (λ W. with_moving W args) (sym (g.is fuel s runs.is)) ∙ sym (w fuel));
  }

-- a Lua function is entered

abbrev roomy : Option Stack → Bool
roomy o = elim o [ None ↦ false | Some s ↦ nat_le (length s.frames + 1) greatest_depth ]

abbrev pushed_all : World → Frame → Option Stack → World
pushed_all W f o = elim o [ None ↦ W | Some s ↦ push W s f ]

entered : (W : World) (co n : ℕ) (c : Coroutine) (f : Function) (args : List Value) → slice_get W.coroutines co ≡ Some c → slice_get W.functions n ≡ Some f
    → enters (go_into W co []) (object a_function n) args ≡ made (go_into W co (new_frame n f.code args ∷ [])) [] is_entered
unfolding go_into put_coroutine push put_frames
entered W co n c f args there is =
    let G = go_into W co [] in
    let k : stack_of G ≡ Some (record { coroutine = co; frames = [] }) = stack_is G co [] (last_push W.chain co) (get_set_same W.coroutines co c (in_progress []) there) in
    let fr = new_frame n f.code args in
    bind_at (λ (f : Function). cond (has_room G 1) (made (push_all G (new_frame n f.code args ∷ [])) [] is_entered) (made G [] (not_entered stack_overflow))) (slice_get W.functions n) f is
    ∙ ap (λ o. cond (roomy o) (made (pushed_all G fr o) [] is_entered) (made G [] (not_entered stack_overflow))) k
    ∙ ap (λ cs. made (record W { chain = W.chain ++ co ∷ []; coroutines = cs }) [] is_entered) (set_twice W.coroutines co (in_progress []) (in_progress (fr ∷ [])))

functions_wait : (V : World) (s : Stack) → (wait_for_another V s).functions ≡ V.functions
unfolding wait_for_another put_coroutine
functions_wait V s = refl

gone_with_nothing : (V : World) (s : Stack) (co : ℕ) (fs : List Frame) → go_into (wait_for_another (with_moving V []) s) co fs ≡ with_moving (go_into (wait_for_another V s) co fs) []
unfolding go_into wait_for_another put_coroutine
gone_with_nothing V s co fs = refl

-- a Lua function's frame goes on
lua_goes : (D : World) (env : List Value) (co : ℕ) (f : LuaFrame) → stack_of D ≡ Some (record { coroutine = co; frames = lua f ∷ [] }) → run hand_over env D ≡ run (stop go) (env ++ []) D
lua_goes D env co f k = act_is see_top (λ _ top. handed top) env D D [] lua_top (ap (λ o. bind {B = Made TopShape} (bind o (λ (s : Stack). Some (top_shape D (last s.frames)))) (λ top. made D [] top)) k)

module _ (old mid new : Memory) (co : CoroId) (e : FirstIs old (object a_coroutine co.0)) (runs : HasStack old) (few : length old.chain.items ≤ greatest_resumes) where
  pub enters_leads : (n : ℕ) (body : Kept) (f : Function) → value old.strings body ≡ object a_function n → slice_get old.coros.objects co.0 ≡ Some (Fresh body) → slice_get (plain old 0).functions n ≡ Some f
      → GoesInto old mid co.0 (new_frame n f.code (drop 1 (plain old 0).moving) ∷ []) → ((fuel : ℕ) → plain new fuel ≡ with_moving (plain mid fuel) []) → Leads resume_row [] old new go
  enters_leads n body f b there is g w = record {
    is = λ fuel.
        let V = plain old fuel in
        let args = drop 1 V.moving in
        let V0 = with_moving V [] in
        let s = runs.stack in
        let fs = new_frame n f.code args ∷ [] in
        let W = wait_for_another V0 s in
        let D = go_into W co.0 fs in
        row_at old co e (Fresh body) there runs fuel D (resumed is_entered)
        (may_start V0 s co.0 (fresh (value old.strings body)) args refl (few_resumed old co e (Fresh body) there runs fuel few)
        ∙ ap (λ v. starts_in W co.0 (fresh v) args) b
        ∙ ap (λ o. bind {B = Made ResumeShape} o (λ d. made d.world [] (resumed d.told)))
        (entered W co.0 n (fresh (value old.strings body)) f args (fresh_waits V0 s co.0 (value old.strings body) runs.is (got old co e (Fresh body) there runs fuel)) (ap (λ fs. slice_get fs n) (functions_wait V0 s) ∙ is)))
        ∙ lua_goes D (V.moving ++ [] ++ []) co.0 _ (in_progress_there W co.0 fs (fresh (value old.strings body)) (fresh_waits V0 s co.0 (value old.strings body) runs.is (got old co e (Fresh body) there runs fuel)))
        ∙ ap (ends go) (gone_with_nothing V s co.0 fs ∙ ap (λ W. with_moving W []) (sym (g.is fuel s runs.is)) ∙ sym (w fuel));
  }

-- what comes of it

few_told : (n : ℕ) → nat_lt greatest_resumes n ≡ false → n ≤ greatest_resumes
few_told n e = ⊎_elim (λ l. absurd (lt_off greatest_resumes n e l)) (λ l. l) (split greatest_resumes n)

begun_told : (b : Bool) (v body : Kept) → cond b resumption.TooMany (resumption.Begins v) ≡ resumption.Begins body → (b ≡ false) × (v ≡ body)
begun_told true v body e = absurd (cc)
begun_told false v body e = (refl, ap (λ (r : Resumption). elim r as (λ _. Kept) [ resumption.Begins x ↦ x | _ ↦ v ]) e)

gone_told : (b : Bool) → cond b resumption.TooMany resumption.GoesOn ≡ resumption.GoesOn → b ≡ false
gone_told true e = absurd (cc)
gone_told false e = refl

pub begins_is : (c : Coro) (n : ℕ) (body : Kept) → resumption_of c n ≡ resumption.Begins body → (c ≡ Fresh body) × (n ≤ greatest_resumes)
begins_is (Fresh v) n body e = let t = begun_told (nat_lt greatest_resumes n) v body e in (ap Fresh t.1, few_told n t.0)
begins_is (Suspended k) n body e = absurd (not_begun (nat_lt greatest_resumes n) body e)
  where
    not_begun : (b : Bool) (body : Kept) → cond b resumption.TooMany resumption.GoesOn ≡ resumption.Begins body → ⊥
    not_begun true body e = cc
    not_begun false body e = cc
begins_is _ n body e = absurd (cc)

pub goes_on_is : (c : Coro) (n : ℕ) → resumption_of c n ≡ resumption.GoesOn → (k : KeptStack) × (c ≡ Suspended k) × (n ≤ greatest_resumes)
goes_on_is (Fresh v) n e = absurd (not_gone (nat_lt greatest_resumes n) v e)
  where
    not_gone : (b : Bool) (v : Kept) → cond b resumption.TooMany (resumption.Begins v) ≡ resumption.GoesOn → ⊥
    not_gone true v e = cc
    not_gone false v e = cc
goes_on_is (Suspended k) n e = (k, refl, few_told n (gone_told (nat_lt greatest_resumes n) e))
goes_on_is _ n e = absurd (cc)

-- worlds that differ in room alone, and what moves then

pub same_chain : (old new : Memory) → new ≡ record old { chain = new.chain } → new.chain.items ≡ old.chain.items → (fuel : ℕ) → plain new fuel ≡ plain old fuel
same_chain old new rest items fuel = ap (λ (M : Memory). plain M fuel) rest ∙ ap (λ ids. record (plain old fuel) { chain = map (λ (co : CoroId). co.0) ids }) items

pub same_reads : {old new : Memory} → new ≡ old → ReadsSame old new
same_reads e = record { is = λ fuel. ap (λ (M : Memory). plain M fuel) e }

pub same_runs : {old new : Memory} → ((fuel : ℕ) → plain new fuel ≡ plain old fuel) → HasStack old → HasStack new
same_runs same h = record { stack = h.stack; is = ap stack_of (same 0) ∙ h.is }

pub goes_from : {old mid new : Memory} {co : ℕ} {fs : List Frame} → ((fuel : ℕ) → plain mid fuel ≡ plain old fuel) → GoesInto mid new co fs → GoesInto old new co fs
goes_from {old} {mid} {new} {co} {fs} same g = record {
  is = λ fuel s e. g.is fuel s (ap stack_of (same fuel) ∙ e) ∙ ap (λ W. go_into (wait_for_another W s) co fs) (same fuel);
}

-- the list of the coroutines that wait has only been given room
module _ (W : Memory) (chain : Vec CoroId) (items : chain.items ≡ W.chain.items) where
  abbrev given_room : Memory
  given_room = record W { chain = chain }

  pub room_runs : HasStack W → HasStack given_room
  room_runs = same_runs (same_chain W given_room refl items)

  pub room_reads : {A E : Type 0} (r : Result A E) → OnErr r (ReadsSame W given_room)
  room_reads r = on_err _ r (record { is = same_chain W given_room refl items })

  pub room_goes : {new : Memory} {co : ℕ} {fs : List Frame} → GoesInto given_room new co fs → GoesInto W new co fs
  room_goes = goes_from (same_chain W given_room refl items)

drop_map : {A B : Type 0} (f : A → B) (xs : List A) → map f (drop 1 xs) ≡ drop 1 (map f xs)
drop_map f [] = refl
drop_map f (x ∷ xs) = refl

pub behind_is : (f : Kept → Value) (moving arguments : List Kept) → arguments ≡ drop 1 moving → map f arguments ≡ drop 1 (map f moving)
behind_is f moving arguments e = ap (map f) e ∙ drop_map f moving

pub order_on : {old mid new : Memory} → InOrder old → mid ≡ record old { coros = mid.coros; chain = mid.chain } → CellsAreListed mid → new ≡ record mid { moving = new.moving } → InOrder new
order_on {old} {mid} {new} o e l f =
    let m : InOrder mid = record { codes = subst (λ (M : Memory). AreCodes M.strings M.codes) (sym e) o.codes; listed = l } in
    subst InOrder (sym f) (record { codes = m.codes; listed = m.listed })

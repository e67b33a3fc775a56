-- A value that was asked for is called.
use Rattle.std.proofs.Common.{◌≡◌, ℕ, zero, suc, ◌-◌, List, [], ◌∷◌, ◌++◌, length, Option, Some, None, refl, ap, sym, subst, ◌∙◌, arith, true, false, Result, IfOk}
use Rattle.std.specs.Prelude.{drop, map, slice_get}
use Rattle.std.specs.Option.{option_map}
use Rattle.int_core.specs.Limits.{stack_overflow}
use Rattle.int_core.specs.Operations.{Callee, callee, not_callable, callee_of, greatest_chain}
use Rattle.int_core.specs.Value.{Value, known, primitive, object, a_function, bind, last}
use Rattle.machine_core.specs.World.{Function, leaving, LuaFrame, Frame, lua, lua_frame, in_progress, World, Stack, Place, place_of, stack_of, push, put_top, put_frames}
use Rattle.machine_core.specs.Text.{close_cells, keep_pending}
use Rattle.machine_core.specs.Moves.{Made, made, CallShape, is_entered, enters, enters_paid, has_room, push_all, new_frame, with_own, TopShape, lua_top, handler_top, blamed, runs_main, top_now, see_top, take_moving, go, calls_primitive, raised, unwinding, spent, Ending, stop, act, Outcome, trapped, ends, run, move}
use Rattle.machine_core.specs.FrameRows.{asked_row, blames, gives_up, raises, refused_under}
use Rattle.machine_core.specs.MachineStep.{from_world}
use Rattle.machine_sound.proofs.Lists.{bind_some, get_map}
use Rattle.table_core.specs.declared.value.Value.{Value as Kept}
use Rattle.lua_stack.specs.Frames.{frame_of, lua_of}
use Rattle.lua_stack.specs.declared.frame.Top.{Top}
use Rattle.lua_stack.specs.declared.frame.Top.TheVariants.{Lua}
use Rattle.lua_stack.proofs.Seen.{lua_seen}
use Rattle.lua_heap.specs.declared.world.World.{World as Memory}
use Rattle.lua_heap.specs.declared.world.Coro.TheVariants.{Running}
use Rattle.lua_heap.specs.Plain.{plain, coroutine}
use Rattle.lua_heap.specs.Reading.{value}
use Rattle.move_laws.specs.Memory.{HasFrame, IsSafe, IsSound, Leads, Makes, Steps}
use Rattle.move_laws.proofs.Running.{last_there}
use Rattle.machine_moves.specs.declared.ending.Ending.{Ending as KeptEnding}
use Rattle.machine_moves.specs.declared.ending.Ending.TheVariants.{Raised}
use Rattle.machine_moves.specs.Ending.{ending_of}
use Rattle.machine_moves.specs.Tops.{TopIs, shape_of}
use Rattle.machine_moves.proofs.OnTop.{if_ok, kept_as, stack_kept}
use Rattle.machine_errors.specs.Protected.{first_of}
use Rattle.machine_asked.specs.Asked.{RefusesAsked, follows_asked, EntersAsked}
use Rattle.machine_errors.specs.Asking.{taken}
use Rattle.machine_calls.specs.Calling.{CanEnter}
use Rattle.machine_calls.specs.Entering.{EntersSo, HasFunction}
use Rattle.machine_calls.proofs.Callees.{reached_is_function}
use Rattle.machine_calls.proofs.Over.{entering, enters_is}
use Rattle.machine_errors.proofs.Calls.{nth_first, drop_one}
use Rattle.lua_stack.proofs.Told.{last_map}

abbrev with_moving : World → List Value → World
with_moving V vs = record V { moving = vs }

-- what is an error of the frame on top does not hang on what moves

abbrev left_at : List ℕ → World → Option Place → Outcome
left_at text W o = elim o [ None ↦ trapped | Some at ↦ ends raised (with_moving (with_own W at (leaving (blamed W text)) (close_cells 0 ∷ keep_pending ∷ []) []) (blamed W text ∷ [])) ]

raises_at : (text : List ℕ) (env : List Value) (V : World) (o : Option Place)
    → elim (bind {A = Place} {B = Made (Unit {0})} o (λ p. made (with_moving (with_own V p (leaving (blamed V text)) (close_cells 0 ∷ keep_pending ∷ []) []) (blamed V text ∷ [])) [] tt)) as (λ _. Outcome) [ None ↦ trapped | Some d ↦ run (stop raised) (env ++ d.values) d.world ]
    ≡ left_at text V o
raises_at text env V None = refl
raises_at text env V (Some at) = refl

left_taken : (text : List ℕ) (V : World) (o : Option Place) → left_at text (with_moving V []) o ≡ left_at text V o
unfolding with_own put_top put_frames
left_taken text V None = refl
left_taken text V (Some at) = refl

raises_taken : (text : List ℕ) (env all : List Value) (V : World) → run (raises text) env (with_moving V []) ≡ run (raises text) all V
raises_taken text env all V = raises_at text env (with_moving V []) (place_of V) ∙ left_taken text V (place_of V) ∙ sym (raises_at text all V (place_of V))

abbrev shape_in : Option (Made TopShape) → Option TopShape
shape_in o = elim o [ None ↦ None | Some d ↦ Some d.told ]

seen : (V : World) (shape : TopShape) (env : List Value) → move see_top env V ≡ made V [] shape → top_now V ≡ Some shape
seen V shape env e =
    let a = bind_some (λ top. made V [] top) (top_now V) (record { world = V; values = []; told = shape }) e in
    a.1 ∙ ap shape_in a.2

sees_row : (V : World) (shape : TopShape) (text : List ℕ) (env : List Value) → top_now V ≡ Some shape
    → run (act see_top (λ _ top. refused_under top text)) env (with_moving V []) ≡ run (refused_under shape text) (env ++ []) (with_moving V [])
sees_row V shape text env e =
    ap (λ o. elim (bind {A = TopShape} {B = Made TopShape} o (λ top. made (with_moving V []) [] top)) as (λ _. Outcome) [ None ↦ trapped | Some d ↦ run (refused_under d.told text) (env ++ d.values) d.world ]) e

pub refused_lua : (old new : Memory) (text : List ℕ) → Makes old old see_top [] [] lua_top → ((env : List Value) → Leads (raises text) env old new raised) → RefusesAsked old new text raised
refused_lua old new text m l = record {
  is = λ fuel env W. ap (from_world W) (sees_row (plain old fuel) lua_top text env (seen (plain old fuel) lua_top [] (m.is fuel)) ∙ raises_taken text (env ++ []) [] (plain old fuel) ∙ (l []).is fuel);
}

-- an error is given in its place
abbrev ending_in : Ending → Outcome → Ending
ending_in e trapped = e
ending_in e (ends d V) = d

gives_up_taken : (env all : List Value) (V : World) → run gives_up env (with_moving V []) ≡ run gives_up all V
gives_up_taken env all V = refl

blames_taken : (text : List ℕ) (env all : List Value) (V : World) → run (blames text) env (with_moving V []) ≡ run (blames text) all V
blames_taken text env all V = refl

pub gives_up_ends : (old new : Memory) (e : Ending) → Leads gives_up [] old new e → unwinding ≡ e
gives_up_ends old new e l = ap (ending_in spent) (l.is 0)

pub refused_handler : (old new : Memory) (text : List ℕ) (e : Ending) → Makes old old see_top [] [] handler_top → Leads gives_up [] old new e → RefusesAsked old new text e
refused_handler old new text e m l = record {
  is = λ fuel env W.
      subst (λ e. from_world W (run (act see_top (λ _ top. refused_under top text)) env (taken old fuel)) ≡ ends e (plain new fuel)) (gives_up_ends old new e l)
      (ap (from_world W) (sees_row (plain old fuel) handler_top text env (seen (plain old fuel) handler_top [] (m.is fuel)) ∙ gives_up_taken (env ++ []) [] (plain old fuel) ∙ (subst (λ e. Leads gives_up [] old new e) (sym (gives_up_ends old new e l)) l).is fuel));
}

-- of any other frame, and where there is none
abbrev pub is_blamed : TopShape → Type 0
is_blamed lua_top = ⊥
is_blamed handler_top = ⊥
is_blamed s = Unit {0}

under_other : (shape : TopShape) (text : List ℕ) → is_blamed shape → refused_under shape text ≡ blames text
under_other lua_top text b = absurd b
under_other handler_top text b = absurd b
under_other _ text b = refl

pub refused_other : (old new : Memory) (text : List ℕ) (shape : TopShape) → is_blamed shape → Makes old old see_top [] [] shape → ((env : List Value) → Leads (blames text) env old new raised) → RefusesAsked old new text raised
refused_other old new text shape b m l = record {
  is = λ fuel env W.
      ap (from_world W) (sees_row (plain old fuel) shape text env (seen (plain old fuel) shape [] (m.is fuel)) ∙ ap (λ r. run r (env ++ []) (taken old fuel)) (under_other shape text b) ∙ blames_taken text (env ++ []) [] (plain old fuel) ∙ (l []).is fuel);
}

pub refused_blame : (old new : Memory) (text : List ℕ) {shape : TopShape} {E : Type 0} (r : Result KeptEnding E) → Makes old old see_top [] [] shape → is_blamed shape
    → IfOk r (λ ending. (env : List Value) → Leads (blames text) env old new (ending_of ending)) → IfOk r (λ ending. ending ≡ Raised) → IfOk r (λ ending. RefusesAsked old new text (ending_of ending))
refused_blame old new text r m b leads was =
    if_ok r leads was (λ ending l q.
    subst (λ (e : KeptEnding). RefusesAsked old new text (ending_of e)) (sym q)
    (refused_other old new text _ b m (subst (λ (e : KeptEnding). (env : List Value) → Leads (blames text) env old new (ending_of e)) q l)))

-- what is seen on top is told
pub seen_as : {W : Memory} {top told : Top} → top ≡ told → ((env : List Value) → Makes W W see_top env [] (shape_of (runs_main (plain W 0)) top))
    → Makes W W see_top [] [] (shape_of (runs_main (plain W 0)) told)
seen_as {W} e m = subst (λ (top : Top). Makes W W see_top [] [] (shape_of (runs_main (plain W 0)) top)) e (m [])

abbrev place_made : Stack → LuaFrame → Function → Place
place_made s top f = record { stack = s; number = length s.frames - 1; top = top; function = f }

-- a Lua frame that is seen on top is there with its function

pub frame_seen : (W : Memory) → IsSound W → TopIs W Lua → HasFrame W
frame_seen W s h =
    let V = plain W 0 in
    let f = frame_of (value W.strings) in
    let t = lua_seen (last h.stack.frames) h.is in
    let top : LuaFrame = lua_of (value W.strings) t.0 in
    let fs = map f h.stack.frames in
    let on_top : last fs ≡ Some (lua top) = last_map f h.stack.frames ∙ ap (option_map f) t.1 in
    let k = stack_kept W h.co h.stack 0 h.runs in
    let frames = s.sound.solid.coroutines h.co.0 (in_progress fs) (get_map (coroutine W.strings) W.coros.objects h.co.0 (Running h.stack) h.runs.there) in
    let ok = frames.each (length fs - 1) (lua top) (last_there fs (lua top) on_top) in
    record {
      place = place_made (kept_as W h.co h.stack) top ok.function;
      is =
          (ap (λ o. bind {B = Place} o (λ s. bind {B = Place} (bind (last s.frames) lua_frame) (λ top. bind {B = Place} (slice_get V.functions top.function) (λ f. Some (place_made s top f))))) k
          ∙ ap (λ o. bind {B = Place} (bind o lua_frame) (λ top. bind {B = Place} (slice_get V.functions top.function) (λ f. Some (place_made (kept_as W h.co h.stack) top f)))) on_top
          ∙ ap (λ o. bind {B = Place} o (λ f. Some (place_made (kept_as W h.co h.stack) top f))) ok.there);
    }

-- functions that are entered

pushed_moving : (V : World) (f : Frame) (o : Option Stack) → elim o [ None ↦ with_moving V [] | Some s ↦ push (with_moving V []) s f ] ≡ with_moving (elim o [ None ↦ V | Some s ↦ push V s f ]) []
unfolding push put_frames
pushed_moving V f None = refl
pushed_moving V f (Some s) = refl

abbrev world_in : World → Option (Made (Unit {0})) → World
world_in V o = elim o [ None ↦ V | Some d ↦ d.world ]

-- a world without what moved
pub taken_is : {old new : Memory} {vs : List Value} (fuel : ℕ) → Makes old new take_moving [] vs tt → plain new fuel ≡ with_moving (plain old fuel) []
taken_is {old} fuel m = sym (ap (world_in (plain old fuel)) (m.is fuel))

abbrev world_of : World → Option (Made CallShape) → World
world_of V o = elim o [ None ↦ V | Some d ↦ d.world ]

pub asked_entered : (old entered new : Memory) (n : ℕ) (arguments : List Value) → HasFunction old n → has_room (plain old 0) 1 ≡ true → EntersSo old entered (object a_function n) arguments is_entered
    → ((fuel : ℕ) → plain new fuel ≡ with_moving (plain entered fuel) []) → EntersAsked old new (object a_function n) arguments go
asked_entered old entered new n arguments h q k m = record {
  is = λ fuel env W.
      let V = plain old fuel in
      let f = new_frame n h.function.code arguments in
      let pushed : push_all V (f ∷ []) ≡ plain entered fuel = ap (world_of V) (sym (enters_is V n arguments h.function true h.is q) ∙ k.is fuel) in
      ap (λ o. from_world W (follows_asked env o)) (enters_is (with_moving V []) n arguments h.function true h.is q)
      ∙ ap (ends go) (pushed_moving V f (stack_of V) ∙ ap (λ V. with_moving V []) pushed ∙ sym (m fuel));
}

pub asked_full : (old new : Memory) (n : ℕ) (arguments : List Value) (e : Ending) → HasFunction old n → has_room (plain old 0) 1 ≡ false → RefusesAsked old new stack_overflow e
    → EntersAsked old new (object a_function n) arguments e
asked_full old new n arguments e h q r = record {
  is = λ fuel env W.
      ap (λ o. from_world W (follows_asked env o)) (enters_is (taken old fuel) n arguments h.function false h.is q) ∙ r.is fuel (env ++ []) W;
}

pub asked_prim : (old new : Memory) (n : ℕ) (arguments : List Value) → ((fuel : ℕ) → plain new fuel ≡ with_moving (plain old fuel) arguments) → EntersAsked old new (known (primitive n)) arguments (calls_primitive n)
asked_prim old new n arguments m = record { is = λ fuel env W. ap (ends (calls_primitive n)) (sym (m fuel)) }

-- the row

abbrev asked_from : World → Callee → Outcome
asked_from V c = follows_asked V.moving (enters_paid (with_moving V []) (with_moving V []) c)

pub asked_is : (old : Memory) (fuel : ℕ) (arguments : List Kept) (c : Callee) → arguments ≡ drop 1 old.moving.items
    → callee_of greatest_chain (plain old 0).heap (value old.strings (first_of old.moving.items)) (map (value old.strings) arguments) ≡ c
    → run asked_row [] (plain old fuel) ≡ asked_from (plain old fuel) c
asked_is old fuel arguments c a e =
    let f = value old.strings in
    let V = plain old fuel in
    ap (λ v. asked_from V (callee_of greatest_chain V.heap v (drop 1 V.moving))) (nth_first f old.moving.items refl)
    ∙ ap (λ vs. asked_from V (callee_of greatest_chain V.heap (f (first_of old.moving.items)) vs)) (drop_one f old.moving.items ∙ ap (map f) (sym a))
    ∙ ap (asked_from V) e

pub asked_fault : (old new : Memory) (fuel : ℕ) (arguments : List Kept) (text : List ℕ) (e : Ending) → arguments ≡ drop 1 old.moving.items
    → callee_of greatest_chain (plain old 0).heap (value old.strings (first_of old.moving.items)) (map (value old.strings) arguments) ≡ not_callable text
    → RefusesAsked old new text e → Steps asked_row [] old fuel new fuel e
asked_fault old new fuel arguments text e a k r = record {
  is = ap (from_world (plain old fuel)) (asked_is old fuel arguments (not_callable text) a k) ∙ r.is fuel ((plain old fuel).moving ++ []) (plain old fuel);
}

pub asked_spent : (old : Memory) (fuel : ℕ) (arguments : List Kept) (g : Value) (more : List Value) → arguments ≡ drop 1 old.moving.items
    → callee_of greatest_chain (plain old 0).heap (value old.strings (first_of old.moving.items)) (map (value old.strings) arguments) ≡ callee g more → fuel ≡ 0
    → Steps asked_row [] old fuel old fuel spent
asked_spent old zero arguments g more a k z = record { is = ap (from_world (plain old 0)) (asked_is old 0 arguments (callee g more) a k) }
asked_spent old (suc m) arguments g more a k z = absurd (cc)

pub asked_paid : (old new : Memory) (fuel : ℕ) (arguments : List Kept) (g : Value) (more : List Value) (e : Ending) → arguments ≡ drop 1 old.moving.items
    → callee_of greatest_chain (plain old 0).heap (value old.strings (first_of old.moving.items)) (map (value old.strings) arguments) ≡ callee g more → (fuel ≡ 0 → ⊥)
    → EntersAsked old new g more e → Steps asked_row [] old fuel new (fuel - 1) e
asked_paid old new zero arguments g more e a k z r = absurd (z refl)
asked_paid old new (suc m) arguments g more e a k z r = record {
  is =
      (let V = plain old (suc m) in
      let less : m ≡ suc m - 1 = omega arith in
      ap (from_world V) (asked_is old (suc m) arguments (callee g more) a k)
      ∙ r.is m V.moving V
      ∙ ap (λ m. ends e (plain new m)) less);
}

pub may_enter_asked : (old : Memory) (arguments : List Kept) (g : Value) (more : List Value) → IsSound old → IsSafe asked_row [] old → arguments ≡ drop 1 old.moving.items
    → callee_of greatest_chain (plain old 0).heap (value old.strings (first_of old.moving.items)) (map (value old.strings) arguments) ≡ callee g more → CanEnter old g
may_enter_asked old arguments g more s h a k = record {
  is = reached_is_function greatest_chain (plain old 0).heap (value old.strings (first_of old.moving.items)) (map (value old.strings) arguments) g more k;
  there = λ n q. found n (slice_get (plain old 0).functions n) refl q;
}
  where
    P : World
    P = taken old 0

    traps : (n : ℕ) → slice_get (plain old 0).functions n ≡ None → g ≡ object a_function n → run asked_row [] (plain old 1) ≡ trapped
    traps n t q =
        asked_is old 1 arguments (callee g more) a k
        ∙ ap (λ g. follows_asked (plain old 1).moving (enters P g more)) q
        ∙ ap (λ o. follows_asked (plain old 1).moving (bind o (λ f. entering P n more (has_room P 1) f))) t

    found : (n : ℕ) (o : Option Function) → slice_get (plain old 0).functions n ≡ o → g ≡ object a_function n → HasFunction old n
    found n None t q = absurd (h.never 1 (traps n t q))
    found n (Some f) t q = record { function = f; is = t; checked = (s.sound.solid.functions n f t).code }

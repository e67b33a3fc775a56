-- The frame on top of the running stack, and frames that are pushed and popped there.
use Rattle.std.proofs.Common.{◌≡◌, ℕ, ◌+◌, ◌-◌, ◌<◌, List, [], ◌∷◌, ◌++◌, length, Option, Some, None, refl, ap, sym, ◌∙◌, arith, Bool, true, false, Result, Ok, Err, IfOk, OnOk, OnErr}
use Rattle.std.specs.Prelude.{cond, map, nat_le, slice_get, slice_set}
use Rattle.std.specs.Option.{option_map}
use Rattle.std.proofs.lemmas.List.{length-map}
use Rattle.int_core.specs.Limits.{greatest_depth}
use Rattle.int_core.specs.Value.{Value, bind, last, without_last}
use Rattle.machine_core.specs.World.{LuaFrame, Frame, lua, in_progress, World, Stack, stack_of, put_frames, pop, push, Place, place_of}
use Rattle.machine_core.specs.Moves.{top_shape, top_now, runs_main, see_top, pop_frame, push_frame, Over, frame_over, push_all, Made, made, move}
use Rattle.machine_sound.proofs.Lists.{bind_at, get_map, get_set_same, last_push, some_is}
use Rattle.machine_sound.proofs.Frames.{stack_is}
use Rattle.table_core.specs.declared.value.CoroId.{CoroId}
use Rattle.table_core.specs.declared.value.Value.{Value as Kept}
use Rattle.lua_stack.specs.declared.frame.Top.{Top}
use Rattle.lua_stack.specs.Frames.{KeptFrame, kept_closing, KeptStack, frame_of, frames, top_is}
use Rattle.lua_heap.specs.declared.codes.Code.{Code}
use Rattle.lua_heap.specs.declared.world.Coro.TheVariants.{Running}
use Rattle.lua_heap.specs.declared.world.World.{World as Memory}
use Rattle.lua_heap.specs.Reading.{value}
use Rattle.lua_heap.specs.Plain.{plain, coroutine}
use Rattle.move_laws.specs.Memory.{Runs, ChangesStack, HasStack, Makes}
use Rattle.move_laws.proofs.Running.{changed_stack_is_put, set_same}
use Rattle.machine_moves.specs.Code.{IsCodeOnTop}
use Rattle.machine_moves.specs.Tops.{shape_of, is_other}
use Rattle.lua_stack.proofs.Told.{last_map}
use Rattle.lua_heap.proofs.Resumed.{without_mapped}

-- lists

map_push : {A B : Type 0} (f : A → B) (xs : List A) (x : A) → map f (xs ++ x ∷ []) ≡ map f xs ++ f x ∷ []
map_push f [] x = refl
map_push f (y ∷ xs) x = ap (λ l. f y ∷ l) (map_push f xs x)

-- the registers that the code on top needs
pub size_on_top : {W : Memory} {code : Code} {place : Place} → IsCodeOnTop W code → place_of (plain W 0) ≡ Some place → code.stack ≡ place.function.code.own.stack
size_on_top k is = k.says.stack ∙ ap (λ (p : Place). p.function.code.own.stack) (some_is k.is is)

-- the machine's stack

abbrev pub kept_as : Memory → CoroId → KeptStack → Stack
kept_as W co s = record { coroutine = co.0; frames = frames (value W.strings) s }

pub stack_kept : (W : Memory) (co : CoroId) (s : KeptStack) (fuel : ℕ) → Runs W co s → stack_of (plain W fuel) ≡ Some (kept_as W co s)
stack_kept W co s fuel r =
    stack_is (plain W fuel) co.0 (frames (value W.strings) s) (last_map (λ co. co.0) W.chain.items ∙ ap (option_map (λ co. co.0)) r.chain) (get_map (coroutine W.strings) W.coros.objects co.0 (Running s) r.there)

pub has_running : (W : Memory) (co : CoroId) (s : KeptStack) → Runs W co s → HasStack W
has_running W co s r = record { stack = kept_as W co s; is = stack_kept W co s 0 r }

pub same_co : {W : Memory} {co d : CoroId} {s t : KeptStack} → Runs W co s → Runs W d t → co ≡ d
same_co r q = some_is r.chain q.chain

running_same : {s t : KeptStack} → Running s ≡ Running t → s ≡ t
running_same {s} {t} e = ap (λ c. elim c as (λ _. KeptStack) [ Running u ↦ u | _ ↦ s ]) e

pub same_stack : (W : Memory) (co d : CoroId) (s t : KeptStack) → Runs W co s → Runs W d t → s ≡ t
same_stack W co d s t r q = running_same (some_is r.there (ap (λ (co : CoroId). slice_get W.coros.objects co.0) (same_co r q) ∙ q.there))

-- what is seen there

top_is_shape : (W : Memory) (fuel : ℕ) (o : Option KeptFrame) → top_shape (plain W fuel) (option_map (frame_of (value W.strings)) o) ≡ shape_of (runs_main (plain W 0)) (top_is o)
top_is_shape W fuel (Some (kept_closing e left)) = refl
top_is_shape W fuel _ = refl

pub top_seen : (W : Memory) (co : CoroId) (s : KeptStack) (top : Top) (env : List Value) → Runs W co s → top ≡ top_is (last s.frames) → Makes W W see_top env [] (shape_of (runs_main (plain W 0)) top)
top_seen W co s top env r e = record {
  is = λ fuel.
      let V = plain W fuel in
      let now : top_now V ≡ Some (shape_of (runs_main (plain W 0)) top) =
      bind_at (λ (s : Stack). Some (top_shape V (last s.frames))) (stack_of V) (kept_as W co s) (stack_kept W co s fuel r)
      ∙ ap (λ o. Some (top_shape V o)) (last_map (frame_of (value W.strings)) s.frames)
      ∙ ap (λ t. Some t) (top_is_shape W fuel (last s.frames) ∙ ap (shape_of (runs_main (plain W 0))) (sym e)) in
      ap (λ o. bind o (λ top. made V [] top)) now;
}

-- a frame that is no Lua function's

no_lua_at : (f : Kept → Value) (o : Option KeptFrame) (t : LuaFrame) → is_other (top_is o) ≡ true → option_map (frame_of f) o ≡ Some (lua t) → ⊥
no_lua_at f (Some (kept_closing v left)) t e h = absurd (cc)
no_lua_at f _ t e h = absurd (cc)

pub no_lua : (s : KeptStack) (top : Top) → top ≡ top_is (last s.frames) → is_other top ≡ true → (f : Kept → Value) (below : List Frame) (t : LuaFrame) → frames f s ≡ below ++ lua t ∷ [] → ⊥
no_lua s top e o f below t h =
    no_lua_at f (last s.frames) t (ap is_other (sym e) ∙ o) (sym (last_map (frame_of f) s.frames) ∙ ap last h ∙ last_push below (lua t))

some_there : (xs : List KeptFrame) → is_other (top_is (last xs)) ≡ true → 0 < length xs
some_there [] e = absurd (cc)
some_there (x ∷ xs) e = omega arith

pub frames_there : (s : KeptStack) (top : Top) → top ≡ top_is (last s.frames) → is_other top ≡ true → 0 < length s.frames
frames_there s top e o = some_there s.frames (ap is_other (sym e) ∙ o)

pop_put : (W : World) (s : Stack) → pop W s ≡ put_frames W s.coroutine (without_last s.frames)
unfolding pop
pop_put W s = refl

pub popped_is : (old new : Memory) (co : CoroId) (s s' : KeptStack) (env : List Value) → Runs old co s → ChangesStack old new co s' → s'.frames ≡ without_last s.frames → Makes old new pop_frame env [] tt
popped_is old new co s s' env r c e = record {
  is = λ fuel.
      let V = plain old fuel in
      let f = frame_of (value old.strings) in
      ap (λ o. bind {B = Made (Unit {0})} o (λ s. made (pop V s) [] tt)) (stack_kept old co s fuel r)
      ∙ ap (λ W. made W [] tt) (
      pop_put V (kept_as old co s)
      ∙ ap (put_frames V co.0) (sym (ap (map f) e ∙ without_mapped f s.frames))
      ∙ sym (changed_stack_is_put old new co s' fuel c));
}

-- a frame that is pushed

pub put_same : (W : World) (co : ℕ) (fs : List Frame) → slice_get W.coroutines co ≡ Some (in_progress fs) → put_frames W co fs ≡ W
unfolding put_frames
put_same W co fs e = ap (λ cs. record W { coroutines = cs }) (set_same W.coroutines co (in_progress fs) e)

pub push_put : (W : World) (s : Stack) (f : Frame) → push W s f ≡ put_frames W s.coroutine (s.frames ++ f ∷ [])
unfolding push
push_put W s f = refl

abbrev roomy : Option Stack → Bool
roomy o = elim o [ None ↦ false | Some s ↦ nat_le (length s.frames + 1) greatest_depth ]

abbrev pushed_all : World → Frame → Option Stack → World
pushed_all W f o = elim o [ None ↦ W | Some s ↦ push W s f ]

push_move : (V : World) (s : Stack) (what : Over) (env : List Value) (room : Bool) → stack_of V ≡ Some s → room ≡ nat_le (length s.frames + 1) greatest_depth
    → move (push_frame what) env V ≡ cond room (made (push V s (frame_over what env)) [] true) (made V [] false)
push_move V s what env room k q =
    ap (λ b. cond b (made (push_all V (frame_over what env ∷ [])) [] true) (made V [] false)) (ap roomy k ∙ sym q)
    ∙ ap (λ o. cond room (made (pushed_all V (frame_over what env) o) [] true) (made V [] false)) k

push_done : (old new : Memory) (co : CoroId) (s s' : KeptStack) (over : KeptFrame) (f : Frame) (fuel : ℕ) (b : Bool) → Runs old co s → ChangesStack old new co s'
    → s'.frames ≡ cond b (s.frames ++ over ∷ []) s.frames → f ≡ frame_of (value old.strings) over
    → cond b (made (push (plain old fuel) (kept_as old co s) f) [] true) (made (plain old fuel) [] false) ≡ made (plain new fuel) [] b
push_done old new co s s' over f fuel true r c e same =
    let g = frame_of (value old.strings) in
    ap (λ W. made W [] true) (
    push_put (plain old fuel) (kept_as old co s) f
    ∙ ap (put_frames (plain old fuel) co.0) (ap (λ f. map g s.frames ++ f ∷ []) same ∙ sym (ap (map g) e ∙ map_push g s.frames over))
    ∙ sym (changed_stack_is_put old new co s' fuel c))
push_done old new co s s' over f fuel false r c e same =
    let g = frame_of (value old.strings) in
    ap (λ W. made W [] false) (
    sym (put_same (plain old fuel) co.0 (map g s.frames) (get_map (coroutine old.strings) old.coros.objects co.0 (Running s) r.there))
    ∙ ap (put_frames (plain old fuel) co.0) (sym (ap (map g) e))
    ∙ sym (changed_stack_is_put old new co s' fuel c))

pub pushed_is : (old new : Memory) (co : CoroId) (s s' : KeptStack) (over : KeptFrame) (room : Bool) (env : List Value) (what : Over) → Runs old co s → ChangesStack old new co s'
    → room ≡ nat_le (length s.frames + 1) greatest_depth → s'.frames ≡ cond room (s.frames ++ over ∷ []) s.frames
    → frame_over what env ≡ frame_of (value old.strings) over → Makes old new (push_frame what) env [] room
pushed_is old new co s s' over room env what r c q e same = record {
  is = λ fuel.
      push_move (plain old fuel) (kept_as old co s) what env room (stack_kept old co s fuel r) (q ∙ ap (λ n. nat_le (n + 1) greatest_depth) (sym (length-map s.frames (frame_of (value old.strings)))))
      ∙ push_done old new co s s' over (frame_over what env) fuel room r c e same;
}

-- where a stack is put back as it was
pub kept_whole : (W : Memory) (co : CoroId) (s s' : KeptStack) → Runs W co s → s' ≡ s → record W { coros = record W.coros { objects = slice_set W.coros.objects co.0 (Running s') } } ≡ W
kept_whole W co s s' r e =
    ap (λ s. record W { coros = record W.coros { objects = slice_set W.coros.objects co.0 (Running s) } }) e
    ∙ ap (λ cs. record W { coros = record W.coros { objects = cs } }) (set_same W.coros.objects co.0 (Running s) r.there)

pub if_ok : {B E : Type 0} {P Q : B → Type 0} {R : B → Type 0} (o : Result B E) → IfOk o P → IfOk o Q → ((b : B) → P b → Q b → R b) → IfOk o R
if_ok (Ok b) p q f = f b p q
if_ok (Err e) p q f = tt

pub on_err : {B E : Type 0} {P Q : Type 0} (o : Result B E) → OnErr o P → (P → Q) → OnErr o Q
on_err (Ok b) p f = tt
on_err (Err e) p f = f p

pub on_ok : {B E : Type 0} {P Q : Type 0} (o : Result B E) → OnOk o P → (P → Q) → OnOk o Q
on_ok (Ok b) p f = f p
on_ok (Err e) p f = tt

-- the stack that was put there runs
pub runs_after : (old new : Memory) (co : CoroId) (s s' : KeptStack) → Runs old co s → ChangesStack old new co s' → Runs new co s'
runs_after old new co s s' r c = record {
  chain = ap (λ (W : Memory). last W.chain.items) c.rest ∙ r.chain;
  there = ap (λ cs. slice_get cs co.0) c.objects ∙ get_set_same old.coros.objects co.0 (Running s) (Running s') r.there;
}

-- What stands where a coroutine runs, and where a Lua frame is on top of it.
use Rattle.std.proofs.Common.{◌≡◌, ℕ, ◌-◌, List, length, Some, refl, ap, sym, ◌∙◌}
use Rattle.std.specs.Prelude.{slice_get}
use Rattle.int_core.specs.Value.{bind, last}
use Rattle.machine_core.specs.World.{Function, LuaFrame, Frame, lua, Coroutine, in_progress, World, Stack, stack_of, Place, place_of, lua_frame, running_frames}
use Rattle.machine_sound.proofs.Lists.{bind_some, some_is}

pub record StackIs (W : World) (s : Stack) : Type 0 where
  pub chain : last W.chain ≡ Some s.coroutine
  pub there : slice_get W.coroutines s.coroutine ≡ Some (in_progress s.frames)

abbrev stack_at : ℕ → List Frame → Stack
stack_at co frames = record { coroutine = co; frames = frames }

running_is : (c : Coroutine) (fs : List Frame) → running_frames c ≡ Some fs → c ≡ in_progress fs
running_is (in_progress gs) fs e = ap in_progress (some_is {o = Some gs} refl e)
running_is _ fs e = absurd (cc)

pub stack_is : (W : World) (s : Stack) → stack_of W ≡ Some s → StackIs W s
stack_is W s e =
    let a = bind_some (λ co. bind {B = Stack} (bind (slice_get W.coroutines co) running_frames) (λ frames. Some (stack_at co frames))) (last W.chain) s e in
    let b = bind_some (λ frames. Some (stack_at a.0 frames)) (bind (slice_get W.coroutines a.0) running_frames) s a.2 in
    let c = bind_some running_frames (slice_get W.coroutines a.0) b.0 b.1 in
    let same : stack_at a.0 b.0 ≡ s = some_is {o = Some (stack_at a.0 b.0)} refl b.2 in
    let co : a.0 ≡ s.coroutine = ap (λ (s : Stack). s.coroutine) same in
    let fs : b.0 ≡ s.frames = ap (λ (s : Stack). s.frames) same in
    record {
      chain = a.1 ∙ ap (λ n. Some n) co;
      there = ap (slice_get W.coroutines) (sym co) ∙ c.1 ∙ ap (λ c. Some c) (running_is c.0 b.0 c.2) ∙ ap (λ fs. Some (in_progress fs)) fs;
    }

pub record PlaceIs (W : World) (at : Place) : Type 0 where
  pub stack : stack_of W ≡ Some at.stack
  pub top : last at.stack.frames ≡ Some (lua at.top)
  pub function : slice_get W.functions at.top.function ≡ Some at.function
  pub number : at.number ≡ length at.stack.frames - 1

abbrev place_at : Stack → LuaFrame → Function → Place
place_at s top f = record { stack = s; number = length s.frames - 1; top = top; function = f }

lua_is : (f : Frame) (t : LuaFrame) → lua_frame f ≡ Some t → f ≡ lua t
lua_is (lua g) t e = ap lua (some_is {o = Some g} refl e)
lua_is _ t e = absurd (cc)

pub place_is : (W : World) (at : Place) → place_of W ≡ Some at → PlaceIs W at
place_is W at e =
    let a = bind_some (λ s. bind {B = Place} (bind (last s.frames) lua_frame) (λ top. bind {B = Place} (slice_get W.functions top.function) (λ f. Some (place_at s top f)))) (stack_of W) at e in
    let b = bind_some (λ top. bind {B = Place} (slice_get W.functions top.function) (λ f. Some (place_at a.0 top f))) (bind (last a.0.frames) lua_frame) at a.2 in
    let c = bind_some (λ f. Some (place_at a.0 b.0 f)) (slice_get W.functions b.0.function) at b.2 in
    let d = bind_some lua_frame (last a.0.frames) b.0 b.1 in
    let same : place_at a.0 b.0 c.0 ≡ at = some_is {o = Some (place_at a.0 b.0 c.0)} refl c.2 in
    let s : a.0 ≡ at.stack = ap (λ (p : Place). p.stack) same in
    let t : b.0 ≡ at.top = ap (λ (p : Place). p.top) same in
    let f : c.0 ≡ at.function = ap (λ (p : Place). p.function) same in
    record {
      stack = a.1 ∙ ap (λ s. Some s) s;
      top = ap (λ (s : Stack). last s.frames) (sym s) ∙ d.1 ∙ ap (λ f. Some f) (lua_is d.0 b.0 d.2) ∙ ap (λ t. Some (lua t)) t;
      function = ap (λ (t : LuaFrame). slice_get W.functions t.function) (sym t) ∙ c.1 ∙ ap (λ f. Some f) f;
      number = sym (ap (λ (p : Place). p.number) same) ∙ ap (λ (s : Stack). length s.frames - 1) s;
    }

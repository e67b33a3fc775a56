-- What holds of a world where a row stands, and the world's top frame.
use Rattle.std.proofs.Common.{ℕ, ◌+◌, ◌*◌, ◌-◌, ◌≤◌, ◌≡◌, ◌⊎◌, List, [], ◌∷◌, ◌++◌, Option, Some, None, refl, sym, ap, ◌∙◌, length, arith, Bool, true, false, cond}
use Rattle.std.specs.Prelude.{slice_get}
use Rattle.int_core.specs.Value.{Value, bind, last, without_last}
use Rattle.machine_core.specs.World.{Function, Wait, running, LuaFrame, Frame, lua, pcall, xpcall, handler, closing, World, Stack, stack_of, lua_frame, Place, place_of, put_frames, put_top}
use Rattle.machine_core.specs.Moves.{Made, TopShape, top_now, top_shape, move, Move, Told}
use Rattle.machine_sound.proofs.Lists.{bind_some, last_push}
use Rattle.machine_ends.specs.Measure.{Within, wait_weight, frame_weight, world_weight}
use Rattle.machine_ends.specs.Falls.{Phase, on_lua, anywhere, tail_refused, ended, After, not_made, not_told, stands, next}
use Rattle.machine_ends.proofs.Weights.{Runs, stack_runs, runs_stack, there_now, top_weight}
use Rattle.machine_ends.proofs.Pending.{Seen}

abbrev pub spare : (most : ℕ) → (rich : Bool) → ℕ → ℕ
spare most true c = 40 * most + c
spare most false c = c

abbrev pub RunsIf : Bool → Wait Value → Type 0
RunsIf true w = w ≡ running
RunsIf false w = Unit {0}

pub record HeldLua (most bound : ℕ) (rich : Bool) (c : ℕ) (seen : Option ℕ) (runs : Bool) (W : World) : Type 0 where
  pub stack : Stack
  pub running_is : Runs W stack
  pub top : LuaFrame
  pub is_top : last stack.frames ≡ Some (lua top)
  pub low : world_weight most W + spare most rich c ≤ bound + wait_weight top.wait
  pub pending : Seen seen top.own.pending
  pub wait : RunsIf runs top.wait

abbrev pub Known : Option TopShape → World → Type 0
Known None W = Unit {0}
Known (Some t) W = top_now W ≡ Some t

pub record HeldOther (most bound : ℕ) (rich : Bool) (c : ℕ) (top : Option TopShape) (W : World) : Type 0 where
  pub low : world_weight most W + spare most rich c ≤ bound
  pub known : Known top W

abbrev pub Held : (most bound : ℕ) → Phase → World → Type 0
Held most bound (on_lua rich c seen runs) W = HeldLua most bound rich c seen runs W
Held most bound (anywhere rich c top) W = HeldOther most bound rich c top W
Held most bound (tail_refused c) W = HeldLua most bound false c None true W ⊎ HeldOther most bound false 100 None W
Held most bound ended W = Unit {0}

pub record Holds (most bound : ℕ) (x : Phase) (W : World) : Type 0 where
  pub within : Within most W
  pub held : Held most bound x W

abbrev pub HoldsAfter : (most bound : ℕ) → After → World → Type 0
HoldsAfter most bound not_made W = Unit {0}
HoldsAfter most bound not_told W = ⊥
HoldsAfter most bound (stands x) W = Holds most bound x W

-- what a move that does not trap owes
abbrev pub MoveHolds : (most bound : ℕ) (x : Phase) (m : Move) (env : List Value) (W : World) → Type 0
MoveHolds most bound x m env W = (d : Made (Told m)) → move m env W ≡ Some d → HoldsAfter most bound (next x m d.told) d.world

pub made_is : {A : Type 0} (x d : Made A) → Some x ≡ Some d → x ≡ d
made_is x d e = cc

pub cond_made : {A : Type 0} (b : Bool) (x d : Made A) → cond b (Some x) None ≡ Some d → x ≡ d
cond_made true x d e = made_is x d e
cond_made false x d e = absurd (cc)

-- the place of a world with a Lua frame on top
abbrev pub place_in : Stack → LuaFrame → Function → Place
place_in s f g = record { stack = s; number = length s.frames - 1; top = f; function = g }

pub place_is : (W : World) (s : Stack) (f : LuaFrame) → Runs W s → last s.frames ≡ Some (lua f) → place_of W ≡ bind (slice_get W.functions f.function) (λ g. Some (place_in s f g))
place_is W s f r e =
    ap (λ o. bind o (λ s. bind (bind (last s.frames) lua_frame) (λ top. bind (slice_get W.functions top.function) (λ g. Some (place_in s top g))))) (runs_stack W s r)
    ∙ ap (λ o. bind (bind o lua_frame) (λ top. bind (slice_get W.functions top.function) (λ g. Some (place_in s top g)))) e

pub at_place : {A : Type 0} (W : World) (s : Stack) (f : LuaFrame) (F : Place → Option A) (d : A) → Runs W s → last s.frames ≡ Some (lua f) → bind (place_of W) F ≡ Some d
    → (g : Function) × (slice_get W.functions f.function ≡ Some g) × (F (place_in s f g) ≡ Some d)
at_place {A = A} W s f F d r e h =
    let q : bind (bind (slice_get W.functions f.function) (λ g. Some (place_in s f g))) F ≡ Some d = ap (λ o. bind o F) (sym (place_is W s f r e)) ∙ h in
    from (slice_get W.functions f.function) refl q
  where
    from : (o : Option Function) → slice_get W.functions f.function ≡ o → bind (bind o (λ g. Some (place_in s f g))) F ≡ Some d → (g : Function) × (slice_get W.functions f.function ≡ Some g) × (F (place_in s f g) ≡ Some d)
    from None e h = absurd (cc)
    from (Some g) e h = (g, e, h)

-- another frame on top

abbrev pub with_top : Stack → Frame → Stack
with_top s g = record { coroutine = s.coroutine; frames = without_last s.frames ++ g ∷ [] }

pub put_runs : (X : World) (s : Stack) (g : Frame) → Runs X s → Runs (put_top X s g) (with_top s g)
unfolding put_top put_frames
put_runs X s g r = record { last_is = r.last_is; there = there_now 0 X s r (without_last s.frames ++ g ∷ []) }

pub put_weight : (most : ℕ) (X : World) (s : Stack) (f g : Frame) → Runs X s → last s.frames ≡ Some f → world_weight most (put_top X s g) + frame_weight most f ≡ world_weight most X + frame_weight most g
unfolding put_top put_frames
put_weight most X s f g r e = let k = top_weight most X s r f g e in omega arith

pub put_functions : (X : World) (s : Stack) (g : Frame) → (put_top X s g).functions ≡ X.functions
unfolding put_top put_frames
put_functions X s g = refl

pub top_last : (s : Stack) (g : Frame) → last (with_top s g).frames ≡ Some g
top_last s g = last_push (without_last s.frames) g

-- a Lua frame on top, wherever the row stands
pub lua_of : (most bound : ℕ) (rich : Bool) (c : ℕ) (top : Option TopShape) (W : World) (p : Place) → HeldOther most bound rich c top W → place_of W ≡ Some p → HeldLua most bound rich c None false W
lua_of most bound rich c top W p h e =
    let a = bind_some {B = Place} (λ s. bind (bind (last s.frames) lua_frame) (λ t. bind (slice_get W.functions t.function) (λ g. Some (place_in s t g)))) (stack_of W) p e in
    let b = bind_some {B = Place} (λ t. bind (slice_get W.functions t.function) (λ g. Some (place_in a.0 t g))) (bind (last a.0.frames) lua_frame) p a.2 in
    let c' = bind_some lua_frame (last a.0.frames) b.0 b.1 in
    record { stack = a.0; running_is = stack_runs W a.0 a.1; top = b.0; is_top = c'.1 ∙ ap Some (lua_is c'.0 b.0 c'.2); low = low (wait_weight b.0.wait) rich h.low; pending = tt; wait = tt }
  where
    lua_is : (x : Frame) (f : LuaFrame) → lua_frame x ≡ Some f → x ≡ lua f
    lua_is (lua g) f e = let k : Some g ≡ Some f = e in let q : g ≡ f = cc in ap lua q
    lua_is pcall f e = absurd (cc)
    lua_is (xpcall v) f e = absurd (cc)
    lua_is handler f e = absurd (cc)
    lua_is (closing v vs) f e = absurd (cc)

    low : (n : ℕ) (b : Bool) → world_weight most W + spare most b c ≤ bound → world_weight most W + spare most b c ≤ bound + n
    low n b l = omega arith

-- what is on top

pub top_is : (W : World) (s : Stack) → Runs W s → top_now W ≡ Some (top_shape W (last s.frames))
top_is W s r = ap (λ o. bind o (λ s. Some (top_shape W (last s.frames)))) (runs_stack W s r)

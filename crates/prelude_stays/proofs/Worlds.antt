-- Worlds with other frames, cells and values that move.
use Rattle.std.proofs.Common.{ℕ, ◌-◌, ◌≡◌, List, [], ◌∷◌, ◌++◌, Option, Some, None, refl, subst, sym, ap, ◌∙◌, length, arith, Bool, true, false, cond, length-append}
use Rattle.std.specs.Prelude.{slice_get, slice_set}
use Rattle.int_core.specs.Value.{Value, object, a_table, bind, last, without_last}
use Rattle.machine_core.specs.World.{Function, Cell, closed, LuaFrame, Frame, lua, Coroutine, in_progress, World, Stack, stack_of, frames_of, running_frames, lua_frame, Place, place_of}
use Rattle.machine_core.specs.Moves.{Made, Outcome, trapped, ends}
use Rattle.machine_sound.specs.Sound.{Each}
use Rattle.machine_sound.proofs.Lists.{bind_some, last_splits, last_push, each_set, each_last, each_front, some_is}
use Rattle.machine_sound.proofs.Frames.{stack_is}
use Rattle.machine_sound.proofs.Writes.{lua_is}
use Rattle.prelude_stays.specs.Guards.{Guard}
use Rattle.prelude_stays.specs.Kept.{Home, Apart, LuaOk, FrameOk, CoroutineOk, HeapOk, function_at, FunctionOk, Keeps}
use Rattle.prelude_stays.proofs.Cells.{in_frames, Carries, FramesStay, in_last, set_stays, function_of, stay_carries}

-- what a move leaves

abbrev pub MadeKeeps : {A : Type 0} → Home → Option (Made A) → Type 0
MadeKeeps y None = Unit {0}
MadeKeeps y (Some d) = (gs : List Guard) × Keeps y gs d.world × Each (Apart y.table) d.values

abbrev pub EndKeeps : Home → Outcome → Type 0
EndKeeps y trapped = Unit {0}
EndKeeps y (ends e V) = (gs : List Guard) × Keeps y gs V

pub made_bind : {A B : Type 0} (y : Home) (o : Option A) (f : A → Option (Made B)) → ((a : A) → o ≡ Some a → MadeKeeps y (f a)) → MadeKeeps y (bind o f)
made_bind y None f h = tt
made_bind y (Some a) f h = h a refl

pub made_cond : {B : Type 0} (y : Home) (b : Bool) (p q : Option (Made B)) → MadeKeeps y p → MadeKeeps y q → MadeKeeps y (cond b p q)
made_cond y true p q h k = h
made_cond y false p q h k = k

-- the function of the Lua frame on top

abbrev pub top_function : World → Option ℕ
top_function W = bind (bind (bind (stack_of W) (λ s. last s.frames)) lua_frame) (λ f. Some f.function)

-- where a Lua frame is on top, this is known of its function
abbrev pub TopIs : List Guard → Guard → World → Type 0
TopIs gs g W = (f : ℕ) → top_function W ≡ Some f → slice_get gs f ≡ Some g

-- a world with the same functions

pub function_on : (y : Home) (gs : List Guard) (W V : World) → Carries y.table gs W.coroutines W.cells V.coroutines V.cells → (n : ℕ) (f : Function) → FunctionOk y gs W n f → FunctionOk y gs V n f
function_on y gs W V c n f h = record { guard = h.guard; there = h.there; code = h.code; cells = λ i k a b. c k (h.cells i k a b); apart = h.apart }

pub changed : (y : Home) (gs : List Guard) (W V : World) → Keeps y gs W → V.functions ≡ W.functions → V.globals ≡ W.globals → HeapOk y V.heap → Carries y.table gs W.coroutines W.cells V.coroutines V.cells
    → slice_get V.cells y.cell ≡ Some (closed (object a_table y.table)) → Each (CoroutineOk y.table gs) V.coroutines → Each (Apart y.table) V.moving → Keeps y gs V
changed y gs W V k f g h c e o m = record {
  count = k.count ∙ ap length (sym f);
  heap = h;
  functions = λ n p x. function_on y gs W V c n p (k.functions n p (subst (λ fs. slice_get fs n ≡ Some p) f x));
  cell = e;
  globals = λ q. k.globals (sym g ∙ q);
  coroutines = o;
  moving = m;
}

pub same_cells : (e : ℕ) (gs : List Guard) (cos : List Coroutine) (cells : List Cell) → Carries e gs cos cells cos cells
same_cells e gs cos cells c k = k

-- other values move
pub moving_keeps : (y : Home) (gs : List Guard) (W : World) (vs : List Value) → Keeps y gs W → Each (Apart y.table) vs → Keeps y gs (record W { moving = vs })
moving_keeps y gs W vs k v = changed y gs W (record W { moving = vs }) k refl refl k.heap (λ c h. h) k.cell k.coroutines v

pub heap_keeps : (y : Home) (gs : List Guard) (W : World) (H : _) → Keeps y gs W → HeapOk y H → Keeps y gs (record W { heap = H })
heap_keeps y gs W H k h = changed y gs W (record W { heap = H }) k refl refl h (λ c z. z) k.cell k.coroutines k.moving

pub fuel_keeps : (y : Home) (gs : List Guard) (W : World) (n : ℕ) → Keeps y gs W → Keeps y gs (record W { fuel = n })
fuel_keeps y gs W n k = changed y gs W (record W { fuel = n }) k refl refl k.heap (λ c z. z) k.cell k.coroutines k.moving

-- the running coroutine

pub record OnStack (W : World) (s : Stack) : Type 0 where
  pub chain : last W.chain ≡ Some s.coroutine
  pub there : slice_get W.coroutines s.coroutine ≡ Some (in_progress s.frames)

running_is : (c : Coroutine) (fs : List Frame) → running_frames c ≡ Some fs → c ≡ in_progress fs
running_is (in_progress gs) fs e = let k : gs ≡ fs = cc in ap in_progress k
running_is _ fs e = absurd (cc)

pub stack_there : (W : World) (s : Stack) → stack_of W ≡ Some s → OnStack W s
stack_there W s h =
    let a = bind_some (λ co. bind (bind (slice_get W.coroutines co) running_frames) (λ frames. Some (record { coroutine = co; frames = frames }))) (last W.chain) s h in
    let b = bind_some (λ frames. Some (record { coroutine = a.0; frames = frames })) (bind (slice_get W.coroutines a.0) running_frames) s a.2 in
    let c = bind_some running_frames (slice_get W.coroutines a.0) b.0 b.1 in
    from a.0 b.0 a.1 (c.1 ∙ ap Some (running_is c.0 b.0 c.2)) b.2
  where
    from : (co : ℕ) (frames : List Frame) → last W.chain ≡ Some co → slice_get W.coroutines co ≡ Some (in_progress frames) → Some (record { coroutine = co; frames = frames }) ≡ Some s → OnStack W s
    from co frames a b e = subst (OnStack W) (some_is refl e) (record { chain = a; there = b })

-- the Lua frame on top
pub record OnPlace (W : World) (p : Place) : Type 0 where
  pub stack : OnStack W p.stack
  pub splits : p.stack.frames ≡ without_last p.stack.frames ++ lua p.top ∷ []
  pub number : p.number ≡ length (without_last p.stack.frames)
  pub function : slice_get W.functions p.top.function ≡ Some p.function

pub place_there : (W : World) (p : Place) → place_of W ≡ Some p → OnPlace W p
place_there W p h =
    let a = bind_some (λ (s : Stack). bind (bind (last s.frames) lua_frame) (λ top. bind (slice_get W.functions top.function) (λ f. Some (record { stack = s; number = length s.frames - 1; top = top; function = f })))) (stack_of W) p h in
    let b = bind_some (λ (top : LuaFrame). bind (slice_get W.functions top.function) (λ f. Some (record { stack = a.0; number = length a.0.frames - 1; top = top; function = f }))) (bind (last a.0.frames) lua_frame) p a.2 in
    let c = bind_some (λ f. Some (record { stack = a.0; number = length a.0.frames - 1; top = b.0; function = f })) (slice_get W.functions b.0.function) p b.2 in
    let d = bind_some lua_frame (last a.0.frames) b.0 b.1 in
    from a.0 b.0 c.0 (stack_there W a.0 a.1) (d.1 ∙ ap Some (lua_is d.0 b.0 d.2)) c.1 c.2
  where
    from : (s : Stack) (top : LuaFrame) (f : Function) → OnStack W s → last s.frames ≡ Some (lua top) → slice_get W.functions top.function ≡ Some f → Some (record { stack = s; number = length s.frames - 1; top = top; function = f }) ≡ Some p → OnPlace W p
    from s top f o l g e =
        let splits = last_splits s.frames (lua top) l in
        subst (OnPlace W) (some_is refl e) (record {
          stack = o;
          splits = splits;
          number = (let q = ap length splits in let r = length-append (without_last s.frames) (lua top ∷ []) in omega arith);
          function = g;
        })

-- the top's function
pub top_at : (W : World) (co : ℕ) (base : List Frame) (x : Frame) → last W.chain ≡ Some co → slice_get W.coroutines co ≡ Some (in_progress (base ++ x ∷ [])) → top_function W ≡ function_of x
top_at W co base x h k =
    ap (λ (o : Option Stack). bind (bind (bind o (λ s. last s.frames)) lua_frame) (λ f. Some f.function)) (stack_is W co (base ++ x ∷ []) h k)
    ∙ ap (λ o. bind (bind o lua_frame) (λ f. Some f.function)) (last_push base x)

pub place_top : (W : World) (p : Place) → OnPlace W p → top_function W ≡ Some p.top.function
place_top W p o = top_at W p.stack.coroutine (without_last p.stack.frames) (lua p.top) o.stack.chain (o.stack.there ∙ ap (λ fs. Some (in_progress fs)) o.splits)

module _ (y : Home) (gs : List Guard) (W : World) (k : Keeps y gs W) where
  -- what is known of the running frames
  pub frames_ok : (s : Stack) → OnStack W s → Each (FrameOk y.table gs) s.frames
  frames_ok s o = k.coroutines s.coroutine (in_progress s.frames) o.there

  pub top_ok : (p : Place) → OnPlace W p → LuaOk y.table gs p.top
  top_ok p o = each_last (FrameOk y.table gs) (without_last p.stack.frames) (lua p.top) (subst (Each (FrameOk y.table gs)) o.splits (frames_ok p.stack o.stack))

  pub base_ok : (s : Stack) (x : Frame) → OnStack W s → s.frames ≡ without_last s.frames ++ x ∷ [] → Each (FrameOk y.table gs) (without_last s.frames)
  base_ok s x o e = each_front (FrameOk y.table gs) (without_last s.frames) (x ∷ []) (subst (Each (FrameOk y.table gs)) e (frames_ok s o))

  pub function_there : (p : Place) → OnPlace W p → FunctionOk y gs W p.top.function p.function
  function_there p o = k.functions p.top.function p.function o.function

  pub stands_at : (p : Place) → OnPlace W p → function_at W.coroutines p.stack.coroutine p.number ≡ Some p.top.function
  stands_at p o =
      ap (λ c. in_frames (bind c frames_of) p.number) (o.stack.there ∙ ap (λ fs. Some (in_progress fs)) o.splits)
      ∙ ap (λ n. in_frames (Some (without_last p.stack.frames ++ lua p.top ∷ [])) n) o.number
      ∙ in_last (without_last p.stack.frames) (lua p.top) p.top.function refl

  -- other frames of the running coroutine, and other cells
  pub stack_keeps : (s : Stack) (frames : List Frame) (cells : List Cell) → OnStack W s → Each (FrameOk y.table gs) frames → Carries y.table gs W.coroutines W.cells (slice_set W.coroutines s.coroutine (in_progress frames)) cells
      → slice_get cells y.cell ≡ Some (closed (object a_table y.table)) → Keeps y gs (record W { cells = cells; coroutines = slice_set W.coroutines s.coroutine (in_progress frames) })
  stack_keeps s frames cells o h c e =
      changed y gs W (record W { cells = cells; coroutines = slice_set W.coroutines s.coroutine (in_progress frames) }) k refl refl k.heap c e (each_set (CoroutineOk y.table gs) W.coroutines s.coroutine (in_progress frames) k.coroutines h) k.moving

  -- a coroutine in another state, with no frame gone
  pub set_keeps : (co : ℕ) (old new : Coroutine) → slice_get W.coroutines co ≡ Some old → FramesStay (frames_of old) (frames_of new) → CoroutineOk y.table gs new
      → Keeps y gs (record W { coroutines = slice_set W.coroutines co new })
  set_keeps co old new e h o =
      changed y gs W (record W { coroutines = slice_set W.coroutines co new }) k refl refl k.heap (stay_carries y.table gs W.coroutines (slice_set W.coroutines co new) W.cells (set_stays W.coroutines co old new e h)) k.cell
      (each_set (CoroutineOk y.table gs) W.coroutines co new k.coroutines o) k.moving

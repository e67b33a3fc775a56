-- What is the same stays the same when more is paired; and the places of two machines that agree.
use Rattle.std.proofs.Common.{ℕ, ◌-◌, ◌≡◌, List, Option, Some, None, refl, ap}
use Rattle.std.specs.Prelude.{slice_get}
use Rattle.int_core.specs.Value.{a_table, a_function, a_coroutine, Value, shape, nil, known, nth, bind, last}
use Rattle.int_core.specs.Heap.{Table}
use Rattle.machine_core.specs.World.{Function, Cell, Wait, Activation, LuaFrame, Frame, Coroutine, World, Stack, Place, stack_of, place_of, running_frames, frames_of, lua_frame, register_at}
use Rattle.machine_alike.specs.Agree.{Pairs, SameNumber, SameCellNumber, Each, SameValue, same_known, same_object, SameValues, SameRow, SameTable, SameFunction, SameWait, same_running, same_for_call, same_for_iterator, same_for_value, same_for_truth, same_dropped, same_for_concat, same_for_close, same_returning, same_leaving, SameActivation, SameLuaFrame, SameFrame, same_lua, same_pcall, same_xpcall, same_handler, same_closing, SameFrames, SameCoroutine, same_fresh, same_suspended, same_in_progress, same_normal, same_dead, same_failed, Loose, kept_closed, kept_apart, IsFirst, IsSecond, SameCell, same_place, same_content, SameRoots, roots_of, AgreeInTurn, Extends}
use Rattle.machine_alike.proofs.Pairwise.{each_bind, both_each, each_on, zip_on, zip_get, zip_length, zip_last}

pub extends_self : (p : Pairs) → Extends p p
extends_self p = record { objects = λ kind i j h. h; cells = λ i j h. h }

pub extends_on : (p q r : Pairs) → Extends p q → Extends q r → Extends p r
extends_on p q r e f = record { objects = λ kind i j h. f.objects kind i j (e.objects kind i j h); cells = λ i j h. f.cells i j (e.cells i j h) }

pub value_on : (p q : Pairs) → Extends p q → (v w : Value) → SameValue p v w → SameValue q v w
value_on p q e v w (same_known plain) = same_known plain
value_on p q e v w (same_object kind i j h) = same_object kind i j (e.objects kind i j h)

pub values_on : (p q : Pairs) → Extends p q → (vs ws : List Value) → SameValues p vs ws → SameValues q vs ws
values_on p q e vs ws h = zip_on (SameValue p) (SameValue q) (value_on p q e) vs ws h

module _ (p q : Pairs) (e : Extends p q) where
  pub table_on : (t u : Table) → SameTable p t u → SameTable q t u
  table_on t u h = record {
    rows = zip_on (SameRow p) (SameRow q) (λ a b r. (value_on p q e a.0 b.0 r.0, value_on p q e a.1 b.1 r.1)) t.rows u.rows h.rows;
    metatable = each_on (SameNumber p a_table) (SameNumber q a_table) (e.objects a_table) t.metatable u.metatable h.metatable;
  }

  pub function_on : (f g : Function) → SameFunction p f g → SameFunction q f g
  function_on f g h = record { code = h.code; cells = zip_on (SameCellNumber p) (SameCellNumber q) e.cells f.cells g.cells h.cells }

  pub wait_on : (v w : Wait Value) → SameWait p v w → SameWait q v w
  wait_on v w same_running = same_running
  wait_on v w same_for_call = same_for_call
  wait_on v w same_for_iterator = same_for_iterator
  wait_on v w same_for_value = same_for_value
  wait_on v w same_for_truth = same_for_truth
  wait_on v w same_dropped = same_dropped
  wait_on v w (same_for_concat left) = same_for_concat left
  wait_on v w same_for_close = same_for_close
  wait_on v w (same_returning count) = same_returning count
  wait_on v w (same_leaving x y h) = same_leaving x y (value_on p q e x y h)

  pub activation_on : (a b : Activation) → SameActivation p a b → SameActivation q a b
  activation_on a b h = record {
    pc = h.pc;
    registers = values_on p q e a.registers b.registers h.registers;
    varargs = values_on p q e a.varargs b.varargs h.varargs;
    pending = h.pending;
    opened = h.opened;
  }

  pub lua_frame_on : (f g : LuaFrame) → SameLuaFrame p f g → SameLuaFrame q f g
  lua_frame_on f g h = record { function = e.objects a_function f.function g.function h.function; wait = wait_on f.wait g.wait h.wait; own = activation_on f.own g.own h.own }

  pub frame_on : (f g : Frame) → SameFrame p f g → SameFrame q f g
  frame_on f g (same_lua x y h) = same_lua x y (lua_frame_on x y h)
  frame_on f g same_pcall = same_pcall
  frame_on f g (same_xpcall v w h) = same_xpcall v w (value_on p q e v w h)
  frame_on f g same_handler = same_handler
  frame_on f g (same_closing v w vs ws h k) = same_closing v w vs ws (each_on (SameValue p) (SameValue q) (value_on p q e) v w h) (values_on p q e vs ws k)

  pub frames_on : (fs gs : List Frame) → SameFrames p fs gs → SameFrames q fs gs
  frames_on fs gs h = zip_on (SameFrame p) (SameFrame q) frame_on fs gs h

  pub coroutine_on : (c d : Coroutine) → SameCoroutine p c d → SameCoroutine q c d
  coroutine_on c d (same_fresh v w h) = same_fresh v w (value_on p q e v w h)
  coroutine_on c d (same_suspended fs gs h) = same_suspended fs gs (frames_on fs gs h)
  coroutine_on c d (same_in_progress fs gs h) = same_in_progress fs gs (frames_on fs gs h)
  coroutine_on c d (same_normal fs gs h) = same_normal fs gs (frames_on fs gs h)
  coroutine_on c d same_dead = same_dead
  coroutine_on c d (same_failed v w vs ws h k) = same_failed v w vs ws (value_on p q e v w h) (values_on p q e vs ws k)

  pub roots_on : (W X : World) → SameRoots p (roots_of W) (roots_of X) → SameRoots q (roots_of W) (roots_of X)
  roots_on W X r = record {
    globals = e.objects a_table W.globals X.globals r.globals;
    string_metatable = each_on (SameNumber p a_table) (SameNumber q a_table) (e.objects a_table) W.heap.string_metatable X.heap.string_metatable r.string_metatable;
    prelude_environment = e.objects a_table W.prelude_environment X.prelude_environment r.prelude_environment;
    prelude_functions = zip_on (SameNumber p a_function) (SameNumber q a_function) (e.objects a_function) W.prelude_functions X.prelude_functions r.prelude_functions;
    special_key = r.special_key;
    max_depth = r.max_depth;
    main = each_on (SameNumber p a_coroutine) (SameNumber q a_coroutine) (e.objects a_coroutine) W.main X.main r.main;
    chain = zip_on (SameNumber p a_coroutine) (SameNumber q a_coroutine) (e.objects a_coroutine) W.chain X.chain r.chain;
  }

-- registers of coroutines that are not paired, and that stay so, are kept
abbrev pub KeepsApart : List Coroutine → List Coroutine → (ℕ → Type 0) → (ℕ → Type 0) → Type 0
KeepsApart cs ds P Q = (co f r : ℕ) (v : Value) → (P co → ⊥) → register_at cs co f r ≡ Some v → (Q co → ⊥) × (register_at ds co f r ≡ Some v)

pub keeps_apart_self : (cs : List Coroutine) (P : ℕ → Type 0) → KeepsApart cs cs P P
keeps_apart_self cs P co f r v n at = (n, at)

pub loose_on : (cs ds : List Coroutine) (P Q : ℕ → Type 0) → KeepsApart cs ds P Q → (c : Cell) (v : Value) → Loose cs P c v → Loose ds Q c v
loose_on cs ds P Q h c v (kept_closed w) = kept_closed w
loose_on cs ds P Q h c v (kept_apart co f r w n at) = let k = h co f r w n at in kept_apart co f r w k.0 k.1

pub cell_on : (p q : Pairs) → Extends p q → (cs ds es fs : List Coroutine) → KeepsApart cs es (IsFirst p) (IsFirst q) → KeepsApart ds fs (IsSecond p) (IsSecond q) → (c d : Cell) → SameCell p cs ds c d → SameCell q es fs c d
cell_on p q e cs ds es fs h k c d (same_place co co' f r at) = same_place co co' f r (e.objects a_coroutine co co' at)
cell_on p q e cs ds es fs h k c d (same_content x y v w l m s) = same_content x y v w (loose_on cs es (IsFirst p) (IsFirst q) h x v l) (loose_on ds fs (IsSecond p) (IsSecond q) k y w m) (value_on p q e v w s)

-- values

pub shape_same : (p : Pairs) (v w : Value) → SameValue p v w → shape v ≡ shape w
shape_same p v w (same_known plain) = refl
shape_same p v w (same_object kind i j h) = refl

pub value_or_nil : (p : Pairs) (o o' : Option Value) → Each (SameValue p) o o' → SameValue p (elim o [ None ↦ known nil | Some v ↦ v ]) (elim o' [ None ↦ known nil | Some v ↦ v ])
value_or_nil p None None h = same_known nil
value_or_nil p None (Some w) h = absurd h
value_or_nil p (Some v) None h = absurd h
value_or_nil p (Some v) (Some w) h = h

pub nth_same : (p : Pairs) (vs ws : List Value) (n : ℕ) → SameValues p vs ws → SameValue p (nth vs n) (nth ws n)
nth_same p vs ws n h = value_or_nil p (slice_get vs n) (slice_get ws n) (zip_get (SameValue p) vs ws n h)

-- where the machine is

pub record SameStack (p : Pairs) (s t : Stack) : Type 0 where
  pub coroutine : SameNumber p a_coroutine s.coroutine t.coroutine
  pub frames : SameFrames p s.frames t.frames

pub record SamePlace (p : Pairs) (a b : Place) : Type 0 where
  pub stack : SameStack p a.stack b.stack
  pub number : a.number ≡ b.number
  pub top : SameLuaFrame p a.top b.top
  pub function : SameFunction p a.function b.function

pub running_same : (p : Pairs) (c d : Coroutine) → SameCoroutine p c d → Each (SameFrames p) (running_frames c) (running_frames d)
running_same p c d (same_in_progress fs gs h) = h
running_same p c d _ = tt

pub frames_same : (p : Pairs) (c d : Coroutine) → SameCoroutine p c d → Each (SameFrames p) (frames_of c) (frames_of d)
frames_same p c d (same_suspended fs gs h) = h
frames_same p c d (same_in_progress fs gs h) = h
frames_same p c d (same_normal fs gs h) = h
frames_same p c d _ = tt

pub lua_frame_same : (p : Pairs) (f g : Frame) → SameFrame p f g → Each (SameLuaFrame p) (lua_frame f) (lua_frame g)
lua_frame_same p f g (same_lua x y h) = h
lua_frame_same p f g _ = tt

module _ (p : Pairs) (W X : World) (a : AgreeInTurn p W X) where
  pub coroutine_at : (i j : ℕ) → SameNumber p a_coroutine i j → Each (SameCoroutine p) (slice_get W.coroutines i) (slice_get X.coroutines j)
  coroutine_at i j h = both_each (SameCoroutine p) (slice_get W.coroutines i) (slice_get X.coroutines j) (a.objects.coroutines i j h)

  pub function_at : (i j : ℕ) → SameNumber p a_function i j → Each (SameFunction p) (slice_get W.functions i) (slice_get X.functions j)
  function_at i j h = both_each (SameFunction p) (slice_get W.functions i) (slice_get X.functions j) (a.objects.functions i j h)

  pub stack_same : Each (SameStack p) (stack_of W) (stack_of X)
  stack_same =
      each_bind (SameNumber p a_coroutine) (SameStack p) _ _
      (λ co co' at. each_bind (SameFrames p) (SameStack p) _ _ (λ fs gs h. record { coroutine = at; frames = h })
      (bind (slice_get W.coroutines co) running_frames) (bind (slice_get X.coroutines co') running_frames)
      (each_bind (SameCoroutine p) (SameFrames p) running_frames running_frames (running_same p) (slice_get W.coroutines co) (slice_get X.coroutines co') (coroutine_at co co' at)))
      (last W.chain) (last X.chain) (zip_last (SameNumber p a_coroutine) W.chain X.chain a.roots.chain)

  pub place_same : Each (SamePlace p) (place_of W) (place_of X)
  place_same =
      each_bind (SameStack p) (SamePlace p) _ _
      (λ s t b. each_bind (SameLuaFrame p) (SamePlace p) _ _
      (λ f g c. each_bind (SameFunction p) (SamePlace p) _ _
      (λ x y d. record { stack = b; number = ap (λ n. n - 1) (zip_length (SameFrame p) s.frames t.frames b.frames); top = c; function = d })
      (slice_get W.functions f.function) (slice_get X.functions g.function) (function_at f.function g.function c.function))
      (bind (last s.frames) lua_frame) (bind (last t.frames) lua_frame)
      (each_bind (SameFrame p) (SameLuaFrame p) lua_frame lua_frame (lua_frame_same p) (last s.frames) (last t.frames) (zip_last (SameFrame p) s.frames t.frames b.frames)))
      (stack_of W) (stack_of X) stack_same

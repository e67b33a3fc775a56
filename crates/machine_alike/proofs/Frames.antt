-- Worlds that agree, with other frames of the running coroutine, other cells, other heaps.
use Rattle.std.proofs.Common.{ℕ, zero, suc, ◌+◌, ◌≡◌, List, [], ◌∷◌, Option, Some, None, refl, subst, sym, ap, ◌∙◌, length, take, drop, Bool, false}
use Rattle.std.specs.Prelude.{slice_get, slice_set, nat_le}
use Rattle.code_core.specs.Prototype.{Prototype}
use Rattle.int_core.specs.Value.{a_function, a_coroutine, Value, nil, without_last, fitted}
use Rattle.int_core.specs.Limits.{greatest_depth}
use Rattle.int_core.specs.Heap.{Heap}
use Rattle.machine_core.specs.World.{Function, Cell, Wait, Frame, Coroutine, in_progress, World, Stack, stack_of, Place, put_frames, put_top, push, pop, write_cell, closed, open_at, write_in_coroutine}
use Rattle.machine_core.specs.Text.{Own}
use Rattle.machine_core.specs.Moves.{made, with_own, new_frame, push_all, has_room, popped}
use Rattle.machine_alike.specs.Agree.{Pairs, SameNumber, Each, SameValue, same_known, SameValues, SameFunction, SameWait, same_running, SameFrame, same_lua, SameFrames, SameCoroutine, same_in_progress, SameObjects, SameRoots, objects_of, roots_of, AgreeInTurn, Extends}
use Rattle.machine_alike.specs.Laws.{Alike}
use Rattle.machine_alike.proofs.Pairwise.{zip_append, zip_length, zip_take, zip_drop, zip_without_last, cond_rel}
use Rattle.machine_alike.proofs.Same.{SameStack, SamePlace, stack_same, values_on, roots_on, function_on, lua_frame_on, frames_on}
use Rattle.machine_alike.proofs.Operations.{SameHeap}
use Rattle.machine_alike.proofs.Cells.{set_coroutine_same, close_same}
use Rattle.machine_alike.proofs.OwnMoves.{done_same, cells_done_same}

-- V is W with other objects
pub record SameElse (W V : World) : Type 0 where
  pub roots : roots_of V ≡ roots_of W
  pub moving : V.moving ≡ W.moving
  pub printed : V.printed ≡ W.printed
  pub fuel : V.fuel ≡ W.fuel

-- worlds with other objects, where more may be paired
pub agree_grown : (p q : Pairs) (W X V Y : World) → Extends p q → AgreeInTurn p W X → SameElse W V → SameElse X Y → SameObjects q (objects_of V) (objects_of Y) → AgreeInTurn q V Y
agree_grown p q W X V Y e a l r o = record {
  objects = o;
  roots = subst (λ A. SameRoots q A (roots_of Y)) (sym l.roots) (subst (λ B. SameRoots q (roots_of W) B) (sym r.roots) (roots_on p q e W X a.roots));
  moving = subst (λ vs. SameValues q vs Y.moving) (sym l.moving) (subst (λ ws. SameValues q W.moving ws) (sym r.moving) (values_on p q e W.moving X.moving a.moving));
  printed = l.printed ∙ a.printed ∙ sym r.printed;
  fuel = l.fuel ∙ a.fuel ∙ sym r.fuel;
}

pub made_same : (p q : Pairs) (A : Type 0) (V Y : World) (vs ws : List Value) (t u : A) → Extends p q → AgreeInTurn q V Y → SameValues q vs ws → t ≡ u → Alike p A (made V vs t) (made Y ws u)
made_same p q A V Y vs ws t u e a s h = record { now = q; more = e; agree = a; values = s; told = h }

-- heaps

pub heap_of : (p : Pairs) (W X : World) → AgreeInTurn p W X → SameHeap p W.heap X.heap
heap_of p W X a = record { one_to_one = a.objects.one_to_one; tables = a.objects.tables; string_metatable = a.roots.string_metatable }

pub heap_agrees : (p : Pairs) (W X : World) (H I : Heap) → AgreeInTurn p W X → SameHeap p H I → AgreeInTurn p (record W { heap = H }) (record X { heap = I })
heap_agrees p W X H I a h = record {
  objects = record { one_to_one = a.objects.one_to_one; tables = h.tables; functions = a.objects.functions; coroutines = a.objects.coroutines; cells = a.objects.cells; one_each = a.objects.one_each };
  roots = record { globals = a.roots.globals; string_metatable = h.string_metatable; prelude_environment = a.roots.prelude_environment; prelude_functions = a.roots.prelude_functions; special_key = a.roots.special_key; max_depth = a.roots.max_depth; main = a.roots.main; chain = a.roots.chain };
  moving = a.moving;
  printed = a.printed;
  fuel = a.fuel;
}

pub moving_agrees : (p : Pairs) (W X : World) (vs ws : List Value) → AgreeInTurn p W X → SameValues p vs ws → AgreeInTurn p (record W { moving = vs }) (record X { moving = ws })
moving_agrees p W X vs ws a s = record { objects = a.objects; roots = a.roots; moving = s; printed = a.printed; fuel = a.fuel }

pub fuel_agrees : (p : Pairs) (W X : World) (m n : ℕ) → AgreeInTurn p W X → m ≡ n → AgreeInTurn p (record W { fuel = m }) (record X { fuel = n })
fuel_agrees p W X m n a e = record { objects = a.objects; roots = a.roots; moving = a.moving; printed = a.printed; fuel = e }

pub cells_agree : (p : Pairs) (W X : World) (cs ds : List Cell) → AgreeInTurn p W X → SameObjects p (record (objects_of W) { cells = cs }) (record (objects_of X) { cells = ds }) → AgreeInTurn p (record W { cells = cs }) (record X { cells = ds })
cells_agree p W X cs ds a o = record { objects = o; roots = a.roots; moving = a.moving; printed = a.printed; fuel = a.fuel }

pub coroutine_agrees : (p : Pairs) (W X : World) (co co' : ℕ) (c d : Coroutine) → AgreeInTurn p W X → SameNumber p a_coroutine co co' → SameCoroutine p c d → AgreeInTurn p (record W { coroutines = slice_set W.coroutines co c }) (record X { coroutines = slice_set X.coroutines co' d })
coroutine_agrees p W X co co' c d a at h = record { objects = set_coroutine_same p (objects_of W) (objects_of X) co co' c d a.objects at h; roots = a.roots; moving = a.moving; printed = a.printed; fuel = a.fuel }

-- frames

pub put_frames_same : (p : Pairs) (W X : World) (co co' : ℕ) (fs gs : List Frame) → AgreeInTurn p W X → SameNumber p a_coroutine co co' → SameFrames p fs gs → AgreeInTurn p (put_frames W co fs) (put_frames X co' gs)
unfolding put_frames
put_frames_same p W X co co' fs gs a at h = coroutine_agrees p W X co co' (in_progress fs) (in_progress gs) a at (same_in_progress fs gs h)

pub put_top_same : (p : Pairs) (W X : World) (s t : Stack) (f g : Frame) → AgreeInTurn p W X → SameStack p s t → SameFrame p f g → AgreeInTurn p (put_top W s f) (put_top X t g)
unfolding put_top
put_top_same p W X s t f g a b h =
    put_frames_same p W X s.coroutine t.coroutine _ _ a b.coroutine (zip_append (SameFrame p) (without_last s.frames) (without_last t.frames) (f ∷ []) (g ∷ []) (zip_without_last (SameFrame p) s.frames t.frames b.frames) (h, tt))

pub push_same : (p : Pairs) (W X : World) (s t : Stack) (f g : Frame) → AgreeInTurn p W X → SameStack p s t → SameFrame p f g → AgreeInTurn p (push W s f) (push X t g)
unfolding push
push_same p W X s t f g a b h = put_frames_same p W X s.coroutine t.coroutine _ _ a b.coroutine (zip_append (SameFrame p) s.frames t.frames (f ∷ []) (g ∷ []) b.frames (h, tt))

pub pop_same : (p : Pairs) (W X : World) (s t : Stack) → AgreeInTurn p W X → SameStack p s t → AgreeInTurn p (pop W s) (pop X t)
unfolding pop
pop_same p W X s t a b = put_frames_same p W X s.coroutine t.coroutine _ _ a b.coroutine (zip_without_last (SameFrame p) s.frames t.frames b.frames)

-- the place on the right with the code and the number of the left one, which are the same
abbrev pub aligned : Place → Place → Place
aligned a b = record { stack = b.stack; number = a.number; top = b.top; function = record { code = a.function.code; cells = b.function.cells } }

pub align : (p : Pairs) (Q : Place → Type 0) (a b : Place) → SamePlace p a b → Q (aligned a b) → Q b
align p Q a b h x =
    let y : Q (record b { function = record b.function { code = a.function.code } }) =
    subst (λ n. Q (record b { number = n; function = record b.function { code = a.function.code } })) h.number x in
    subst (λ c. Q (record b { function = record b.function { code = c } })) h.function.code y

pub stack_on : (p q : Pairs) → Extends p q → (s t : Stack) → SameStack p s t → SameStack q s t
stack_on p q e s t h = record { coroutine = e.objects a_coroutine s.coroutine t.coroutine h.coroutine; frames = frames_on p q e s.frames t.frames h.frames }

pub place_on : (p q : Pairs) → Extends p q → (a b : Place) → SamePlace p a b → SamePlace q a b
place_on p q e a b h = record { stack = stack_on p q e a.stack b.stack h.stack; number = h.number; top = lua_frame_on p q e a.top b.top h.top; function = function_on p q e a.function b.function h.function }

with_own_aligned : (p : Pairs) (W X : World) (a b : Place) (v w : Wait Value) (ms : List Own) (env other : List Value) → AgreeInTurn p W X → SamePlace p a b → SameWait p v w → SameValues p env other → AgreeInTurn p (with_own W a v ms env) (with_own X (aligned a b) w ms other)
unfolding with_own
with_own_aligned p W X a b v w ms env other g h wait s =
    put_top_same p _ _ a.stack b.stack _ _
    (cells_agree p W X _ _ g (cells_done_same p ms a.function.code (objects_of W) (objects_of X) a.stack.coroutine b.stack.coroutine a.number env other a.top.own b.top.own g.objects h.stack.coroutine s h.top.own))
    h.stack (same_lua _ _ (record { function = h.top.function; wait = wait; own = done_same p ms a.function.code env other a.top.own b.top.own s h.top.own }))

pub with_own_same : (p : Pairs) (W X : World) (a b : Place) (v w : Wait Value) (ms : List Own) (env other : List Value) → AgreeInTurn p W X → SamePlace p a b → SameWait p v w → SameValues p env other → AgreeInTurn p (with_own W a v ms env) (with_own X b w ms other)
with_own_same p W X a b v w ms env other g h wait s = align p (λ b. AgreeInTurn p (with_own W a v ms env) (with_own X b w ms other)) a b h (with_own_aligned p W X a b v w ms env other g h wait s)

-- new frames

fitted_same : (p : Pairs) (n : ℕ) (vs ws : List Value) → SameValues p vs ws → SameValues p (fitted n vs) (fitted n ws)
fitted_same p zero vs ws h = tt
fitted_same p (suc n) [] [] h = (same_known nil, fitted_same p n [] [] tt)
fitted_same p (suc n) [] (w ∷ ws) h = absurd h
fitted_same p (suc n) (v ∷ vs) [] h = absurd h
fitted_same p (suc n) (v ∷ vs) (w ∷ ws) h = (h.0, fitted_same p n vs ws h.1)

frame_by : (p : Pairs) (n m : ℕ) (code : Prototype) (vs ws : List Value) → SameNumber p a_function n m → SameValues p vs ws → SameFrame p (new_frame n code vs) (new_frame m code ws)
frame_by p n m code vs ws h s = same_lua _ _ (record {
  function = h;
  wait = same_running;
  own = record {
    pc = refl;
    registers = fitted_same p code.own.stack (take code.own.params vs) (take code.own.params ws) (zip_take (SameValue p) code.own.params vs ws s);
    varargs = cond_rel (SameValues p) code.own.vararg code.own.vararg (drop code.own.params vs) [] (drop code.own.params ws) [] refl (zip_drop (SameValue p) code.own.params vs ws s) tt;
    pending = refl;
    opened = refl;
  };
})

pub new_frame_same : (p : Pairs) (n m : ℕ) (f g : Function) (vs ws : List Value) → SameNumber p a_function n m → SameFunction p f g → SameValues p vs ws → SameFrame p (new_frame n f.code vs) (new_frame m g.code ws)
new_frame_same p n m f g vs ws h k s = subst (λ c. SameFrame p (new_frame n f.code vs) (new_frame m c ws)) k.code (frame_by p n m f.code vs ws h s)

pub push_all_same : (p : Pairs) (fs gs : List Frame) (W X : World) → AgreeInTurn p W X → SameFrames p fs gs → AgreeInTurn p (push_all W fs) (push_all X gs)
push_all_same p [] [] W X a h = a
push_all_same p [] (g ∷ gs) W X a h = absurd h
push_all_same p (f ∷ fs) [] W X a h = absurd h
push_all_same p (f ∷ fs) (g ∷ gs) W X a h = by (stack_of W) (stack_of X) (stack_same p W X a) (λ s t b. push_all_same p fs gs (push W s f) (push X t g) (push_same p W X s t f g a b h.0) h.1)
  where
    by : (o o' : Option Stack) → Each (SameStack p) o o' → ((s t : Stack) → SameStack p s t → AgreeInTurn p (push_all (push W s f) fs) (push_all (push X t g) gs))
        → AgreeInTurn p (elim o [ None ↦ W | Some s ↦ push_all (push W s f) fs ]) (elim o' [ None ↦ X | Some s ↦ push_all (push X s g) gs ])
    by None None k on = a
    by None (Some t) k on = absurd k
    by (Some s) None k on = absurd k
    by (Some s) (Some t) k on = on s t k

abbrev room_by : ℕ → Option Stack → Bool
room_by count o = elim o [ None ↦ false | Some s ↦ nat_le (length s.frames + count) greatest_depth ]

pub has_room_same : (p : Pairs) (W X : World) (count : ℕ) → AgreeInTurn p W X → has_room W count ≡ has_room X count
has_room_same p W X count a = by (stack_of W) (stack_of X) (stack_same p W X a)
  where
    by : (o o' : Option Stack) → Each (SameStack p) o o' → room_by count o ≡ room_by count o'
    by None None k = refl
    by None (Some t) k = absurd k
    by (Some s) None k = absurd k
    by (Some s) (Some t) k = ap (λ n. nat_le (n + count) greatest_depth) (zip_length (SameFrame p) s.frames t.frames k.frames)

popped_aligned : (p : Pairs) (W X : World) (a b : Place) → AgreeInTurn p W X → SamePlace p a b → AgreeInTurn p (popped W a) (popped X (aligned a b))
unfolding popped
popped_aligned p W X a b g h =
    pop_same p _ _ a.stack b.stack (cells_agree p W X _ _ g (close_same p (objects_of W) (objects_of X) a.stack.coroutine b.stack.coroutine a.number 0 a.top.own.registers b.top.own.registers g.objects h.stack.coroutine h.top.own.registers)) h.stack

pub popped_same : (p : Pairs) (W X : World) (a b : Place) → AgreeInTurn p W X → SamePlace p a b → AgreeInTurn p (popped W a) (popped X b)
popped_same p W X a b g h = align p (λ b. AgreeInTurn p (popped W a) (popped X b)) a b h (popped_aligned p W X a b g h)

-- a written cell changes nothing else
pub written_else : (W : World) (i : ℕ) (c : Cell) (v : Value) → SameElse W (write_cell W i c v)
unfolding write_cell
written_else W i (closed w) v = record { roots = refl; moving = refl; printed = refl; fuel = refl }
written_else W i (open_at co f r) v = by (slice_get W.coroutines co)
  where
    by : (o : Option Coroutine) → SameElse W (elim o [ None ↦ W | Some c ↦ record W { coroutines = slice_set W.coroutines co (write_in_coroutine f r v c) } ])
    by None = record { roots = refl; moving = refl; printed = refl; fuel = refl }
    by (Some c) = record { roots = refl; moving = refl; printed = refl; fuel = refl }

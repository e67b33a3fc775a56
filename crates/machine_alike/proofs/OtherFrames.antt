-- Values on their way, and moves on frames that are no Lua functions', keep agreement.
use Rattle.std.proofs.Common.{ℕ, ◌≡◌, List, [], ◌∷◌, ◌++◌, Option, Some, None, refl, drop, Bool, true, false}
use Rattle.std.specs.Prelude.{reverse}
use Rattle.int_core.specs.Value.{nil, Value, Shape, bind, last, without_last, error_or_nil}
use Rattle.machine_core.specs.World.{Frame, closing, World, Stack, stack_of, put_top, pop}
use Rattle.machine_core.specs.Text.{Arg, arg, args_of}
use Rattle.machine_core.specs.Moves.{blamed, placed, Over, over_pcall, over_xpcall, over_handler, frame_over, Made, made, take_moving, look, give, give_with, blame, place_text, push_frame, call_value, see_top, see_catcher, pop_frame, take_closing, set_error, TopShape, ClosingShape, one_left, all_closed, closed_with_error, has_room, handler_value, catcher, top_now, next_closing, with_error}
use Rattle.machine_alike.specs.Agree.{Pairs, Each, SameValue, same_known, SameValues, SameFrame, same_lua, same_pcall, same_xpcall, same_handler, same_closing, SameFrames, AgreeInTurn}
use Rattle.machine_alike.specs.Laws.{MadeAlike, Alike, Keeps}
use Rattle.machine_alike.proofs.Pairwise.{each_bind, zip_reverse, zip_last, zip_append, zip_drop, zip_without_last, cond_rel}
use Rattle.machine_alike.proofs.Same.{SameStack, stack_same, extends_self, shape_same}
use Rattle.machine_alike.proofs.OwnMoves.{arg_same, args_same}
use Rattle.machine_alike.proofs.Frames.{made_same, moving_agrees, put_top_same, pop_same, push_all_same, has_room_same}
use Rattle.machine_alike.proofs.Calls.{placed_same, called_same, blamed_same, top_shape_same, top_same}

-- a move at the stack of the machine
pub on_stack : (p : Pairs) (A : Type 0) (W X : World) (f g : Stack → Option (Made A)) → AgreeInTurn p W X → ((s t : Stack) → SameStack p s t → Alike p A (f s) (g t)) → Alike p A (bind (stack_of W) f) (bind (stack_of X) g)
on_stack p A W X f g a h = each_bind (SameStack p) (MadeAlike p A) f g h (stack_of W) (stack_of X) (stack_same p W X a)

-- what moves

pub take_moving_keeps : Keeps take_moving
take_moving_keeps p env other W X s g = made_same p p (Unit {0}) _ _ W.moving X.moving tt tt (extends_self p) (moving_agrees p W X [] [] g tt) g.moving refl

pub look_keeps : (x : Arg) → Keeps (look x)
look_keeps x p env other W X s g = made_same p p Shape W X [] [] _ _ (extends_self p) g tt (shape_same p (arg env x) (arg other x) (arg_same p env other x s))

pub give_keeps : (xs : List Arg) → Keeps (give xs)
give_keeps xs p env other W X s g = made_same p p (Unit {0}) _ _ [] [] tt tt (extends_self p) (moving_agrees p W X (args_of env xs) (args_of other xs) g (args_same p env other xs s)) tt refl

pub give_with_keeps : (xs : List Arg) (slot : ℕ) → Keeps (give_with xs slot)
give_with_keeps xs slot p env other W X s g =
    made_same p p (Unit {0}) _ _ [] [] tt tt (extends_self p)
    (moving_agrees p W X (args_of env xs ++ drop slot env) (args_of other xs ++ drop slot other) g
    (zip_append (SameValue p) (args_of env xs) (args_of other xs) (drop slot env) (drop slot other) (args_same p env other xs s) (zip_drop (SameValue p) slot env other s)))
    tt refl

pub blame_keeps : (text : List ℕ) → Keeps (blame text)
blame_keeps text p env other W X s g = made_same p p (Unit {0}) _ _ [] [] tt tt (extends_self p) (moving_agrees p W X (blamed W text ∷ []) (blamed X text ∷ []) g (blamed_same p W X text g, tt)) tt refl

pub place_text_keeps : (x : Arg) (level : ℕ) → Keeps (place_text x level)
place_text_keeps x level p env other W X s g = made_same p p (Unit {0}) W X (placed W level (arg env x) ∷ []) (placed X level (arg other x) ∷ []) tt tt (extends_self p) g (placed_same p W X level (arg env x) (arg other x) g (arg_same p env other x s), tt) refl

-- new frames, and calls over them

over_same : (p : Pairs) (over : Over) (env other : List Value) → SameValues p env other → SameFrame p (frame_over over env) (frame_over over other)
over_same p over_pcall env other s = same_pcall
over_same p (over_xpcall h) env other s = same_xpcall (arg env h) (arg other h) (arg_same p env other h s)
over_same p over_handler env other s = same_handler

pub push_frame_keeps : (over : Over) → Keeps (push_frame over)
push_frame_keeps over p env other W X s g =
    cond_rel (Alike p Bool) (has_room W 1) (has_room X 1) _ _ _ _ (has_room_same p W X 1 g)
    (made_same p p Bool _ _ [] [] true true (extends_self p) (push_all_same p (frame_over over env ∷ []) (frame_over over other ∷ []) W X g (over_same p over env other s, tt)) tt refl)
    (made_same p p Bool W X [] [] false false (extends_self p) g tt refl)

pub call_value_keeps : (f : Arg) (slot : ℕ) → Keeps (call_value f slot)
call_value_keeps f slot p env other W X s g = called_same p W X W X (arg env f) (arg other f) (drop slot env) (drop slot other) g g (arg_same p env other f s) (zip_drop (SameValue p) slot env other s)

-- what is on top

pub see_top_keeps : Keeps see_top
see_top_keeps p env other W X s g = each_bind (λ t u. t ≡ u) (MadeAlike p TopShape) _ _ (λ t u e. made_same p p TopShape W X [] [] t u (extends_self p) g tt e) (top_now W) (top_now X) (top_same p W X g)

catcher_same : (p : Pairs) (fs gs : List Frame) → SameFrames p fs gs → Each (SameFrame p) (catcher fs) (catcher gs)
catcher_same p [] [] h = tt
catcher_same p [] (g ∷ gs) h = absurd h
catcher_same p (f ∷ fs) [] h = absurd h
catcher_same p (f ∷ fs) (g ∷ gs) h = by f g h.0 (catcher_same p fs gs h.1)
  where
    by : (f g : Frame) → SameFrame p f g → Each (SameFrame p) (catcher fs) (catcher gs) → Each (SameFrame p) (catcher (f ∷ fs)) (catcher (g ∷ gs))
    by f g (same_lua x y k) r = r
    by f g same_pcall r = same_pcall
    by f g (same_xpcall v w k) r = same_xpcall v w k
    by f g same_handler r = same_handler
    by f g (same_closing v w vs ws k l) r = same_closing v w vs ws k l

handler_value_same : (p : Pairs) (o o' : Option Frame) → Each (SameFrame p) o o' → SameValues p (handler_value o) (handler_value o')
handler_value_same p None None k = tt
handler_value_same p None (Some g) k = absurd k
handler_value_same p (Some f) None k = absurd k
handler_value_same p (Some f) (Some g) (same_lua x y h) = tt
handler_value_same p (Some f) (Some g) same_pcall = tt
handler_value_same p (Some f) (Some g) (same_xpcall v w h) = (h, tt)
handler_value_same p (Some f) (Some g) same_handler = tt
handler_value_same p (Some f) (Some g) (same_closing v w vs ws h k) = tt

pub see_catcher_keeps : Keeps see_catcher
see_catcher_keeps p env other W X s g = on_stack p TopShape W X _ _ g
    (λ x y b.
    let c = catcher_same p (reverse x.frames) (reverse y.frames) (zip_reverse (SameFrame p) x.frames y.frames b.frames) in
    made_same p p TopShape W X _ _ _ _ (extends_self p) g (handler_value_same p (catcher (reverse x.frames)) (catcher (reverse y.frames)) c) (top_shape_same p W X g (catcher (reverse x.frames)) (catcher (reverse y.frames)) c))

pub pop_keeps : Keeps pop_frame
pop_keeps p env other W X s g = on_stack p (Unit {0}) W X _ _ g (λ x y b. made_same p p (Unit {0}) (pop W x) (pop X y) [] [] tt tt (extends_self p) (pop_same p W X x y g b) tt refl)

-- closing frames

error_same : (p : Pairs) (e f : Option Value) → Each (SameValue p) e f → SameValue p (error_or_nil e) (error_or_nil f)
error_same p None None h = same_known nil
error_same p None (Some w) h = absurd h
error_same p (Some v) None h = absurd h
error_same p (Some v) (Some w) h = h

all_closed_same : (p : Pairs) (W X : World) (e f : Option Value) → AgreeInTurn p W X → Each (SameValue p) e f → Alike p ClosingShape
    (elim e [ None ↦ made W [] all_closed | Some v ↦ made W (v ∷ []) closed_with_error ]) (elim f [ None ↦ made X [] all_closed | Some v ↦ made X (v ∷ []) closed_with_error ])
all_closed_same p W X None None a h = made_same p p ClosingShape W X [] [] all_closed all_closed (extends_self p) a tt refl
all_closed_same p W X None (Some w) a h = absurd h
all_closed_same p W X (Some v) None a h = absurd h
all_closed_same p W X (Some v) (Some w) a h = made_same p p ClosingShape W X (v ∷ []) (w ∷ []) closed_with_error closed_with_error (extends_self p) a (h, tt) refl

one_closed_same : (p : Pairs) (W X : World) (s t : Stack) (e f : Option Value) (vs ws : List Value) (o o' : Option Value) → AgreeInTurn p W X → SameStack p s t → Each (SameValue p) e f → SameValues p vs ws → Each (SameValue p) o o' → Alike p ClosingShape
    (elim o [ None ↦ None | Some x ↦ made (put_top W s (closing e (without_last vs))) (x ∷ error_or_nil e ∷ []) one_left ]) (elim o' [ None ↦ None | Some x ↦ made (put_top X t (closing f (without_last ws))) (x ∷ error_or_nil f ∷ []) one_left ])
one_closed_same p W X s t e f vs ws None None a b h k l = tt
one_closed_same p W X s t e f vs ws None (Some y) a b h k l = absurd l
one_closed_same p W X s t e f vs ws (Some x) None a b h k l = absurd l
one_closed_same p W X s t e f vs ws (Some x) (Some y) a b h k l =
    made_same p p ClosingShape _ _ (x ∷ error_or_nil e ∷ []) (y ∷ error_or_nil f ∷ []) one_left one_left (extends_self p)
    (put_top_same p W X s t _ _ a b (same_closing e f (without_last vs) (without_last ws) h (zip_without_last (SameValue p) vs ws k))) (l, (error_same p e f h, tt)) refl

next_closing_same : (p : Pairs) (W X : World) (s t : Stack) → AgreeInTurn p W X → SameStack p s t → (f g : Frame) → SameFrame p f g → Alike p ClosingShape (next_closing W s f) (next_closing X t g)
next_closing_same p W X s t a b f g (same_closing v w vs ws h k) = by vs ws k
  where
    by : (vs ws : List Value) → SameValues p vs ws → Alike p ClosingShape (next_closing W s (closing v vs)) (next_closing X t (closing w ws))
    by [] [] k = all_closed_same p W X v w a h
    by [] (y ∷ ws) k = absurd k
    by (x ∷ vs) [] k = absurd k
    by (x ∷ vs) (y ∷ ws) k = one_closed_same p W X s t v w (x ∷ vs) (y ∷ ws) (last (x ∷ vs)) (last (y ∷ ws)) a b h k (zip_last (SameValue p) (x ∷ vs) (y ∷ ws) k)
next_closing_same p W X s t a b f g _ = tt

pub take_closing_keeps : Keeps take_closing
take_closing_keeps p env other W X s g = on_stack p ClosingShape W X _ _ g
    (λ x y b. each_bind (SameFrame p) (MadeAlike p ClosingShape) (next_closing W x) (next_closing X y) (next_closing_same p W X x y g b) (last x.frames) (last y.frames) (zip_last (SameFrame p) x.frames y.frames b.frames))

with_error_same : (p : Pairs) (W X : World) (s t : Stack) (d e : Value) → AgreeInTurn p W X → SameStack p s t → SameValue p d e → (f g : Frame) → SameFrame p f g → Alike p (Unit {0}) (with_error W s f d) (with_error X t g e)
with_error_same p W X s t d e a b r f g (same_closing v w vs ws h k) = made_same p p (Unit {0}) _ _ [] [] tt tt (extends_self p) (put_top_same p W X s t _ _ a b (same_closing (Some d) (Some e) vs ws r k)) tt refl
with_error_same p W X s t d e a b r f g _ = tt

pub set_error_keeps : (x : Arg) → Keeps (set_error x)
set_error_keeps x p env other W X s g = on_stack p (Unit {0}) W X _ _ g
    (λ a b h. each_bind (SameFrame p) (MadeAlike p (Unit {0})) _ _ (with_error_same p W X a b (arg env x) (arg other x) g h (arg_same p env other x s)) (last a.frames) (last b.frames) (zip_last (SameFrame p) a.frames b.frames h.frames))

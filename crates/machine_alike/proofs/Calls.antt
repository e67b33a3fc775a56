-- Calls, errors of a frame's own step, and frames that are left keep agreement.
use Rattle.std.proofs.Common.{ℕ, zero, suc, ◌≡◌, List, [], ◌∷◌, ◌++◌, Option, Some, None, refl, subst, ap, ◌∙◌, drop, Bool, not, cond}
use Rattle.std.specs.Prelude.{slice_get, nat_eq, reverse, filter_map, codes, decimal}
use Rattle.code_core.specs.Prototype.{Prototype}
use Rattle.int_core.specs.Limits.{limited, source_name, stack_overflow, string_fits}
use Rattle.int_core.specs.Value.{nil, boolean, integer, string, primitive, a_function, a_coroutine, Value, known, bind, last}
use Rattle.int_core.specs.Operations.{Callee, callee_of, greatest_chain, handler_in, of_close}
use Rattle.machine_core.specs.World.{Function, Wait, running, for_call, for_iterator, for_value, for_truth, dropped, for_concat, for_close, returning, leaving, LuaFrame, Frame, lua, World, Stack, stack_of, Place}
use Rattle.machine_core.specs.Text.{Arg, arg, Own, close_cells, keep_pending, Given, results, thrown, given_values}
use Rattle.machine_core.specs.Moves.{line_of, frame_place, where_text, placed, blamed, made, enter, enter_tail, await, find_close, is_closable, begin_leaving, leave_frame, CallShape, is_entered, is_primitive, not_paid, not_entered, TopShape, no_top, named, new_frame, has_room, enters, enters_paid, called, popped, called_tail, runs_main, top_shape, top_now}
use Rattle.machine_alike.specs.Agree.{Pairs, SameNumber, Each, SameValue, same_known, same_object, SameValues, SameFunction, SameWait, same_running, same_for_call, same_for_iterator, same_for_value, same_for_truth, same_dropped, same_for_concat, same_for_close, same_returning, same_leaving, SameLuaFrame, SameFrame, same_lua, same_pcall, same_xpcall, same_handler, same_closing, AgreeInTurn}
use Rattle.machine_alike.specs.Laws.{MadeAlike, Alike, Keeps}
use Rattle.machine_alike.proofs.Pairwise.{each_bind, zip_found, zip_reverse, zip_last, zip_length, zip_drop, cond_rel}
use Rattle.machine_alike.proofs.Same.{SameStack, SamePlace, stack_same, function_at, extends_self}
use Rattle.machine_alike.proofs.Tables.{nil_same}
use Rattle.machine_alike.proofs.Operations.{SameCallee, both_callee, both_not_callable, callee_same, handler_same}
use Rattle.machine_alike.proofs.OwnMoves.{arg_same}
use Rattle.machine_alike.proofs.Frames.{made_same, heap_of, moving_agrees, fuel_agrees, with_own_same, new_frame_same, push_all_same, has_room_same, popped_same}
use Rattle.machine_alike.proofs.OwnFrame.{on_place}

-- a function that can be entered

pub enters_same : (p : Pairs) (W X : World) (f g : Value) (vs ws : List Value) → AgreeInTurn p W X → SameValue p f g → SameValues p vs ws → Alike p CallShape (enters W f vs) (enters X g ws)
enters_same p W X f g vs ws a (same_known (primitive n)) s = made_same p p CallShape _ _ [] [] (is_primitive n) (is_primitive n) (extends_self p) (moving_agrees p W X vs ws a s) tt refl
enters_same p W X f g vs ws a (same_object a_function i j h) s =
    each_bind (SameFunction p) (MadeAlike p CallShape) _ _
    (λ x y k. cond_rel (Alike p CallShape) (has_room W 1) (has_room X 1) _ _ _ _ (has_room_same p W X 1 a)
    (made_same p p CallShape _ _ [] [] is_entered is_entered (extends_self p) (push_all_same p (new_frame i x.code vs ∷ []) (new_frame j y.code ws ∷ []) W X a (new_frame_same p i j x y vs ws h k s, tt)) tt refl)
    (made_same p p CallShape W X [] [] (not_entered stack_overflow) (not_entered stack_overflow) (extends_self p) a tt refl))
    (slice_get W.functions i) (slice_get X.functions j) (function_at p W X a i j h)
enters_same p W X f g vs ws a _ s = tt

-- W and X as they were, V and Y made ready
paid_same : (p : Pairs) (W X V Y : World) (f g : Value) (vs ws : List Value) (m n : ℕ) → m ≡ n → AgreeInTurn p W X → AgreeInTurn p V Y → SameValue p f g → SameValues p vs ws → Alike p CallShape
    (elim m [ zero ↦ made W [] not_paid | suc fuel ↦ enters (record V { fuel = fuel }) f vs ]) (elim n [ zero ↦ made X [] not_paid | suc fuel ↦ enters (record Y { fuel = fuel }) g ws ])
paid_same p W X V Y f g vs ws zero zero e a b s t = made_same p p CallShape W X [] [] not_paid not_paid (extends_self p) a tt refl
paid_same p W X V Y f g vs ws zero (suc n) e a b s t = absurd (cc)
paid_same p W X V Y f g vs ws (suc m) zero e a b s t = absurd (cc)
paid_same p W X V Y f g vs ws (suc m) (suc n) e a b s t = enters_same p _ _ f g vs ws (fuel_agrees p V Y m n b (cc)) s t

enters_paid_same : (p : Pairs) (W X V Y : World) (x y : Callee) → AgreeInTurn p W X → AgreeInTurn p V Y → SameCallee p x y → Alike p CallShape (enters_paid W V x) (enters_paid X Y y)
enters_paid_same p W X V Y x y a b (both_not_callable text) = made_same p p CallShape V Y [] [] (not_entered text) (not_entered text) (extends_self p) b tt refl
enters_paid_same p W X V Y x y a b (both_callee f g vs ws s t) = paid_same p W X V Y f g vs ws W.fuel X.fuel a.fuel a b s t

pub called_same : (p : Pairs) (W X V Y : World) (f g : Value) (vs ws : List Value) → AgreeInTurn p W X → AgreeInTurn p V Y → SameValue p f g → SameValues p vs ws → Alike p CallShape (called W V f vs) (called X Y g ws)
called_same p W X V Y f g vs ws a b s t = enters_paid_same p W X V Y (callee_of greatest_chain W.heap f vs) (callee_of greatest_chain X.heap g ws) a b (callee_same p greatest_chain W.heap X.heap f g vs ws (heap_of p W X a) s t)

called_tail_same : (p : Pairs) (W X : World) (a b : Place) (x y : Callee) → AgreeInTurn p W X → SamePlace p a b → SameCallee p x y → Alike p CallShape (called_tail W a x) (called_tail X b y)
called_tail_same p W X a b x y g h (both_not_callable text) = made_same p p CallShape W X [] [] (not_entered text) (not_entered text) (extends_self p) g tt refl
called_tail_same p W X a b x y g h (both_callee f k vs ws s t) = paid_same p W X (popped W a) (popped X b) f k vs ws W.fuel X.fuel g.fuel g (popped_same p W X a b g h) s t

named_same : (p : Pairs) (env other : List Value) (wait : Wait Arg) → SameValues p env other → SameWait p (named env wait) (named other wait)
named_same p env other running s = same_running
named_same p env other for_call s = same_for_call
named_same p env other for_iterator s = same_for_iterator
named_same p env other for_value s = same_for_value
named_same p env other for_truth s = same_for_truth
named_same p env other dropped s = same_dropped
named_same p env other (for_concat left) s = same_for_concat left
named_same p env other for_close s = same_for_close
named_same p env other (returning count) s = same_returning count
named_same p env other (leaving x) s = same_leaving (arg env x) (arg other x) (arg_same p env other x s)

pub enter_keeps : (f : Arg) (slot : ℕ) (wait : Wait Arg) (prepared : List Own) → Keeps (enter f slot wait prepared)
enter_keeps f slot wait prepared p env other W X s g = on_place p CallShape W X _ _ g
    (λ a b h. called_same p W X _ _ (arg env f) (arg other f) (drop slot env) (drop slot other) g
    (with_own_same p W X a b (named env wait) (named other wait) prepared env other g h (named_same p env other wait s) s) (arg_same p env other f s) (zip_drop (SameValue p) slot env other s))

pub enter_tail_keeps : (f : Arg) (slot : ℕ) → Keeps (enter_tail f slot)
enter_tail_keeps f slot p env other W X s g = on_place p CallShape W X _ _ g
    (λ a b h. called_tail_same p W X a b (callee_of greatest_chain W.heap (arg env f) (drop slot env)) (callee_of greatest_chain X.heap (arg other f) (drop slot other)) g h
    (callee_same p greatest_chain W.heap X.heap (arg env f) (arg other f) (drop slot env) (drop slot other) (heap_of p W X g) (arg_same p env other f s) (zip_drop (SameValue p) slot env other s)))

-- closing methods

closer_same : (p : Pairs) (W X : World) (v w : Value) → AgreeInTurn p W X → SameValue p v w → SameValue p (handler_in W.heap of_close v) (handler_in X.heap of_close w)
closer_same p W X v w a s = handler_same p W.heap X.heap of_close v w (heap_of p W X a) s

pub find_close_keeps : (v e : Arg) → Keeps (find_close v e)
find_close_keeps v e p env other W X s g =
    made_same p p (Unit {0}) W X (handler_in W.heap of_close (arg env v) ∷ arg env v ∷ arg env e ∷ []) (handler_in X.heap of_close (arg other v) ∷ arg other v ∷ arg other e ∷ []) tt tt (extends_self p) g
    (closer_same p W X (arg env v) (arg other v) g (arg_same p env other v s), (arg_same p env other v s, (arg_same p env other e s, tt))) refl

pub is_closable_keeps : (v : Arg) → Keeps (is_closable v)
is_closable_keeps v p env other W X s g =
    made_same p p Bool W X [] [] _ _ (extends_self p) g tt (ap not (nil_same p g.objects.one_to_one _ _ (closer_same p W X (arg env v) (arg other v) g (arg_same p env other v s))))

-- where an error was raised

abbrev place_text : Prototype → ℕ → Option (List ℕ)
place_text code pc = bind code.own.source (λ name. bind (line_of code pc) (λ line. Some (source_name name ++ codes ":" ++ decimal line ++ codes ": ")))

lua_place : (p : Pairs) (W X : World) (f g : LuaFrame) → AgreeInTurn p W X → SameLuaFrame p f g → frame_place W (lua f) ≡ frame_place X (lua g)
lua_place p W X f g a h = by (slice_get W.functions f.function) (slice_get X.functions g.function) (function_at p W X a f.function g.function h.function)
  where
    by : (o o' : Option Function) → Each (SameFunction p) o o' → bind o (λ x. place_text x.code f.own.pc) ≡ bind o' (λ x. place_text x.code g.own.pc)
    by None None k = refl
    by None (Some y) k = absurd k
    by (Some x) None k = absurd k
    by (Some x) (Some y) k = ap (λ code. place_text code f.own.pc) k.code ∙ ap (place_text y.code) h.own.pc

place_same_text : (p : Pairs) (W X : World) → AgreeInTurn p W X → (f g : Frame) → SameFrame p f g → frame_place W f ≡ frame_place X g
place_same_text p W X a f g (same_lua x y h) = lua_place p W X x y a h
place_same_text p W X a f g _ = refl

abbrev where_by : World → ℕ → Option Stack → List ℕ
where_by W level o = elim (bind o (λ s. slice_get (filter_map (frame_place W) (reverse s.frames)) level)) [ None ↦ [] | Some text ↦ text ]

where_same : (p : Pairs) (W X : World) (level : ℕ) → AgreeInTurn p W X → where_text W level ≡ where_text X level
where_same p W X level a = by (stack_of W) (stack_of X) (stack_same p W X a)
  where
    by : (o o' : Option Stack) → Each (SameStack p) o o' → where_by W level o ≡ where_by X level o'
    by None None k = refl
    by None (Some t) k = absurd k
    by (Some s) None k = absurd k
    by (Some s) (Some t) k =
        ap (λ texts. elim (slice_get texts level) [ None ↦ [] | Some text ↦ text ])
        (zip_found (SameFrame p) (frame_place W) (frame_place X) (place_same_text p W X a) (reverse s.frames) (reverse t.frames) (zip_reverse (SameFrame p) s.frames t.frames k.frames))

pub blamed_same : (p : Pairs) (W X : World) (text : List ℕ) → AgreeInTurn p W X → SameValue p (blamed W text) (blamed X text)
blamed_same p W X text a =
    let e : blamed W text ≡ blamed X text = ap (λ front. known (string (cond (string_fits (front ++ text)) (front ++ text) (codes "resulting string too large")))) (where_same p W X 0 a) in
    subst (λ v. SameValue p (blamed W text) v) e (same_known (string (cond (string_fits (where_text W 0 ++ text)) (where_text W 0 ++ text) (codes "resulting string too large"))))

pub placed_same : (p : Pairs) (W X : World) (level : ℕ) (v w : Value) → AgreeInTurn p W X → SameValue p v w → SameValue p (placed W level v) (placed X level w)
placed_same p W X level v w a (same_known (string text)) =
    let e : limited (where_text W level ++ text) ≡ limited (where_text X level ++ text) = ap (λ front. limited (front ++ text)) (where_same p W X level a) in
    subst (λ v. SameValue p (limited (where_text W level ++ text)) v) e (same_known (string (cond (string_fits (where_text W level ++ text)) (where_text W level ++ text) (codes "resulting string too large"))))
placed_same p W X level v w a (same_known nil) = same_known nil
placed_same p W X level v w a (same_known (boolean b)) = same_known (boolean b)
placed_same p W X level v w a (same_known (integer n)) = same_known (integer n)
placed_same p W X level v w a (same_known (primitive n)) = same_known (primitive n)
placed_same p W X level v w a (same_object kind i j h) = same_object kind i j h

pub await_keeps : (f : Arg) (slot : ℕ) (wait : Wait Arg) (prepared : List Own) → Keeps (await f slot wait prepared)
await_keeps f slot wait prepared p env other W X s g = on_place p (Unit {0}) W X _ _ g
    (λ a b h. made_same p p (Unit {0}) _ _ [] [] tt tt (extends_self p)
    (moving_agrees p _ _ (arg env f ∷ drop slot env) (arg other f ∷ drop slot other)
    (with_own_same p W X a b (named env wait) (named other wait) prepared env other g h (named_same p env other wait s) s) (arg_same p env other f s, zip_drop (SameValue p) slot env other s))
    tt refl)

pub begin_leaving_keeps : (text : List ℕ) → Keeps (begin_leaving text)
begin_leaving_keeps text p env other W X s g = on_place p (Unit {0}) W X _ _ g
    (λ a b h.
    let e = blamed_same p W X text g in
    made_same p p (Unit {0}) _ _ [] [] tt tt (extends_self p)
    (moving_agrees p _ _ (blamed W text ∷ []) (blamed X text ∷ [])
    (with_own_same p W X a b (leaving (blamed W text)) (leaving (blamed X text)) (close_cells 0 ∷ keep_pending ∷ []) [] [] g h (same_leaving (blamed W text) (blamed X text) e) tt) (e, tt))
    tt refl)

-- what is on top

pub main_same : (p : Pairs) (W X : World) → AgreeInTurn p W X → runs_main W ≡ runs_main X
main_same p W X a = ap (λ n. nat_eq n 1) (zip_length (SameNumber p a_coroutine) W.chain X.chain a.roots.chain)

pub top_shape_same : (p : Pairs) (W X : World) → AgreeInTurn p W X → (o o' : Option Frame) → Each (SameFrame p) o o' → top_shape W o ≡ top_shape X o'
top_shape_same p W X a None None k = ap no_top (main_same p W X a)
top_shape_same p W X a None (Some g) k = absurd k
top_shape_same p W X a (Some f) None k = absurd k
top_shape_same p W X a (Some f) (Some g) (same_lua x y h) = refl
top_shape_same p W X a (Some f) (Some g) same_pcall = refl
top_shape_same p W X a (Some f) (Some g) (same_xpcall v w h) = refl
top_shape_same p W X a (Some f) (Some g) same_handler = refl
top_shape_same p W X a (Some f) (Some g) (same_closing v w vs ws h k) = refl

pub top_same : (p : Pairs) (W X : World) → AgreeInTurn p W X → Each (λ t u. t ≡ u) (top_now W) (top_now X)
top_same p W X a = each_bind (SameStack p) (λ t u. t ≡ u) _ _ (λ s t b. top_shape_same p W X a (last s.frames) (last t.frames) (zip_last (SameFrame p) s.frames t.frames b.frames)) (stack_of W) (stack_of X) (stack_same p W X a)

given_same : (p : Pairs) (env other : List Value) (given : Given) → SameValues p env other → SameValues p (given_values env given) (given_values other given)
given_same p env other (results slot) s = zip_drop (SameValue p) slot env other s
given_same p env other (thrown x) s = (arg_same p env other x s, tt)

pub leave_keeps : (given : Given) → Keeps (leave_frame given)
leave_keeps given p env other W X s g = on_place p TopShape W X _ _ g
    (λ a b h.
    let V = record (popped W a) { moving = given_values env given } in
    let Y = record (popped X b) { moving = given_values other given } in
    let k : AgreeInTurn p V Y = moving_agrees p (popped W a) (popped X b) (given_values env given) (given_values other given) (popped_same p W X a b g h) (given_same p env other given s) in
    each_bind (λ t u. t ≡ u) (MadeAlike p TopShape) _ _ (λ t u e. made_same p p TopShape V Y [] [] t u (extends_self p) k tt e) (top_now V) (top_now Y) (top_same p V Y k))

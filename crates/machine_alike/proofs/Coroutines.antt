-- Moves between coroutines keep agreement.
use Rattle.std.proofs.Common.{ℕ, suc, ◌≡◌, List, [], ◌∷◌, ◌++◌, Option, Some, None, refl, subst, sym, ap, ◌∙◌, length, drop, Bool, map, cond}
use Rattle.std.specs.Prelude.{slice_get, nat_lt, ◌&&◌, flat_map}
use Rattle.std.specs.List.{AllZip}
use Rattle.int_core.specs.Value.{a_coroutine, object, Value, nth, bind, last, without_last}
use Rattle.int_core.specs.Operations.{is_function}
use Rattle.int_core.specs.Limits.{greatest_resumes, stack_overflow}
use Rattle.machine_core.specs.World.{Frame, closing, Coroutine, fresh, suspended, in_progress, normal, dead, failed, World, Stack, stack_of, Cell, push, frames_of}
use Rattle.machine_core.specs.Text.{Arg, arg}
use Rattle.machine_core.specs.Moves.{Made, made, end_coroutine, fail_coroutine, suspend, resume, begin_closing, create, see_status, see_running, print, Status, move, add_coroutine, add_printed, bytes_in, status_of, CallShape, is_entered, not_entered, ResumeShape, resumed, refused, enters, runs_main, has_room, pending_values, all_closed_from, put_coroutine, awake, back_to_resumer, bury, suspend_running, wait_for_another, go_into, ends_as, starts_in, can_start, resumes, closes_in, closes_coroutine, coroutine_number}
use Rattle.machine_alike.specs.Agree.{Pairs, SameNumber, Each, SameValue, same_known, same_object, SameValues, SameFrame, same_lua, same_pcall, same_xpcall, same_handler, same_closing, SameFrames, SameCoroutine, same_fresh, same_suspended, same_in_progress, same_normal, same_dead, same_failed, Objects, SameObjects, objects_of, AgreeInTurn}
use Rattle.machine_alike.specs.Laws.{MadeAlike, Alike, Keeps}
use Rattle.machine_alike.proofs.Pairwise.{each_bind, zip_append, zip_length, zip_last, zip_drop, zip_without_last, zip_parts, cond_rel}
use Rattle.machine_alike.proofs.Same.{SameStack, stack_same, coroutine_at, frames_same, extends_self, nth_same}
use Rattle.machine_alike.proofs.Cells.{close_same}
use Rattle.machine_alike.proofs.OwnMoves.{arg_same}
use Rattle.machine_alike.proofs.Grow.{object_new, coroutine_pair, extends_coroutine, add_coroutine_same}
use Rattle.machine_alike.proofs.Operations.{function_test}
use Rattle.machine_alike.proofs.Frames.{agree_grown, made_same, moving_agrees, cells_agree, coroutine_agrees, push_same, has_room_same}
use Rattle.machine_alike.proofs.Calls.{enters_same, main_same}
use Rattle.machine_alike.proofs.OtherFrames.{on_stack}

put_coroutine_same : (p : Pairs) (W X : World) (co co' : ℕ) (c d : Coroutine) → AgreeInTurn p W X → SameNumber p a_coroutine co co' → SameCoroutine p c d → AgreeInTurn p (put_coroutine W co c) (put_coroutine X co' d)
unfolding put_coroutine
put_coroutine_same p W X co co' c d a h s = coroutine_agrees p W X co co' c d a h s

pub chain_agrees : (p : Pairs) (W X : World) (cs ds : List ℕ) → AgreeInTurn p W X → AllZip (SameNumber p a_coroutine) cs ds → AgreeInTurn p (record W { chain = cs }) (record X { chain = ds })
chain_agrees p W X cs ds a h = record {
  objects = a.objects;
  roots = record { globals = a.roots.globals; string_metatable = a.roots.string_metatable; prelude_environment = a.roots.prelude_environment; prelude_functions = a.roots.prelude_functions; special_key = a.roots.special_key; max_depth = a.roots.max_depth; main = a.roots.main; chain = h };
  moving = a.moving;
  printed = a.printed;
  fuel = a.fuel;
}

-- the values to be closed, and the cells of all frames

nths_same : (p : Pairs) (vs ws : List Value) (places : List ℕ) → SameValues p vs ws → SameValues p (map (nth vs) places) (map (nth ws) places)
nths_same p vs ws [] h = tt
nths_same p vs ws (r ∷ places) h = (nth_same p vs ws r h, nths_same p vs ws places h)

pending_same : (p : Pairs) (f g : Frame) → SameFrame p f g → SameValues p (pending_values f) (pending_values g)
pending_same p f g (same_lua x y h) = subst (λ places. SameValues p (map (nth x.own.registers) x.own.pending) (map (nth y.own.registers) places)) h.own.pending (nths_same p x.own.registers y.own.registers x.own.pending h.own.registers)
pending_same p f g _ = tt

all_pending_same : (p : Pairs) (fs gs : List Frame) → SameFrames p fs gs → SameValues p (flat_map pending_values fs) (flat_map pending_values gs)
all_pending_same p fs gs h = zip_parts (SameFrame p) (SameValue p) pending_values pending_values (pending_same p) fs gs h

all_closed_same : (p : Pairs) (co co' n : ℕ) (fs gs : List Frame) (A B : Objects) → SameObjects p A B → SameNumber p a_coroutine co co' → SameFrames p fs gs
    → SameObjects p (record A { cells = all_closed_from co n fs A.cells }) (record B { cells = all_closed_from co' n gs B.cells })
all_closed_same p co co' n [] [] A B a h k = a
all_closed_same p co co' n [] (g ∷ gs) A B a h k = absurd k
all_closed_same p co co' n (f ∷ fs) [] A B a h k = absurd k
all_closed_same p co co' n (f ∷ fs) (g ∷ gs) A B a h k =
    by f g k.0 (λ xs ys o. all_closed_same p co co' (suc n) fs gs (record A { cells = xs }) (record B { cells = ys }) o h k.1)
  where
    by : (f g : Frame) → SameFrame p f g
        → ((xs ys : List Cell) → SameObjects p (record A { cells = xs }) (record B { cells = ys }) → SameObjects p (record A { cells = all_closed_from co (suc n) fs xs }) (record B { cells = all_closed_from co' (suc n) gs ys }))
        → SameObjects p (record A { cells = all_closed_from co n (f ∷ fs) A.cells }) (record B { cells = all_closed_from co' n (g ∷ gs) B.cells })
    by f g (same_lua x y l) on = on _ _ (close_same p A B co co' n 0 x.own.registers y.own.registers a h l.own.registers)
    by f g same_pcall on = on A.cells B.cells a
    by f g (same_xpcall v w l) on = on A.cells B.cells a
    by f g same_handler on = on A.cells B.cells a
    by f g (same_closing v w vs ws l m) on = on A.cells B.cells a

closed_agree : (p : Pairs) (W X : World) (co co' : ℕ) (fs gs : List Frame) → AgreeInTurn p W X → SameNumber p a_coroutine co co' → SameFrames p fs gs
    → AgreeInTurn p (record W { cells = all_closed_from co 0 fs W.cells }) (record X { cells = all_closed_from co' 0 gs X.cells })
closed_agree p W X co co' fs gs a h k = cells_agree p W X _ _ a (all_closed_same p co co' 0 fs gs (objects_of W) (objects_of X) a.objects h k)

bury_same : (p : Pairs) (W X : World) (co co' : ℕ) (fs gs : List Frame) (c d : Coroutine) → AgreeInTurn p W X → SameNumber p a_coroutine co co' → SameFrames p fs gs → SameCoroutine p c d → AgreeInTurn p (bury W co fs c) (bury X co' gs d)
unfolding bury
bury_same p W X co co' fs gs c d a h k s = put_coroutine_same p _ _ co co' c d (closed_agree p W X co co' fs gs a h k) h s

-- back to the coroutine that resumed the running one

awake_same : (p : Pairs) (o o' : Option Coroutine) → Each (SameCoroutine p) o o' → SameFrames p (awake o) (awake o')
awake_same p None None h = tt
awake_same p None (Some d) h = absurd h
awake_same p (Some c) None h = absurd h
awake_same p (Some c) (Some d) h = by (frames_of c) (frames_of d) (frames_same p c d h)
  where
    by : (o o' : Option (List Frame)) → Each (SameFrames p) o o' → SameFrames p (elim o [ None ↦ [] | Some frames ↦ frames ]) (elim o' [ None ↦ [] | Some frames ↦ frames ])
    by None None k = tt
    by None (Some gs) k = absurd k
    by (Some fs) None k = absurd k
    by (Some fs) (Some gs) k = k

back_same : (p : Pairs) (W X : World) → AgreeInTurn p W X → AgreeInTurn p (back_to_resumer W) (back_to_resumer X)
unfolding back_to_resumer
back_same p W X a =
    let c = zip_without_last (SameNumber p a_coroutine) W.chain X.chain a.roots.chain in
    let V = record W { chain = without_last W.chain } in
    let Y = record X { chain = without_last X.chain } in
    by (last (without_last W.chain)) (last (without_last X.chain)) (zip_last (SameNumber p a_coroutine) (without_last W.chain) (without_last X.chain) c) (chain_agrees p W X (without_last W.chain) (without_last X.chain) a c)
  where
    by : (o o' : Option ℕ) → Each (SameNumber p a_coroutine) o o' → AgreeInTurn p (record W { chain = without_last W.chain }) (record X { chain = without_last X.chain })
        → AgreeInTurn p
        (elim o [ None ↦ record W { chain = without_last W.chain } | Some co ↦ put_coroutine (record W { chain = without_last W.chain }) co (in_progress (awake (slice_get W.coroutines co))) ])
        (elim o' [ None ↦ record X { chain = without_last X.chain } | Some co ↦ put_coroutine (record X { chain = without_last X.chain }) co (in_progress (awake (slice_get X.coroutines co))) ])
    by None None k b = b
    by None (Some j) k b = absurd k
    by (Some i) None k b = absurd k
    by (Some i) (Some j) k b =
        put_coroutine_same p _ _ i j _ _ b k (same_in_progress _ _ (awake_same p (slice_get W.coroutines i) (slice_get X.coroutines j) (coroutine_at p W X a i j k)))

ends_same : (p : Pairs) (W X : World) (c d : Coroutine) → AgreeInTurn p W X → SameCoroutine p c d → Each (AgreeInTurn p) (ends_as W c) (ends_as X d)
ends_same p W X c d a h =
    each_bind (SameStack p) (AgreeInTurn p) _ _
    (λ s t b. back_same p _ _ (bury_same p W X s.coroutine t.coroutine s.frames t.frames c d a b.coroutine b.frames h))
    (stack_of W) (stack_of X) (stack_same p W X a)

pub end_keeps : Keeps end_coroutine
end_keeps p env other W X s g =
    each_bind (AgreeInTurn p) (MadeAlike p Bool) _ _ (λ V Y k. made_same p p Bool V Y [] [] (runs_main W) (runs_main X) (extends_self p) k tt (main_same p W X g)) (ends_as W dead) (ends_as X dead) (ends_same p W X dead dead g same_dead)

pub fail_keeps : (x : Arg) → Keeps (fail_coroutine x)
fail_keeps x p env other W X s g = on_stack p (Unit {0}) W X _ _ g
    (λ a b h. each_bind (AgreeInTurn p) (MadeAlike p (Unit {0})) _ _ (λ V Y k. made_same p p (Unit {0}) V Y [] [] tt tt (extends_self p) k tt refl)
    (ends_as W (failed (arg env x) (flat_map pending_values a.frames))) (ends_as X (failed (arg other x) (flat_map pending_values b.frames)))
    (ends_same p W X _ _ g (same_failed (arg env x) (arg other x) _ _ (arg_same p env other x s) (all_pending_same p a.frames b.frames h.frames))))

suspended_so : (p : Pairs) (W X : World) (s t : Stack) → AgreeInTurn p W X → SameStack p s t → AgreeInTurn p (suspend_running W s) (suspend_running X t)
unfolding suspend_running
suspended_so p W X s t a h = back_same p _ _ (put_coroutine_same p W X s.coroutine t.coroutine (suspended s.frames) (suspended t.frames) a h.coroutine (same_suspended s.frames t.frames h.frames))

pub suspend_keeps : Keeps suspend
suspend_keeps p env other W X s g = on_stack p Bool W X _ _ g
    (λ a b h. made_same p p Bool _ _ [] [] (runs_main W) (runs_main X) (extends_self p)
    (suspended_so p W X a b g h) tt (main_same p W X g))

-- resuming

number_same : (p : Pairs) (v w : Value) → SameValue p v w → Each (SameNumber p a_coroutine) (coroutine_number v) (coroutine_number w)
number_same p v w (same_object a_coroutine i j h) = h
number_same p v w _ = tt

-- a move on the coroutine that is named
on_coroutine : (p : Pairs) (A : Type 0) (W X : World) (v w : Value) (f g : ℕ → Coroutine → Option (Made A)) → AgreeInTurn p W X → SameValue p v w → ((i j : ℕ) (c d : Coroutine) → SameNumber p a_coroutine i j → SameCoroutine p c d → Alike p A (f i c) (g j d))
    → Alike p A (bind (coroutine_number v) (λ co. bind (slice_get W.coroutines co) (f co))) (bind (coroutine_number w) (λ co. bind (slice_get X.coroutines co) (g co)))
on_coroutine p A W X v w f g a s h =
    each_bind (SameNumber p a_coroutine) (MadeAlike p A) _ _
    (λ i j k. each_bind (SameCoroutine p) (MadeAlike p A) (f i) (g j) (λ c d l. h i j c d k l) (slice_get W.coroutines i) (slice_get X.coroutines j) (coroutine_at p W X a i j k))
    (coroutine_number v) (coroutine_number w) (number_same p v w s)

pub refused_same : (p : Pairs) (W X : World) (text : List ℕ) → AgreeInTurn p W X → Alike p ResumeShape (made W [] (refused text)) (made X [] (refused text))
refused_same p W X text a = made_same p p ResumeShape W X [] [] (refused text) (refused text) (extends_self p) a tt refl

appended : (p : Pairs) (W X : World) (i j : ℕ) → AgreeInTurn p W X → SameNumber p a_coroutine i j → AgreeInTurn p (record W { chain = W.chain ++ i ∷ [] }) (record X { chain = X.chain ++ j ∷ [] })
appended p W X i j a h = chain_agrees p W X _ _ a (zip_append (SameNumber p a_coroutine) W.chain X.chain (i ∷ []) (j ∷ []) a.roots.chain (h, tt))

pub into_same : (p : Pairs) (W X : World) (i j : ℕ) (fs gs : List Frame) → AgreeInTurn p W X → SameNumber p a_coroutine i j → SameFrames p fs gs → AgreeInTurn p (go_into W i fs) (go_into X j gs)
unfolding go_into
into_same p W X i j fs gs a h k = put_coroutine_same p _ _ i j (in_progress fs) (in_progress gs) (appended p W X i j a h) h (same_in_progress fs gs k)

waits_same : (p : Pairs) (W X : World) (s t : Stack) → AgreeInTurn p W X → SameStack p s t → AgreeInTurn p (wait_for_another W s) (wait_for_another X t)
unfolding wait_for_another
waits_same p W X s t a b = put_coroutine_same p W X s.coroutine t.coroutine (normal s.frames) (normal t.frames) a b.coroutine (same_normal s.frames t.frames b.frames)

pub starts_same : (p : Pairs) (W X : World) (i j : ℕ) (vs ws : List Value) → AgreeInTurn p W X → SameNumber p a_coroutine i j → SameValues p vs ws → (c d : Coroutine) → SameCoroutine p c d → Alike p ResumeShape (starts_in W i c vs) (starts_in X j d ws)
starts_same p W X i j vs ws a h s c d (same_fresh v w k) =
    each_bind (MadeAlike p CallShape) (MadeAlike p ResumeShape) _ _
    (λ x y l. record { now = l.now; more = l.more; agree = l.agree; values = tt; told = ap resumed l.told })
    (enters (go_into W i []) v vs) (enters (go_into X j []) w ws)
    (enters_same p _ _ v w vs ws (into_same p W X i j [] [] a h tt) k s)
starts_same p W X i j vs ws a h s c d (same_suspended fs gs k) =
    made_same p p ResumeShape _ _ [] [] (resumed is_entered) (resumed is_entered) (extends_self p)
    (moving_agrees p _ _ vs ws (into_same p W X i j fs gs a h k) s) tt refl
starts_same p W X i j vs ws a h s c d _ = refused_same p W X _ a

can_start_same : (p : Pairs) (c d : Coroutine) → SameCoroutine p c d → can_start c ≡ can_start d
can_start_same p c d (same_fresh v w k) = refl
can_start_same p c d _ = refl

resumes_same : (p : Pairs) (W X : World) (s t : Stack) (i j : ℕ) (c d : Coroutine) (vs ws : List Value) → AgreeInTurn p W X → SameStack p s t → SameNumber p a_coroutine i j → SameCoroutine p c d → SameValues p vs ws → Alike p ResumeShape (resumes W s i c vs) (resumes X t j d ws)
resumes_same p W X s t i j c d vs ws a b h k l =
    let e = can_start_same p c d k in
    let n = zip_length (SameNumber p a_coroutine) W.chain X.chain a.roots.chain in
    cond_rel (Alike p ResumeShape) (can_start c && nat_lt greatest_resumes (length W.chain)) (can_start d && nat_lt greatest_resumes (length X.chain)) _ _ _ _ (rw (e, n) refl) (refused_same p W X _ a)
    (starts_same p _ _ i j vs ws
    (cond_rel (AgreeInTurn p) (can_start c) (can_start d) _ W _ X e (waits_same p W X s t a b) a)
    h l c d k)

pub resume_keeps : (x : Arg) (slot : ℕ) → Keeps (resume x slot)
resume_keeps x slot p env other W X s g = on_stack p ResumeShape W X _ _ g
    (λ a b h. on_coroutine p ResumeShape W X (arg env x) (arg other x) (λ co c. resumes W a co c (drop slot env)) (λ co c. resumes X b co c (drop slot other)) g (arg_same p env other x s)
    (λ i j c d k l. resumes_same p W X a b i j c d (drop slot env) (drop slot other) g h k l (zip_drop (SameValue p) slot env other s)))

-- closing a coroutine

closes_same : (p : Pairs) (W X D E : World) (s t : Stack) (e f : Option Value) (vs ws : List Value) → AgreeInTurn p W X → AgreeInTurn p D E → SameStack p s t → Each (SameValue p) e f → SameValues p vs ws → Alike p ResumeShape (closes_in W D s e vs) (closes_in X E t f ws)
closes_same p W X D E s t e f vs ws a d b h k =
    cond_rel (Alike p ResumeShape) (has_room W 1) (has_room X 1) _ _ _ _ (has_room_same p W X 1 a)
    (made_same p p ResumeShape (push D s (closing e vs)) (push E t (closing f ws)) [] [] (resumed is_entered) (resumed is_entered) (extends_self p) (push_same p D E s t (closing e vs) (closing f ws) d b (same_closing e f vs ws h k)) tt refl)
    (made_same p p ResumeShape W X [] [] (resumed (not_entered stack_overflow)) (resumed (not_entered stack_overflow)) (extends_self p) a tt refl)

closes_coroutine_same : (p : Pairs) (W X : World) (s t : Stack) (i j : ℕ) → AgreeInTurn p W X → SameStack p s t → SameNumber p a_coroutine i j → (c d : Coroutine) → SameCoroutine p c d → Alike p ResumeShape (closes_coroutine W s i c) (closes_coroutine X t j d)
closes_coroutine_same p W X s t i j a b h c d (same_fresh v w k) = closes_same p W X _ _ s t None None [] [] a (put_coroutine_same p W X i j dead dead a h same_dead) b tt tt
closes_coroutine_same p W X s t i j a b h c d (same_suspended fs gs k) =
    closes_same p W X _ _ s t None None (flat_map pending_values fs) (flat_map pending_values gs) a (bury_same p W X i j fs gs dead dead a h k same_dead) b tt (all_pending_same p fs gs k)
closes_coroutine_same p W X s t i j a b h c d (same_in_progress fs gs k) = refused_same p W X _ a
closes_coroutine_same p W X s t i j a b h c d (same_normal fs gs k) = refused_same p W X _ a
closes_coroutine_same p W X s t i j a b h c d same_dead = closes_same p W X W X s t None None [] [] a a b tt tt
closes_coroutine_same p W X s t i j a b h c d (same_failed v w vs ws k l) = closes_same p W X _ _ s t (Some v) (Some w) vs ws a (put_coroutine_same p W X i j dead dead a h same_dead) b k l

pub begin_closing_keeps : (x : Arg) → Keeps (begin_closing x)
begin_closing_keeps x p env other W X s g = on_stack p ResumeShape W X _ _ g
    (λ a b h. on_coroutine p ResumeShape W X (arg env x) (arg other x) (closes_coroutine W a) (closes_coroutine X b) g (arg_same p env other x s)
    (λ i j c d k l. closes_coroutine_same p W X a b i j g h k c d l))

-- making one, looking at one, and printing

create_is : (x : Arg) (env : List Value) (W : World) → move (create x) env W ≡ cond (is_function (arg env x)) (made (record W { coroutines = W.coroutines ++ fresh (arg env x) ∷ [] }) (object a_coroutine (length W.coroutines) ∷ []) tt) None
unfolding add_coroutine
create_is x env W = refl

created_same : (p : Pairs) (W X : World) (v w : Value) → AgreeInTurn p W X → SameValue p v w
    → Alike p (Unit {0}) (made (record W { coroutines = W.coroutines ++ fresh v ∷ [] }) (object a_coroutine (length W.coroutines) ∷ []) tt) (made (record X { coroutines = X.coroutines ++ fresh w ∷ [] }) (object a_coroutine (length X.coroutines) ∷ []) tt)
created_same p W X v w g s =
    let q = coroutine_pair p (objects_of W) (objects_of X) g.objects in
    let e = extends_coroutine p (objects_of W) (objects_of X) g.objects in
    made_same p q (Unit {0}) _ _ _ _ tt tt e
    (agree_grown p q W X _ _ e g (record { roots = refl; moving = refl; printed = refl; fuel = refl }) (record { roots = refl; moving = refl; printed = refl; fuel = refl })
    (add_coroutine_same p (objects_of W) (objects_of X) g.objects (fresh v) (fresh w) (same_fresh v w s)))
    (same_object a_coroutine _ _ (object_new p a_coroutine (length W.coroutines) (length X.coroutines)), tt) refl

pub create_keeps : (x : Arg) → Keeps (create x)
create_keeps x p env other W X s g =
    let v = arg_same p env other x s in
    subst (λ o. Alike p (Unit {0}) o (move (create x) other X)) (sym (create_is x env W))
    (subst (λ o. Alike p (Unit {0}) (cond (is_function (arg env x)) (made (record W { coroutines = W.coroutines ++ fresh (arg env x) ∷ [] }) (object a_coroutine (length W.coroutines) ∷ []) tt) None) o) (sym (create_is x other X))
    (cond_rel (Alike p (Unit {0})) (is_function (arg env x)) (is_function (arg other x)) _ _ _ _ (function_test p (arg env x) (arg other x) v) (created_same p W X (arg env x) (arg other x) g v) tt))

status_same : (p : Pairs) (c d : Coroutine) → SameCoroutine p c d → status_of c ≡ status_of d
status_same p c d (same_fresh v w k) = refl
status_same p c d _ = refl

pub see_status_keeps : (x : Arg) → Keeps (see_status x)
see_status_keeps x p env other W X s g =
    on_coroutine p Status W X (arg env x) (arg other x) (λ _ c. made W [] (status_of c)) (λ _ d. made X [] (status_of d)) g (arg_same p env other x s)
    (λ i j c d k l. made_same p p Status W X [] [] (status_of c) (status_of d) (extends_self p) g tt (status_same p c d l))

pub see_running_keeps : Keeps see_running
see_running_keeps p env other W X s g =
    each_bind (SameNumber p a_coroutine) (MadeAlike p (Unit {0})) (λ co. made W (object a_coroutine co ∷ []) tt) (λ co. made X (object a_coroutine co ∷ []) tt)
    (λ i j k. made_same p p (Unit {0}) W X (object a_coroutine i ∷ []) (object a_coroutine j ∷ []) tt tt (extends_self p) g (same_object a_coroutine i j k, tt) refl)
    (last W.chain) (last X.chain) (zip_last (SameNumber p a_coroutine) W.chain X.chain g.roots.chain)

bytes_same : (p : Pairs) (v w : Value) → SameValue p v w → bytes_in v ≡ bytes_in w
bytes_same p v w (same_known c) = refl
bytes_same p v w (same_object k i j h) = refl

pub print_keeps : (x : Arg) → Keeps (print x)
unfolding add_printed
print_keeps x p env other W X s g = made_same p p (Unit {0}) _ _ [] [] tt tt (extends_self p) (record {
  objects = g.objects;
  roots = g.roots;
  moving = g.moving;
  printed = ap (λ bytes. bytes ++ bytes_in (arg env x)) g.printed ∙ ap (λ bytes. X.printed ++ bytes) (bytes_same p (arg env x) (arg other x) (arg_same p env other x s));
  fuel = g.fuel;
}) tt refl

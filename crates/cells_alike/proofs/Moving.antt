-- What both worlds do to calls, results, errors and coroutines, they do alike.
use Rattle.std.proofs.Common.{◌≡◌, ◌⊎◌, inl, inr, ⊎_elim, ℕ, zero, suc, ◌+◌, Bool, true, false, cond, List, [], ◌∷◌, ◌++◌, length, Option, Some, None, refl, sym, ◌∙◌, ap, subst}
use Rattle.std.proofs.lemmas.List.{length-map}
use Rattle.std.proofs.lemmas.Option.{slice_get-map}
use Rattle.std.specs.Prelude.{slice_get, slice_set, map, option_map, nat_le, unwrap_or}
use Rattle.int_core.specs.Value.{nil, Value, known, bind}
use Rattle.int_core.specs.Limits.{greatest_depth, limited, position}
use Rattle.tree_core.specs.Tree.{Body}
use Rattle.tree_activation.specs.Work.{State, when_declared, when_captured}
use Rattle.tree_activation.specs.Asking.{to_close}
use Rattle.int_core.specs.Ask.{left}
use Rattle.lua_meaning.specs.World.{Function, Now, gives_back, raises_error, ends, broken, World, now_in, breaks, has_room, runs_main, position_of, positions_of, where_among, where_at, raises_text, shared_out}
use Rattle.lua_meaning.specs.World.{yielded, returned, failed_with}
use Rattle.lua_meaning.specs.Calls.{truth, frames_in, back_to, leaves_coroutine, left_now, pending_of, pending_in, all_pending, returns_all, fails_all, yields}
use Rattle.lua_meaning.specs.TreeMeaning.{trees}
use Rattle.meaning_cells.specs.Alike.{Cells, AreEven, as_stored}
use Rattle.meaning_cells.proofs.Relation.{Rel, same, early}
use Rattle.cells_alike.proofs.Joint.{Made, Waiting, Place, asker_one, asker_two, cells_for, WaitsAt, LayerAt, Layer, is_talking, is_waiting, is_raising, Thread, is_suspended, is_running, is_dead, has_failed, Joint, function_one, function_two, frame_one, frame_two, coroutine_one, coroutine_two, one, two, Store, LayersAt, layers_in, head, Base, Stable, Quiet, quiet, stopped, Both}

-- lists

pub set_map : {A B : Type 0} → (f : A → B) (xs : List A) (n : ℕ) (x : A) → slice_set (map f xs) n (f x) ≡ map f (slice_set xs n x)
set_map f [] n x = refl
set_map f (y ∷ xs) zero x = refl
set_map f (y ∷ xs) (suc n) x = ap (λ z. f y ∷ z) (set_map f xs n x)

pub more_map : {A B : Type 0} → (f : A → B) (xs : List A) (x : A) → map f xs ++ f x ∷ [] ≡ map f (xs ++ x ∷ [])
more_map f [] x = refl
more_map f (y ∷ xs) x = ap (λ z. f y ∷ z) (more_map f xs x)

pub get_set : {A : Type 0} → (xs : List A) (n : ℕ) (x : A) (m : ℕ) (y : A) → slice_get (slice_set xs n x) m ≡ Some y → ((m ≡ n) × (y ≡ x)) ⊎ (slice_get xs m ≡ Some y)
get_set [] n x m y e = inr e
get_set (z ∷ xs) zero x zero y e = inl (refl, sym (ap (λ o. unwrap_or o x) e))
get_set (z ∷ xs) zero x (suc m) y e = inr e
get_set (z ∷ xs) (suc n) x zero y e = inr e
get_set (z ∷ xs) (suc n) x (suc m) y e = ⊎_elim (λ k. inl (ap suc k.0, k.1)) (λ k. inr k) (get_set xs n x m y e)

pub get_set_there : {A : Type 0} → (xs : List A) (n : ℕ) (x y : A) → slice_get (slice_set xs n x) n ≡ Some y → y ≡ x
get_set_there [] n x y e = absurd (cc)
get_set_there (z ∷ xs) zero x y e = sym (ap (λ o. unwrap_or o x) e)
get_set_there (z ∷ xs) (suc n) x y e = get_set_there xs n x y e

pub get_more : {A : Type 0} → (xs : List A) (x : A) (m : ℕ) (y : A) → slice_get (xs ++ x ∷ []) m ≡ Some y → (y ≡ x) ⊎ (slice_get xs m ≡ Some y)
get_more [] x zero y e = inl (sym (ap (λ o. unwrap_or o x) e))
get_more [] x (suc m) y e = absurd (cc)
get_more (z ∷ xs) x zero y e = inr e
get_more (z ∷ xs) x (suc m) y e = get_more xs x m y e

-- tests and positions

pub room_same : (J : Joint) → has_room (one J) ≡ has_room (two J)
room_same J = ap (λ n. nat_le (n + 1) greatest_depth) (length-map J.frames frame_one ∙ sym (length-map J.frames frame_two))

abbrev placed_by : Option ℕ → Function Body → Option (List ℕ)
placed_by line f = bind line (λ l. Some (position f.source l))

asker_place : (fs : List Made) (n : ℕ) (line : Option ℕ)
    → bind (slice_get (map function_one fs) n) (placed_by line) ≡ bind (slice_get (map function_two fs) n) (placed_by line)
asker_place fs n line =
    ap (λ o. bind o (placed_by line)) (slice_get-map function_one fs n) ∙ by (slice_get fs n) ∙ sym (ap (λ o. bind o (placed_by line)) (slice_get-map function_two fs n))
  where
    by : (o : Option Made) → bind (option_map function_one o) (placed_by line) ≡ bind (option_map function_two o) (placed_by line)
    by None = refl
    by (Some f) = refl

position_same : (J : Joint) (f : Layer) → position_of (one J) (frame_one f) ≡ position_of (two J) (frame_two f)
position_same J (is_waiting w) = asker_place J.functions w.function w.line
position_same J (is_raising w) = asker_place J.functions w.function w.line
position_same J _ = refl

positions_same : (J : Joint) (frames : List Layer) → positions_of (one J) (map frame_one frames) ≡ positions_of (two J) (map frame_two frames)
positions_same J [] = refl
positions_same J (f ∷ frames) =
    ap (λ p. p ∷ positions_of (one J) (map frame_one frames)) (position_same J f) ∙ ap (λ ps. position_of (two J) (frame_two f) ∷ ps) (positions_same J frames)

among_same : (W V : World Body State) (n : ℕ) (places : List (Option (List ℕ))) → where_among W n places ≡ where_among V n places
among_same W V n [] = refl
among_same W V n (None ∷ places) = among_same W V n places
among_same W V zero (Some place ∷ places) = refl
among_same W V (suc n) (Some place ∷ places) = among_same W V n places

pub where_same : (J : Joint) (n : ℕ) → where_at (one J) n ≡ where_at (two J) n
where_same J n = ap (where_among (one J) n) (positions_same J J.frames) ∙ among_same (one J) (two J) n (positions_of (two J) (map frame_two J.frames))

-- what a frame still has to close, told with the values in its cells that it is left

closes_same : {ps : Cells} {s t : State} → Rel ps s t → to_close s ≡ to_close t
closes_same (same v k control h d r s) = refl
closes_same (early v k line ns control h d scope r s) = refl

asker_pending : (J : Joint) (p : Place) (w : Waiting) → AreEven (cells_for J.store []) → WaitsAt J.store p w
    → pending_of (trees when_declared) (one J) (asker_one w) ≡ pending_of (trees when_captured) (two J) (asker_two w)
asker_pending J p w even a =
    ap (λ o. told_by o (to_close (left_now J.store.cells (asker_one w)))) (slice_get-map function_one J.functions w.function)
    ∙ by (slice_get J.functions w.function) ∙ sym (ap (λ o. told_by o (to_close (left_now J.store.cells_too (asker_two w)))) (slice_get-map function_two J.functions w.function))
  where
    told_by : Option (Function Body) → List Value → List Value
    told_by o vs = elim o [ None ↦ [] | Some g ↦ vs ]

    left_same : to_close (left_now J.store.cells (asker_one w)) ≡ to_close (left_now J.store.cells_too (asker_two w))
    left_same =
        closes_same (a.on (cells_for J.store a.asked.own) a.since (record { reply = left (known nil); shared = shared_out w.shared J.store.cells; cell = 0 })
        (record { reply = left (known nil); shared = shared_out w.also J.store.cells_too; cell = 0 }) (record { reply = refl; brings = as_stored refl refl; even = even }))

    by : (o : Option Made) → told_by (option_map function_one o) (to_close (left_now J.store.cells (asker_one w))) ≡ told_by (option_map function_two o) (to_close (left_now J.store.cells_too (asker_two w)))
    by None = refl
    by (Some g) = left_same

layer_pending : (J : Joint) (p : Place) (f : Layer) → AreEven (cells_for J.store []) → LayerAt J.store p f
    → pending_in (trees when_declared) (one J) (frame_one f) ≡ pending_in (trees when_captured) (two J) (frame_two f)
layer_pending J p (is_talking f s t) even l = absurd l
layer_pending J p (is_waiting w) even l = asker_pending J p w even l
layer_pending J p (is_raising w) even l = asker_pending J p w even l
layer_pending J p _ even l = refl

pub pending_same : (J : Joint) (co : ℕ) (frames : List Layer) → AreEven (cells_for J.store []) → LayersAt J.store co frames
    → all_pending (trees when_declared) (one J) (map frame_one frames) ≡ all_pending (trees when_captured) (two J) (map frame_two frames)
pending_same J co [] even l = refl
pending_same J co (f ∷ frames) even l =
    ap (λ vs. vs ++ all_pending (trees when_declared) (one J) (map frame_one frames)) (layer_pending J (co, length frames) f even l.0)
    ∙ ap (λ vs. pending_in (trees when_captured) (two J) (frame_two f) ++ vs) (pending_same J co frames even l.1)

-- worlds

pub either_by : (c d : Bool) (X Z Y V : World Body State) → c ≡ d → Both X Y → Both Z V → Both (cond c X Z) (cond d Y V)
either_by c d X Z Y V e x z = subst (λ b. Both (cond c X Z) (cond b Y V)) e (by c) where
  by : (b : Bool) → Both (cond b X Z) (cond b Y V)
  by true = x
  by false = z

pub stay_both : (J : Joint) → Quiet J → Both (one J) (two J)
stay_both J q = record { there = J; same = refl; same_too = refl; stands = quiet J q }

pub now_both : (J : Joint) (now : Now) → Quiet J → Both (now_in (one J) now) (now_in (two J) now)
now_both J now q = stay_both (record J { now = now }) q

-- a rule is broken
pub breaks_both : (J : Joint) → Both (breaks (one J)) (breaks (two J))
breaks_both J = record { there = record J { now = ends broken }; same = refl; same_too = refl; stands = stopped J broken tt }

pub framed : (S : Store) (fs : List Made) (cs : List Thread) (chain : List ℕ) (frames others : List Layer) → Stable S fs cs chain frames → LayersAt S (head chain) others → Stable S fs cs chain others
framed S fs cs chain frames others q l = record { base = q.base; even = q.even; layers = l }

pub raises_both : (J : Joint) (why : List ℕ) → Quiet J → Both (raises_text (one J) why) (raises_text (two J) why)
raises_both J why q =
    let e : Value = limited (where_at (one J) 0 ++ why) in
    record {
      there = record J { now = raises_error e };
      same = refl;
      same_too = ap (λ place. now_in (two J) (raises_error (limited (place ++ why)))) (sym (where_same J 0));
      stands = quiet (record J { now = raises_error e }) q;
    }

-- coroutines that are left and ended

abbrev pub layers_of : Option Thread → List Layer
layers_of None = []
layers_of (Some c) = layers_in c

frames_one : (o : Option Thread) → frames_in (option_map coroutine_one o) ≡ map frame_one (layers_of o)
frames_one (Some (has_failed e pending)) = refl
frames_one _ = refl

frames_two : (o : Option Thread) → frames_in (option_map coroutine_two o) ≡ map frame_two (layers_of o)
frames_two (Some (has_failed e pending)) = refl
frames_two _ = refl

layers_there : (S : Store) (cs : List Thread) (co : ℕ) → ((n : ℕ) (c : Thread) → slice_get cs n ≡ Some c → LayersAt S n (layers_in c)) → LayersAt S co (layers_of (slice_get cs co))
layers_there S cs co all = by (slice_get cs co) refl where
  by : (o : Option Thread) → slice_get cs co ≡ o → LayersAt S co (layers_of o)
  by None e = tt
  by (Some c) e = all co c e

-- one coroutine is changed, and another one runs
pub base_switched : (S : Store) (fs : List Made) (cs : List Thread) (chain : List ℕ) (co : ℕ) (c : Thread) (to : ℕ) (more : List ℕ) → Base S fs cs chain → LayersAt S co (layers_in c)
    → Base S fs (slice_set (slice_set cs co c) to is_running) (to ∷ more)
base_switched S fs cs chain co c to more b l = record {
  store = b.store;
  paired = b.paired;
  others = λ n x e.
      ⊎_elim (λ k. subst (λ z. LayersAt S n (layers_in z)) (sym k.1) tt)
      (λ k. ⊎_elim (λ m. subst (λ z. LayersAt S z (layers_in x)) (sym m.0) (subst (λ z. LayersAt S co (layers_in z)) (sym m.1) l)) (λ m. b.others n x m) (get_set cs co c n x k))
      (get_set (slice_set cs co c) to is_running n x e);
  running_one = λ x e. ap layers_in (get_set_there (slice_set cs co c) to is_running x e);
}

pub back_both : (J : Joint) (chain : List ℕ) (c : Thread) (vs : List Value) → Stable J.store J.functions J.coroutines chain J.frames → LayersAt J.store (head chain) (layers_in c)
    → Both (back_to (one (record J { chain = chain })) (coroutine_one c) vs chain) (back_to (two (record J { chain = chain })) (coroutine_two c) vs chain)
back_both J [] c vs q l = now_both (record J { chain = [] }) (ends broken) q
back_both J (co ∷ []) c vs q l = now_both (record J { chain = co ∷ [] }) (ends broken) q
back_both J (co ∷ by ∷ chain) c vs q l =
    let cs = J.coroutines in
    let K : Joint = record J { coroutines = slice_set (slice_set cs co c) by is_running; chain = by ∷ chain; frames = layers_of (slice_get cs by); now = gives_back vs } in
    record {
      there = K;
      same =
          ap (λ xs. record (one K) { coroutines = slice_set xs by (coroutine_one is_running); frames = frames_in (slice_get (map coroutine_one cs) by) }) (set_map coroutine_one cs co c)
          ∙ ap (λ xs. record (one K) { coroutines = xs; frames = frames_in (slice_get (map coroutine_one cs) by) }) (set_map coroutine_one (slice_set cs co c) by is_running)
          ∙ ap (λ o. record (one K) { frames = frames_in o }) (slice_get-map coroutine_one cs by)
          ∙ ap (λ frames. record (one K) { frames = frames }) (frames_one (slice_get cs by));
      same_too =
          ap (λ xs. record (two K) { coroutines = slice_set xs by (coroutine_two is_running); frames = frames_in (slice_get (map coroutine_two cs) by) }) (set_map coroutine_two cs co c)
          ∙ ap (λ xs. record (two K) { coroutines = xs; frames = frames_in (slice_get (map coroutine_two cs) by) }) (set_map coroutine_two (slice_set cs co c) by is_running)
          ∙ ap (λ o. record (two K) { frames = frames_in o }) (slice_get-map coroutine_two cs by)
          ∙ ap (λ frames. record (two K) { frames = frames }) (frames_two (slice_get cs by));
      stands = quiet K (record {
        base = base_switched J.store J.functions cs (co ∷ by ∷ chain) co c by chain q.base l;
        even = q.even;
        layers = layers_there J.store cs by q.base.others;
      });
    }

pub returns_both : (J : Joint) (vs : List Value) → Quiet J → Both (returns_all (one J) vs) (returns_all (two J) vs)
returns_both J vs q =
    either_by (runs_main (one J)) (runs_main (two J)) _ _ _ _ refl (now_both J (ends (returned vs)) q) (back_both J J.chain is_dead (truth true ∷ vs) q tt)

pub fails_both : (J : Joint) (e : Value) → Quiet J → Both (fails_all (trees when_declared) (one J) e) (fails_all (trees when_captured) (two J) e)
fails_both J e q =
    either_by (runs_main (one J)) (runs_main (two J)) _ _ _ _ refl (now_both J (ends (failed_with e)) q)
    (subst (λ vs. Both (leaves_coroutine (one J) (coroutine_one (has_failed e (all_pending (trees when_declared) (one J) (map frame_one J.frames)))) (truth false ∷ e ∷ []))
    (leaves_coroutine (two J) (coroutine_two (has_failed e vs)) (truth false ∷ e ∷ []))) (pending_same J (head J.chain) J.frames q.even q.layers)
    (back_both J J.chain (has_failed e (all_pending (trees when_declared) (one J) (map frame_one J.frames))) (truth false ∷ e ∷ []) q tt))

pub yields_both : (J : Joint) (vs : List Value) → Quiet J → Both (yields (one J) vs) (yields (two J) vs)
yields_both J vs q =
    either_by (runs_main (one J)) (runs_main (two J)) _ _ _ _ refl (now_both J (ends (yielded vs)) q) (back_both J J.chain (is_suspended J.frames) (truth true ∷ vs) q q.layers)

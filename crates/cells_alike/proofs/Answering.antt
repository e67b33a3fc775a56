-- Calls, answers, results and errors, and the moves between coroutines.
use Rattle.std.proofs.Common.{◌≡◌, ⊎_elim, ℕ, zero, suc, List, [], ◌∷◌, length, Option, Some, None, true, false, refl, sym, ◌∙◌, ap, subst}
use Rattle.std.proofs.lemmas.Option.{slice_get-map}
use Rattle.std.specs.Prelude.{slice_get, slice_set, map, option_map, nat_lt, codes}
use Rattle.int_core.specs.Value.{Value, known, primitive, object, a_function, nth, error_or_nil}
use Rattle.int_core.specs.Limits.{greatest_resumes, stack_overflow}
use Rattle.int_core.specs.Operations.{Callee, callee, not_callable, callee_of, greatest_chain, handler_in, of_close}
use Rattle.int_core.specs.Ask.{Reply, values, left, Answer}
use Rattle.tree_core.specs.Tree.{Body}
use Rattle.tree_activation.specs.Work.{when_declared, when_captured, State}
use Rattle.tree_activation.specs.Activation.{start}
use Rattle.lua_meaning.specs.World.{System, Now, gives_back, unwinds, spent, broken, ends, calls_primitive, World, now_in, on_frames, has_room, runs_main, raises_text, shared_out, given_to, answered}
use Rattle.lua_meaning.specs.Calls.{text, truth, error_in_handler, put_coroutine, all_pending, all_closed, enters, enters_function, pays_with, pays_for, calls_value, calls_over, closes_on, handed, raised_to, unwound, goes_along, goes_into, resumes, closes_in, closes_coroutine}
use Rattle.lua_meaning.specs.TreeMeaning.{trees}
use Rattle.meaning_cells.specs.Alike.{Answered, as_stored}
use Rattle.meaning_cells.proofs.Steps.{starts_alike}
use Rattle.cells_alike.proofs.Joint.{Made, Waiting, Layer, is_talking, is_waiting, is_raising, is_protected, is_handled, is_handling, is_closing, Thread, is_fresh, is_suspended, is_running, is_normal, is_dead, has_failed, Store, Joint, function_one, function_two, asker_one, asker_two, frame_one, frame_two, coroutine_one, coroutine_two, one, two, cells_for, WaitsAt, LayerAt, LayersAt, layers_in, head, Base, Quiet, talking_in, busy, Both}
use Rattle.cells_alike.proofs.Moving.{set_map, get_set, room_same, pending_same, either_by, now_both, breaks_both, framed, raises_both, base_switched, returns_both, fails_both}

abbrev pub first_form : System Body State
first_form = trees when_declared

abbrev pub second_form : System Body State
second_form = trees when_captured

-- the same with other frames on the running coroutine
pub framed_in : (J : Joint) (frames : List Layer) → Quiet J → LayersAt J.store (head J.chain) frames → Quiet (record J { frames = frames })
framed_in J frames q l = framed J.store J.functions J.coroutines J.chain J.frames frames q l

-- answers

pub given_both : (J : Joint) (w : Waiting) (x y : Answer) (below : List Layer) → Quiet J → (a : WaitsAt J.store (head J.chain, length below) w) → LayersAt J.store (head J.chain) below
    → Answered (cells_for J.store a.asked.own) w.shared w.also x y
    → Both (given_to (one J) (asker_one w) x (map frame_one below)) (given_to (two J) (asker_two w) y (map frame_two below))
given_both J w x y below q a l z = record {
  there = talking_in J w.function (w.goes x) (w.goes_too y) below;
  same = refl;
  same_too = refl;
  stands = busy J w.function (w.goes x) (w.goes_too y) below
      (record { base = q.base; own = a.asked.own; owned = a.owned; like = a.on (cells_for J.store a.asked.own) a.since x y z; layers = l });
}

pub answered_both : (J : Joint) (w : Waiting) (reply : Reply) (below : List Layer) → Quiet J → WaitsAt J.store (head J.chain, length below) w → LayersAt J.store (head J.chain) below
    → Both (answered (one J) (asker_one w) reply (map frame_one below)) (answered (two J) (asker_two w) reply (map frame_two below))
answered_both J w reply below q a l =
    given_both J w (record { reply = reply; shared = shared_out w.shared J.store.cells; cell = 0 }) (record { reply = reply; shared = shared_out w.also J.store.cells_too; cell = 0 }) below q a l
    (record { reply = refl; brings = as_stored refl refl; even = q.even })

-- calls

-- what a refused call becomes, before it is paid or after
abbrev pub Refusals : Joint → (List ℕ → World Body State → World Body State) → (List ℕ → World Body State → World Body State) → Type 0
Refusals J ra rb = (why : List ℕ) (fuel : ℕ) → Both (ra why (one (record J { fuel = fuel }))) (rb why (two (record J { fuel = fuel })))

abbrev pub raises_why : List ℕ → World Body State → World Body State
raises_why why V = raises_text V why

pub raises_refusals : (J : Joint) → Quiet J → Refusals J raises_why raises_why
raises_refusals J q why fuel = raises_both (record J { fuel = fuel }) why q

abbrev gives_up : List ℕ → World Body State → World Body State
gives_up why V = now_in V (unwinds error_in_handler)

give_up_refusals : (J : Joint) → Quiet J → Refusals J gives_up gives_up
give_up_refusals J q why fuel = now_both (record J { fuel = fuel }) (unwinds error_in_handler) q

pub enters_both : (J : Joint) (f : Value) (arguments : List Value) (ra rb : List ℕ → World Body State → World Body State) → Quiet J → Refusals J ra rb
    → Both (enters first_form (one J) f arguments ra) (enters second_form (two J) f arguments rb)
enters_both J (known (primitive m)) arguments ra rb q r = now_both J (calls_primitive m arguments) q
enters_both J (object a_function m) arguments ra rb q r =
    subst (λ o. Both (enters_function first_form (one J) m o arguments ra) (enters_function second_form (two J) m (slice_get (map function_two J.functions) m) arguments rb)) (sym (slice_get-map function_one J.functions m))
    (subst (λ o. Both (enters_function first_form (one J) m (option_map function_one (slice_get J.functions m)) arguments ra) (enters_function second_form (two J) m o arguments rb)) (sym (slice_get-map function_two J.functions m))
    (by (slice_get J.functions m)))
  where
    by : (o : Option Made) → Both (enters_function first_form (one J) m (option_map function_one o) arguments ra) (enters_function second_form (two J) m (option_map function_two o) arguments rb)
    by None = breaks_both J
    by (Some f) =
        either_by (has_room (one J)) (has_room (two J)) _ _ _ _ (room_same J)
        (record {
          there = talking_in J m (start when_declared f.made_of arguments) (start when_captured f.made_of arguments) J.frames;
          same = refl;
          same_too = refl;
          stands = busy J m (start when_declared f.made_of arguments) (start when_captured f.made_of arguments) J.frames
              (record { base = q.base; own = []; owned = λ c k. absurd k; like = starts_alike (cells_for J.store []) f.made_of arguments q.base.store.are q.even; layers = q.layers });
        })
        (r stack_overflow J.fuel)
enters_both J f arguments ra rb q r = breaks_both J

pays_with_both : (fuel : ℕ) (J : Joint) (f : Value) (arguments : List Value) (ra rb : List ℕ → World Body State → World Body State) → Quiet J → Refusals J ra rb
    → Both (pays_with first_form fuel (one J) f arguments ra) (pays_with second_form fuel (two J) f arguments rb)
pays_with_both zero J f arguments ra rb q r = now_both J (ends spent) q
pays_with_both (suc fuel) J f arguments ra rb q r = enters_both (record J { fuel = fuel }) f arguments ra rb q r

pays_both : (J : Joint) (c : Callee) (ra rb : List ℕ → World Body State → World Body State) → Quiet J → Refusals J ra rb → Both (pays_for first_form (one J) c ra) (pays_for second_form (two J) c rb)
pays_both J (not_callable why) ra rb q r = r why J.fuel
pays_both J (callee f arguments) ra rb q r = pays_with_both J.fuel J f arguments ra rb q r

pub calls_both : (J : Joint) (f : Value) (arguments : List Value) (ra rb : List ℕ → World Body State → World Body State) → Quiet J → Refusals J ra rb
    → Both (calls_value first_form (one J) f arguments ra) (calls_value second_form (two J) f arguments rb)
calls_both J f arguments ra rb q r = pays_both J (callee_of greatest_chain J.heap f arguments) ra rb q r

-- a frame that is no activation's, on top of all
pub calls_over_both : (J : Joint) (l : Layer) (f : Value) (arguments : List Value) → Quiet J → LayerAt J.store (head J.chain, length J.frames) l
    → Both (calls_over first_form (one J) (frame_one l) f arguments) (calls_over second_form (two J) (frame_two l) f arguments)
calls_over_both J l f arguments q at =
    let K : Joint = record J { frames = l ∷ J.frames } in
    let k = framed_in J (l ∷ J.frames) q (at, q.layers) in
    either_by (has_room (one J)) (has_room (two J)) _ _ _ _ (room_same J) (calls_both K f arguments raises_why raises_why k (raises_refusals K k)) (raises_both J stack_overflow q)

all_closed_both : (J : Joint) (e : Option Value) → Quiet J → Both (all_closed (one J) e) (all_closed (two J) e)
all_closed_both J None q = now_both J (gives_back (truth true ∷ [])) q
all_closed_both J (Some e) q = now_both J (gives_back (truth false ∷ e ∷ [])) q

pub closes_on_both : (J : Joint) (e : Option Value) (vs : List Value) (below : List Layer) → Quiet J → LayersAt J.store (head J.chain) below
    → Both (closes_on first_form (one J) e vs (map frame_one below)) (closes_on second_form (two J) e vs (map frame_two below))
closes_on_both J e [] below q l = all_closed_both (record J { frames = below }) e (framed_in J below q l)
closes_on_both J e (v ∷ vs) below q l =
    let K : Joint = record J { frames = is_closing e vs ∷ below } in
    let k = framed_in J (is_closing e vs ∷ below) q (tt, l) in
    calls_both K (handler_in J.heap of_close v) (v ∷ error_or_nil e ∷ []) raises_why raises_why k (raises_refusals K k)

-- results and errors that reach the frame on top

leaf : (J : Joint) (below : List Layer) (now : Now) → Quiet J → LayersAt J.store (head J.chain) below
    → Both (now_in (on_frames (one J) (map frame_one below)) now) (now_in (on_frames (two J) (map frame_two below)) now)
leaf J below now q l = now_both (record J { frames = below }) now (framed_in J below q l)

pub handed_both : (J : Joint) (vs : List Value) (frames : List Layer) → Quiet J → LayersAt J.store (head J.chain) frames
    → Both (handed first_form (one J) vs (map frame_one frames)) (handed second_form (two J) vs (map frame_two frames))
handed_both J vs [] q l = returns_both J vs q
handed_both J vs (is_talking f s t ∷ below) q l = absurd l.0
handed_both J vs (is_waiting w ∷ below) q l = answered_both J w (values vs) below q l.0 l.1
handed_both J vs (is_raising w ∷ below) q l = breaks_both J
handed_both J vs (is_protected ∷ below) q l = leaf J below (gives_back (truth true ∷ vs)) q l.1
handed_both J vs (is_handled h ∷ below) q l = leaf J below (gives_back (truth true ∷ vs)) q l.1
handed_both J vs (is_handling ∷ below) q l = leaf J below (unwinds (nth vs 0)) q l.1
handed_both J vs (is_closing e more ∷ below) q l = closes_on_both J e more below q l.1

pub raised_both : (J : Joint) (e : Value) (frames : List Layer) → Quiet J → LayersAt J.store (head J.chain) frames
    → Both (raised_to first_form (one J) e (map frame_one frames)) (raised_to second_form (two J) e (map frame_two frames))
raised_both J e [] q l = either_by (runs_main (one J)) (runs_main (two J)) _ _ _ _ refl (now_both J (unwinds e) q) (fails_both J e q)
raised_both J e (is_talking f s t ∷ frames) q l = absurd l.0
raised_both J e (is_waiting w ∷ frames) q l = raised_both J e frames q l.1
raised_both J e (is_raising w ∷ frames) q l = raised_both J e frames q l.1
raised_both J e (is_handled h ∷ frames) q l =
    let K : Joint = record J { frames = is_handling ∷ J.frames } in
    let k = framed_in J (is_handling ∷ J.frames) q (tt, q.layers) in
    either_by (has_room (one J)) (has_room (two J)) _ _ _ _ (room_same J) (calls_both K h (e ∷ []) gives_up gives_up k (give_up_refusals K k)) (now_both J (unwinds error_in_handler) q)
raised_both J e (is_protected ∷ frames) q l = now_both J (unwinds e) q
raised_both J e (is_handling ∷ frames) q l = now_both J (unwinds e) q
raised_both J e (is_closing error more ∷ frames) q l = now_both J (unwinds e) q

pub unwound_both : (J : Joint) (e : Value) (frames : List Layer) → Quiet J → LayersAt J.store (head J.chain) frames
    → Both (unwound first_form (one J) e (map frame_one frames)) (unwound second_form (two J) e (map frame_two frames))
unwound_both J e [] q l = fails_both J e q
unwound_both J e (is_talking f s t ∷ below) q l = absurd l.0
unwound_both J e (is_waiting w ∷ below) q l = answered_both J w (left e) below q l.0 l.1
unwound_both J e (is_raising w ∷ below) q l = answered_both J w (left e) below q l.0 l.1
unwound_both J e (is_protected ∷ below) q l = leaf J below (gives_back (truth false ∷ e ∷ [])) q l.1
unwound_both J e (is_handled h ∷ below) q l = leaf J below (gives_back (truth false ∷ e ∷ [])) q l.1
unwound_both J e (is_handling ∷ below) q l = leaf J below (unwinds error_in_handler) q l.1
unwound_both J e (is_closing error more ∷ below) q l = closes_on_both J (Some e) more below q l.1

-- coroutines

pub record Moved (X Y : World Body State) : Type 0 where
  pub there : Joint
  pub same : X ≡ one there
  pub same_too : Y ≡ two there
  pub rests : Quiet there

moved_both : (X Y : World Body State) (F G : World Body State → World Body State) → Moved X Y → ((K : Joint) → Quiet K → Both (F (one K)) (G (two K))) → Both (F X) (G Y)
moved_both X Y F G m more =
    subst (λ Z. Both (F Z) (G Y)) (sym m.same) (subst (λ Z. Both (F (one m.there)) (G Z)) (sym m.same_too) (more m.there m.rests))

along_both : (J : Joint) (chain : List ℕ) (co : ℕ) (frames : List Layer) → Quiet (record J { chain = chain }) → LayersAt J.store co frames
    → Moved (goes_along (one (record J { chain = chain })) co (map frame_one frames) chain) (goes_along (two (record J { chain = chain })) co (map frame_two frames) chain)
along_both J [] co frames q l = record { there = record J { chain = []; now = ends broken }; same = refl; same_too = refl; rests = q }
along_both J (by ∷ chain) co frames q l =
    let cs = J.coroutines in
    let K : Joint = record J { coroutines = slice_set (slice_set cs by (is_normal J.frames)) co is_running; chain = co ∷ by ∷ chain; frames = frames } in
    record {
      there = K;
      same =
          ap (λ xs. record (one K) { coroutines = slice_set xs co (coroutine_one is_running) }) (set_map coroutine_one cs by (is_normal J.frames))
          ∙ ap (λ xs. record (one K) { coroutines = xs }) (set_map coroutine_one (slice_set cs by (is_normal J.frames)) co is_running);
      same_too =
          ap (λ xs. record (two K) { coroutines = slice_set xs co (coroutine_two is_running) }) (set_map coroutine_two cs by (is_normal J.frames))
          ∙ ap (λ xs. record (two K) { coroutines = xs }) (set_map coroutine_two (slice_set cs by (is_normal J.frames)) co is_running);
      rests = record { base = base_switched J.store J.functions cs (by ∷ chain) by (is_normal J.frames) co (by ∷ chain) q.base q.layers; even = q.even; layers = l };
    }

pub resumes_both : (J : Joint) (co : ℕ) (c : Thread) (vs : List Value) → Quiet J → LayersAt J.store co (layers_in c)
    → Both (resumes first_form (one J) co (coroutine_one c) vs) (resumes second_form (two J) co (coroutine_two c) vs)
resumes_both J co is_running vs q l = now_both J (gives_back (truth false ∷ text (codes "cannot resume non-suspended coroutine") ∷ [])) q
resumes_both J co (is_normal frames) vs q l = now_both J (gives_back (truth false ∷ text (codes "cannot resume non-suspended coroutine") ∷ [])) q
resumes_both J co is_dead vs q l = now_both J (gives_back (truth false ∷ text (codes "cannot resume dead coroutine") ∷ [])) q
resumes_both J co (has_failed e pending) vs q l = now_both J (gives_back (truth false ∷ text (codes "cannot resume dead coroutine") ∷ [])) q
resumes_both J co (is_suspended frames) vs q l =
    either_by (nat_lt greatest_resumes (length J.chain)) (nat_lt greatest_resumes (length J.chain)) _ _ _ _ refl
    (now_both J (gives_back (truth false ∷ text (codes "too many nested resumes") ∷ [])) q)
    (moved_both (goes_into (one J) co (map frame_one frames)) (goes_into (two J) co (map frame_two frames)) (λ V. now_in V (gives_back vs)) (λ V. now_in V (gives_back vs))
    (along_both J J.chain co frames q l) (λ K k. now_both K (gives_back vs) k))
resumes_both J co (is_fresh body) vs q l =
    either_by (nat_lt greatest_resumes (length J.chain)) (nat_lt greatest_resumes (length J.chain)) _ _ _ _ refl
    (now_both J (gives_back (truth false ∷ text (codes "too many nested resumes") ∷ [])) q)
    (moved_both (goes_into (one J) co []) (goes_into (two J) co []) (λ V. enters first_form V body vs raises_why) (λ V. enters second_form V body vs raises_why)
    (along_both J J.chain co [] q tt) (λ K k. enters_both K body vs raises_why raises_why k (raises_refusals K k)))

base_put : (S : Store) (fs : List Made) (cs : List Thread) (chain : List ℕ) (co : ℕ) → Base S fs cs chain → Base S fs (slice_set cs co is_dead) chain
base_put S fs cs chain co b = record {
  store = b.store;
  paired = b.paired;
  others = λ n x e. ⊎_elim (λ k. subst (λ z. LayersAt S n (layers_in z)) (sym k.1) tt) (λ k. b.others n x k) (get_set cs co is_dead n x e);
  running_one = λ x e. ⊎_elim (λ k. ap layers_in k.1) (λ k. b.running_one x k) (get_set cs co is_dead (head chain) x e);
}

closes_in_both : (J : Joint) (co : ℕ) (e : Option Value) (vs : List Value) → Quiet J → Both (closes_in first_form (one J) co e vs) (closes_in second_form (two J) co e vs)
closes_in_both J co e vs q =
    let cs = J.coroutines in
    let K : Joint = record J { coroutines = slice_set cs co is_dead } in
    let k : Quiet K = record { base = base_put J.store J.functions cs J.chain co q.base; even = q.even; layers = q.layers } in
    either_by (has_room (one J)) (has_room (two J)) _ _ _ _ (room_same J)
    (subst (λ xs. Both (closes_on first_form (record (one J) { coroutines = xs }) e vs (map frame_one J.frames)) (closes_on second_form (put_coroutine (two J) co (coroutine_two is_dead)) e vs (map frame_two J.frames)))
    (sym (set_map coroutine_one cs co is_dead))
    (subst (λ xs. Both (closes_on first_form (one K) e vs (map frame_one J.frames)) (closes_on second_form (record (two J) { coroutines = xs }) e vs (map frame_two J.frames)))
    (sym (set_map coroutine_two cs co is_dead))
    (closes_on_both K e vs J.frames k q.layers)))
    (raises_both J stack_overflow q)

pub closes_both : (J : Joint) (co : ℕ) (c : Thread) → Quiet J → LayersAt J.store co (layers_in c) → Both (closes_coroutine first_form (one J) co (coroutine_one c)) (closes_coroutine second_form (two J) co (coroutine_two c))
closes_both J co (is_fresh body) q l = closes_in_both J co None [] q
closes_both J co (is_suspended frames) q l =
    let vs = all_pending first_form (one J) (map frame_one frames) in
    subst (λ ws. Both (closes_in first_form (one J) co None vs) (closes_in second_form (two J) co None ws)) (pending_same J co frames q.even l) (closes_in_both J co None vs q)
closes_both J co (has_failed e pending) q l = closes_in_both J co (Some e) pending q
closes_both J co is_dead q l = closes_in_both J co None [] q
closes_both J co is_running q l = raises_both J (codes "cannot close a running coroutine") q
closes_both J co (is_normal frames) q l = raises_both J (codes "cannot close a normal coroutine") q

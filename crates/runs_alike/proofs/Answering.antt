-- Calls, answers, results and errors in worlds that are dressed anew.
use Rattle.std.proofs.Common.{◌≡◌, ℕ, zero, suc, Bool, List, [], ◌∷◌, length, Option, Some, None, refl, sym, ◌∙◌, ap, subst, arith}
use Rattle.std.specs.Prelude.{slice_set, nat_lt, map}
use Rattle.int_core.specs.Value.{Value, known, primitive, object, a_function, error_or_nil}
use Rattle.int_core.specs.Limits.{greatest_resumes, stack_overflow}
use Rattle.int_core.specs.Operations.{Callee, callee, not_callable, callee_of, greatest_chain, handler_in, of_close}
use Rattle.int_core.specs.Ask.{Reply, values, left, Answer, IsLeft}
use Rattle.lua_meaning.specs.World.{System, Asker, Frame, talking, waiting, raising, protected, handled_by, handling, closing, Coroutine, fresh, suspended, running, normal, dead, failed, Now, gives_back, unwinds, World, now_in, on_frames, has_room, runs_main, raises_text, shared_out, second, given_to, answered}
use Rattle.lua_meaning.specs.Calls.{error_in_handler, put_coroutine, all_pending, all_closed, enters, pays_with, pays_for, calls_value, calls_over, closes_on, handed, raised_to, unwound, goes_along, goes_into, resumes, closes_in, closes_coroutine}
use Rattle.runs_alike.proofs.Dressed.{Part, state, goes, nothing, dressed_asker, dress_frame, dress, dress_coroutine, dress_world, AskerLike, Any, FrameLike, FramesLike, CoroutineLike, Like, Out, count_out, pending_same, Found, is_none, is_some, found, AsksAreMid, BeginAlike}
use Rattle.runs_alike.proofs.Moving.{same_out, set_same, set_like, room_same, either_out, either_by, frames_like, now_out, raises_out, then_out, returns_out, fails_out}

module _ {A B S T : Type 0} (Sa : System A S) (Sb : System B T) (R : Bool → A → B → Type 0) (Q : Bool → A → B → S → T → Type 0) (asks : AsksAreMid Sa Sb R Q) (begins : BeginAlike Sa Sb R Q) where
  abbrev Both : World A S → World B T → Type 0
  Both X Y = Out Sa Sb R Q X Y

  abbrev Alike : World A S → List B → List (List (Part T)) → List (Part T) → Type 0
  Alike W bs xss xs = Like Sa Sb R Q W bs xss xs

  -- the same with another budget
  pub fuel_like : (W : World A S) (bs : List B) (xss : List (List (Part T))) (xs : List (Part T)) (fuel : ℕ) → Alike W bs xss xs → Alike (record W { fuel = fuel }) bs xss xs
  fuel_like W bs xss xs fuel like = record { functions = like.functions; coroutines = like.coroutines; frames = like.frames }

  -- what a refused call becomes, before it is paid or after
  abbrev Refusals : World A S → List B → List (List (Part T)) → List (Part T) → (List ℕ → World A S → World A S) → (List ℕ → World B T → World B T) → Type 0
  Refusals W bs xss xs ra rb = (why : List ℕ) (fuel : ℕ) → Both (ra why (record W { fuel = fuel })) (rb why (record (dress_world W bs xss xs) { fuel = fuel }))

  abbrev pub raises_a : List ℕ → World A S → World A S
  raises_a why V = raises_text V why

  abbrev pub raises_b : List ℕ → World B T → World B T
  raises_b why V = raises_text V why

  pub raises_refusals : (W : World A S) (bs : List B) (xss : List (List (Part T))) (xs : List (Part T)) → Alike W bs xss xs → Refusals W bs xss xs raises_a raises_b
  raises_refusals W bs xss xs like why fuel = raises_out Sa Sb R Q why (record W { fuel = fuel }) bs xss xs (fuel_like W bs xss xs fuel like)

  abbrev gives_up_a : List ℕ → World A S → World A S
  gives_up_a why V = now_in V (unwinds error_in_handler)

  abbrev gives_up_b : List ℕ → World B T → World B T
  gives_up_b why V = now_in V (unwinds error_in_handler)

  give_up_refusals : (W : World A S) (bs : List B) (xss : List (List (Part T))) (xs : List (Part T)) → Alike W bs xss xs → Refusals W bs xss xs gives_up_a gives_up_b
  give_up_refusals W bs xss xs like why fuel = now_out Sa Sb R Q (record W { fuel = fuel }) bs xss xs (unwinds error_in_handler) (fuel_like W bs xss xs fuel like)

  -- answers

  pub count_second : (shared : List (ℕ × Value)) → length (map second shared) ≡ length shared
  count_second [] = refl
  count_second (s ∷ shared) = let h = count_second shared in omega (arith, h)

  given_out : (P : Reply → Type 0) (W : World A S) (bs : List B) (xss : List (List (Part T))) (xs : List (Part T)) (k : Asker S) (g : Answer → T) (x : Answer) (below : List (Frame S)) (ys : List (Part T))
      → Alike W bs xss xs → AskerLike Sa Sb R Q P W.functions bs k g → P x.reply → length x.shared ≡ length k.shared → FramesLike Sa Sb R Q W.functions bs below ys
      → Both (given_to W k x below) (given_to (dress_world W bs xss xs) (dressed_asker k g) x (dress below ys))
  given_out P W bs xss xs k g x below ys like one fits count rest =
      let f = one.body.function in
      same_out Sa Sb R Q (given_to W k x below) bs xss (state (g x) ∷ ys)
      (record { functions = like.functions; coroutines = like.coroutines; frames = (record { body = one.body; mid = asks f.has_lines f.made_of one.body.code (k.goes x) (g x) (one.on x fits count) }, rest) })

  pub answered_out : (P : Reply → Type 0) (W : World A S) (bs : List B) (xss : List (List (Part T))) (xs : List (Part T)) (k : Asker S) (g : Answer → T) (reply : Reply) (below : List (Frame S)) (ys : List (Part T))
      → Alike W bs xss xs → AskerLike Sa Sb R Q P W.functions bs k g → P reply → FramesLike Sa Sb R Q W.functions bs below ys
      → Both (answered W k reply below) (answered (dress_world W bs xss xs) (dressed_asker k g) reply (dress below ys))
  answered_out P W bs xss xs k g reply below ys like one fits rest =
      given_out P W bs xss xs k g (record { reply = reply; shared = shared_out k.shared W.cells; cell = 0 }) below ys like one fits (count_out Sa Sb R Q k.shared W.cells) rest

  -- calls

  enters_out : (W : World A S) (bs : List B) (xss : List (List (Part T))) (xs : List (Part T)) (f : Value) (arguments : List Value)
      (ra : List ℕ → World A S → World A S) (rb : List ℕ → World B T → World B T) → Alike W bs xss xs → Refusals W bs xss xs ra rb
      → Both (enters Sa W f arguments ra) (enters Sb (dress_world W bs xss xs) f arguments rb)
  enters_out W bs xss xs (known (primitive m)) arguments ra rb like r = now_out Sa Sb R Q W bs xss xs _ like
  enters_out W bs xss xs (object a_function m) arguments ra rb like r = by (found Sa Sb R Q W.functions bs m like.functions) where
    by : Found Sa Sb R Q W.functions bs m → Both (enters Sa W (object a_function m) arguments ra) (enters Sb (dress_world W bs xss xs) (object a_function m) arguments rb)
    by (is_none e d) = rw (e, d) (now_out Sa Sb R Q W bs xss xs _ like)
    by (is_some body means) =
        rw (body.there, body.there_too, room_same Sa Sb R Q W bs xss xs like)
        (either_out Sa Sb R Q (has_room W) _ _ _ _
        (record {
          bs = bs;
          xss = xss;
          xs = state (Sb.starts body.code arguments) ∷ xs;
          same = refl;
          like = record {
            functions = like.functions;
            coroutines = like.coroutines;
            frames = (
              record {
                body = body;
                mid = asks body.function.has_lines body.function.made_of body.code _ _ (begins body.function.has_lines body.function.made_of body.code arguments means);
              },
              like.frames,
            );
          };
        })
        (r stack_overflow W.fuel))
  enters_out W bs xss xs f arguments ra rb like r = now_out Sa Sb R Q W bs xss xs _ like

  pays_with_out : (m : ℕ) (W : World A S) (bs : List B) (xss : List (List (Part T))) (xs : List (Part T)) (f : Value) (arguments : List Value)
      (ra : List ℕ → World A S → World A S) (rb : List ℕ → World B T → World B T) → Alike W bs xss xs → Refusals W bs xss xs ra rb
      → Both (pays_with Sa m W f arguments ra) (pays_with Sb m (dress_world W bs xss xs) f arguments rb)
  pays_with_out zero W bs xss xs f arguments ra rb like r = now_out Sa Sb R Q W bs xss xs _ like
  pays_with_out (suc m) W bs xss xs f arguments ra rb like r =
      enters_out (record W { fuel = m }) bs xss xs f arguments ra rb (fuel_like W bs xss xs m like) r

  pays_out : (W : World A S) (bs : List B) (xss : List (List (Part T))) (xs : List (Part T)) (c : Callee)
      (ra : List ℕ → World A S → World A S) (rb : List ℕ → World B T → World B T) → Alike W bs xss xs → Refusals W bs xss xs ra rb
      → Both (pays_for Sa W c ra) (pays_for Sb (dress_world W bs xss xs) c rb)
  pays_out W bs xss xs (not_callable why) ra rb like r = r why W.fuel
  pays_out W bs xss xs (callee f arguments) ra rb like r = pays_with_out W.fuel W bs xss xs f arguments ra rb like r

  pub calls_out : (W : World A S) (bs : List B) (xss : List (List (Part T))) (xs : List (Part T)) (f : Value) (arguments : List Value)
      (ra : List ℕ → World A S → World A S) (rb : List ℕ → World B T → World B T) → Alike W bs xss xs → Refusals W bs xss xs ra rb
      → Both (calls_value Sa W f arguments ra) (calls_value Sb (dress_world W bs xss xs) f arguments rb)
  calls_out W bs xss xs f arguments ra rb like r = pays_out W bs xss xs (callee_of greatest_chain W.heap f arguments) ra rb like r

  -- a frame that is no activation's, on top of all
  pub calls_over_out : (W : World A S) (bs : List B) (xss : List (List (Part T))) (xs : List (Part T)) (fa : Frame S) (f : Value) (arguments : List Value)
      → FrameLike Sa Sb R Q W.functions bs fa nothing → Alike W bs xss xs
      → Both (calls_over Sa W fa f arguments) (calls_over Sb (dress_world W bs xss xs) (dress_frame fa nothing) f arguments)
  calls_over_out W bs xss xs fa f arguments one like =
      either_by Sa Sb R Q (has_room W) (has_room (dress_world W bs xss xs)) _ _ _ _ (room_same Sa Sb R Q W bs xss xs like)
      (let there = frames_like Sa Sb R Q W bs xss xs (fa ∷ W.frames) (nothing ∷ xs) like (one, like.frames) in
      calls_out (on_frames W (fa ∷ W.frames)) bs xss (nothing ∷ xs) f arguments raises_a raises_b there (raises_refusals (on_frames W (fa ∷ W.frames)) bs xss (nothing ∷ xs) there))
      (raises_out Sa Sb R Q stack_overflow W bs xss xs like)

  all_closed_out : (W : World A S) (bs : List B) (xss : List (List (Part T))) (xs : List (Part T)) (e : Option Value) → Alike W bs xss xs
      → Both (all_closed W e) (all_closed (dress_world W bs xss xs) e)
  all_closed_out W bs xss xs None like = now_out Sa Sb R Q W bs xss xs _ like
  all_closed_out W bs xss xs (Some e) like = now_out Sa Sb R Q W bs xss xs _ like

  pub closes_on_out : (W : World A S) (bs : List B) (xss : List (List (Part T))) (xs : List (Part T)) (e : Option Value) (vs : List Value) (below : List (Frame S)) (ys : List (Part T))
      → Alike W bs xss xs → FramesLike Sa Sb R Q W.functions bs below ys → Both (closes_on Sa W e vs below) (closes_on Sb (dress_world W bs xss xs) e vs (dress below ys))
  closes_on_out W bs xss xs e [] below ys like rest = all_closed_out (on_frames W below) bs xss ys e (frames_like Sa Sb R Q W bs xss xs below ys like rest)
  closes_on_out W bs xss xs e (v ∷ vs) below ys like rest =
      let there = frames_like Sa Sb R Q W bs xss xs (closing e vs ∷ below) (nothing ∷ ys) like (tt, rest) in
      calls_out (on_frames W (closing e vs ∷ below)) bs xss (nothing ∷ ys) (handler_in W.heap of_close v) (v ∷ error_or_nil e ∷ []) raises_a raises_b
      there (raises_refusals (on_frames W (closing e vs ∷ below)) bs xss (nothing ∷ ys) there)

  -- results and errors that reach the frame on top

  abbrev leaf : (W : World A S) (bs : List B) (xss : List (List (Part T))) (xs : List (Part T)) (below : List (Frame S)) (ys : List (Part T)) (now : Now)
      → Alike W bs xss xs → FramesLike Sa Sb R Q W.functions bs below ys → Both (now_in (on_frames W below) now) (now_in (on_frames (dress_world W bs xss xs) (dress below ys)) now)
  leaf W bs xss xs below ys now like rest = now_out Sa Sb R Q (on_frames W below) bs xss ys now (frames_like Sa Sb R Q W bs xss xs below ys like rest)

  pub handed_out : (W : World A S) (bs : List B) (xss : List (List (Part T))) (xs : List (Part T)) (vs : List Value) (frames : List (Frame S)) (ys : List (Part T))
      → Alike W bs xss xs → FramesLike Sa Sb R Q W.functions bs frames ys → Both (handed Sa W vs frames) (handed Sb (dress_world W bs xss xs) vs (dress frames ys))
  handed_out W bs xss xs vs [] [] like all = returns_out Sa Sb R Q W bs xss xs vs like
  handed_out W bs xss xs vs (talking f s ∷ below) (state t ∷ ys) like all = now_out Sa Sb R Q W bs xss xs _ like
  handed_out W bs xss xs vs (waiting k ∷ below) (goes g ∷ ys) like all = answered_out (Any Sa Sb R Q) W bs xss xs k g (values vs) below ys like all.0 tt all.1
  handed_out W bs xss xs vs (raising k ∷ below) (goes g ∷ ys) like all = now_out Sa Sb R Q W bs xss xs _ like
  handed_out W bs xss xs vs (protected ∷ below) (x ∷ ys) like all = leaf W bs xss xs below ys _ like all.1
  handed_out W bs xss xs vs (handled_by h ∷ below) (x ∷ ys) like all = leaf W bs xss xs below ys _ like all.1
  handed_out W bs xss xs vs (handling ∷ below) (x ∷ ys) like all = leaf W bs xss xs below ys _ like all.1
  handed_out W bs xss xs vs (closing e left_ones ∷ below) (x ∷ ys) like all = closes_on_out W bs xss xs e left_ones below ys like all.1
  handed_out W bs xss xs vs (f ∷ below) (x ∷ ys) like all = absurd all.0
  handed_out W bs xss xs vs [] (x ∷ ys) like all = absurd all
  handed_out W bs xss xs vs (f ∷ below) [] like all = absurd all

  pub raised_out : (W : World A S) (bs : List B) (xss : List (List (Part T))) (xs : List (Part T)) (e : Value) (frames : List (Frame S)) (ys : List (Part T))
      → Alike W bs xss xs → FramesLike Sa Sb R Q W.functions bs frames ys → Both (raised_to Sa W e frames) (raised_to Sb (dress_world W bs xss xs) e (dress frames ys))
  raised_out W bs xss xs e [] [] like all = either_out Sa Sb R Q (runs_main W) _ _ _ _ (now_out Sa Sb R Q W bs xss xs _ like) (fails_out Sa Sb R Q W bs xss xs e like)
  raised_out W bs xss xs e (talking f s ∷ frames) (state t ∷ ys) like all = raised_out W bs xss xs e frames ys like all.1
  raised_out W bs xss xs e (waiting k ∷ frames) (goes g ∷ ys) like all = raised_out W bs xss xs e frames ys like all.1
  raised_out W bs xss xs e (raising k ∷ frames) (goes g ∷ ys) like all = raised_out W bs xss xs e frames ys like all.1
  raised_out W bs xss xs e (handled_by h ∷ frames) (x ∷ ys) like all =
      either_by Sa Sb R Q (has_room W) (has_room (dress_world W bs xss xs)) _ _ _ _ (room_same Sa Sb R Q W bs xss xs like)
      (let there = frames_like Sa Sb R Q W bs xss xs (handling ∷ W.frames) (nothing ∷ xs) like (tt, like.frames) in
      calls_out (on_frames W (handling ∷ W.frames)) bs xss (nothing ∷ xs) h (e ∷ []) gives_up_a gives_up_b
      there (give_up_refusals (on_frames W (handling ∷ W.frames)) bs xss (nothing ∷ xs) there))
      (now_out Sa Sb R Q W bs xss xs (unwinds error_in_handler) like)
  raised_out W bs xss xs e (protected ∷ frames) (x ∷ ys) like all = now_out Sa Sb R Q W bs xss xs _ like
  raised_out W bs xss xs e (handling ∷ frames) (x ∷ ys) like all = now_out Sa Sb R Q W bs xss xs _ like
  raised_out W bs xss xs e (closing error vs ∷ frames) (x ∷ ys) like all = now_out Sa Sb R Q W bs xss xs _ like
  raised_out W bs xss xs e (f ∷ frames) (x ∷ ys) like all = absurd all.0
  raised_out W bs xss xs e [] (x ∷ ys) like all = absurd all
  raised_out W bs xss xs e (f ∷ frames) [] like all = absurd all

  pub unwound_out : (W : World A S) (bs : List B) (xss : List (List (Part T))) (xs : List (Part T)) (e : Value) (frames : List (Frame S)) (ys : List (Part T))
      → Alike W bs xss xs → FramesLike Sa Sb R Q W.functions bs frames ys → Both (unwound Sa W e frames) (unwound Sb (dress_world W bs xss xs) e (dress frames ys))
  unwound_out W bs xss xs e [] [] like all = fails_out Sa Sb R Q W bs xss xs e like
  unwound_out W bs xss xs e (talking f s ∷ below) (state t ∷ ys) like all = now_out Sa Sb R Q W bs xss xs _ like
  unwound_out W bs xss xs e (waiting k ∷ below) (goes g ∷ ys) like all = answered_out (Any Sa Sb R Q) W bs xss xs k g (left e) below ys like all.0 tt all.1
  unwound_out W bs xss xs e (raising k ∷ below) (goes g ∷ ys) like all = answered_out IsLeft W bs xss xs k g (left e) below ys like all.0 tt all.1
  unwound_out W bs xss xs e (protected ∷ below) (x ∷ ys) like all = leaf W bs xss xs below ys _ like all.1
  unwound_out W bs xss xs e (handled_by h ∷ below) (x ∷ ys) like all = leaf W bs xss xs below ys _ like all.1
  unwound_out W bs xss xs e (handling ∷ below) (x ∷ ys) like all = leaf W bs xss xs below ys _ like all.1
  unwound_out W bs xss xs e (closing error vs ∷ below) (x ∷ ys) like all = closes_on_out W bs xss xs (Some e) vs below ys like all.1
  unwound_out W bs xss xs e (f ∷ below) (x ∷ ys) like all = absurd all.0
  unwound_out W bs xss xs e [] (x ∷ ys) like all = absurd all
  unwound_out W bs xss xs e (f ∷ below) [] like all = absurd all

  -- coroutines

  along_out : (W : World A S) (bs : List B) (xss : List (List (Part T))) (xs : List (Part T)) (co : ℕ) (frames : List (Frame S)) (ys : List (Part T)) (chain : List ℕ)
      → Alike W bs xss xs → FramesLike Sa Sb R Q W.functions bs frames ys → Both (goes_along W co frames chain) (goes_along (dress_world W bs xss xs) co (dress frames ys) chain)
  along_out W bs xss xs co frames ys [] like all = now_out Sa Sb R Q W bs xss xs _ like
  along_out W bs xss xs co frames ys (by ∷ chain) like all =
      let first = set_same Sa Sb R Q W.functions bs W.coroutines xss by (normal W.frames) xs like.coroutines in
      let first_like = set_like Sa Sb R Q W.functions bs W.coroutines xss by (normal W.frames) xs like.coroutines like.frames in
      let next = set_same Sa Sb R Q W.functions bs (slice_set W.coroutines by (normal W.frames)) (slice_set xss by xs) co running [] first_like in
      record {
        bs = bs;
        xss = slice_set (slice_set xss by xs) co [];
        xs = ys;
        same =
            ap (λ cs. record (dress_world W bs xss xs) { coroutines = slice_set cs co running; chain = co ∷ by ∷ chain; frames = dress frames ys }) first
            ∙ ap (λ cs. record (dress_world W bs xss xs) { coroutines = cs; chain = co ∷ by ∷ chain; frames = dress frames ys }) next;
        like = record {
          functions = like.functions;
          coroutines = set_like Sa Sb R Q W.functions bs (slice_set W.coroutines by (normal W.frames)) (slice_set xss by xs) co running [] first_like tt;
          frames = all;
        };
      }

  pub resumes_out : (W : World A S) (bs : List B) (xss : List (List (Part T))) (xs : List (Part T)) (co : ℕ) (c : Coroutine S) (ys : List (Part T)) (vs : List Value)
      → Alike W bs xss xs → CoroutineLike Sa Sb R Q W.functions bs c ys → Both (resumes Sa W co c vs) (resumes Sb (dress_world W bs xss xs) co (dress_coroutine c ys) vs)
  resumes_out W bs xss xs co (suspended frames) ys vs like one =
      either_out Sa Sb R Q (nat_lt greatest_resumes (length W.chain)) _ _ _ _ (now_out Sa Sb R Q W bs xss xs _ like)
      (then_out Sa Sb R Q (goes_into W co frames) (now_in (goes_into W co frames) (gives_back vs)) (goes_into (dress_world W bs xss xs) co (dress frames ys)) (λ V. now_in V (gives_back vs))
      (along_out W bs xss xs co frames ys W.chain like one) (λ bs' xss' xs' like'. now_out Sa Sb R Q (goes_into W co frames) bs' xss' xs' (gives_back vs) like'))
  resumes_out W bs xss xs co (fresh body) ys vs like one =
      either_out Sa Sb R Q (nat_lt greatest_resumes (length W.chain)) _ _ _ _ (now_out Sa Sb R Q W bs xss xs _ like)
      (then_out Sa Sb R Q (goes_into W co []) (enters Sa (goes_into W co []) body vs raises_a) (goes_into (dress_world W bs xss xs) co []) (λ V. enters Sb V body vs raises_b)
      (along_out W bs xss xs co [] [] W.chain like tt) (λ bs' xss' xs' like'. enters_out (goes_into W co []) bs' xss' xs' body vs raises_a raises_b like' (raises_refusals (goes_into W co []) bs' xss' xs' like')))
  resumes_out W bs xss xs co _ ys vs like one = now_out Sa Sb R Q W bs xss xs _ like

  dead_out : (W : World A S) (bs : List B) (xss : List (List (Part T))) (xs : List (Part T)) (co : ℕ) → Alike W bs xss xs → Both (put_coroutine W co dead) (put_coroutine (dress_world W bs xss xs) co dead)
  dead_out W bs xss xs co like = record {
    bs = bs;
    xss = slice_set xss co [];
    xs = xs;
    same = ap (λ cs. record (dress_world W bs xss xs) { coroutines = cs }) (set_same Sa Sb R Q W.functions bs W.coroutines xss co dead [] like.coroutines);
    like = record { functions = like.functions; coroutines = set_like Sa Sb R Q W.functions bs W.coroutines xss co dead [] like.coroutines tt; frames = like.frames };
  }

  closes_in_out : (W : World A S) (bs : List B) (xss : List (List (Part T))) (xs : List (Part T)) (co : ℕ) (e : Option Value) (vs : List Value) → Alike W bs xss xs
      → Both (closes_in Sa W co e vs) (closes_in Sb (dress_world W bs xss xs) co e vs)
  closes_in_out W bs xss xs co e vs like =
      let dead_like = set_like Sa Sb R Q W.functions bs W.coroutines xss co dead [] like.coroutines tt in
      either_by Sa Sb R Q (has_room W) (has_room (dress_world W bs xss xs)) _ _ _ _ (room_same Sa Sb R Q W bs xss xs like)
      (subst (λ cs. Both (closes_on Sa (put_coroutine W co dead) e vs W.frames) (closes_on Sb (record (dress_world W bs xss xs) { coroutines = cs }) e vs (dress W.frames xs)))
      (sym (set_same Sa Sb R Q W.functions bs W.coroutines xss co dead [] like.coroutines))
      (closes_on_out (put_coroutine W co dead) bs (slice_set xss co []) xs e vs W.frames xs (record { functions = like.functions; coroutines = dead_like; frames = like.frames }) like.frames))
      (raises_out Sa Sb R Q stack_overflow W bs xss xs like)

  pub closes_out : (W : World A S) (bs : List B) (xss : List (List (Part T))) (xs : List (Part T)) (co : ℕ) (c : Coroutine S) (ys : List (Part T))
      → Alike W bs xss xs → CoroutineLike Sa Sb R Q W.functions bs c ys → Both (closes_coroutine Sa W co c) (closes_coroutine Sb (dress_world W bs xss xs) co (dress_coroutine c ys))
  closes_out W bs xss xs co (fresh body) ys like one = closes_in_out W bs xss xs co None [] like
  closes_out W bs xss xs co (suspended frames) ys like one =
      subst (λ vs. Both (closes_in Sa W co None (all_pending Sa W frames)) (closes_in Sb (dress_world W bs xss xs) co None vs)) (sym (pending_same Sa Sb R Q W bs xss xs frames ys one))
      (closes_in_out W bs xss xs co None (all_pending Sa W frames) like)
  closes_out W bs xss xs co (failed e pending) ys like one = closes_in_out W bs xss xs co (Some e) pending like
  closes_out W bs xss xs co dead ys like one = closes_in_out W bs xss xs co None [] like
  closes_out W bs xss xs co running ys like one = raises_out Sa Sb R Q _ W bs xss xs like
  closes_out W bs xss xs co (normal frames) ys like one = raises_out Sa Sb R Q _ W bs xss xs like

-- What worlds do to calls, results, errors and coroutines, they do alike to worlds that are dressed anew.
use Rattle.std.proofs.Common.{◌≡◌, ℕ, zero, suc, Bool, true, false, cond, List, [], ◌∷◌, ◌++◌, Option, Some, None, refl, sym, ◌∙◌, ap, subst}
use Rattle.std.specs.Prelude.{slice_get, slice_set}
use Rattle.int_core.specs.Value.{Value}
use Rattle.int_core.specs.Limits.{stack_overflow}
use Rattle.lua_meaning.specs.World.{System, Function, Frame, talking, waiting, raising, protected, handled_by, handling, closing, Coroutine, suspended, running, normal, dead, failed, Now, gives_back, raises_error, World, now_in, on_frames, has_room, runs_main, position_of, positions_of, where_at, where_among, blamed, raises_text}
use Rattle.lua_meaning.specs.Calls.{frames_in, back_to, returns_all, fails_all, all_pending, yields}
use Rattle.runs_alike.proofs.Dressed.{Part, state, goes, dress_frame, dress, dress_coroutine, dress_coroutines, dress_world, FrameLike, FramesLike, CoroutineLike, CoroutinesLike, Like, Out, pending_same, length_same}

module _ {A B S T : Type 0} (Sa : System A S) (Sb : System B T) (R : Bool → A → B → Type 0) (Q : Bool → A → B → S → T → Type 0) where
  -- lists of coroutines

  pub set_same : (fs : List (Function A)) (bs : List B) (cs : List (Coroutine S)) (xss : List (List (Part T))) (k : ℕ) (c : Coroutine S) (ys : List (Part T))
      → CoroutinesLike Sa Sb R Q fs bs cs xss → slice_set (dress_coroutines cs xss) k (dress_coroutine c ys) ≡ dress_coroutines (slice_set cs k c) (slice_set xss k ys)
  set_same fs bs [] [] k c ys like = refl
  set_same fs bs (d ∷ cs) (xs ∷ xss) zero c ys like = refl
  set_same fs bs (d ∷ cs) (xs ∷ xss) (suc k) c ys like = ap (λ z. dress_coroutine d xs ∷ z) (set_same fs bs cs xss k c ys like.1)
  set_same fs bs [] (xs ∷ xss) k c ys like = absurd like
  set_same fs bs (d ∷ cs) [] k c ys like = absurd like

  pub set_like : (fs : List (Function A)) (bs : List B) (cs : List (Coroutine S)) (xss : List (List (Part T))) (k : ℕ) (c : Coroutine S) (ys : List (Part T))
      → CoroutinesLike Sa Sb R Q fs bs cs xss → CoroutineLike Sa Sb R Q fs bs c ys → CoroutinesLike Sa Sb R Q fs bs (slice_set cs k c) (slice_set xss k ys)
  set_like fs bs [] [] k c ys like one = tt
  set_like fs bs (d ∷ cs) (xs ∷ xss) zero c ys like one = (one, like.1)
  set_like fs bs (d ∷ cs) (xs ∷ xss) (suc k) c ys like one = (like.0, set_like fs bs cs xss k c ys like.1 one)
  set_like fs bs [] (xs ∷ xss) k c ys like one = absurd like
  set_like fs bs (d ∷ cs) [] k c ys like one = absurd like

  pub with_same : (fs : List (Function A)) (bs : List B) (cs : List (Coroutine S)) (xss : List (List (Part T))) (c : Coroutine S) (ys : List (Part T))
      → CoroutinesLike Sa Sb R Q fs bs cs xss → dress_coroutines cs xss ++ dress_coroutine c ys ∷ [] ≡ dress_coroutines (cs ++ c ∷ []) (xss ++ ys ∷ [])
  with_same fs bs [] [] c ys like = refl
  with_same fs bs (d ∷ cs) (xs ∷ xss) c ys like = ap (λ z. dress_coroutine d xs ∷ z) (with_same fs bs cs xss c ys like.1)
  with_same fs bs [] (xs ∷ xss) c ys like = absurd like
  with_same fs bs (d ∷ cs) [] c ys like = absurd like

  pub with_like : (fs : List (Function A)) (bs : List B) (cs : List (Coroutine S)) (xss : List (List (Part T))) (c : Coroutine S) (ys : List (Part T))
      → CoroutinesLike Sa Sb R Q fs bs cs xss → CoroutineLike Sa Sb R Q fs bs c ys → CoroutinesLike Sa Sb R Q fs bs (cs ++ c ∷ []) (xss ++ ys ∷ [])
  with_like fs bs [] [] c ys like one = (one, tt)
  with_like fs bs (d ∷ cs) (xs ∷ xss) c ys like one = (like.0, with_like fs bs cs xss c ys like.1 one)
  with_like fs bs [] (xs ∷ xss) c ys like one = absurd like
  with_like fs bs (d ∷ cs) [] c ys like one = absurd like

  -- the frames of a coroutine
  pub record Within (fs : List (Function A)) (bs : List B) (o : Option (Coroutine S)) (p : Option (Coroutine T)) : Type 0 where
    pub ys : List (Part T)
    pub same : frames_in p ≡ dress (frames_in o) ys
    pub like : FramesLike Sa Sb R Q fs bs (frames_in o) ys

  frames_within : (fs : List (Function A)) (bs : List B) (c : Coroutine S) (xs : List (Part T)) → CoroutineLike Sa Sb R Q fs bs c xs → Within fs bs (Some c) (Some (dress_coroutine c xs))
  frames_within fs bs (suspended frames) xs like = record { ys = xs; same = refl; like = like }
  frames_within fs bs (normal frames) xs like = record { ys = xs; same = refl; like = like }
  frames_within fs bs _ xs like = record { ys = []; same = refl; like = tt }

  pub get_like : (fs : List (Function A)) (bs : List B) (cs : List (Coroutine S)) (xss : List (List (Part T))) (k : ℕ)
      → CoroutinesLike Sa Sb R Q fs bs cs xss → Within fs bs (slice_get cs k) (slice_get (dress_coroutines cs xss) k)
  get_like fs bs [] [] k like = record { ys = []; same = refl; like = tt }
  get_like fs bs (d ∷ cs) (xs ∷ xss) zero like = frames_within fs bs d xs like.0
  get_like fs bs (d ∷ cs) (xs ∷ xss) (suc k) like = get_like fs bs cs xss k like.1
  get_like fs bs [] (xs ∷ xss) k like = absurd like
  get_like fs bs (d ∷ cs) [] k like = absurd like

  -- positions

  position_same : (W : World A S) (bs : List B) (xss : List (List (Part T))) (xs : List (Part T)) (frame : Frame S) (x : Part T)
      → FrameLike Sa Sb R Q W.functions bs frame x → position_of (dress_world W bs xss xs) (dress_frame frame x) ≡ position_of W frame
  position_same W bs xss xs (talking f s) (state t) like = refl
  position_same W bs xss xs (waiting k) (goes g) like = rw (like.body.there, like.body.there_too) refl
  position_same W bs xss xs (raising k) (goes g) like = rw (like.body.there, like.body.there_too) refl
  position_same W bs xss xs protected x like = refl
  position_same W bs xss xs (handled_by h) x like = refl
  position_same W bs xss xs handling x like = refl
  position_same W bs xss xs (closing e vs) x like = refl
  position_same W bs xss xs frame x like = absurd like

  positions_same : (W : World A S) (bs : List B) (xss : List (List (Part T))) (xs : List (Part T)) (frames : List (Frame S)) (ys : List (Part T))
      → FramesLike Sa Sb R Q W.functions bs frames ys → positions_of (dress_world W bs xss xs) (dress frames ys) ≡ positions_of W frames
  positions_same W bs xss xs [] [] like = refl
  positions_same W bs xss xs (f ∷ frames) (y ∷ ys) like = rw (position_same W bs xss xs f y like.0, positions_same W bs xss xs frames ys like.1) refl
  positions_same W bs xss xs [] (y ∷ ys) like = absurd like
  positions_same W bs xss xs (f ∷ frames) [] like = absurd like

  among_same : (W : World A S) (V : World B T) (n : ℕ) (places : List (Option (List ℕ))) → where_among V n places ≡ where_among W n places
  among_same W V n [] = refl
  among_same W V n (None ∷ places) = among_same W V n places
  among_same W V zero (Some place ∷ places) = refl
  among_same W V (suc n) (Some place ∷ places) = among_same W V n places

  pub where_same : (m : ℕ) (W : World A S) (bs : List B) (xss : List (List (Part T))) (xs : List (Part T)) → Like Sa Sb R Q W bs xss xs → where_at (dress_world W bs xss xs) m ≡ where_at W m
  where_same m W bs xss xs like = ap (where_among (dress_world W bs xss xs) m) (positions_same W bs xss xs W.frames xs like.frames) ∙ among_same W (dress_world W bs xss xs) m (positions_of W W.frames)

  blamed_same : (W : World A S) (bs : List B) (xss : List (List (Part T))) (xs : List (Part T)) (why : List ℕ) → Like Sa Sb R Q W bs xss xs → blamed (dress_world W bs xss xs) why ≡ blamed W why
  blamed_same W bs xss xs why like = ap (λ place. Rattle.int_core.specs.Limits.limited (place ++ why)) (where_same 0 W bs xss xs like)

  pub room_same : (W : World A S) (bs : List B) (xss : List (List (Part T))) (xs : List (Part T)) → Like Sa Sb R Q W bs xss xs → has_room (dress_world W bs xss xs) ≡ has_room W
  room_same W bs xss xs like = rw (length_same Sa Sb R Q W.functions bs W.frames xs like.frames) refl

  -- worlds

  abbrev Both : World A S → World B T → Type 0
  Both X Y = Out Sa Sb R Q X Y

  pub either_out : (c : Bool) (X Z : World A S) (Y V : World B T) → Both X Y → Both Z V → Both (cond c X Z) (cond c Y V)
  either_out true X Z Y V one two = one
  either_out false X Z Y V one two = two

  -- where the tests are the same
  pub either_by : (c d : Bool) (X Z : World A S) (Y V : World B T) → d ≡ c → Both X Y → Both Z V → Both (cond c X Z) (cond d Y V)
  either_by c d X Z Y V e one two = subst (λ b. Both (cond c X Z) (cond b Y V)) (sym e) (either_out c X Z Y V one two)

  pub now_like : (W : World A S) (bs : List B) (xss : List (List (Part T))) (xs : List (Part T)) (now : Now) → Like Sa Sb R Q W bs xss xs → Like Sa Sb R Q (now_in W now) bs xss xs
  now_like W bs xss xs now like = record { functions = like.functions; coroutines = like.coroutines; frames = like.frames }

  pub frames_like : (W : World A S) (bs : List B) (xss : List (List (Part T))) (xs : List (Part T)) (frames : List (Frame S)) (ys : List (Part T))
      → Like Sa Sb R Q W bs xss xs → FramesLike Sa Sb R Q W.functions bs frames ys → Like Sa Sb R Q (on_frames W frames) bs xss ys
  frames_like W bs xss xs frames ys like rest = record { functions = like.functions; coroutines = like.coroutines; frames = rest }

  pub same_out : (W : World A S) (bs : List B) (xss : List (List (Part T))) (xs : List (Part T)) → Like Sa Sb R Q W bs xss xs → Both W (dress_world W bs xss xs)
  same_out W bs xss xs like = record { bs = bs; xss = xss; xs = xs; same = refl; like = like }

  pub now_out : (W : World A S) (bs : List B) (xss : List (List (Part T))) (xs : List (Part T)) (now : Now) → Like Sa Sb R Q W bs xss xs → Both (now_in W now) (now_in (dress_world W bs xss xs) now)
  now_out W bs xss xs now like = same_out (now_in W now) bs xss xs (now_like W bs xss xs now like)

  pub raises_out : (why : List ℕ) (W : World A S) (bs : List B) (xss : List (List (Part T))) (xs : List (Part T)) → Like Sa Sb R Q W bs xss xs
      → Both (raises_text W why) (raises_text (dress_world W bs xss xs) why)
  raises_out why W bs xss xs like = record {
    bs = bs;
    xss = xss;
    xs = xs;
    same = ap (λ e. now_in (dress_world W bs xss xs) (raises_error e)) (blamed_same W bs xss xs why like);
    like = now_like W bs xss xs (raises_error (blamed W why)) like;
  }

  -- coroutines that are left and ended

  back_out : (W : World A S) (bs : List B) (xss : List (List (Part T))) (xs : List (Part T)) (c : Coroutine S) (ys : List (Part T)) (vs : List Value) (chain : List ℕ)
      → Like Sa Sb R Q W bs xss xs → CoroutineLike Sa Sb R Q W.functions bs c ys → Both (back_to W c vs chain) (back_to (dress_world W bs xss xs) (dress_coroutine c ys) vs chain)
  back_out W bs xss xs c ys vs [] like one = now_out W bs xss xs _ like
  back_out W bs xss xs c ys vs (co ∷ []) like one = now_out W bs xss xs _ like
  back_out W bs xss xs c ys vs (co ∷ by ∷ chain) like one =
      let in_by = get_like W.functions bs W.coroutines xss by like.coroutines in
      let first = set_same W.functions bs W.coroutines xss co c ys like.coroutines in
      let first_like = set_like W.functions bs W.coroutines xss co c ys like.coroutines one in
      let next = set_same W.functions bs (slice_set W.coroutines co c) (slice_set xss co ys) by running [] first_like in
      record {
        bs = bs;
        xss = slice_set (slice_set xss co ys) by [];
        xs = in_by.ys;
        same =
            ap (λ cs. record (dress_world W bs xss xs) { coroutines = slice_set cs by running; chain = by ∷ chain; frames = frames_in (slice_get (dress_coroutines W.coroutines xss) by); now = gives_back vs }) first
            ∙ ap (λ cs. record (dress_world W bs xss xs) { coroutines = cs; chain = by ∷ chain; frames = frames_in (slice_get (dress_coroutines W.coroutines xss) by); now = gives_back vs }) next
            ∙ ap (λ frames. record (dress_world W bs xss xs) { coroutines = dress_coroutines (slice_set (slice_set W.coroutines co c) by running) (slice_set (slice_set xss co ys) by []); chain = by ∷ chain; frames = frames; now = gives_back vs }) in_by.same;
        like = record {
          functions = like.functions;
          coroutines = set_like W.functions bs (slice_set W.coroutines co c) (slice_set xss co ys) by running [] first_like tt;
          frames = in_by.like;
        };
      }

  pub returns_out : (W : World A S) (bs : List B) (xss : List (List (Part T))) (xs : List (Part T)) (vs : List Value) → Like Sa Sb R Q W bs xss xs
      → Both (returns_all W vs) (returns_all (dress_world W bs xss xs) vs)
  returns_out W bs xss xs vs like = either_out (runs_main W) _ _ _ _ (now_out W bs xss xs _ like) (back_out W bs xss xs dead [] _ W.chain like tt)

  pub fails_out : (W : World A S) (bs : List B) (xss : List (List (Part T))) (xs : List (Part T)) (e : Value) → Like Sa Sb R Q W bs xss xs
      → Both (fails_all Sa W e) (fails_all Sb (dress_world W bs xss xs) e)
  fails_out W bs xss xs e like =
      rw (pending_same Sa Sb R Q W bs xss xs W.frames xs like.frames)
      (either_out (runs_main W) _ _ _ _ (now_out W bs xss xs _ like) (back_out W bs xss xs (failed e (all_pending Sa W W.frames)) [] _ W.chain like tt))

  pub yields_out : (W : World A S) (bs : List B) (xss : List (List (Part T))) (xs : List (Part T)) (vs : List Value) → Like Sa Sb R Q W bs xss xs
      → Both (yields W vs) (yields (dress_world W bs xss xs) vs)
  yields_out W bs xss xs vs like = either_out (runs_main W) _ _ _ _ (now_out W bs xss xs _ like) (back_out W bs xss xs (suspended W.frames) xs _ W.chain like like.frames)

  -- one after another
  pub then_out : (X Z : World A S) (Y : World B T) (next : World B T → World B T) → Both X Y
      → ((bs : List B) (xss : List (List (Part T))) (xs : List (Part T)) → Like Sa Sb R Q X bs xss xs → Both Z (next (dress_world X bs xss xs))) → Both Z (next Y)
  then_out X Z Y next one more = subst (λ V. Both Z (next V)) (sym one.same) (more one.bs one.xss one.xs one.like)

-- New functions leave what is there alike.
use Rattle.std.proofs.Common.{◌≡◌, ℕ, zero, suc, Bool, List, [], ◌∷◌, ◌++◌, Some, refl, ap, subst}
use Rattle.std.specs.Prelude.{slice_get}
use Rattle.lua_meaning.specs.World.{System, Function, Frame, talking, waiting, raising, protected, handled_by, handling, closing, Coroutine, suspended, normal}
use Rattle.runs_alike.proofs.Dressed.{Part, state, goes, dressed_function, dress_functions, FunctionsLike, Body, FrameLike, FramesLike, CoroutineLike, CoroutinesLike}

module _ {A B S T : Type 0} (Sa : System A S) (Sb : System B T) (R : Bool → A → B → Type 0) (Q : Bool → A → B → S → T → Type 0) where
  pub get_more : {C : Type 0} → (fs : List C) (f : ℕ) (g x : C) → slice_get fs f ≡ Some g → slice_get (fs ++ x ∷ []) f ≡ Some g
  get_more [] f g x there = absurd (cc)
  get_more (h ∷ fs) zero g x there = there
  get_more (h ∷ fs) (suc f) g x there = get_more fs f g x there

  pub dress_more : (fs : List (Function A)) (bs : List B) (x : Function A) (b : B) → FunctionsLike Sa Sb R Q fs bs
      → dress_functions fs bs ++ dressed_function x b ∷ [] ≡ dress_functions (fs ++ x ∷ []) (bs ++ b ∷ [])
  dress_more [] [] x b like = refl
  dress_more (f ∷ fs) (c ∷ bs) x b like = ap (λ z. dressed_function f c ∷ z) (dress_more fs bs x b like.1)
  dress_more [] (c ∷ bs) x b like = absurd like
  dress_more (f ∷ fs) [] x b like = absurd like

  pub functions_more : (fs : List (Function A)) (bs : List B) (x : Function A) (b : B) → FunctionsLike Sa Sb R Q fs bs → R x.has_lines x.made_of b
      → FunctionsLike Sa Sb R Q (fs ++ x ∷ []) (bs ++ b ∷ [])
  functions_more [] [] x b like one = (one, tt)
  functions_more (f ∷ fs) (c ∷ bs) x b like one = (like.0, functions_more fs bs x b like.1 one)
  functions_more [] (c ∷ bs) x b like one = absurd like
  functions_more (f ∷ fs) [] x b like one = absurd like

  abbrev pub body_more : (fs : List (Function A)) (bs : List B) (x : Function A) (b : B) (f : ℕ) → FunctionsLike Sa Sb R Q fs bs → Body Sa Sb R Q fs bs f → Body Sa Sb R Q (fs ++ x ∷ []) (bs ++ b ∷ []) f
  body_more fs bs x b f like body = record {
    function = body.function;
    code = body.code;
    there = get_more fs f body.function x body.there;
    there_too = subst (λ gs. slice_get gs f ≡ Some (dressed_function body.function body.code)) (dress_more fs bs x b like)
        (get_more (dress_functions fs bs) f (dressed_function body.function body.code) (dressed_function x b) body.there_too);
  }

  frame_more : (fs : List (Function A)) (bs : List B) (x : Function A) (b : B) (f : Frame S) (y : Part T) → FunctionsLike Sa Sb R Q fs bs
      → FrameLike Sa Sb R Q fs bs f y → FrameLike Sa Sb R Q (fs ++ x ∷ []) (bs ++ b ∷ []) f y
  frame_more fs bs x b (talking f s) (state t) all like = record { body = body_more fs bs x b f all like.body; mid = like.mid }
  frame_more fs bs x b (waiting k) (goes g) all like = record { body = body_more fs bs x b k.function all like.body; on = like.on; pends = like.pends }
  frame_more fs bs x b (raising k) (goes g) all like = record { body = body_more fs bs x b k.function all like.body; on = like.on; pends = like.pends }
  frame_more fs bs x b protected y all like = tt
  frame_more fs bs x b (handled_by h) y all like = tt
  frame_more fs bs x b handling y all like = tt
  frame_more fs bs x b (closing e vs) y all like = tt
  frame_more fs bs x b f y all like = absurd like

  pub frames_more : (fs : List (Function A)) (bs : List B) (x : Function A) (b : B) (frames : List (Frame S)) (ys : List (Part T)) → FunctionsLike Sa Sb R Q fs bs
      → FramesLike Sa Sb R Q fs bs frames ys → FramesLike Sa Sb R Q (fs ++ x ∷ []) (bs ++ b ∷ []) frames ys
  frames_more fs bs x b [] [] all like = tt
  frames_more fs bs x b (f ∷ frames) (y ∷ ys) all like = (frame_more fs bs x b f y all like.0, frames_more fs bs x b frames ys all like.1)
  frames_more fs bs x b [] (y ∷ ys) all like = absurd like
  frames_more fs bs x b (f ∷ frames) [] all like = absurd like

  coroutine_more : (fs : List (Function A)) (bs : List B) (x : Function A) (b : B) (c : Coroutine S) (ys : List (Part T)) → FunctionsLike Sa Sb R Q fs bs
      → CoroutineLike Sa Sb R Q fs bs c ys → CoroutineLike Sa Sb R Q (fs ++ x ∷ []) (bs ++ b ∷ []) c ys
  coroutine_more fs bs x b (suspended frames) ys all like = frames_more fs bs x b frames ys all like
  coroutine_more fs bs x b (normal frames) ys all like = frames_more fs bs x b frames ys all like
  coroutine_more fs bs x b _ ys all like = tt

  pub coroutines_more : (fs : List (Function A)) (bs : List B) (x : Function A) (b : B) (cs : List (Coroutine S)) (xss : List (List (Part T))) → FunctionsLike Sa Sb R Q fs bs
      → CoroutinesLike Sa Sb R Q fs bs cs xss → CoroutinesLike Sa Sb R Q (fs ++ x ∷ []) (bs ++ b ∷ []) cs xss
  coroutines_more fs bs x b [] [] all like = tt
  coroutines_more fs bs x b (c ∷ cs) (xs ∷ xss) all like = (coroutine_more fs bs x b c xs all like.0, coroutines_more fs bs x b cs xss all like.1)
  coroutines_more fs bs x b [] (xs ∷ xss) all like = absurd like
  coroutines_more fs bs x b (c ∷ cs) [] all like = absurd like

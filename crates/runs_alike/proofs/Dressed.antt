-- Two worlds that differ only in what functions are made of and in the states of activations: one is the other, dressed anew.
use Rattle.std.proofs.Common.{◌≡◌, ℕ, zero, suc, Bool, List, [], ◌∷◌, ◌++◌, length, Some, None, refl, ap₂, arith}
use Rattle.std.specs.Prelude.{slice_get}
use Rattle.int_core.specs.Value.{nil, Value, known}
use Rattle.int_core.specs.Ask.{Reply, left, Answer, runs, NextLike, IsLeft}
use Rattle.lua_meaning.specs.World.{System, Function, Asker, Frame, talking, waiting, raising, protected, handled_by, handling, closing, Coroutine, fresh, suspended, running, normal, dead, failed, World, shared_out, as_known}
use Rattle.lua_meaning.specs.Calls.{pending_of, all_pending}

-- what a frame of the other world has of its own: a state, or how it goes on
pub data Part (T : Type 0) : Type 0 where
  state : T → Part T
  goes : (Answer → T) → Part T
  nothing : Part T

abbrev pub dressed_function : {A B : Type 0} → Function A → B → Function B
dressed_function f b = record { made_of = b; source = f.source; has_lines = f.has_lines; cells = f.cells }

abbrev pub dress_functions : {A B : Type 0} → List (Function A) → List B → List (Function B)
dress_functions [] bs = []
dress_functions (f ∷ fs) [] = []
dress_functions (f ∷ fs) (b ∷ bs) = dressed_function f b ∷ dress_functions fs bs

abbrev pub dressed_asker : {S T : Type 0} → Asker S → (Answer → T) → Asker T
dressed_asker k g = record { function = k.function; line = k.line; shared = k.shared; goes = g }

abbrev pub dress_frame : {S T : Type 0} → Frame S → Part T → Frame T
dress_frame (talking f s) (state t) = talking f t
dress_frame (talking f s) x = protected
dress_frame (waiting k) (goes g) = waiting (dressed_asker k g)
dress_frame (waiting k) x = protected
dress_frame (raising k) (goes g) = raising (dressed_asker k g)
dress_frame (raising k) x = protected
dress_frame protected x = protected
dress_frame (handled_by h) x = handled_by h
dress_frame handling x = handling
dress_frame (closing e vs) x = closing e vs

abbrev pub dress : {S T : Type 0} → List (Frame S) → List (Part T) → List (Frame T)
dress [] xs = []
dress (f ∷ frames) [] = []
dress (f ∷ frames) (x ∷ xs) = dress_frame f x ∷ dress frames xs

abbrev pub dress_coroutine : {S T : Type 0} → Coroutine S → List (Part T) → Coroutine T
dress_coroutine (fresh body) xs = fresh body
dress_coroutine (suspended frames) xs = suspended (dress frames xs)
dress_coroutine running xs = running
dress_coroutine (normal frames) xs = normal (dress frames xs)
dress_coroutine dead xs = dead
dress_coroutine (failed e pending) xs = failed e pending

abbrev pub dress_coroutines : {S T : Type 0} → List (Coroutine S) → List (List (Part T)) → List (Coroutine T)
dress_coroutines [] xss = []
dress_coroutines (c ∷ cs) [] = []
dress_coroutines (c ∷ cs) (xs ∷ xss) = dress_coroutine c xs ∷ dress_coroutines cs xss

abbrev pub dress_world : {A B S T : Type 0} → World A S → List B → List (List (Part T)) → List (Part T) → World B T
dress_world W bs xss xs = record {
  heap = W.heap;
  functions = dress_functions W.functions bs;
  cells = W.cells;
  coroutines = dress_coroutines W.coroutines xss;
  globals = W.globals;
  printed = W.printed;
  fuel = W.fuel;
  chain = W.chain;
  frames = dress W.frames xs;
  now = W.now;
}

module _ {A B S T : Type 0} (Sa : System A S) (Sb : System B T) (R : Bool → A → B → Type 0) (Q : Bool → A → B → S → T → Type 0) where
  -- after some own steps both ask the same, and go on alike through further asks
  abbrev pub Mid : Bool → A → B → S → T → Type 0
  Mid l a b s t = (i : ℕ) × (j : ℕ) × NextLike (R l) (Q l a b) (as_known l (runs (Sa.steps a) i s)) (as_known l (runs (Sb.steps b) j t))

  -- what is asked of the two systems: related states come to asks that are alike, and related bodies begin in related states
  abbrev pub AsksAreMid : Type 0
  AsksAreMid = (l : Bool) (a : A) (b : B) (s : S) (t : T) → Q l a b s t → Mid l a b s t

  abbrev pub BeginAlike : Type 0
  BeginAlike = (l : Bool) (a : A) (b : B) (arguments : List Value) → R l a b → Q l a b (Sa.starts a arguments) (Sb.starts b arguments)

  abbrev pub FunctionsLike : List (Function A) → List B → Type 0
  FunctionsLike [] [] = Unit {0}
  FunctionsLike (f ∷ fs) (b ∷ bs) = R f.has_lines f.made_of b × FunctionsLike fs bs
  FunctionsLike _ _ = ⊥

  -- function f is there on both sides
  pub record Body (fs : List (Function A)) (bs : List B) (f : ℕ) : Type 0 where
    pub function : Function A
    pub code : B
    pub there : slice_get fs f ≡ Some function
    pub there_too : slice_get (dress_functions fs bs) f ≡ Some (dressed_function function code)

  pub record TopLike (fs : List (Function A)) (bs : List B) (f : ℕ) (s : S) (t : T) : Type 0 where
    pub body : Body fs bs f
    pub mid : Mid body.function.has_lines body.function.made_of body.code s t

  pub record AskerLike (P : Reply → Type 0) (fs : List (Function A)) (bs : List B) (k : Asker S) (g : Answer → T) : Type 0 where
    pub body : Body fs bs k.function
    pub on : (x : Answer) → P x.reply → length x.shared ≡ length k.shared → Q body.function.has_lines body.function.made_of body.code (k.goes x) (g x)
    pub pends : (x : Answer) → IsLeft x.reply → length x.shared ≡ length k.shared → Sb.pending body.code (g x) ≡ Sa.pending body.function.made_of (k.goes x)

  abbrev pub Any : Reply → Type 0
  Any reply = Unit {0}

  abbrev pub FrameLike : List (Function A) → List B → Frame S → Part T → Type 0
  FrameLike fs bs (talking f s) (state t) = TopLike fs bs f s t
  FrameLike fs bs (talking f s) x = ⊥
  FrameLike fs bs (waiting k) (goes g) = AskerLike Any fs bs k g
  FrameLike fs bs (waiting k) x = ⊥
  FrameLike fs bs (raising k) (goes g) = AskerLike IsLeft fs bs k g
  FrameLike fs bs (raising k) x = ⊥
  FrameLike fs bs f x = Unit {0}

  abbrev pub FramesLike : List (Function A) → List B → List (Frame S) → List (Part T) → Type 0
  FramesLike fs bs [] [] = Unit {0}
  FramesLike fs bs (f ∷ frames) (x ∷ xs) = FrameLike fs bs f x × FramesLike fs bs frames xs
  FramesLike fs bs _ _ = ⊥

  abbrev pub CoroutineLike : List (Function A) → List B → Coroutine S → List (Part T) → Type 0
  CoroutineLike fs bs (suspended frames) xs = FramesLike fs bs frames xs
  CoroutineLike fs bs (normal frames) xs = FramesLike fs bs frames xs
  CoroutineLike fs bs c xs = Unit {0}

  abbrev pub CoroutinesLike : List (Function A) → List B → List (Coroutine S) → List (List (Part T)) → Type 0
  CoroutinesLike fs bs [] [] = Unit {0}
  CoroutinesLike fs bs (c ∷ cs) (xs ∷ xss) = CoroutineLike fs bs c xs × CoroutinesLike fs bs cs xss
  CoroutinesLike fs bs _ _ = ⊥

  pub record Like (W : World A S) (bs : List B) (xss : List (List (Part T))) (xs : List (Part T)) : Type 0 where
    pub functions : FunctionsLike W.functions bs
    pub coroutines : CoroutinesLike W.functions bs W.coroutines xss
    pub frames : FramesLike W.functions bs W.frames xs

  pub record Out (W : World A S) (V : World B T) : Type 0 where
    pub bs : List B
    pub xss : List (List (Part T))
    pub xs : List (Part T)
    pub same : V ≡ dress_world W bs xss xs
    pub like : Like W bs xss xs

  -- lists

  pub count_out : (shared : List (ℕ × Value)) (cells : List Value) → length (shared_out shared cells) ≡ length shared
  count_out [] cells = refl
  count_out (s ∷ shared) cells = let h = count_out shared cells in omega (arith, h)

  -- what is still to be closed

  asker_pending : (P : Reply → Type 0) (W : World A S) (bs : List B) (xss : List (List (Part T))) (xs : List (Part T)) (k : Asker S) (g : Answer → T) → AskerLike P W.functions bs k g
      → pending_of Sb (dress_world W bs xss xs) (dressed_asker k g) ≡ pending_of Sa W k
  asker_pending P W bs xss xs k g like =
      rw (pending_of, like.body.there, like.body.there_too) (like.pends (record { reply = left (known nil); shared = shared_out k.shared W.cells; cell = 0 }) tt (count_out k.shared W.cells))

  pub pending_same : (W : World A S) (bs : List B) (xss : List (List (Part T))) (xs : List (Part T)) (frames : List (Frame S)) (ys : List (Part T)) → FramesLike W.functions bs frames ys
      → all_pending Sb (dress_world W bs xss xs) (dress frames ys) ≡ all_pending Sa W frames
  pending_same W bs xss xs [] [] like = refl
  pending_same W bs xss xs (talking f s ∷ frames) (state t ∷ ys) like = pending_same W bs xss xs frames ys like.1
  pending_same W bs xss xs (waiting k ∷ frames) (goes g ∷ ys) like = ap₂ (λ z w. z ++ w) (asker_pending Any W bs xss xs k g like.0) (pending_same W bs xss xs frames ys like.1)
  pending_same W bs xss xs (raising k ∷ frames) (goes g ∷ ys) like = ap₂ (λ z w. z ++ w) (asker_pending IsLeft W bs xss xs k g like.0) (pending_same W bs xss xs frames ys like.1)
  pending_same W bs xss xs (protected ∷ frames) (x ∷ ys) like = pending_same W bs xss xs frames ys like.1
  pending_same W bs xss xs (handled_by h ∷ frames) (x ∷ ys) like = pending_same W bs xss xs frames ys like.1
  pending_same W bs xss xs (handling ∷ frames) (x ∷ ys) like = pending_same W bs xss xs frames ys like.1
  pending_same W bs xss xs (closing e vs ∷ frames) (x ∷ ys) like = pending_same W bs xss xs frames ys like.1
  pending_same W bs xss xs (f ∷ frames) (x ∷ ys) like = absurd like.0
  pending_same W bs xss xs [] (x ∷ ys) like = absurd like
  pending_same W bs xss xs (f ∷ frames) [] like = absurd like

  pub length_same : (fs : List (Function A)) (bs : List B) (frames : List (Frame S)) (xs : List (Part T)) → FramesLike fs bs frames xs → length (dress frames xs) ≡ length frames
  length_same fs bs [] [] like = refl
  length_same fs bs (f ∷ frames) (x ∷ xs) like = let h = length_same fs bs frames xs like.1 in omega (arith, h)
  length_same fs bs [] (x ∷ xs) like = absurd like
  length_same fs bs (f ∷ frames) [] like = absurd like

  -- what functions are found

  pub data Found (fs : List (Function A)) (bs : List B) (f : ℕ) : Type 0 where
    is_none : slice_get fs f ≡ None → slice_get (dress_functions fs bs) f ≡ None → Found fs bs f
    is_some : (b : Body fs bs f) → R b.function.has_lines b.function.made_of b.code → Found fs bs f

  pub found : (fs : List (Function A)) (bs : List B) (f : ℕ) → FunctionsLike fs bs → Found fs bs f
  found [] [] f like = is_none refl refl
  found (g ∷ fs) (b ∷ bs) zero like = is_some (record { function = g; code = b; there = refl; there_too = refl }) like.0
  found (g ∷ fs) (b ∷ bs) (suc f) like = elim (found fs bs f like.1) [
    | is_none e d ↦ is_none e d
    | is_some body r ↦ is_some (record { function = body.function; code = body.code; there = body.there; there_too = body.there_too }) r
  ]
  found [] (b ∷ bs) f like = absurd like
  found (g ∷ fs) [] f like = absurd like

-- A step of a world is some steps of the world that is dressed anew.
use Rattle.std.proofs.Common.{◌≡◌, ℕ, zero, suc, Bool, true, false, List, [], ◌∷◌, ◌++◌, length, Option, Some, None, refl, sym, ◌∙◌, ap, subst, arith}
use Rattle.std.specs.Prelude.{ℤ, slice_get, drop, codes}
use Rattle.int_core.specs.Value.{Value, known, string, object, a_function, a_coroutine, shape, nth}
use Rattle.int_core.specs.Limits.{limited}
use Rattle.int_core.specs.Operations.{is_function}
use Rattle.int_core.specs.Ask.{Answer, IsLeft, FitsAsk, Next, goes_on, says, stuck, on_from, runs, NextLike}
use Rattle.lua_meaning.specs.World.{System, Function, Frame, talking, protected, handled_by, Coroutine, fresh, talks, gives_back, raises_error, World, now_in, breaks, raises_text, shared_in, as_known}
use Rattle.lua_meaning.specs.Calls.{text}
use Rattle.lua_meaning.specs.Asks.{turns}
use Rattle.library_rows.specs.Look.{Done, done}
use Rattle.library_rows.specs.Look.{refused as no_result, raised as an_error}
use Rattle.library_rows.specs.Library.{Primitive, base_error, base_pcall, base_xpcall, coroutine_close, coroutine_create, coroutine_isyieldable, coroutine_resume, coroutine_running, coroutine_status, coroutine_yield, prelude_build, prelude_out}
use Rattle.load_rows.specs.Loading.{Loaded, wrong, not_loaded, loaded, load_of}
use Rattle.lua_meaning.specs.Step.{placed, error_by, level_in, creates, with_coroutine, status_of, runs_one, bytes_in, row, after_row, gives_loaded, after_loading, environment_in, Primitives, does_primitive, has_ended, tick, ticks}
use Rattle.runs_alike.proofs.Dressed.{Part, dress, dress_functions, dress_coroutine, dress_coroutines, dress_world, Body, FramesLike, CoroutineLike, CoroutinesLike, Like, Out, AsksAreMid, BeginAlike}
use Rattle.runs_alike.proofs.Moving.{with_same, with_like, where_same, either_out, now_out, raises_out, yields_out}
use Rattle.runs_alike.proofs.Answering.{calls_over_out, resumes_out, closes_out}
use Rattle.runs_alike.proofs.Turning.{count_functions, handle_out}
use Rattle.runs_alike.proofs.NewFunctions.{dress_more, functions_more, frames_more, coroutines_more}
use Rattle.runs_alike.proofs.Loading.{LoadedAlike, load_alike}
use Rattle.runs_alike.specs.Alike.{PrimitivesAlike}
use Rattle.code_means.proofs.Same.{NoOwn}

pub known_goes : {F S : Type 0} → (l : Bool) (s : S) → as_known {F = F} l (goes_on s) ≡ goes_on s
known_goes true s = refl
known_goes false s = refl

-- steps of one world

abbrev pub sum_of : ℕ → ℕ → ℕ
sum_of zero k = k
sum_of (suc m) k = suc (sum_of m k)

module _ {F S : Type 0} (system : System F S) (prims : Primitives F) where
  pub stay : (k : ℕ) (V : World F S) → has_ended V.now ≡ true → ticks system prims k V ≡ V
  stay zero V ended = refl
  stay (suc k) V ended = by (has_ended V.now) ended where
    by : (b : Bool) → b ≡ true → elim b as (λ _. World F S) [ true ↦ V | false ↦ ticks system prims k (tick system prims V) ] ≡ V
    by true e = refl
    by false e = absurd (cc)

  pub ticks_sum : (m k : ℕ) (V : World F S) → ticks system prims (sum_of m k) V ≡ ticks system prims k (ticks system prims m V)
  ticks_sum zero k V = refl
  ticks_sum (suc m) k V = by (has_ended V.now) refl (ticks_sum m k (tick system prims V)) where
    by : (b : Bool) → has_ended V.now ≡ b → ticks system prims (sum_of m k) (tick system prims V) ≡ ticks system prims k (ticks system prims m (tick system prims V))
        → elim b as (λ _. World F S) [ true ↦ V | false ↦ ticks system prims (sum_of m k) (tick system prims V) ]
        ≡ ticks system prims k (elim b as (λ _. World F S) [ true ↦ V | false ↦ ticks system prims m (tick system prims V) ])
    by true e h = sym (stay k V e)
    by false e h = h

  -- an activation on top that goes on by itself
  abbrev pub seen : World F S → ℕ → List (Frame S) → S → World F S
  seen V f below s = record V { frames = talking f s ∷ below; now = talks }

  pub own_tick : (V : World F S) (f : ℕ) (below : List (Frame S)) (g : Function F) (s t : S) → slice_get V.functions f ≡ Some g → system.steps g.made_of s ≡ goes_on t
      → tick system prims (seen V f below s) ≡ seen V f below t
  own_tick V f below g s t there moves =
      subst (λ o. elim o as (λ _. World F S) [ None ↦ breaks (seen V f below s) | Some h ↦ turns system (as_known h.has_lines (system.steps h.made_of s)) (seen V f below s) f below ] ≡ seen V f below t) (sym there)
      (ap (λ x. turns system (as_known g.has_lines x) (seen V f below s) f below) moves
      ∙ ap (λ x. turns system x (seen V f below s) f below) (known_goes g.has_lines t))

  -- some steps lead to the state from which it asks
  pub record Comes (V : World F S) (f : ℕ) (below : List (Frame S)) (a : F) (j : ℕ) (s : S) : Type 0 where
    pub count : ℕ
    pub there : S
    pub asks : system.steps a there ≡ runs (system.steps a) j s
    pub leads : ticks system prims count (seen V f below s) ≡ seen V f below there

  pub comes : (V : World F S) (f : ℕ) (below : List (Frame S)) (g : Function F) (j : ℕ) (s : S) → slice_get V.functions f ≡ Some g
      → NoOwn (runs (system.steps g.made_of) j s) → Comes V f below g.made_of j s
  comes V f below g zero s found free = record { count = 0; there = s; asks = refl; leads = refl }
  comes V f below g (suc j) s found free = by (system.steps g.made_of s) refl free (comes V f below g j) where
    by : (x : Next F S) → system.steps g.made_of s ≡ x → NoOwn (on_from x (runs (system.steps g.made_of) j))
        → ((t : S) → slice_get V.functions f ≡ Some g → NoOwn (runs (system.steps g.made_of) j t) → Comes V f below g.made_of j t) → Comes V f below g.made_of (suc j) s
    by (goes_on t) e free more =
        let c = more t found free in
        record {
          count = suc c.count;
          there = c.there;
          asks = c.asks ∙ sym (ap (λ x. on_from x (runs (system.steps g.made_of) j)) e);
          leads = ap (ticks system prims c.count) (own_tick V f below g s t found e) ∙ c.leads;
        }
    by (says q line shared k) e free more = record { count = 0; there = s; asks = e ∙ sym (ap (λ x. on_from x (runs (system.steps g.made_of) j)) e); leads = refl }
    by stuck e free more = record { count = 0; there = s; asks = e ∙ sym (ap (λ x. on_from x (runs (system.steps g.made_of) j)) e); leads = refl }

-- two activations that are left while they wait still have to close the same
abbrev pub PendAlike : {A B S T : Type 0} → (Sa : System A S) (Sb : System B T) → A → B → Next A S → Next B T → Type 0
PendAlike Sa Sb a b (says q line shared k) (says r other also h) = (x : Answer) → FitsAsk q shared x → IsLeft x.reply → Sb.pending b (h x) ≡ Sa.pending a (k x)
PendAlike Sa Sb a b x y = Unit {0}

module _ {A B S T : Type 0} (Sa : System A S) (Sb : System B T) (R : Bool → A → B → Type 0) (Q : Bool → A → B → S → T → Type 0) where
  -- with asks that are alike both tell the same of what is still to be closed
  abbrev pub AllPendAlike : Type 0
  AllPendAlike = (l : Bool) (a : A) (b : B) (s : S) (t : T) → NextLike (R l) (Q l a b) (as_known l (Sa.steps a s)) (as_known l (Sb.steps b t)) → PendAlike Sa Sb a b (as_known l (Sa.steps a s)) (as_known l (Sb.steps b t))

-- steps of both worlds

module _ {A B S T : Type 0} (Sa : System A S) (Sb : System B T) (R : Bool → A → B → Type 0) (Q : Bool → A → B → S → T → Type 0) (asks : AsksAreMid Sa Sb R Q) (begins : BeginAlike Sa Sb R Q)
    (pa : Primitives A) (pb : Primitives B) (prims : PrimitivesAlike R pa pb) where
  abbrev Both : World A S → World B T → Type 0
  Both X Y = Out Sa Sb R Q X Y

  abbrev Alike : World A S → List B → List (List (Part T)) → List (Part T) → Type 0
  Alike W bs xss xs = Like Sa Sb R Q W bs xss xs

  -- some steps of the other world
  pub record Reach (X : World A S) (Y : World B T) : Type 0 where
    pub count : ℕ
    pub out : Both X (ticks Sb pb count Y)

  pub turns_out : (W : World A S) (bs : List B) (xss : List (List (Part T))) (xs : List (Part T)) (f : ℕ) (below : List (Frame S)) (ys : List (Part T)) (body : Body Sa Sb R Q W.functions bs f) (x : Next A S) (y : Next B T)
      → Alike W bs xss xs → NextLike (R body.function.has_lines) (Q body.function.has_lines body.function.made_of body.code) x y → PendAlike Sa Sb body.function.made_of body.code x y → FramesLike Sa Sb R Q W.functions bs below ys
      → Both (turns Sa x W f below) (turns Sb y (dress_world W bs xss xs) f (dress below ys))
  turns_out W bs xss xs f below ys body (says q line shared k) (says r other also h) like next pend rest =
      subst (λ z. Both (turns Sa (says q line shared k) W f below) (turns Sb (says r z also h) (dress_world W bs xss xs) f (dress below ys))) next.1.0
      (subst (λ z. Both (turns Sa (says q line shared k) W f below) (turns Sb (says r line z h) (dress_world W bs xss xs) f (dress below ys))) next.1.1.0
      (handle_out Sa Sb R Q asks begins (record W { cells = shared_in shared W.cells }) bs xss xs q r (record { function = f; line = line; shared = shared; goes = k }) h below ys
      (record { functions = like.functions; coroutines = like.coroutines; frames = like.frames }) (record { body = body; on = λ x fits. next.1.1.1 x fits; pends = pend }) next.0 rest))
  turns_out W bs xss xs f below ys body stuck stuck like next pend rest = now_out Sa Sb R Q W bs xss xs _ like
  turns_out W bs xss xs f below ys body x y like next pend rest = absurd next

  row_out : (W : World A S) (bs : List B) (xss : List (List (Part T))) (xs : List (Part T)) (o : Option Done) → Alike W bs xss xs → Both (after_row W o) (after_row (dress_world W bs xss xs) o)
  row_out W bs xss xs None like = now_out Sa Sb R Q W bs xss xs _ like
  row_out W bs xss xs (Some (done H vs)) like = now_out Sa Sb R Q (record W { heap = H }) bs xss xs _ (record { functions = like.functions; coroutines = like.coroutines; frames = like.frames })
  row_out W bs xss xs (Some (no_result why)) like = raises_out Sa Sb R Q why W bs xss xs like
  row_out W bs xss xs (Some (an_error H e)) like = now_out Sa Sb R Q (record W { heap = H }) bs xss xs _ (record { functions = like.functions; coroutines = like.coroutines; frames = like.frames })

  placed_same : (W : World A S) (bs : List B) (xss : List (List (Part T))) (xs : List (Part T)) (z : ℤ) (v : Value) → Alike W bs xss xs → placed (dress_world W bs xss xs) z v ≡ placed W z v
  placed_same W bs xss xs (Rattle.std.specs.Prelude.pos (suc level)) (known (string s)) like = ap (λ place. limited (place ++ s)) (where_same Sa Sb R Q level W bs xss xs like)
  placed_same W bs xss xs z v like = refl

  error_out : (W : World A S) (bs : List B) (xss : List (List (Part T))) (xs : List (Part T)) (v level : Value) (o : Option ℤ) → Alike W bs xss xs → Both (error_by W v level o) (error_by (dress_world W bs xss xs) v level o)
  error_out W bs xss xs v level None like = raises_out Sa Sb R Q _ W bs xss xs like
  error_out W bs xss xs v level (Some z) like =
      subst (λ e. Both (now_in W (raises_error (placed W z v))) (now_in (dress_world W bs xss xs) (raises_error e))) (sym (placed_same W bs xss xs z v like)) (now_out Sa Sb R Q W bs xss xs (raises_error (placed W z v)) like)

  count_coroutines : (fs : List (Function A)) (bs : List B) (cs : List (Coroutine S)) (xss : List (List (Part T))) → CoroutinesLike Sa Sb R Q fs bs cs xss → length (dress_coroutines cs xss) ≡ length cs
  count_coroutines fs bs [] [] like = refl
  count_coroutines fs bs (c ∷ cs) (xs ∷ xss) like = let h = count_coroutines fs bs cs xss like.1 in omega (arith, h)
  count_coroutines fs bs [] (xs ∷ xss) like = absurd like
  count_coroutines fs bs (c ∷ cs) [] like = absurd like

  creates_out : (W : World A S) (bs : List B) (xss : List (List (Part T))) (xs : List (Part T)) (f : Value) → Alike W bs xss xs → Both (creates W f) (creates (dress_world W bs xss xs) f)
  creates_out W bs xss xs f like =
      either_out Sa Sb R Q (is_function f) _ _ _ _
      (record {
        bs = bs;
        xss = xss ++ [] ∷ [];
        xs = xs;
        same =
            ap (λ cs. record (dress_world W bs xss xs) { coroutines = cs; now = gives_back (object a_coroutine (length (dress_coroutines W.coroutines xss)) ∷ []) }) (with_same Sa Sb R Q W.functions bs W.coroutines xss (fresh f) [] like.coroutines)
            ∙ ap (λ c. record (dress_world W bs xss xs) { coroutines = dress_coroutines (W.coroutines ++ fresh f ∷ []) (xss ++ [] ∷ []); now = gives_back (object a_coroutine c ∷ []) }) (count_coroutines W.functions bs W.coroutines xss like.coroutines);
        like = record { functions = like.functions; coroutines = with_like Sa Sb R Q W.functions bs W.coroutines xss (fresh f) [] like.coroutines tt; frames = like.frames };
      })
      (raises_out Sa Sb R Q _ W bs xss xs like)

  data Got (fs : List (Function A)) (bs : List B) (cs : List (Coroutine S)) (xss : List (List (Part T))) (k : ℕ) : Type 0 where
    got_none : slice_get cs k ≡ None → slice_get (dress_coroutines cs xss) k ≡ None → Got fs bs cs xss k
    got_some : (c : Coroutine S) (ys : List (Part T)) → slice_get cs k ≡ Some c → slice_get (dress_coroutines cs xss) k ≡ Some (dress_coroutine c ys) → CoroutineLike Sa Sb R Q fs bs c ys → Got fs bs cs xss k

  got : (fs : List (Function A)) (bs : List B) (cs : List (Coroutine S)) (xss : List (List (Part T))) (k : ℕ) → CoroutinesLike Sa Sb R Q fs bs cs xss → Got fs bs cs xss k
  got fs bs [] [] k like = got_none refl refl
  got fs bs (c ∷ cs) (xs ∷ xss) zero like = got_some c xs refl refl like.0
  got fs bs (c ∷ cs) (xs ∷ xss) (suc k) like = elim (got fs bs cs xss k like.1) [
    | got_none e d ↦ got_none e d
    | got_some c' ys e d one ↦ got_some c' ys e d one
  ]
  got fs bs [] (xs ∷ xss) k like = absurd like
  got fs bs (c ∷ cs) [] k like = absurd like

  with_out : (W : World A S) (bs : List B) (xss : List (List (Part T))) (xs : List (Part T)) (f : List ℕ) (v : Value) (ga : ℕ → Coroutine S → World A S) (gb : ℕ → Coroutine T → World B T) → Alike W bs xss xs
      → ((co : ℕ) (c : Coroutine S) (ys : List (Part T)) → CoroutineLike Sa Sb R Q W.functions bs c ys → Both (ga co c) (gb co (dress_coroutine c ys)))
      → Both (with_coroutine W f v ga) (with_coroutine (dress_world W bs xss xs) f v gb)
  with_out W bs xss xs f (object a_coroutine co) ga gb like more = by (got W.functions bs W.coroutines xss co like.coroutines) where
    by : Got W.functions bs W.coroutines xss co → Both (with_coroutine W f (object a_coroutine co) ga) (with_coroutine (dress_world W bs xss xs) f (object a_coroutine co) gb)
    by (got_none e d) =
        subst (λ o. Both (elim o as (λ _. World A S) [ None ↦ breaks W | Some c ↦ ga co c ]) (elim (slice_get (dress_coroutines W.coroutines xss) co) as (λ _. World B T) [ None ↦ breaks (dress_world W bs xss xs) | Some c ↦ gb co c ])) (sym e)
        (subst (λ o. Both (breaks W) (elim o as (λ _. World B T) [ None ↦ breaks (dress_world W bs xss xs) | Some c ↦ gb co c ])) (sym d) (now_out Sa Sb R Q W bs xss xs _ like))
    by (got_some c ys e d one) =
        subst (λ o. Both (elim o as (λ _. World A S) [ None ↦ breaks W | Some c ↦ ga co c ]) (elim (slice_get (dress_coroutines W.coroutines xss) co) as (λ _. World B T) [ None ↦ breaks (dress_world W bs xss xs) | Some c ↦ gb co c ])) (sym e)
        (subst (λ o. Both (ga co c) (elim o as (λ _. World B T) [ None ↦ breaks (dress_world W bs xss xs) | Some c ↦ gb co c ])) (sym d) (more co c ys one))
  with_out W bs xss xs f _ ga gb like more = raises_out Sa Sb R Q _ W bs xss xs like

  status_same : (c : Coroutine S) (ys : List (Part T)) → status_of (dress_coroutine c ys) ≡ status_of c
  status_same (fresh body) ys = refl
  status_same _ ys = refl

  runs_one_out : (W : World A S) (bs : List B) (xss : List (List (Part T))) (xs : List (Part T)) (chain : List ℕ) → Alike W bs xss xs → Both (runs_one W chain) (runs_one (dress_world W bs xss xs) chain)
  runs_one_out W bs xss xs [] like = now_out Sa Sb R Q W bs xss xs _ like
  runs_one_out W bs xss xs (co ∷ chain) like = now_out Sa Sb R Q W bs xss xs _ like

  -- a function of a loaded source, on both sides
  made_out : (W : World A S) (bs : List B) (xss : List (List (Part T))) (xs : List (Part T)) (environment : Value) (name : List ℕ) (a : A) (b : B) → R true a b → Alike W bs xss xs
      → Both (gives_loaded W name a environment) (gives_loaded (dress_world W bs xss xs) name b environment)
  made_out W bs xss xs environment name a b means like =
      let made : Function A = record { made_of = a; source = name; has_lines = true; cells = length W.cells ∷ [] } in
      let X = record W { functions = W.functions ++ made ∷ []; cells = W.cells ++ environment ∷ [] } in
      let V = record (dress_world W bs xss xs) { cells = W.cells ++ environment ∷ [] } in
      subst (λ z. Both (gives_loaded W name a environment) (now_in (record V { functions = z }) (gives_back (object a_function (length (dress_functions W.functions bs)) ∷ [])))) (sym (dress_more Sa Sb R Q W.functions bs made b like.functions))
      (subst (λ c. Both (gives_loaded W name a environment) (now_in (dress_world X (bs ++ b ∷ []) xss xs) (gives_back (object a_function c ∷ [])))) (sym (count_functions Sa Sb R Q asks begins W.functions bs like.functions))
      (now_out Sa Sb R Q X (bs ++ b ∷ []) xss xs (gives_back (object a_function (length W.functions) ∷ []))
      (record {
        functions = functions_more Sa Sb R Q W.functions bs made b like.functions means;
        coroutines = coroutines_more Sa Sb R Q W.functions bs made b W.coroutines xss like.functions like.coroutines;
        frames = frames_more Sa Sb R Q W.functions bs made b W.frames xs like.functions like.frames;
      })))

  loads_out : (W : World A S) (bs : List B) (xss : List (List (Part T))) (xs : List (Part T)) (environment : Value) (l : Loaded A) (k : Loaded B) → LoadedAlike R l k → Alike W bs xss xs
      → Both (after_loading W environment l) (after_loading (dress_world W bs xss xs) environment k)
  loads_out W bs xss xs environment (wrong e) (wrong d) same like = subst (λ z. Both (raises_text W e) (raises_text (dress_world W bs xss xs) z)) same (raises_out Sa Sb R Q e W bs xss xs like)
  loads_out W bs xss xs environment (not_loaded e) (not_loaded d) same like = subst (λ z. Both (after_loading W environment (not_loaded e)) (after_loading (dress_world W bs xss xs) environment (not_loaded z))) same (now_out Sa Sb R Q W bs xss xs _ like)
  loads_out W bs xss xs environment (loaded name a) (loaded other b) same like =
      subst (λ z. Both (gives_loaded W name a environment) (gives_loaded (dress_world W bs xss xs) z b environment)) same.0 (made_out W bs xss xs environment name a b same.1 like)
  loads_out W bs xss xs environment l k same like = absurd same

  pub primitive_out : (p : Primitive) (W : World A S) (bs : List B) (xss : List (List (Part T))) (xs : List (Part T)) (vs : List Value) → Alike W bs xss xs
      → Both (does_primitive Sa pa.builds p W vs) (does_primitive Sb pb.builds p (dress_world W bs xss xs) vs)
  primitive_out base_error W bs xss xs vs like = error_out W bs xss xs (nth vs 0) (nth vs 1) (level_in (nth vs 1)) like
  primitive_out base_pcall W bs xss xs vs like = calls_over_out Sa Sb R Q asks begins W bs xss xs protected (nth vs 0) (drop 1 vs) tt like
  primitive_out base_xpcall W bs xss xs vs like = calls_over_out Sa Sb R Q asks begins W bs xss xs (handled_by (nth vs 1)) (nth vs 0) (drop 2 vs) tt like
  primitive_out coroutine_create W bs xss xs vs like = creates_out W bs xss xs (nth vs 0) like
  primitive_out coroutine_resume W bs xss xs vs like =
      with_out W bs xss xs (codes "resume") (nth vs 0) _ _ like (λ co c ys one. resumes_out Sa Sb R Q asks begins W bs xss xs co c ys (drop 1 vs) like one)
  primitive_out coroutine_yield W bs xss xs vs like = yields_out Sa Sb R Q W bs xss xs vs like
  primitive_out coroutine_close W bs xss xs vs like =
      with_out W bs xss xs (codes "close") (nth vs 0) _ _ like (λ co c ys one. closes_out Sa Sb R Q asks begins W bs xss xs co c ys like one)
  primitive_out coroutine_status W bs xss xs vs like =
      with_out W bs xss xs (codes "status") (nth vs 0) _ _ like (λ co c ys one.
      subst (λ z. Both (now_in W (gives_back (text (status_of c) ∷ []))) (now_in (dress_world W bs xss xs) (gives_back (text z ∷ [])))) (sym (status_same c ys)) (now_out Sa Sb R Q W bs xss xs _ like))
  primitive_out coroutine_isyieldable W bs xss xs vs like = now_out Sa Sb R Q W bs xss xs _ like
  primitive_out coroutine_running W bs xss xs vs like = runs_one_out W bs xss xs W.chain like
  primitive_out prelude_out W bs xss xs vs like =
      now_out Sa Sb R Q (record W { printed = W.printed ++ bytes_in (nth vs 0) }) bs xss xs _ (record { functions = like.functions; coroutines = like.coroutines; frames = like.frames })
  primitive_out prelude_build W bs xss xs vs like =
      let chunk = shape (nth vs 0) in
      let name = shape (nth vs 1) in
      let mode = shape (nth vs 2) in
      loads_out W bs xss xs (environment_in W vs) (load_of pa.builds chunk name mode) (load_of pb.builds chunk name mode) (load_alike R pa.builds pb.builds prims.builds chunk name mode) like
  primitive_out p W bs xss xs vs like = row_out W bs xss xs (row p W.heap vs) like

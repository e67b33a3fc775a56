-- Any number of steps of a world are some steps of the world that is dressed anew.
use Rattle.std.proofs.Common.{◌≡◌, ℕ, zero, suc, Bool, true, false, List, [], ◌∷◌, Option, Some, None, refl, sym, ◌∙◌, ap, subst}
use Rattle.std.specs.Prelude.{slice_get}
use Rattle.int_core.specs.Ask.{Next, goes_on, says, stuck, on_from, runs, NextLike}
use Rattle.lua_meaning.specs.World.{System, Function, Frame, talking, waiting, raising, protected, handled_by, handling, closing, Now, talks, gives_back, raises_error, unwinds, calls_primitive, ends, broken, World, breaks, as_known}
use Rattle.lua_meaning.specs.Asks.{turns}
use Rattle.lua_meaning.specs.Step.{Primitives, does_primitive, has_ended, tick, ticks}
use Rattle.runs_alike.specs.Alike.{PrimitivesAlike}
use Rattle.runs_alike.proofs.Dressed.{Part, state, goes, dressed_function, dress, dress_world, Body, Like, Out, AsksAreMid, BeginAlike}
use Rattle.runs_alike.proofs.Moving.{same_out, now_out}
use Rattle.runs_alike.proofs.Answering.{handed_out, raised_out, unwound_out}
use Rattle.runs_alike.proofs.Turning.{opt_out}
use Rattle.code_means.proofs.Same.{like_no_own, known_no_own}
use Rattle.runs_alike.proofs.Ticking.{sum_of, ticks_sum, seen, own_tick, comes, Reach, turns_out, primitive_out, AllPendAlike}

-- the step of an activation on top
now_tick : {F S : Type 0} → (system : System F S) (prims : Primitives F) (V : World F S) (f : ℕ) (below : List (Frame S)) (g : Function F) (s : S) → slice_get V.functions f ≡ Some g
    → tick system prims (seen system prims V f below s) ≡ turns system (as_known g.has_lines (system.steps g.made_of s)) (seen system prims V f below s) f below
now_tick {F = F} {S = S} system prims V f below g s there =
    subst (λ o. elim o as (λ _. World F S) [ None ↦ breaks (seen system prims V f below s) | Some h ↦ turns system (as_known h.has_lines (system.steps h.made_of s)) (seen system prims V f below s) f below ]
    ≡ turns system (as_known g.has_lines (system.steps g.made_of s)) (seen system prims V f below s) f below) (sym there) refl

module _ {A B S T : Type 0} (Sa : System A S) (Sb : System B T) (R : Bool → A → B → Type 0) (Q : Bool → A → B → S → T → Type 0) (asks : AsksAreMid Sa Sb R Q) (begins : BeginAlike Sa Sb R Q)
    (pends : AllPendAlike Sa Sb R Q) (pa : Primitives A) (pb : Primitives B) (prims : PrimitivesAlike R pa pb) where
  abbrev Both : World A S → World B T → Type 0
  Both X Y = Out Sa Sb R Q X Y

  abbrev Alike : World A S → List B → List (List (Part T)) → List (Part T) → Type 0
  Alike W bs xss xs = Like Sa Sb R Q W bs xss xs

  abbrev Reaches : World A S → World B T → Type 0
  Reaches X Y = Reach Sa Sb R Q asks begins pa pb prims X Y

  abbrev top : World A S → ℕ → List (Frame S) → S → World A S
  top W f below s = seen Sa pa W f below s

  -- both sides ask the same after own steps of these numbers
  abbrev Meets : Function A → B → Next A S → Next B T → Type 0
  Meets g b x y = NextLike (R g.has_lines) (Q g.has_lines g.made_of b) (as_known g.has_lines x) (as_known g.has_lines y)

  -- the activation on top asks
  top_asks : (W : World A S) (bs : List B) (xss : List (List (Part T))) (f : ℕ) (s : S) (t : T) (below : List (Frame S)) (ys : List (Part T))
      (body : Body Sa Sb R Q W.functions bs f) (j : ℕ) → Alike (top W f below s) bs xss (state t ∷ ys)
      → Meets body.function body.code (Sa.steps body.function.made_of s) (runs (Sb.steps body.code) j t)
      → Reaches (tick Sa pa (top W f below s)) (dress_world (top W f below s) bs xss (state t ∷ ys))
  top_asks W bs xss f s t below ys body j like next =
      let l = body.function.has_lines in
      let a = body.function.made_of in
      let V = dress_world (top W f below s) bs xss (state t ∷ ys) in
      let free = known_no_own l (runs (Sb.steps body.code) j t)
      (like_no_own (R l) (Q l a body.code) (as_known l (Sa.steps a s)) (as_known l (runs (Sb.steps body.code) j t)) next).1 in
      let c = comes Sb pb V f (dress below ys) (dressed_function body.function body.code) j t body.there_too free in
      let met : Meets body.function body.code (Sa.steps a s) (Sb.steps body.code c.there) = subst (λ y. Meets body.function body.code (Sa.steps a s) y) (sym c.asks) next in
      let there : Alike (top W f below s) bs xss (state c.there ∷ ys) =
      record { functions = like.functions; coroutines = like.coroutines; frames = (record { body = body; mid = (zero, zero, met) }, like.frames.1) } in
      let turn = turns_out Sa Sb R Q asks begins pa pb prims (top W f below s) bs xss (state c.there ∷ ys) f below ys body (as_known l (Sa.steps a s)) (as_known l (Sb.steps body.code c.there)) there met (pends l a body.code s c.there met) there.frames.1 in
      let first = now_tick Sa pa W f below body.function s body.there in
      let other =
      ticks_sum Sb pb c.count (suc zero) V ∙ ap (ticks Sb pb (suc zero)) c.leads
      ∙ now_tick Sb pb V f (dress below ys) (dressed_function body.function body.code) c.there body.there_too in
      record {
        count = sum_of c.count (suc zero);
        out =
            subst (λ Y. Both (tick Sa pa (top W f below s)) Y) (sym other)
            (subst (λ X. Both X (turns Sb (as_known l (Sb.steps body.code c.there)) (seen Sb pb V f (dress below ys) c.there) f (dress below ys))) (sym first) turn);
      }

  -- the activation on top goes on by itself, or asks
  top_out : (i : ℕ) (W : World A S) (bs : List B) (xss : List (List (Part T))) (f : ℕ) (s : S) (t : T) (below : List (Frame S)) (ys : List (Part T))
      (body : Body Sa Sb R Q W.functions bs f) (j : ℕ) → Alike (top W f below s) bs xss (state t ∷ ys)
      → Meets body.function body.code (runs (Sa.steps body.function.made_of) i s) (runs (Sb.steps body.code) j t)
      → Reaches (tick Sa pa (top W f below s)) (dress_world (top W f below s) bs xss (state t ∷ ys))
  top_out zero W bs xss f s t below ys body j like next = top_asks W bs xss f s t below ys body j like next
  top_out (suc i) W bs xss f s t below ys body j like next = by (Sa.steps body.function.made_of s) refl next where
    by : (x : Next A S) → Sa.steps body.function.made_of s ≡ x → Meets body.function body.code (on_from x (runs (Sa.steps body.function.made_of) i)) (runs (Sb.steps body.code) j t)
        → Reaches (tick Sa pa (top W f below s)) (dress_world (top W f below s) bs xss (state t ∷ ys))
    by (goes_on u) e met =
        let there : Alike (top W f below u) bs xss (state t ∷ ys) =
        record { functions = like.functions; coroutines = like.coroutines; frames = (record { body = body; mid = (i, j, met) }, like.frames.1) } in
        record {
          count = zero;
          out =
              subst (λ X. Both X (dress_world (top W f below s) bs xss (state t ∷ ys))) (sym (own_tick Sa pa W f below body.function s u body.there e))
              (same_out Sa Sb R Q (top W f below u) bs xss (state t ∷ ys) there);
        }
    by (says q line shared k) e met = top_asks W bs xss f s t below ys body j like (subst (λ x. Meets body.function body.code x (runs (Sb.steps body.code) j t)) (sym e) met)
    by stuck e met = top_asks W bs xss f s t below ys body j like (subst (λ x. Meets body.function body.code x (runs (Sb.steps body.code) j t)) (sym e) met)

  abbrev posed : World A S → Now → List (Frame S) → World A S
  posed W now frames = record W { frames = frames; now = now }

  -- no activation is on top
  broken_out : (W : World A S) (bs : List B) (xss : List (List (Part T))) (frames : List (Frame S)) (ys : List (Part T)) → Alike (posed W talks frames) bs xss ys
      → Both (breaks (posed W talks frames)) (breaks (dress_world (posed W talks frames) bs xss ys))
  broken_out W bs xss frames ys like = now_out Sa Sb R Q (posed W talks frames) bs xss ys (ends broken) like

  pub step_out : (W : World A S) (bs : List B) (xss : List (List (Part T))) (now : Now) (frames : List (Frame S)) (ys : List (Part T)) → Alike (posed W now frames) bs xss ys
      → Reaches (tick Sa pa (posed W now frames)) (dress_world (posed W now frames) bs xss ys)
  step_out W bs xss talks (talking f s ∷ below) (state t ∷ ys) like =
      let one = like.frames.0 in
      top_out one.mid.0 W bs xss f s t below ys one.body one.mid.1 like one.mid.2
  step_out W bs xss talks [] [] like = record { count = suc zero; out = broken_out W bs xss [] [] like }
  step_out W bs xss talks (waiting k ∷ below) (goes g ∷ ys) like = record { count = suc zero; out = broken_out W bs xss (waiting k ∷ below) (goes g ∷ ys) like }
  step_out W bs xss talks (raising k ∷ below) (goes g ∷ ys) like = record { count = suc zero; out = broken_out W bs xss (raising k ∷ below) (goes g ∷ ys) like }
  step_out W bs xss talks (protected ∷ below) (y ∷ ys) like = record { count = suc zero; out = broken_out W bs xss (protected ∷ below) (y ∷ ys) like }
  step_out W bs xss talks (handled_by h ∷ below) (y ∷ ys) like = record { count = suc zero; out = broken_out W bs xss (handled_by h ∷ below) (y ∷ ys) like }
  step_out W bs xss talks (handling ∷ below) (y ∷ ys) like = record { count = suc zero; out = broken_out W bs xss (handling ∷ below) (y ∷ ys) like }
  step_out W bs xss talks (closing e vs ∷ below) (y ∷ ys) like = record { count = suc zero; out = broken_out W bs xss (closing e vs ∷ below) (y ∷ ys) like }
  step_out W bs xss talks (f ∷ below) (y ∷ ys) like = absurd like.frames.0
  step_out W bs xss talks [] (y ∷ ys) like = absurd like.frames
  step_out W bs xss talks (f ∷ below) [] like = absurd like.frames
  step_out W bs xss (gives_back vs) frames ys like =
      record { count = suc zero; out = handed_out Sa Sb R Q asks begins (posed W (gives_back vs) frames) bs xss ys vs frames ys like like.frames }
  step_out W bs xss (raises_error e) frames ys like =
      record { count = suc zero; out = raised_out Sa Sb R Q asks begins (posed W (raises_error e) frames) bs xss ys e frames ys like like.frames }
  step_out W bs xss (unwinds e) frames ys like =
      record { count = suc zero; out = unwound_out Sa Sb R Q asks begins (posed W (unwinds e) frames) bs xss ys e frames ys like like.frames }
  step_out W bs xss (calls_primitive m vs) frames ys like =
      let X = posed W (calls_primitive m vs) frames in
      let Y = dress_world X bs xss ys in
      record {
        count = suc zero;
        out = opt_out Sa Sb R Q asks begins (pa.numbered m) (pb.numbered m) (breaks X) (breaks Y) (λ p. does_primitive Sa pa.builds p X vs) (λ p. does_primitive Sb pb.builds p Y vs) (sym (prims.numbered m)) (now_out Sa Sb R Q X bs xss ys (ends broken) like)
            (λ p. primitive_out Sa Sb R Q asks begins pa pb prims p X bs xss ys vs like);
      }
  step_out W bs xss (ends ending) frames ys like =
      record { count = zero; out = same_out Sa Sb R Q (posed W (ends ending) frames) bs xss ys like }

  -- so many steps, up to the turn's end
  pub ticks_out : (k : ℕ) (W : World A S) (bs : List B) (xss : List (List (Part T))) (xs : List (Part T)) → Alike W bs xss xs → Reaches (ticks Sa pa k W) (dress_world W bs xss xs)
  ticks_out zero W bs xss xs like = record { count = zero; out = same_out Sa Sb R Q W bs xss xs like }
  ticks_out (suc k) W bs xss xs like =
      by (has_ended W.now) (step_out W bs xss W.now W.frames xs like) (λ bs' xss' xs' like'. ticks_out k (tick Sa pa W) bs' xss' xs' like')
    where
      by : (b : Bool) → Reaches (tick Sa pa W) (dress_world W bs xss xs)
          → ((bs' : List B) (xss' : List (List (Part T))) (xs' : List (Part T)) → Alike (tick Sa pa W) bs' xss' xs' → Reaches (ticks Sa pa k (tick Sa pa W)) (dress_world (tick Sa pa W) bs' xss' xs'))
          → Reaches (elim b as (λ _. World A S) [ true ↦ W | false ↦ ticks Sa pa k (tick Sa pa W) ]) (dress_world W bs xss xs)
      by true r more = record { count = zero; out = same_out Sa Sb R Q W bs xss xs like }
      by false r more =
          let m = more r.out.bs r.out.xss r.out.xs r.out.like in
          record {
            count = sum_of r.count m.count;
            out = subst (λ Y. Both (ticks Sa pa k (tick Sa pa W)) Y) (sym (ticks_sum Sb pb r.count m.count (dress_world W bs xss xs) ∙ ap (ticks Sb pb m.count) r.out.same)) m.out;
          }

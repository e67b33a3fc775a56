-- Two worlds that are alike before a script: with the script about to run, one is the other, dressed anew.
use Rattle.std.proofs.Common.{◌≡◌, ℕ, Bool, List, [], ◌∷◌, ◌++◌, length, Option, Some, refl, sym, ◌∙◌, ap, arith}
use Rattle.std.specs.Prelude.{slice_get}
use Rattle.int_core.specs.Value.{Value, object, a_table}
use Rattle.int_core.specs.Heap.{Heap}
use Rattle.lua_meaning.specs.World.{System, Function, talking, Coroutine, fresh, running, dead, failed, talks, World}
use Rattle.lua_meaning.specs.Step.{Primitives}
use Rattle.lua_meaning.specs.Meaning.{begun}
use Rattle.runs_alike.specs.Alike.{PrimitivesAlike, FunctionAlike, FunctionsAlike, CoroutinesAlike, WorldsAlike, script}
use Rattle.runs_alike.proofs.Dressed.{Part, state, dressed_function, dress_functions, dress_coroutines, dress_world, FunctionsLike, Body, CoroutinesLike, Like, AsksAreMid, BeginAlike}
use Rattle.runs_alike.proofs.NewFunctions.{dress_more, functions_more}

abbrev pub made_by : {B : Type 0} → List (Function B) → List B
made_by [] = []
made_by (g ∷ gs) = g.made_of ∷ made_by gs

-- no coroutine has frames
abbrev pub no_parts : {S T : Type 0} → List (Coroutine S) → List (List (Part T))
no_parts [] = []
no_parts (c ∷ cs) = [] ∷ no_parts cs

abbrev function_of : {B : Type 0} → B → List ℕ → Bool → List ℕ → Function B
function_of b source has_lines cells = record { made_of = b; source = source; has_lines = has_lines; cells = cells }

module _ {A B S T : Type 0} (Sa : System A S) (Sb : System B T) (R : Bool → A → B → Type 0) (Q : Bool → A → B → S → T → Type 0) (asks : AsksAreMid Sa Sb R Q) (begins : BeginAlike Sa Sb R Q)
    (pa : Primitives A) (pb : Primitives B) (prims : PrimitivesAlike R pa pb) where
  function_dressed : (f : Function A) (g : Function B) → FunctionAlike R f g → dressed_function f g.made_of ≡ g
  function_dressed f g like =
      ap (λ s. function_of g.made_of s f.has_lines f.cells) like.source ∙ ap (λ l. function_of g.made_of g.source l f.cells) like.has_lines
      ∙ ap (λ c. function_of g.made_of g.source g.has_lines c) like.cells

  functions_dressed : (fs : List (Function A)) (gs : List (Function B)) → FunctionsAlike R fs gs → dress_functions fs (made_by gs) ≡ gs
  functions_dressed [] [] like = refl
  functions_dressed (f ∷ fs) (g ∷ gs) like = ap (λ h. h ∷ dress_functions fs (made_by gs)) (function_dressed f g like.0) ∙ ap (λ hs. g ∷ hs) (functions_dressed fs gs like.1)
  functions_dressed [] (g ∷ gs) like = absurd like
  functions_dressed (f ∷ fs) [] like = absurd like

  functions_count : (fs : List (Function A)) (gs : List (Function B)) → FunctionsAlike R fs gs → length fs ≡ length gs
  functions_count [] [] like = refl
  functions_count (f ∷ fs) (g ∷ gs) like = let h = functions_count fs gs like.1 in omega (arith, h)
  functions_count [] (g ∷ gs) like = absurd like
  functions_count (f ∷ fs) [] like = absurd like

  functions_like : (fs : List (Function A)) (gs : List (Function B)) → FunctionsAlike R fs gs → FunctionsLike Sa Sb R Q fs (made_by gs)
  functions_like [] [] like = tt
  functions_like (f ∷ fs) (g ∷ gs) like = (like.0.made_of, functions_like fs gs like.1)
  functions_like [] (g ∷ gs) like = absurd like
  functions_like (f ∷ fs) [] like = absurd like

  coroutines_dressed : (cs : List (Coroutine S)) (ds : List (Coroutine T)) → CoroutinesAlike cs ds → dress_coroutines cs (no_parts cs) ≡ ds
  coroutines_dressed [] [] like = refl
  coroutines_dressed (fresh f ∷ cs) (fresh g ∷ ds) like = ap (λ v. fresh v ∷ dress_coroutines cs (no_parts cs)) like.0 ∙ ap (λ es. fresh g ∷ es) (coroutines_dressed cs ds like.1)
  coroutines_dressed (running ∷ cs) (running ∷ ds) like = ap (λ es. running ∷ es) (coroutines_dressed cs ds like.1)
  coroutines_dressed (dead ∷ cs) (dead ∷ ds) like = ap (λ es. dead ∷ es) (coroutines_dressed cs ds like.1)
  coroutines_dressed (failed e vs ∷ cs) (failed d ws ∷ ds) like =
      ap (λ v. failed v vs ∷ dress_coroutines cs (no_parts cs)) like.0.0 ∙ ap (λ us. failed d us ∷ dress_coroutines cs (no_parts cs)) like.0.1
      ∙ ap (λ es. failed d ws ∷ es) (coroutines_dressed cs ds like.1)
  coroutines_dressed (c ∷ cs) (d ∷ ds) like = absurd like.0
  coroutines_dressed [] (d ∷ ds) like = absurd like
  coroutines_dressed (c ∷ cs) [] like = absurd like

  coroutines_like : (fs : List (Function A)) (bs : List B) (cs : List (Coroutine S)) (ds : List (Coroutine T)) → CoroutinesAlike cs ds → CoroutinesLike Sa Sb R Q fs bs cs (no_parts cs)
  coroutines_like fs bs [] [] like = tt
  coroutines_like fs bs (fresh f ∷ cs) (fresh g ∷ ds) like = (tt, coroutines_like fs bs cs ds like.1)
  coroutines_like fs bs (running ∷ cs) (running ∷ ds) like = (tt, coroutines_like fs bs cs ds like.1)
  coroutines_like fs bs (dead ∷ cs) (dead ∷ ds) like = (tt, coroutines_like fs bs cs ds like.1)
  coroutines_like fs bs (failed e vs ∷ cs) (failed d ws ∷ ds) like = (tt, coroutines_like fs bs cs ds like.1)
  coroutines_like fs bs (c ∷ cs) (d ∷ ds) like = absurd like.0
  coroutines_like fs bs [] (d ∷ ds) like = absurd like
  coroutines_like fs bs (c ∷ cs) [] like = absurd like

  -- the script's main function is the last one

  last_there : (fs : List (Function A)) (f : Function A) → slice_get (fs ++ f ∷ []) (length fs) ≡ Some f
  last_there [] f = refl
  last_there (g ∷ fs) f = last_there fs f

  last_dressed : (fs : List (Function A)) (bs : List B) (f : Function A) (b : B) → FunctionsLike Sa Sb R Q fs bs
      → slice_get (dress_functions (fs ++ f ∷ []) (bs ++ b ∷ [])) (length fs) ≡ Some (dressed_function f b)
  last_dressed [] [] f b like = refl
  last_dressed (g ∷ fs) (c ∷ bs) f b like = last_dressed fs bs f b like.1
  last_dressed [] (c ∷ bs) f b like = absurd like
  last_dressed (g ∷ fs) [] f b like = absurd like

  module _ (W : World A S) (V : World B T) (worlds : WorldsAlike R W V) (a : A) (b : B) (name : List ℕ) (lines : Bool) (main : R lines a b) (budget : ℕ) where
    abbrev main_of_left : Function A
    main_of_left = function_of a name lines (length W.cells ∷ [])

    abbrev pub bs_there : List B
    bs_there = made_by V.functions ++ b ∷ []

    abbrev pub parts_there : List (List (Part T))
    parts_there = no_parts W.coroutines

    abbrev pub parts_on_top : List (Part T)
    parts_on_top = state (Sb.starts b []) ∷ []

    abbrev pub left_begun : World A S
    left_begun = begun Sa pa W (script a name lines) budget

    abbrev whole : Heap → List (Function B) → List Value → List (Coroutine T) → ℕ → List ℕ → ℕ → World B T
    whole heap functions cells coroutines globals chain count = record { heap = heap; functions = functions; cells = cells; coroutines = coroutines; globals = globals; printed = []; fuel = budget; chain = chain; frames = talking count (Sb.starts b []) ∷ []; now = talks }

    all_functions : dress_functions (W.functions ++ main_of_left ∷ []) bs_there ≡ V.functions ++ function_of b name lines (length V.cells ∷ []) ∷ []
    all_functions =
        sym (dress_more Sa Sb R Q W.functions (made_by V.functions) main_of_left b (functions_like W.functions V.functions worlds.functions))
        ∙ ap (λ gs. gs ++ dressed_function main_of_left b ∷ []) (functions_dressed W.functions V.functions worlds.functions)
        ∙ ap (λ (c : List Value). V.functions ++ function_of b name lines (length c ∷ []) ∷ []) worlds.cells

    pub begun_dressed : begun Sb pb V (script b name lines) budget ≡ dress_world left_begun bs_there parts_there parts_on_top
    begun_dressed =
        let cells : W.cells ++ object a_table W.globals ∷ [] ≡ V.cells ++ object a_table V.globals ∷ [] =
        ap (λ c. c ++ object a_table W.globals ∷ []) worlds.cells ∙ ap (λ g. V.cells ++ object a_table g ∷ []) worlds.globals in
        let there : World B T = dress_world left_begun bs_there parts_there parts_on_top in
        let fs = V.functions ++ function_of b name lines (length V.cells ∷ []) ∷ [] in
        sym (
        ap (λ x. whole x there.functions there.cells there.coroutines W.globals W.chain (length W.functions)) worlds.heap
        ∙ ap (λ x. whole V.heap x there.cells there.coroutines W.globals W.chain (length W.functions)) all_functions
        ∙ ap (λ x. whole V.heap fs x there.coroutines W.globals W.chain (length W.functions)) cells
        ∙ ap (λ x. whole V.heap fs (V.cells ++ object a_table V.globals ∷ []) x W.globals W.chain (length W.functions)) (coroutines_dressed W.coroutines V.coroutines worlds.coroutines)
        ∙ ap (λ x. whole V.heap fs (V.cells ++ object a_table V.globals ∷ []) V.coroutines x W.chain (length W.functions)) worlds.globals
        ∙ ap (λ x. whole V.heap fs (V.cells ++ object a_table V.globals ∷ []) V.coroutines V.globals x (length W.functions)) worlds.chain
        ∙ ap (λ x. whole V.heap fs (V.cells ++ object a_table V.globals ∷ []) V.coroutines V.globals V.chain x) (functions_count W.functions V.functions worlds.functions)
        )

    pub begun_like : Like Sa Sb R Q left_begun bs_there parts_there parts_on_top
    begun_like =
        let before = functions_like W.functions V.functions worlds.functions in
        let body : Body Sa Sb R Q (W.functions ++ main_of_left ∷ []) bs_there (length W.functions) = record {
          function = main_of_left;
          code = b;
          there = last_there W.functions main_of_left;
          there_too = last_dressed W.functions (made_by V.functions) main_of_left b before;
        } in
        record {
          functions = functions_more Sa Sb R Q W.functions (made_by V.functions) main_of_left b before main;
          coroutines = coroutines_like (W.functions ++ main_of_left ∷ []) bs_there W.coroutines V.coroutines worlds.coroutines;
          frames = (record { body = body; mid = asks lines a b (Sa.starts a []) (Sb.starts b []) (begins lines a b [] main) }, tt);
        }

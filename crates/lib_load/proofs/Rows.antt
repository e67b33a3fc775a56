-- The row of `load`, move by move.
use Rattle.std.proofs.Common.{◌≡◌, ℕ, ◌+◌, List, [], ◌∷◌, ◌++◌, length, Option, Some, None, refl, ap, sym, subst, ◌∙◌, append-nil}
use Rattle.std.specs.Global.{Vec}
use Rattle.std.proofs.lemmas.List.{length-map}
use Rattle.int_core.specs.Value.{Value, a_function, known, nil, object, string, Shape, shape, nth}
use Rattle.int_core.specs.Limits.{limited}
use Rattle.code_core.specs.Prototype.{Prototype}
use Rattle.load_rows.specs.Loading.{Builds, Loaded, wrong, not_loaded, loaded, load_of}
use Rattle.library_arguments.specs.Refusals.{refusal_text}
use Rattle.library_arguments.specs.declared.refusal.Refusal.{Refusal}
use Rattle.source_builds.specs.Builds.{code_builds}
use Rattle.source_builds.specs.Readings.{AsRead}
use Rattle.source_builds.proofs.Knowing.{read_map}
use Rattle.machine_core.specs.World.{World}
use Rattle.machine_core.specs.Text.{Arg, arg, read, written, args_of}
use Rattle.machine_core.specs.FrameRows.{blames, hand_over}
use Rattle.machine_core.specs.MachineStep.{gives_back}
use Rattle.machine_core.specs.Moves.{add_loaded, environment_in, look, make_loaded, take_moving, Ending, Row, act, ends, run}
use Rattle.machine_core.specs.PrimitiveRows.{environment_at, loaded_row, load_row}
use Rattle.machine_sound.proofs.Lists.{get_push_new}
use Rattle.lua_heap.specs.declared.world.World.{World as Memory}
use Rattle.lua_heap.specs.Plain.{function, plain}
use Rattle.lua_heap.specs.Codes.{functions}
use Rattle.move_laws.specs.Memory.{Leads}
use Rattle.move_laws.proofs.Running.{nth_is}
use Rattle.machine_loads.specs.Loading.{HandsOver, given_environment, with_loaded}
use Rattle.lib_load.specs.declared.reading.Loaded.{Loaded as Kept}
use Rattle.lib_load.specs.declared.reading.Loaded.TheVariants.{Wrong, NotLoaded, Loaded as KeptCode}
use Rattle.lib_load.specs.Loads.{IsToldBy, ComesTo, load_in}

-- the arguments are taken and looked at

abbrev taken : World → World
taken V = record V { moving = [] }

looked_at : (x : Arg) (k : ℕ → Shape → Row) (env : List Value) (V : World) → run (act (look x) k) env V ≡ run (k (length env) (shape (arg env x))) env V
looked_at x k env V = ap (λ e. run (k (length env) (shape (arg env x))) e V) (append-nil env)

module _ (load : (chunk name mode : Shape) → Loaded Prototype) where
  abbrev by_mode : ℕ → Shape → Shape → ℕ → Shape → Row
  by_mode count chunk name n mode = loaded_row (environment_at 0 count) (load chunk name mode)

  abbrev by_name : ℕ → Shape → ℕ → Shape → Row
  by_name count chunk n name = act (look (read 2)) (by_mode count chunk name)

  abbrev by_chunk : ℕ → Shape → Row
  by_chunk count chunk = act (look (read 1)) (by_name count chunk)

  abbrev by_load : Row
  by_load = act take_moving (λ c _. act (look (read c)) (λ count chunk. act (look (read (1 + c))) (λ _ name. act (look (read (2 + c))) (λ _ mode. loaded_row (environment_at c count) (load chunk name mode)))))

  row_is : (V : World) → run by_load [] V ≡ run (loaded_row (environment_at 0 (length V.moving)) (load (shape (nth V.moving 0)) (shape (nth V.moving 1)) (shape (nth V.moving 2)))) V.moving (taken V)
  row_is V =
      let vs = V.moving in
      let chunk = shape (nth vs 0) in
      let name = shape (nth vs 1) in
      looked_at (read 0) by_chunk vs (taken V) ∙ looked_at (read 1) (by_name (length vs) chunk) vs (taken V) ∙ looked_at (read 2) (by_mode (length vs) chunk name) vs (taken V)

-- what it came to is done

abbrev DoesLoad : (l : Loaded Prototype) (W V : World) (e : Ending) → Type 0
DoesLoad l W V e = run (loaded_row (environment_at 0 (length W.moving)) l) W.moving (taken W) ≡ ends e V

blamed_alike : (text : List ℕ) (env : List Value) (W : World) → run (blames text) env (taken W) ≡ run (blames text) env W
blamed_alike text env W = refl

blames_caller : (l : Loaded Prototype) (refusal : Refusal) (W V : World) (e : Ending) → IsToldBy l (Wrong refusal) → ((env : List Value) → run (blames (refusal_text refusal)) env W ≡ ends e V) → DoesLoad l W V e
blames_caller (wrong error) refusal W V e t h = ap (λ text. run (blames text) W.moving (taken W)) t ∙ blamed_alike (refusal_text refusal) W.moving W ∙ h W.moving
blames_caller (not_loaded why) refusal W V e t h = absurd t
blames_caller (loaded name p) refusal W V e t h = absurd t

abbrev hands_in : (W V : World) (vs : List Value) (e : Ending) → Type 0
hands_in W V vs e = (env : List Value) → run hand_over env (record W { moving = vs }) ≡ ends e V

gives_reason : (l : Loaded Prototype) (text : Vec ℕ) (W V : World) (e : Ending) → IsToldBy l (NotLoaded text) → hands_in W V (known nil ∷ limited text.items ∷ []) e → DoesLoad l W V e
gives_reason (wrong error) text W V e t h = absurd t
gives_reason (not_loaded why) text W V e t h = ap (λ why. run hand_over (W.moving ++ []) (record W { moving = known nil ∷ known (string why) ∷ [] })) t ∙ h (W.moving ++ [])
gives_reason (loaded name p) text W V e t h = absurd t

same_environment : (W : World) (env : List Value) (x : Option Arg) → environment_in (taken W) env x ≡ environment_in W env x
same_environment W env None = refl
same_environment W env (Some x) = refl

same_loaded : (W : World) (p : Prototype) (environment : Value) (vs : List Value) → record (add_loaded (taken W) p environment) { moving = vs } ≡ record (add_loaded W p environment) { moving = vs }
unfolding add_loaded
same_loaded W p environment vs = refl

read_last : (env : List Value) (v : Value) → nth (env ++ v ∷ []) (length env) ≡ v
read_last env v = nth_is (env ++ v ∷ []) (length env) v (get_push_new env v)

gives_function : (l : Loaded Prototype) (code : Prototype) (W V : World) (n : ℕ) (e : Ending) → length W.functions ≡ n → IsToldBy l (KeptCode code) → hands_in (with_loaded W code) V (object a_function n ∷ []) e → DoesLoad l W V e
gives_function (wrong error) code W V n e size t h = absurd t
gives_function (not_loaded why) code W V n e size t h = absurd t
gives_function (loaded name p) code W V n e size t h =
    let vs = W.moving in
    let x = environment_at 0 (length vs) in
    let f = object a_function (length W.functions) in
    let env = vs ++ f ∷ [] in
    ap (λ v. run hand_over (env ++ []) (record (add_loaded (taken W) p (environment_in (taken W) vs x)) { moving = v ∷ [] })) (read_last vs f)
    ∙ ap (λ given. run hand_over (env ++ []) (record (add_loaded (taken W) p given) { moving = f ∷ [] })) (same_environment W vs x)
    ∙ ap (run hand_over (env ++ [])) (same_loaded W p (given_environment W) (f ∷ []))
    ∙ ap (λ p. run hand_over (env ++ []) (record (with_loaded W p) { moving = f ∷ [] })) t
    ∙ ap (λ n. run hand_over (env ++ []) (record (with_loaded W code) { moving = object a_function n ∷ [] })) size
    ∙ h (env ++ [])

-- over worlds in memory

leads_so : (old new : Memory) (builds : Builds Prototype) (e : Ending) → ((fuel : ℕ) → DoesLoad (load_in old builds) (plain old fuel) (plain new fuel) e) → Leads (load_row builds) [] old new e
leads_so old new builds e h = record { is = λ fuel. row_is (load_of builds) (plain old fuel) ∙ h fuel }

pub wrong_leads : (old new : Memory) (refusal : Refusal) (e : Ending) → ComesTo (load_in old) (Wrong refusal) → ((env : List Value) → Leads (blames (refusal_text refusal)) env old new e)
    → AsRead (λ builds. Leads (load_row (code_builds builds)) [] old new e)
wrong_leads old new refusal e c l =
    read_map (λ builds are t. leads_so old new (code_builds builds) e (λ fuel. blames_caller (load_in old (code_builds builds)) refusal (plain old fuel) (plain new fuel) e t (λ env. (l env).is fuel))) c

pub reason_leads : (old new : Memory) (text : Vec ℕ) (e : Ending) → ComesTo (load_in old) (NotLoaded text) → HandsOver (plain old) (known nil ∷ limited text.items ∷ []) new e
    → AsRead (λ builds. Leads (load_row (code_builds builds)) [] old new e)
reason_leads old new text e c h =
    read_map (λ builds are t. leads_so old new (code_builds builds) e (λ fuel. gives_reason (load_in old (code_builds builds)) text (plain old fuel) (plain new fuel) e t (λ env. h.is env fuel))) c

pub function_leads : (old new : Memory) (code : Prototype) (e : Ending) → ComesTo (load_in old) (KeptCode code)
    → HandsOver (λ fuel. with_loaded (plain old fuel) code) (object a_function (length old.funcs.objects) ∷ []) new e → AsRead (λ builds. Leads (load_row (code_builds builds)) [] old new e)
function_leads old new code e c h =
    let size : length (plain old 0).functions ≡ length old.funcs.objects = length-map old.funcs.objects (function (functions old.codes)) in
    read_map (λ builds are t. leads_so old new (code_builds builds) e
    (λ fuel. gives_function (load_in old (code_builds builds)) code (plain old fuel) (plain new fuel) (length old.funcs.objects) e size t (λ env. h.is env fuel))) c

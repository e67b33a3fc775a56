-- `load`: both worlds make a function of the same code, with one new cell of the same value.
use Rattle.std.proofs.Common.{ℕ, ◌<◌, ◌≡◌, ◌⊎◌, inl, inr, ⊎_elim, List, [], ◌∷◌, ◌++◌, length, Option, Some, None, refl, sym, ap, ap₂, subst, ◌∙◌, arith, Bool, true, false, cond, length-append}
use Rattle.std.specs.Prelude.{slice_get, nat_lt}
use Rattle.std.proofs.lemmas.Option.{slice_get_within}
use Rattle.int_core.specs.Value.{Value, known, nil, string, object, a_table, a_function, Shape, shape, nth}
use Rattle.code_core.specs.Prototype.{Prototype}
use Rattle.library_rows.specs.Library.{prelude_build}
use Rattle.load_rows.specs.Loading.{Builds, built, Loaded, wrong, not_loaded, loaded, load_of}
use Rattle.load_rows.proofs.Loads.{load_is}
use Rattle.list_laws.specs.Held.{Held}
use Rattle.list_laws.proofs.Items.{append_nil, get_old}
use Rattle.list_laws.proofs.Values.{nth_old, last_nth}
use Rattle.machine_core.specs.World as machine
use Rattle.machine_core.specs.World.{Function, Cell, closed, open_at, Frame, Coroutine, fresh, suspended, in_progress, normal, dead, failed, World, stack_of}
use Rattle.machine_core.specs.Text.{Arg, read, written}
use Rattle.machine_core.specs.Moves as moves
use Rattle.machine_core.specs.Moves.{add_loaded, run}
use Rattle.machine_core.specs.FrameRows.{hand_over}
use Rattle.machine_core.specs.PrimitiveRows.{environment_at, loaded_row, load_row}
use Rattle.machine_core.specs.Talk.{State}
use Rattle.machine_sound.proofs.Lists.{push_cases}
use Rattle.machine_sound.proofs.Frames.{stack_is}
use Rattle.lua_meaning.specs.World as talk
use Rattle.lua_meaning.specs.World.{gives_back, now_in}
use Rattle.lua_meaning.specs.Step.{Primitives, gives_loaded, after_loading, environment_in}
use Rattle.lua_meaning.specs.Calls as calls
use Rattle.machine_means.specs.Joined.{TalkFrame, TalkWorld, Named, Stacks, CoroutinePair, Holds, HoldsOf, HoldsIn, CellsPair, Joined}
use Rattle.machine_means.specs.Stands.{AtRest}
use Rattle.machine_means.proofs.Lists.{nth_mid}
use Rattle.machine_means.proofs.FrameWrites.{below_values}
use Rattle.machine_means.proofs.CellWrites.{all3_map}
use Rattle.means_steps.specs.Steps.{Leads, BuildsNamed, LoadJoined}
use Rattle.means_steps.proofs.Middle.{below_more}
use Rattle.means_steps.proofs.Quicks.{lengths, pairs_more}
use Rattle.means_steps.proofs.Primitives.{raises_so, hands, hands_here}

-- more functions, and more cells than those that are held
module _ (fs new : List Function) (vs more : List Value) where
  stack_grown : (lax : Bool) (frames : List Frame) (ts : List TalkFrame) (hs : List Held) → ((f r c : ℕ) → Holds f r c hs → nth (vs ++ more) c ≡ nth vs c) → Stacks lax fs vs frames ts hs → Stacks lax (fs ++ new) (vs ++ more) frames ts hs
  stack_grown lax frames ts hs e s = record {
    ms = s.ms;
    listed = s.listed;
    below = below_more fs new (vs ++ more) lax s.ms ts hs (below_values lax fs vs (vs ++ more) s.ms ts hs e s.below);
    depth = s.depth;
  }

  pair_grown : (ts : List TalkFrame) (x : Coroutine) (y : talk.Coroutine State) (hs : List Held) → ((f r c : ℕ) → Holds f r c hs → nth (vs ++ more) c ≡ nth vs c)
      → CoroutinePair fs vs (λ frames hs. Stacks false fs vs frames ts hs) x y hs → CoroutinePair (fs ++ new) (vs ++ more) (λ frames hs. Stacks false (fs ++ new) (vs ++ more) frames ts hs) x y hs
  pair_grown ts (fresh a) (talk.fresh b) hs e k = k
  pair_grown ts (suspended frames) (talk.suspended us) hs e k = stack_grown false frames us hs e k
  pair_grown ts (in_progress frames) talk.running hs e k = stack_grown false frames ts hs e k
  pair_grown ts (normal frames) (talk.normal us) hs e k = stack_grown false frames us hs e k
  pair_grown ts dead talk.dead hs e k = k
  pair_grown ts (failed a p) (talk.failed d q) hs e k = k
  pair_grown ts _ _ hs e k = absurd k

-- a cell that is closed comes last
module _ (ws : List Cell) (vs : List Value) (hss : List (List Held)) (k : CellsPair ws vs hss) (v : Value) where
  open_old : (c i f r : ℕ) → slice_get (ws ++ closed v ∷ []) c ≡ Some (open_at i f r) → slice_get ws c ≡ Some (open_at i f r)
  open_old c i f r e = ⊎_elim (λ old. old) (λ is. absurd (let d = is.1 in cc)) (push_cases ws (closed v) (open_at i f r) c e)

  held_within : (c i f r : ℕ) → HoldsIn hss i f r c → c < length vs
  held_within c i f r h = let l = slice_get_within ws c (open_at i f r) (k.held_open c i f r h) in let n = k.size in omega (arith, l, n)

  closed_is : (u : Value) → closed v ≡ closed u → v ≡ u
  closed_is u e = cc

  cells_grown : CellsPair (ws ++ closed v ∷ []) (vs ++ v ∷ []) hss
  cells_grown = record {
    size = (let a = length-append ws (closed v ∷ []) in let b = length-append vs (v ∷ []) in let n = k.size in omega (arith, a, b, n));
    shut = λ c u e. ⊎_elim
        (λ old. nth_old vs (v ∷ []) c (let l = slice_get_within ws c (closed u) old in let n = k.size in omega (arith, l, n)) ∙ k.shut c u old)
        (λ is. subst (λ z. nth (vs ++ v ∷ []) z ≡ u) (sym (is.0 ∙ k.size)) (last_nth vs v ∙ closed_is u is.1))
        (push_cases ws (closed v) (closed u) c e);
    opened = λ c i f r e. k.opened c i f r (open_old c i f r e);
    held_open = λ c i f r h. get_old ws (closed v ∷ []) c (open_at i f r) (k.held_open c i f r h);
    one = λ c d i f r e g. k.one c d i f r (open_old c i f r e) (open_old d i f r g);
  }

module _ (M : World) (T : TalkWorld) (j : Joined false M T) (name : List ℕ) (p : Prototype) (named : Named true name p) (v : Value) where
  abbrev new_function : Function
  new_function = record { code = p; cells = length M.cells ∷ [] }

  abbrev also : talk.Function Prototype
  also = record { made_of = p; source = name; has_lines = true; cells = length T.cells ∷ [] }

  loaded_joined : (mv : List Value) → Joined false (record M { functions = M.functions ++ new_function ∷ []; cells = M.cells ++ closed v ∷ []; moving = mv }) (record T { functions = T.functions ++ also ∷ []; cells = T.cells ++ v ∷ [] })
  loaded_joined mv = record {
    heap = j.heap;
    globals = j.globals;
    printed = j.printed;
    fuel = j.fuel;
    chain = j.chain;
    functions = pairs_more M.functions T.functions new_function also j.functions (record { code = refl; cells = ap (λ n. n ∷ []) (sym j.cells.size); named = named });
    held = j.held;
    cells = cells_grown M.cells T.cells j.held j.cells v;
    coroutines = λ i. all3_map (CoroutinePair M.functions T.cells (λ frames hs. Stacks false M.functions T.cells frames T.frames hs))
        (CoroutinePair (M.functions ++ new_function ∷ []) (T.cells ++ v ∷ []) (λ frames hs. Stacks false (M.functions ++ new_function ∷ []) (T.cells ++ v ∷ []) frames T.frames hs))
        (slice_get M.coroutines i) (slice_get T.coroutines i) (slice_get j.held i)
        (λ x y hs _ at_i k. pair_grown M.functions (new_function ∷ []) T.cells (v ∷ []) T.frames x y hs
        (λ f r c h. nth_old T.cells (v ∷ []) c (held_within M.cells T.cells j.held j.cells v c i f r (subst (λ o. HoldsOf o f r c) (sym at_i) h))) k) (j.coroutines i);
  }

-- what `load` comes to

abbrev IsNamed : Loaded Prototype → Type 0
IsNamed (loaded name p) = Named true name p
IsNamed _ = Unit {0}

load_named : (builds : Builds Prototype) → BuildsNamed builds → (chunk name mode : Shape) → IsNamed (load_of builds chunk name mode)
load_named builds named chunk name mode = load_is IsNamed builds (λ error. tt) (λ why l. tt) (λ name source p l e. named name source p e) chunk name mode

module _ (library : Primitives Prototype) (primitives : ℕ) (M : World) (T : TalkWorld) (k : AtRest primitives false M T) where
  abbrev N : World
  N = record M { moving = [] }

  -- a world with a function more
  abbrev grown : Prototype → Value → List Value → World
  grown p v mv = record M { functions = M.functions ++ record { code = p; cells = length M.cells ∷ [] } ∷ []; cells = M.cells ++ closed v ∷ []; moving = mv }

  row_leads : (env : List Value) (x : Option Arg) (v : Value) → moves.environment_in N env x ≡ v → (l : Loaded Prototype) → IsNamed l → Leads library M.printed (after_loading T v l) (run (loaded_row x l) env N)
  unfolding add_loaded
  row_leads env x v e (wrong error) n = raises_so library primitives M T k error env
  row_leads env x v e (not_loaded why) n = hands_here library primitives M T k (env ++ []) (known nil ∷ known (string why) ∷ [])
  row_leads env x v e (loaded name p) n =
      let made : Value = object a_function (length M.functions) in
      let mv : List Value = nth (env ++ made ∷ []) (length env) ∷ [] in
      let U : TalkWorld = record T { functions = T.functions ++ record { made_of = p; source = name; has_lines = true; cells = length T.cells ∷ [] } ∷ []; cells = T.cells ++ v ∷ [] } in
      let W : World = grown p (moves.environment_in N env x) mv in
      hands library primitives M T k W U ((env ++ made ∷ []) ++ []) (object a_function (length T.functions) ∷ [])
      (stack_is W k.waits.coroutine k.waits.frames k.waits.last k.waits.running)
      (subst (λ w. Joined false (grown p w mv) U) (sym e) (loaded_joined M T k.joined name p n v mv))
      (ap (λ z. z ∷ []) (nth_mid env [] made ∙ ap (λ z. object a_function z) (lengths M.functions T.functions k.joined.functions)))

  abbrev mv : List Value
  mv = M.moving

  abbrev env : List Value
  env = ((mv ++ []) ++ []) ++ []

  env_is : env ≡ mv
  env_is = append_nil ((mv ++ []) ++ []) ∙ append_nil (mv ++ []) ∙ append_nil mv

  same_environment : moves.environment_in N env (environment_at 0 (length mv)) ≡ environment_in T mv
  same_environment = by (nat_lt 3 (length mv))
    where
      by : (b : Bool) → moves.environment_in N env (cond b (Some (read 3)) None) ≡ cond b (nth mv 3) (object a_table T.globals)
      by true = ap (λ l. nth l 3) env_is
      by false = ap (λ n. object a_table n) k.joined.globals

  pub loads : (builds : Builds Prototype) → BuildsNamed builds
      → Leads library M.printed (after_loading T (environment_in T mv) (load_of builds (shape (nth mv 0)) (shape (nth mv 1)) (shape (nth mv 2)))) (run (load_row builds) [] M)
  loads builds named =
      let chunk = shape (nth mv 0) in
      let name = shape (nth (mv ++ []) 1) in
      let mode = shape (nth ((mv ++ []) ++ []) 2) in
      let same : load_of builds chunk name mode ≡ load_of builds chunk (shape (nth mv 1)) (shape (nth mv 2)) =
      ap₂ (λ b c. load_of builds chunk (shape (nth b 1)) (shape (nth c 2))) (append_nil mv) (append_nil (mv ++ []) ∙ append_nil mv) in
      subst (λ l. Leads library M.printed (after_loading T (environment_in T mv) l) (run (load_row builds) [] M)) same
      (row_leads env (environment_at 0 (length mv)) (environment_in T mv) same_environment (load_of builds chunk name mode) (load_named builds named chunk name mode))

pub load_leads : LoadJoined
load_leads builds named library primitives M T k = loads library primitives M T k builds named

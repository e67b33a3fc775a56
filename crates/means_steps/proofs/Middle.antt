-- Both worlds while the Lua frame on top does a row, or is answered: all but what its activation knows of its registers.
use Rattle.std.proofs.Common.{ℕ, ◌<◌, ◌≡◌, ◌≢◌, ◌⊎◌, inl, inr, ⊎_elim, List, [], ◌∷◌, ◌++◌, length, Some, refl, sym, ap, subst, ◌∙◌, arith, Bool, false}
use Rattle.std.specs.Prelude.{slice_get, slice_set}
use Rattle.std.proofs.lemmas.Bool.{cases_eq}
use Rattle.std.proofs.lemmas.Option.{slice_get_within}
use Rattle.code_core.specs.Prototype.{Prototype}
use Rattle.int_core.specs.Value.{Value, nth, last}
use Rattle.int_core.specs.Heap.{Heap}
use Rattle.int_core.specs.Limits.{greatest_depth}
use Rattle.list_laws.specs.Held.{Held, Has}
use Rattle.list_laws.proofs.Ends.{upward}
use Rattle.list_laws.proofs.Items.{get_set_same, get_set_other, get_old}
use Rattle.machine_core.specs.World as machine
use Rattle.machine_core.specs.World.{Function, Cell, closed, open_at, Wait, Activation, LuaFrame, Frame, lua, Coroutine, fresh, suspended, in_progress, normal, dead, failed}
use Rattle.machine_core.specs.Talk.{State}
use Rattle.lua_meaning.specs.World as talk
use Rattle.machine_means.specs.Joined.{TalkFrame, TalkWorld, FunctionsPair, LuaPair, Pair, under, Below, Stacks, CoroutinePair, AllThree, CoroutinesPair, Holds, HoldsOf, HoldsIn, CellsPair}
use Rattle.machine_means.proofs.FrameWrites.{one_owner, pair_on, below_values}
use Rattle.machine_means.proofs.CellWrites.{all3_at, all3_map}
use Rattle.machine_means.proofs.Switches.{Never, OnlyRuns, all3_apart, never_runs}
use Rattle.machine_means.proofs.Held.{holds_less}

-- what is equal in both
pub record AroundOf (H : Heap) (gs : ℕ) (out : List ℕ) (units : ℕ) (ch : List ℕ) (H' : Heap) (gs' : ℕ) (out' : List ℕ) (units' : ℕ) (ch' : List ℕ) : Type 0 where
  pub heap : H ≡ H'
  pub globals : gs ≡ gs'
  pub printed : out ≡ out'
  pub fuel : units ≡ units'
  pub chain : ch ≡ Rattle.std.specs.Prelude.reverse ch'

abbrev pub Around : machine.World → TalkWorld → Type 0
Around M T = AroundOf M.heap M.globals M.printed M.fuel M.chain T.heap T.globals T.printed T.fuel T.chain

abbrev pub frame : ℕ → Wait Value → Activation → LuaFrame
frame n w a = record { function = n; wait = w; own = a }

-- `vs` are the values of the cells. The frame on top is one of function n, which is g in the one world and g' in the other; it holds h
pub record MiddleOf (chain : List ℕ) (fs : List Function) (ws : List Cell) (cs : List Coroutine) (gs : List (talk.Function Prototype)) (ds : List (talk.Coroutine State)) (vs : List Value)
    (co n : ℕ) (g : Function) (g' : talk.Function Prototype) (w : Wait Value) (own : Activation) (h : Held) (below : List Frame) (ts : List TalkFrame) : Type 0 where
  pub functions : FunctionsPair fs gs
  pub there : slice_get fs n ≡ Some g
  pub talks_there : slice_get gs n ≡ Some g'
  pub in_range : (u d : ℕ) → slice_get g.cells u ≡ Some d → d < length ws
  pub not_own : (r d u : ℕ) → Has r d h → slice_get g.cells u ≡ Some d → ⊥
  pub last : last chain ≡ Some co
  pub runs : slice_get cs co ≡ Some (in_progress (upward (lua (frame n w own) ∷ below)))
  pub talks : slice_get ds co ≡ Some talk.running
  pub held : List (List Held)
  pub more : List Held
  pub holds : slice_get held co ≡ Some (h ∷ more)
  pub cells : CellsPair ws vs held
  pub waits : Below false fs vs below ts more
  pub depth : length below < greatest_depth
  pub others : (j : ℕ) → co ≢ j → AllThree (CoroutinePair fs vs Never) (slice_get cs j) (slice_get ds j) (slice_get held j)

abbrev pub Middle : machine.World → TalkWorld → List Value → (co n : ℕ) → Function → talk.Function Prototype → Wait Value → Activation → Held → List Frame → List TalkFrame → Type 0
Middle M T vs co n g g' w own h below ts = MiddleOf M.chain M.functions M.cells M.coroutines T.functions T.coroutines vs co n g g' w own h below ts

-- the coroutine that runs, and the others

module _ (fs : List Function) (vs : List Value) (co : ℕ) (cs : List Coroutine) (ds : List (talk.Coroutine State)) (hss : List (List Held)) where
  abbrev pub Others : Type 0
  Others = (j : ℕ) → co ≢ j → AllThree (CoroutinePair fs vs Never) (slice_get cs j) (slice_get ds j) (slice_get hss j)

  pub others_of : (run : List Frame → List Held → Type 0) → OnlyRuns cs co → CoroutinesPair fs vs run cs ds hss → (j : ℕ) → co ≢ j → AllThree (CoroutinePair fs vs Never) (slice_get cs j) (slice_get ds j) (slice_get hss j)
  others_of run only k j n = all3_apart fs vs run Never (slice_get cs j) (slice_get ds j) (slice_get hss j) (λ frames e. n (sym (only j frames e))) (k j)

  pub with_own_stack : (run : List Frame → List Held → Type 0) (frames : List Frame) (hs : List Held) → slice_get cs co ≡ Some (in_progress frames) → slice_get ds co ≡ Some talk.running → slice_get hss co ≡ Some hs → run frames hs
      → ((j : ℕ) → co ≢ j → AllThree (CoroutinePair fs vs Never) (slice_get cs j) (slice_get ds j) (slice_get hss j)) → CoroutinesPair fs vs run cs ds hss
  with_own_stack run frames hs e f g k o j = ⊎_elim
      (λ (d : co ≡ j). all3_at (CoroutinePair fs vs run) (slice_get cs j) (slice_get ds j) (slice_get hss j) (in_progress frames) talk.running hs
      (ap (slice_get cs) (sym d) ∙ e) (ap (slice_get ds) (sym d) ∙ f) (ap (slice_get hss) (sym d) ∙ g) k)
      (λ n. all3_apart fs vs Never run (slice_get cs j) (slice_get ds j) (slice_get hss j) (λ frames e. never_runs fs vs (slice_get cs j) (slice_get ds j) (slice_get hss j) frames e (o j n)) (o j n))
      (cases_eq co j)

  pub alone_of : ((j : ℕ) → co ≢ j → AllThree (CoroutinePair fs vs Never) (slice_get cs j) (slice_get ds j) (slice_get hss j)) → OnlyRuns cs co
  alone_of o j frames e = ⊎_elim (λ (d : co ≡ j). sym d) (λ n. absurd (never_runs fs vs (slice_get cs j) (slice_get ds j) (slice_get hss j) frames e (o j n))) (cases_eq co j)

  -- it gets other frames, or holds other cells
  pub others_frames : (x : Coroutine) → ((j : ℕ) → co ≢ j → AllThree (CoroutinePair fs vs Never) (slice_get cs j) (slice_get ds j) (slice_get hss j))
      → (j : ℕ) → co ≢ j → AllThree (CoroutinePair fs vs Never) (slice_get (slice_set cs co x) j) (slice_get ds j) (slice_get hss j)
  others_frames x o j n = subst (λ p. AllThree (CoroutinePair fs vs Never) p (slice_get ds j) (slice_get hss j)) (sym (get_set_other cs co j x n)) (o j n)

  pub others_held : (hs : List Held) → ((j : ℕ) → co ≢ j → AllThree (CoroutinePair fs vs Never) (slice_get cs j) (slice_get ds j) (slice_get hss j))
      → (j : ℕ) → co ≢ j → AllThree (CoroutinePair fs vs Never) (slice_get cs j) (slice_get ds j) (slice_get (slice_set hss co hs) j)
  others_held hs o j n = subst (λ p. AllThree (CoroutinePair fs vs Never) (slice_get cs j) (slice_get ds j) p) (sym (get_set_other hss co j hs n)) (o j n)

-- values of cells that a coroutine does not hold may change
module _ (fs : List Function) (vs vs' : List Value) where
  stack_values : (lax : Bool) (frames : List Frame) (ts : List TalkFrame) (hs : List Held) → ((f r c : ℕ) → Holds f r c hs → nth vs' c ≡ nth vs c) → Stacks lax fs vs frames ts hs → Stacks lax fs vs' frames ts hs
  stack_values lax frames ts hs e s = record { ms = s.ms; listed = s.listed; below = below_values lax fs vs vs' s.ms ts hs e s.below; depth = s.depth }

  co_values : (x : Coroutine) (y : talk.Coroutine State) (hs : List Held) → ((f r c : ℕ) → Holds f r c hs → nth vs' c ≡ nth vs c) → CoroutinePair fs vs Never x y hs → CoroutinePair fs vs' Never x y hs
  co_values (fresh a) (talk.fresh b) hs e k = k
  co_values (suspended frames) (talk.suspended ts) hs e k = stack_values false frames ts hs e k
  co_values (in_progress frames) talk.running hs e k = k
  co_values (normal frames) (talk.normal ts) hs e k = stack_values false frames ts hs e k
  co_values dead talk.dead hs e k = k
  co_values (failed a p) (talk.failed d q) hs e k = k
  co_values _ _ hs e k = absurd k

  pub values_at : (cs : List Coroutine) (ds : List (talk.Coroutine State)) (hss : List (List Held)) (j : ℕ) → ((f r c : ℕ) → HoldsIn hss j f r c → nth vs' c ≡ nth vs c)
      → AllThree (CoroutinePair fs vs Never) (slice_get cs j) (slice_get ds j) (slice_get hss j) → AllThree (CoroutinePair fs vs' Never) (slice_get cs j) (slice_get ds j) (slice_get hss j)
  values_at cs ds hss j e k = all3_map (CoroutinePair fs vs Never) (CoroutinePair fs vs' Never) (slice_get cs j) (slice_get ds j) (slice_get hss j)
      (λ x y hs _ at_j p. co_values x y hs (λ f r c m. e f r c (subst (λ o. HoldsOf o f r c) (sym at_j) m)) p) k

  pub others_values : (co : ℕ) (cs : List Coroutine) (ds : List (talk.Coroutine State)) (hss : List (List Held)) → ((j f r c : ℕ) → co ≢ j → HoldsIn hss j f r c → nth vs' c ≡ nth vs c)
      → ((j : ℕ) → co ≢ j → AllThree (CoroutinePair fs vs Never) (slice_get cs j) (slice_get ds j) (slice_get hss j)) → (j : ℕ) → co ≢ j → AllThree (CoroutinePair fs vs' Never) (slice_get cs j) (slice_get ds j) (slice_get hss j)
  others_values co cs ds hss e o j n = values_at cs ds hss j (λ f r c m. e j f r c n m) (o j n)

-- more functions
module _ (fs new : List Function) (vs : List Value) where
  asleep_more : (lo : Bool) (fr : LuaFrame) (asker : talk.Asker State) (h : Held) → LuaPair lo fs vs fr asker h → LuaPair lo (fs ++ new) vs fr asker h
  asleep_more lo fr asker h p =
      let s = p.1 in (
        p.0,
        record { number = s.number; function = s.function; there = get_old fs new fr.function s.function s.there; gone = s.gone; shares = s.shares; at_line = s.at_line; waits = s.waits; next = s.next; own = s.own; not_own = s.not_own },
        p.2,
      )

  pair_more : (lax : Bool) (m : Frame) (t : TalkFrame) (h : Held) → Pair lax fs vs m t h → Pair lax (fs ++ new) vs m t h
  pair_more lax m t h k = pair_on lax fs (fs ++ new) vs vs m t h (λ lo fr asker. asleep_more lo fr asker h) k

  pub below_more : (lax : Bool) (ms : List Frame) (ts : List TalkFrame) (hs : List Held) → Below lax fs vs ms ts hs → Below lax (fs ++ new) vs ms ts hs
  below_more lax [] [] [] k = tt
  below_more lax (m ∷ ms) (t ∷ ts) (h ∷ hs) k = (pair_more lax m t h k.0, below_more (under m) ms ts hs k.1)
  below_more lax _ _ _ k = absurd k

  stack_more : (lax : Bool) (frames : List Frame) (ts : List TalkFrame) (hs : List Held) → Stacks lax fs vs frames ts hs → Stacks lax (fs ++ new) vs frames ts hs
  stack_more lax frames ts hs s = record { ms = s.ms; listed = s.listed; below = below_more lax s.ms ts hs s.below; depth = s.depth }

  co_more : (x : Coroutine) (y : talk.Coroutine State) (hs : List Held) → CoroutinePair fs vs Never x y hs → CoroutinePair (fs ++ new) vs Never x y hs
  co_more (fresh a) (talk.fresh b) hs k = k
  co_more (suspended frames) (talk.suspended ts) hs k = stack_more false frames ts hs k
  co_more (in_progress frames) talk.running hs k = k
  co_more (normal frames) (talk.normal ts) hs k = stack_more false frames ts hs k
  co_more dead talk.dead hs k = k
  co_more (failed a p) (talk.failed d q) hs k = k
  co_more _ _ hs k = absurd k

  pub others_more : (co : ℕ) (cs : List Coroutine) (ds : List (talk.Coroutine State)) (hss : List (List Held))
      → ((j : ℕ) → co ≢ j → AllThree (CoroutinePair fs vs Never) (slice_get cs j) (slice_get ds j) (slice_get hss j)) → (j : ℕ) → co ≢ j → AllThree (CoroutinePair (fs ++ new) vs Never) (slice_get cs j) (slice_get ds j) (slice_get hss j)
  others_more co cs ds hss o j n = all3_map (CoroutinePair fs vs Never) (CoroutinePair (fs ++ new) vs Never) (slice_get cs j) (slice_get ds j) (slice_get hss j) (λ x y hs _ _ p. co_more x y hs p) (o j n)

-- what the frame on top holds, no other one does
module _ (ws : List Cell) (vs : List Value) (hss : List (List Held)) (k : CellsPair ws vs hss) (co : ℕ) (h : Held) (more : List Held) (e : slice_get hss co ≡ Some (h ∷ more)) where
  pub top_holds : (r c : ℕ) → Has r c h → HoldsIn hss co (length more) r c
  top_holds r c m = subst (λ o. HoldsOf o (length more) r c) (sym e) (inl (refl, m))

  pub below_holds : (f r c : ℕ) → Holds f r c more → HoldsIn hss co f r c
  below_holds f r c m = subst (λ o. HoldsOf o f r c) (sym e) (inr m)

  pub own_holds : (f r c : ℕ) → HoldsIn hss co f r c → ((f ≡ length more) × Has r c h) ⊎ Holds f r c more
  own_holds f r c m = subst (λ o. HoldsOf o f r c) e m

  pub once : (r q c : ℕ) → Has r c h → Has q c h → r ≡ q
  once r q c m n = (one_owner ws vs hss k co (length more) r co (length more) q c (top_holds r c m) (top_holds q c n)).2

  pub top_range : (r c : ℕ) → Has r c h → c < length vs
  top_range r c m = let i = slice_get_within ws c (open_at co (length more) r) (k.held_open c co (length more) r (top_holds r c m)) in let s = k.size in omega (arith, i, s)

  pub not_below : (f r c : ℕ) → Holds f r c more → (q : ℕ) → Has q c h → ⊥
  not_below f r c m q n =
      let d = (one_owner ws vs hss k co f r co (length more) q c (below_holds f r c m) (top_holds q c n)).1 in
      let l = holds_less more f r c m in
      omega (arith, d, l)

  pub not_apart : (j f r c : ℕ) → co ≢ j → HoldsIn hss j f r c → (q : ℕ) → Has q c h → ⊥
  not_apart j f r c n m q o = n (one_owner ws vs hss k co (length more) q j f r c (top_holds q c o) m).0

  pub not_shut : (c : ℕ) (v : Value) → slice_get ws c ≡ Some (closed v) → (q : ℕ) → Has q c h → ⊥
  not_shut c v g q n = let d : Some (closed v) ≡ Some (open_at co (length more) q) = sym g ∙ k.held_open c co (length more) q (top_holds q c n) in cc

-- the frame on top holds what it held, whatever became of its wait, its registers, the frames below and the cells
module _ {chain : List ℕ} {fs : List Function} {ws : List Cell} {cs : List Coroutine} {gs : List (talk.Function Prototype)} {ds : List (talk.Coroutine State)} {vs : List Value}
    {co n : ℕ} {g : Function} {g' : talk.Function Prototype} {w : Wait Value} {own : Activation} {h : Held} {below : List Frame} {ts : List TalkFrame} (k : MiddleOf chain fs ws cs gs ds vs co n g g' w own h below ts) where
  pub still_middle : (ws' : List Cell) (cs' : List Coroutine) (vs' : List Value) (w' : Wait Value) (own' : Activation) (below' : List Frame) → ((u d : ℕ) → slice_get g.cells u ≡ Some d → d < length ws')
      → slice_get cs' co ≡ Some (in_progress (upward (lua (frame n w' own') ∷ below'))) → CellsPair ws' vs' k.held → Below false fs vs' below' ts k.more → length below' < greatest_depth
      → ((j : ℕ) → co ≢ j → AllThree (CoroutinePair fs vs' Never) (slice_get cs' j) (slice_get ds j) (slice_get k.held j)) → MiddleOf chain fs ws' cs' gs ds vs' co n g g' w' own' h below' ts
  still_middle ws' cs' vs' w' own' below' in_range runs cells waits depth others =
      record { functions = k.functions; there = k.there; talks_there = k.talks_there; in_range = in_range; not_own = k.not_own; last = k.last; runs = runs; talks = k.talks; held = k.held; more = k.more; holds = k.holds; cells = cells; waits = waits; depth = depth; others = others }

  -- it holds other cells
  pub with_held : (ws' : List Cell) (vs' : List Value) (h' : Held) → ((u d : ℕ) → slice_get g.cells u ≡ Some d → d < length ws') → ((r d u : ℕ) → Has r d h' → slice_get g.cells u ≡ Some d → ⊥)
      → CellsPair ws' vs' (slice_set k.held co (h' ∷ k.more)) → Below false fs vs' below ts k.more → ((j : ℕ) → co ≢ j → AllThree (CoroutinePair fs vs' Never) (slice_get cs j) (slice_get ds j) (slice_get k.held j))
      → MiddleOf chain fs ws' cs gs ds vs' co n g g' w own h' below ts
  with_held ws' vs' h' in_range not_own cells waits others = record {
    functions = k.functions;
    there = k.there;
    talks_there = k.talks_there;
    in_range = in_range;
    not_own = not_own;
    last = k.last;
    runs = k.runs;
    talks = k.talks;
    held = slice_set k.held co (h' ∷ k.more);
    more = k.more;
    holds = get_set_same k.held co (h ∷ k.more) (h' ∷ k.more) k.holds;
    cells = cells;
    waits = waits;
    depth = k.depth;
    others = others_held fs vs' co cs ds k.held (h' ∷ k.more) others;
  }

-- the frame on top gets another wait and other registers
module _ (chain : List ℕ) (fs : List Function) (ws : List Cell) (cs : List Coroutine) (gs : List (talk.Function Prototype)) (ds : List (talk.Coroutine State)) (vs : List Value)
    (co n : ℕ) (g : Function) (g' : talk.Function Prototype) (w : Wait Value) (own : Activation) (h : Held) (below : List Frame) (ts : List TalkFrame) (k : MiddleOf chain fs ws cs gs ds vs co n g g' w own h below ts) where
  pub framed : (w' : Wait Value) (own' : Activation) → MiddleOf chain fs ws (slice_set cs co (in_progress (upward (lua (frame n w' own') ∷ below)))) gs ds vs co n g g' w' own' h below ts
  framed w' own' = still_middle k ws (slice_set cs co (in_progress (upward (lua (frame n w' own') ∷ below)))) vs w' own' below k.in_range
      (get_set_same cs co (in_progress (upward (lua (frame n w own) ∷ below))) (in_progress (upward (lua (frame n w' own') ∷ below))) k.runs) k.cells k.waits k.depth
      (others_frames fs vs co cs ds k.held (in_progress (upward (lua (frame n w' own') ∷ below))) k.others)

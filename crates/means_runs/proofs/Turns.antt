-- A turn of the machine ends where that of the other world ends, and the other way round.
use Rattle.code_core.specs.Prototype.{Prototype}
use Rattle.std.proofs.Common.{ℕ, zero, suc, ◌+◌, ◌<◌, ◌≤◌, ◌≡◌, ◌⊎◌, inl, inr, List, [], ◌++◌, length, Option, Some, None, refl, sym, ap, subst, ◌∙◌, arith, Bool, true, false}
use Rattle.int_core.specs.Value.{Value}
use Rattle.machine_core.specs.World.{World}
use Rattle.machine_core.specs.Moves.{Made, Told, move, TopShape, lua_top, CallShape, not_entered, Ending, go, returned, asks, calls_primitive, raised, unwinding, spent, main_yielded, main_returned, main_failed, Row, traps, stop, only, act, Outcome, trapped, ends, run}
use Rattle.std.specs.Prelude.{drop}
use Rattle.machine_core.specs.FrameRows.{asked_row, after_asked, refused_under}
use Rattle.machine_core.specs.MachineStep.{step_by, step, steps, from_world, and_then}
use Rattle.lua_meaning.specs.World as talk
use Rattle.lua_meaning.specs.World.{Now}
use Rattle.lua_meaning.specs.Step.{Primitives, has_ended, tick, tick_by, ticks}
use Rattle.lua_meaning.proofs.Runs.{ended_within}
use Rattle.code_means.specs.Runs.{codes_run}
use Rattle.machine_sound.specs.Laws.{SoundAfter, PrimitivesSafe, StepGood}
use Rattle.machine_sound.proofs.Steps.{steps_good}
use Rattle.machine_runs.specs.Runs.{is_end}
use Rattle.machine_runs.proofs.Runs.{end_stays}
use Rattle.machine_means.specs.Joined.{TalkWorld}
use Rattle.machine_means.specs.Stands.{Stands, results_come, error_raised, error_leaves, call_asked, primitive_called, budget_spent, code_runs}
use Rattle.means_steps.specs.Steps.{EndsSo, Leads, SameLibrary, GoesOn, forward}
use Rattle.means_steps.proofs.All.{steps_lead}

goes_not_end : (e : Ending) → GoesOn e → is_end e ≡ true → ⊥
goes_not_end spent g h = g
goes_not_end main_yielded g h = g
goes_not_end main_returned g h = g
goes_not_end main_failed g h = g
goes_not_end _ g h = cc

abbrev ending_in : Outcome → Option Ending
ending_in trapped = None
ending_in (ends ending W) = Some ending

abbrev world_in : Outcome → Option World
world_in trapped = None
world_in (ends ending W) = Some W

pub some_is : {A : Type 0} (x y : A) → Some x ≡ Some y → x ≡ y
some_is x y e = cc

-- what is called for stands at no such place again
abbrev NoAsks : Row → Type 0
NoAsks traps = Unit {0}
NoAsks (stop asks) = ⊥
NoAsks (stop _) = Unit {0}
NoAsks (only slot r) = NoAsks r
NoAsks (act m k) = (n : ℕ) (told : Told m) → NoAsks (k n told)

not_asks : (e : Ending) → NoAsks (stop e) → Some e ≡ Some asks → ⊥
not_asks asks k e = k
not_asks _ k e = cc

never_asks : (r : Row) → NoAsks r → (env : List Value) (W : World) → ending_in (run r env W) ≡ Some asks → ⊥
never_asks traps k env W e = cc
never_asks (stop ending) k env W e = not_asks ending k e
never_asks (only slot r) k env W e = never_asks r k (drop slot env) W e
never_asks (act m t) k env W e = by (move m env W) e (λ d. never_asks (t (length env) d.told) (k (length env) d.told) (env ++ d.values) d.world)
  where
    by : (o : Option (Made (Told m))) → ending_in (elim o as (λ _. Outcome) [ None ↦ trapped | Some d ↦ run (t (length env) d.told) (env ++ d.values) d.world ]) ≡ Some asks → ((d : Made (Told m)) → ending_in (run (t (length env) d.told) (env ++ d.values) d.world) ≡ Some asks → ⊥) → ⊥
    by None e ih = cc
    by (Some d) e ih = ih d e

refusals : (text : List ℕ) (top : TopShape) → NoAsks (refused_under top text)
refusals text lua_top = λ _ _. tt
refusals text _ = λ _ _. tt

after : (s : CallShape) → NoAsks (after_asked s)
after (not_entered text) = λ _ top. refusals text top
after _ = tt

asked_no_ask : (W : World) → ending_in (run asked_row [] W) ≡ Some asks → ⊥
asked_no_ask W e = never_asks asked_row (λ _ _ _ s. after s) [] W e

-- ticks one after another
module _ (library : Primitives Prototype) where
  abbrev pub after_ticks : ℕ → TalkWorld → TalkWorld
  after_ticks n T = ticks codes_run library n T

  stays : (now : Now) (T : TalkWorld) → has_ended now ≡ true → tick_by codes_run library now T ≡ T
  stays (talk.ends e) T h = refl
  stays _ T h = absurd (cc)

  at_end_so : (n : ℕ) (T : TalkWorld) → has_ended T.now ≡ true → after_ticks n T ≡ T
  at_end_so zero T h = refl
  at_end_so (suc n) T h = ap (λ b. elim b as (λ _. TalkWorld) [ true ↦ T | false ↦ ticks codes_run library n (tick codes_run library T) ]) h

  goes_so : (n : ℕ) (T : TalkWorld) → has_ended T.now ≡ false → after_ticks (suc n) T ≡ after_ticks n (tick codes_run library T)
  goes_so n T h = ap (λ b. elim b as (λ _. TalkWorld) [ true ↦ T | false ↦ ticks codes_run library n (tick codes_run library T) ]) h

  tick_first : (n : ℕ) (T : TalkWorld) → (i : ℕ) × (after_ticks n (tick codes_run library T) ≡ after_ticks i T)
  tick_first n T = by (has_ended T.now) refl
    where
      by : (b : Bool) → has_ended T.now ≡ b → (i : ℕ) × (after_ticks n (tick codes_run library T) ≡ after_ticks i T)
      by true h = (n, ap (after_ticks n) (stays T.now T h))
      by false h = (suc n, sym (goes_so n T h))

  join : (j k : ℕ) (T : TalkWorld) → (i : ℕ) × (after_ticks k (after_ticks j T) ≡ after_ticks i T)
  join zero k T = (k, refl)
  join (suc j) k T = by (has_ended T.now) refl (join j k (tick codes_run library T))
    where
      by : (b : Bool) → has_ended T.now ≡ b → ((i : ℕ) × (after_ticks k (after_ticks j (tick codes_run library T)) ≡ after_ticks i (tick codes_run library T))) → (i : ℕ) × (after_ticks k (after_ticks (suc j) T) ≡ after_ticks i T)
      by true h ih = (k, ap (after_ticks k) (at_end_so (suc j) T h))
      by false h ih = let f = tick_first ih.0 T in (f.0, ap (after_ticks k) (goes_so j T h) ∙ ih.1 ∙ f.1)

  forwarded : (ending : Ending) (n : ℕ) (T : TalkWorld) → (i : ℕ) × (after_ticks n (forward library ending T) ≡ after_ticks i T)
  forwarded asks n T = (n, refl)
  forwarded _ n T = tick_first n T

  -- one that ends within j ticks ends so from further on
  later_ends : (i j : ℕ) (T : TalkWorld) → has_ended (after_ticks j T).now ≡ true → (k : ℕ) × (k ≤ j) × (has_ended (after_ticks k (after_ticks i T)).now ≡ true)
  later_ends zero j T h = (j, omega arith, h)
  later_ends (suc i) j T h = by (has_ended T.now) refl j h (λ j h. later_ends i j (tick codes_run library T) h)
    where
      by : (b : Bool) → has_ended T.now ≡ b → (j : ℕ) → has_ended (after_ticks j T).now ≡ true
          → ((j : ℕ) → has_ended (after_ticks j (tick codes_run library T)).now ≡ true → (k : ℕ) × (k ≤ j) × (has_ended (after_ticks k (after_ticks i (tick codes_run library T))).now ≡ true)) → (k : ℕ) × (k ≤ j) × (has_ended (after_ticks k (after_ticks (suc i) T)).now ≡ true)
      by true e j h ih = (j, omega arith, subst (λ U. has_ended (after_ticks j U).now ≡ true) (sym (at_end_so (suc i) T e)) h)
      by false e zero h ih = absurd (let z : false ≡ true = sym e ∙ h in cc)
      by false e (suc j) h ih =
          let m = ih j (subst (λ U. has_ended U.now ≡ true) (goes_so j T e) h) in
          let l = m.1 in
          (m.0, omega (arith, l), subst (λ U. has_ended (after_ticks m.0 U).now ≡ true) (sym (goes_so i T e)) m.2)

  pub ended_same : (i j : ℕ) (T : TalkWorld) → has_ended (after_ticks i T).now ≡ true → has_ended (after_ticks j T).now ≡ true → after_ticks i T ≡ after_ticks j T
  ended_same i j T a b = sym (ended_within codes_run library i (i + j) T a (omega arith)) ∙ ended_within codes_run library j (i + j) T b (omega arith)

  -- where neither a call is asked for nor a turn is over, the other world goes on
  not_ended : (ending : Ending) (W : World) (T : TalkWorld) → GoesOn ending → (Some ending ≡ Some asks → ⊥) → Stands ending W T → has_ended T.now ≡ false
  not_ended e W T g n (results_come _ _ _ reached now joined) = ap has_ended now
  not_ended e W T g n (error_raised _ _ v moves now joined) = ap has_ended now
  not_ended e W T g n (error_leaves _ _ v moves now joined) = ap has_ended now
  not_ended e W T g n (call_asked _ _ U f vs moves joined is) = absurd (n refl)
  not_ended e W T g n (primitive_called m _ _ now joined) = ap has_ended now
  not_ended e W T g n (budget_spent _ _ now) = absurd g
  not_ended e W T g n (code_runs _ _ w) = ap has_ended w.now

module _ (primitives : ℕ) (rows : ℕ → Row) (library : Primitives Prototype) (safe : PrimitivesSafe primitives rows) (same : SameLibrary primitives rows library) where
  -- what the machine comes to, the other world comes to
  abbrev Reaches : TalkWorld → Ending → World → Type 0
  Reaches T e V = (j : ℕ) × EndsSo V.printed e V (after_ticks library j T)

  onward : (T : TalkWorld) (j : ℕ) (U : TalkWorld) (e : Ending) (V : World) → ((i : ℕ) × (U ≡ after_ticks library i T)) → Reaches (after_ticks library j U) e V → Reaches T e V
  onward T j U e V f r =
      let a = join library j r.0 U in
      let b = join library f.0 a.0 T in
      (b.0, subst (λ X. EndsSo V.printed e V X) (a.1 ∙ ap (after_ticks library a.0) f.1 ∙ b.1) r.1)

  -- what a step leads to, the rest of the run taken from there
  pub machine_comes : (n : ℕ) (ending : Ending) (W : World) (T : TalkWorld) → SoundAfter primitives ending W → GoesOn ending → Stands ending W T → (e : Ending) (V : World) → steps rows n ending W ≡ ends e V → is_end e ≡ true
      → (j : ℕ) × EndsSo V.printed e V (ticks codes_run library j T)
  machine_comes zero ending W T a g s e V is over = absurd (goes_not_end e (subst GoesOn (some_is ending e (ap ending_in is)) g) over)
  machine_comes (suc n) ending W T a g s e V is over =
      let l = steps_lead primitives rows library same ending g W T a s in
      let good = steps_good primitives rows safe ending W a in
      by (step_by rows ending W) l good is (λ x U X ax gx sx q. machine_comes n x U X ax gx sx e V q over)
    where
      start : (j : ℕ) (x : Ending) (U : World) → EndsSo U.printed x U (after_ticks library j (forward library ending T)) → Reaches T x U
      start j x U k = let f = forwarded library ending j T in (f.0, subst (λ X. EndsSo U.printed x U X) f.1 k)

      ended : (x : Ending) (U : World) → is_end x ≡ true → steps rows n x U ≡ ends e V → Reaches T x U → Reaches T e V
      ended x U h q r =
          let z : ends x U ≡ ends e V = sym (end_stays rows n x U h) ∙ q in
          let d : x ≡ e = some_is x e (ap ending_in z) in
          let v : U ≡ V = some_is U V (ap world_in z) in
          subst (λ x. Reaches T x V) d (subst (λ U. Reaches T x U) v r)

      rest : ((x : Ending) (U : World) (X : TalkWorld) → SoundAfter primitives x U → GoesOn x → Stands x U X → steps rows n x U ≡ ends e V → (j : ℕ) × EndsSo V.printed e V (ticks codes_run library j X))
          → (x : Ending) (U : World) (j : ℕ) → GoesOn x → SoundAfter primitives x U → Stands x U (after_ticks library j (forward library ending T)) → steps rows n x U ≡ ends e V → Reaches T e V
      rest more x U j gx ax sx q = onward T j (forward library ending T) e V (forwarded library ending 0 T) (more x U (after_ticks library j (forward library ending T)) ax gx sx q)

      by : (o : Outcome) → Leads library W.printed (forward library ending T) o → StepGood primitives (from_world W o) → and_then (from_world W o) (steps rows n) ≡ ends e V
          → ((x : Ending) (U : World) (X : TalkWorld) → SoundAfter primitives x U → GoesOn x → Stands x U X → steps rows n x U ≡ ends e V → (j : ℕ) × EndsSo V.printed e V (ticks codes_run library j X)) → Reaches T e V
      by trapped l good q more = absurd good
      by (ends spent U) l good q more = ended spent W refl q (start l.0 spent W l.1)
      by (ends main_yielded U) l good q more = ended main_yielded U refl q (start l.0 main_yielded U l.1)
      by (ends main_returned U) l good q more = ended main_returned U refl q (start l.0 main_returned U l.1)
      by (ends main_failed U) l good q more = ended main_failed U refl q (start l.0 main_failed U l.1)
      by (ends go U) l good q more = rest more go U l.0 tt good l.1 q
      by (ends returned U) l good q more = rest more returned U l.0 tt good l.1 q
      by (ends asks U) l good q more = rest more asks U l.0 tt good l.1 q
      by (ends (calls_primitive m) U) l good q more = rest more (calls_primitive m) U l.0 tt good l.1 q
      by (ends raised U) l good q more = rest more raised U l.0 tt good l.1 q
      by (ends unwinding U) l good q more = rest more unwinding U l.0 tt good l.1 q

  -- the machine's turn ends
  abbrev pub Over : Ending → World → Type 0
  Over ending W = (n : ℕ) × (e : Ending) × (V : World) × (steps rows n ending W ≡ ends e V) × (is_end e ≡ true)

  one_more : (ending : Ending) (W : World) (x : Ending) (U : World) → step rows ending W ≡ ends x U → Over x U → Over ending W
  one_more ending W x U q r = (suc r.0, r.1, r.2, ap (λ o. and_then o (steps rows r.0)) q ∙ r.3, r.4)

  -- one step, and then what stands at no call that is asked for
  stepped : (ending : Ending) (W : World) (T : TalkWorld) → SoundAfter primitives ending W → GoesOn ending → Stands ending W T
      → ((x : Ending) (U : World) (j : ℕ) → step_by rows ending W ≡ ends x U → GoesOn x → SoundAfter primitives x U → Stands x U (after_ticks library j (forward library ending T)) → Over x U) → Over ending W
  stepped ending W T a g s more = by (step_by rows ending W) refl (steps_lead primitives rows library same ending g W T a s) (steps_good primitives rows safe ending W a)
    where
      at_once : (x : Ending) (U : World) → is_end x ≡ true → Over x U
      at_once x U h = (0, x, U, refl, h)

      by : (o : Outcome) → step_by rows ending W ≡ o → Leads library W.printed (forward library ending T) o → StepGood primitives (from_world W o) → Over ending W
      by trapped q l good = absurd good
      by (ends spent U) q l good = one_more ending W spent W (ap (from_world W) q) (at_once spent W refl)
      by (ends main_yielded U) q l good = one_more ending W main_yielded U (ap (from_world W) q) (at_once main_yielded U refl)
      by (ends main_returned U) q l good = one_more ending W main_returned U (ap (from_world W) q) (at_once main_returned U refl)
      by (ends main_failed U) q l good = one_more ending W main_failed U (ap (from_world W) q) (at_once main_failed U refl)
      by (ends go U) q l good = one_more ending W go U (ap (from_world W) q) (more go U l.0 q tt good l.1)
      by (ends returned U) q l good = one_more ending W returned U (ap (from_world W) q) (more returned U l.0 q tt good l.1)
      by (ends asks U) q l good = one_more ending W asks U (ap (from_world W) q) (more asks U l.0 q tt good l.1)
      by (ends (calls_primitive m) U) q l good = one_more ending W (calls_primitive m) U (ap (from_world W) q) (more (calls_primitive m) U l.0 q tt good l.1)
      by (ends raised U) q l good = one_more ending W raised U (ap (from_world W) q) (more raised U l.0 q tt good l.1)
      by (ends unwinding U) q l good = one_more ending W unwinding U (ap (from_world W) q) (more unwinding U l.0 q tt good l.1)

  is_asks : (e : Ending) → (e ≡ asks) ⊎ (Some e ≡ Some asks → ⊥)
  is_asks asks = inl refl
  is_asks _ = inr (λ z. cc)

  ticked : (ending : Ending) (T : TalkWorld) → (Some ending ≡ Some asks → ⊥) → forward library ending T ≡ tick codes_run library T
  ticked asks T n = absurd (n refl)
  ticked _ T n = refl

  -- where no call is asked for: each step is a tick at least
  plainly : (bound j : ℕ) (ending : Ending) (W : World) (T : TalkWorld) → j < bound → SoundAfter primitives ending W → GoesOn ending → (Some ending ≡ Some asks → ⊥) → Stands ending W T → has_ended (after_ticks library j T).now ≡ true → Over ending W
  plainly zero j ending W T lt a g n s h = absurd (omega (arith, lt))
  plainly (suc bound) zero ending W T lt a g n s h = absurd (let z : false ≡ true = sym (not_ended library ending W T g n s) ∙ h in cc)
  plainly (suc bound) (suc j) ending W T lt a g n s h = stepped ending W T a g s (λ x U i q gx ax sx. by x U i gx ax sx (is_asks x) (λ k x U Y l ax gx m sx h. plainly bound k x U Y (omega (arith, l, lt)) ax gx m sx h))
    where
      X : TalkWorld
      X = tick codes_run library T

      ends_there : has_ended (after_ticks library j X).now ≡ true
      ends_there = subst (λ U. has_ended U.now ≡ true) (goes_so library j T (not_ended library ending W T g n s)) h

      on_tick : (i : ℕ) (x : Ending) (U : World) → Stands x U (after_ticks library i (forward library ending T)) → Stands x U (after_ticks library i (tick codes_run library T))
      on_tick i x U k = subst (λ Y. Stands x U (after_ticks library i Y)) (ticked ending T n) k

      by : (x : Ending) (U : World) (i : ℕ) → GoesOn x → SoundAfter primitives x U → Stands x U (after_ticks library i (forward library ending T)) → (x ≡ asks) ⊎ (Some x ≡ Some asks → ⊥)
          → ((k : ℕ) (x : Ending) (U : World) (Y : TalkWorld) → k ≤ j → SoundAfter primitives x U → GoesOn x → (Some x ≡ Some asks → ⊥) → Stands x U Y → has_ended (after_ticks library k Y).now ≡ true → Over x U) → Over x U
      by x U i gx ax sx (inr m) more =
          let k = later_ends library i j X ends_there in
          more k.0 x U (after_ticks library i X) k.1 ax gx m (on_tick i x U sx) k.2
      by x U i gx ax sx (inl e) more =
          let k = later_ends library i j X ends_there in
          subst (λ x. Over x U) (sym e)
          (stepped asks U (after_ticks library i X) (subst (λ x. SoundAfter primitives x U) e ax) tt (subst (λ x. Stands x U (after_ticks library i X)) e (on_tick i x U sx))
          (λ y Y m q gy ay sy.
          let z = later_ends library m k.0 (after_ticks library i X) k.2 in
          let l = k.1 in
          let l' = z.1 in
          more z.0 y Y (after_ticks library m (after_ticks library i X)) (omega (arith, l, l')) ay gy (λ w. asked_no_ask U (ap ending_in q ∙ w)) sy z.2))

  -- from wherever both stand
  pub machine_ends : (j : ℕ) (ending : Ending) (W : World) (T : TalkWorld) → SoundAfter primitives ending W → GoesOn ending → Stands ending W T → has_ended (ticks codes_run library j T).now ≡ true
      → (n : ℕ) × (e : Ending) × (V : World) × (steps rows n ending W ≡ ends e V) × (is_end e ≡ true)
  machine_ends j ending W T a g s h = by (is_asks ending)
    where
      by : (ending ≡ asks) ⊎ (Some ending ≡ Some asks → ⊥) → Over ending W
      by (inr n) = plainly (suc j) j ending W T (omega arith) a g n s h
      by (inl e) =
          subst (λ x. Over x W) (sym e)
          (stepped asks W T (subst (λ x. SoundAfter primitives x W) e a) tt (subst (λ x. Stands x W T) e s)
          (λ y Y m q gy ay sy.
          let z = later_ends library m j T h in
          let l = z.1 in
          plainly (suc j) z.0 y Y (after_ticks library m T) (omega (arith, l)) ay gy (λ w. asked_no_ask W (ap ending_in q ∙ w)) sy z.2))

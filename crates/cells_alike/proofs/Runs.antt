-- Turns and whole runs of both worlds.
use Rattle.std.proofs.Common.{◌≡◌, ℕ, zero, suc, ◌<◌, ◌≤◌, Bool, true, false, List, [], ◌∷◌, Option, Some, None, refl, sym, ◌∙◌, ap, subst, arith}
use Rattle.int_core.specs.Value.{string, known}
use Rattle.tree_core.specs.Tree.{Body}
use Rattle.tree_activation.specs.Work.{State}
use Rattle.load_rows.specs.Loading.{Builds}
use Rattle.lua_meaning.specs.World.{System, yielded, ends, gives_back, World}
use Rattle.lua_meaning.specs.Step.{has_ended, tick, ticks}
use Rattle.lua_meaning.specs.Meaning.{Meaning, at_end, suspends, handed_line, run_from, onward}
use Rattle.lua_meaning.specs.Opening.{primitives}
use Rattle.runs_alike.proofs.Endings.{gives_ended, Later, later_on, suspends_out, turn_end}
use Rattle.cells_alike.proofs.Joint.{Joint, one, two, Quiet, Stands, quiet, stopped, busy, Both}
use Rattle.cells_alike.proofs.Answering.{first_form, second_form}
use Rattle.cells_alike.proofs.Ticking.{behind, together, alone, Step, step_both}

abbrev some_ticks : Builds Body → System Body State → ℕ → World Body State → World Body State
some_ticks builds system n W = ticks system (primitives builds) n W

abbrev tick_if : Builds Body → System Body State → ℕ → Bool → World Body State → World Body State
tick_if builds system n b W = elim b as (λ _. World Body State) [ true ↦ W | false ↦ some_ticks builds system n (tick system (primitives builds) W) ]

stay : (builds : Builds Body) (system : System Body State) (n : ℕ) (W : World Body State) → has_ended W.now ≡ true → some_ticks builds system n W ≡ W
stay builds system zero W e = refl
stay builds system (suc n) W e = ap (λ b. tick_if builds system n b W) e

one_more : (builds : Builds Body) (system : System Body State) (n : ℕ) (W : World Body State) → has_ended W.now ≡ false → some_ticks builds system (suc n) W ≡ some_ticks builds system n (tick system (primitives builds) W)
one_more builds system n W e = ap (λ b. tick_if builds system n b W) e

none_some : {A : Type 0} → (x : A) → None ≡ Some x → ⊥
none_some x e = absurd (cc)

-- worlds in the two forms in which runs are suspended
pub record AreWaiting (side other : Joint → World Body State) (U V : World Body State) : Type 0 where
  pub joint : Joint
  pub waits : Quiet joint
  pub is : U ≡ side joint
  pub is_too : V ≡ other joint

module _ (builds : Builds Body) (budget : ℕ) where
  -- a turn that has ended at U on one side, after sufficiently many steps has ended on the other side as well
  pub record Turn (U : World Body State) (side other : Joint → World Body State) (system : System Body State) (V : World Body State) : Type 0 where
    pub there : Joint
    pub stands : Stands there
    pub same : U ≡ side there
    pub count : ℕ
    pub gives : (z : ℕ) → count ≤ z → some_ticks builds system z V ≡ other there

  abbrev FirstTurn : World Body State → Joint → Type 0
  FirstTurn U J = Turn U one two second_form (two J)

  abbrev SecondTurn : World Body State → Joint → Type 0
  SecondTurn U J = Turn U two one first_form (one J)

  -- the first world's turn

  abbrev FirstFrom : ℕ → Type 0
  FirstFrom k = (J : Joint) → Stands J → has_ended (some_ticks builds first_form k (one J)).now ≡ true → FirstTurn (some_ticks builds first_form k (one J)) J

  first_step : (k : ℕ) (J : Joint) (st : Stands J) → has_ended J.now ≡ false → Step builds J st → FirstFrom k → has_ended (some_ticks builds first_form k (tick first_form (primitives builds) (one J))).now ≡ true
      → FirstTurn (some_ticks builds first_form k (tick first_form (primitives builds) (one J))) J
  first_step k J st runs (together b) more ended =
      let K = b.there in
      let t = more K b.stands (subst (λ W. has_ended (some_ticks builds first_form k W).now ≡ true) b.same ended) in
      record {
        there = t.there;
        stands = t.stands;
        same = ap (some_ticks builds first_form k) b.same ∙ t.same;
        count = suc t.count;
        gives = λ z l. by z t l;
      }
    where
      by : (z : ℕ) → (t : FirstTurn (some_ticks builds first_form k (one b.there)) b.there) → suc t.count ≤ z → some_ticks builds second_form z (two J) ≡ two t.there
      by zero t l = absurd (omega (arith, l))
      by (suc z) t l = one_more builds second_form z (two J) runs ∙ ap (some_ticks builds second_form z) b.same_too ∙ t.gives z (omega (arith, l))
  first_step k J st runs (alone K l e stays fewer n) more ended =
      let t = more K l (subst (λ W. has_ended (some_ticks builds first_form k W).now ≡ true) e ended) in
      record {
        there = t.there;
        stands = t.stands;
        same = ap (some_ticks builds first_form k) e ∙ t.same;
        count = t.count;
        gives = λ z w. ap (some_ticks builds second_form z) stays ∙ t.gives z w;
      }

  ended_first : (J : Joint) → Stands J → has_ended J.now ≡ true → FirstTurn (one J) J
  ended_first J st e = record { there = J; stands = st; same = refl; count = 0; gives = λ z l. stay builds second_form z (two J) e }

  pub first_turn : (k : ℕ) → FirstFrom k
  first_turn zero J st ended = ended_first J st ended
  first_turn (suc k) J st ended = by (has_ended J.now) refl ended (first_turn k) where
    by : (b : Bool) → has_ended J.now ≡ b → has_ended (tick_if builds first_form k b (one J)).now ≡ true → FirstFrom k → FirstTurn (tick_if builds first_form k b (one J)) J
    by true e ended more = ended_first J st e
    by false e ended more = first_step k J st e (step_both builds J st) more ended

  -- the second world's turn

  abbrev SecondFrom : ℕ → Type 0
  SecondFrom k = (J : Joint) → Stands J → has_ended (some_ticks builds second_form k (two J)).now ≡ true → SecondTurn (some_ticks builds second_form k (two J)) J

  ended_second : (J : Joint) → Stands J → has_ended J.now ≡ true → SecondTurn (two J) J
  ended_second J st e = record { there = J; stands = st; same = refl; count = 0; gives = λ z l. stay builds first_form z (one J) e }

  -- both go on
  second_together : (k : ℕ) (J K : Joint) → Stands K → has_ended J.now ≡ false → tick first_form (primitives builds) (one J) ≡ one K → tick second_form (primitives builds) (two J) ≡ two K
      → SecondFrom k → has_ended (some_ticks builds second_form k (tick second_form (primitives builds) (two J))).now ≡ true → SecondTurn (some_ticks builds second_form k (tick second_form (primitives builds) (two J))) J
  second_together k J K st runs e d more ended =
      let t = more K st (subst (λ W. has_ended (some_ticks builds second_form k W).now ≡ true) d ended) in
      record {
        there = t.there;
        stands = t.stands;
        same = ap (some_ticks builds second_form k) d ∙ t.same;
        count = suc t.count;
        gives = λ z l. by z t l;
      }
    where
      by : (z : ℕ) → (t : SecondTurn (some_ticks builds second_form k (two K)) K) → suc t.count ≤ z → some_ticks builds first_form z (one J) ≡ one t.there
      by zero t l = absurd (omega (arith, l))
      by (suc z) t l = one_more builds first_form z (one J) runs ∙ ap (some_ticks builds first_form z) e ∙ t.gives z (omega (arith, l))

  -- the first world goes on alone
  second_waits : (k : ℕ) (J K : Joint) → has_ended J.now ≡ false → tick first_form (primitives builds) (one J) ≡ one K → two J ≡ two K → SecondTurn (some_ticks builds second_form k (two K)) K
      → SecondTurn (some_ticks builds second_form k (two J)) J
  second_waits k J K runs e stays t = record {
    there = t.there;
    stands = t.stands;
    same = ap (some_ticks builds second_form k) stays ∙ t.same;
    count = suc t.count;
    gives = λ z l. by z l;
  }
    where
      by : (z : ℕ) → suc t.count ≤ z → some_ticks builds first_form z (one J) ≡ one t.there
      by zero l = absurd (omega (arith, l))
      by (suc z) l = one_more builds first_form z (one J) runs ∙ ap (some_ticks builds first_form z) e ∙ t.gives z (omega (arith, l))

  abbrev Again : ℕ → ℕ → Type 0
  Again k m = (K : Joint) (kt : Stands K) → behind kt < m → has_ended (some_ticks builds second_form (suc k) (two K)).now ≡ true → SecondTurn (some_ticks builds second_form (suc k) (two K)) K

  second_by : (k m : ℕ) → SecondFrom k → (J : Joint) (st : Stands J) → behind st ≤ m → Again k m → has_ended (some_ticks builds second_form (suc k) (two J)).now ≡ true
      → SecondTurn (some_ticks builds second_form (suc k) (two J)) J
  second_by k m more J st l again ended = by (step_both builds J st) where
    on_both : (b : Bool) → has_ended J.now ≡ b → (Both (tick first_form (primitives builds) (one J)) (tick second_form (primitives builds) (two J))) → has_ended (tick_if builds second_form k b (two J)).now ≡ true
        → SecondTurn (tick_if builds second_form k b (two J)) J
    on_both true e x end = ended_second J st e
    on_both false e x end = second_together k J x.there x.stands e x.same x.same_too more end

    by : Step builds J st → SecondTurn (some_ticks builds second_form (suc k) (two J)) J
    by (together x) = on_both (has_ended J.now) refl x ended
    by (alone K kt e stays fewer n) =
        second_waits (suc k) J K n e stays
        (again K kt (omega (arith, fewer, l)) (subst (λ W. has_ended (some_ticks builds second_form (suc k) W).now ≡ true) stays ended))

  -- the first world is behind by at most m steps
  second_from : (k : ℕ) → SecondFrom k → (m : ℕ) (J : Joint) (st : Stands J) → behind st ≤ m → has_ended (some_ticks builds second_form (suc k) (two J)).now ≡ true
      → SecondTurn (some_ticks builds second_form (suc k) (two J)) J
  second_from k more zero J st l ended = second_by k zero more J st l (λ K kt less e. absurd (omega (arith, less))) ended
  second_from k more (suc m) J st l ended = second_by k (suc m) more J st l (λ K kt less e. second_from k more m K kt (omega (arith, less)) e) ended

  pub second_turn : (k : ℕ) → SecondFrom k
  second_turn zero J st ended = ended_second J st ended
  second_turn (suc k) J st ended = second_from k (second_turn k) (behind st) J st (omega arith) ended

  -- whole runs

  -- a script that was suspended at a yield is handed a line
  abbrev handed : Joint → List ℕ → Joint
  handed J line = record J { printed = []; fuel = budget; now = gives_back (known (string line) ∷ []) }

  abbrev OnLines : (side other : Joint → World Body State) (system to : System Body State) → (k : ℕ) → List (List ℕ) → Type 0
  OnLines side other system to k input = (J : Joint) → Stands J → (m : Meaning Body State) → run_from system (primitives builds) k (side J) input budget ≡ Some m
      → Later (AreWaiting side other) m (λ z. run_from to (primitives builds) z (other J) input budget)

  abbrev no_more : World Body State → Option (Meaning Body State)
  no_more W = None

  abbrev ends_on : (World Body State → Option (Meaning Body State)) → World Body State → Option (Meaning Body State)
  ends_on goes W = at_end W.now W goes

  -- one of the two worlds
  record IsSide (side : Joint → World Body State) (system : System Body State) : Type 0 where
    now : (J : Joint) → (side J).now ≡ J.now
    printed : (J : Joint) → (side J).printed ≡ J.printed
    handed_so : (J : Joint) (line : List ℕ) → handed_line system (primitives builds) (side J) line budget ≡ side (handed J line)

  is_first : IsSide one first_form
  is_first = record { now = λ J. refl; printed = λ J. refl; handed_so = λ J line. refl }

  is_second : IsSide two second_form
  is_second = record { now = λ J. refl; printed = λ J. refl; handed_so = λ J line. refl }

  module _ {side other : Joint → World Body State} {system to : System Body State} (s : IsSide side system) (o : IsSide other to)
      (turns : (k : ℕ) (J : Joint) → Stands J → has_ended (some_ticks builds system k (side J)).now ≡ true → Turn (some_ticks builds system k (side J)) side other to (other J)) where
    same_printed : (J : Joint) → (side J).printed ≡ (other J).printed
    same_printed J = s.printed J ∙ sym (o.printed J)

    -- a turn's end on both sides; `on` is how the other one goes on
    ends_alike : (goes : World Body State → Option (Meaning Body State)) (on : ℕ → World Body State → Option (Meaning Body State)) (J : Joint) → Stands J → (m : Meaning Body State) → at_end J.now (side J) goes ≡ Some m
        → ((K : Joint) → Quiet K → (y : Meaning Body State) → goes (side K) ≡ Some y → Later (AreWaiting side other) y (λ z. on z (other K))) → Later (AreWaiting side other) m (λ z. at_end J.now (other J) (on z))
    ends_alike goes on _ (quiet J q) m given more = turn_end (AreWaiting side other) J.now (side J) (other J) goes on m (same_printed J) given (more J q)
    ends_alike goes on _ (stopped J (yielded vs) l) m given more = absurd l
    ends_alike goes on _ (stopped J w l) m given more =
        let K : Joint = record J { now = ends w } in
        turn_end (AreWaiting side other) (ends w) (side K) (other K) no_more (λ z. no_more) m (same_printed K) given (λ y e. absurd (none_some y e))
    ends_alike goes on _ (busy J f a b below tk) m given more = absurd (cc)

    turn_alike : (k : ℕ) (goes : World Body State → Option (Meaning Body State)) (on : ℕ → World Body State → Option (Meaning Body State)) (J : Joint) → Stands J → (m : Meaning Body State)
        → ends_on goes (some_ticks builds system k (side J)) ≡ Some m
        → ((K : Joint) → Quiet K → (y : Meaning Body State) → goes (side K) ≡ Some y → Later (AreWaiting side other) y (λ z. on z (other K))) → Later (AreWaiting side other) m (λ z. ends_on (on z) (some_ticks builds to z (other J)))
    turn_alike k goes on J st m given more =
        let t = turns k J st (gives_ended (some_ticks builds system k (side J)).now (some_ticks builds system k (side J)) goes m given) in
        let K = t.there in
        let l = ends_alike goes on K t.stands m (subst (λ n. at_end n (side K) goes ≡ Some m) (s.now K) (subst (λ U. ends_on goes U ≡ Some m) t.same given)) more in
        later_on (AreWaiting side other) m t.count (subst (λ n. Later (AreWaiting side other) m (λ z. at_end n (other K) (on z))) (sym (o.now K)) l) (λ z within. ap (ends_on (on z)) (t.gives z within))

    runs_so : (k : ℕ) (input : List (List ℕ)) → OnLines side other system to k input
    runs_so k [] J st m given = turn_alike k suspends (λ z. suspends) J st m given (λ K q y e. suspends_out (AreWaiting side other) (side K) (other K) (record { joint = K; waits = q; is = refl; is_too = refl }) y e)
    runs_so k (line ∷ input) J st m given =
        turn_alike k (λ U. run_from system (primitives builds) k (handed_line system (primitives builds) U line budget) input budget) (λ z U. run_from to (primitives builds) z (handed_line to (primitives builds) U line budget) input budget) J st m given
        (λ K q y e.
        subst (λ (X : World Body State). Later (AreWaiting side other) y (λ z. run_from to (primitives builds) z X input budget)) (sym (o.handed_so K line))
        (runs_so k input (handed K line) (quiet (handed K line) q) y (subst (λ (X : World Body State). run_from system (primitives builds) k X input budget ≡ Some y) (s.handed_so K line) e)))

  pub first_runs : (k : ℕ) (input : List (List ℕ)) → OnLines one two first_form second_form k input
  first_runs k input = runs_so is_first is_second first_turn k input

  pub second_runs : (k : ℕ) (input : List (List ℕ)) → OnLines two one second_form first_form k input
  second_runs k input = runs_so is_second is_first second_turn k input

  -- the first form goes on as the second one does, with whatever budget both were suspended
  pub second_onward : (k : ℕ) (input : List (List ℕ)) (U V : World Body State) → AreWaiting two one U V → (m : Meaning Body State) → onward second_form (primitives builds) k U input budget ≡ Some m
      → Later (AreWaiting two one) m (λ z. onward first_form (primitives builds) z V input budget)
  second_onward k [] U V a m given = suspends_out (AreWaiting two one) U V a m given
  second_onward k (line ∷ input) U V a m given =
      subst (λ (X : World Body State). Later (AreWaiting two one) m (λ z. run_from first_form (primitives builds) z (handed_line first_form (primitives builds) X line budget) input budget)) (sym a.is_too)
      (second_runs k input (handed a.joint line) (quiet (handed a.joint line) a.waits) m (subst (λ (X : World Body State). run_from second_form (primitives builds) k (handed_line second_form (primitives builds) X line budget) input budget ≡ Some m) a.is given))

-- Runs that have ended, and runs that are cut at a yield.
use Rattle.std.proofs.Common.{◌≡◌, ℕ, zero, suc, ◌+◌, ◌≤◌, Bool, true, false, List, [], ◌∷◌, ◌++◌, Option, Some, None, refl, sym, ◌∙◌, ap, arith, append_assoc}
use Rattle.std.specs.Prelude.{option_map}
use Rattle.lua_meaning.specs.World.{System, World, yielded, returned, failed_with, spent, broken, Now, ends}
use Rattle.lua_meaning.specs.Step.{Primitives, has_ended, tick, ticks}
use Rattle.lua_meaning.specs.Meaning.{Meaning, Outcome, is_suspended, behind, at_end, suspends, handed_line, run_from, onward, begun, Script, IsMeaning, IsOnward}
use Rattle.list_laws.proofs.Items.{some_same}

module _ {F S : Type 0} (system : System F S) (primitives : Primitives F) where
  by_ended : (b : Bool) (W V U : World F S) → has_ended (elim b as (λ _. World F S) [ true ↦ W | false ↦ V ]).now ≡ true → (has_ended V.now ≡ true → U ≡ V)
      → elim b as (λ _. World F S) [ true ↦ W | false ↦ U ] ≡ elim b as (λ _. World F S) [ true ↦ W | false ↦ V ]
  by_ended true W V U ended same = refl
  by_ended false W V U ended same = same ended

  stays : (b : Bool) (W V : World F S) → b ≡ true → elim b as (λ _. World F S) [ true ↦ W | false ↦ V ] ≡ W
  stays true W V ended = refl
  stays false W V ended = absurd (cc)

  pub ended_within : (m n : ℕ) (W : World F S) → has_ended (ticks system primitives m W).now ≡ true → m ≤ n → ticks system primitives n W ≡ ticks system primitives m W
  ended_within zero zero W ended within = refl
  ended_within zero (suc n) W ended within = stays (has_ended W.now) W (ticks system primitives n (tick system primitives W)) ended
  ended_within (suc m) zero W ended within = absurd (omega (arith, within))
  ended_within (suc m) (suc n) W ended within =
      by_ended (has_ended W.now) W (ticks system primitives m (tick system primitives W)) (ticks system primitives n (tick system primitives W)) ended
      (λ e. ended_within m n (tick system primitives W) e (omega (arith, within)))

  -- a run that gives a meaning has ended
  gives_ended : (now : Now) (W : World F S) (goes : World F S → Option (Meaning F S)) (x : Meaning F S) → at_end now W goes ≡ Some x → has_ended now ≡ true
  gives_ended (ends ending) W goes x given = refl
  gives_ended _ W goes x given = absurd (cc)

  -- what follows a yield may be replaced
  map_given : (text : List ℕ) (o p : Option (Meaning F S)) (x : Meaning F S) → option_map (behind text) o ≡ Some x → ((y : Meaning F S) → o ≡ Some y → p ≡ Some y) → option_map (behind text) p ≡ Some x
  map_given text None p x given more = absurd (cc)
  map_given text (Some y) p x given more = rw (more y refl) given

  at_end_given : (now : Now) (W : World F S) (goes on : World F S → Option (Meaning F S)) (x : Meaning F S) → at_end now W goes ≡ Some x
      → ((y : Meaning F S) → goes W ≡ Some y → on W ≡ Some y) → at_end now W on ≡ Some x
  at_end_given (ends (yielded vs)) W goes on x given more = map_given _ (goes W) (on W) x given more
  at_end_given (ends (returned vs)) W goes on x given more = given
  at_end_given (ends (failed_with e)) W goes on x given more = given
  at_end_given (ends spent) W goes on x given more = given
  at_end_given (ends broken) W goes on x given more = given
  at_end_given _ W goes on x given more = absurd (cc)

  -- more steps a turn give the same meaning
  pub given_within : (m n : ℕ) (W : World F S) (input : List (List ℕ)) (budget : ℕ) (x : Meaning F S)
      → run_from system primitives m W input budget ≡ Some x → m ≤ n → run_from system primitives n W input budget ≡ Some x
  given_within m n W [] budget x given within =
      let V = ticks system primitives m W in
      let same = ended_within m n W (gives_ended V.now V suspends x given) within in
      rw same given
  given_within m n W (line ∷ more) budget x given within =
      let V = ticks system primitives m W in
      let goes = λ (U : World F S). run_from system primitives m (handed_line system primitives U line budget) more budget in
      let on = λ (U : World F S). run_from system primitives n (handed_line system primitives U line budget) more budget in
      let same = ended_within m n W (gives_ended V.now V goes x given) within in
      rw same (at_end_given V.now V goes on x given (λ y e. given_within m n (handed_line system primitives V line budget) more budget y e within))

  -- cuts

  abbrev world_in : World F S → Outcome F S → World F S
  world_in V (is_suspended W) = W
  world_in V _ = V

  abbrev is_suspension : Outcome F S → Bool
  is_suspension (is_suspended W) = true
  is_suspension _ = false

  -- a turn that ended otherwise than at a yield is not suspended
  not_suspended : (m x : Meaning F S) (W : World F S) → is_suspension m.outcome ≡ false → Some m ≡ Some x → x.outcome ≡ is_suspended W → ⊥
  not_suspended m x W other given suspended =
      let e = some_same m x given in
      let a : false ≡ is_suspension x.outcome = sym other ∙ ap (λ (z : Meaning F S). is_suspension z.outcome) e in
      let b : is_suspension x.outcome ≡ true = ap is_suspension suspended in
      absurd (cc)

  -- what is prefixed twice
  twice : (text more : List ℕ) (y : Meaning F S) → behind text (behind more y) ≡ behind (text ++ more) y
  twice text more y = ap (λ printed. record { printed = printed; outcome = y.outcome }) (sym (append_assoc text more y.printed))

  map_cut : (text : List ℕ) (o p : Option (Meaning F S)) (x y : Meaning F S) (W : World F S) → option_map (behind text) o ≡ Some x → x.outcome ≡ is_suspended W
      → ((z : Meaning F S) → o ≡ Some z → z.outcome ≡ is_suspended W → p ≡ Some (behind z.printed y)) → option_map (behind text) p ≡ Some (behind x.printed y)
  map_cut text None p x y W given suspended more = absurd (cc)
  map_cut text (Some z) p x y W given suspended more =
      let e : behind text z ≡ x = some_same (behind text z) x given in
      let same : z.outcome ≡ x.outcome = ap (λ (m : Meaning F S). m.outcome) e in
      let printed : text ++ z.printed ≡ x.printed = ap (λ (m : Meaning F S). m.printed) e in
      rw (more z refl (same ∙ suspended)) (ap Some (twice text z.printed y ∙ ap (λ t. behind t y) printed))

  at_end_cut : (now : Now) (V : World F S) (goes on : World F S → Option (Meaning F S)) (x y : Meaning F S) (W : World F S)
      → at_end now V goes ≡ Some x → x.outcome ≡ is_suspended W
      → ((z : Meaning F S) → goes V ≡ Some z → z.outcome ≡ is_suspended W → on V ≡ Some (behind z.printed y)) → at_end now V on ≡ Some (behind x.printed y)
  at_end_cut (ends (yielded vs)) V goes on x y W given suspended more = map_cut _ (goes V) (on V) x y W given suspended more
  at_end_cut (ends (returned vs)) V goes on x y W given suspended more = absurd (not_suspended _ x W refl given suspended)
  at_end_cut (ends (failed_with e)) V goes on x y W given suspended more = absurd (not_suspended _ x W refl given suspended)
  at_end_cut (ends spent) V goes on x y W given suspended more = absurd (not_suspended _ x W refl given suspended)
  at_end_cut (ends broken) V goes on x y W given suspended more = absurd (not_suspended _ x W refl given suspended)
  at_end_cut _ V goes on x y W given suspended more = absurd (cc)

  -- where the lines have run out, it is the further lines that count
  suspended_here : (n : ℕ) (V W : World F S) (more : List (List ℕ)) (budget : ℕ) (z y : Meaning F S)
      → suspends V ≡ Some z → z.outcome ≡ is_suspended W → onward system primitives n W more budget ≡ Some y → onward system primitives n V more budget ≡ Some (behind z.printed y)
  suspended_here n V W more budget z y here suspended later =
      let e = some_same (record { printed = []; outcome = is_suspended V }) z here in
      let same : V ≡ W = ap (λ (m : Meaning F S). world_in V m.outcome) e ∙ ap (world_in V) suspended in
      let printed : [] ≡ z.printed = ap (λ (m : Meaning F S). m.printed) e in
      ap (λ U. onward system primitives n U more budget) same ∙ later ∙ ap (λ t. Some (behind t y)) printed

  run_is : (n : ℕ) (U : World F S) (more : List (List ℕ)) (budget : ℕ)
      → run_from system primitives n U more budget ≡ at_end (ticks system primitives n U).now (ticks system primitives n U) (λ V. onward system primitives n V more budget)
  run_is n U [] budget = refl
  run_is n U (line ∷ more) budget = refl

  pub cut_within : (n : ℕ) (U W : World F S) (input more : List (List ℕ)) (budget : ℕ) (x y : Meaning F S)
      → run_from system primitives n U input budget ≡ Some x → x.outcome ≡ is_suspended W → onward system primitives n W more budget ≡ Some y
      → run_from system primitives n U (input ++ more) budget ≡ Some (behind x.printed y)
  cut_within n U W [] more budget x y given suspended later =
      let V = ticks system primitives n U in
      run_is n U more budget
      ∙ at_end_cut V.now V suspends (λ V'. onward system primitives n V' more budget) x y W given suspended (λ z here also. suspended_here n V W more budget z y here also later)
  cut_within n U W (line ∷ input) more budget x y given suspended later =
      let V = ticks system primitives n U in
      at_end_cut V.now V (λ V'. run_from system primitives n (handed_line system primitives V' line budget) input budget)
      (λ V'. run_from system primitives n (handed_line system primitives V' line budget) (input ++ more) budget) x y W given suspended
      (λ z here also. cut_within n (handed_line system primitives V line budget) W input more budget z y here also later)

  onward_within : (m n : ℕ) (W : World F S) (more : List (List ℕ)) (budget : ℕ) (y : Meaning F S)
      → onward system primitives m W more budget ≡ Some y → m ≤ n → onward system primitives n W more budget ≡ Some y
  onward_within m n W [] budget y given within = given
  onward_within m n W (line ∷ more) budget y given within = given_within m n (handed_line system primitives W line budget) more budget y given within

  pub meaning_once : (opening : World F S) (script : Script F) (input : List (List ℕ)) (budget : ℕ) (x y : Meaning F S)
      → IsMeaning system primitives opening script input budget x → IsMeaning system primitives opening script input budget y → x ≡ y
  meaning_once opening script input budget x y a b =
      let U = begun system primitives opening script budget in
      let first = given_within a.steps (a.steps + b.steps) U input budget x a.gives (omega arith) in
      let second = given_within b.steps (a.steps + b.steps) U input budget y b.gives (omega arith) in
      some_same x y (sym first ∙ second)

  pub meaning_cut : (opening : World F S) (script : Script F) (input more : List (List ℕ)) (budget : ℕ) (x y : Meaning F S) (W : World F S)
      → IsMeaning system primitives opening script input budget x → x.outcome ≡ is_suspended W → IsOnward system primitives W more budget y
      → IsMeaning system primitives opening script (input ++ more) budget (behind x.printed y)
  meaning_cut opening script input more budget x y W a suspended b =
      let U = begun system primitives opening script budget in
      let n = a.steps + b.steps in
      record {
        steps = n;
        gives = cut_within n U W input more budget x y (given_within a.steps n U input budget x a.gives (omega arith)) suspended
            (onward_within b.steps n W more budget y b.gives (omega arith));
      }

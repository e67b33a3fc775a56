-- Turns that have ended, and runs that are cut at a yield.
use Rattle.std.proofs.Common.{◌≡◌, ℕ, zero, suc, ◌+◌, ◌≤◌, Bool, true, false, List, [], ◌∷◌, ◌++◌, Option, Some, None, refl, sym, ◌∙◌, ap, arith, append_assoc}
use Rattle.std.specs.Prelude.{option_map}
use Rattle.list_laws.proofs.Items.{some_same}
use Rattle.machine_core.specs.World.{World}
use Rattle.machine_core.specs.Moves.{Ending, go, returned, asks, calls_primitive, raised, unwinding, spent, main_yielded, main_returned, main_failed, Row, Outcome, trapped, ends}
use Rattle.machine_core.specs.MachineStep.{step, and_then, steps}
use Rattle.machine_runs.specs.Opening.{handed_line}
use Rattle.machine_runs.specs.Runs.{wakes, with_budget, turn, is_end, has_ended, Close, is_suspended, Run, behind, suspends, turn_text, at_end, run_from, onward, CodeRun, CodeOnward}

module _ (rows : ℕ → Row) where
  -- an end stays as it is
  pub end_stays : (n : ℕ) (e : Ending) (W : World) → is_end e ≡ true → steps rows n e W ≡ ends e W
  end_stays zero e W h = refl
  end_stays (suc n) spent W h = end_stays n spent W h
  end_stays (suc n) main_yielded W h = end_stays n main_yielded W h
  end_stays (suc n) main_returned W h = end_stays n main_returned W h
  end_stays (suc n) main_failed W h = end_stays n main_failed W h
  end_stays (suc n) go W h = absurd (cc)
  end_stays (suc n) returned W h = absurd (cc)
  end_stays (suc n) asks W h = absurd (cc)
  end_stays (suc n) (calls_primitive k) W h = absurd (cc)
  end_stays (suc n) raised W h = absurd (cc)
  end_stays (suc n) unwinding W h = absurd (cc)

  then_within : (m n : ℕ) (o : Outcome) → ((e : Ending) (W : World) → has_ended (steps rows m e W) ≡ true → steps rows n e W ≡ steps rows m e W)
      → has_ended (and_then o (steps rows m)) ≡ true → and_then o (steps rows n) ≡ and_then o (steps rows m)
  then_within m n trapped same h = refl
  then_within m n (ends e W) same h = same e W h

  steps_within : (m n : ℕ) → m ≤ n → (e : Ending) (W : World) → has_ended (steps rows m e W) ≡ true → steps rows n e W ≡ steps rows m e W
  steps_within zero n l e W h = end_stays n e W h
  steps_within (suc m) zero l e W h = absurd (omega arith)
  steps_within (suc m) (suc n) l e W h = then_within m n (step rows e W) (steps_within m n (omega arith)) h

  pub turn_within : (m n : ℕ) (W : World) (budget : ℕ) → has_ended (turn rows m W budget) ≡ true → m ≤ n → turn rows n W budget ≡ turn rows m W budget
  turn_within m n W budget h l = then_within m n (wakes (with_budget W budget)) (steps_within m n l) h

  -- a turn that gives a run has ended
  gives_ended : (o : Outcome) (goes : World → Option Run) (x : Run) → at_end o goes ≡ Some x → has_ended o ≡ true
  gives_ended (ends spent W) goes x given = refl
  gives_ended (ends main_yielded W) goes x given = refl
  gives_ended (ends main_returned W) goes x given = refl
  gives_ended (ends main_failed W) goes x given = refl
  gives_ended (ends (calls_primitive k) W) goes x given = absurd (cc)
  gives_ended _ goes x given = absurd (cc)

  -- what follows a yield may be replaced
  map_given : (text : List ℕ) (o p : Option Run) (x : Run) → option_map (behind text) o ≡ Some x → ((y : Run) → o ≡ Some y → p ≡ Some y) → option_map (behind text) p ≡ Some x
  map_given text None p x given more = absurd (cc)
  map_given text (Some y) p x given more = rw (more y refl) given

  at_end_given : (o : Outcome) (goes on : World → Option Run) (x : Run) → at_end o goes ≡ Some x → ((W : World) (y : Run) → goes W ≡ Some y → on W ≡ Some y) → at_end o on ≡ Some x
  at_end_given (ends main_yielded W) goes on x given more = map_given (turn_text main_yielded W) (goes W) (on W) x given (more W)
  at_end_given (ends (calls_primitive k) W) goes on x given more = given
  at_end_given _ goes on x given more = given

  -- more steps a turn give the same run
  pub given_within : (m n : ℕ) (W : World) (input : List (List ℕ)) (budget : ℕ) (x : Run) → run_from rows m W input budget ≡ Some x → m ≤ n → run_from rows n W input budget ≡ Some x
  given_within m n W [] budget x given within =
      let same = turn_within m n W budget (gives_ended (turn rows m W budget) suspends x given) within in
      ap (λ o. at_end o suspends) same ∙ given
  given_within m n W (line ∷ more) budget x given within =
      let goes = λ (V : World). run_from rows m (handed_line V line) more budget in
      let on = λ (V : World). run_from rows n (handed_line V line) more budget in
      let same = turn_within m n W budget (gives_ended (turn rows m W budget) goes x given) within in
      ap (λ o. at_end o on) same ∙ at_end_given (turn rows m W budget) goes on x given (λ V y e. given_within m n (handed_line V line) more budget y e within)

  onward_within : (m n : ℕ) (W : World) (more : List (List ℕ)) (budget : ℕ) (y : Run) → onward rows m W more budget ≡ Some y → m ≤ n → onward rows n W more budget ≡ Some y
  onward_within m n W [] budget y given within = given
  onward_within m n W (line ∷ more) budget y given within = given_within m n (handed_line W line) more budget y given within

  -- cuts

  abbrev suspension : Close → Bool
  suspension is_suspended = true
  suspension _ = false

  not_suspended : (m x : Run) → suspension m.close ≡ false → Some m ≡ Some x → x.close ≡ is_suspended → ⊥
  not_suspended m x other given suspended =
      let e = some_same m x given in
      let a : false ≡ suspension x.close = sym other ∙ ap (λ (z : Run). suspension z.close) e in
      let b : suspension x.close ≡ true = ap suspension suspended in
      absurd (cc)

  -- what is prefixed twice
  twice : (text more : List ℕ) (y : Run) → behind text (behind more y) ≡ behind (text ++ more) y
  twice text more y = ap (λ printed. record { printed = printed; close = y.close; last = y.last }) (sym (append_assoc text more y.printed))

  map_cut : (text : List ℕ) (o p : Option Run) (x y : Run) → option_map (behind text) o ≡ Some x → x.close ≡ is_suspended
      → ((z : Run) → o ≡ Some z → z.close ≡ is_suspended → z.last ≡ x.last → p ≡ Some (behind z.printed y)) → option_map (behind text) p ≡ Some (behind x.printed y)
  map_cut text None p x y given suspended more = absurd (cc)
  map_cut text (Some z) p x y given suspended more =
      let e : behind text z ≡ x = some_same (behind text z) x given in
      let same : z.close ≡ x.close = ap (λ (m : Run). m.close) e in
      let last : z.last ≡ x.last = ap (λ (m : Run). m.last) e in
      let printed : text ++ z.printed ≡ x.printed = ap (λ (m : Run). m.printed) e in
      rw (more z refl (same ∙ suspended) last) (ap Some (twice text z.printed y ∙ ap (λ t. behind t y) printed))

  at_end_cut : (o : Outcome) (goes on : World → Option Run) (x y : Run) → at_end o goes ≡ Some x → x.close ≡ is_suspended
      → ((V : World) (z : Run) → goes V ≡ Some z → z.close ≡ is_suspended → z.last ≡ x.last → on V ≡ Some (behind z.printed y)) → at_end o on ≡ Some (behind x.printed y)
  at_end_cut (ends main_yielded V) goes on x y given suspended more = map_cut (turn_text main_yielded V) (goes V) (on V) x y given suspended (more V)
  at_end_cut (ends main_returned V) goes on x y given suspended more = absurd (not_suspended _ x refl given suspended)
  at_end_cut (ends main_failed V) goes on x y given suspended more = absurd (not_suspended _ x refl given suspended)
  at_end_cut (ends spent V) goes on x y given suspended more = absurd (not_suspended _ x refl given suspended)
  at_end_cut (ends (calls_primitive k) V) goes on x y given suspended more = absurd (cc)
  at_end_cut _ goes on x y given suspended more = absurd (cc)

  -- where the lines have run out, it is the further lines that count
  suspended_here : (n : ℕ) (V L : World) (more : List (List ℕ)) (budget : ℕ) (z y : Run) → suspends V ≡ Some z → z.last ≡ L → onward rows n L more budget ≡ Some y → onward rows n V more budget ≡ Some (behind z.printed y)
  suspended_here n V L more budget z y here is later =
      let e = some_same (record { printed = []; close = is_suspended; last = V }) z here in
      let same : V ≡ L = ap (λ (m : Run). m.last) e ∙ is in
      let printed : [] ≡ z.printed = ap (λ (m : Run). m.printed) e in
      ap (λ U. onward rows n U more budget) same ∙ later ∙ ap (λ t. Some (behind t y)) printed

  run_is : (n : ℕ) (U : World) (more : List (List ℕ)) (budget : ℕ) → run_from rows n U more budget ≡ at_end (turn rows n U budget) (λ V. onward rows n V more budget)
  run_is n U [] budget = refl
  run_is n U (line ∷ more) budget = refl

  cut_within : (n : ℕ) (U : World) (input more : List (List ℕ)) (budget : ℕ) (x y : Run) → run_from rows n U input budget ≡ Some x → x.close ≡ is_suspended
      → onward rows n x.last more budget ≡ Some y → run_from rows n U (input ++ more) budget ≡ Some (behind x.printed y)
  cut_within n U [] more budget x y given suspended later =
      run_is n U more budget
      ∙ at_end_cut (turn rows n U budget) suspends (λ V. onward rows n V more budget) x y given suspended (λ V z here also last. suspended_here n V x.last more budget z y here last later)
  cut_within n U (line ∷ input) more budget x y given suspended later =
      at_end_cut (turn rows n U budget) (λ V. run_from rows n (handed_line V line) input budget) (λ V. run_from rows n (handed_line V line) (input ++ more) budget) x y given suspended
      (λ V z here also last. cut_within n (handed_line V line) input more budget z y here also (ap (λ L. onward rows n L more budget) last ∙ later))

  onward_cut : (n : ℕ) (W : World) (input more : List (List ℕ)) (budget : ℕ) (x y : Run) → onward rows n W input budget ≡ Some x → x.close ≡ is_suspended
      → onward rows n x.last more budget ≡ Some y → onward rows n W (input ++ more) budget ≡ Some (behind x.printed y)
  onward_cut n W [] more budget x y given suspended later = suspended_here n W x.last more budget x y given refl later
  onward_cut n W (line ∷ input) more budget x y given suspended later = cut_within n (handed_line W line) input more budget x y given suspended later

  pub run_once : (W : World) (input : List (List ℕ)) (budget : ℕ) (x y : Run) → CodeRun rows W input budget x → CodeRun rows W input budget y → x ≡ y
  run_once W input budget x y a b =
      let first = given_within a.count (a.count + b.count) W input budget x a.gives (omega arith) in
      let second = given_within b.count (a.count + b.count) W input budget y b.gives (omega arith) in
      some_same x y (sym first ∙ second)

  pub run_cut : (W : World) (input more : List (List ℕ)) (budget : ℕ) (x y : Run) → CodeRun rows W input budget x → x.close ≡ is_suspended → CodeOnward rows x.last more budget y
      → CodeRun rows W (input ++ more) budget (behind x.printed y)
  run_cut W input more budget x y a suspended b =
      let n = a.count + b.count in
      record { count = n; gives = cut_within n W input more budget x y (given_within a.count n W input budget x a.gives (omega arith)) suspended (onward_within b.count n x.last more budget y b.gives (omega arith)) }

  pub onward_run_cut : (W : World) (input more : List (List ℕ)) (budget : ℕ) (x y : Run) → CodeOnward rows W input budget x → x.close ≡ is_suspended → CodeOnward rows x.last more budget y
      → CodeOnward rows W (input ++ more) budget (behind x.printed y)
  onward_run_cut W input more budget x y a suspended b =
      let n = a.count + b.count in
      record { count = n; gives = onward_cut n W input more budget x y (onward_within a.count n W input budget x a.gives (omega arith)) suspended (onward_within b.count n x.last more budget y b.gives (omega arith)) }

-- Over any number of lines: what one side gives, both give.
use Rattle.std.proofs.Common.{ℕ, suc, ◌+◌, ◌≤◌, ◌≡◌, List, [], ◌∷◌, ◌++◌, length, Option, Some, None, refl, sym, ap, subst, ◌∙◌, arith, true, false}
use Rattle.std.specs.Prelude.{slice_get, slice_set, option_map}
use Rattle.int_core.specs.Value.{greatest_string, known, string, bind, last}
use Rattle.code_core.specs.Prototype.{Prototype}
use Rattle.list_laws.proofs.Ends.{last_is}
use Rattle.list_laws.proofs.Items.{get_set_same}
use Rattle.machine_core.specs.World.{Frame, in_progress, suspended, World, stack_of}
use Rattle.machine_core.specs.Moves.{Ending, returned, calls_primitive, spent, main_yielded, main_returned, main_failed, Row, Outcome, trapped, ends, run, go_into, TopShape, lua_top, top_shape, put_coroutine, starts_in}
use Rattle.machine_core.specs.FrameRows.{hand_over}
use Rattle.machine_core.specs.MachineStep.{and_then, steps}
use Rattle.machine_core.specs.Talk.{State}
use Rattle.lua_meaning.specs.World as talk
use Rattle.lua_meaning.specs.Step.{Primitives, has_ended, ticks}
use Rattle.lua_meaning.specs.Meaning as meaning
use Rattle.lua_meaning.specs.Meaning.{Meaning, run_from as means_from, at_end as means_at, suspends as means_suspended, report as talk_report}
use Rattle.lua_meaning.proofs.Runs.{ended_within, given_within as meaning_within}
use Rattle.code_means.specs.Runs.{codes_run}
use Rattle.machine_sound.specs.Sound.{Each, Sound}
use Rattle.machine_sound.specs.Laws.{SoundAfter, PrimitivesSafe, StepGood}
use Rattle.machine_sound.proofs.Frames.{stack_is}
use Rattle.machine_runs.specs.Opening.{handed_line}
use Rattle.machine_runs.specs.Runs.{wakes, after_waking, with_budget, turn, is_end, has_ended as turn_ended, has_returned, has_failed, has_spent, is_suspended, Run, behind, suspends, turn_text, report, closes, at_end, run_from}
use Rattle.machine_runs.specs.Laws.{MayTurn}
use Rattle.machine_runs.proofs.Runs.{turn_within, given_within}
use Rattle.machine_runs.proofs.Opening.{handed_sound, handed_may_turn}
use Rattle.machine_runs.proofs.Waking.{turn_good}
use Rattle.machine_means.specs.Joined.{TalkWorld, Joined}
use Rattle.machine_means.specs.Stands.{Stands, results_come}
use Rattle.machine_means.proofs.Handing.{ending_of, hand_over_is}
use Rattle.means_steps.specs.Steps.{EndsSo, SameLibrary, GoesOn, MainWaits}
use Rattle.means_runs.specs.Runs.{RunsAlike}
use Rattle.means_runs.proofs.Turns.{machine_comes, machine_ends, ended_same, some_is}

-- an end is one in the other world
ended_so : (shown : List ℕ) (e : Ending) (V : World) (X : TalkWorld) → is_end e ≡ true → EndsSo shown e V X → has_ended X.now ≡ true
ended_so shown spent V X h k = ap has_ended k.0
ended_so shown main_yielded V X h k = ap has_ended k.0
ended_so shown main_returned V X h k = ap has_ended k.0
ended_so shown main_failed V X h k = ap has_ended k.0.ended
ended_so shown _ V X h k = absurd (cc)

handed_on : (top : TopShape) → GoesOn (ending_of top)
handed_on lua_top = tt
handed_on _ = tt

-- a line is handed over

abbrev line_turn : World → (co : ℕ) → List Frame → (line : List ℕ) → (budget : ℕ) → (chain : List ℕ) → World
line_turn V co frames line budget chain = record V { coroutines = slice_set V.coroutines co (in_progress frames); chain = chain; moving = known (string line) ∷ []; printed = []; fuel = budget }

main_wakes : (V : World) (U : TalkWorld) (k : MainWaits V U) (line : List ℕ) (budget : ℕ) → wakes (with_budget (handed_line V line) budget) ≡ run hand_over [] (line_turn V k.co k.frames line budget (V.chain ++ k.co ∷ []))
unfolding wakes handed_line go_into put_coroutine
main_wakes V U k line budget =
    let X : World = record V { moving = known (string line) ∷ []; printed = []; fuel = budget } in
    ap (λ o. after_waking (bind o (λ co. bind (slice_get X.coroutines co) (λ c. starts_in (record X { moving = [] }) co c X.moving)))) k.main
    ∙ ap (λ o. after_waking (bind o (λ c. starts_in (record X { moving = [] }) k.co c X.moving))) k.there

-- whether it is over, by what it gives

ended_of : (o : Outcome) (goes : World → Option Run) (x : Run) → at_end o goes ≡ Some x → (e : Ending) × (V : World) × (o ≡ ends e V) × (is_end e ≡ true)
ended_of (ends spent V) goes x g = (spent, V, refl, refl)
ended_of (ends main_yielded V) goes x g = (main_yielded, V, refl, refl)
ended_of (ends main_returned V) goes x g = (main_returned, V, refl, refl)
ended_of (ends main_failed V) goes x g = (main_failed, V, refl, refl)
ended_of (ends (calls_primitive n) V) goes x g = absurd (cc)
ended_of _ goes x g = absurd (cc)

meaning_ended : (now : talk.Now) (V : TalkWorld) (goes : TalkWorld → Option (Meaning Prototype State)) (x : Meaning Prototype State) → means_at now V goes ≡ Some x → has_ended now ≡ true
meaning_ended (talk.ends e) V goes x g = refl
meaning_ended _ V goes x g = absurd (cc)

map_some : {A B : Type 0} (f : A → B) (o : Option A) (y : B) → option_map f o ≡ Some y → (x : A) × (o ≡ Some x)
map_some f None y g = absurd (cc)
map_some f (Some x) y g = (x, refl)

abbrev ending_in : Outcome → Option Ending
ending_in trapped = None
ending_in (ends ending W) = Some ending

-- what follows a yield gives something
yielded_on : (e : Ending) (V : World) (X : TalkWorld) (goes : TalkWorld → Option (Meaning Prototype State)) (m : Meaning Prototype State) → e ≡ main_yielded → EndsSo V.printed e V X → means_at X.now X goes ≡ Some m
    → (y : Meaning Prototype State) × (goes X ≡ Some y)
yielded_on e V X goes m q so g =
    let k : EndsSo V.printed main_yielded V X = subst (λ e. EndsSo V.printed e V X) q so in
    map_some (meaning.behind (X.printed ++ talk_report (talk.yielded V.moving))) (goes X) m (sym (ap (λ nw. means_at nw X goes) k.0) ∙ g)

module _ (primitives : ℕ) (rows : ℕ → Row) (library : Primitives Prototype) (safe : PrimitivesSafe primitives rows) (same : SameLibrary primitives rows library) where
  -- a turn is about to begin in both
  pub record Begins (W : World) (budget : ℕ) (T : TalkWorld) : Type 0 where
    pub sound : Sound primitives W
    pub may : MayTurn W
    pub ending : Ending
    pub world : World
    pub is : wakes (with_budget W budget) ≡ ends ending world
    pub goes : GoesOn ending
    pub stands : Stands ending world T

  turn_is : (W : World) (budget : ℕ) (T : TalkWorld) (k : Begins W budget T) (n : ℕ) → turn rows n W budget ≡ steps rows n k.ending k.world
  turn_is W budget T k n = ap (λ o. and_then o (steps rows n)) k.is

  woken : (W : World) (budget : ℕ) (T : TalkWorld) (k : Begins W budget T) → SoundAfter primitives k.ending k.world
  woken W budget T k = subst (StepGood primitives) (turn_is W budget T k 0) (turn_good primitives rows safe 0 W budget k.sound k.may)

  -- what the machine's turn comes to, the other world's does
  comes : (W : World) (budget : ℕ) (T : TalkWorld) → Begins W budget T → (count : ℕ) (e : Ending) (V : World) → turn rows count W budget ≡ ends e V → is_end e ≡ true → (j : ℕ) × EndsSo V.printed e V (ticks codes_run library j T)
  comes W budget T k count e V is over = machine_comes primitives rows library safe same count k.ending k.world T (woken W budget T k) k.goes k.stands e V (sym (turn_is W budget T k count) ∙ is) over

  -- and where that has ended, the machine's does
  ends_too : (W : World) (budget : ℕ) (T : TalkWorld) → Begins W budget T → (j : ℕ) → has_ended (ticks codes_run library j T).now ≡ true
      → (count : ℕ) × (e : Ending) × (V : World) × (turn rows count W budget ≡ ends e V) × (is_end e ≡ true) × EndsSo V.printed e V (ticks codes_run library j T)
  ends_too W budget T k j h =
      let m = machine_ends primitives rows library safe same j k.ending k.world T (woken W budget T k) k.goes k.stands h in
      let is : turn rows m.0 W budget ≡ ends m.1 m.2 = turn_is W budget T k m.0 ∙ m.3 in
      let c = comes W budget T k m.0 m.1 m.2 is m.4 in
      let there : ticks codes_run library c.0 T ≡ ticks codes_run library j T = ended_same library c.0 j T (ended_so m.2.printed m.1 m.2 (ticks codes_run library c.0 T) m.4 c.1) h in
      (m.0, m.1, m.2, is, m.4, subst (λ X. EndsSo m.2.printed m.1 m.2 X) there c.1)

  -- the next turn

  sound_then : (W : World) (budget : ℕ) (T : TalkWorld) → Begins W budget T → (n : ℕ) (e : Ending) (V : World) → turn rows n W budget ≡ ends e V → Sound primitives V
  sound_then W budget T k n e V is = sound_of (subst (StepGood primitives) is (turn_good primitives rows safe n W budget k.sound k.may))
    where
      sound_of : SoundAfter primitives e V → Sound primitives V
      sound_of a = a.sound

  pub next_begins : (V : World) (U : TalkWorld) (line : List ℕ) (budget : ℕ) → Sound primitives V → MainWaits V U → length line ≤ greatest_string → Begins (handed_line V line) budget (meaning.handed_line codes_run library U line budget)
  next_begins V U line budget sound k l =
      let co : ℕ = k.co in
      let frames : List Frame = k.frames in
      let W : World = line_turn V co frames line budget (co ∷ []) in
      let X : TalkWorld = meaning.handed_line codes_run library U line budget in
      let stack : stack_of W ≡ Some (record { coroutine = co; frames = frames }) = stack_is W co frames (last_is [] co) (get_set_same V.coroutines co (suspended frames) (in_progress frames) k.there) in
      let top : TopShape = top_shape W (last frames) in
      let reached : run hand_over [] W ≡ ends (ending_of top) W = hand_over_is W (record { coroutine = co; frames = frames }) [] stack in
      let woken_is : wakes (with_budget (handed_line V line) budget) ≡ ends (ending_of top) W = main_wakes V U k line budget ∙ ap (λ ch. run hand_over [] (line_turn V co frames line budget (ch ++ co ∷ []))) k.idle ∙ reached in
      let j = k.joined in
      let joined : Joined false W X = record { heap = j.heap; globals = j.globals; printed = refl; fuel = refl; chain = j.chain; functions = j.functions; held = j.held; cells = j.cells; coroutines = j.coroutines } in
      record {
        sound = handed_sound primitives V line sound k.idle l;
        may = handed_may_turn V line (record { idle = k.idle; main = co; is_main = k.main; coroutine = suspended frames; there = k.there; waits = refl });
        ending = ending_of top;
        world = W;
        is = woken_is;
        goes = handed_on top;
        stands = results_come (ending_of top) W X reached refl joined;
      }

  -- runs of both on some lines

  pub record Both (W : World) (budget : ℕ) (T : TalkWorld) (input : List (List ℕ)) : Type 0 where
    pub r : Run
    pub m : Meaning Prototype State
    pub count : ℕ
    pub steps : ℕ
    pub gives : run_from rows count W input budget ≡ Some r
    pub means : means_from codes_run library steps T input budget ≡ Some m
    pub alike : RunsAlike r m

  -- behind a turn that ended with a yield
  abbrev pub After : World → (budget : ℕ) → TalkWorld → List (List ℕ) → Type 0
  After V budget X [] = Unit {0}
  After V budget X (line ∷ more) = Both (handed_line V line) budget (meaning.handed_line codes_run library X line budget) more

  module _ (W : World) (budget : ℕ) (T : TalkWorld) where
    -- how a run goes on behind this turn
    abbrev goes_on : List (List ℕ) → (count : ℕ) → World → Option Run
    goes_on [] count V = suspends V
    goes_on (line ∷ more) count V = run_from rows count (handed_line V line) more budget

    abbrev means_on : List (List ℕ) → (count : ℕ) → TalkWorld → Option (Meaning Prototype State)
    means_on [] count V = means_suspended V
    means_on (line ∷ more) count V = means_from codes_run library count (meaning.handed_line codes_run library V line budget) more budget

    run_is : (input : List (List ℕ)) (count : ℕ) → run_from rows count W input budget ≡ at_end (turn rows count W budget) (goes_on input count)
    run_is [] count = refl
    run_is (line ∷ more) count = refl

    mean_is : (input : List (List ℕ)) (count : ℕ) → means_from codes_run library count T input budget ≡ means_at (ticks codes_run library count T).now (ticks codes_run library count T) (means_on input count)
    mean_is [] count = refl
    mean_is (line ∷ more) count = refl

    -- the turn ended for good
    for_good : (count : ℕ) (e : Ending) (V : World) (j : ℕ) (now : talk.Ending) (input : List (List ℕ)) (r : Run) (m : Meaning Prototype State) → turn rows count W budget ≡ ends e V → (ticks codes_run library j T).now ≡ talk.ends now
        → ((goes : World → Option Run) → at_end (ends e V) goes ≡ Some r) → ((goes : TalkWorld → Option (Meaning Prototype State)) → means_at (talk.ends now) (ticks codes_run library j T) goes ≡ Some m) → RunsAlike r m → Both W budget T input
    for_good count e V j now input r m is now_is gives means alike = record {
      r = r;
      m = m;
      count = count;
      steps = j;
      gives = run_is input count ∙ ap (λ o. at_end o (goes_on input count)) is ∙ gives (goes_on input count);
      means = mean_is input j ∙ ap (λ nw. means_at nw (ticks codes_run library j T) (means_on input j)) now_is ∙ means (means_on input j);
      alike = alike;
    }

    -- at a yield the lines have run out, or the next one is handed over
    at_yield : (count : ℕ) (V : World) (j : ℕ) (input : List (List ℕ)) → turn rows count W budget ≡ ends main_yielded V → EndsSo V.printed main_yielded V (ticks codes_run library j T)
        → After V budget (ticks codes_run library j T) input → Both W budget T input
    at_yield count V j [] is so q =
        let X : TalkWorld = ticks codes_run library j T in
        record {
          r = behind (turn_text main_yielded V) (record { printed = []; close = is_suspended; last = V });
          m = meaning.behind (X.printed ++ talk_report (talk.yielded V.moving)) (record { printed = []; outcome = meaning.is_suspended X });
          count = count;
          steps = j;
          gives = ap (λ o. at_end o suspends) is;
          means = ap (λ nw. means_at nw X means_suspended) so.0;
          alike = record { printed = ap (λ out. out ++ talk_report (talk.yielded V.moving) ++ []) so.1.0; ends = so.1.1 };
        }
    at_yield count V j (line ∷ more) is so q =
        let X : TalkWorld = ticks codes_run library j T in
        let text : List ℕ = turn_text main_yielded V in
        let said : List ℕ = X.printed ++ talk_report (talk.yielded V.moving) in
        let later : turn rows (count + q.count) W budget ≡ ends main_yielded V = turn_within rows count (count + q.count) W budget (ap turn_ended is) (omega arith) ∙ is in
        let rest : run_from rows (count + q.count) (handed_line V line) more budget ≡ Some q.r = given_within rows q.count (count + q.count) (handed_line V line) more budget q.r q.gives (omega arith) in
        let ticked : ticks codes_run library (j + q.steps) T ≡ X = ended_within codes_run library j (j + q.steps) T (ap has_ended so.0) (omega arith) in
        let rest_means : means_from codes_run library (j + q.steps) (meaning.handed_line codes_run library X line budget) more budget ≡ Some q.m = meaning_within codes_run library q.steps (j + q.steps) (meaning.handed_line codes_run library X line budget) more budget q.m q.means (omega arith) in
        record {
          r = behind text q.r;
          m = meaning.behind said q.m;
          count = count + q.count;
          steps = j + q.steps;
          gives = ap (λ o. at_end o (goes_on (line ∷ more) (count + q.count))) later ∙ ap (option_map (behind text)) rest;
          means = ap (λ Y. means_at Y.now Y (means_on (line ∷ more) (j + q.steps))) ticked ∙ ap (λ nw. means_at nw X (means_on (line ∷ more) (j + q.steps))) so.0 ∙ ap (option_map (meaning.behind said)) rest_means;
          alike = record { printed = ap (λ out. out ++ talk_report (talk.yielded V.moving) ++ q.r.printed) so.1.0 ∙ ap (λ out. said ++ out) q.alike.printed; ends = q.alike.ends };
        }

    -- whichever way it ended
    finish : (count : ℕ) (e : Ending) (V : World) (j : ℕ) (input : List (List ℕ)) → turn rows count W budget ≡ ends e V → is_end e ≡ true → EndsSo V.printed e V (ticks codes_run library j T)
        → (turn rows count W budget ≡ ends main_yielded V → MainWaits V (ticks codes_run library j T) → After V budget (ticks codes_run library j T) input) → Both W budget T input
    finish count spent V j input is over so on =
        for_good count spent V j talk.spent input (closes spent has_spent V) (meaning.meant (ticks codes_run library j T) talk.spent meaning.has_spent) is so.0 (λ goes. refl) (λ goes. refl) (record { printed = ap (λ out. out ++ []) (sym so.1); ends = tt })
    finish count main_returned V j input is over so on =
        for_good count main_returned V j (talk.returned V.moving) input (closes main_returned has_returned V) (meaning.meant (ticks codes_run library j T) (talk.returned V.moving) meaning.has_returned) is so.0 (λ goes. refl) (λ goes. refl)
        (record { printed = ap (λ out. out ++ talk_report (talk.returned V.moving)) so.1; ends = tt })
    finish count main_failed V j input is over so on =
        for_good count main_failed V j (talk.failed_with so.0.error) input (closes main_failed has_failed V) (meaning.meant (ticks codes_run library j T) (talk.failed_with so.0.error) meaning.has_failed) is so.0.ended (λ goes. refl) (λ goes. refl)
        (record { printed = ap (λ out. out ++ report main_failed V.moving) so.1 ∙ ap (λ mv. (ticks codes_run library j T).printed ++ report main_failed mv) so.0.moves; ends = tt })
    finish count main_yielded V j input is over so on = at_yield count V j input is so (on is so.1.1)
    finish count _ V j input is over so on = absurd (cc)

  abbrev pub Short : List (List ℕ) → Type 0
  Short input = Each (λ (line : List ℕ). length line ≤ greatest_string) input

  -- what the machine does
  pub both_run : (input : List (List ℕ)) (W : World) (budget : ℕ) (T : TalkWorld) → Begins W budget T → Short input → (count : ℕ) (r : Run) → run_from rows count W input budget ≡ Some r → Both W budget T input
  both_run [] W budget T k short count r g =
      let o = ended_of (turn rows count W budget) suspends r g in
      let c = comes W budget T k count o.0 o.1 o.2 o.3 in
      finish W budget T count o.0 o.1 c.0 [] o.2 o.3 c.1 (λ _ _. tt)
  both_run (line ∷ more) W budget T k short count r g =
      let o = ended_of (turn rows count W budget) (goes_on W budget T (line ∷ more) count) r g in
      let c = comes W budget T k count o.0 o.1 o.2 o.3 in
      let V : World = o.1 in
      let X : TalkWorld = ticks codes_run library c.0 T in
      finish W budget T count o.0 V c.0 (line ∷ more) o.2 o.3 c.1 (λ is waits.
      let y = map_some (behind (turn_text main_yielded V)) (run_from rows count (handed_line V line) more budget) r (sym (ap (λ o. at_end o (goes_on W budget T (line ∷ more) count)) is) ∙ g) in
      both_run more (handed_line V line) budget (meaning.handed_line codes_run library X line budget) (next_begins V X line budget (sound_then W budget T k count main_yielded V is) waits (short 0 line refl)) (λ i x e. short (suc i) x e) count y.0 y.1)

  -- what the script means
  pub both_mean : (input : List (List ℕ)) (W : World) (budget : ℕ) (T : TalkWorld) → Begins W budget T → Short input → (steps : ℕ) (m : Meaning Prototype State) → means_from codes_run library steps T input budget ≡ Some m → Both W budget T input
  both_mean [] W budget T k short steps m g =
      let X : TalkWorld = ticks codes_run library steps T in
      let o = ends_too W budget T k steps (meaning_ended X.now X means_suspended m g) in
      finish W budget T o.0 o.1 o.2 steps [] o.3 o.4 o.5 (λ _ _. tt)
  both_mean (line ∷ more) W budget T k short steps m g =
      let X : TalkWorld = ticks codes_run library steps T in
      let o = ends_too W budget T k steps (meaning_ended X.now X (means_on W budget T (line ∷ more) steps) m g) in
      let V : World = o.2 in
      finish W budget T o.0 o.1 V steps (line ∷ more) o.3 o.4 o.5 (λ is waits.
      let y = yielded_on o.1 V X (means_on W budget T (line ∷ more) steps) m (some_is o.1 main_yielded (ap ending_in (sym o.3 ∙ is))) o.5 g in
      both_mean more (handed_line V line) budget (meaning.handed_line codes_run library X line budget) (next_begins V X line budget (sound_then W budget T k o.0 main_yielded V is) waits (short 0 line refl)) (λ i x e. short (suc i) x e) steps y.0 y.1)

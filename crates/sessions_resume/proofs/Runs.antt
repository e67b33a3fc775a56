-- Runs from worlds that agree, and sessions that were saved and loaded.
use Rattle.std.proofs.Common.{ℕ, ◌≡◌, List, [], ◌∷◌, ◌++◌, Option, Some, None, refl, subst, sym, ap, ap₂, ◌∙◌}
use Rattle.std.specs.Prelude.{codes, option_map}
use Rattle.int_core.specs.Value.{string, Value}
use Rattle.list_laws.proofs.Items.{some_same}
use Rattle.lua_meaning.specs.Meaning.{report_text, report_values}
use Rattle.machine_core.specs.World.{World}
use Rattle.machine_core.specs.Moves.{Ending, calls_primitive, spent, main_yielded, main_returned, main_failed, Row, Outcome}
use Rattle.machine_alike.specs.Agree.{Pairs, SameValue, same_known, same_object, SameValues, Agree, AgreeInTurn, Extends}
use Rattle.machine_alike.specs.Laws.{SameOutcome, both_end, NoneMade}
use Rattle.machine_alike.proofs.Same.{extends_self, extends_on}
use Rattle.machine_runs.specs.Opening.{handed_line}
use Rattle.machine_runs.specs.Runs.{turn, report, Close, has_returned, has_failed, has_spent, is_suspended, Run, turn_text, closes, behind, suspends, at_end, run_from, onward, CodeRun, CodeOnward}
use Rattle.image_load.specs.Session.{session_roots, SessionAgrees}
use Rattle.image_core.specs.Records.{parts_in_order, image_by}
use Rattle.image_core.specs.Loading.{loading}
use Rattle.sessions_resume.specs.Laws.{SameRun, SavedSessionsGoOn}
use Rattle.sessions_resume.proofs.Turns.{turns_alike}

-- report lines tell no object's number

text_same : (p : Pairs) (v w : Value) → SameValue p v w → report_text v ≡ report_text w
text_same p v w (same_known k) = refl
text_same p v w (same_object kind i j h) = refl

values_same : (p : Pairs) (vs ws : List Value) → SameValues p vs ws → report_values vs ≡ report_values ws
values_same p [] [] h = refl
values_same p [] (w ∷ ws) h = absurd h
values_same p (v ∷ vs) [] h = absurd h
values_same p (v ∷ vs) (w ∷ ws) h = ap₂ (λ (a b : List ℕ). codes "\t" ++ a ++ b) (text_same p v w h.0) (values_same p vs ws h.1)

report_same : (p : Pairs) (e : Ending) (vs ws : List Value) → SameValues p vs ws → report e vs ≡ report e ws
report_same p main_yielded vs ws h = ap (λ t. codes "yield" ++ t) (values_same p vs ws h)
report_same p main_returned vs ws h = ap (λ t. codes "return" ++ t) (values_same p vs ws h)
report_same p main_failed vs ws h = ap (λ t. codes "error" ++ t) (values_same p vs ws h)
report_same p _ vs ws h = refl

turn_same : (p : Pairs) (e : Ending) (W X : World) → AgreeInTurn p W X → turn_text e W ≡ turn_text e X
turn_same p e W X a = ap₂ (λ (s t : List ℕ). s ++ t) a.printed (report_same p e W.moving X.moving a.moving)

between : (p : Pairs) (W X : World) → AgreeInTurn p W X → Agree p W X
between p W X a = record { objects = a.objects; roots = a.roots; moving = λ h. a.moving }

-- what is given from worlds that agree
abbrev Given : Pairs → Run → Option Run → Type 0
Given p r o = (s : Run) × (o ≡ Some s) × SameRun p r s

same_on : (p q : Pairs) (r s : Run) → Extends p q → SameRun q r s → SameRun p r s
same_on p q r s e k = record { printed = k.printed; close = k.close; now = k.now; more = extends_on p q k.now e k.more; last = k.last }

closed_same : (p q : Pairs) (e : Ending) (c : Close) (W X : World) (r : Run) → Extends p q → AgreeInTurn q W X → Some (closes e c W) ≡ Some r → Given p r (Some (closes e c X))
closed_same p q e c W X r more a h = (closes e c X, refl, subst (λ r. SameRun p r (closes e c X)) (some_same (closes e c W) r h) (record { printed = turn_same q e W X a; close = refl; now = q; more = more; last = between q W X a }))

behind_same : (p : Pairs) (s t : List ℕ) (o u : Option Run) (r : Run) → s ≡ t → option_map (behind s) o ≡ Some r → ((x : Run) → o ≡ Some x → Given p x u) → Given p r (option_map (behind t) u)
behind_same p s t None u r e h f = absurd (cc)
behind_same p s t (Some x) u r e h f =
    let k = f x refl in (
      behind t k.0,
      ap (option_map (behind t)) k.1,
      subst (λ r. SameRun p r (behind t k.0)) (some_same (behind s x) r h) (record { printed = ap₂ (λ (a b : List ℕ). a ++ b) e k.2.printed; close = k.2.close; now = k.2.now; more = k.2.more; last = k.2.last }),
    )

ended_same : (p : Pairs) (o u : Outcome) (goes on : World → Option Run) (r : Run) → SameOutcome p o u → at_end o goes ≡ Some r
    → ((q : Pairs) (W X : World) → Extends p q → AgreeInTurn q W X → (x : Run) → goes W ≡ Some x → Given p x (on X)) → Given p r (at_end u on)
ended_same p o u goes on r (both_end q main_yielded W X more a) h f = behind_same p (turn_text main_yielded W) (turn_text main_yielded X) (goes W) (on X) r (turn_same q main_yielded W X a) h (f q W X more a)
ended_same p o u goes on r (both_end q main_returned W X more a) h f = closed_same p q main_returned has_returned W X r more a h
ended_same p o u goes on r (both_end q main_failed W X more a) h f = closed_same p q main_failed has_failed W X r more a h
ended_same p o u goes on r (both_end q spent W X more a) h f = closed_same p q spent has_spent W X r more a h
ended_same p o u goes on r (both_end q (calls_primitive n) W X more a) h f = absurd (cc)
ended_same p o u goes on r _ h f = absurd (cc)

suspended_same : (p q : Pairs) (W X : World) → Extends p q → Agree q W X → (x : Run) → suspends W ≡ Some x → Given p x (suspends X)
suspended_same p q W X more a x h = (
  record { printed = []; close = is_suspended; last = X },
  refl,
  subst (λ x. SameRun p x (record { printed = []; close = is_suspended; last = X })) (some_same (record { printed = []; close = is_suspended; last = W }) x h) (record { printed = refl; close = refl; now = q; more = more; last = a }),
)

line_agrees : (p : Pairs) (W X : World) (line : List ℕ) → Agree p W X → Agree p (handed_line W line) (handed_line X line) × SameValues p (handed_line W line).moving (handed_line X line).moving
unfolding handed_line
line_agrees p W X line a = (record { objects = a.objects; roots = a.roots; moving = λ h. (same_known (string line), tt) }, (same_known (string line), tt))

module _ (rows : ℕ → Row) (none : (n : ℕ) → NoneMade (rows n)) where
  run_same : (count : ℕ) (input : List (List ℕ)) (budget : ℕ) (p : Pairs) (W X : World) → Agree p W X → SameValues p W.moving X.moving → (r : Run) → run_from rows count W input budget ≡ Some r → Given p r (run_from rows count X input budget)
  run_same count [] budget p W X a s r h = ended_same p (turn rows count W budget) (turn rows count X budget) suspends suspends r (turns_alike rows none p W X a s count budget) h (λ q V Y more b. suspended_same p q V Y more (between q V Y b))
  run_same count (line ∷ more) budget p W X a s r h =
      ended_same p (turn rows count W budget) (turn rows count X budget) (λ V. run_from rows count (handed_line V line) more budget) (λ V. run_from rows count (handed_line V line) more budget) r (turns_alike rows none p W X a s count budget) h
      (λ q V Y e b x k.
      let l = line_agrees q V Y line (between q V Y b) in
      let g = run_same count more budget q (handed_line V line) (handed_line Y line) l.0 l.1 x k in
      (g.0, g.1, same_on p q x g.0 e g.2))

  pub runs_alike : (p : Pairs) (W X : World) → Agree p W X → SameValues p W.moving X.moving → (input : List (List ℕ)) (budget : ℕ) (r : Run) → CodeRun rows W input budget r → (s : Run) × CodeRun rows X input budget s × SameRun p r s
  runs_alike p W X a s input budget r c = let g = run_same c.count input budget p W X a s r c.gives in (g.0, record { count = c.count; gives = g.1 }, g.2)

  onward_same : (count : ℕ) (input : List (List ℕ)) (budget : ℕ) (p : Pairs) (W X : World) → Agree p W X → (r : Run) → onward rows count W input budget ≡ Some r → Given p r (onward rows count X input budget)
  onward_same count [] budget p W X a r h = suspended_same p p W X (extends_self p) a r h
  onward_same count (line ∷ more) budget p W X a r h = let l = line_agrees p W X line a in run_same count more budget p (handed_line W line) (handed_line X line) l.0 l.1 r h

  pub onward_alike : (p : Pairs) (W X : World) → Agree p W X → (input : List (List ℕ)) (budget : ℕ) (r : Run) → CodeOnward rows W input budget r → (s : Run) × CodeOnward rows X input budget s × SameRun p r s
  onward_alike p W X a input budget r c = let g = onward_same c.count input budget p W X a r c.gives in (g.0, record { count = c.count; gives = g.1 }, g.2)

pub saved_go_on : SessionAgrees → SavedSessionsGoOn
saved_go_on agrees rows none base W V X T name can is input budget r c =
    let k = agrees base W V T name can in
    let same : k.world ≡ X = some_same k.world X (sym k.is ∙ is) in
    onward_alike rows none (loading base T (parts_in_order W name (session_roots W)) (image_by W name (session_roots W)).records) W X (subst (Agree (loading base T (parts_in_order W name (session_roots W)) (image_by W name (session_roots W)).records) W) same k.agree) input budget r c

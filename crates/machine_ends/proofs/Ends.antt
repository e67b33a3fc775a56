-- So turns end, and code runs on any lines.
use Rattle.std.proofs.Common.{ℕ, zero, suc, ◌+◌, ◌<◌, ◌≤◌, ◌≡◌, ◌⊎◌, ⊎_elim, List, [], ◌∷◌, Option, Some, refl, subst, sym, ap, ◌∙◌, length, arith, true}
use Rattle.std.specs.Prelude.{option_map}
use Rattle.int_core.specs.Value.{greatest_string}
use Rattle.code_core.specs.Prototype.{instruction_count}
use Rattle.machine_core.specs.World.{Function, World}
use Rattle.machine_core.specs.Moves.{Ending, calls_primitive, spent, main_yielded, main_returned, main_failed, Row, Outcome, trapped, ends}
use Rattle.machine_core.specs.MachineStep.{step, and_then, steps}
use Rattle.machine_core.specs.PrimitiveRows.{row_numbered}
use Rattle.machine_sound.specs.Sound.{Each, idle, Sound}
use Rattle.machine_sound.specs.Laws.{SoundAfter, StepGood, PrimitivesSafe}
use Rattle.machine_sound.proofs.Lists.{each_none, each_cons, each_tail, each_on}
use Rattle.machine_sound.proofs.Steps.{steps_good}
use Rattle.machine_runs.specs.Opening.{handed_line}
use Rattle.machine_runs.specs.Runs.{wakes, with_budget, turn, is_end, has_ended, Run, behind, turn_text, suspends, at_end, run_from, CodeRun}
use Rattle.machine_runs.specs.Laws.{MayTurn, NeverYields}
use Rattle.machine_runs.proofs.Runs.{turn_within}
use Rattle.machine_runs.proofs.Waking.{wakes_good, budget_solid, budget_turn}
use Rattle.machine_runs.proofs.Opening.{handed_sound, handed_may_turn}
use Rattle.machine_runs.proofs.MainWaits.{turn_yields}
use Rattle.machine_ends.specs.Measure.{Within, measure}
use Rattle.machine_ends.specs.Laws.{FallsWithin, FallsFrom}
use Rattle.machine_ends.proofs.Steps.{steps_fall}

-- no function has more instructions than all have together

abbrev sum : List Function → ℕ
sum [] = 0
sum (f ∷ fs) = instruction_count f.code + sum fs

within_sum : (fs : List Function) → Each (λ (f : Function). instruction_count f.code ≤ sum fs) fs
within_sum [] = each_none (λ (f : Function). instruction_count f.code ≤ 0)
within_sum (f ∷ fs) = each_cons (λ (g : Function). instruction_count g.code ≤ instruction_count f.code + sum fs) f fs (omega arith)
    (each_on (λ (g : Function). instruction_count g.code ≤ sum fs) (λ (g : Function). instruction_count g.code ≤ instruction_count f.code + sum fs) (λ g l. omega arith) fs (within_sum fs))

pub longest : (W : World) → (most : ℕ) × Within most W
longest W = (sum W.functions, within_sum W.functions)

world_same : (V X : World) → ends main_yielded V ≡ ends main_yielded X → V ≡ X
world_same V X e = ap (world_in V) e
  where
    world_in : World → Outcome → World
    world_in V trapped = V
    world_in V (ends d X) = X

module _ (build : Row) (least : ℕ) (b : FallsFrom least build) (primitives : ℕ) (p : PrimitivesSafe primitives (row_numbered build)) where
  abbrev Ends : Outcome → Type 0
  Ends o = (n : ℕ) × (has_ended (and_then o (steps (row_numbered build) n)) ≡ true)

  -- by the measure, which is below a number
  within_bound : (most bound : ℕ) → FallsWithin most build → (e : Ending) (W : World) → SoundAfter primitives e W → Within most W → measure most e W < bound → (n : ℕ) × (has_ended (steps (row_numbered build) n e W) ≡ true)
  within_bound most zero f e W s w l = absurd (omega arith)
  within_bound most (suc bound) f e W s w l = by (step (row_numbered build) e W) (steps_good primitives (row_numbered build) p e W s) (λ d V q. steps_fall build most f e d W V w q) (λ d V z x y. within_bound most bound f d V z x y) refl
    where
      one : (n : ℕ) → has_ended (and_then (step (row_numbered build) e W) (steps (row_numbered build) n)) ≡ true → (n : ℕ) × (has_ended (steps (row_numbered build) n e W) ≡ true)
      one n h = (suc n, h)

      by : (o : Outcome) → StepGood primitives o → ((d : Ending) (V : World) → o ≡ ends d V → (is_end d ≡ true) ⊎ (Within most V × measure most d V < measure most e W))
          → ((d : Ending) (V : World) → SoundAfter primitives d V → Within most V → measure most d V < bound → (n : ℕ) × (has_ended (steps (row_numbered build) n d V) ≡ true))
          → step (row_numbered build) e W ≡ o → (n : ℕ) × (has_ended (steps (row_numbered build) n e W) ≡ true)
      by trapped g f more q = absurd g
      by (ends d V) g f more q = ⊎_elim
          (λ (h : is_end d ≡ true). one 0 (ap (λ o. has_ended (and_then o (steps (row_numbered build) 0))) q ∙ h))
          (λ h. let k = more d V g h.0 (let a = h.1 in omega arith) in one k.0 (ap (λ o. has_ended (and_then o (steps (row_numbered build) k.0))) q ∙ k.1))
          (f d V refl)

  pub steps_end : (e : Ending) (W : World) → SoundAfter primitives e W → (n : ℕ) × (has_ended (steps (row_numbered build) n e W) ≡ true)
  steps_end e W s =
      let m = longest W in
      let most = least + m.0 in
      within_bound most (suc (measure most e W)) (b most (omega arith)) e W s (each_on (λ (f : Function). instruction_count f.code ≤ m.0) (λ (f : Function). instruction_count f.code ≤ most) (λ f l. omega arith) W.functions m.1) (omega arith)

  pub turns_end : (W : World) (budget : ℕ) → Sound primitives W → MayTurn W → (n : ℕ) × (has_ended (turn (row_numbered build) n W budget) ≡ true)
  turns_end W budget s t = by (wakes (with_budget W budget)) (wakes_good primitives (with_budget W budget) (record { solid = budget_solid primitives W budget s.solid; rests = idle t.idle }) (budget_turn W budget t))
    where
      by : (o : Outcome) → StepGood primitives o → Ends o
      by trapped g = absurd g
      by (ends e V) g = steps_end e V g

  -- runs

  module _ (never : NeverYields build) where
    abbrev Runs : World → List (List ℕ) → (budget : ℕ) → Type 0
    Runs W input budget = (r : Run) × CodeRun (row_numbered build) W input budget r

    -- what a turn that ended gives
    given_by : (o : Outcome) (goes : World → Option Run) → has_ended o ≡ true → ((V : World) → o ≡ ends main_yielded V → (r : Run) × (goes V ≡ Some r)) → (r : Run) × (at_end o goes ≡ Some r)
    given_by (ends main_yielded V) goes h f = let k = f V refl in (behind (turn_text main_yielded V) k.0, ap (option_map (behind (turn_text main_yielded V))) k.1)
    given_by (ends main_returned V) goes h f = (_, refl)
    given_by (ends main_failed V) goes h f = (_, refl)
    given_by (ends spent V) goes h f = (_, refl)
    given_by (ends (calls_primitive k) V) goes h f = absurd (cc)
    given_by _ goes h f = absurd (cc)

    -- with at least so many steps
    runs_from : (W : World) (input : List (List ℕ)) (budget : ℕ) → Sound primitives W → MayTurn W → Each (λ (line : List ℕ). length line ≤ greatest_string) input → (n : ℕ) × ((m : ℕ) → n ≤ m → (r : Run) × (run_from (row_numbered build) m W input budget ≡ Some r))
    runs_from W [] budget s t l =
        let k = turns_end W budget s t in
        (k.0, λ m q. given_by (turn (row_numbered build) m W budget) suspends (ended_more W budget k.0 m q k.1) (λ V e. (_, refl)))
      where
        ended_more : (W : World) (budget n m : ℕ) → n ≤ m → has_ended (turn (row_numbered build) n W budget) ≡ true → has_ended (turn (row_numbered build) m W budget) ≡ true
        ended_more W budget n m q h = ap has_ended (turn_within (row_numbered build) n m W budget h q) ∙ h
    runs_from W (line ∷ more) budget s t l =
        let k = turns_end W budget s t in
        follows k.0 k.1 (turn (row_numbered build) k.0 W budget) refl (λ V y m. runs_from (handed_line V line) more budget y m (each_tail (λ (line : List ℕ). length line ≤ greatest_string) line more l))
      where
        follows : (n : ℕ) → has_ended (turn (row_numbered build) n W budget) ≡ true → (o : Outcome) → turn (row_numbered build) n W budget ≡ o
            → ((V : World) → Sound primitives (handed_line V line) → MayTurn (handed_line V line) → (n : ℕ) × ((m : ℕ) → n ≤ m → (r : Run) × (run_from (row_numbered build) m (handed_line V line) more budget ≡ Some r)))
            → (n : ℕ) × ((m : ℕ) → n ≤ m → (r : Run) × (run_from (row_numbered build) m W (line ∷ more) budget ≡ Some r))
        follows n h (ends main_yielded V) q f =
            let y = turn_yields build never primitives p n W budget V s t q in
            let k = f V (handed_sound primitives V line y.0 y.1.idle (l zero line refl)) (handed_may_turn V line y.1) in (
              n + k.0,
              λ m z. given_by (turn (row_numbered build) m W budget) (λ V. run_from (row_numbered build) m (handed_line V line) more budget)
                  (ap has_ended (turn_within (row_numbered build) n m W budget h (omega arith)) ∙ h)
                  (λ X e. let same = world_same V X (sym q ∙ sym (turn_within (row_numbered build) n m W budget h (omega arith)) ∙ e) in
                  subst (λ X. (r : Run) × (run_from (row_numbered build) m (handed_line X line) more budget ≡ Some r)) same (k.1 m (omega arith))),
            )
        follows n h o q f = (
          n,
          λ m z. given_by (turn (row_numbered build) m W budget) (λ V. run_from (row_numbered build) m (handed_line V line) more budget)
              (ap has_ended (turn_within (row_numbered build) n m W budget h z) ∙ h)
              (λ X e. absurd (let k = sym q ∙ sym (turn_within (row_numbered build) n m W budget h z) ∙ e in cc)),
        )

    pub code_runs : (W : World) (input : List (List ℕ)) (budget : ℕ) → Sound primitives W → MayTurn W → Each (λ (line : List ℕ). length line ≤ greatest_string) input → Runs W input budget
    code_runs W input budget s t l = let k = runs_from W input budget s t l in let r = k.1 k.0 (omega arith) in (r.0, record { count = k.0; gives = r.1 })

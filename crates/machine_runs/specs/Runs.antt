-- What code does from a world, turn by turn: the bytes that it prints, how it ends, and the last world.
use Rattle.std.specs.Prelude.{◌≡◌, ℕ, Bool, true, false, List, [], ◌∷◌, ◌++◌, Option, Some, None, option_map, slice_get, codes}
use Rattle.int_core.specs.Value.{Value, bind}
use Rattle.lua_meaning.specs.Meaning.{report_values}
use Rattle.machine_core.specs.World.{World}
use Rattle.machine_core.specs.Moves.{Made, ResumeShape, starts_in, Ending, spent, main_yielded, main_returned, main_failed, Row, Outcome, trapped, ends, run}
use Rattle.machine_core.specs.MachineStep.{after_resume, and_then, steps}
use Rattle.machine_runs.specs.Opening.{handed_line}

-- a turn

-- the main coroutine is resumed with what moves, as `coroutine.resume` does it, but that nobody pays for it
abbrev pub resumed_main : World → Option (Made ResumeShape)
resumed_main W = bind W.main (λ co. bind (slice_get W.coroutines co) (λ c. starts_in (record W { moving = [] }) co c W.moving))

abbrev pub after_waking : Option (Made ResumeShape) → Outcome
after_waking None = trapped
after_waking (Some d) = run (after_resume d.told) [] d.world

unfoldable pub wakes : World → Outcome
wakes W = after_waking (resumed_main W)

-- a turn has a budget, and what it prints is its own
abbrev pub with_budget : World → (budget : ℕ) → World
with_budget W budget = record W { printed = []; fuel = budget }

abbrev pub turn : (primitives : ℕ → Row) → (count : ℕ) → World → (budget : ℕ) → Outcome
turn primitives count W budget = and_then (wakes (with_budget W budget)) (steps primitives count)

-- what ends a turn
abbrev pub is_end : Ending → Bool
is_end spent = true
is_end main_yielded = true
is_end main_returned = true
is_end main_failed = true
is_end _ = false

abbrev pub has_ended : Outcome → Bool
has_ended trapped = false
has_ended (ends e W) = is_end e

-- runs

-- the line that reports a turn's end: a word, and what moves. Of a budget that is spent none reports
abbrev pub report : Ending → List Value → List ℕ
report main_yielded vs = codes "yield" ++ report_values vs
report main_returned vs = codes "return" ++ report_values vs
report main_failed vs = codes "error" ++ report_values vs
report _ vs = []

-- the main function returned, or failed, or a turn's budget was spent, or the lines ran out at a yield
pub data Close : Type 0 where
  has_returned : Close
  has_failed : Close
  has_spent : Close
  is_suspended : Close

-- `last` is the world at the end; what moves there, is printed and is left of the budget belongs to the last turn
pub record Run : Type 0 where
  pub printed : List ℕ
  pub close : Close
  pub last : World

abbrev pub turn_text : Ending → World → List ℕ
turn_text ending W = W.printed ++ report ending W.moving

abbrev pub closes : Ending → Close → World → Run
closes ending close W = record { printed = turn_text ending W; close = close; last = W }

-- what was printed before goes in front
abbrev pub behind : List ℕ → Run → Run
behind text r = record { printed = text ++ r.printed; close = r.close; last = r.last }

-- the lines have run out
abbrev pub suspends : World → Option Run
suspends W = Some (record { printed = []; close = is_suspended; last = W })

-- what a turn that ended gives; at a yield the run goes on by `goes`. None where the turn has not ended, or traps
abbrev pub at_end : Outcome → (goes : World → Option Run) → Option Run
at_end (ends main_yielded W) goes = option_map (behind (turn_text main_yielded W)) (goes W)
at_end (ends main_returned W) goes = Some (closes main_returned has_returned W)
at_end (ends main_failed W) goes = Some (closes main_failed has_failed W)
at_end (ends spent W) goes = Some (closes spent has_spent W)
at_end _ goes = None

module _ (primitives : ℕ → Row) where
  -- from a world in which main is to be resumed with what moves, with at most so many steps a turn; None where they do not suffice
  abbrev pub run_from : (count : ℕ) → World → List (List ℕ) → (budget : ℕ) → Option Run
  run_from count W [] budget = at_end (turn primitives count W budget) suspends
  run_from count W (line ∷ more) budget = at_end (turn primitives count W budget) (λ V. run_from count (handed_line V line) more budget)

  -- from a world in which main waits for a line
  abbrev pub onward : (count : ℕ) → World → List (List ℕ) → (budget : ℕ) → Option Run
  onward count W [] budget = suspends W
  onward count W (line ∷ more) budget = run_from count (handed_line W line) more budget

  -- `r` is what code does on some lines, each turn with the whole budget: some number of steps a turn gives it
  pub record CodeRun (W : World) (input : List (List ℕ)) (budget : ℕ) (r : Run) : Type 0 where
    pub count : ℕ
    pub gives : run_from count W input budget ≡ Some r

  pub record CodeOnward (W : World) (input : List (List ℕ)) (budget : ℕ) (r : Run) : Type 0 where
    pub count : ℕ
    pub gives : onward count W input budget ≡ Some r

-- Turns from worlds that agree.
use Rattle.std.proofs.Common.{ℕ, List, [], ◌∷◌, ◌++◌, Option, Some, None, refl, subst, ap}
use Rattle.std.specs.Prelude.{slice_get}
use Rattle.int_core.specs.Value.{a_coroutine, Value}
use Rattle.machine_core.specs.World.{Frame, Coroutine, World}
use Rattle.machine_core.specs.Moves.{Made, made, CallShape, is_entered, is_primitive, not_paid, not_entered, TopShape, lua_top, ResumeShape, resumed, refused, put_coroutine, go_into, starts_in, enters, Row, Outcome, run}
use Rattle.machine_core.specs.MachineStep.{after_resume, and_then, steps}
use Rattle.machine_core.specs.FrameRows.{handed}
use Rattle.machine_alike.specs.Agree.{Pairs, SameNumber, SameValues, SameFrames, SameCoroutine, same_fresh, same_suspended, same_in_progress, Agree, AgreeInTurn}
use Rattle.machine_alike.specs.Laws.{SameOutcome, both_trap, both_end, MadeAlike, Alike, NoneMade}
use Rattle.machine_alike.proofs.Pairwise.{each_bind, zip_append}
use Rattle.machine_alike.proofs.Same.{extends_self, coroutine_at}
use Rattle.machine_alike.proofs.Frames.{made_same, moving_agrees, coroutine_agrees}
use Rattle.machine_alike.proofs.Calls.{enters_same}
use Rattle.machine_alike.proofs.Rows.{outcome_on, rows_keep}
use Rattle.machine_alike.proofs.Keeps.{steps_keep}
use Rattle.machine_alike.proofs.Coroutines.{chain_agrees, starts_same}
use Rattle.machine_runs.specs.Runs.{resumed_main, after_waking, wakes, with_budget, turn}

-- rows that make no function

handed_none : (t : TopShape) → NoneMade (handed t)
handed_none lua_top = tt
handed_none _ = tt

resumed_none : (s : ResumeShape) → NoneMade (after_resume s)
resumed_none (resumed is_entered) = λ n t. handed_none t
resumed_none (resumed (is_primitive n)) = tt
resumed_none (resumed not_paid) = tt
resumed_none (resumed (not_entered text)) = λ n t. tt
resumed_none (refused text) = λ n t. λ n t. handed_none t

-- main goes on

resumes : (p : Pairs) (W X : World) → AgreeInTurn p W X → Alike p ResumeShape (resumed_main W) (resumed_main X)
resumes p W X a =
    each_bind (SameNumber p a_coroutine) (MadeAlike p ResumeShape) _ _
    (λ i j h. each_bind (SameCoroutine p) (MadeAlike p ResumeShape) _ _
    (λ c d k. starts_same p (record W { moving = [] }) (record X { moving = [] }) i j W.moving X.moving (moving_agrees p W X [] [] a tt) h a.moving c d k)
    (slice_get W.coroutines i) (slice_get X.coroutines j) (coroutine_at p W X a i j h))
    W.main X.main a.roots.main

waking : (p : Pairs) (d e : Option (Made ResumeShape)) → Alike p ResumeShape d e → SameOutcome p (after_waking d) (after_waking e)
waking p None None h = both_trap
waking p None (Some e) h = absurd h
waking p (Some d) None h = absurd h
waking p (Some d) (Some e) h = outcome_on p h.now (run (after_resume d.told) [] d.world) (run (after_resume e.told) [] e.world) h.more
    (subst (λ t. SameOutcome h.now (run (after_resume d.told) [] d.world) (run (after_resume t) [] e.world)) h.told (rows_keep (after_resume d.told) (resumed_none d.told) h.now [] [] d.world e.world tt h.agree))

wakes_alike : (p : Pairs) (W X : World) → AgreeInTurn p W X → SameOutcome p (wakes W) (wakes X)
unfolding wakes
wakes_alike p W X a = waking p (resumed_main W) (resumed_main X) (resumes p W X a)

module _ (rows : ℕ → Row) (none : (n : ℕ) → NoneMade (rows n)) where
  goes_on : (p : Pairs) (count : ℕ) (o u : Outcome) → SameOutcome p o u → SameOutcome p (and_then o (steps rows count)) (and_then u (steps rows count))
  goes_on p count o u both_trap = both_trap
  goes_on p count o u (both_end q e W X more a) = outcome_on p q (steps rows count e W) (steps rows count e X) more (steps_keep rows none count e q W X a)

  pub turns_alike : (p : Pairs) (W X : World) → Agree p W X → SameValues p W.moving X.moving → (count budget : ℕ) → SameOutcome p (turn rows count W budget) (turn rows count X budget)
  turns_alike p W X a s count budget = goes_on p count (wakes (with_budget W budget)) (wakes (with_budget X budget))
      (wakes_alike p (with_budget W budget) (with_budget X budget) (record { objects = a.objects; roots = a.roots; moving = s; printed = refl; fuel = refl }))

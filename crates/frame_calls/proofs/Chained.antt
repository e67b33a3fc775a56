-- Some steps of the machine and some more.
use Rattle.std.proofs.Common.{ℕ, zero, suc, ◌+◌, ◌≡◌, refl, ap, ◌∙◌, arith}
use Rattle.machine_core.specs.World.{World}
use Rattle.machine_core.specs.Moves.{Ending, go, Row, Outcome, trapped, ends}
use Rattle.machine_core.specs.MachineStep.{step, steps, and_then}
use Rattle.machine_focus.specs.Focus.{Reaches}

pub steps_then : (rows : ℕ → Row) (n m : ℕ) (e : Ending) (W : World) → steps rows (n + m) e W ≡ and_then (steps rows n e W) (steps rows m)
steps_then rows zero m e W = let k : zero + m ≡ m = omega arith in ap (λ n. steps rows n e W) k
steps_then rows (suc n) m e W =
    let k : suc n + m ≡ suc (n + m) = omega arith in
    ap (λ n. steps rows n e W) k ∙ by (step rows e W) (steps_then rows n m)
  where
    by : (o : Outcome) → ((e : Ending) (W : World) → steps rows (n + m) e W ≡ and_then (steps rows n e W) (steps rows m))
        → and_then o (steps rows (n + m)) ≡ and_then (and_then o (steps rows n)) (steps rows m)
    by trapped h = refl
    by (ends e W) h = h e W

pub reaches_then : (rows : ℕ → Row) {U V W : World} → Reaches rows U V → Reaches rows V W → Reaches rows U W
reaches_then rows {U} r s = (r.0 + s.0, steps_then rows r.0 s.0 go U ∙ ap (λ o. and_then o (steps rows s.0)) r.1 ∙ s.1)

pub reaches_none : (rows : ℕ → Row) (W : World) → Reaches rows W W
reaches_none rows W = (0, refl)

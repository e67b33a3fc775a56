-- An activation comes to an ask after at most as many own steps as the measure of its state.
use Rattle.std.proofs.Common.{ℕ, zero, suc, ◌<◌, ◌≤◌, arith}
use Rattle.int_core.specs.Ask.{Next, goes_on, says, stuck, on_from, runs}
use Rattle.tree_core.specs.Tree.{Body}
use Rattle.tree_activation.specs.Work.{State}
use Rattle.tree_activation.specs.Activation.{step}
use Rattle.meaning_ends.specs.Asking.{IsNoOwnStep}
use Rattle.meaning_ends.proofs.Measure.{measure}
use Rattle.meaning_ends.proofs.Falling.{Below}
use Rattle.meaning_ends.proofs.Steps.{step_falls}

asks_from : (m n : ℕ) (next : Next Body State) → Below n next → n ≤ m → ((t : State) → measure t < m → (i : ℕ) × IsNoOwnStep (runs step i t))
    → (i : ℕ) × IsNoOwnStep (on_from next (runs step i))
asks_from m n (says q line shared k) less le later = (0, tt)
asks_from m n stuck less le later = (0, tt)
asks_from m n (goes_on t) less le later = later t (omega (arith, less, le))

pub asks_within : (m : ℕ) (s : State) → measure s < m → (i : ℕ) × IsNoOwnStep (runs step i s)
asks_within zero s within = absurd (omega (arith, within))
asks_within (suc m) s within = let x = asks_from m (measure s) (step s) (step_falls s) (omega (arith, within)) (asks_within m) in (suc x.0, x.1)

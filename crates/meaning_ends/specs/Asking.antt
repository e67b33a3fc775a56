-- That no activation runs for ever without asking.
use Rattle.std.specs.Prelude.{ℕ}
use Rattle.int_core.specs.Ask.{Next, goes_on, runs}
use Rattle.tree_core.specs.Tree.{Body}
use Rattle.tree_activation.specs.Work.{State}
use Rattle.tree_activation.specs.Activation.{step}

-- an ask, or nothing more
abbrev pub IsNoOwnStep : Next Body State → Type 0
IsNoOwnStep (goes_on s) = ⊥
IsNoOwnStep _ = Unit {0}

-- from any state an activation comes to an ask, or to nothing more, after finitely many steps of its own
abbrev pub AsksAtLast : Type 0
AsksAtLast = (s : State) → (n : ℕ) × IsNoOwnStep (runs step n s)

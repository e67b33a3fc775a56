-- How far an activation goes on one unit of fuel.
use Rattle.std.specs.Prelude.{ℕ, ◌<◌}
use Rattle.int_core.specs.Ask.{Ask, pays, raises, Reply, IsLeft, Answer, Next, goes_on, says, stuck}
use Rattle.tree_core.specs.Tree.{Body}
use Rattle.tree_activation.specs.Work.{State}
use Rattle.tree_activation.specs.Activation.{step}

-- the answers that leave the activation on the same unit: all but to an ask that pays one. With an error that is raised the activation is left
abbrev pub IsOnTheUnit : Ask Body → Reply → Type 0
IsOnTheUnit pays reply = ⊥
IsOnTheUnit (raises text) reply = IsLeft reply
IsOnTheUnit _ reply = Unit {0}

-- the state that comes next on the same unit measures less than m
abbrev pub FallsBelow : (State → ℕ) → ℕ → Next Body State → Type 0
FallsBelow measure m (goes_on s) = measure s < m
FallsBelow measure m (says q line shared k) = (x : Answer) → IsOnTheUnit q x.reply → measure (k x) < m
FallsBelow measure m stuck = Unit {0}

-- a measure of states falls with each step and across each ask, but where a unit is paid
abbrev pub FallsBetweenUnits : Type 0
FallsBetweenUnits = (measure : State → ℕ) × ((s : State) → FallsBelow measure (measure s) (step s))

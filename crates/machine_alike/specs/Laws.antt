-- Worlds that agree run alike: every move keeps it, so every row does, and any number of steps.
use Rattle.std.specs.Prelude.{◌≡◌, ℕ, List, [], Option, Some, None}
use Rattle.int_core.specs.Value.{Value, bind}
use Rattle.machine_core.specs.World.{World}
use Rattle.machine_core.specs.Text.{make_function}
use Rattle.machine_core.specs.Moves.{Move, outside, Told, Made, move, Row, traps, stop, only, act, Ending, Outcome, trapped, ends, run}
use Rattle.machine_core.specs.MachineStep.{steps}
use Rattle.machine_alike.specs.Agree.{Pairs, SameValues, Agree, AgreeInTurn, Extends, Each}

-- both rows trap, or both end in the same way, in worlds that agree
pub data SameOutcome (p : Pairs) : Outcome → Outcome → Type 0 where
  both_trap : SameOutcome p trapped trapped
  both_end : (q : Pairs) (e : Ending) (W X : World) → Extends p q → AgreeInTurn q W X → SameOutcome p (ends e W) (ends e X)

-- two moves leave worlds that agree, read the same values and tell the same
pub record MadeAlike (p : Pairs) (A : Type 0) (d e : Made A) : Type 0 where
  pub now : Pairs
  pub more : Extends p now
  pub agree : AgreeInTurn now d.world e.world
  pub values : SameValues now d.values e.values
  pub told : d.told ≡ e.told

-- both trap, or both are made alike
abbrev pub Alike : Pairs → (A : Type 0) → Option (Made A) → Option (Made A) → Type 0
Alike p A = Each (MadeAlike p A)

-- where neither traps, both are made alike
abbrev pub AlikeIfMade : Pairs → (A : Type 0) → Option (Made A) → Option (Made A) → Type 0
AlikeIfMade p A None e = Unit {0}
AlikeIfMade p A (Some d) None = Unit {0}
AlikeIfMade p A (Some d) (Some e) = MadeAlike p A d e

abbrev pub Keeps : Move → Type 0
Keeps m = (p : Pairs) (env other : List Value) (W X : World) → SameValues p env other → AgreeInTurn p W X → Alike p (Told m) (move m env W) (move m other X)

abbrev pub KeepsIfMade : Move → Type 0
KeepsIfMade m = (p : Pairs) (env other : List Value) (W X : World) → SameValues p env other → AgreeInTurn p W X → AlikeIfMade p (Told m) (move m env W) (move m other X)

-- A local that is to be shared may be open in one world alone, where no function that is paired has its cell. So the move that makes a
-- function may trap in one of them, if the local was not opened before
abbrev pub IsKept : Move → Type 0
IsKept (outside (make_function n)) = KeepsIfMade (outside (make_function n))
IsKept m = Keeps m

abbrev pub MovesKeep : Type 0
MovesKeep = (m : Move) → IsKept m

-- no function is made that captures locals of a frame
abbrev pub NoneMade : Row → Type 0
NoneMade traps = Unit {0}
NoneMade (stop e) = Unit {0}
NoneMade (only slot r) = NoneMade r
NoneMade (act (outside (make_function n)) k) = ⊥
NoneMade (act m k) = (n : ℕ) (t : Told m) → NoneMade (k n t)

-- a row that makes no such function
abbrev pub RowsKeep : Type 0
RowsKeep = (r : Row) → NoneMade r → (p : Pairs) (env other : List Value) (W X : World) → SameValues p env other → AgreeInTurn p W X → SameOutcome p (run r env W) (run r other X)

-- the machine's own rows open what they share; so its steps keep it, whatever the rows of the primitives are that make no such function
abbrev pub StepsKeep : Type 0
StepsKeep = (primitives : ℕ → Row) → ((n : ℕ) → NoneMade (primitives n)) → (n : ℕ) (e : Ending) (p : Pairs) (W X : World) → AgreeInTurn p W X
    → SameOutcome p (steps primitives n e W) (steps primitives n e X)

-- a turn begins by setting the values on their way and the budget, and so does the agreement of a turn
abbrev pub TurnsBegin : Type 0
TurnsBegin = (p : Pairs) (W X : World) (vs ws : List Value) (fuel : ℕ) → Agree p W X → SameValues p vs ws
    → AgreeInTurn p (record W { moving = vs; printed = []; fuel = fuel }) (record X { moving = ws; printed = []; fuel = fuel })

abbrev pub TurnsEnd : Type 0
TurnsEnd = (p : Pairs) (W X : World) → AgreeInTurn p W X → Agree p W X

-- one pairing after another
abbrev pub then_pairs : Pairs → Pairs → Pairs
then_pairs p q = record { objects = λ kind i. bind (p.objects kind i) (q.objects kind); cells = λ i. bind (p.cells i) q.cells }

abbrev pub AgreementComposes : Type 0
AgreementComposes = (p q : Pairs) (W X Y : World) → Agree p W X → Agree q X Y → Agree (then_pairs p q) W Y

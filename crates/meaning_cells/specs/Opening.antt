-- What the opening of cells for declared locals does to an activation (Lua 5.4 manual, 3.5).
use Rattle.std.specs.Prelude.{◌≡◌, ℕ, zero, suc, ◌<◌, List, [], ◌∷◌, length, map, Some}
use Rattle.int_core.specs.Value.{Value}
use Rattle.int_core.specs.Ask.{opens, values, Next, goes_on, says, Captured, cell_held}
use Rattle.tree_core.specs.Tree.{Body}
use Rattle.tree_activation.specs.Work.{Control, capture, Work, Activation, State, at}
use Rattle.tree_activation.specs.Activation.{step}

abbrev pub carried : ℕ × Value → Value
carried s = s.1

-- a step: nobody else runs while a cell is opened, so each shared variable comes back with the value that the ask carried
abbrev pub by_step : State → (goes : (cell : ℕ) → State → State) → (cell : ℕ) → Next Body State → State
by_step s goes cell (goes_on t) = goes cell t
by_step s goes cell (says (opens v) line shared k) = goes (suc cell) (k (record { reply = values []; shared = map carried shared; cell = cell }))
by_step s goes cell _ = s

-- through n steps, where each ask to open a cell is answered at once by the next number from `cell` on
abbrev pub opening : (n : ℕ) → (cell : ℕ) → State → State
opening zero cell s = s
opening (suc n) cell s = by_step s (opening n) cell (step s)

-- locals are in scope

abbrev pub AreInScope : ℕ → List ℕ → Type 0
AreInScope size [] = Unit {0}
AreInScope size (n ∷ ns) = (n < size) × AreInScope size ns

abbrev pub HoldsInScope : ℕ → List (ℕ × ℕ) → Type 0
HoldsInScope size [] = Unit {0}
HoldsInScope size (h ∷ held) = (h.0 < size) × HoldsInScope size held

-- each of these locals has a cell
abbrev pub AreHeld : List (ℕ × ℕ) → List ℕ → Type 0
AreHeld held [] = Unit {0}
AreHeld held (n ∷ ns) = ((c : ℕ) × (cell_held n held ≡ Some c)) × AreHeld held ns

-- what had a cell keeps it
abbrev pub KeepsCells : List (ℕ × ℕ) → List (ℕ × ℕ) → Type 0
KeepsCells before after = (n c : ℕ) → cell_held n before ≡ Some c → cell_held n after ≡ Some c

-- where locals in scope are to get cells, the activation goes on, after finitely many steps, as it would have done without: with the same
-- locals, arguments and work. Only which cells it holds has changed: each of the locals has one, and what had one keeps it
abbrev pub OpeningChangesNothing : Type 0
OpeningChangesNothing =
    (cell line : ℕ) (ns : List ℕ) (next : Control) (a : Activation) (k : List Work)
    → AreInScope (length a.locals) ns → HoldsInScope (length a.locals) a.captured.held
    → (n : ℕ) × (captured : Captured) × (opening n cell (at (capture line ns next) a k) ≡ at next (record a { captured = captured }) k)
    × AreHeld captured.held ns × KeepsCells a.captured.held captured.held

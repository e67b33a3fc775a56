-- What is proved of sessions of the machine.
use Rattle.std.specs.Prelude.{◌≡◌, ℕ, ◌≤◌, true, List, [], ◌++◌, length, Some, slice_get, IsTrue}
use Rattle.int_core.specs.Value.{greatest_string}
use Rattle.code_core.specs.Prototype.{Prototype}
use Rattle.code_core.specs.Check.{IsChecked}
use Rattle.library_rows.specs.Library.{Entry, all_entries}
use Rattle.load_rows.specs.Loading.{Builds}
use Rattle.machine_core.specs.World.{Coroutine, World}
use Rattle.machine_core.specs.Moves.{main_yielded, Row, can_start, ends, run}
use Rattle.machine_core.specs.PrimitiveRows.{row_numbered, load_row}
use Rattle.machine_sound.specs.Sound.{Each, Sound}
use Rattle.machine_sound.specs.Laws.{PrimitivesSafe, StepGood}
use Rattle.machine_runs.specs.Opening.{opening, begun, handed_line}
use Rattle.machine_runs.specs.Runs.{wakes, turn, has_ended, Run, is_suspended, behind, CodeRun, CodeOnward}

-- functions of a prelude: their code is checked, and no name is too long
pub record PreludeOk (prelude : List (Entry Prototype)) : Type 0 where
  pub names : Each (λ (e : Entry Prototype). length e.name ≤ greatest_string) prelude
  pub codes : Each (λ (e : Entry Prototype). IsChecked e.entry) prelude

-- strings can hold all lines
abbrev pub AreShort : List (List ℕ) → Type 0
AreShort lines = Each (λ (line : List ℕ). length line ≤ greatest_string) lines

-- no coroutine runs, and main has not run yet or waits for a line
pub record MayTurn (W : World) : Type 0 where
  pub idle : W.chain ≡ []
  pub main : ℕ
  pub is_main : W.main ≡ Some main
  pub coroutine : Coroutine
  pub there : slice_get W.coroutines main ≡ Some coroutine
  pub waits : IsTrue (can_start coroutine)

-- soundness

abbrev pub OpeningIsSound : Type 0
OpeningIsSound = (prelude : List (Entry Prototype)) → PreludeOk prelude → Sound (length all_entries) (opening prelude)

abbrev pub OpeningIsIdle : Type 0
OpeningIsIdle = (prelude : List (Entry Prototype)) → (opening prelude).chain ≡ []

abbrev pub BegunIsSound : Type 0
BegunIsSound = (primitives : ℕ) (W : World) (main : Prototype) → Sound primitives W → W.chain ≡ [] → IsChecked main → Sound primitives (begun W main)

abbrev pub BegunMayTurn : Type 0
BegunMayTurn = (W : World) (main : Prototype) → W.chain ≡ [] → MayTurn (begun W main)

abbrev pub HandedIsSound : Type 0
HandedIsSound = (primitives : ℕ) (W : World) (line : List ℕ) → Sound primitives W → W.chain ≡ [] → length line ≤ greatest_string → Sound primitives (handed_line W line)

abbrev pub HandedMayTurn : Type 0
HandedMayTurn = (W : World) (line : List ℕ) → MayTurn W → MayTurn (handed_line W line)

-- a turn from a sound world in which main is to be resumed does not trap, and leaves a sound world
abbrev pub WakesSoundly : Type 0
WakesSoundly = (primitives : ℕ) (W : World) → Sound primitives W → MayTurn W → StepGood primitives (wakes W)

abbrev pub TurnsGood : Type 0
TurnsGood = (primitives : ℕ) (rows : ℕ → Row) → PrimitivesSafe primitives rows → (count : ℕ) (W : World) (budget : ℕ)
    → Sound primitives W → MayTurn W → StepGood primitives (turn rows count W budget)

-- no step of a row ends a turn with a yield
abbrev pub NeverYields : Row → Type 0
NeverYields r = (W V : World) → run r [] W ≡ ends main_yielded V → ⊥

abbrev pub LoadsNeverYield : Type 0
LoadsNeverYield = (builds : Builds Prototype) → NeverYields (load_row builds)

-- where a turn ends with a yield, the world is sound and main waits for a line
abbrev pub YieldsLeaveMainWaiting : Type 0
YieldsLeaveMainWaiting = (build : Row) → NeverYields build → (primitives : ℕ) → PrimitivesSafe primitives (row_numbered build) → (count : ℕ) (W : World) (budget : ℕ) (V : World)
    → Sound primitives W → MayTurn W → turn (row_numbered build) count W budget ≡ ends main_yielded V → Sound primitives V × MayTurn V

-- runs

-- a turn that has ended within some steps is the same within more
abbrev pub EndedStays : Type 0
EndedStays = (rows : ℕ → Row) (few many : ℕ) (W : World) (budget : ℕ) → has_ended (turn rows few W budget) ≡ true → few ≤ many → turn rows many W budget ≡ turn rows few W budget

-- code does one thing alone
abbrev pub RunIsOne : Type 0
RunIsOne = (rows : ℕ → Row) (W : World) (input : List (List ℕ)) (budget : ℕ) (x y : Run) → CodeRun rows W input budget x → CodeRun rows W input budget y → x ≡ y

-- a run on some lines, and then from where it was suspended on further ones, is the run on all of them
abbrev pub CutsDoNotShow : Type 0
CutsDoNotShow =
    (rows : ℕ → Row) (W : World) (some more : List (List ℕ)) (budget : ℕ) (x y : Run)
    → CodeRun rows W some budget x → x.close ≡ is_suspended → CodeOnward rows x.last more budget y → CodeRun rows W (some ++ more) budget (behind x.printed y)

-- and so it is where no line had been handed over yet
abbrev pub OnwardCutsDoNotShow : Type 0
OnwardCutsDoNotShow =
    (rows : ℕ → Row) (W : World) (some more : List (List ℕ)) (budget : ℕ) (x y : Run)
    → CodeOnward rows W some budget x → x.close ≡ is_suspended → CodeOnward rows x.last more budget y → CodeOnward rows W (some ++ more) budget (behind x.printed y)

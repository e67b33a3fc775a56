-- What is proved of joined worlds: that writes of cells and switches between coroutines keep them joined.
use Rattle.code_core.specs.Prototype.{Prototype}
use Rattle.load_rows.specs.Loading.{Builds}
use Rattle.std.specs.Prelude.{◌≡◌, ℕ, Bool, true, false, List, [], ◌∷◌, Some, slice_get, slice_set}
use Rattle.int_core.specs.Value.{Value, object, a_coroutine}
use Rattle.machine_core.specs.World.{Cell, Coroutine, fresh, World, read_cell, write_cell}
use Rattle.machine_core.specs.Moves.{runs_main, no_top, Ending, Outcome, ends, run}
use Rattle.machine_core.specs.FrameRows.{hand_over, coroutine_fails, handed_to}
use Rattle.machine_core.specs.MachineStep.{yield_row, resume_row}
use Rattle.lua_meaning.specs.World.{gives_back}
use Rattle.lua_meaning.specs.Calls.{fails_all, handed}
use Rattle.library_rows.specs.Library.{coroutine_resume, coroutine_yield}
use Rattle.lua_meaning.specs.Step.{does_primitive}
use Rattle.code_means.specs.Runs.{codes_run}
use Rattle.machine_sound.specs.Sound.{Solid, StackWaits}
use Rattle.machine_means.specs.Joined.{TalkWorld, Joined}

-- whoever runs, a cell is written, open in the frames of whichever coroutine or closed
abbrev pub WritesJoined : Type 0
WritesJoined = (lax : Bool) (M : World) (T : TalkWorld) → Joined lax M T → (c : ℕ) (cell : Cell) → slice_get M.cells c ≡ Some cell → (was : Value) → read_cell M cell ≡ Some was
    → (v : Value) → Joined lax (write_cell M c cell v) (record T { cells = slice_set T.cells c v })

-- a row ends with results on their way to the frame on top, and so they are in the other world
pub record GivesBack (o : Outcome) (T : TalkWorld) : Type 0 where
  pub ending : Ending
  pub world : World
  pub is : o ≡ ends ending world
  pub reached : run hand_over [] world ≡ ends ending world
  pub now : T.now ≡ gives_back world.moving
  pub joined : Joined false world T

-- all frames of the running coroutine wait, which another one resumed
pub record InResumed (primitives : ℕ) (lax : Bool) (M : World) (T : TalkWorld) : Type 0 where
  pub solid : Solid primitives M
  pub waits : StackWaits primitives M
  pub resumed : runs_main M ≡ false
  pub joined : Joined lax M T

-- it yields what moves
abbrev pub YieldsJoined : Type 0
YieldsJoined = (builds : Builds Prototype) (primitives : ℕ) (M : World) (T : TalkWorld) → InResumed primitives false M T → GivesBack (run yield_row [] M) (does_primitive codes_run builds coroutine_yield T M.moving)

-- what moves reaches no frame of it, and it ends
abbrev pub EndsJoined : Type 0
EndsJoined = (primitives : ℕ) (M : World) (T : TalkWorld) (k : InResumed primitives false M T) → k.waits.frames ≡ [] → GivesBack (run (handed_to (no_top false)) [] M) (handed codes_run T M.moving T.frames)

-- an error that moves leaves it: all its cells are closed, and it keeps what it still has to close
abbrev pub FailsJoined : Type 0
FailsJoined = (primitives : ℕ) (M : World) (T : TalkWorld) → InResumed primitives true M T → (e : Value) → M.moving ≡ e ∷ [] → GivesBack (run coroutine_fails [] M) (fails_all codes_run T e)

abbrev pub HasBegun : Coroutine → Type 0
HasBegun (fresh body) = ⊥
HasBegun _ = Unit {0}

-- a coroutine that has begun is resumed, or that is refused
abbrev pub ResumesJoined : Type 0
ResumesJoined = (builds : Builds Prototype) (primitives : ℕ) (M : World) (T : TalkWorld) → Solid primitives M → StackWaits primitives M → Joined false M T → (co : ℕ) (vs : List Value) → M.moving ≡ object a_coroutine co ∷ vs
    → (c : Coroutine) → slice_get M.coroutines co ≡ Some c → HasBegun c → GivesBack (run resume_row [] M) (does_primitive codes_run builds coroutine_resume T (object a_coroutine co ∷ vs))

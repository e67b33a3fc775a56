-- How both worlds stand while a function runs: its captured locals have their values in the frame's registers alone.
use Rattle.std.specs.Prelude.{◌≡◌, ◌≤◌, ◌<◌, ℕ, false, List, ◌∷◌, length, reverse, Some, slice_get}
use Rattle.int_core.specs.Value.{Value, nth}
use Rattle.int_core.specs.Ask.{Captured}
use Rattle.list_laws.specs.Held.{Held, Has}
use Rattle.machine_core.specs.World.{Function, running, Activation, LuaFrame, Frame, lua, World}
use Rattle.int_core.specs.Limits.{greatest_depth}
use Rattle.machine_core.specs.Talk.{before}
use Rattle.lua_meaning.specs.World.{talking, talks, shared_in}
use Rattle.machine_means.specs.Joined.{TalkFrame, TalkWorld, FunctionsPair, Below, CoroutinesPair, CellsPair}

-- the frames of the coroutine that runs, where its frame on top is this one, over others that wait
pub record RunsOver (fs : List Function) (cells : List Value) (frame : LuaFrame) (below : List Frame) (talks_below : List TalkFrame) (held : Held) (frames : List Frame) (all_held : List Held) : Type 0 where
  pub more : List Held
  pub is_held : all_held ≡ held ∷ more
  pub listed : frames ≡ reverse (lua frame ∷ below)
  pub waits : Below false fs cells below talks_below more
  pub depth : length below < greatest_depth

-- an activation that runs, and that of its frame: it may know of more registers
pub record Alike (a own : Activation) : Type 0 where
  pub fixed : record a { registers = own.registers } ≡ own
  pub values : (r : ℕ) → nth a.registers r ≡ nth own.registers r
  pub size : length own.registers ≤ length a.registers

pub record Works (M : World) (T : TalkWorld) : Type 0 where
  pub heap : M.heap ≡ T.heap
  pub globals : M.globals ≡ T.globals
  pub printed : M.printed ≡ T.printed
  pub fuel : M.fuel ≡ T.fuel
  pub chain : M.chain ≡ reverse T.chain
  pub functions : FunctionsPair M.functions T.functions
  pub now : T.now ≡ talks
  pub frame : LuaFrame
  pub runs : frame.wait ≡ running
  pub function : Function
  pub there : slice_get M.functions frame.function ≡ Some function
  pub a : Activation
  pub captured : Captured
  pub alike : Alike a frame.own
  pub not_own : (r c u : ℕ) → Has r c captured.held → slice_get function.cells u ≡ Some c → ⊥
  pub below : List Frame
  pub talks_below : List TalkFrame
  pub top : T.frames ≡ talking frame.function (before a captured) ∷ talks_below
  pub held : List (List Held)
  pub cells : CellsPair M.cells (shared_in captured.gone T.cells) held
  pub coroutines : CoroutinesPair M.functions (shared_in captured.gone T.cells) (RunsOver M.functions (shared_in captured.gone T.cells) frame below talks_below captured.held) M.coroutines T.coroutines held

-- Calls of primitives, and what they come to.
use Rattle.std.specs.Prelude.{◌≡◌, ◌≤◌, ◌-◌, ℕ, Bool, true, false, List, [], length, map}
use Rattle.std.specs.Global.{Vec}
use Rattle.library_rows.specs.Library.{all_entries}
use Rattle.library_rows.specs.Look.{Look, looked}
use Rattle.tree_core.specs.Tree.{Body}
use Rattle.load_rows.specs.Loading.{Builds}
use Rattle.loaded_code.specs.Laws.{library}
use Rattle.source_builds.specs.Builds.{BuildsSources}
use Rattle.machine_core.specs.Moves.{Ending, Row, calls_primitive, ends, go, is_given, lua_top, see_top}
use Rattle.machine_core.specs.MachineStep.{look_row, steps}
use Rattle.machine_runs.specs.Runs.{is_end}
use Rattle.table_core.specs.declared.value.Value.{Value as Kept}
use Rattle.lua_stack.specs.declared.frame.Wait.{Wait as KeptWait}
use Rattle.lua_stack.specs.declared.frame.Wait.TheVariants.{ForCall, ForIterator}
use Rattle.lua_heap.specs.declared.world.World.{World as Memory}
use Rattle.lua_heap.specs.Plain.{plain}
use Rattle.lua_heap.specs.Reading.{value}
use Rattle.pure_functions.specs.declared.answer.Answer.{Answer}
use Rattle.pure_functions.specs.Answers.{Changes, told, heap_of}
use Rattle.move_laws.specs.Memory.{InOrder, Makes}
use Rattle.instruction_forms.specs.declared.form.Form.TheVariants.{Call}
use Rattle.step_laws.specs.Steps.{Does, IsReady}
use Rattle.running_frame.specs.declared.place.Here.{Here}
use Rattle.running_frame.specs.Here.{IsAtWord, IsHere, RunsIf}
use Rattle.machine_call_rows.specs.declared.calls.CallAt.{CallAt}
use Rattle.machine_library.specs.Answers.{shape_told, values_told}
use Rattle.machine_returns.specs.Waking.{HasWait}
use Rattle.machine_step.specs.Places.{RunsForm}
use Rattle.machine_library_calls.specs.declared.primitives.Taker.{Taker}
use Rattle.machine_library_calls.specs.declared.primitives.Taker.TheVariants.{Caller, Below}

-- some steps, of which none ends the turn, and one more
pub record Comes (rows : ℕ → Row) (old : Memory) (fuel : ℕ) (new : Memory) (left : ℕ) (to : Ending) : Type 0 where
  pub count : ℕ
  pub mid : Memory
  pub rest : ℕ
  pub at : Ending
  pub goes_on : is_end at ≡ false
  pub is : steps rows count go (plain old fuel) ≡ ends at (plain mid rest)
  pub ready : IsReady (length all_entries) at mid
  pub does : Does rows at mid rest new left to

-- for what a frame waits that calls
abbrev pub wait_by : Bool → KeptWait
wait_by true = ForIterator
wait_by false = ForCall

-- a world in which a call begins, and its budget
pub record Begun : Type 0 where
  pub before : Memory
  pub fuel : ℕ

abbrev pub begins : Memory → ℕ → Begun
begins W fuel = record { before = W; fuel = fuel }

-- the call is paid, and comes to this wherever sources are built
abbrev pub CallComes : Begun → Memory → Ending → Type 0
CallComes begun new to = (builds : Builds Body) → BuildsSources builds → Comes (library builds) begun.before begun.fuel new (begun.fuel - 1) to

-- the Lua frame on top is at a call, and no value moves
pub record IsAtCall (W : Memory) (here : Here) (at : CallAt) : Type 0 where
  pub ready : IsReady (length all_entries) go W
  pub is_here : IsHere W here
  pub runs : RunsForm W here.pc (Call at.function at.count at.keeps at.iterates)
  pub still : W.moving.items ≡ []

-- the primitive of this number was called, and its arguments do not move yet: with them on their way, that is a step
pub record IsCalled (begun : Begun) (now : Memory) (number : ℕ) (arguments : List Kept) : Type 0 where
  pub ready : IsReady (length all_entries) go begun.before
  pub few : length arguments ≤ 6
  pub still : now.moving.items ≡ []
  pub order : InOrder now
  pub steps : (sent : Memory) → sent ≡ record now { moving = sent.moving } → sent.moving.items ≡ arguments → (rows : ℕ → Row)
      → Does rows go begun.before begun.fuel sent (begun.fuel - 1) (calls_primitive number)

-- the Lua frame on top, which takes what comes

pub record HasLuaOnTop (W : Memory) : Type 0 where
  pub sees : Makes W W see_top [] [] lua_top

pub record WaitsSoAt (W : Memory) (here : Here) (wait : KeptWait) : Type 0 where
  pub word : IsAtWord W here.pc here.word
  pub waits : RunsIf W false
  pub waited : HasWait W wait

abbrev pub WaitsIf : Memory → Taker → Type 0
WaitsIf W (Caller here iterates) = WaitsSoAt W here (wait_by iterates)
WaitsIf W Below = Unit {0}

pub record Takes (W : Memory) (to : Taker) : Type 0 where
  pub lua : HasLuaOnTop W
  pub waits : WaitsIf W to

-- the function of that number, by its row, has given this answer, which is for a Lua frame
pub record IsAnswered (begun : Begun) (now : Memory) (answer : Answer) : Type 0 where
  pub called : Memory
  pub number : ℕ
  pub arguments : List Kept
  pub row : Look
  pub is_called : IsCalled begun called number arguments
  pub is_row : (builds : Builds Body) → library builds number ≡ look_row row
  pub lua : HasLuaOnTop called
  pub changes : Changes called now arguments
  pub answers : looked row (map (value called.strings) arguments) (heap_of called) ≡ told now answer

-- and these are its results
pub record IsGiven (begun : Begun) (now : Memory) (values : List Kept) : Type 0 where
  pub answer : Answer
  pub is_answered : IsAnswered begun now answer
  pub results : Vec Kept
  pub items : results.items ≡ values
  pub given : shape_told answer ≡ is_given
  pub are : values_told now answer ≡ map (value now.strings) results.items

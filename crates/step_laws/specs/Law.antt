-- What is proved of steps of the machine between worlds in memory.
use Rattle.std.specs.Prelude.{◌≡◌, ℕ, true, [], Some, map}
use Rattle.int_core.specs.Ask.{values}
use Rattle.machine_core.specs.World.{running, for_concat, Place, place_of}
use Rattle.machine_core.specs.InstructionRows.{rest_at, told_values}
use Rattle.machine_core.specs.FrameRows.{expand, goes_on_by, asked_row, raised_row, unwound, handed_to, results_row, unwinding_row}
use Rattle.machine_core.specs.Moves.{Ending, go, returned, asks, calls_primitive, raised, unwinding, see_top, TopShape, Row}
use Rattle.machine_runs.specs.Runs.{is_end}
use Rattle.machine_sound.specs.Laws.{SoundAfter, PrimitivesSafe}
use Rattle.instruction_forms.specs.declared.form.Form.{Form}
use Rattle.instruction_forms.specs.Forms.{text_of}
use Rattle.instruction_forms.specs.Waiting.{form_at, rest_of}
use Rattle.lua_heap.specs.declared.world.World.{World as Memory}
use Rattle.lua_heap.specs.Plain.{plain}
use Rattle.lua_heap.specs.Reading.{value}
use Rattle.move_laws.specs.Memory.{HasStack, HasFrame, InOrder, IsSafe, IsSound, Leads, Makes, Steps}
use Rattle.step_laws.specs.Steps.{Does, IsReady, RunsAt, HasForm, WaitsAt, WaitsFor, Wakes}

-- what the budget is makes no difference to what follows an ending
abbrev pub ReadyByFuel : Type 0
ReadyByFuel = (primitives : ℕ) (ending : Ending) (W : Memory) (fuel other : ℕ) → SoundAfter primitives ending (plain W fuel) → SoundAfter primitives ending (plain W other)

abbrev pub ReadyIsSound : Type 0
ReadyIsSound = (primitives : ℕ) (ending : Ending) (W : Memory) → IsReady primitives ending W → IsSound W

-- after a step the world is ready for the next one, where it is in order
abbrev pub StepsStayReady : Type 0
StepsStayReady =
    (primitives : ℕ) (rows : ℕ → Row) → PrimitivesSafe primitives rows → (from to : Ending) (old new : Memory) (fuel left : ℕ)
    → IsReady primitives from old → Does rows from old fuel new left to → InOrder new → IsReady primitives to new

-- where a row may go on, a Lua frame is on top; where it hands something on, a coroutine runs
abbrev pub GoHasFrame : Type 0
GoHasFrame = (primitives : ℕ) (W : Memory) → IsReady primitives go W → HasFrame W

abbrev pub ReturnedHasStack : Type 0
ReturnedHasStack = (primitives : ℕ) (W : Memory) → IsReady primitives returned W → HasStack W

abbrev pub AsksHasStack : Type 0
AsksHasStack = (primitives : ℕ) (W : Memory) → IsReady primitives asks W → HasStack W

abbrev pub RaisedHasStack : Type 0
RaisedHasStack = (primitives : ℕ) (W : Memory) → IsReady primitives raised W → HasStack W

abbrev pub UnwindingHasStack : Type 0
UnwindingHasStack = (primitives : ℕ) (W : Memory) → IsReady primitives unwinding W → HasStack W

abbrev pub CallHasStack : Type 0
CallHasStack = (primitives n : ℕ) (W : Memory) → IsReady primitives (calls_primitive n) W → HasStack W

-- a Lua frame on top that runs is at an instruction of its code
abbrev pub RunningIsAt : Type 0
RunningIsAt = (W : Memory) (place : Place) → IsSound W → place_of (plain W 0) ≡ Some place → place.top.wait ≡ running → RunsAt W

-- the row of that instruction does not trap, and what it does is the machine's step
abbrev pub InstructionIsSafe : Type 0
InstructionIsSafe = (W : Memory) (form : Form) (k : RunsAt W) → IsSound W → HasForm k.opcode k.instruction form
    → IsSafe (expand (text_of k.place.function.code k.place.top.own.pc form)) [] W

abbrev pub InstructionIsStep : Type 0
InstructionIsStep = (rows : ℕ → Row) (old new : Memory) (fuel left : ℕ) (to : Ending) (form : Form) (k : RunsAt old) → HasForm k.opcode k.instruction form
    → Steps (expand (text_of k.place.function.code k.place.top.own.pc form)) [] old fuel new left to → Does rows go old fuel new left to

-- so it is with what is left of an instruction, once its frame is woken
abbrev pub AnswerIsSafe : Type 0
AnswerIsSafe = (old woken : Memory) (k : WaitsAt old) → IsSound old → Wakes old woken k.place
    → IsSafe (goes_on_by (rest_at k.place.top.wait k.place.function.code k.place.top.own.pc)) (told_values k.place.top.wait (values (map (value old.strings) old.moving.items))) woken

abbrev pub AnswerIsStep : Type 0
AnswerIsStep = (rows : ℕ → Row) (old woken new : Memory) (fuel : ℕ) (to : Ending) (k : WaitsAt old) → Wakes old woken k.place
    → Leads (goes_on_by (rest_at k.place.top.wait k.place.function.code k.place.top.own.pc)) (told_values k.place.top.wait (values (map (value old.strings) old.moving.items))) woken new to
    → Does rows go old fuel new fuel to

-- a Lua frame on top that waits is at an instruction that may wait so, and what is left of that goes by its form
abbrev pub WaitingIsAt : Type 0
WaitingIsAt = (W : Memory) (k : WaitsAt W) → IsSound W → WaitsFor W k

abbrev pub AnswerHasForm : Type 0
AnswerHasForm = (W : Memory) (k : WaitsAt W) (w : WaitsFor W k) (form : Form) → form_at w.opcode w.instruction ≡ Some form
    → rest_at k.place.top.wait k.place.function.code k.place.top.own.pc ≡ rest_of k.place.top.wait k.place.function.code k.place.top.own.pc w.instruction form

-- a frame that waited for the value of a concatenation fits its place once it is woken
abbrev pub JoinIsSound : Type 0
JoinIsSound = (old woken : Memory) (k : WaitsAt old) → IsSound old → Wakes old woken k.place → InOrder woken → (left : ℕ) → k.place.top.wait ≡ for_concat left → IsSound woken

-- results reach what is on top of the stack, and so does an error; neither row traps
abbrev pub ReturnedIsSafe : Type 0
ReturnedIsSafe = (primitives : ℕ) (W : Memory) (top : TopShape) → IsReady primitives returned W → Makes W W see_top [] [] top → IsSafe (handed_to top) [] W

abbrev pub ReturnedIsStep : Type 0
ReturnedIsStep = (rows : ℕ → Row) (old new : Memory) (fuel : ℕ) (to : Ending) (top : TopShape) → Makes old old see_top [] [] top → Leads (handed_to top) [] old new to → Does rows returned old fuel new fuel to

abbrev pub UnwindingIsSafe : Type 0
UnwindingIsSafe = (primitives : ℕ) (W : Memory) (top : TopShape) → IsReady primitives unwinding W → Makes W W see_top [] [] top → IsSafe (unwound top) [] W

abbrev pub UnwindingIsStep : Type 0
UnwindingIsStep = (rows : ℕ → Row) (old new : Memory) (fuel : ℕ) (to : Ending) (top : TopShape) → Makes old old see_top [] [] top → Leads (unwound top) [] old new to → Does rows unwinding old fuel new fuel to

-- a row does not trap where it comes next, and what it does is the machine's step
abbrev pub RowIsSafe : Ending → Row → Type 0
RowIsSafe next row = (primitives : ℕ) (W : Memory) → IsReady primitives next W → IsSafe row [] W

abbrev pub RowIsStep : Ending → Row → Type 0
RowIsStep next row = (rows : ℕ → Row) (old new : Memory) (fuel : ℕ) (to : Ending) → Leads row [] old new to → Does rows next old fuel new fuel to

-- so it is with the whole rows of results and of errors, which look at what is on top first; where it is found who catches an error, where what was
-- asked for is called, and where a primitive does its row

abbrev pub ResultsAreSafe : Type 0
ResultsAreSafe = RowIsSafe returned results_row

abbrev pub ErrorIsSafe : Type 0
ErrorIsSafe = RowIsSafe unwinding unwinding_row

abbrev pub RaisedIsSafe : Type 0
RaisedIsSafe = RowIsSafe raised raised_row

abbrev pub AskedIsSafe : Type 0
AskedIsSafe = RowIsSafe asks asked_row

abbrev pub PrimitiveIsSafe : Type 0
PrimitiveIsSafe = (primitives n : ℕ) (rows : ℕ → Row) (W : Memory) → PrimitivesSafe primitives rows → IsReady primitives (calls_primitive n) W → IsSafe (rows n) [] W

abbrev pub ResultsAreStep : Type 0
ResultsAreStep = RowIsStep returned results_row

abbrev pub ErrorIsStep : Type 0
ErrorIsStep = RowIsStep unwinding unwinding_row

abbrev pub AskedIsStep : Type 0
AskedIsStep = (rows : ℕ → Row) (old new : Memory) (fuel left : ℕ) (to : Ending) → Steps asked_row [] old fuel new left to → Does rows asks old fuel new left to

abbrev pub RaisedIsStep : Type 0
RaisedIsStep = RowIsStep raised raised_row

abbrev pub PrimitiveIsStep : Type 0
PrimitiveIsStep = (rows : ℕ → Row) (n : ℕ) (old new : Memory) (fuel left : ℕ) (to : Ending) → Steps (rows n) [] old fuel new left to → Does rows (calls_primitive n) old fuel new left to

-- what ends a turn is no step
abbrev pub EndStays : Type 0
EndStays = (rows : ℕ → Row) (ending : Ending) (W : Memory) (fuel : ℕ) → is_end ending ≡ true → Does rows ending W fuel W fuel ending

-- How both worlds stand between two steps of the machine, by the ending of its row, where no activation runs.
use Rattle.code_core.specs.Prototype.{Prototype}
use Rattle.load_rows.specs.Loading.{Builds}
use Rattle.std.specs.Prelude.{◌≡◌, ℕ, Bool, true, false, List, [], ◌∷◌, Option, Some, slice_get}
use Rattle.int_core.specs.Value.{Value, object, a_coroutine, last}
use Rattle.int_core.specs.Ask.{faulted}
use Rattle.machine_core.specs.World.{Frame, lua, Coroutine, fresh, World}
use Rattle.machine_core.specs.Moves.{see_top, runs_main, Ending, go, returned, asks, calls_primitive, raised, unwinding, spent, Outcome, trapped, ends, Row, act, run}
use Rattle.machine_core.specs.FrameRows.{hand_over, blames, handed_to, unwound, raised_row, asked_row}
use Rattle.machine_core.specs.MachineStep.{pcall_row, xpcall_row, resume_row, close_row, step_by}
use Rattle.lua_meaning.specs.World.{waiting, handling, gives_back, raises_error, unwinds, now_in, raises_text, answered}
use Rattle.lua_meaning.specs.World as talk
use Rattle.lua_meaning.specs.Calls.{calls_value, error_in_handler, handed}
use Rattle.lua_meaning.specs.Calls as calls
use Rattle.library_rows.specs.Library.{base_pcall, base_xpcall, coroutine_close, coroutine_resume}
use Rattle.lua_meaning.specs.Step.{Primitives, does_primitive, tick}
use Rattle.code_means.specs.Runs.{codes_run}
use Rattle.machine_sound.specs.Sound.{Solid, StackWaits}
use Rattle.machine_means.specs.Joined.{TalkFrame, TalkWorld, Joined}
use Rattle.machine_means.specs.Works.{Works}

-- what becomes of a callee that cannot be called, by the frame for which it was to be called
abbrev pub refused_under : List TalkFrame → List ℕ → TalkWorld → TalkWorld
refused_under (waiting asker ∷ below) why V = answered V asker (faulted why) below
refused_under (handling ∷ below) why V = now_in V (unwinds error_in_handler)
refused_under _ why V = raises_text V why

-- the same results, or the same error, are on their way; or a value is to be called, which the machine does in a step of its own and the
-- other world has done: what came of it is T
pub data Stands : Ending → World → TalkWorld → Type 0 where
  results_come : (ending : Ending) (W : World) (T : TalkWorld) → run hand_over [] W ≡ ends ending W → T.now ≡ gives_back W.moving → Joined false W T → Stands ending W T
  error_raised : (W : World) (T : TalkWorld) (e : Value) → W.moving ≡ e ∷ [] → T.now ≡ raises_error e → Joined true W T → Stands raised W T
  error_leaves : (W : World) (T : TalkWorld) (e : Value) → W.moving ≡ e ∷ [] → T.now ≡ unwinds e → Joined true W T → Stands unwinding W T
  call_asked : (W : World) (T U : TalkWorld) (f : Value) (vs : List Value) → W.moving ≡ f ∷ vs → Joined false W U → T ≡ calls_value codes_run U f vs (refused_under U.frames) → Stands asks W T
  -- a primitive is called with what moves; the budget is spent; a function runs
  primitive_called : (n : ℕ) (W : World) (T : TalkWorld) → T.now ≡ talk.calls_primitive n W.moving → Joined false W T → Stands (calls_primitive n) W T
  budget_spent : (W : World) (T : TalkWorld) → T.now ≡ talk.ends talk.spent → Stands spent W T
  code_runs : (W : World) (T : TalkWorld) → Works W T → Stands go W T

-- what a row comes to stands beside a world
pub record ComesTo (o : Outcome) (T : TalkWorld) : Type 0 where
  pub ending : Ending
  pub world : World
  pub is : o ≡ ends ending world
  pub stands : Stands ending world T

-- a sound world in which all frames of the running coroutine wait, and one that is joined with it
pub record AtRest (primitives : ℕ) (lax : Bool) (M : World) (T : TalkWorld) : Type 0 where
  pub solid : Solid primitives M
  pub waits : StackWaits primitives M
  pub joined : Joined lax M T

abbrev pub IsLua : Frame → Type 0
IsLua (lua f) = Unit {0}
IsLua _ = ⊥

-- results reach a frame that is no Lua function's: it is left, or closes the next value
abbrev pub ResultsReach : Type 0
ResultsReach = (primitives : ℕ) (M : World) (T : TalkWorld) (k : AtRest primitives false M T) (m : Frame) → last k.waits.frames ≡ Some m → (IsLua m → ⊥)
    → ComesTo (run (act see_top (λ _ top. handed_to top)) [] M) (handed codes_run T M.moving T.frames)

-- and so does an error
abbrev pub ErrorsReach : Type 0
ErrorsReach = (primitives : ℕ) (M : World) (T : TalkWorld) (k : AtRest primitives true M T) (m : Frame) → last k.waits.frames ≡ Some m → (IsLua m → ⊥) → (e : Value) → M.moving ≡ e ∷ []
    → ComesTo (run (act see_top (λ _ top. unwound top)) [] M) (calls.unwound codes_run T e T.frames)

-- a text is raised as an error, with the same place in front
abbrev pub TextsRaised : Type 0
TextsRaised = (primitives : ℕ) (M : World) (T : TalkWorld) → AtRest primitives false M T → (text : List ℕ) → ComesTo (run (blames text) [] M) (raises_text T text)

-- `pcall` and `xpcall` push a frame, over which a value is to be called, or there is no room for it
abbrev pub ProtectedCalls : Type 0
ProtectedCalls = (builds : Builds Prototype) (primitives : ℕ) (M : World) (T : TalkWorld) → AtRest primitives false M T
    → ComesTo (run pcall_row [] M) (does_primitive codes_run builds base_pcall T M.moving) × ComesTo (run xpcall_row [] M) (does_primitive codes_run builds base_xpcall T M.moving)

-- it is found who catches an error that was raised: a message handler is called on top of all frames, else frames are left with it, or the
-- coroutine fails
abbrev pub ErrorsRaised : Type 0
ErrorsRaised = (primitives : ℕ) (M : World) (T : TalkWorld) → AtRest primitives true M T → (e : Value) → M.moving ≡ e ∷ [] → ComesTo (run raised_row [] M) (calls.raised_to codes_run T e T.frames)

-- a coroutine is closed, or that is refused
abbrev pub CoroutinesClosed : Type 0
CoroutinesClosed = (builds : Builds Prototype) (primitives : ℕ) (M : World) (T : TalkWorld) → AtRest primitives false M T → (co : ℕ) (vs : List Value) → M.moving ≡ object a_coroutine co ∷ vs → (c : Coroutine) → slice_get M.coroutines co ≡ Some c
    → ComesTo (run close_row [] M) (does_primitive codes_run builds coroutine_close T (object a_coroutine co ∷ vs))

-- a coroutine that has not begun is resumed: its function runs, or the primitive that it is made of is called, or that is refused
abbrev pub CoroutinesBegin : Type 0
CoroutinesBegin = (builds : Builds Prototype) (primitives : ℕ) (M : World) (T : TalkWorld) → AtRest primitives false M T → (co : ℕ) (vs : List Value) → M.moving ≡ object a_coroutine co ∷ vs → (body : Value) → slice_get M.coroutines co ≡ Some (fresh body) → (run resume_row [] M ≡ trapped → ⊥)
    → ComesTo (run resume_row [] M) (does_primitive codes_run builds coroutine_resume T (object a_coroutine co ∷ vs))

-- where results are handed to a frame that is no Lua function's, or an error is raised or reaches such a frame
abbrev pub IsHanding : Ending → Type 0
IsHanding returned = Unit {0}
IsHanding raised = Unit {0}
IsHanding unwinding = Unit {0}
IsHanding _ = ⊥

-- the frame on top is no Lua function's; where there is none, another coroutine resumed the running one
pub record NoLuaTop (M : World) (frames : List Frame) : Type 0 where
  pub top : (m : Frame) → last frames ≡ Some m → IsLua m → ⊥
  pub resumed : frames ≡ [] → runs_main M ≡ false

-- there one step of the machine is one of the other world
abbrev pub HandingSteps : Type 0
HandingSteps = (primitives : ℕ) (rows : ℕ → Row) (known : Primitives Prototype) (ending : Ending) → IsHanding ending → (M : World) (T : TalkWorld) → Solid primitives M → (waits : StackWaits primitives M) → NoLuaTop M waits.frames → Stands ending M T
    → ComesTo (step_by rows ending M) (tick codes_run known T)

-- what is asked for is called, where no Lua frame asks: a function is entered, which runs in both worlds; a primitive is called; nothing is
-- left to pay with; or the call is refused. The other world has done so already
abbrev pub AskedSteps : Type 0
AskedSteps = (primitives : ℕ) (M : World) (T : TalkWorld) → Solid primitives M → (waits : StackWaits primitives M) → ((m : Frame) → last waits.frames ≡ Some m → IsLua m → ⊥) → Stands asks M T → (run asked_row [] M ≡ trapped → ⊥)
    → ComesTo (run asked_row [] M) T

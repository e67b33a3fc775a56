-- How a world of the machine and one of talking activations over code stand to each other, for any number of coroutines. The machine keeps the
-- captured locals of a frame in its registers, with cells that are open there; the other world keeps each cell's value, and an activation that
-- waits knows the registers that it had.
use Rattle.std.specs.Prelude.{◌≡◌, ◌≤◌, ◌⊎◌, ℕ, Bool, true, false, List, [], ◌∷◌, ◌++◌, length, reverse, Option, Some, None, slice_get}
use Rattle.int_core.specs.Value.{Value, nth, bind}
use Rattle.int_core.specs.Ask.{Reply, Answer, IsLeft, shared_by, brought}
use Rattle.code_core.specs.Prototype.{Parts, Prototypes, none, more, Prototype}
use Rattle.list_laws.specs.Held.{Held, Has}
use Rattle.machine_core.specs.World as machine
use Rattle.machine_core.specs.World.{Cell, closed, open_at, Activation, LuaFrame, lua, pcall, xpcall, handler, in_progress}
use Rattle.machine_core.specs.InstructionRows.{after, told_values}
use Rattle.machine_core.specs.Moves.{line_of}
use Rattle.int_core.specs.Limits.{greatest_depth}
use Rattle.machine_core.specs.RowFits.{IsWaiting}
use Rattle.machine_core.specs.Talk.{State, amid}
use Rattle.lua_meaning.specs.World as talk
use Rattle.lua_meaning.specs.World.{Asker, waiting, raising, protected, handled_by, handling}

abbrev pub TalkFrame : Type 0
TalkFrame = talk.Frame State

abbrev pub TalkWorld : Type 0
TalkWorld = talk.World Prototype State

-- functions

-- where lines are kept a function and all that are defined in it have the source's name, else neither that nor names of variables

abbrev pub PartsNamed : (has_lines : Bool) → (source : List ℕ) → Parts → Type 0
PartsNamed true source own = own.source ≡ Some source
PartsNamed false source own = (own.source ≡ None) × (own.locals ≡ [])

abbrev pub AllNamed : (has_lines : Bool) → (source : List ℕ) → Prototypes → Type 0
AllNamed has_lines source none = Unit {0}
AllNamed has_lines source (more own inner rest) = PartsNamed has_lines source own × AllNamed has_lines source inner × AllNamed has_lines source rest

pub record Named (has_lines : Bool) (source : List ℕ) (p : Prototype) : Type 0 where
  pub own : PartsNamed has_lines source p.own
  pub inner : AllNamed has_lines source p.inner

pub record Dressed (f : machine.Function) (g : talk.Function Prototype) : Type 0 where
  pub code : g.made_of ≡ f.code
  pub cells : g.cells ≡ f.cells
  pub named : Named g.has_lines g.source f.code

-- two lists are as long as each other, and their items of the same place stand so
abbrev pub Both : {A B : Type 0} → (A → B → Type 0) → Option A → Option B → Type 0
Both R (Some a) (Some b) = R a b
Both R None None = Unit {0}
Both R _ _ = ⊥

abbrev pub FunctionsPair : List machine.Function → List (talk.Function Prototype) → Type 0
FunctionsPair fs gs = (n : ℕ) → Both Dressed (slice_get fs n) (slice_get gs n)

-- frames

-- the line of an ask, where the code has a source's name
abbrev pub line_known : Prototype → (pc : ℕ) → Option ℕ
line_known p pc = bind p.own.source (λ _. line_of p pc)

-- an activation that raised an error of its own hears of nothing but that it is left
abbrev pub IsHeard : (left_only : Bool) → Reply → Type 0
IsHeard true reply = IsLeft reply
IsHeard false reply = Unit {0}

-- a frame that waits, and an activation that goes on by what the wait says. `held` are the cells of its captured locals; none of them is a
-- cell of its own function
pub record Asleep (left_only : Bool) (fs : List machine.Function) (frame : LuaFrame) (asker : Asker State) (held : Held) (a : Activation) : Type 0 where
  pub number : asker.function ≡ frame.function
  pub function : machine.Function
  pub there : slice_get fs frame.function ≡ Some function
  pub gone : List (ℕ × Value)
  pub shares : asker.shared ≡ shared_by held a.registers ++ gone
  pub at_line : asker.line ≡ line_known function.code a.pc
  pub waits : IsWaiting frame.wait
  pub next : (x : Answer) → IsHeard left_only x.reply
      → asker.goes x
      ≡ amid (after frame.wait function.code a.pc x.reply) (told_values frame.wait x.reply) (record a { registers = brought held x.shared a.registers }) (record { held = held; gone = [] })
  pub own : record a { registers = frame.own.registers } ≡ frame.own
  pub not_own : (r c u : ℕ) → Has r c held → slice_get function.cells u ≡ Some c → ⊥

-- the registers that a waiting activation knows, and those of its frame: they differ at captured locals alone, where the frame has the cell's
-- value. The activation may know of more
pub record RegistersPair (cells : List Value) (held : Held) (known registers : List Value) : Type 0 where
  pub size : length registers ≤ length known
  pub off : (r : ℕ) → (nth known r ≡ nth registers r) ⊎ ((c : ℕ) × Has r c held)
  pub on : (r c : ℕ) → Has r c held → nth cells c ≡ nth registers r

abbrev pub LuaPair : (left_only : Bool) → List machine.Function → (cells : List Value) → LuaFrame → Asker State → Held → Type 0
LuaPair left_only fs cells frame asker held = (a : Activation) × Asleep left_only fs frame asker held a × RegistersPair cells held a.registers frame.own.registers

-- `lax` admits a frame that raised an error. A closing frame's values stand the other way round
abbrev pub Pair : (lax : Bool) → List machine.Function → (cells : List Value) → machine.Frame → TalkFrame → Held → Type 0
Pair lax fs cells (lua frame) (waiting asker) held = LuaPair false fs cells frame asker held
Pair true fs cells (lua frame) (raising asker) held = LuaPair true fs cells frame asker held
Pair lax fs cells pcall protected held = held ≡ []
Pair lax fs cells (xpcall v) (handled_by u) held = (v ≡ u) × (held ≡ [])
Pair lax fs cells handler handling held = held ≡ []
Pair lax fs cells (machine.closing e us) (talk.closing d ws) held = (e ≡ d) × (us ≡ reverse ws) × (held ≡ [])
Pair lax fs cells _ _ held = ⊥

-- only the frame on top, or the one under a message handler, may be one that raised an error
abbrev pub under : machine.Frame → Bool
under handler = true
under _ = false

-- frames from the top, with what each of them holds
abbrev pub Below : (lax : Bool) → List machine.Function → (cells : List Value) → List machine.Frame → List TalkFrame → List Held → Type 0
Below lax fs cells [] [] [] = Unit {0}
Below lax fs cells (m ∷ ms) (t ∷ ts) (held ∷ more_held) = Pair lax fs cells m t held × Below (under m) fs cells ms ts more_held
Below lax fs cells _ _ _ = ⊥

-- the machine lists them from the bottom
pub record Stacks (lax : Bool) (fs : List machine.Function) (cells : List Value) (frames : List machine.Frame) (ts : List TalkFrame) (held : List Held) : Type 0 where
  pub ms : List machine.Frame
  pub listed : frames ≡ reverse ms
  pub below : Below lax fs cells ms ts held
  pub depth : length ms ≤ greatest_depth

-- coroutines

-- of the coroutine that runs the frames stand beside the others in the one world: `runs` says how they stand to its frames in the other
abbrev pub CoroutinePair : List machine.Function → (cells : List Value) → (runs : List machine.Frame → List Held → Type 0) → machine.Coroutine → talk.Coroutine State → List Held → Type 0
CoroutinePair fs cells runs (machine.fresh v) (talk.fresh w) held = (v ≡ w) × (held ≡ [])
CoroutinePair fs cells runs (machine.suspended frames) (talk.suspended ts) held = Stacks false fs cells frames ts held
CoroutinePair fs cells runs (in_progress frames) talk.running held = runs frames held
CoroutinePair fs cells runs (machine.normal frames) (talk.normal ts) held = Stacks false fs cells frames ts held
CoroutinePair fs cells runs machine.dead talk.dead held = held ≡ []
CoroutinePair fs cells runs (machine.failed e pending) (talk.failed d values) held = (e ≡ d) × (pending ≡ reverse values) × (held ≡ [])
CoroutinePair fs cells runs _ _ held = ⊥

abbrev pub AllThree : {A B C : Type 0} → (A → B → C → Type 0) → Option A → Option B → Option C → Type 0
AllThree R (Some a) (Some b) (Some c) = R a b c
AllThree R None None None = Unit {0}
AllThree R _ _ _ = ⊥

abbrev pub CoroutinesPair : List machine.Function → (cells : List Value) → (runs : List machine.Frame → List Held → Type 0) → List machine.Coroutine → List (talk.Coroutine State) → List (List Held) → Type 0
CoroutinesPair fs cells runs cs ds held = (j : ℕ) → AllThree (CoroutinePair fs cells runs) (slice_get cs j) (slice_get ds j) (slice_get held j)

-- cells

-- the frame of a number from the bottom holds its register r as the cell c
abbrev pub Holds : (frame r c : ℕ) → List Held → Type 0
Holds frame r c [] = ⊥
Holds frame r c (h ∷ held) = ((frame ≡ length held) × Has r c h) ⊎ Holds frame r c held

abbrev pub HoldsOf : Option (List Held) → (frame r c : ℕ) → Type 0
HoldsOf None frame r c = ⊥
HoldsOf (Some held) frame r c = Holds frame r c held

abbrev pub HoldsIn : List (List Held) → (coroutine frame r c : ℕ) → Type 0
HoldsIn held coroutine frame r c = HoldsOf (slice_get held coroutine) frame r c

-- a closed cell has its value; an open one is held at exactly its place, and no place has two
pub record CellsPair (cells : List Cell) (values : List Value) (held : List (List Held)) : Type 0 where
  pub size : length cells ≡ length values
  pub shut : (c : ℕ) (v : Value) → slice_get cells c ≡ Some (closed v) → nth values c ≡ v
  pub opened : (c i f r : ℕ) → slice_get cells c ≡ Some (open_at i f r) → HoldsIn held i f r c
  pub held_open : (c i f r : ℕ) → HoldsIn held i f r c → slice_get cells c ≡ Some (open_at i f r)
  pub one : (c d i f r : ℕ) → slice_get cells c ≡ Some (open_at i f r) → slice_get cells d ≡ Some (open_at i f r) → c ≡ d

-- worlds

-- both where no activation runs: results, an error or a call are on their way. `lax` says that an error was raised
pub record Joined (lax : Bool) (M : machine.World) (T : TalkWorld) : Type 0 where
  pub heap : M.heap ≡ T.heap
  pub globals : M.globals ≡ T.globals
  pub printed : M.printed ≡ T.printed
  pub fuel : M.fuel ≡ T.fuel
  pub chain : M.chain ≡ reverse T.chain
  pub functions : FunctionsPair M.functions T.functions
  pub held : List (List Held)
  pub cells : CellsPair M.cells T.cells held
  pub coroutines : CoroutinesPair M.functions T.cells (λ frames hs. Stacks lax M.functions T.cells frames T.frames hs) M.coroutines T.coroutines held

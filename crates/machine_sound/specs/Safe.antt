-- Rows that never trap, by recursion over the row: what each move needs (`Ready`), what may come of it (`Event`), and what is known behind it.
use Rattle.std.specs.Prelude.{ℕ, ◌+◌, ◌-◌, ◌<◌, ◌≤◌, ◌≡◌, ◌⊎◌, ℤ, pos, Bool, true, false, cond, max, List, [], ◌∷◌, ◌++◌, length, drop, Option, Some, None, slice_get, IsTrue, IsSome}
use Rattle.int_core.specs.Operations.{operands}
use Rattle.int_core.specs.Value.{Plain, nil, boolean, integer, string, primitive, Value, known, object, a_table, a_function, a_coroutine, Shape, is_known, is_object, shape, greatest_string, last}
use Rattle.code_core.specs.declared.opcode.Opcode.{Opcode}
use Rattle.code_core.specs.declared.instruction.Instruction.{Instruction}
use Rattle.code_core.specs.declared.proto.Const.{Const}
use Rattle.code_core.specs.declared.proto.UpDesc.{UpDesc}
use Rattle.code_core.specs.Instruction.{opcode_of}
use Rattle.code_core.specs.Prototype.{Prototype, list_of}
use Rattle.code_core.specs.Check.{IsChecked, at, Mark, fixed, open_from, mark}
use Rattle.machine_core.specs.World.{Wait, leaving, World}
use Rattle.machine_core.specs.Text.{Arg, read, written, arg, constant, behind, is_there, Own, read_register, read_registers, read_list, read_constant, read_varargs, see, write_register, write_registers, write_list, write_nils, end_list, cut_from, close_cells, mark_pending, see_pending, drop_pending, keep_results, keep_pending, Quick, read_upvalue, write_upvalue, make_table, make_function, fill_table, pay, Given, results, thrown}
use Rattle.machine_core.specs.Moves.{Over, over_xpcall, Move, on_own, move_pc, open_register, outside, settle, enter, enter_tail, await, find_close, is_closable, begin_leaving, leave_frame, take_moving, look, give, give_with, blame, place_text, push_frame, call_value, see_top, see_catcher, pop_frame, take_closing, set_error, end_coroutine, fail_coroutine, suspend, resume, begin_closing, consult, LookShape, is_given, is_refused, is_raised, create, see_status, see_running, print, make_loaded, Status, ClosingShape, one_left, all_closed, closed_with_error, ResumeShape, resumed, refused, SettledShape, is_found, is_asked, is_fault, CallShape, is_entered, is_primitive, not_paid, not_entered, TopShape, lua_top, closing_top, no_top, Told, place_from, top_shape, runs_main, Ending, go, returned, asks, calls_primitive, raised, unwinding, spent, main_yielded, main_returned, main_failed, Row, traps, stop, only, act, Outcome, trapped, ends, move, run}
use Rattle.machine_core.specs.MachineStep.{can_call}
use Rattle.library_rows.specs.Look.{Look, gives as row_gives, gives_all as row_gives_all, refuses as row_refuses, raises as row_raises, count as row_count, does as row_does}
use Rattle.machine_sound.specs.Sound.{Each, sizes, Valid, waits_at, waiting_size, kept_below, Solid, Top, TopIs, FitsIfRuns, Settled, StackWaits}

-- where a row stands: a Lua frame is on top, of which this is known, and all others wait; all frames wait, and what stands on top may be known;
-- they do, in a coroutine that another one resumed; they do, and a primitive is called; no coroutine runs; the world is as between two steps;
-- or all frames wait or it is so
pub data Phase : Type 0 where
  on_lua : Top → Phase
  waiting : Option TopShape → Phase
  in_resumed : Phase
  calling : ℕ → Phase
  ended : Phase
  between : Phase
  handing : Phase

abbrev pub Knows : Option TopShape → TopShape → Type 0
Knows None top = Unit {0}
Knows (Some known_top) top = top ≡ known_top

pub record WaitsUnder (primitives : ℕ) (known_top : Option TopShape) (W : World) : Type 0 where
  pub all : StackWaits primitives W
  pub top : Knows known_top (top_shape W (last all.frames))

pub record Calls (primitives : ℕ) (n : ℕ) (W : World) : Type 0 where
  pub all : StackWaits primitives W
  pub there : n < primitives

pub record WaitsResumed (primitives : ℕ) (W : World) : Type 0 where
  pub all : StackWaits primitives W
  pub resumed_one : runs_main W ≡ false

abbrev pub IsPhase : ℕ → Phase → World → Type 0
IsPhase primitives (on_lua t) W = TopIs primitives t W
IsPhase primitives (waiting top) W = WaitsUnder primitives top W
IsPhase primitives (calling n) W = Calls primitives n W
IsPhase primitives in_resumed W = WaitsResumed primitives W
IsPhase primitives ended W = W.chain ≡ []
IsPhase primitives between W = Settled primitives W
IsPhase primitives handing W = StackWaits primitives W ⊎ Settled primitives W

-- the world and the values read are as they should be
pub record Is (primitives : ℕ) (x : Phase) (env : List Value) (W : World) : Type 0 where
  pub solid : Solid primitives W
  pub phase : IsPhase primitives x W
  pub valid : Each (Valid (sizes primitives W)) env

-- values that a row writes out are no primitives, and not too long

abbrev pub WrittenOk : Plain → Type 0
WrittenOk (string bytes) = length bytes ≤ greatest_string
WrittenOk (primitive n) = ⊥
WrittenOk _ = Unit {0}

abbrev pub ArgOk : Arg → Type 0
ArgOk (read n) = Unit {0}
ArgOk (written p) = WrittenOk p

abbrev pub ArgsOk : List Arg → Type 0
ArgsOk [] = Unit {0}
ArgsOk (x ∷ xs) = ArgOk x × ArgsOk xs

-- and so in a library row, whatever it is told

abbrev pub LookOk : Look → Type 0
LookOk (row_gives xs) = ArgsOk xs
LookOk (row_gives_all xs slot) = ArgsOk xs
LookOk (row_refuses text) = Unit {0}
LookOk (row_raises x) = ArgOk x
LookOk (row_count slot k) = (n : ℕ) → LookOk (k n)
LookOk (row_does op xs k) = ArgsOk xs × ((s : Shape) → LookOk (k s))

abbrev pub GivenOk : Given → Type 0
GivenOk (results slot) = Unit {0}
GivenOk (thrown x) = ArgOk x

abbrev pub WaitArgOk : Wait Arg → Type 0
WaitArgOk (leaving x) = ArgOk x
WaitArgOk _ = Unit {0}

-- moves on the own activation

abbrev pub stack_of : Top → ℕ
stack_of t = t.code.own.stack

-- the place behind the open list
abbrev pub end_by : Mark → ℕ → Option ℕ
end_by fixed opened = None
end_by (open_from r) opened = Some (r + opened)

abbrev pub end_of : Top → Option ℕ
end_of t = end_by (mark t.code t.pc) t.opened

abbrev pub list_length : ℕ → Option ℕ → ℕ
list_length from None = 0
list_length from (Some end) = end - from

abbrev pub OwnReady : Top → Own → Type 0
OwnReady t (read_register r) = r < t.size
OwnReady t (read_registers from count) = behind from count ≤ t.size
OwnReady t (read_list from) = IsSome (end_of t)
OwnReady t (read_constant n) = n < length t.code.own.constants
OwnReady t (write_register r x) = r < t.size × ArgOk x
OwnReady t (write_registers at count slot) = behind at count ≤ t.size
OwnReady t (write_list at slot) = at < t.size
OwnReady t (write_nils at count) = at + count ≤ t.size
OwnReady t end_list = t.cells ≤ stack_of t
OwnReady t (cut_from r) = t.cells ≤ stack_of t
OwnReady t (mark_pending r) = r < t.size × r < stack_of t
OwnReady t (keep_results from count) = t.cells ≤ stack_of t
OwnReady t keep_pending = t.cells ≤ stack_of t
OwnReady t _ = Unit {0}

-- a frame that waits is not changed
abbrev pub IfChanged : Own → Bool → Type 0
IfChanged (read_register r) runs = Unit {0}
IfChanged (read_registers from count) runs = Unit {0}
IfChanged (read_list from) runs = Unit {0}
IfChanged (read_constant n) runs = Unit {0}
IfChanged read_varargs runs = Unit {0}
IfChanged (see x) runs = Unit {0}
IfChanged (see_pending r) runs = Unit {0}
IfChanged _ runs = IsTrue runs

-- what is known behind it
abbrev pub after_own : Own → List Value → Top → Top
after_own (write_list at slot) env t = record t { size = max t.size (at + length (drop slot env)); opened = length (drop slot env) }
after_own end_list env t = record t { size = stack_of t; opened = 0 }
after_own (cut_from r) env t = record t { size = stack_of t; opened = 0 }
after_own (close_cells r) env t = record t { cells = r; captured = [] }
after_own (mark_pending r) env t = record t { pending = stack_of t }
after_own (drop_pending r) env t = record t { pending = r }
after_own (keep_results from count) env t = record t { size = max (stack_of t) (behind from count); opened = 0 }
after_own keep_pending env t = record t { size = stack_of t; opened = 0 }
after_own _ env t = t

abbrev pub after_all : List Own → List Value → Top → Top
after_all [] env t = t
after_all (m ∷ ms) env t = after_all ms env (after_own m env t)

abbrev pub AllReady : List Own → List Value → Top → Type 0
AllReady [] env t = Unit {0}
AllReady (m ∷ ms) env t = OwnReady t m × AllReady ms env (after_own m env t)

pub record ListRead (t : Top) (from : ℕ) : Type 0 where
  pub values : List Value
  pub count : length values ≡ list_length from (end_of t)

pub record ConstantRead (t : Top) (n : ℕ) : Type 0 where
  pub found : Const
  pub there : slice_get t.code.own.constants n ≡ Some found

-- what is read
abbrev pub OwnEvent : Top → Own → Type 0
OwnEvent t (read_register r) = Value
OwnEvent t (read_registers from count) = List Value
OwnEvent t (read_list from) = ListRead t from
OwnEvent t (read_constant n) = ConstantRead t n
OwnEvent t read_varargs = List Value
OwnEvent t (see_pending r) = Option Value
OwnEvent t _ = Unit {0}

abbrev pub list_of_option : Option Value → List Value
list_of_option None = []
list_of_option (Some v) = v ∷ []

abbrev pub own_values : (t : Top) (m : Own) → OwnEvent t m → List Value
own_values t (read_register r) v = v ∷ []
own_values t (read_registers from count) vs = vs
own_values t (read_list from) e = e.values
own_values t (read_constant n) e = known (constant e.found) ∷ []
own_values t read_varargs vs = vs
own_values t (see_pending r) o = list_of_option o
own_values t _ e = []

abbrev pub own_told : (t : Top) (env : List Value) (m : Own) → OwnEvent t m → Shape
own_told t env (read_register r) v = shape v
own_told t env (read_list from) e = is_known (integer (pos (length e.values)))
own_told t env (read_constant n) e = is_known (constant e.found)
own_told t env (see x) e = shape (arg env x)
own_told t env (see_pending r) o = is_known (boolean (is_there o))
own_told t env _ e = is_known nil

-- the other moves of a Lua frame on top

-- an instruction is at its place
pub record HasPlace (t : Top) : Type 0 where
  pub instruction : Instruction
  pub at_pc : at t.code t.pc ≡ Some instruction
  pub opcode : Opcode
  pub is_opcode : opcode_of instruction ≡ Some opcode

-- the frame may wait so
pub record WaitsAs (wait : Wait Arg) (t : Top) : Type 0 where
  pub place : HasPlace t
  pub fits : IsTrue (waits_at wait place.opcode place.instruction)
  pub size : t.size ≡ waiting_size wait place.instruction (stack_of t)
  pub kept : t.pending ≤ kept_below wait place.instruction (stack_of t)
  pub opened : t.opened ≡ 0
  pub error : WaitArgOk wait

pub record MayEnter (t : Top) (env : List Value) (f : Arg) (wait : Wait Arg) (prepared : List Own) : Type 0 where
  pub callee : ArgOk f
  pub prepares : AllReady prepared env t
  pub waits : WaitsAs wait (after_all prepared env t)

pub record Lands (t : Top) (z : ℤ) : Type 0 where
  pub place : ℕ
  pub is : place_from t.pc z ≡ Some place
  pub there : IsSome (at t.code place)

-- each local that is captured has a cell, and each outer upvalue is there
abbrev pub CapturesOk : Prototype → List ℕ → List UpDesc → Type 0
CapturesOk p with_cells [] = Unit {0}
CapturesOk p with_cells (u ∷ us) =
    cond u.in_stack ((i : ℕ) × (slice_get with_cells i ≡ Some u.index)) (u.index < length p.own.upvalues) × CapturesOk p with_cells us

pub record InnerOk (t : Top) (n : ℕ) : Type 0 where
  pub inner : Prototype
  pub there : slice_get (list_of t.code.inner) n ≡ Some inner
  pub captures : CapturesOk t.code t.captured inner.own.upvalues

abbrev pub QuickReady : Top → List Value → Quick → Type 0
QuickReady t env (read_upvalue u) = u < length t.code.own.upvalues
QuickReady t env (write_upvalue u x) = u < length t.code.own.upvalues × ArgOk x
QuickReady t env make_table = Unit {0}
QuickReady t env (make_function n) = InnerOk t n
QuickReady t env (fill_table x last slot) = shape (arg env x) ≡ is_object a_table
QuickReady t env pay = Unit {0}

abbrev pub QuickEvent : Quick → Type 0
QuickEvent (read_upvalue u) = Value
QuickEvent (write_upvalue u x) = Unit {0}
QuickEvent make_table = ℕ
QuickEvent (make_function n) = ℕ
QuickEvent (fill_table x last slot) = Unit {0}
QuickEvent pay = Bool

abbrev pub quick_values : (q : Quick) → QuickEvent q → List Value
quick_values (read_upvalue u) v = v ∷ []
quick_values make_table n = object a_table n ∷ []
quick_values (make_function k) n = object a_function n ∷ []
quick_values _ e = []

abbrev pub quick_told : (q : Quick) → QuickEvent q → Bool
quick_told pay paid = paid
quick_told _ e = true

-- what is written may be in any frame
abbrev pub after_quick : Quick → Top → Top
after_quick (write_upvalue u x) t = record t { captured = [] }
after_quick _ t = t

-- a value or none, a handler with its arguments, a fault
pub data SettledEvent : Type 0 where
  has_found : List Value → SettledEvent
  asks_for : Value → List Value → SettledEvent
  fails_with : List ℕ → SettledEvent

abbrev pub settled_values : SettledEvent → List Value
settled_values (has_found vs) = vs
settled_values (asks_for h vs) = h ∷ vs
settled_values (fails_with text) = []

abbrev pub settled_told : SettledEvent → SettledShape
settled_told (has_found vs) = is_found
settled_told (asks_for h vs) = is_asked
settled_told (fails_with text) = is_fault text

-- behind a call; a callee that is not entered leaves a frame that waits
abbrev pub after_entering : CallShape → (t ready : Top) → Phase
after_entering is_entered t ready = between
after_entering (is_primitive n) t ready = calling n
after_entering not_paid t ready = on_lua t
after_entering (not_entered text) t ready = on_lua (record ready { runs = false })

-- a tail call that is not entered leaves the frame as it was
abbrev pub after_tail : CallShape → Top → Phase
after_tail is_entered t = between
after_tail (is_primitive n) t = calling n
after_tail not_paid t = on_lua t
after_tail (not_entered text) t = on_lua t

abbrev pub TopReady : Top → List Value → Move → Type 0
TopReady t env (on_own m) = OwnReady t m × IfChanged m t.runs
TopReady t env (move_pc z) = IsTrue t.runs × Lands t z
TopReady t env (open_register r) = r < t.size × r < t.cells
TopReady t env (outside q) = QuickReady t env q
TopReady t env (settle op xs) = ArgsOk xs × (length xs ≡ operands op)
TopReady t env (enter f slot wait prepared) = MayEnter t env f wait prepared
TopReady t env (enter_tail f slot) = ArgOk f
TopReady t env (await f slot wait prepared) = MayEnter t env f wait prepared
TopReady t env (find_close v e) = ArgOk v × ArgOk e
TopReady t env (is_closable v) = Unit {0}
TopReady t env (begin_leaving text) = HasPlace t
TopReady t env (leave_frame given) = GivenOk given
TopReady t env take_moving = Unit {0}
TopReady t env _ = ⊥

abbrev pub TopEvent : Top → Move → Type 0
TopEvent t (on_own m) = OwnEvent t m
TopEvent t (move_pc z) = Lands t z
TopEvent t (outside q) = QuickEvent q
TopEvent t (settle op xs) = SettledEvent
TopEvent t (enter f slot wait prepared) = CallShape
TopEvent t (enter_tail f slot) = CallShape
TopEvent t (find_close v e) = Value
TopEvent t (is_closable v) = Bool
TopEvent t (leave_frame given) = TopShape
TopEvent t take_moving = List Value
TopEvent t (open_register r) = Unit {0}
TopEvent t (begin_leaving text) = Unit {0}
TopEvent t (await f slot wait prepared) = Unit {0}
TopEvent t _ = ⊥

-- what came of a move
pub record Led (m : Move) : Type 0 where
  pub values : List Value
  pub told : Told m
  pub phase : Phase

abbrev pub top_leads : (t : Top) (env : List Value) (m : Move) → TopEvent t m → Led m
top_leads t env (on_own m) e = record { values = own_values t m e; told = own_told t env m e; phase = on_lua (after_own m env t) }
top_leads t env (move_pc z) e = record { values = []; told = tt; phase = on_lua (record t { pc = e.place }) }
top_leads t env (open_register r) e = record { values = []; told = tt; phase = on_lua (record t { captured = r ∷ t.captured }) }
top_leads t env (outside q) e = record { values = quick_values q e; told = quick_told q e; phase = on_lua (after_quick q t) }
top_leads t env (settle op xs) e = record { values = settled_values e; told = settled_told e; phase = on_lua t }
top_leads t env (enter f slot wait prepared) s = record { values = []; told = s; phase = after_entering s t (after_all prepared env t) }
top_leads t env (enter_tail f slot) s = record { values = []; told = s; phase = after_tail s t }
top_leads t env (await f slot wait prepared) e = record { values = []; told = tt; phase = waiting None }
top_leads t env (find_close v e) h = record { values = h ∷ arg env v ∷ arg env e ∷ []; told = tt; phase = on_lua t }
top_leads t env (is_closable v) b = record { values = []; told = b; phase = on_lua t }
top_leads t env (begin_leaving text) e = record { values = []; told = tt; phase = waiting None }
top_leads t env (leave_frame given) s = record { values = []; told = s; phase = waiting (Some s) }
top_leads t env take_moving vs = record { values = vs; told = tt; phase = on_lua t }
top_leads t env (look x) e = absurd e
top_leads t env (give xs) e = absurd e
top_leads t env (give_with xs slot) e = absurd e
top_leads t env (blame text) e = absurd e
top_leads t env _ e = absurd e

-- moves where all frames wait

-- a frame that is not a Lua function's
abbrev pub IsOther : TopShape → Type 0
IsOther lua_top = ⊥
IsOther (no_top in_main) = ⊥
IsOther _ = Unit {0}

abbrev pub IsOtherTop : Option TopShape → Type 0
IsOtherTop None = ⊥
IsOtherTop (Some s) = IsOther s

abbrev pub IsClosingTop : Option TopShape → Type 0
IsClosingTop (Some closing_top) = Unit {0}
IsClosingTop _ = ⊥

abbrev pub IsNoTop : Option TopShape → Type 0
IsNoTop (Some (no_top in_main)) = Unit {0}
IsNoTop _ = ⊥

abbrev pub OverOk : Over → Type 0
OverOk (over_xpcall h) = ArgOk h
OverOk _ = Unit {0}

-- code of which a function can be made that has one cell
pub record LoadedOk (p : Prototype) : Type 0 where
  pub checked : IsChecked p
  pub one_upvalue : length p.own.upvalues ≡ 1

abbrev pub EnvironmentOk : Option Arg → Type 0
EnvironmentOk None = Unit {0}
EnvironmentOk (Some x) = ArgOk x

abbrev pub WaitingReady : Option TopShape → List Value → Move → Type 0
WaitingReady s env see_top = Unit {0}
WaitingReady s env see_catcher = Unit {0}
WaitingReady s env take_moving = Unit {0}
WaitingReady s env (look x) = Unit {0}
WaitingReady s env (give xs) = ArgsOk xs
WaitingReady s env (give_with xs slot) = ArgsOk xs
WaitingReady s env (blame text) = Unit {0}
WaitingReady s env (find_close v e) = ArgOk v × ArgOk e
WaitingReady s env (place_text x level) = ArgOk x
WaitingReady s env (push_frame over) = OverOk over
WaitingReady s env (call_value f slot) = ArgOk f
WaitingReady s env pop_frame = IsOtherTop s
WaitingReady s env take_closing = IsClosingTop s
WaitingReady s env (set_error x) = IsClosingTop s × ArgOk x
WaitingReady s env end_coroutine = IsNoTop s
WaitingReady s env (fail_coroutine x) = IsNoTop s × ArgOk x
WaitingReady s env suspend = Unit {0}
WaitingReady s env (resume x slot) = shape (arg env x) ≡ is_object a_coroutine
WaitingReady s env (begin_closing x) = shape (arg env x) ≡ is_object a_coroutine
WaitingReady s env (consult l slot) = LookOk l
WaitingReady s env (create x) = ArgOk x × IsTrue (can_call (shape (arg env x)))
WaitingReady s env (see_status x) = shape (arg env x) ≡ is_object a_coroutine
WaitingReady s env see_running = Unit {0}
WaitingReady s env (print x) = Unit {0}
WaitingReady s env (make_loaded p x) = LoadedOk p × EnvironmentOk x
WaitingReady s env _ = ⊥

-- a Lua frame on top that waits
pub record HeldLua : Type 0 where
  pub top : Top
  pub waits : top.runs ≡ false
  pub place : HasPlace top
  pub pending : top.pending ≤ top.code.own.stack

abbrev pub IsNoLua : TopShape → Type 0
IsNoLua lua_top = ⊥
IsNoLua _ = Unit {0}

pub data SeenTop : Type 0 where
  seen_lua : HeldLua → SeenTop
  seen_other : (s : TopShape) → IsNoLua s → SeenTop

pub data ClosingEvent : Type 0 where
  takes_one : (v e : Value) → ClosingEvent
  takes_none : ClosingEvent
  takes_error : Value → ClosingEvent

-- a refusal's text is no longer than a string may be
abbrev pub RefusalOk : ResumeShape → Type 0
RefusalOk (refused text) = length text ≤ greatest_string
RefusalOk (resumed s) = Unit {0}

pub record ResumeEvent : Type 0 where
  pub outcome : ResumeShape
  pub right : RefusalOk outcome

pub record EndEvent (s : Option TopShape) : Type 0 where
  pub in_main : Bool
  pub is : s ≡ Some (no_top in_main)

-- what comes of a library row
pub data LookEvent : Type 0 where
  gave : List Value → LookEvent
  refused_with : List ℕ → LookEvent
  raised_with : Value → LookEvent

abbrev pub look_values : LookEvent → List Value
look_values (gave vs) = vs
look_values (refused_with text) = []
look_values (raised_with v) = v ∷ []

abbrev pub look_told : LookEvent → LookShape
look_told (gave vs) = is_given
look_told (refused_with text) = is_refused text
look_told (raised_with v) = is_raised

abbrev pub WaitingEvent : Option TopShape → Move → Type 0
WaitingEvent s see_top = SeenTop
WaitingEvent s see_catcher = TopShape × List Value
WaitingEvent s take_moving = List Value
WaitingEvent s (look x) = Unit {0}
WaitingEvent s (give xs) = Unit {0}
WaitingEvent s (give_with xs slot) = Unit {0}
WaitingEvent s (blame text) = Unit {0}
WaitingEvent s (find_close v e) = Value
WaitingEvent s (place_text x level) = Value
WaitingEvent s (push_frame over) = Bool
WaitingEvent s (call_value f slot) = CallShape
WaitingEvent s pop_frame = Unit {0}
WaitingEvent s take_closing = ClosingEvent
WaitingEvent s (set_error x) = Unit {0}
WaitingEvent s end_coroutine = EndEvent s
WaitingEvent s (fail_coroutine x) = EndEvent s
WaitingEvent s suspend = Bool
WaitingEvent s (resume x slot) = ResumeEvent
WaitingEvent s (begin_closing x) = ResumeEvent
WaitingEvent s (consult l slot) = LookEvent
WaitingEvent s (create x) = ℕ
WaitingEvent s (see_status x) = Status
WaitingEvent s see_running = ℕ
WaitingEvent s (print x) = Unit {0}
WaitingEvent s (make_loaded p x) = ℕ
WaitingEvent s _ = ⊥

abbrev pub see_leads : SeenTop → Led see_top
see_leads (seen_lua held) = record { values = []; told = lua_top; phase = on_lua held.top }
see_leads (seen_other s no_lua) = record { values = []; told = s; phase = waiting (Some s) }

abbrev pub after_catcher : TopShape → Phase
after_catcher (no_top false) = in_resumed
after_catcher _ = waiting None

-- behind the end of the running coroutine, main or resumed
abbrev pub after_end : (in_main : Bool) → Phase
after_end true = ended
after_end false = waiting None

abbrev pub after_over : CallShape → Phase
after_over is_entered = between
after_over (is_primitive n) = calling n
after_over not_paid = waiting None
after_over (not_entered text) = waiting None

-- a resumed coroutine's frames wait, or its body was entered
abbrev pub after_resuming : ResumeShape → Phase
after_resuming (resumed is_entered) = handing
after_resuming (resumed (is_primitive n)) = calling n
after_resuming _ = waiting None

abbrev pub after_beginning : ResumeShape → Phase
after_beginning (resumed is_entered) = waiting (Some closing_top)
after_beginning (resumed (is_primitive n)) = calling n
after_beginning _ = waiting None

abbrev pub closing_values : ClosingEvent → List Value
closing_values (takes_one v e) = v ∷ e ∷ []
closing_values takes_none = []
closing_values (takes_error e) = e ∷ []

abbrev pub closing_told : ClosingEvent → ClosingShape
closing_told (takes_one v e) = one_left
closing_told takes_none = all_closed
closing_told (takes_error e) = closed_with_error

abbrev pub waiting_leads : (s : Option TopShape) (env : List Value) (m : Move) → WaitingEvent s m → Led m
waiting_leads s env see_top e = see_leads e
waiting_leads s env see_catcher e = record { values = e.1; told = e.0; phase = after_catcher e.0 }
waiting_leads s env take_moving vs = record { values = vs; told = tt; phase = waiting s }
waiting_leads s env (look x) e = record { values = []; told = shape (arg env x); phase = waiting s }
waiting_leads s env (give xs) e = record { values = []; told = tt; phase = waiting s }
waiting_leads s env (give_with xs slot) e = record { values = []; told = tt; phase = waiting s }
waiting_leads s env (blame text) e = record { values = []; told = tt; phase = waiting s }
waiting_leads s env (find_close v e) h = record { values = h ∷ arg env v ∷ arg env e ∷ []; told = tt; phase = waiting s }
waiting_leads s env (place_text x level) v = record { values = v ∷ []; told = tt; phase = waiting s }
waiting_leads s env (push_frame over) room = record { values = []; told = room; phase = waiting None }
waiting_leads s env (call_value f slot) c = record { values = []; told = c; phase = after_over c }
waiting_leads s env pop_frame e = record { values = []; told = tt; phase = waiting None }
waiting_leads s env take_closing e = record { values = closing_values e; told = closing_told e; phase = waiting s }
waiting_leads s env (set_error x) e = record { values = []; told = tt; phase = waiting s }
waiting_leads s env end_coroutine e = record { values = []; told = e.in_main; phase = after_end e.in_main }
waiting_leads s env (fail_coroutine x) e = record { values = []; told = tt; phase = after_end e.in_main }
waiting_leads s env suspend in_main = record { values = []; told = in_main; phase = after_end in_main }
waiting_leads s env (resume x slot) e = record { values = []; told = e.outcome; phase = after_resuming e.outcome }
waiting_leads s env (begin_closing x) e = record { values = []; told = e.outcome; phase = after_beginning e.outcome }
waiting_leads s env (consult l slot) e = record { values = look_values e; told = look_told e; phase = waiting s }
waiting_leads s env (create x) co = record { values = object a_coroutine co ∷ []; told = tt; phase = waiting s }
waiting_leads s env (see_status x) status = record { values = []; told = status; phase = waiting s }
waiting_leads s env see_running co = record { values = object a_coroutine co ∷ []; told = tt; phase = waiting s }
waiting_leads s env (print x) e = record { values = []; told = tt; phase = waiting s }
waiting_leads s env (make_loaded p x) n = record { values = object a_function n ∷ []; told = tt; phase = waiting s }
waiting_leads s env _ e = absurd e

-- any phase

-- an error that nothing in a resumed coroutine catches

abbrev pub ResumedReady : List Value → Move → Type 0
ResumedReady env take_moving = Unit {0}
ResumedReady env (fail_coroutine x) = ArgOk x
ResumedReady env _ = ⊥

abbrev pub ResumedEvent : Move → Type 0
ResumedEvent take_moving = List Value
ResumedEvent (fail_coroutine x) = Unit {0}
ResumedEvent _ = ⊥

abbrev pub resumed_leads : (env : List Value) (m : Move) → ResumedEvent m → Led m
resumed_leads env take_moving vs = record { values = vs; told = tt; phase = in_resumed }
resumed_leads env (fail_coroutine x) e = record { values = []; told = tt; phase = waiting None }
resumed_leads env _ e = absurd e

-- what moves is handed to whatever is on top

abbrev pub HandingReady : Move → Type 0
HandingReady see_top = Unit {0}
HandingReady _ = ⊥

abbrev pub HandingEvent : Move → Type 0
HandingEvent see_top = TopShape
HandingEvent _ = ⊥

abbrev pub after_handing : TopShape → Phase
after_handing lua_top = between
after_handing s = waiting (Some s)

abbrev pub handing_leads : (m : Move) → HandingEvent m → Led m
handing_leads see_top s = record { values = []; told = s; phase = after_handing s }
handing_leads _ e = absurd e

abbrev pub Ready : Phase → List Value → Move → Type 0
Ready (on_lua t) env m = TopReady t env m
Ready (waiting s) env m = WaitingReady s env m
Ready in_resumed env m = ResumedReady env m
Ready handing env m = HandingReady m
Ready _ env m = ⊥

abbrev pub Event : Phase → Move → Type 0
Event (on_lua t) m = TopEvent t m
Event (waiting s) m = WaitingEvent s m
Event in_resumed m = ResumedEvent m
Event handing m = HandingEvent m
Event _ m = ⊥

abbrev pub leads : (x : Phase) (env : List Value) (m : Move) → Event x m → Led m
leads (on_lua t) env m e = top_leads t env m e
leads (waiting s) env m e = waiting_leads s env m e
leads in_resumed env m e = resumed_leads env m e
leads handing env m e = handing_leads m e
leads _ env m e = absurd e

abbrev pub EndsWell : Ending → Phase → Type 0
EndsWell go (on_lua t) = FitsIfRuns t.runs t
EndsWell go (waiting (Some lua_top)) = Unit {0}
EndsWell go between = Unit {0}
EndsWell returned (waiting top) = Unit {0}
EndsWell asks (waiting top) = Unit {0}
EndsWell raised (waiting top) = Unit {0}
EndsWell unwinding (waiting top) = Unit {0}
EndsWell (calls_primitive n) (calling m) = n ≡ m
EndsWell spent x = Unit {0}
EndsWell main_yielded ended = Unit {0}
EndsWell main_returned ended = Unit {0}
EndsWell main_failed ended = Unit {0}
EndsWell _ _ = ⊥

-- a row that does not trap, and ends well
abbrev pub Safe : Phase → List Value → Row → Type 0
Safe x env traps = ⊥
Safe x env (stop e) = EndsWell e x
Safe x env (only slot r) = Safe x (drop slot env) r
Safe x env (act m k) =
    Ready x env m × ((e : Event x m) → Safe (leads x env m e).phase (env ++ (leads x env m e).values) (k (length env) (leads x env m e).told))

-- what a world is at each end
abbrev pub EndIs : ℕ → Ending → World → Type 0
EndIs primitives go W = Settled primitives W
EndIs primitives returned W = StackWaits primitives W
EndIs primitives (calls_primitive n) W = Calls primitives n W
EndIs primitives asks W = StackWaits primitives W
EndIs primitives raised W = StackWaits primitives W
EndIs primitives unwinding W = StackWaits primitives W
EndIs primitives spent W = Unit {0}
EndIs primitives main_yielded W = W.chain ≡ []
EndIs primitives main_returned W = W.chain ≡ []
EndIs primitives main_failed W = W.chain ≡ []

-- an outcome that is no trap, in a world that is as its ending says
abbrev pub Good : ℕ → Outcome → Type 0
Good primitives trapped = ⊥
Good primitives (ends e W) = Solid primitives W × EndIs primitives e W

-- what a move owes
pub record MoveGood (primitives : ℕ) (x : Phase) (env : List Value) (m : Move) (W : World) : Type 0 where
  pub event : Event x m
  pub world : World
  pub is : move m env W ≡ Some (record { world = world; values = (leads x env m event).values; told = (leads x env m event).told })
  pub holds : Is primitives (leads x env m event).phase (env ++ (leads x env m event).values) world

abbrev pub MovesGood : Type 0
MovesGood = (primitives : ℕ) (m : Move) (x : Phase) (env : List Value) (W : World) → Is primitives x env W → Ready x env m → MoveGood primitives x env m W

-- a safe row does not trap, and leaves a world that is as its ending says
abbrev pub RowsGood : Type 0
RowsGood = (primitives : ℕ) (r : Row) (x : Phase) (env : List Value) (W : World) → Is primitives x env W → Safe x env r → Good primitives (run r env W)

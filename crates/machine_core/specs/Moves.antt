-- Rows over whole worlds: moves one after another, where the next one hangs on what was told so far. No move tells an object's number.
-- A row traps exactly where a move names what is not there.
use Rattle.std.specs.Prelude.{ℕ, zero, suc, ◌+◌, ℤ, pos, negsuc, ◌+ℤ◌, Bool, true, false, cond, not, ◌&&◌, List, [], ◌∷◌, ◌++◌, length, take, drop, map, reverse, filter_map, flat_map, Option, Some, None, nat_eq, nat_lt, nat_le, slice_get, slice_set, codes}
use Rattle.int_core.specs.Heap.{add_table, filled_table}
use Rattle.library_rows.specs.Look.{Look, Done, done as came, refused as was_refused, raised as was_raised, looked}
use Rattle.code_core.specs.declared.proto.UpDesc.{UpDesc}
use Rattle.code_core.specs.Prototype.{Prototype, list_of}
use Rattle.code_core.specs.Check.{lines_from, at}
use Rattle.int_core.specs.Limits.{limited, position, greatest_depth, greatest_resumes, stack_overflow}
use Rattle.int_core.specs.Value.{string, primitive, a_table, a_function, a_coroutine, Value, known, object, Shape, shape, is_nil, nth, bind, last, without_last, error_or_nil, fitted}
use Rattle.machine_core.specs.World.{Cell, closed, open_at, Wait, running, for_call, for_iterator, for_value, for_truth, dropped, for_concat, for_close, returning, leaving, Activation, Frame, lua, pcall, xpcall, handler, closing, Coroutine, fresh, suspended, in_progress, normal, dead, failed, World, Stack, stack_of, Place, place_of, put_top, push, pop, read_cell, write_cell, find_open, close_from, frames_of}
use Rattle.int_core.specs.Operations.{Operation, Settled, found, ask, fault, cannot_arise, does, Callee, callee, not_callable, callee_of, greatest_chain, handler_in, of_close, is_function}
use Rattle.machine_core.specs.Text.{Arg, arg, args_of, Own, close_cells, keep_pending, reads, tells, effect, fits, done, Quick, read_upvalue, write_upvalue, make_table, make_function, fill_table, pay, Given, given_values}

-- where an error was raised

abbrev pub line_of : Prototype → ℕ → Option ℕ
line_of p pc = bind (bind (slice_get (lines_from p.own.abs_lines 0 (Some (pos p.own.line_defined)) p.own.line_info) pc) (λ line. line)) (λ line.
    elim line [ pos n ↦ Some n | negsuc _ ↦ None ])

-- `NAME:LINE: `, where the frame is one of a function with lines
abbrev pub frame_place : World → Frame → Option (List ℕ)
frame_place W (lua f) = bind (slice_get W.functions f.function) (λ g. bind g.code.own.source (λ name. bind (line_of g.code f.own.pc) (λ line.
    Some (position name line))))
frame_place W _ = None

-- that of the nth such frame from the top of the running coroutine, counted from 0
abbrev pub where_text : World → (level : ℕ) → List ℕ
where_text W level = elim (bind (stack_of W) (λ s. slice_get (filter_map (frame_place W) (reverse s.frames)) level)) [ None ↦ [] | Some text ↦ text ]

abbrev pub blamed : World → List ℕ → Value
blamed W text = limited (where_text W 0 ++ text)

-- a string gets the place of a level in front
abbrev pub placed : World → (level : ℕ) → Value → Value
placed W level (known (string text)) = limited (where_text W level ++ text)
placed W level v = v

-- a frame that a row pushes, over which a value is then called
pub data Over : Type 0 where
  over_pcall : Over
  over_xpcall : Arg → Over
  over_handler : Over

abbrev pub frame_over : Over → List Value → Frame
frame_over over_pcall env = pcall
frame_over (over_xpcall h) env = xpcall (arg env h)
frame_over over_handler env = handler

pub data Move : Type 0 where
  on_own : Own → Move
  move_pc : ℤ → Move
  open_register : ℕ → Move
  outside : Quick → Move
  settle : Operation → List Arg → Move
  enter : (f : Arg) → (slot : ℕ) → Wait Arg → (prepared : List Own) → Move
  enter_tail : (f : Arg) → (slot : ℕ) → Move
  await : (f : Arg) → (slot : ℕ) → Wait Arg → (prepared : List Own) → Move
  find_close : (v error : Arg) → Move
  is_closable : Arg → Move
  begin_leaving : List ℕ → Move
  leave_frame : Given → Move
  take_moving : Move
  look : Arg → Move
  give : List Arg → Move
  give_with : List Arg → (slot : ℕ) → Move
  blame : List ℕ → Move
  place_text : Arg → (level : ℕ) → Move
  push_frame : Over → Move
  call_value : (f : Arg) → (slot : ℕ) → Move
  see_top : Move
  see_catcher : Move
  pop_frame : Move
  take_closing : Move
  set_error : Arg → Move
  end_coroutine : Move
  fail_coroutine : Arg → Move
  suspend : Move
  resume : Arg → (slot : ℕ) → Move
  begin_closing : Arg → Move
  consult : Look → (slot : ℕ) → Move
  create : Arg → Move
  see_status : Arg → Move
  see_running : Move
  print : Arg → Move
  make_loaded : Prototype → (environment : Option Arg) → Move

-- what an operation came to: one value or none, a handler to be called with what was read behind it, a fault
pub data SettledShape : Type 0 where
  is_found : SettledShape
  is_asked : SettledShape
  is_fault : List ℕ → SettledShape

pub data CallShape : Type 0 where
  is_entered : CallShape
  is_primitive : ℕ → CallShape
  not_paid : CallShape
  not_entered : List ℕ → CallShape

pub data TopShape : Type 0 where
  lua_top : TopShape
  pcall_top : TopShape
  xpcall_top : TopShape
  handler_top : TopShape
  closing_top : TopShape
  no_top : (in_main : Bool) → TopShape

pub data ClosingShape : Type 0 where
  one_left : ClosingShape
  all_closed : ClosingShape
  closed_with_error : ClosingShape

pub data ResumeShape : Type 0 where
  resumed : CallShape → ResumeShape
  refused : List ℕ → ResumeShape

-- what a library row came to
pub data LookShape : Type 0 where
  is_given : LookShape
  is_refused : List ℕ → LookShape
  is_raised : LookShape

-- how a coroutine stands for a script
pub data Status : Type 0 where
  is_suspended : Status
  is_running : Status
  is_normal : Status
  is_dead : Status

abbrev pub Told : Move → Type 0
Told (on_own m) = Shape
Told (outside q) = Bool
Told (look x) = Shape
Told (settle op xs) = SettledShape
Told (enter f slot wait prepared) = CallShape
Told (enter_tail f slot) = CallShape
Told (push_frame over) = Bool
Told (call_value f slot) = CallShape
Told (is_closable x) = Bool
Told (leave_frame given) = TopShape
Told see_top = TopShape
Told see_catcher = TopShape
Told take_closing = ClosingShape
Told end_coroutine = Bool
Told suspend = Bool
Told (resume co slot) = ResumeShape
Told (begin_closing co) = ResumeShape
Told (consult l slot) = LookShape
Told (see_status co) = Status
Told _ = Unit {0}

-- how a row ends. `go`: the Lua frame on top runs, or gets what moves; `returned`: what moves is handed to whatever else is on top;
-- `asks`: a value moves with the arguments that it is to be called with, and the frame on top waits for what comes of it;
-- `raised`: an error moves, and it is to be found who catches it; `unwinding`: an error moves, and the frame on top is left with it
pub data Ending : Type 0 where
  go : Ending
  returned : Ending
  asks : Ending
  calls_primitive : ℕ → Ending
  raised : Ending
  unwinding : Ending
  spent : Ending
  main_yielded : Ending
  main_returned : Ending
  main_failed : Ending

-- `only` forgets all that was read but the values from a slot on; `traps` is the row of what is not there
pub data Row : Type 0 where
  traps : Row
  stop : Ending → Row
  only : (slot : ℕ) → Row → Row
  act : (m : Move) → (ℕ → Told m → Row) → Row

pub record Made (A : Type 0) : Type 0 where
  pub world : World
  pub values : List Value
  pub told : A

abbrev pub made : {A : Type 0} → World → List Value → A → Option (Made A)
made W values told = Some (record { world = W; values = values; told = told })

abbrev pub named : List Value → Wait Arg → Wait Value
named env running = running
named env for_call = for_call
named env for_iterator = for_iterator
named env for_value = for_value
named env for_truth = for_truth
named env dropped = dropped
named env (for_concat left) = for_concat left
named env for_close = for_close
named env (returning count) = returning count
named env (leaving e) = leaving (arg env e)

-- moves on the top frame's own activation

abbrev pub cells_after : Own → ℕ → ℕ → Activation → List Cell → List Cell
cells_after (close_cells r) co frame own cells = close_from co frame r own.registers cells
cells_after m co frame own cells = cells

abbrev pub cells_done : List Own → Prototype → ℕ → ℕ → List Value → Activation → List Cell → List Cell
cells_done [] p co frame env own cells = cells
cells_done (m ∷ ms) p co frame env own cells = cells_done ms p co frame env (effect m p env own) (cells_after m co frame own cells)

-- the top frame with another wait and some moves done
unfoldable pub with_own : World → Place → Wait Value → List Own → List Value → World
with_own W at wait ms env =
    put_top
    (record W { cells = cells_done ms at.function.code at.stack.coroutine at.number env at.top.own W.cells }) at.stack
    (lua (record at.top { wait = wait; own = done ms at.function.code env at.top.own }))

abbrev pub do_own : Own → List Value → World → Place → Option (Made Shape)
do_own m env W at =
    cond (fits m at.function.code at.top.own)
    (made (with_own W at at.top.wait (m ∷ []) env) (reads m at.function.code env at.top.own) (tells m at.function.code env at.top.own)) None

abbrev pub place_from : ℕ → ℤ → Option ℕ
place_from pc z = elim (pos pc +ℤ z) [ pos n ↦ Some n | negsuc _ ↦ None ]

abbrev pub moved_pc : World → Place → ℤ → Option (Made (Unit {0}))
moved_pc W p z = bind (place_from p.top.own.pc z) (λ pc. bind (at p.function.code pc) (λ _.
    made (put_top W p.stack (lua (record p.top { own = record p.top.own { pc = pc } }))) [] tt))

-- cells and functions

abbrev pub opened_cells : Option ℕ → ℕ → ℕ → ℕ → List Cell → List Cell
opened_cells (Some _) co frame r cells = cells
opened_cells None co frame r cells = cells ++ open_at co frame r ∷ []

abbrev pub captured : List UpDesc → ℕ → ℕ → List ℕ → List Cell → Option (List ℕ)
captured [] co frame outer cells = Some []
captured (u ∷ us) co frame outer cells = bind (cond u.in_stack (find_open co frame u.index cells) (slice_get outer u.index)) (λ c.
    bind (captured us co frame outer cells) (λ cs. Some (c ∷ cs)))

abbrev pub made_function : World → Place → Prototype → List ℕ → Option (Made Bool)
made_function W at q cells =
    made (record W { functions = W.functions ++ record { code = q; cells = cells } ∷ [] }) (object a_function (length W.functions) ∷ []) true

abbrev pub own_cell : World → Place → ℕ → Option (ℕ × Cell)
own_cell W at u = bind (slice_get at.function.cells u) (λ c. bind (slice_get W.cells c) (λ cell. Some (c, cell)))

abbrev pub do_outside : Quick → List Value → World → Place → Option (Made Bool)
do_outside (read_upvalue u) env W at = bind (own_cell W at u) (λ c. bind (read_cell W c.1) (λ v. made W (v ∷ []) true))
do_outside (write_upvalue u x) env W at = bind (own_cell W at u) (λ c. bind (read_cell W c.1) (λ _. made (write_cell W c.0 c.1 (arg env x)) [] true))
do_outside make_table env W at =
    made (record W { heap = add_table W.heap }) (object a_table (length W.heap.tables) ∷ []) true
do_outside (make_function n) env W at = bind (slice_get (list_of at.function.code.inner) n) (λ q.
    bind (captured q.own.upvalues at.stack.coroutine at.number at.function.cells W.cells) (λ cells. made_function W at q cells))
do_outside (fill_table t last slot) env W at = bind (filled_table W.heap (arg env t) last (drop slot env)) (λ H. made (record W { heap = H }) [] true)
do_outside pay env W at = elim W.fuel [ zero ↦ made W [] false | suc fuel ↦ made (record W { fuel = fuel }) [] true ]

-- calls

-- parameters beyond the arguments are nil; arguments beyond the parameters are kept by a function that takes them
abbrev pub new_frame : ℕ → Prototype → List Value → Frame
new_frame n p arguments = lua (record {
  function = n;
  wait = running;
  own = record {
    pc = 0;
    registers = fitted p.own.stack (take p.own.params arguments);
    varargs = cond p.own.vararg (drop p.own.params arguments) [];
    pending = [];
    opened = 0;
  };
})

abbrev pub push_all : World → List Frame → World
push_all W [] = W
push_all W (f ∷ fs) = elim (stack_of W) [ None ↦ W | Some s ↦ push_all (push W s f) fs ]

abbrev pub has_room : World → ℕ → Bool
has_room W count = elim (stack_of W) [ None ↦ false | Some s ↦ nat_le (length s.frames + count) greatest_depth ]

-- a function that can be entered is on top; the arguments of a primitive move
abbrev pub enters : World → Value → List Value → Option (Made CallShape)
enters W (known (primitive n)) arguments = made (record W { moving = arguments }) [] (is_primitive n)
enters W (object a_function n) arguments = bind (slice_get W.functions n) (λ f.
    cond (has_room W 1) (made (push_all W (new_frame n f.code arguments ∷ [])) [] is_entered) (made W [] (not_entered stack_overflow)))
enters W _ arguments = None

-- P is W made ready for the call
abbrev pub enters_paid : World → World → Callee → Option (Made CallShape)
enters_paid W P (not_callable text) = made P [] (not_entered text)
enters_paid W P (callee f arguments) = elim W.fuel [ zero ↦ made W [] not_paid | suc fuel ↦ enters (record P { fuel = fuel }) f arguments ]

abbrev pub called : World → World → Value → List Value → Option (Made CallShape)
called W P f arguments = enters_paid W P (callee_of greatest_chain W.heap f arguments)

-- a Lua frame is popped, and its cells are closed
unfoldable pub popped : World → Place → World
popped W at = pop (record W { cells = close_from at.stack.coroutine at.number 0 at.top.own.registers W.cells }) at.stack

-- where a tail call is not entered, the frame is still there
abbrev pub called_tail : World → Place → Callee → Option (Made CallShape)
called_tail W at (not_callable text) = made W [] (not_entered text)
called_tail W at (callee f arguments) = elim W.fuel [ zero ↦ made W [] not_paid | suc fuel ↦ enters (record (popped W at) { fuel = fuel }) f arguments ]

-- what is on top

abbrev pub runs_main : World → Bool
runs_main W = nat_eq (length W.chain) 1

abbrev pub top_shape : World → Option Frame → TopShape
top_shape W None = no_top (runs_main W)
top_shape W (Some (lua _)) = lua_top
top_shape W (Some pcall) = pcall_top
top_shape W (Some (xpcall _)) = xpcall_top
top_shape W (Some handler) = handler_top
top_shape W (Some (closing _ _)) = closing_top

abbrev pub handler_value : Option Frame → List Value
handler_value (Some (xpcall h)) = h ∷ []
handler_value _ = []

-- the nearest frame from the top that is no Lua frame
abbrev pub catcher : List Frame → Option Frame
catcher [] = None
catcher (lua _ ∷ frames) = catcher frames
catcher (f ∷ frames) = Some f

abbrev pub top_now : World → Option TopShape
top_now W = bind (stack_of W) (λ s. Some (top_shape W (last s.frames)))

-- the closing of a coroutine's variables, the last value first

abbrev pub next_closing : World → Stack → Frame → Option (Made ClosingShape)
next_closing W s (closing e []) = elim e [ None ↦ made W [] all_closed | Some v ↦ made W (v ∷ []) closed_with_error ]
next_closing W s (closing e (v ∷ left)) = elim (last (v ∷ left)) [
  | None ↦ None
  | Some x ↦ made (put_top W s (closing e (without_last (v ∷ left)))) (x ∷ error_or_nil e ∷ []) one_left
]
next_closing W s _ = None

abbrev pub with_error : World → Stack → Frame → Value → Option (Made (Unit {0}))
with_error W s (closing _ left) e = made (put_top W s (closing (Some e) left)) [] tt
with_error W s _ e = None

-- coroutines

abbrev pub pending_values : Frame → List Value
pending_values (lua f) = map (nth f.own.registers) f.own.pending
pending_values _ = []

abbrev pub all_closed_from : ℕ → ℕ → List Frame → List Cell → List Cell
all_closed_from co n [] cells = cells
all_closed_from co n (lua f ∷ frames) cells = all_closed_from co (suc n) frames (close_from co n 0 f.own.registers cells)
all_closed_from co n (_ ∷ frames) cells = all_closed_from co (suc n) frames cells

unfoldable pub put_coroutine : World → ℕ → Coroutine → World
put_coroutine W co c = record W { coroutines = slice_set W.coroutines co c }

abbrev pub awake : Option Coroutine → List Frame
awake (Some c) = elim (frames_of c) [ None ↦ [] | Some frames ↦ frames ]
awake None = []

-- the coroutine that resumed the running one goes on
unfoldable pub back_to_resumer : World → World
back_to_resumer W =
    let chain = without_last W.chain in
    elim (last chain) [ None ↦ record W { chain = chain } | Some co ↦ put_coroutine (record W { chain = chain }) co (in_progress (awake (slice_get W.coroutines co))) ]

-- a coroutine's frames are gone, and their cells are closed
unfoldable pub bury : World → (co : ℕ) → List Frame → Coroutine → World
bury W co frames c = put_coroutine (record W { cells = all_closed_from co 0 frames W.cells }) co c

abbrev pub ends_as : World → Coroutine → Option World
ends_as W c = bind (stack_of W) (λ s. Some (back_to_resumer (bury W s.coroutine s.frames c)))

-- the running coroutine waits to be resumed
unfoldable pub suspend_running : World → Stack → World
suspend_running W s = back_to_resumer (put_coroutine W s.coroutine (suspended s.frames))

-- it waits for one that it resumes
unfoldable pub wait_for_another : World → Stack → World
wait_for_another W s = put_coroutine W s.coroutine (normal s.frames)

-- another one runs, with these frames
unfoldable pub go_into : World → (co : ℕ) → List Frame → World
go_into W co frames = put_coroutine (record W { chain = W.chain ++ co ∷ [] }) co (in_progress frames)

abbrev pub starts_in : World → ℕ → Coroutine → List Value → Option (Made ResumeShape)
starts_in W co (fresh body) arguments =
    bind (enters (go_into W co []) body arguments) (λ d. made d.world [] (resumed d.told))
starts_in W co (suspended frames) arguments =
    made (record (go_into W co frames) { moving = arguments }) [] (resumed is_entered)
starts_in W co (in_progress _) arguments = made W [] (refused (codes "cannot resume non-suspended coroutine"))
starts_in W co (normal _) arguments = made W [] (refused (codes "cannot resume non-suspended coroutine"))
starts_in W co _ arguments = made W [] (refused (codes "cannot resume dead coroutine"))

abbrev pub can_start : Coroutine → Bool
can_start (fresh _) = true
can_start (suspended _) = true
can_start _ = false

abbrev pub resumes : World → Stack → ℕ → Coroutine → List Value → Option (Made ResumeShape)
resumes W s co c arguments =
    cond (can_start c && nat_lt greatest_resumes (length W.chain)) (made W [] (refused (codes "too many nested resumes")))
    (starts_in (cond (can_start c) (wait_for_another W s) W) co c arguments)

-- a closing frame on the running coroutine, where there is room; D is W with the closed coroutine dead
abbrev pub closes_in : (W D : World) → Stack → Option Value → List Value → Option (Made ResumeShape)
closes_in W D s e left = cond (has_room W 1) (made (push D s (closing e left)) [] (resumed is_entered)) (made W [] (resumed (not_entered stack_overflow)))

abbrev pub closes_coroutine : World → Stack → ℕ → Coroutine → Option (Made ResumeShape)
closes_coroutine W s co (fresh body) = closes_in W (put_coroutine W co dead) s None []
closes_coroutine W s co (suspended frames) =
    closes_in W (bury W co frames dead) s None (flat_map pending_values frames)
closes_coroutine W s co (failed e pending) = closes_in W (put_coroutine W co dead) s (Some e) pending
closes_coroutine W s co dead = closes_in W W s None []
closes_coroutine W s co (in_progress _) = made W [] (refused (codes "cannot close a running coroutine"))
closes_coroutine W s co (normal _) = made W [] (refused (codes "cannot close a normal coroutine"))

abbrev pub coroutine_number : Value → Option ℕ
coroutine_number (object a_coroutine n) = Some n
coroutine_number _ = None

-- a new coroutine comes last
unfoldable pub add_coroutine : World → (body : Value) → World
add_coroutine W body = record W { coroutines = W.coroutines ++ fresh body ∷ [] }

abbrev pub status_of : Coroutine → Status
status_of (fresh _) = is_suspended
status_of (suspended _) = is_suspended
status_of (in_progress _) = is_running
status_of (normal _) = is_normal
status_of dead = is_dead
status_of (failed _ _) = is_dead

-- printing

unfoldable pub add_printed : World → List ℕ → World
add_printed W bytes = record W { printed = W.printed ++ bytes }

-- of a value that is no string nothing is printed
abbrev pub bytes_in : Value → List ℕ
bytes_in (known (string bytes)) = bytes
bytes_in _ = []

-- loading

-- a function of this code, whose outer variables are one new cell
unfoldable pub add_loaded : World → Prototype → (environment : Value) → World
add_loaded W p environment =
    record W { functions = W.functions ++ record { code = p; cells = length W.cells ∷ [] } ∷ []; cells = W.cells ++ closed environment ∷ [] }

-- the globals, where no environment is given
abbrev pub environment_in : World → List Value → Option Arg → Value
environment_in W env None = object a_table W.globals
environment_in W env (Some x) = arg env x

-- library rows that look at values and tables alone

abbrev pub consulted : World → Done → Option (Made LookShape)
consulted W (came H vs) = made (record W { heap = H }) vs is_given
consulted W (was_refused text) = made W [] (is_refused text)
consulted W (was_raised H v) = made (record W { heap = H }) (v ∷ []) is_raised

-- what a move does; None is a trap

abbrev pub settled : World → Place → Settled → Option (Made SettledShape)
settled W at (found H vs) = made (record W { heap = H }) vs is_found
settled W at (ask h arguments) = made W (h ∷ arguments) is_asked
settled W at (fault text) = made W [] (is_fault text)
settled W at cannot_arise = None

abbrev pub move : (m : Move) → List Value → World → Option (Made (Told m))
move (on_own m) env W = bind (place_of W) (do_own m env W)
move (move_pc z) env W = bind (place_of W) (λ p. moved_pc W p z)
move (open_register r) env W = bind (place_of W) (λ p. cond (nat_lt r (length p.top.own.registers))
    (made (record W { cells = opened_cells (find_open p.stack.coroutine p.number r W.cells) p.stack.coroutine p.number r W.cells }) [] tt) None)
move (outside q) env W = bind (place_of W) (do_outside q env W)
move (settle op xs) env W = bind (place_of W) (λ p. settled W p (does op (args_of env xs) W.heap))
move (enter f slot wait prepared) env W = bind (place_of W) (λ p. called W (with_own W p (named env wait) prepared env) (arg env f) (drop slot env))
move (enter_tail f slot) env W = bind (place_of W) (λ p. called_tail W p (callee_of greatest_chain W.heap (arg env f) (drop slot env)))
move (await f slot wait prepared) env W = bind (place_of W) (λ p.
    made (record (with_own W p (named env wait) prepared env) { moving = arg env f ∷ drop slot env }) [] tt)
move (find_close v e) env W = made W (handler_in W.heap of_close (arg env v) ∷ arg env v ∷ arg env e ∷ []) tt
move (is_closable v) env W = made W [] (not (is_nil (handler_in W.heap of_close (arg env v))))
move (begin_leaving text) env W = bind (place_of W) (λ p.
    let e = blamed W text in made (record (with_own W p (leaving e) (close_cells 0 ∷ keep_pending ∷ []) []) { moving = e ∷ [] }) [] tt)
move (leave_frame given) env W = bind (place_of W) (λ p.
    let V = record (popped W p) { moving = given_values env given } in bind (top_now V) (λ top. made V [] top))
move take_moving env W = made (record W { moving = [] }) W.moving tt
move (look x) env W = made W [] (shape (arg env x))
move (give xs) env W = made (record W { moving = args_of env xs }) [] tt
move (give_with xs slot) env W = made (record W { moving = args_of env xs ++ drop slot env }) [] tt
move (blame text) env W = made (record W { moving = blamed W text ∷ [] }) [] tt
move (place_text x level) env W = made W (placed W level (arg env x) ∷ []) tt
move (push_frame over) env W = cond (has_room W 1) (made (push_all W (frame_over over env ∷ [])) [] true) (made W [] false)
move (call_value f slot) env W = called W W (arg env f) (drop slot env)
move see_top env W = bind (top_now W) (λ top. made W [] top)
move see_catcher env W = bind (stack_of W) (λ s. let c = catcher (reverse s.frames) in made W (handler_value c) (top_shape W c))
move pop_frame env W = bind (stack_of W) (λ s. made (pop W s) [] tt)
move take_closing env W = bind (stack_of W) (λ s. bind (last s.frames) (next_closing W s))
move (set_error x) env W = bind (stack_of W) (λ s. bind (last s.frames) (λ f. with_error W s f (arg env x)))
move end_coroutine env W = bind (ends_as W dead) (λ V. made V [] (runs_main W))
move (fail_coroutine x) env W = bind (stack_of W) (λ s. bind (ends_as W (failed (arg env x) (flat_map pending_values s.frames))) (λ V. made V [] tt))
move suspend env W = bind (stack_of W) (λ s. made (suspend_running W s) [] (runs_main W))
move (resume x slot) env W = bind (stack_of W) (λ s. bind (coroutine_number (arg env x)) (λ co. bind (slice_get W.coroutines co) (λ c. resumes W s co c (drop slot env))))
move (begin_closing x) env W = bind (stack_of W) (λ s. bind (coroutine_number (arg env x)) (λ co. bind (slice_get W.coroutines co) (closes_coroutine W s co)))
move (consult l slot) env W = consulted W (looked l (drop slot env) W.heap)
move (create x) env W = cond (is_function (arg env x)) (made (add_coroutine W (arg env x)) (object a_coroutine (length W.coroutines) ∷ []) tt) None
move (see_status x) env W = bind (coroutine_number (arg env x)) (λ co. bind (slice_get W.coroutines co) (λ c. made W [] (status_of c)))
move see_running env W = bind (last W.chain) (λ co. made W (object a_coroutine co ∷ []) tt)
move (print x) env W = made (add_printed W (bytes_in (arg env x))) [] tt
move (make_loaded p x) env W = made (add_loaded W p (environment_in W env x)) (object a_function (length W.functions) ∷ []) tt

pub data Outcome : Type 0 where
  trapped : Outcome
  ends : Ending → World → Outcome

-- what a row does from a world, where these values have been read
abbrev pub run : Row → List Value → World → Outcome
run traps env W = trapped
run (stop e) env W = ends e W
run (only slot r) env W = run r (drop slot env) W
run (act m k) env W = elim (move m env W) [ None ↦ trapped | Some d ↦ run (k (length env) d.told) (env ++ d.values) d.world ]

-- The worlds that code runs in, as plain lists: functions, cells, frames and coroutines by number, beside the tables of the heap
-- (Lua 5.4 manual, 2.6, 3.3.8 and 3.5; lstate.h).
use Rattle.std.specs.Prelude.{◌≡◌, ℕ, suc, ◌-◌, ℤ, Bool, false, cond, ◌&&◌, not, List, [], ◌∷◌, ◌++◌, length, Option, Some, None, nat_eq, nat_lt, slice_get, slice_set}
use Rattle.int_core.specs.Heap.{Heap}
use Rattle.int_core.specs.Value.{Value, bind, last, without_last, nth, write}
use Rattle.code_core.specs.Prototype.{Prototype}

-- objects

pub record Function : Type 0 where
  pub code : Prototype
  pub cells : List ℕ

-- a variable that a function shares: its value, or the register where it still stands
pub data Cell : Type 0 where
  closed : Value → Cell
  open_at : (coroutine frame register : ℕ) → Cell

-- for what a Lua frame waits; a row names the error of `leaving` as one of the values that it has read, a frame has it
pub data Wait (V : Type 0) : Type 0 where
  running : Wait V
  for_call : Wait V
  for_iterator : Wait V
  for_value : Wait V
  for_truth : Wait V
  dropped : Wait V
  for_concat : (left : ℕ) → Wait V
  for_close : Wait V
  returning : (count : ℕ) → Wait V
  leaving : V → Wait V

-- what one activation of a Lua function has for itself; `opened` is how many values the open list in front of pc has.
-- Pending registers stand in the order in which they were marked
pub record Activation : Type 0 where
  pub pc : ℕ
  pub registers : List Value
  pub varargs : List Value
  pub pending : List ℕ
  pub opened : ℕ

pub record LuaFrame : Type 0 where
  pub function : ℕ
  pub wait : Wait Value
  pub own : Activation

pub data Frame : Type 0 where
  lua : LuaFrame → Frame
  pcall : Frame
  xpcall : (message_handler : Value) → Frame
  handler : Frame
  closing : (error : Option Value) → (left : List Value) → Frame

-- frames are listed from the bottom, and numbered so
pub data Coroutine : Type 0 where
  fresh : (body : Value) → Coroutine
  suspended : List Frame → Coroutine
  in_progress : List Frame → Coroutine
  normal : List Frame → Coroutine
  dead : Coroutine
  failed : (error : Value) → (pending : List Value) → Coroutine

-- `chain` lists the coroutines that resumed each other, from the main one to the running one; `moving` the values on their way;
-- `fuel` is what is left of the turn's budget
pub record World : Type 0 where
  pub heap : Heap
  pub functions : List Function
  pub cells : List Cell
  pub coroutines : List Coroutine
  pub globals : ℕ
  pub prelude_environment : ℕ
  pub prelude_functions : List ℕ
  pub special_key : List ℕ
  pub max_depth : ℤ
  pub main : Option ℕ
  pub chain : List ℕ
  pub moving : List Value
  pub printed : List ℕ
  pub fuel : ℕ

-- what stands where

abbrev pub frames_of : Coroutine → Option (List Frame)
frames_of (suspended frames) = Some frames
frames_of (in_progress frames) = Some frames
frames_of (normal frames) = Some frames
frames_of _ = None

abbrev pub running_frames : Coroutine → Option (List Frame)
running_frames (in_progress frames) = Some frames
running_frames _ = None

abbrev pub with_frames : Coroutine → List Frame → Coroutine
with_frames (suspended _) frames = suspended frames
with_frames (in_progress _) frames = in_progress frames
with_frames (normal _) frames = normal frames
with_frames c frames = c

-- the running coroutine and its frames
pub record Stack : Type 0 where
  pub coroutine : ℕ
  pub frames : List Frame

abbrev pub stack_of : World → Option Stack
stack_of W = bind (last W.chain) (λ co. bind (bind (slice_get W.coroutines co) running_frames) (λ frames. Some (record { coroutine = co; frames = frames })))

abbrev pub lua_frame : Frame → Option LuaFrame
lua_frame (lua f) = Some f
lua_frame _ = None

-- the place of the machine: the running coroutine, its frames, the Lua frame on top and that frame's function
pub record Place : Type 0 where
  pub stack : Stack
  pub number : ℕ
  pub top : LuaFrame
  pub function : Function

abbrev pub place_of : World → Option Place
place_of W = bind (stack_of W) (λ s. bind (bind (last s.frames) lua_frame) (λ top. bind (slice_get W.functions top.function) (λ f.
    Some (record { stack = s; number = length s.frames - 1; top = top; function = f }))))

unfoldable pub put_frames : World → ℕ → List Frame → World
put_frames W co frames = record W { coroutines = slice_set W.coroutines co (in_progress frames) }

unfoldable pub put_top : World → Stack → Frame → World
put_top W s top = put_frames W s.coroutine (without_last s.frames ++ top ∷ [])

unfoldable pub push : World → Stack → Frame → World
push W s top = put_frames W s.coroutine (s.frames ++ top ∷ [])

unfoldable pub pop : World → Stack → World
pop W s = put_frames W s.coroutine (without_last s.frames)

-- cells

abbrev pub register_at : List Coroutine → ℕ → ℕ → ℕ → Option Value
register_at coroutines co frame register =
    bind (bind (slice_get coroutines co) frames_of) (λ frames. bind (bind (slice_get frames frame) lua_frame) (λ f. slice_get f.own.registers register))

abbrev pub read_cell : World → Cell → Option Value
read_cell W (closed v) = Some v
read_cell W (open_at co frame register) = register_at W.coroutines co frame register

abbrev pub write_in_frame : ℕ → Value → Frame → Frame
write_in_frame register v (lua f) = lua (record f { own = record f.own { registers = write register v f.own.registers } })
write_in_frame register v frame = frame

abbrev pub write_in_coroutine : ℕ → ℕ → Value → Coroutine → Coroutine
write_in_coroutine frame register v c =
    elim (bind (frames_of c) (λ frames. bind (slice_get frames frame) (λ f. Some (slice_set frames frame (write_in_frame register v f))))) [
      | None ↦ c
      | Some frames ↦ with_frames c frames
    ]

unfoldable pub write_cell : World → ℕ → Cell → Value → World
write_cell W n (closed _) v = record W { cells = slice_set W.cells n (closed v) }
write_cell W n (open_at co frame register) v = elim (slice_get W.coroutines co) [
  | None ↦ W
  | Some c ↦ record W { coroutines = slice_set W.coroutines co (write_in_coroutine frame register v c) }
]

-- no register has two cells
abbrev pub OneEach : List Cell → Type 0
OneEach cells = (i j co frame register : ℕ) → slice_get cells i ≡ Some (open_at co frame register) → slice_get cells j ≡ Some (open_at co frame register) → i ≡ j

abbrev pub is_open_at : ℕ → ℕ → ℕ → Cell → Bool
is_open_at co frame register (closed _) = false
is_open_at co frame register (open_at c f r) = nat_eq co c && (nat_eq frame f && nat_eq register r)

abbrev pub find_open_from : ℕ → ℕ → ℕ → ℕ → List Cell → Option ℕ
find_open_from n co frame register [] = None
find_open_from n co frame register (c ∷ cells) = cond (is_open_at co frame register c) (Some n) (find_open_from (suc n) co frame register cells)

-- the cell of a register, where it has one
abbrev pub find_open : ℕ → ℕ → ℕ → List Cell → Option ℕ
find_open co frame register cells = find_open_from 0 co frame register cells

-- a cell that is open in a frame at a register or above keeps the value from there
abbrev pub close_from : ℕ → ℕ → ℕ → List Value → List Cell → List Cell
close_from co frame register registers [] = []
close_from co frame register registers (closed v ∷ cells) = closed v ∷ close_from co frame register registers cells
close_from co frame register registers (open_at c f r ∷ cells) =
    cond (nat_eq co c && (nat_eq frame f && not (nat_lt r register))) (closed (nth registers r)) (open_at c f r) ∷ close_from co frame register registers cells

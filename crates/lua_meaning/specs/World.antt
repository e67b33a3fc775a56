-- The worlds in which activations talk: functions, cells, coroutines, and the chain of coroutines that resumed each other (Lua 5.4 manual,
-- 2.1, 2.6 and 3.5). What a function is made of, F, and what the state of an activation is, S, is left open.
use Rattle.std.specs.Prelude.{ℕ, zero, suc, ◌+◌, Bool, true, false, List, [], ◌∷◌, ◌++◌, length, map, Option, Some, None, nat_le, slice_get, slice_set, codes}
use Rattle.int_core.specs.Value.{Value, nth, bind}
use Rattle.int_core.specs.Limits.{greatest_depth, limited, position}
use Rattle.int_core.specs.Heap.{Heap}
use Rattle.int_core.specs.Ask.{Ask, marks, goes_on, says, stuck, Reply, Answer, Next}

-- how activations begin and go on, and what they still have to close where they are left: the values, the last one first
pub record System (F S : Type 0) : Type 0 where
  pub starts : F → (arguments : List Value) → S
  pub steps : F → S → Next F S
  pub pending : F → S → List Value

-- a function: what it is made of, the name of its source, whether its lines are known, and the cells of the outer variables that it names
pub record Function (F : Type 0) : Type 0 where
  pub made_of : F
  pub source : List ℕ
  pub has_lines : Bool
  pub cells : List ℕ

-- an activation that waits for an answer: the line of its ask; the cells that it shares, with their values at the ask; and how it goes on
pub record Asker (S : Type 0) : Type 0 where
  pub function : ℕ
  pub line : Option ℕ
  pub shared : List (ℕ × Value)
  pub goes : Answer → S

-- frames: an activation that talks or waits; one whose own step was at fault, which waits to be left; a call by `pcall`; one by `xpcall` with its message handler; a message handler's call; and
-- the closing of a coroutine's variables by `coroutine.close`, with the error so far and the values that are left
pub data Frame (S : Type 0) : Type 0 where
  talking : (function : ℕ) → S → Frame S
  waiting : Asker S → Frame S
  raising : Asker S → Frame S
  protected : Frame S
  handled_by : Value → Frame S
  handling : Frame S
  closing : (error : Option Value) → (values_left : List Value) → Frame S

-- the frames of a coroutine that is not running stand from the top. One that failed keeps the values that it still had to close
pub data Coroutine (S : Type 0) : Type 0 where
  fresh : (body : Value) → Coroutine S
  suspended : List (Frame S) → Coroutine S
  running : Coroutine S
  normal : List (Frame S) → Coroutine S
  dead : Coroutine S
  failed : (error : Value) → (pending : List Value) → Coroutine S

-- how a turn ends
pub data Ending : Type 0 where
  yielded : List Value → Ending
  returned : List Value → Ending
  failed_with : Value → Ending
  spent : Ending
  -- where a tree is not placed, or code breaks a rule
  broken : Ending

-- what is going on: the activation on top does its next step; results reach the frame on top; an error was raised, and no frame is left yet;
-- an error leaves frames; a primitive is called; or the turn has ended
pub data Now : Type 0 where
  talks : Now
  gives_back : List Value → Now
  raises_error : Value → Now
  unwinds : Value → Now
  calls_primitive : ℕ → List Value → Now
  ends : Ending → Now

-- `chain` are the coroutines that resumed each other, the running one first and the main one last; `frames` those of the running one from the
-- top; `fuel` is what is left of the turn's budget
pub record World (F S : Type 0) : Type 0 where
  pub heap : Heap
  pub functions : List (Function F)
  pub cells : List Value
  pub coroutines : List (Coroutine S)
  pub globals : ℕ
  pub printed : List ℕ
  pub fuel : ℕ
  pub chain : List ℕ
  pub frames : List (Frame S)
  pub now : Now

abbrev pub now_in : {F S : Type 0} → World F S → Now → World F S
now_in W now = record W { now = now }

abbrev pub breaks : {F S : Type 0} → World F S → World F S
breaks W = now_in W (ends broken)

-- frames

abbrev pub has_room : {F S : Type 0} → World F S → Bool
has_room W = nat_le (length W.frames + 1) greatest_depth

abbrev pub on_frames : {F S : Type 0} → World F S → List (Frame S) → World F S
on_frames W frames = record W { frames = frames }

-- whether the main coroutine runs
abbrev pub runs_main : {F S : Type 0} → World F S → Bool
runs_main W = elim W.chain [ [] ↦ true | co ∷ chain ↦ elim chain [ [] ↦ true | _ ∷ _ ↦ false ] ]

-- cells

abbrev pub second : ℕ × Value → Value
second s = s.1

-- the cells that an activation shares get the values that it has; of a cell that is named twice the first value counts, which is the newest
abbrev pub shared_in : List (ℕ × Value) → List Value → List Value
shared_in [] cells = cells
shared_in (s ∷ shared) cells = slice_set (shared_in shared cells) s.0 s.1

abbrev pub shared_out : List (ℕ × Value) → List Value → List Value
shared_out [] cells = []
shared_out (s ∷ shared) cells = nth cells s.0 ∷ shared_out shared cells

-- the cell of a function's outer variable
abbrev pub cell_of : {F S : Type 0} → World F S → (function : ℕ) → (number : ℕ) → Option ℕ
cell_of W f u = bind (slice_get W.functions f) (λ g. slice_get g.cells u)

-- positions in error texts

-- the position of a frame, where it is of a function whose lines are known
abbrev pub position_of : {F S : Type 0} → World F S → Frame S → Option (List ℕ)
position_of W (waiting asker) = bind (slice_get W.functions asker.function) (λ f. bind asker.line (λ line. Some (position f.source line)))
position_of W (raising asker) = bind (slice_get W.functions asker.function) (λ f. bind asker.line (λ line. Some (position f.source line)))
position_of W _ = None

-- the position of the nth of these frames from the top, counted from 0, or no text
abbrev pub where_among : {F S : Type 0} → World F S → ℕ → List (Option (List ℕ)) → List ℕ
where_among W n [] = []
where_among W n (None ∷ positions) = where_among W n positions
where_among W zero (Some text ∷ positions) = text
where_among W (suc n) (Some text ∷ positions) = where_among W n positions

abbrev pub positions_of : {F S : Type 0} → World F S → List (Frame S) → List (Option (List ℕ))
positions_of W [] = []
positions_of W (f ∷ frames) = position_of W f ∷ positions_of W frames

abbrev pub where_at : {F S : Type 0} → World F S → ℕ → List ℕ
where_at W n = where_among W n (positions_of W W.frames)

-- a text raised as an error begins with the position of the nearest such frame
abbrev pub blamed : {F S : Type 0} → World F S → List ℕ → Value
blamed W text = limited (where_at W 0 ++ text)

abbrev pub raises_text : {F S : Type 0} → World F S → List ℕ → World F S
raises_text W text = now_in W (raises_error (blamed W text))

-- answers

abbrev pub given_to : {F S : Type 0} → World F S → Asker S → Answer → (below : List (Frame S)) → World F S
given_to W asker x below = record W { frames = talking asker.function (asker.goes x) ∷ below; now = talks }

-- with the present values of the cells that the asker shares
abbrev pub answered : {F S : Type 0} → World F S → Asker S → Reply → (below : List (Frame S)) → World F S
answered W asker reply below = given_to W asker (record { reply = reply; shared = shared_out asker.shared W.cells; cell = 0 }) below

-- no other activation has run, so these cells have the values that the ask carried
abbrev pub answered_at_once : {F S : Type 0} → World F S → Asker S → (cell : ℕ) → Reply → (below : List (Frame S)) → World F S
answered_at_once W asker cell reply below = given_to W asker (record { reply = reply; shared = map second asker.shared; cell = cell }) below

-- lines

-- of a function whose lines are not known, an ask has no line and names no variable

abbrev pub without_name : {F : Type 0} → Ask F → Ask F
without_name (marks v name) = marks v (codes "?")
without_name q = q

abbrev pub as_known : {F S : Type 0} → (has_lines : Bool) → Next F S → Next F S
as_known true next = next
as_known false (goes_on s) = goes_on s
as_known false (says q line shared k) = says (without_name q) None shared k
as_known false stuck = stuck

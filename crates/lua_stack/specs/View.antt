-- How a stack is kept: the registers of all frames stand in one list, each frame has a record that says where its own begin, and the frame on
-- top is held apart. A frame that waits for a call keeps the registers in front of the called function; the others are nil, and the callee's
-- registers begin at its arguments. The arguments beyond the parameters stand in front of a frame's registers.
use Rattle.std.specs.Prelude.{◌≡◌, ℕ, zero, suc, ◌+◌, ◌-◌, ◌<◌, ◌≤◌, Bool, true, false, cond, ◌&&◌, ◌||◌, nat_eq, nat_lt, List, [], ◌∷◌, ◌++◌, length, map, take, drop, slice_get, slice_set, Option, Some, None}
use Rattle.machine_core.specs.Text.{last_pending}
use Rattle.table_core.specs.declared.value.Value.{Value as Kept}
use Rattle.table_core.specs.declared.value.Value.TheVariants.{Nil}
use Rattle.table_core.specs.declared.value.FuncId.{FuncId}
use Rattle.lua_stack.specs.declared.frame.Wait.{Wait}
use Rattle.lua_stack.specs.declared.frame.Wait.TheVariants.{Running as Begins}
use Rattle.lua_stack.specs.declared.frame.Window.{Window}
use Rattle.lua_stack.specs.declared.frame.Running.{Running}
use Rattle.lua_stack.specs.declared.frame.Layout.{Layout}
use Rattle.lua_stack.specs.declared.frame.LuaState.{LuaState}
use Rattle.lua_stack.specs.declared.frame.Shape.{Shape}
use Rattle.lua_stack.specs.declared.frame.Record.{Record}
use Rattle.lua_stack.specs.declared.frame.Kind.{Kind}
use Rattle.lua_stack.specs.declared.frame.Kind.TheVariants.{Missing, Lua, Pcall, Xpcall, Handler, Closing}
use Rattle.lua_stack.specs.declared.frame.OpenCell.{OpenCell}
use Rattle.lua_stack.specs.declared.frame.Top.{Top}
use Rattle.lua_stack.specs.declared.frame.Top.TheVariants.{Missing as TopMissing, Lua as TopLua, Pcall as TopPcall, Xpcall as TopXpcall, Handler as TopHandler, Closing as TopClosing}
use Rattle.lua_stack.specs.Frames.{KeptLua, KeptFrame, kept_lua, kept_pcall, kept_xpcall, kept_handler, kept_closing, KeptStack, AllAbove}

abbrev pub part : {A : Type 0} → (base count : ℕ) → List A → List A
part base count xs = take count (drop base xs)

abbrev pub blank : ℕ → List Kept
blank zero = []
blank (suc n) = Nil ∷ blank n

-- so many values, with nil behind those that are there
abbrev pub padded : ℕ → List Kept → List Kept
padded count xs = xs ++ blank (count - length xs)

-- values written one after another from a place on
abbrev pub put_all : ℕ → List Kept → List Kept → List Kept
put_all at [] xs = xs
put_all at (v ∷ vs) xs = put_all (suc at) vs (slice_set xs at v)

abbrev pub registers_at : List Kept → Window → List Kept
registers_at values w = part w.base w.kept values ++ blank (w.size - w.kept)

abbrev pub lua_at : List Kept → List ℕ → Running → Window → KeptLua
lua_at values pending r w = record {
  function = r.function;
  wait = r.wait;
  pc = r.pc;
  registers = registers_at values w;
  varargs = part w.start (w.base - w.start) values;
  pending = part w.marks w.marked pending;
  opened = r.opened;
}

abbrev pub frame_in : List Kept → List ℕ → Kind → Running → Window → KeptFrame
frame_in values pending Lua r w = kept_lua (lua_at values pending r w)
frame_in values pending (Xpcall h) r w = kept_xpcall h
frame_in values pending Handler r w = kept_handler
frame_in values pending (Closing error) r w = kept_closing error (part w.base w.kept values)
frame_in values pending Pcall r w = kept_pcall
frame_in values pending Missing r w = kept_pcall

abbrev pub frame_at : List Kept → List ℕ → Record → KeptFrame
frame_at values pending r = frame_in values pending r.kind r.running r.window

abbrev pub tops_of : Kind → Record → List Record
tops_of Missing r = []
tops_of _ r = r ∷ []

abbrev pub tops : Record → List Record
tops r = tops_of r.kind r

abbrev pub seen : List Kept → List ℕ → List Record → Record → List OpenCell → KeptStack
seen values pending below top cells = record {
  frames = map (frame_at values pending) (below ++ tops top);
  open_cells = cells;
}

-- a frame's values and marks stand below those of another
pub record IsUnder (w r : Window) : Type 0 where
  pub extra : r.start ≤ r.base
  pub values : r.base + r.kept ≤ w.start
  pub marks : r.marks + r.marked ≤ w.marks

abbrev pub AllUnder : Window → List Record → Type 0
AllUnder w [] = Unit {0}
AllUnder w (r ∷ rs) = IsUnder w r.window × AllUnder w rs

-- a window lies within the values and marks
pub record IsWithin (values marks : ℕ) (w : Window) : Type 0 where
  pub extra : w.start ≤ w.base
  pub kept : w.kept ≤ w.size
  pub end : w.base + w.size ≤ values
  pub marks_end : w.marks + w.marked ≤ marks

-- whether there is a frame; of its values it has all, unless it is one that waits for a call
abbrev pub IsFrame : Kind → Window → Type 0
IsFrame Missing w = ⊥
IsFrame (Closing error) w = w.kept ≡ w.size
IsFrame _ w = Unit {0}

abbrev pub AllOver : Window → List Record → Type 0
AllOver w [] = Unit {0}
AllOver w (r ∷ rs) = IsUnder r.window w × AllOver w rs

-- each lies within the values and marks, and over those below
abbrev pub AreStacked : (values marks : ℕ) → List Record → Type 0
AreStacked values marks [] = Unit {0}
AreStacked values marks (r ∷ rs) = IsFrame r.kind r.window × IsWithin values marks r.window × AllOver r.window rs × AreStacked values marks rs

abbrev pub NoneUnder : Kind → List Record → Type 0
NoneUnder Missing rs = rs ≡ []
NoneUnder _ rs = Unit {0}

-- the frame on top has all its registers, and where there is none there is none below
pub record IsStack (values : List Kept) (pending : List ℕ) (below : List Record) (top : Record) : Type 0 where
  pub stacked : AreStacked (length values) (length pending) below
  pub under : AllUnder top.window below
  pub within : IsWithin (length values) (length pending) top.window
  pub whole : top.window.kept ≡ top.window.size
  pub none : NoneUnder top.kind below

-- the window of a frame by its number
abbrev pub window_at : List Record → Window → ℕ → Window
window_at [] w n = w
window_at (r ∷ rs) w zero = r.window
window_at (r ∷ rs) w (suc n) = window_at rs w n

-- how many registers of a frame are its own
abbrev pub reach_of : Kind → Window → ℕ
reach_of Lua w = w.kept
reach_of _ w = 0

abbrev pub reach_at : List Record → Kind → Window → ℕ → ℕ
reach_at [] k w zero = reach_of k w
reach_at [] k w (suc n) = 0
reach_at (r ∷ rs) k w zero = reach_of r.kind r.window
reach_at (r ∷ rs) k w (suc n) = reach_at rs k w n

-- each cell names a register that is its frame's own
abbrev pub AllWithin : List Record → Kind → Window → List OpenCell → Type 0
AllWithin below k w [] = Unit {0}
AllWithin below k w (c ∷ cs) = (c.register < reach_at below k w c.frame) × AllWithin below k w cs

abbrev pub AreInOrder : List OpenCell → Type 0
AreInOrder [] = Unit {0}
AreInOrder (c ∷ cs) = AllAbove c.frame c.register cs × AreInOrder cs

-- the first cell, if there is one, does not stand in front of a register of a frame
pub record IsFirst (frame register : ℕ) (c : OpenCell) : Type 0 where
  pub frame_at_least : frame ≤ c.frame
  pub register_at_least : c.frame ≤ frame → register ≤ c.register

abbrev pub FirstFrom : (frame register : ℕ) → List OpenCell → Type 0
FirstFrom frame register [] = Unit {0}
FirstFrom frame register (c ∷ cs) = IsFirst frame register c

-- the last cell, which does not stand in front of a register of a frame, is gone
pub record IsTaken (frame register : ℕ) (old new : List OpenCell) (c : OpenCell) : Type 0 where
  pub cells : old ≡ new ++ c ∷ []
  pub first : IsFirst frame register c

-- tests of a cell's place
abbrev pub is_at : (frame register : ℕ) → OpenCell → Bool
is_at frame register c = nat_eq c.frame frame && nat_eq c.register register

abbrev pub stands_below : (frame register : ℕ) → OpenCell → Bool
stands_below frame register c = nat_lt c.frame frame || (nat_eq c.frame frame && nat_lt c.register register)

pub record AreOpen (below : List Record) (k : Kind) (w : Window) (cells : List OpenCell) : Type 0 where
  pub there : AllWithin below k w cells
  pub in_order : AreInOrder cells

abbrev pub top_in : Kind → Top
top_in Missing = TopMissing
top_in Lua = TopLua
top_in Pcall = TopPcall
top_in (Xpcall h) = TopXpcall h
top_in Handler = TopHandler
top_in (Closing error) = TopClosing

-- a frame behind another, which has no values yet
abbrev pub record_behind : Record → Kind → Record
record_behind r kind = record {
  kind = kind;
  running = r.running;
  window = record {
    start = r.window.base + r.window.size;
    base = r.window.base + r.window.size;
    kept = 0;
    size = 0;
    marks = r.window.marks + r.window.marked;
    marked = 0;
  };
}

abbrev pub is_missing : Kind → Bool
is_missing Missing = true
is_missing _ = false

-- a frame without values of its own
abbrev pub is_plain : Kind → Bool
is_plain Pcall = true
is_plain (Xpcall h) = true
is_plain Handler = true
is_plain _ = false

abbrev pub plain_frame : Kind → KeptFrame
plain_frame (Xpcall h) = kept_xpcall h
plain_frame Handler = kept_handler
plain_frame _ = kept_pcall

-- what is told of a Lua frame
abbrev pub state_by : Kind → Running → Window → Option LuaState
state_by Lua r w = Some (record { function = r.function; wait = r.wait; pc = r.pc; size = w.size })
state_by _ r w = None

abbrev pub state_in : Option Record → Option LuaState
state_in None = None
state_in (Some r) = state_by r.kind r.running r.window

-- with all its registers
abbrev pub whole_record : Record → Record
whole_record r = record r { window = record r.window { kept = r.window.size } }

-- a function's frame over the arguments that stand at a place: those beyond the parameters stay in front of its registers, where it takes them
pub record IsLaidOut (place given : ℕ) (shape : Shape) (old new : List Kept) (l : Layout) : Type 0 where
  pub front : take place new ≡ take place old
  pub length_stays : length new ≡ length old
  pub start_at_least : place ≤ l.start
  pub base_at_least : l.start ≤ l.base
  pub end : l.base + shape.stack ≤ length new
  pub registers : part l.base shape.stack new ≡ padded shape.stack (take shape.params (part place given old))
  pub extras : part l.start (l.base - l.start) new ≡ cond shape.vararg (drop shape.params (part place given old)) []

-- a Lua frame that begins, and one that waits and keeps some of its registers
abbrev pub begun_at : FuncId → Layout → (stack marks : ℕ) → Record
begun_at function l stack marks = record {
  kind = Lua;
  running = record { function = function; wait = Begins; pc = 0; opened = 0 };
  window = record { start = l.start; base = l.base; kept = stack; size = stack; marks = marks; marked = 0 };
}

abbrev pub waiting_at : Record → Wait → (kept size marked : ℕ) → Record
waiting_at r wait kept size marked = record {
  kind = Lua;
  running = record r.running { wait = wait; opened = 0 };
  window = record r.window { kept = kept; size = size; marked = marked };
}

-- a place among pending registers has the last one that is at least so large
pub record IsLastFrom (register : ℕ) (marks : List ℕ) (at : ℕ) : Type 0 where
  pub mark : ℕ
  pub is : slice_get marks at ≡ Some mark
  pub at_least : register ≤ mark
  pub later : last_pending register (drop (suc at) marks) ≡ None

-- a frame with so many values
abbrev pub with_values : Record → ℕ → Record
with_values r count = record r { window = record r.window { kept = count; size = count } }

-- values that are set to nil, but those whose places stay
abbrev pub wiped_but : (ℕ → Bool) → ℕ → List Kept → List Kept
wiped_but stays i [] = []
wiped_but stays i (v ∷ vs) = cond (stays i) v Nil ∷ wiped_but stays (suc i) vs

abbrev pub error_in : Kind → Option Kept
error_in (Closing error) = error
error_in _ = None

abbrev pub is_lua : Kind → Bool
is_lua Lua = true
is_lua _ = false

-- the first frame that is no Lua frame
abbrev pub catcher_of : List Record → Top
catcher_of [] = TopMissing
catcher_of (r ∷ rs) = cond (is_lua r.kind) (catcher_of rs) (top_in r.kind)

-- a register of a frame, and nil where there is none
abbrev pub kept_at : List Kept → ℕ → Kept
kept_at registers n = elim (slice_get registers n) [ None ↦ Nil | Some v ↦ v ]

-- the values of a frame's pending registers
abbrev pub marked_by : List Kept → List ℕ → Kind → Window → List Kept
marked_by values pending Lua w = map (kept_at (registers_at values w)) (part w.marks w.marked pending)
marked_by values pending _ w = []

abbrev pub marked_values : List Kept → List ℕ → Record → List Kept
marked_values values pending r = marked_by values pending r.kind r.window

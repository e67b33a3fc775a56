-- When two worlds are the same up to the numbers of their objects: tables, functions, coroutines and cells.
use Rattle.std.specs.Prelude.{◌≡◌, ℕ, ℤ, List, [], ◌∷◌, Option, Some, None, slice_get}
use Rattle.std.specs.List.{AllZip}
use Rattle.int_core.specs.Value.{Plain, Kind, a_table, a_function, a_coroutine, Value, known, object}
use Rattle.int_core.specs.Heap.{Table}
use Rattle.machine_core.specs.World.{Function, Cell, closed, open_at, Wait, running, for_call, for_iterator, for_value, for_truth, dropped, for_concat, for_close, returning, leaving, Activation, LuaFrame, Frame, lua, pcall, xpcall, handler, closing, Coroutine, fresh, suspended, in_progress, normal, dead, failed, World, register_at, OneEach}

-- which object of the second world stands for which of the first, kind for kind
pub record Pairs : Type 0 where
  pub objects : Kind → ℕ → Option ℕ
  pub cells : ℕ → Option ℕ

abbrev pub SameNumber : Pairs → Kind → ℕ → ℕ → Type 0
SameNumber p kind i j = p.objects kind i ≡ Some j

abbrev pub SameCellNumber : Pairs → ℕ → ℕ → Type 0
SameCellNumber p i j = p.cells i ≡ Some j

pub record OneToOne (p : Pairs) : Type 0 where
  pub objects : (kind : Kind) (i k j : ℕ) → SameNumber p kind i j → SameNumber p kind k j → i ≡ k
  pub cells : (i k j : ℕ) → SameCellNumber p i j → SameCellNumber p k j → i ≡ k

-- both are there, and are the same
abbrev pub Both : {A B : Type 0} → (A → B → Type 0) → Option A → Option B → Type 0
Both R None y = ⊥
Both R (Some a) None = ⊥
Both R (Some a) (Some b) = R a b

-- neither is there, or both are, and are the same
abbrev pub Each : {A B : Type 0} → (A → B → Type 0) → Option A → Option B → Type 0
Each R None None = Unit {0}
Each R None (Some b) = ⊥
Each R (Some a) None = ⊥
Each R (Some a) (Some b) = R a b

pub data SameValue (p : Pairs) : Value → Value → Type 0 where
  same_known : (plain : Plain) → SameValue p (known plain) (known plain)
  same_object : (kind : Kind) (i j : ℕ) → SameNumber p kind i j → SameValue p (object kind i) (object kind j)

abbrev pub SameValues : Pairs → List Value → List Value → Type 0
SameValues p = AllZip (SameValue p)

abbrev pub SameRow : Pairs → Value × Value → Value × Value → Type 0
SameRow p a b = SameValue p a.0 b.0 × SameValue p a.1 b.1

-- the same rows in the same order, cleared ones included
pub record SameTable (p : Pairs) (t u : Table) : Type 0 where
  pub rows : AllZip (SameRow p) t.rows u.rows
  pub metatable : Each (SameNumber p a_table) t.metatable u.metatable

pub record SameFunction (p : Pairs) (f g : Function) : Type 0 where
  pub code : f.code ≡ g.code
  pub cells : AllZip (SameCellNumber p) f.cells g.cells

pub data SameWait (p : Pairs) : Wait Value → Wait Value → Type 0 where
  same_running : SameWait p running running
  same_for_call : SameWait p for_call for_call
  same_for_iterator : SameWait p for_iterator for_iterator
  same_for_value : SameWait p for_value for_value
  same_for_truth : SameWait p for_truth for_truth
  same_dropped : SameWait p dropped dropped
  same_for_concat : (left : ℕ) → SameWait p (for_concat left) (for_concat left)
  same_for_close : SameWait p for_close for_close
  same_returning : (count : ℕ) → SameWait p (returning count) (returning count)
  same_leaving : (v w : Value) → SameValue p v w → SameWait p (leaving v) (leaving w)

pub record SameActivation (p : Pairs) (a b : Activation) : Type 0 where
  pub pc : a.pc ≡ b.pc
  pub registers : SameValues p a.registers b.registers
  pub varargs : SameValues p a.varargs b.varargs
  pub pending : a.pending ≡ b.pending
  pub opened : a.opened ≡ b.opened

pub record SameLuaFrame (p : Pairs) (f g : LuaFrame) : Type 0 where
  pub function : SameNumber p a_function f.function g.function
  pub wait : SameWait p f.wait g.wait
  pub own : SameActivation p f.own g.own

pub data SameFrame (p : Pairs) : Frame → Frame → Type 0 where
  same_lua : (f g : LuaFrame) → SameLuaFrame p f g → SameFrame p (lua f) (lua g)
  same_pcall : SameFrame p pcall pcall
  same_xpcall : (v w : Value) → SameValue p v w → SameFrame p (xpcall v) (xpcall w)
  same_handler : SameFrame p handler handler
  same_closing : (e f : Option Value) (vs ws : List Value) → Each (SameValue p) e f → SameValues p vs ws → SameFrame p (closing e vs) (closing f ws)

abbrev pub SameFrames : Pairs → List Frame → List Frame → Type 0
SameFrames p = AllZip (SameFrame p)

pub data SameCoroutine (p : Pairs) : Coroutine → Coroutine → Type 0 where
  same_fresh : (v w : Value) → SameValue p v w → SameCoroutine p (fresh v) (fresh w)
  same_suspended : (fs gs : List Frame) → SameFrames p fs gs → SameCoroutine p (suspended fs) (suspended gs)
  same_in_progress : (fs gs : List Frame) → SameFrames p fs gs → SameCoroutine p (in_progress fs) (in_progress gs)
  same_normal : (fs gs : List Frame) → SameFrames p fs gs → SameCoroutine p (normal fs) (normal gs)
  same_dead : SameCoroutine p dead dead
  same_failed : (v w : Value) (vs ws : List Value) → SameValue p v w → SameValues p vs ws → SameCoroutine p (failed v vs) (failed w ws)

-- cells

abbrev pub IsFirst : Pairs → ℕ → Type 0
IsFirst p co = (d : ℕ) × SameNumber p a_coroutine co d

abbrev pub IsSecond : Pairs → ℕ → Type 0
IsSecond p co = (c : ℕ) × SameNumber p a_coroutine c co

-- a cell that is closed, or open in a coroutine that stands for none and is stood for by none: its value counts
pub data Loose (coroutines : List Coroutine) (paired : ℕ → Type 0) : Cell → Value → Type 0 where
  kept_closed : (v : Value) → Loose coroutines paired (closed v) v
  kept_apart : (co frame register : ℕ) (v : Value) → (paired co → ⊥) → register_at coroutines co frame register ≡ Some v
      → Loose coroutines paired (open_at co frame register) v

-- both are open at the same place of paired coroutines, or neither is open in a paired one and the values are the same
pub data SameCell (p : Pairs) (left right : List Coroutine) : Cell → Cell → Type 0 where
  same_place : (co other frame register : ℕ) → SameNumber p a_coroutine co other → SameCell p left right (open_at co frame register) (open_at other frame register)
  same_content : (c d : Cell) (v w : Value) → Loose left (IsFirst p) c v → Loose right (IsSecond p) d w → SameValue p v w → SameCell p left right c d

-- worlds

-- what has a number
pub record Objects : Type 0 where
  pub tables : List Table
  pub functions : List Function
  pub coroutines : List Coroutine
  pub cells : List Cell

abbrev pub objects_of : World → Objects
objects_of W = record { tables = W.heap.tables; functions = W.functions; coroutines = W.coroutines; cells = W.cells }

-- what a world holds on to for good
pub record Roots : Type 0 where
  pub globals : ℕ
  pub string_metatable : Option ℕ
  pub prelude_environment : ℕ
  pub prelude_functions : List ℕ
  pub special_key : List ℕ
  pub max_depth : ℤ
  pub main : Option ℕ
  pub chain : List ℕ

abbrev pub roots_of : World → Roots
roots_of W = record {
  globals = W.globals;
  string_metatable = W.heap.string_metatable;
  prelude_environment = W.prelude_environment;
  prelude_functions = W.prelude_functions;
  special_key = W.special_key;
  max_depth = W.max_depth;
  main = W.main;
  chain = W.chain;
}

-- paired objects are the same, and all that they reach is paired
pub record SameObjects (p : Pairs) (A B : Objects) : Type 0 where
  pub one_to_one : OneToOne p
  pub tables : (i j : ℕ) → SameNumber p a_table i j → Both (SameTable p) (slice_get A.tables i) (slice_get B.tables j)
  pub functions : (i j : ℕ) → SameNumber p a_function i j → Both (SameFunction p) (slice_get A.functions i) (slice_get B.functions j)
  pub coroutines : (i j : ℕ) → SameNumber p a_coroutine i j → Both (SameCoroutine p) (slice_get A.coroutines i) (slice_get B.coroutines j)
  pub cells : (i j : ℕ) → SameCellNumber p i j → Both (SameCell p A.coroutines B.coroutines) (slice_get A.cells i) (slice_get B.cells j)
  pub one_each : OneEach A.cells × OneEach B.cells

pub record SameRoots (p : Pairs) (A B : Roots) : Type 0 where
  pub globals : SameNumber p a_table A.globals B.globals
  pub string_metatable : Each (SameNumber p a_table) A.string_metatable B.string_metatable
  pub prelude_environment : SameNumber p a_table A.prelude_environment B.prelude_environment
  pub prelude_functions : AllZip (SameNumber p a_function) A.prelude_functions B.prelude_functions
  pub special_key : A.special_key ≡ B.special_key
  pub max_depth : A.max_depth ≡ B.max_depth
  pub main : Each (SameNumber p a_coroutine) A.main B.main
  pub chain : AllZip (SameNumber p a_coroutine) A.chain B.chain

abbrev pub IsRunning : World → Type 0
IsRunning W = elim W.chain [ [] ↦ ⊥ | _ ∷ _ ↦ Unit {0} ]

-- the worlds are the same; between two turns nothing is on its way
pub record Agree (p : Pairs) (W X : World) : Type 0 where
  pub objects : SameObjects p (objects_of W) (objects_of X)
  pub roots : SameRoots p (roots_of W) (roots_of X)
  pub moving : IsRunning W → SameValues p W.moving X.moving

-- and within a turn, where both have printed the same and have as much left of the budget
pub record AgreeInTurn (p : Pairs) (W X : World) : Type 0 where
  pub objects : SameObjects p (objects_of W) (objects_of X)
  pub roots : SameRoots p (roots_of W) (roots_of X)
  pub moving : SameValues p W.moving X.moving
  pub printed : W.printed ≡ X.printed
  pub fuel : W.fuel ≡ X.fuel

-- what was paired stays paired
pub record Extends (p q : Pairs) : Type 0 where
  pub objects : (kind : Kind) (i j : ℕ) → SameNumber p kind i j → SameNumber q kind i j
  pub cells : (i j : ℕ) → SameCellNumber p i j → SameCellNumber q i j

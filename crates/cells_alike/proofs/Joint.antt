-- Two worlds at once, one in each form of cells: what both share stands once, and each of the two is made of it by a function.
use Rattle.std.proofs.Common.{◌≡◌, ℕ, Bool, List, [], ◌∷◌, length, Option, Some, refl}
use Rattle.std.specs.Prelude.{slice_get, map}
use Rattle.int_core.specs.Value.{Value}
use Rattle.int_core.specs.Heap.{Heap}
use Rattle.int_core.specs.Ask.{Answer}
use Rattle.tree_core.specs.Tree.{Body}
use Rattle.tree_activation.specs.Work.{State}
use Rattle.lua_meaning.specs.World.{Function, Asker, Frame, talking, waiting, raising, protected, handled_by, handling, closing, Coroutine, fresh, suspended, running, normal, dead, failed, Ending, yielded, Now, talks, ends, World}
use Rattle.list_laws.specs.Held.{Has}
use Rattle.meaning_cells.specs.Alike.{Member, Pairs, Cells, AreCells, AreEven, Onward, Answered}
use Rattle.meaning_cells.proofs.Relation.{Rel}

-- a function, with the cells of its outer variables in both forms
pub record Made : Type 0 where
  pub made_of : Body
  pub source : List ℕ
  pub has_lines : Bool
  pub cells : List ℕ
  pub cells_too : List ℕ

-- an activation that is_waiting
pub record Waiting : Type 0 where
  pub function : ℕ
  pub line : Option ℕ
  pub shared : List (ℕ × Value)
  pub also : List (ℕ × Value)
  pub goes : Answer → State
  pub goes_too : Answer → State

pub data Layer : Type 0 where
  is_talking : (function : ℕ) → (s t : State) → Layer
  is_waiting : Waiting → Layer
  is_raising : Waiting → Layer
  is_protected : Layer
  is_handled : Value → Layer
  is_handling : Layer
  is_closing : (error : Option Value) → (values_left : List Value) → Layer

pub data Thread : Type 0 where
  is_fresh : (body : Value) → Thread
  is_suspended : List Layer → Thread
  is_running : Thread
  is_normal : List Layer → Thread
  is_dead : Thread
  has_failed : (error : Value) → (pending : List Value) → Thread

-- an activation's place: its coroutine, and how many frames are below
abbrev pub Place : Type 0
Place = ℕ × ℕ

-- the cells of both forms; and of each cell of the first form the place of the activation that opened it
pub record Store : Type 0 where
  pub pairs : Pairs
  pub cells : List Value
  pub cells_too : List Value
  pub owners : List Place

pub record Joint : Type 0 where
  pub heap : Heap
  pub functions : List Made
  pub store : Store
  pub coroutines : List Thread
  pub globals : ℕ
  pub printed : List ℕ
  pub fuel : ℕ
  pub chain : List ℕ
  pub frames : List Layer
  pub now : Now

-- the two sides

abbrev pub function_one : Made → Function Body
function_one f = record { made_of = f.made_of; source = f.source; has_lines = f.has_lines; cells = f.cells }

abbrev pub function_two : Made → Function Body
function_two f = record { made_of = f.made_of; source = f.source; has_lines = f.has_lines; cells = f.cells_too }

abbrev pub asker_one : Waiting → Asker State
asker_one w = record { function = w.function; line = w.line; shared = w.shared; goes = w.goes }

abbrev pub asker_two : Waiting → Asker State
asker_two w = record { function = w.function; line = w.line; shared = w.also; goes = w.goes_too }

abbrev pub frame_of : (asker : Waiting → Asker State) → (side : State → State → State) → Layer → Frame State
frame_of asker side (is_talking f s t) = talking f (side s t)
frame_of asker side (is_waiting w) = waiting (asker w)
frame_of asker side (is_raising w) = raising (asker w)
frame_of asker side is_protected = protected
frame_of asker side (is_handled h) = handled_by h
frame_of asker side is_handling = handling
frame_of asker side (is_closing e vs) = closing e vs

abbrev pub frame_one : Layer → Frame State
frame_one f = frame_of asker_one (λ s t. s) f

abbrev pub frame_two : Layer → Frame State
frame_two f = frame_of asker_two (λ s t. t) f

abbrev pub coroutine_of : (Layer → Frame State) → Thread → Coroutine State
coroutine_of frame (is_fresh body) = fresh body
coroutine_of frame (is_suspended frames) = suspended (map frame frames)
coroutine_of frame is_running = running
coroutine_of frame (is_normal frames) = normal (map frame frames)
coroutine_of frame is_dead = dead
coroutine_of frame (has_failed e pending) = failed e pending

abbrev pub coroutine_one : Thread → Coroutine State
coroutine_one c = coroutine_of frame_one c

abbrev pub coroutine_two : Thread → Coroutine State
coroutine_two c = coroutine_of frame_two c

abbrev pub world_of : (Made → Function Body) → (cells : List Value) → (Layer → Frame State) → Joint → World Body State
world_of made cells frame J = record {
  heap = J.heap;
  functions = map made J.functions;
  cells = cells;
  coroutines = map (coroutine_of frame) J.coroutines;
  globals = J.globals;
  printed = J.printed;
  fuel = J.fuel;
  chain = J.chain;
  frames = map frame J.frames;
  now = J.now;
}

abbrev pub one : Joint → World Body State
one J = world_of function_one J.store.cells frame_one J

abbrev pub two : Joint → World Body State
two J = world_of function_two J.store.cells_too frame_two J

-- how the two sides are alike

-- the cells, for an activation that has opened some
abbrev pub cells_for : Store → List ℕ → Cells
cells_for S own = record { pairs = S.pairs; stored = S.cells; stored_too = S.cells_too; own = own }

abbrev pub OwnedAt : Store → Place → List ℕ → Type 0
OwnedAt S p own = (c : ℕ) → Member c own → slice_get S.owners c ≡ Some p

pub record IsStore (S : Store) : Type 0 where
  pub are : AreCells (cells_for S [])
  pub count : length S.owners ≡ length S.cells
  pub lowest : Has 0 0 S.pairs

-- both go on alike after each answer
pub record WaitsAt (S : Store) (p : Place) (w : Waiting) : Type 0 where
  pub asked : Cells
  pub since : Onward asked (cells_for S asked.own)
  pub owned : OwnedAt S p asked.own
  pub on : (now : Cells) → Onward asked now → (x y : Answer) → Answered now w.shared w.also x y → Rel now (w.goes x) (w.goes_too y)

abbrev pub LayerAt : Store → Place → Layer → Type 0
LayerAt S p (is_talking f s t) = ⊥
LayerAt S p (is_waiting w) = WaitsAt S p w
LayerAt S p (is_raising w) = WaitsAt S p w
LayerAt S p layer = Unit {0}

abbrev pub LayersAt : Store → (coroutine : ℕ) → List Layer → Type 0
LayersAt S co [] = Unit {0}
LayersAt S co (f ∷ frames) = LayerAt S (co, length frames) f × LayersAt S co frames

abbrev pub layers_in : Thread → List Layer
layers_in (is_suspended frames) = frames
layers_in (is_normal frames) = frames
layers_in _ = []

abbrev pub ArePaired : Pairs → List ℕ → List ℕ → Type 0
ArePaired pairs [] [] = Unit {0}
ArePaired pairs (c ∷ cs) (d ∷ ds) = Has c d pairs × ArePaired pairs cs ds
ArePaired pairs _ _ = ⊥

-- the running coroutine
abbrev pub head : List ℕ → ℕ
head [] = 0
head (co ∷ chain) = co

pub record Base (S : Store) (functions : List Made) (coroutines : List Thread) (chain : List ℕ) : Type 0 where
  pub store : IsStore S
  pub paired : (n : ℕ) (f : Made) → slice_get functions n ≡ Some f → ArePaired S.pairs f.cells f.cells_too
  pub others : (co : ℕ) (c : Thread) → slice_get coroutines co ≡ Some c → LayersAt S co (layers_in c)
  pub running_one : (c : Thread) → slice_get coroutines (head chain) ≡ Some c → layers_in c ≡ []

-- no activation talks
pub record Stable (S : Store) (functions : List Made) (coroutines : List Thread) (chain : List ℕ) (frames : List Layer) : Type 0 where
  pub base : Base S functions coroutines chain
  pub even : AreEven (cells_for S [])
  pub layers : LayersAt S (head chain) frames

-- the activation on top talks
pub record Talks (S : Store) (functions : List Made) (coroutines : List Thread) (chain : List ℕ) (s t : State) (below : List Layer) : Type 0 where
  pub base : Base S functions coroutines chain
  pub own : List ℕ
  pub owned : OwnedAt S (head chain, length below) own
  pub like : Rel (cells_for S own) s t
  pub layers : LayersAt S (head chain) below

abbrev pub Quiet : Joint → Type 0
Quiet J = Stable J.store J.functions J.coroutines J.chain J.frames

abbrev pub TalksIn : Joint → State → State → List Layer → Type 0
TalksIn J s t below = Talks J.store J.functions J.coroutines J.chain s t below

abbrev pub talking_in : Joint → ℕ → State → State → List Layer → Joint
talking_in J f s t below = record J { frames = is_talking f s t ∷ below; now = talks }

-- a run is over that ends so
abbrev pub IsLast : Ending → Type 0
IsLast (yielded vs) = ⊥
IsLast ending = Unit {0}

pub data Stands : Joint → Type 0 where
  quiet : (J : Joint) → Quiet J → Stands J
  stopped : (J : Joint) (ending : Ending) → IsLast ending → Stands (record J { now = ends ending })
  busy : (J : Joint) (f : ℕ) (s t : State) (below : List Layer) → TalksIn J s t below → Stands (talking_in J f s t below)

pub record Both (X Y : World Body State) : Type 0 where
  pub there : Joint
  pub same : X ≡ one there
  pub same_too : Y ≡ two there
  pub stands : Stands there

pub both_of : (J : Joint) → Stands J → Both (one J) (two J)
both_of J st = record { there = J; same = refl; same_too = refl; stands = st }

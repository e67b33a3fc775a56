-- When the image of a world can be loaded into another, and what is then the same.
use Rattle.std.specs.Prelude.{ℕ, ◌≡◌, ◌<◌, true, false, List, map, Option, Some, None, length, slice_get}
use Rattle.int_core.specs.Value.{Kind, a_coroutine, Value}
use Rattle.machine_core.specs.World.{open_at, World, register_at}
use Rattle.machine_alike.specs.Agree.{Pairs, SameCellNumber, SameValue, SameValues, objects_of, SameObjects, Extends}
use Rattle.image_core.specs.Visit.{IsMet, greatest_count}
use Rattle.image_core.specs.Image.{Item}
use Rattle.image_core.specs.Records.{Part, an_object, a_cell, same_part, visited, parts_in_order, record_of, naming, image_by}
use Rattle.image_core.specs.Loading.{Target, kind_in, is_cell, value_made, loaded, loading}

-- an object that is there, and no coroutine that runs or resumed another
abbrev pub IsWritten : World → (Value → Option Item) → List Value → Part → Type 0
IsWritten W name roots (an_object kind n) = kind_in (record_of (naming W name roots) W (an_object kind n)) ≡ Some kind
IsWritten W name roots (a_cell n) = is_cell (record_of (naming W name roots) W (a_cell n)) ≡ true

-- an image of W that is loaded into V, where the objects that the permanents reach are the same already, by `base`
pub record CanLoad (base : Pairs) (W V : World) (T : Target) (name : Value → Option Item) (roots : List Value) : Type 0 where
  pub base_same : SameObjects base (objects_of W) (objects_of V)
  -- T counts V's objects
  pub tables : T.tables ≡ length V.heap.tables
  pub functions : T.functions ≡ length V.functions
  pub coroutines : T.coroutines ≡ length V.coroutines
  pub cells : T.cells ≡ length V.cells
  -- what has a name in W is the same as what has that name in V
  pub names : (v : Value) (i : Item) → name v ≡ Some i → (records : List _) → SameValue base v (value_made T records i)
  -- the orders end
  pub few_reached : slice_get (visited W name (λ _. false) roots) greatest_count ≡ None
  pub few_written : slice_get (parts_in_order W name roots) greatest_count ≡ None
  pub written : (o : Part) → IsMet same_part (parts_in_order W name roots) o → IsWritten W name roots o
  -- nothing that is written is reached by the permanents
  pub new_objects : (kind : Kind) (n : ℕ) → IsMet same_part (parts_in_order W name roots) (an_object kind n) → base.objects kind n ≡ None
  pub new_cells : (n : ℕ) → IsMet same_part (parts_in_order W name roots) (a_cell n) → base.cells n ≡ None
  -- no cell that the permanents reach is open in a coroutine that is written, and no cell that is written in a coroutine that they reach
  pub old_apart : (i j co frame register : ℕ) → SameCellNumber base i j → slice_get W.cells i ≡ Some (open_at co frame register) → IsMet same_part (parts_in_order W name roots) (an_object a_coroutine co) → ⊥
  pub new_apart : (n co frame register : ℕ) → IsMet same_part (parts_in_order W name roots) (a_cell n) → slice_get W.cells n ≡ Some (open_at co frame register) → base.objects a_coroutine co ≡ None
  -- open cells name what is there
  pub left_there : (n co frame register : ℕ) → slice_get W.cells n ≡ Some (open_at co frame register) → (v : Value) × (register_at W.coroutines co frame register ≡ Some v)
  pub right_there : (n co frame register : ℕ) → slice_get V.cells n ≡ Some (open_at co frame register) → co < length V.coroutines

pub record LoadedAlike (base : Pairs) (W V : World) (T : Target) (name : Value → Option Item) (roots : List Value) (q : Pairs) : Type 0 where
  pub more : Extends base q
  pub objects : SameObjects q (objects_of W) (objects_of (loaded T (image_by W name roots).records V))
  pub roots_same : SameValues q roots (map (value_made T (image_by W name roots).records) (image_by W name roots).roots)

-- what is loaded from the image of a world agrees with it
abbrev pub LoadedAgrees : Type 0
LoadedAgrees = (base : Pairs) (W V : World) (T : Target) (name : Value → Option Item) (roots : List Value) → CanLoad base W V T name roots
    → LoadedAlike base W V T name roots (loading base T (parts_in_order W name roots) (image_by W name roots).records)

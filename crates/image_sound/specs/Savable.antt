-- That what a sound world reaches can be written.
use Rattle.std.specs.Prelude.{ℕ, ◌≡◌, List, Option, Some, slice_get}
use Rattle.int_core.specs.Value.{a_coroutine, Value}
use Rattle.machine_core.specs.World.{Coroutine, open_at, World, register_at}
use Rattle.machine_sound.specs.Sound.{Each, sizes, Valid, Solid, apart, standing}
use Rattle.image_core.specs.Visit.{IsMet}
use Rattle.image_core.specs.Image.{Item}
use Rattle.image_core.specs.Records.{Part, an_object, same_part, parts_in_order}
use Rattle.image_load.specs.Loads.{IsWritten}

-- a sound world, roots that are there, and no coroutine among what is written that runs or resumed another
pub record Savable (primitives : ℕ) (W : World) (name : Value → Option Item) (roots : List Value) : Type 0 where
  pub solid : Solid primitives W
  pub roots_there : Each (Valid (sizes primitives W)) roots
  pub idle : (co : ℕ) (c : Coroutine) → IsMet same_part (parts_in_order W name roots) (an_object a_coroutine co) → slice_get W.coroutines co ≡ Some c → standing c ≡ apart

-- then each object is written, and open cells name what is there: what a world that is loaded from it needs to agree
abbrev pub SavableIsWritten : Type 0
SavableIsWritten = (primitives : ℕ) (W : World) (name : Value → Option Item) (roots : List Value) → Savable primitives W name roots → (o : Part) → IsMet same_part (parts_in_order W name roots) o → IsWritten W name roots o

abbrev pub OpenCellsThere : Type 0
OpenCellsThere = (primitives : ℕ) (W : World) → Solid primitives W → (n co frame register : ℕ) → slice_get W.cells n ≡ Some (open_at co frame register) → (v : Value) × (register_at W.coroutines co frame register ≡ Some v) × Valid (sizes primitives W) v

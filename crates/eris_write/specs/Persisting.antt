-- What the writing of an image answers.
use Rattle.std.specs.Prelude.{◌≡◌, ◌<◌, ◌≤◌, ℕ, false, List, Option, Some, None, Result, Ok, Err, length, map, slice_get}
use Rattle.std.specs.declared.vec.Vec.{Vec}
use Rattle.std.specs.declared.alloc.Global.{Global}
use Rattle.table_core.specs.declared.value.Value.{Value as Kept}
use Rattle.machine_sound.specs.Sound.{Each, sizes, Valid, Solid}
use Rattle.image_core.specs.Image.{Image}
use Rattle.image_core.specs.Records.{image_of, named, parts_in_order, visited}
use Rattle.image_core.specs.Visit.{greatest_count}
use Rattle.image_bytes.specs.Bytes.{Reader, image_format}
use Rattle.lua_heap.specs.declared.world.World.{World as Memory}
use Rattle.lua_heap.specs.Plain.{plain}
use Rattle.lua_heap.specs.Reading.{value}
use Rattle.move_laws.specs.Memory.{InOrder}
use Rattle.graph_core.specs.declared.permanents.Permanents.{Permanents}
use Rattle.graph_core.specs.Inverse.{KeysAreOnce}
use Rattle.graph_core.specs.Permanents.{permanents}
use Rattle.eris_write.specs.declared.fault.PersistFault.{PersistFault}
use Rattle.eris_write.specs.declared.fault.PersistFault.TheVariants.{Refused, TooLarge, Memory as NoMemory}
use Rattle.eris_write.specs.declared.fault.Refusal.{Refusal}
use Rattle.eris_write.specs.declared.fault.Refusal.TheVariants.{LibraryFunction, ActiveCoroutine, EqualKeys}
use Rattle.eris_write.specs.Keys.{HaveEqualKeys}
use Rattle.eris_write.specs.Refusals.{Cause, refused, all_fields, first_refusal}

-- a sound world in memory, and roots that are there and no more than an image may have
pub record CanPersist (W : Memory) (roots : List Kept) : Type 0 where
  pub primitives : ℕ
  pub solid : Solid primitives (plain W 0)
  pub order : InOrder W
  pub roots_there : Each (Valid (sizes primitives (plain W 0))) (map (value W.strings) roots)
  pub few : length roots ≤ 255

abbrev pub greatest_image : ℕ
greatest_image = 2147483647

module _ (W : Memory) (roots : List Kept) (ps : Permanents) where
  abbrev pub image : ℕ → Image
  image fuel = image_of (plain W fuel) (map (value W.strings) roots) (permanents ps)

  -- the bytes spell the image, whoever reads it
  pub record Spells (bytes : List ℕ) : Type 0 where
    pub is : (fuel : ℕ) (R : Reader) → bytes ≡ (image_format R (length roots)).spell (image fuel)

  -- what of the image's fields cannot be written, and stands first
  pub record FirstRefusal (cause : Option Cause) : Type 0 where
    pub is : (fuel : ℕ) → first_refusal (plain W fuel) (named W.prelude.env.0 (permanents ps)) (all_fields (plain W fuel) (named W.prelude.env.0 (permanents ps)) (map (value W.strings) roots)) ≡ cause

  -- nothing is refused
  pub record IsAllowed : Type 0 where
    pub once : KeysAreOnce (permanents ps)
    pub none : FirstRefusal None

  -- fewer records than no image has, also where every open cell counts as its present value
  pub record AreFew : Type 0 where
    pub reached : (fuel : ℕ) → slice_get (visited (plain W fuel) (named W.prelude.env.0 (permanents ps)) (λ _. false) (map (value W.strings) roots)) greatest_count ≡ None
    pub written : (fuel : ℕ) → slice_get (parts_in_order (plain W fuel) (named W.prelude.env.0 (permanents ps)) (map (value W.strings) roots)) greatest_count ≡ None

  pub record IsWritten (bytes : List ℕ) : Type 0 where
    pub allowed : IsAllowed
    pub few : AreFew
    pub spells : Spells bytes
    pub size : length bytes ≤ greatest_image

  pub record IsTooLarge : Type 0 where
    pub allowed : IsAllowed
    pub size : (fuel : ℕ) (R : Reader) → greatest_image < length ((image_format R (length roots)).spell (image fuel))

  pub record IsRefused (refusal : Refusal) : Type 0 where
    pub once : KeysAreOnce (permanents ps)
    pub first : FirstRefusal (Some (refused refusal))

  -- equal keys are looked for first, then the first of the fields that is refused, then the size
  abbrev pub Causes : PersistFault → Type 0
  Causes (Refused EqualKeys) = HaveEqualKeys (permanents ps)
  Causes (Refused LibraryFunction) = IsRefused LibraryFunction
  Causes (Refused ActiveCoroutine) = IsRefused ActiveCoroutine
  Causes TooLarge = IsTooLarge
  Causes NoMemory = Unit {0}

  abbrev pub Persists : Result (Vec ℕ Global) PersistFault → Type 0
  Persists (Ok bytes) = IsWritten bytes.items
  Persists (Err fault) = Causes fault

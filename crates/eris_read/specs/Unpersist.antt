-- What reading an image into a world in memory does (Eris's manual, `eris.unpersist`): all that was written is made anew, and permanent values are put in by
-- their keys; where it is refused, the world is as before.
use Rattle.std.specs.Prelude.{ℕ, ◌≡◌, ◌≤◌, ◌^◌, List, [], map, Option, None, Result, Ok, Err, slice_get}
use Rattle.std.specs.Option.{option_map}
use Rattle.code_core.specs.Prototype.{Prototype}
use Rattle.int_core.specs.Value.{a_function, Value, object}
use Rattle.machine_core.specs.World.{World}
use Rattle.machine_sound.specs.Sound.{Each, sizes, Valid, Solid, Sound}
use Rattle.table_core.specs.declared.value.Value.{Value as Kept}
use Rattle.lua_heap.specs.declared.world.World.{World as Memory}
use Rattle.lua_heap.specs.Reading.{value}
use Rattle.lua_heap.specs.Plain.{plain}
use Rattle.move_laws.specs.Memory.{InOrder}
use Rattle.image_core.specs.Image.{PermKey, Perm, Image}
use Rattle.image_core.specs.Loading.{value_made, loaded}
use Rattle.image_bytes.specs.Format.{Got, read, refused}
use Rattle.image_sound.specs.Fitting.{reads}
use Rattle.image_saved.specs.Permanents.{object_named, target}
use Rattle.image_records.specs.declared.record.Image.{Image as KeptImage}
use Rattle.image_reading.specs.declared.fault.ReadFault.{ReadFault}
use Rattle.image_reading.specs.declared.fault.ReadFault.TheVariants.{Refused, Memory as NoMemory}
use Rattle.image_reading.specs.Reader.{reader}
use Rattle.image_records.specs.Views.{image_read}
use Rattle.image_reading.specs.Faults.{fault}

-- the code of a permanent that is a Lua function
abbrev pub code_of : World → Value → Option Prototype
code_of V (object a_function n) = option_map (λ f. f.code) (slice_get V.functions n)
code_of V _ = None

abbrev pub code_named : World → List Perm → PermKey → Option Prototype
code_named V perms key = code_of V (object_named perms key)

-- the reading of these bytes for a world
abbrev pub reads_for : World → List Perm → (roots : ℕ) → List ℕ → Got Image
reads_for V perms roots bytes = reads (reader perms V.prelude_environment) (code_named V perms) roots bytes

-- the world is sound, and the permanents are there
pub record AreThere (primitives : ℕ) (V : World) (perms : List Perm) : Type 0 where
  pub each : Each (λ p. Valid (sizes primitives V) p.object) perms

pub record CanRead (W : Memory) (perms : List Perm) : Type 0 where
  pub primitives : ℕ
  -- a primitive's number has 16 bits in memory
  pub few : primitives ≤ 2 ^ 16
  pub sound : Sound primitives (plain W 0)
  pub order : InOrder W
  pub there : AreThere primitives (plain W 0) perms

-- what is read stands behind what was there, and the roots are the image's
pub record Loads (old new : Memory) (perms : List Perm) (roots : ℕ) (bytes : List ℕ) (values : List Kept) : Type 0 where
  pub image : Image
  pub met : ℕ
  pub is_read : reads_for (plain old 0) perms roots bytes ≡ read image met []
  pub world : (fuel : ℕ) → plain new fuel ≡ loaded (target (plain old 0) perms) image.records (plain old fuel)
  pub roots_made : map (value new.strings) values ≡ map (value_made (target (plain old 0) perms) image.records) image.roots
  pub rest : new ≡ record old { strings = new.strings; codes = new.codes; tables = new.tables; funcs = new.funcs; cells = new.cells; coros = new.coros }
  pub order : InOrder new
  pub solid : (primitives : ℕ) → Solid primitives (plain old 0) → AreThere primitives (plain old 0) perms → Solid primitives (plain new 0)
  pub roots_there : (primitives : ℕ) → Solid primitives (plain old 0) → AreThere primitives (plain old 0) perms → Each (Valid (sizes primitives (plain new 0))) (map (value new.strings) values)

-- a refusal is the first fault of the bytes
abbrev pub IsCause : Memory → List Perm → (roots : ℕ) → List ℕ → ReadFault → Type 0
IsCause W perms roots bytes (Refused why) = reads_for (plain W 0) perms roots bytes ≡ refused (fault why)
IsCause W perms roots bytes NoMemory = Unit {0}

-- the same of an image as it is kept
abbrev pub Reads : Memory → List Perm → (roots : ℕ) → List ℕ → Result KeptImage ReadFault → Type 0
Reads W perms roots bytes (Ok I) = (met : ℕ) × (reads_for (plain W 0) perms roots bytes ≡ read (image_read I) met [])
Reads W perms roots bytes (Err fault) = IsCause W perms roots bytes fault

-- a refusal leaves strings, code and objects as they were
pub record IsAsBefore (old new : Memory) : Type 0 where
  pub strings : new.strings ≡ old.strings
  pub trees : new.codes.trees.items ≡ old.codes.trees.items
  pub list : new.codes.list.items ≡ old.codes.list.items
  pub tables : new.tables.objects ≡ old.tables.objects
  pub funcs : new.funcs.objects ≡ old.funcs.objects
  pub cells : new.cells.objects ≡ old.cells.objects
  pub coros : new.coros.objects ≡ old.coros.objects
  pub rest : new ≡ record old { codes = new.codes; tables = new.tables; funcs = new.funcs; cells = new.cells; coros = new.coros }
  pub plain : (fuel : ℕ) → plain new fuel ≡ plain old fuel
  pub order : InOrder new

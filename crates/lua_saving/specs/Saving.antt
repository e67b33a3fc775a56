-- What is saved of a session, and what is loaded.
use Rattle.std.specs.Prelude.{◌≡◌, ◌<◌, ◌≤◌, ℕ, List, [], map, length, Option, Some, slice_get}
use Rattle.code_core.specs.Prototype.{Prototype}
use Rattle.library_rows.specs.Library.{Entry, all_entries}
use Rattle.library_rows.specs.PreludeText.{prelude_functions}
use Rattle.lua_meaning.specs.Libraries.{environment_table}
use Rattle.lua_meaning.specs.Opening.{prelude_of}
use Rattle.machine_core.specs.World.{Frame, suspended, World}
use Rattle.machine_sound.specs.Sound.{Each, sizes, Valid, Solid}
use Rattle.machine_runs.specs.Opening.{numbers, opening}
use Rattle.table_core.specs.declared.value.Value.{Value as Kept}
use Rattle.lua_heap.specs.declared.world.World.{World as Memory}
use Rattle.lua_heap.specs.Plain.{plain}
use Rattle.lua_heap.specs.Reading.{value}
use Rattle.image_core.specs.Image.{PermKey, Image}
use Rattle.image_bytes.specs.Format.{read, refused}
use Rattle.image_bytes.specs.Bytes.{Reader, image_format}
use Rattle.image_sound.specs.Fitting.{reads}
use Rattle.image_load.specs.Session.{with_roots}
use Rattle.image_reading.specs.Reader.{reader}
use Rattle.image_reading.specs.Faults.{fault}
use Rattle.image_reading.specs.declared.fault.ReadFault.{ReadFault}
use Rattle.image_reading.specs.declared.fault.ReadFault.TheVariants.{Refused, Memory as NoMemory}
use Rattle.image_reading.specs.declared.fault.Refusal.{Refusal}
use Rattle.image_reading.specs.declared.fault.Refusal.TheVariants.{OutOfPlace}
use Rattle.eris_read.specs.Unpersist.{code_named}
use Rattle.images_stand.specs.Sessions.{IsKept}
use Rattle.session_images.specs.Permanents.{base_permanents}
use Rattle.session_images.specs.Prelude.{IsUntouched, HasPrelude}
use Rattle.session_images.specs.Saved.{session_image, session_of}
use Rattle.session_images.specs.Stored.{root_count, IsWrittenAs, IsLoaded}

-- saving

-- the functions of the prelude are the first ones, and their variables are as they were made, whatever the code of these functions is
pub record IsAsMade (W : Memory) : Type 0 where
  pub number : W.prelude.env.0 ≡ environment_table
  pub names : map (λ f. f.0) W.prelude.funcs.items ≡ numbers 0 (length prelude_functions)
  pub untouched : (fuel : ℕ) (codes : List Prototype) → length codes ≡ length prelude_functions → IsUntouched (prelude_of codes) (plain W fuel)

-- no prelude is there as it was made
pub record IsTouched (W : Memory) : Type 0 where
  pub none : (codes : List Prototype) → length codes ≡ length prelude_functions → HasPrelude (prelude_of codes) (plain W 0) → ⊥

abbrev pub greatest_image : ℕ
greatest_image = 2147483647

-- The bytes are those of the session's image, whatever the budget and the code of the prelude's functions are. The image holds integers of 64 bits, and
-- tables without a key that stands twice: so it can be read back.
pub record IsImage (W : Memory) (bytes : List ℕ) : Type 0 where
  pub written : (fuel : ℕ) (codes : List Prototype) → length codes ≡ length prelude_functions → IsWrittenAs (prelude_of codes) (plain W fuel) bytes
  pub size : length bytes ≤ greatest_image
  pub kept : (fuel : ℕ) → IsKept (plain W fuel)

-- they would be more than an image may have
pub record IsLarge (W : Memory) : Type 0 where
  pub more : (fuel : ℕ) (R : Reader) → greatest_image < length ((image_format R root_count).spell (session_image (plain W fuel)))

-- loading

-- a reader that knows the permanents of every session
abbrev pub session_reader : Reader
session_reader = reader base_permanents environment_table

abbrev pub session_codes : (prelude : List (Entry Prototype)) → PermKey → Option Prototype
session_codes prelude = code_named (opening prelude) base_permanents

abbrev pub IsSession : (prelude : List (Entry Prototype)) → List ℕ → World → Type 0
IsSession prelude bytes X = IsLoaded session_reader (session_codes prelude) prelude bytes X

-- the main coroutine waits where it has yielded
pub record HasYielded (X : World) : Type 0 where
  pub main : ℕ
  pub is_main : X.main ≡ Some main
  pub frames : List Frame
  pub yielded : slice_get X.coroutines main ≡ Some (suspended frames)

-- the bytes are an image, of which there is no session whose main coroutine has yielded
pub record HasNoSession (prelude : List (Entry Prototype)) (bytes : List ℕ) : Type 0 where
  pub image : Image
  pub met : ℕ
  pub accepted : reads session_reader (session_codes prelude) root_count bytes ≡ read image met []
  pub none : (X : World) → session_of prelude image ≡ Some X → HasYielded X → ⊥

-- the first fault of the bytes; or the roots are no session's, which is looked for last
pub data IsRefused (prelude : List (Entry Prototype)) (bytes : List ℕ) : ReadFault → Type 0 where
  by_bytes : (why : Refusal) → reads session_reader (session_codes prelude) root_count bytes ≡ refused (fault why) → IsRefused prelude bytes (Refused why)
  by_roots : HasNoSession prelude bytes → IsRefused prelude bytes (Refused OutOfPlace)
  no_memory : IsRefused prelude bytes NoMemory

-- where the roots of a session are read

-- values of a sound world
pub record AreThere (W : Memory) (values : List Kept) : Type 0 where
  pub solid : Solid (length all_entries) (plain W 0)
  pub each : Each (Valid (sizes (length all_entries) (plain W 0))) (map (value W.strings) values)

-- they are a session's roots, and are taken over; its main coroutine has yielded
pub record TakesRoots (old new : Memory) (values : List Kept) : Type 0 where
  pub is : (fuel : ℕ) → with_roots (map (value old.strings) values) (plain old fuel) ≡ Some (plain new fuel)
  pub rest : new ≡ record old { main = new.main; globals = new.globals; string_meta = new.string_meta; spkey = new.spkey; maxrec = new.maxrec }
  pub waits : HasYielded (plain new 0)

-- they are none, or their main coroutine has not yielded
pub record IsNoSession (W : Memory) (values : List Kept) : Type 0 where
  pub none : (X : World) → with_roots (map (value W.strings) values) (plain W 0) ≡ Some X → HasYielded X → ⊥

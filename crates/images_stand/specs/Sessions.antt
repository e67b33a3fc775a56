-- That what a session was saved as is read back.
use Rattle.std.specs.Prelude.{ℕ, ◌≤◌, ◌≡◌, List, [], length, Option, Some, slice_get}
use Rattle.code_core.specs.Prototype.{Prototype}
use Rattle.int_core.specs.Rows.{AreRows}
use Rattle.int_core.specs.Value.{a_function, object, table_values}
use Rattle.library_rows.specs.Library.{Entry, all_entries}
use Rattle.lua_meaning.specs.Libraries.{environment_table}
use Rattle.machine_core.specs.World.{World}
use Rattle.machine_sound.specs.Sound.{Each, Sound}
use Rattle.machine_runs.specs.Laws.{MayTurn}
use Rattle.image_core.specs.Image.{PermKey}
use Rattle.image_core.specs.Records.{key_of}
use Rattle.image_bytes.specs.Format.{read}
use Rattle.image_bytes.specs.Bytes.{Reader, image_format}
use Rattle.image_sound.specs.Fitting.{reads}
use Rattle.image_load.specs.Session.{session_roots}
use Rattle.session_images.specs.Laws.{IsLibrary}
use Rattle.session_images.specs.Permanents.{base_permanents}
use Rattle.session_images.specs.Prelude.{HasFunctions}
use Rattle.session_images.specs.Saved.{session_image, session_name, IsSmall}
use Rattle.session_images.specs.Stored.{root_count}
use Rattle.images_stand.specs.Standing.{FieldIsHeld, all_fields, Knows}

-- what is true of each world in memory: integers have 64 bits, here those in the session's image, and no key of a table stands twice or is nil
pub record IsKept (W : World) : Type 0 where
  pub held : Each (FieldIsHeld (session_name W)) (all_fields W base_permanents (session_roots W))
  pub rows : Each (λ t. AreRows table_values t.rows) W.heap.tables

-- a reader that knows the functions of the libraries
abbrev pub KnowsLibraries : Reader → Type 0
KnowsLibraries R = Knows environment_table base_permanents R

-- the image of a session that waits for a line may stand in its format
abbrev pub SessionsStand : Type 0
SessionsStand =
    (prelude : List (Entry Prototype)) (W : World) (R : Reader) → Sound (length all_entries) W → MayTurn W → HasFunctions prelude W → IsSmall W → IsKept W → KnowsLibraries R
    → length ((image_format R root_count).spell (session_image W)) ≤ 2147483647 → (met : ℕ) × ((image_format R root_count).after 0 (session_image W) ≡ Some met)

-- whoever reads has the code of the prelude's functions
pub record KnowsPrelude (prelude : List (Entry Prototype)) (code_named : PermKey → Option Prototype) : Type 0 where
  pub codes : (n : ℕ) (e : Entry Prototype) (key : PermKey) → slice_get prelude n ≡ Some e → key_of base_permanents (object a_function n) ≡ Some key → code_named key ≡ Some e.entry

-- and what a session was saved as is accepted as its image
abbrev pub SessionsAccepted : Type 0
SessionsAccepted =
    (prelude : List (Entry Prototype)) (W : World) (R : Reader) (code_named : PermKey → Option Prototype) → IsLibrary prelude → Sound (length all_entries) W → MayTurn W → HasFunctions prelude W → IsSmall W → IsKept W
    → KnowsLibraries R → KnowsPrelude prelude code_named → length ((image_format R root_count).spell (session_image W)) ≤ 2147483647
    → (met : ℕ) × (reads R code_named root_count ((image_format R root_count).spell (session_image W)) ≡ read (session_image W) met [])

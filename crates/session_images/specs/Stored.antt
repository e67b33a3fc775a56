-- Sessions as bytes: saved, and loaded again.
use Rattle.std.specs.Prelude.{◌≡◌, ℕ, List, [], length, Option, Some}
use Rattle.code_core.specs.Prototype.{Prototype}
use Rattle.library_rows.specs.Library.{Entry, all_entries}
use Rattle.machine_core.specs.World.{World}
use Rattle.machine_sound.specs.Sound.{Sound}
use Rattle.machine_runs.specs.Laws.{MayTurn}
use Rattle.image_core.specs.Image.{PermKey, Image}
use Rattle.image_bytes.specs.Format.{read}
use Rattle.image_bytes.specs.Bytes.{Reader, image_format}
use Rattle.image_sound.specs.Fitting.{reads}
use Rattle.session_images.specs.Prelude.{IsUntouched}
use Rattle.session_images.specs.Saved.{session_image, session_of, IsSmall}

-- a session's roots: the main coroutine, the globals, the metatable of strings, and the two settings of Eris
abbrev pub root_count : ℕ
root_count = 5

-- the bytes are those of the session's image, whoever reads them; the prelude's environment is as it was made
pub record IsWrittenAs (prelude : List (Entry Prototype)) (W : World) (bytes : List ℕ) : Type 0 where
  pub untouched : IsUntouched prelude W
  pub small : IsSmall W
  pub spells : (R : Reader) → bytes ≡ (image_format R root_count).spell (session_image W)

-- the bytes are accepted as an image, from which a session goes on in X: its main coroutine waits for a line
pub record IsLoaded (R : Reader) (code_named : PermKey → Option Prototype) (prelude : List (Entry Prototype)) (bytes : List ℕ) (X : World) : Type 0 where
  pub image : Image
  pub met : ℕ
  pub accepted : reads R code_named root_count bytes ≡ read image met []
  pub session : session_of prelude image ≡ Some X
  pub sound : Sound (length all_entries) X
  pub waits : MayTurn X

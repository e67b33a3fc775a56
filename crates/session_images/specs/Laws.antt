-- That a session goes on from its image.
use Rattle.std.specs.Prelude.{ℕ, ◌≡◌, List, length, Some}
use Rattle.code_core.specs.Prototype.{Prototype}
use Rattle.library_rows.specs.Library.{Entry, all_entries}
use Rattle.library_rows.specs.PreludeText.{function_keys}
use Rattle.machine_core.specs.World.{World}
use Rattle.machine_sound.specs.Sound.{Sound}
use Rattle.machine_runs.specs.Laws.{PreludeOk, MayTurn}
use Rattle.machine_runs.specs.Opening.{opening, begun}
use Rattle.functions_stay.specs.Laws.{Keeps}
use Rattle.image_core.specs.Image.{Image}
use Rattle.image_load.specs.Session.{CanResume}
use Rattle.session_images.specs.Prelude.{HasFunctions, HasPrelude}
use Rattle.session_images.specs.Saved.{session_of, session_name, session_target, prelude_pairs, IsSmall}

-- a prelude that has the functions of the libraries, in the order of their keys
pub record IsLibrary (prelude : List (Entry Prototype)) : Type 0 where
  pub ok : PreludeOk prelude
  pub count : length prelude ≡ length function_keys

-- the world before a script has the prelude, and so has one in which a script begins
abbrev pub OpeningHasPrelude : Type 0
OpeningHasPrelude = (prelude : List (Entry Prototype)) → HasPrelude prelude (opening prelude)

abbrev pub BegunHasPrelude : Type 0
BegunHasPrelude = (prelude : List (Entry Prototype)) (W : World) (main : Prototype) → HasPrelude prelude W → HasPrelude prelude (begun W main)

-- whatever code does from a world that has the prelude's functions, they are still there
abbrev pub FunctionsAreKept : Type 0
FunctionsAreKept = (prelude : List (Entry Prototype)) (W V : World) → HasFunctions prelude W → Keeps W V → HasFunctions prelude V

-- the session of an image has the prelude
abbrev pub SessionHasPrelude : Type 0
SessionHasPrelude = (prelude : List (Entry Prototype)) (I : Image) (X : World) → session_of prelude I ≡ Some X → HasPrelude prelude X

-- a session of a sound world that waits for a line can be loaded into the world before a script
abbrev pub SavedCanResume : Type 0
SavedCanResume = (prelude : List (Entry Prototype)) → IsLibrary prelude → (W : World) → Sound (length all_entries) W → MayTurn W → HasPrelude prelude W → IsSmall W
    → CanResume (prelude_pairs (length prelude)) W (opening prelude) (session_target (opening prelude)) (session_name W)

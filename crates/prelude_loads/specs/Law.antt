-- That no value which a script reaches in a loaded session is the environment of the prelude.
use Rattle.std.specs.Prelude.{◌≡◌, List, length, Some}
use Rattle.code_core.specs.Prototype.{Prototype}
use Rattle.library_rows.specs.Library.{Entry, all_entries}
use Rattle.machine_core.specs.World.{World}
use Rattle.machine_sound.specs.Sound.{Sound}
use Rattle.machine_runs.specs.Laws.{MayTurn}
use Rattle.session_images.specs.Prelude.{HasPrelude}
use Rattle.session_images.specs.Saved.{session_image, session_of, IsSmall}
use Rattle.session_images.specs.Laws.{IsLibrary}
use Rattle.prelude_stays.specs.Laws.{home_of, PreludeGuarded, Stays}

-- where it is so in a session that waits for a line, it is so in the session of its image
abbrev pub LoadedStays : Type 0
LoadedStays = (prelude : List (Entry Prototype)) → IsLibrary prelude → PreludeGuarded prelude → (W X : World) → Sound (length all_entries) W → MayTurn W → HasPrelude prelude W → IsSmall W
    → Stays (home_of prelude) W → session_of prelude (session_image W) ≡ Some X → Stays (home_of prelude) X

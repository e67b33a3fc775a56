-- The image of a session, and the world in which it goes on.
use Rattle.std.specs.Prelude.{ℕ, ◌≡◌, false, cond, nat_eq, nat_lt, List, Option, Some, None, slice_get}
use Rattle.int_core.specs.Value.{a_table, a_function, a_coroutine, Value}
use Rattle.code_core.specs.Prototype.{Prototype}
use Rattle.library_rows.specs.Library.{Entry}
use Rattle.machine_core.specs.World.{World}
use Rattle.machine_alike.specs.Agree.{Pairs}
use Rattle.machine_runs.specs.Opening.{opening}
use Rattle.lua_meaning.specs.Libraries.{environment_table}
use Rattle.image_core.specs.Visit.{greatest_count}
use Rattle.image_core.specs.Image.{Item, Image}
use Rattle.image_core.specs.Records.{named, visited, parts_in_order, image_of}
use Rattle.image_core.specs.Loading.{Target}
use Rattle.image_load.specs.Session.{session_roots, session_loaded}
use Rattle.image_saved.specs.Permanents.{target}
use Rattle.session_images.specs.Permanents.{base_permanents}
use Rattle.session_images.specs.Prelude.{environment_cell}

-- what an image names without holding it
abbrev pub session_name : World → Value → Option Item
session_name W = named W.prelude_environment base_permanents

abbrev pub session_image : World → Image
session_image W = image_of W (session_roots W) base_permanents

-- a world without a script is what a session is loaded into
abbrev pub session_target : World → Target
session_target V = target V base_permanents

-- the session of an image in a new world of the libraries; none where its roots are no session's
abbrev pub session_of : (prelude : List (Entry Prototype)) → Image → Option World
session_of prelude I = session_loaded (session_target (opening prelude)) I (opening prelude)

-- what the permanents reach has the same number in each world that has the prelude

abbrev pub only : ℕ → ℕ → Option ℕ
only m n = cond (nat_eq m n) (Some n) None

abbrev pub below : ℕ → ℕ → Option ℕ
below count n = cond (nat_lt n count) (Some n) None

abbrev pub prelude_pairs : (count : ℕ) → Pairs
prelude_pairs count = record {
  objects = λ kind n. elim kind [ a_table ↦ only environment_table n | a_function ↦ below count n | a_coroutine ↦ None ];
  cells = only environment_cell;
}

-- the image of the session has fewer records than an image may have
pub record IsSmall (W : World) : Type 0 where
  pub reached : slice_get (visited W (session_name W) (λ _. false) (session_roots W)) greatest_count ≡ None
  pub written : slice_get (parts_in_order W (session_name W) (session_roots W)) greatest_count ≡ None

-- That what a sound world saves can be loaded: what soundness and the permanents give of the premises of loading.
use Rattle.std.specs.Prelude.{ℕ, ◌≡◌, List, Some, None, slice_get}
use Rattle.int_core.specs.Value.{Kind, a_coroutine, Value}
use Rattle.machine_core.specs.World.{open_at, World}
use Rattle.machine_alike.specs.Agree.{Pairs, SameCellNumber, objects_of, SameObjects}
use Rattle.machine_sound.specs.Sound.{Solid}
use Rattle.image_core.specs.Visit.{IsMet, greatest_count}
use Rattle.image_core.specs.Image.{Perm}
use Rattle.image_core.specs.Records.{an_object, a_cell, same_part, visited, parts_in_order, named}
use Rattle.image_core.specs.Loading.{Target}
use Rattle.image_load.specs.Loads.{CanLoad}
use Rattle.image_sound.specs.SoundImage.{IsTarget}
use Rattle.image_sound.specs.Savable.{Savable}
use Rattle.image_saved.specs.Permanents.{AreInverse, Reads}

-- W's roots are saved by the permanents `forth`, to be loaded into V, which knows the keys by `back`. What the permanents and the prelude's environment reach is paired
-- already, and is no part of what is written
pub record IsSaved (primitives : ℕ) (base : Pairs) (W V : World) (T : Target) (forth back : List Perm) (roots : List Value) : Type 0 where
  pub savable : Savable primitives W (named W.prelude_environment forth) roots
  pub solid : Solid primitives V
  pub target : IsTarget T V
  pub inverse : AreInverse base forth back
  pub reads : Reads base W.prelude_environment T back
  pub base_same : SameObjects base (objects_of W) (objects_of V)
  -- an image has fewer records than this
  pub few_reached : slice_get (visited W (named W.prelude_environment forth) (λ _. Rattle.std.specs.Prelude.false) roots) greatest_count ≡ None
  pub few_written : slice_get (parts_in_order W (named W.prelude_environment forth) roots) greatest_count ≡ None
  pub new_objects : (kind : Kind) (n : ℕ) → IsMet same_part (parts_in_order W (named W.prelude_environment forth) roots) (an_object kind n) → base.objects kind n ≡ None
  pub new_cells : (n : ℕ) → IsMet same_part (parts_in_order W (named W.prelude_environment forth) roots) (a_cell n) → base.cells n ≡ None
  -- no cell that the permanents reach is open in a coroutine that is written, and no cell that is written in a coroutine that they reach
  pub old_apart : (i j co frame register : ℕ) → SameCellNumber base i j → slice_get W.cells i ≡ Some (open_at co frame register) → IsMet same_part (parts_in_order W (named W.prelude_environment forth) roots) (an_object a_coroutine co) → ⊥
  pub new_apart : (n co frame register : ℕ) → IsMet same_part (parts_in_order W (named W.prelude_environment forth) roots) (a_cell n) → slice_get W.cells n ≡ Some (open_at co frame register) → base.objects a_coroutine co ≡ None

abbrev pub SavedCanLoad : Type 0
SavedCanLoad = (primitives : ℕ) (base : Pairs) (W V : World) (T : Target) (forth back : List Perm) (roots : List Value) → IsSaved primitives base W V T forth back roots
    → CanLoad base W V T (named W.prelude_environment forth) roots

-- What `load` comes to in memory, wherever sources are built as it met them.
use Rattle.std.specs.Prelude.{◌≡◌, ℕ, map}
use Rattle.int_core.specs.Value.{Shape, shape, nth}
use Rattle.code_core.specs.Prototype.{Prototype}
use Rattle.load_rows.specs.Loading.{Builds, Loaded, wrong, not_loaded, loaded, fitted, load_of}
use Rattle.source_builds.specs.Builds.{code_builds}
use Rattle.source_builds.specs.Readings.{AsRead}
use Rattle.library_arguments.specs.Refusals.{refusal_text}
use Rattle.lua_heap.specs.declared.world.World.{World as Memory}
use Rattle.lua_heap.specs.Reading.{value}
use Rattle.lib_load.specs.declared.reading.Loaded.{Loaded as Kept}
use Rattle.lib_load.specs.declared.reading.Loaded.TheVariants.{Wrong, NotLoaded, Loaded as KeptCode}

-- the shape of the value on its way of a place, from 0
abbrev pub shape_at : Memory → ℕ → Shape
shape_at W at = shape (nth (map (value W.strings) W.moving.items) at)

-- what `load` comes to with the values on their way
abbrev pub load_in : Memory → Builds Prototype → Loaded Prototype
load_in W builds = load_of builds (shape_at W 0) (shape_at W 1) (shape_at W 2)

-- which is the same in memory
abbrev pub IsToldBy : Loaded Prototype → Kept → Type 0
IsToldBy (wrong error) (Wrong refusal) = error ≡ refusal_text refusal
IsToldBy (not_loaded why) (NotLoaded text) = why ≡ fitted text.items
IsToldBy (loaded name p) (KeptCode code) = p ≡ code
IsToldBy _ _ = ⊥

abbrev pub ComesTo : (Builds Prototype → Loaded Prototype) → Kept → Type 0
ComesTo load kept = AsRead (λ builds. IsToldBy (load (code_builds builds)) kept)

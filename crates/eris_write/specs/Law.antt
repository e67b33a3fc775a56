-- That what was written could be written, as the laws on loading suppose it.
use Rattle.std.specs.Prelude.{ℕ, List, map}
use Rattle.table_core.specs.declared.value.Value.{Value as Kept}
use Rattle.image_core.specs.Records.{named}
use Rattle.image_sound.specs.Savable.{Savable}
use Rattle.lua_heap.specs.declared.world.World.{World as Memory}
use Rattle.lua_heap.specs.Plain.{plain}
use Rattle.lua_heap.specs.Reading.{value}
use Rattle.graph_core.specs.declared.permanents.Permanents.{Permanents}
use Rattle.graph_core.specs.Permanents.{permanents}
use Rattle.eris_write.specs.Persisting.{CanPersist, IsWritten}

-- no coroutine that the image has a record of runs or resumed another
abbrev pub WrittenIsSavable : Type 0
WrittenIsSavable = (W : Memory) (roots : List Kept) (ps : Permanents) (bytes : List ℕ) (fuel : ℕ) (c : CanPersist W roots) → IsWritten W roots ps bytes
    → Savable c.primitives (plain W fuel) (named W.prelude.env.0 (permanents ps)) (map (value W.strings) roots)

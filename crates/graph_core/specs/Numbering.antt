-- The numbering of what some roots reach, by the definition of images.
use Rattle.std.specs.Prelude.{◌≡◌, ℕ, false, List, map, Option, None, slice_get}
use Rattle.int_core.specs.Value.{Value}
use Rattle.table_core.specs.declared.value.Value.{Value as Kept}
use Rattle.image_core.specs.Image.{Item}
use Rattle.image_core.specs.Visit.{greatest_count}
use Rattle.image_core.specs.Records.{named, parts_in_order, visited}
use Rattle.lua_heap.specs.declared.world.World.{World as Memory}
use Rattle.lua_heap.specs.Plain.{plain}
use Rattle.lua_heap.specs.Reading.{value}
use Rattle.graph_core.specs.declared.numbering.Numbering.{Numbering}
use Rattle.graph_core.specs.declared.permanents.Permanents.{Permanents}
use Rattle.graph_core.specs.Objects.{part}
use Rattle.graph_core.specs.Permanents.{permanents}

abbrev pub names : Memory → Permanents → Value → Option Item
names W ps = named W.prelude.env.0 (permanents ps)

-- first what is reached where every open cell counts as its present value, then the order of first visit
pub record IsNumbering (W : Memory) (ps : Permanents) (roots : List Kept) (n : Numbering) : Type 0 where
  pub reached : (fuel : ℕ) → map part n.reached.keys ≡ visited (plain W fuel) (names W ps) (λ _. false) (map (value W.strings) roots)
  -- fewer than no image has
  pub few_reached : slice_get n.reached.keys greatest_count ≡ None
  pub few_ordered : slice_get n.order.keys greatest_count ≡ None
  pub order : (fuel : ℕ) → map part n.order.keys ≡ parts_in_order (plain W fuel) (names W ps) (map (value W.strings) roots)

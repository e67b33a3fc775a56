use Rattle.std.proofs.Common.{◌≡◌, ◌-◌, ℕ, map}
use Rattle.image_core.specs.Visit.{visit, greatest_count}
use Rattle.image_core.specs.Records.{same_part, parts, visited}
use Rattle.lua_heap.specs.Plain.{plain}
use Rattle.lua_heap.specs.Reading.{value}
use Rattle.graph_core.specs.Objects.{part}
use Rattle.graph_core.specs.Walk.{name_in, inside_in, texts_in}
use Rattle.graph_core.proofs.walk.Walk.visit.Given as goal

abbrev pub invariant-loop-at : goal.invariant-loop-at
invariant-loop-at l = (fuel : ℕ) → visit same_part (parts (plain l.self.world.now fuel) (name_in l.self) (inside_in l.self)) (greatest_count - l.at) l.at (map part l.seen.keys)
    ≡ visited (plain l.self.world.now fuel) (name_in l.self) (inside_in l.self) (map (value (texts_in l.self)) l.roots)

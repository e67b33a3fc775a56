use Rattle.std.proofs.Common.{◌≡◌, List, map, take, length}
use Rattle.image_core.specs.Image.{Record}
use Rattle.image_core.specs.Loading.{Target, value_made}
use Rattle.lua_heap.specs.Reading.{value}
use Rattle.image_records.specs.Views.{item}
use Rattle.image_made.specs.Making.{IsMaker}
use Rattle.image_made.proofs.making.Maker.values.Given as goal

abbrev pub invariant-loop-at : goal.invariant-loop-at
invariant-loop-at l = record {
  count : length l.values.items ≡ l.at;
  are : (T : Target) (rs : List Record) → IsMaker T rs l.self → map (value l.strings) l.values.items ≡ map (λ i. value_made T rs (item i)) (take l.at l.items);
}

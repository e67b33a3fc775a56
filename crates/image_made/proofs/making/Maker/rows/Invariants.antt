use Rattle.std.proofs.Common.{◌≡◌, List, map, take, None}
use Rattle.image_core.specs.Image.{Record}
use Rattle.image_core.specs.Loading.{Target, row_made}
use Rattle.lua_heap.specs.Reading.{row as row_read}
use Rattle.image_records.specs.Views.{row}
use Rattle.image_made.specs.Making.{IsMaker}
use Rattle.image_made.proofs.making.Maker.rows.Given as goal

abbrev pub invariant-loop-at : goal.invariant-loop-at
invariant-loop-at l = record {
  rows : (T : Target) (rs : List Record) → IsMaker T rs l.self → map (row_read l.strings) l.table.rows ≡ map (λ r. row_made T rs (row r)) (take l.at l.rows);
  metatable : l.table.metatable ≡ None;
}

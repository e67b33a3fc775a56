use Rattle.std.proofs.Common.{◌≡◌, ◌-◌, [], map}
use Rattle.image_bytes.specs.Bytes.{scan_rows}
use Rattle.image_reading.specs.Rows.{AreKeysOf, behind}
use Rattle.image_reading.specs.Says.{reader_in}
use Rattle.image_records.specs.Views.{row}
use Rattle.image_reading.proofs.Fronts.{with_front}
use Rattle.image_reading.proofs.input.Input.rows.Given as goal

abbrev pub invariant-loop : goal.invariant-loop
invariant-loop l = record {
  keys : AreKeysOf l.context.known.now l.keys.keys (behind [] (map row l.rows.items));
  front : with_front (map row l.rows.items) (scan_rows (reader_in l.context) (l.count - l.counter) (behind [] (map row l.rows.items)) l.self.met l.self.bytes)
      ≡ scan_rows (reader_in l.context) l.count [] l.fn.self.met l.fn.self.bytes;
}

use Rattle.std.proofs.Common.{◌≡◌, map, drop}
use Rattle.image_bytes.specs.Bytes.{scan_records}
use Rattle.image_reading.specs.Says.{reader_in}
use Rattle.image_records.specs.Views.{record_read, sort}
use Rattle.image_reading.proofs.Fronts.{with_front}
use Rattle.image_reading.proofs.input.Input.records.Given as goal

abbrev pub invariant-loop-at : goal.invariant-loop-at
invariant-loop-at l =
    with_front (map record_read l.records.items) (scan_records (reader_in l.context) l.at (drop l.at (map sort l.context.sorts.now)) l.self.met l.self.bytes)
    ≡ scan_records (reader_in l.context) 0 (map sort l.context.sorts.now) l.fn.self.met l.fn.self.bytes

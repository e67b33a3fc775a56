use Rattle.std.proofs.Common.{◌≡◌, ◌-◌, map}
use Rattle.image_bytes.specs.Format.{scan_times}
use Rattle.image_bytes.specs.Bytes.{item_format}
use Rattle.image_reading.specs.Says.{reader_in}
use Rattle.image_records.specs.Views.{item}
use Rattle.image_reading.proofs.Fronts.{with_front}
use Rattle.image_reading.proofs.input.Input.items_of.Given as goal

abbrev pub invariant-loop : goal.invariant-loop
invariant-loop l =
    with_front (map item l.items.items) (scan_times (item_format (reader_in l.context)) (l.count - l.counter) l.self.met l.self.bytes)
    ≡ scan_times (item_format (reader_in l.context)) l.count l.fn.self.met l.fn.self.bytes

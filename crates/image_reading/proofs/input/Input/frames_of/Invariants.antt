use Rattle.std.proofs.Common.{◌≡◌, ◌-◌, map}
use Rattle.image_bytes.specs.Format.{scan_times}
use Rattle.image_bytes.specs.Bytes.{frame_format}
use Rattle.image_reading.specs.Says.{reader_in}
use Rattle.image_records.specs.Views.{frame}
use Rattle.image_reading.proofs.Fronts.{with_front}
use Rattle.image_reading.proofs.input.Input.frames_of.Given as goal

abbrev pub invariant-loop : goal.invariant-loop
invariant-loop l =
    with_front (map frame l.frames.items) (scan_times (frame_format (reader_in l.context)) (l.count - l.counter) l.self.met l.self.bytes)
    ≡ scan_times (frame_format (reader_in l.context)) l.count l.fn.self.met l.fn.self.bytes

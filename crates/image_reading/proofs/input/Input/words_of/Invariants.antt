use Rattle.std.proofs.Common.{◌≡◌, ◌-◌}
use Rattle.image_bytes.specs.Format.{scan_times}
use Rattle.image_bytes.specs.Format.{word}
use Rattle.image_reading.proofs.Fronts.{with_front}
use Rattle.image_reading.proofs.input.Input.words_of.Given as goal

abbrev pub invariant-loop : goal.invariant-loop
invariant-loop l =
    with_front l.words.items (scan_times (word) (l.count - l.counter) l.self.met l.self.bytes)
    ≡ scan_times (word) l.count l.fn.self.met l.fn.self.bytes

use Rattle.std.proofs.Common.{◌≡◌, ◌-◌, map}
use Rattle.image_bytes.specs.Format.{scan_times}
use Rattle.std.specs.Prelude.{nat_lt, nat_le, ◌&&◌}
use Rattle.image_bytes.specs.Format.{tested, byte, of_kind}
use Rattle.image_records.specs.Views.{sort}
use Rattle.image_reading.proofs.Fronts.{with_front}
use Rattle.image_reading.proofs.input.Input.sorts_of.Given as goal

abbrev pub invariant-loop : goal.invariant-loop
invariant-loop l =
    with_front (map sort l.sorts.items) (scan_times (tested (λ s. nat_lt 0 s && nat_le s 4) (λ s. of_kind 5) byte) (l.count - l.counter) l.self.met l.self.bytes)
    ≡ scan_times (tested (λ s. nat_lt 0 s && nat_le s 4) (λ s. of_kind 5) byte) l.count l.fn.self.met l.fn.self.bytes

use Rattle.std.proofs.Common.{◌≡◌, ◌-◌, [], ◌∷◌, map}
use Rattle.image_bytes.specs.Format.{scan_times}
use Rattle.image_bytes.specs.Bytes.{reference}
use Rattle.image_records.specs.Views.{sort}
use Rattle.image_reading.proofs.Fronts.{with_front}
use Rattle.image_reading.proofs.input.Input.cells.Given as goal

abbrev pub invariant-loop : goal.invariant-loop
invariant-loop l =
    with_front l.cells.items (scan_times (reference (map sort l.context.sorts.now) (3 ∷ [])) (l.count - l.counter) l.self.met l.self.bytes)
    ≡ scan_times (reference (map sort l.context.sorts.now) (3 ∷ [])) l.count l.fn.self.met l.fn.self.bytes

use Rattle.std.proofs.lemmas.Int.{to_z-of_z}
use Rattle.std.specs.Int.{w64}
use Rattle.std.specs.Int.RustNames.{FitsSigned}
use Rattle.machine_arms_numbers.proofs.BitRows.{up_so, down_so}
use Rattle.machine_arms_numbers.proofs.jumps.further_rounds.Goals as goal

pub returns-then-step-ge0 : goal.returns-then-step-ge0
returns-then-step-ge0 c =
    let fits_from = c.ranges.from in
    let fits_limit = c.ranges.limit in
    let fits_step = c.ranges.step in
    let fits : FitsSigned w64 c.cast_signed.result = record { sfits = c.cast_signed.type_inv } in
    let s = simp to_z-of_z at c.if-step-ge0.true in
    let d = simp to_z-of_z at c.distance.ensures in
    let u = simp to_z-of_z at c.unsigned_abs.ensures.value in
    simp to_z-of_z (up_so c.args.from c.args.limit c.args.step _ _ _ c.requires.step s d c.distance.type_inv u c.cast_signed.ensures)

pub returns : goal.returns
returns c =
    let fits_from = c.ranges.from in
    let fits_limit = c.ranges.limit in
    let fits_step = c.ranges.step in
    let fits : FitsSigned w64 c.cast_signed-2.result = record { sfits = c.cast_signed-2.type_inv } in
    let s = simp to_z-of_z at c.if-step-ge0.false in
    let d = simp to_z-of_z at c.distance-2.ensures in
    let u = simp to_z-of_z at c.unsigned_abs-2.ensures.value in
    simp to_z-of_z (down_so c.args.from c.args.limit c.args.step _ _ _ c.requires.step s d c.distance-2.type_inv u c.cast_signed-2.ensures)

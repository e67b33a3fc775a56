use Rattle.std.proofs.Common.{◌∙◌, ap, refl}
use Rattle.std.proofs.lemmas.Int.{to_z-of_z}
use Rattle.std.specs.Int.{w64, cast_signed}
use Rattle.std.specs.Int.RustNames.{FitsSigned}
use Rattle.int_core.specs.Arithmetic.{neg}
use Rattle.int_core.proofs.FloorLemmas.{floor_div-same_sign, floor_div-other_sign}
use Rattle.int_core.proofs.arithmetic.floor_div.Goals as goal

pub returns-then-a-b : goal.returns-then-a-b
returns-then-a-b c =
    let a = c.args.a in
    let b = c.args.b in
    let fits_a = c.ranges.a in
    let fits_b = c.ranges.b in
    let fits : FitsSigned w64 c.cast_signed.result = record { sfits = c.cast_signed.type_inv } in
    let same = simp to_z-of_z at c.if-a-b.true in
    let x = simp to_z-of_z at c.unsigned_abs-dividend.ensures.value in
    let y = simp to_z-of_z at c.unsigned_abs-divisor.ensures.value in
    simp to_z-of_z (c.cast_signed.ensures ∙ rw (x, y) (floor_div-same_sign a b fits_a c.requires same))

pub returns-else-a-b : goal.returns-else-a-b
returns-else-a-b c =
    let a = c.args.a in
    let b = c.args.b in
    let fits_a = c.ranges.a in
    let fits_b = c.ranges.b in
    let fits_ceil : FitsSigned w64 c.cast_signed-else-a-b.result = record { sfits = c.cast_signed-else-a-b.type_inv } in
    let fits : FitsSigned w64 c.neg.result = record { sfits = c.neg.type_inv } in
    let other = simp to_z-of_z at c.if-a-b.false in
    let x = simp to_z-of_z at c.unsigned_abs-dividend.ensures.value in
    let y = simp to_z-of_z at c.unsigned_abs-divisor.ensures.value in
    let negated = simp to_z-of_z at c.neg.ensures in
    simp to_z-of_z (negated ∙ ap neg (c.cast_signed-else-a-b.ensures ∙ ap (cast_signed w64) (c.div_ceil.ensures ∙ rw (x, y) refl)) ∙ floor_div-other_sign a b fits_a c.requires other)

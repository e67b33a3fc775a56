use Rattle.std.proofs.Common.{◌∙◌, ap}
use Rattle.std.proofs.lemmas.Int.{to_z-of_z}
use Rattle.std.specs.Int.{w64}
use Rattle.std.specs.Int.RustNames.{FitsSigned}
use Rattle.int_core.specs.Arithmetic.{sub, mul}
use Rattle.int_core.proofs.FloorLemmas.{floor_mod-steps}
use Rattle.int_core.proofs.arithmetic.floor_mod.Goals as goal

pub returns : goal.returns
returns c =
    let a = c.args.a in
    let b = c.args.b in
    let fits_a = c.ranges.a in
    let fits_b = c.ranges.b in
    let fits_q : FitsSigned w64 c.floor_div.result = record { sfits = c.floor_div.type_inv } in
    let fits_p : FitsSigned w64 c.mul.result = record { sfits = c.mul.type_inv } in
    let fits : FitsSigned w64 c.sub.result = record { sfits = c.sub.type_inv } in
    let quotient = simp to_z-of_z at c.floor_div.ensures in
    let product = simp to_z-of_z at c.mul.ensures in
    let difference = simp to_z-of_z at c.sub.ensures in
    simp to_z-of_z (difference ∙ ap (sub a) (product ∙ ap (mul b) quotient) ∙ floor_mod-steps a b c.requires fits_b)

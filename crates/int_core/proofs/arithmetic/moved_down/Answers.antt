use Rattle.std.proofs.Common.{◌/◌, ◌^◌, ◌∙◌, ap}
use Rattle.std.proofs.lemmas.Int.{to_z-of_z}
use Rattle.std.specs.Int.{w64, cast_signed, cast_unsigned}
use Rattle.std.specs.Int.RustNames.{FitsSigned}
use Rattle.int_core.proofs.WrappedLemmas.{moved_down-below}
use Rattle.int_core.proofs.arithmetic.moved_down.Goals as goal

pub returns-then-places-lt64 : goal.returns-then-places-lt64
returns-then-places-lt64 c =
    let a = c.args.a in
    let places = c.args.places in
    let fits : FitsSigned w64 c.cast_signed.result = record { sfits = c.cast_signed.type_inv } in
    to_z-of_z w64 c.cast_signed.result fits
    ∙ c.cast_signed.ensures
    ∙ ap (λ n. cast_signed w64 (n / 2 ^ places)) (c.cast_unsigned.ensures ∙ ap (cast_unsigned w64) (to_z-of_z w64 a c.ranges.a))
    ∙ moved_down-below a places c.ranges.a c.if-places-lt64.true

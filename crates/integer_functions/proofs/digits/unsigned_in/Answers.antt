use Rattle.std.proofs.Common.{ap, ◌∙◌}
use Rattle.std.proofs.lemmas.Int.{to_z-of_z}
use Rattle.std.specs.Int.{w64}
use Rattle.std.specs.Int.RustNames.{FitsSigned}
use Rattle.int_core.specs.Arithmetic.{wrapped}
use Rattle.int_core.specs.Numeral.{digits_value, signed}
use Rattle.int_core.proofs.NumeralLemmas.{wrapped-signed-mod}
use Rattle.integer_functions.proofs.DigitSums.{unsigned_known}
use Rattle.integer_functions.proofs.digits.unsigned_in.Goals as goal

pub returns : goal.returns
returns c =
    let digits = c.in_ok-digits.digits.now in
    let fits : FitsSigned w64 c.with_sign.result = record { sfits = c.with_sign.type_inv } in
    simp to_z-of_z (unsigned_known c.args.base c.args.negative c.args.text.now digits c.with_sign.result c.in_ok-digits.ensures.value
    (c.with_sign.ensures ∙ ap (λ n. wrapped (signed c.args.negative n)) c.wrapped_value.ensures ∙ wrapped-signed-mod c.args.negative (digits_value c.args.base digits)))

use Rattle.std.proofs.Common.{Some, ◌∙◌, ap}
use Rattle.std.proofs.lemmas.Int.{to_z-of_z}
use Rattle.std.specs.Int.{w64}
use Rattle.std.specs.Int.RustNames.{FitsSigned}
use Rattle.int_core.specs.Numeral.{digits_value}
use Rattle.int_core.proofs.NumeralLemmas.{wrapped-signed-mod}
use Rattle.int_core.proofs.numeral.hexadecimal.Goals as goal

pub returns : goal.returns
returns c =
    let digits = c.in_ok-digits_of.field-0.now in
    let fits : FitsSigned w64 c.with_sign.result = record { sfits = c.with_sign.type_inv } in
    rw (← c.in_ok-digits_of.ensures.value) (ap Some (simp to_z-of_z (c.with_sign.ensures ∙ rw c.wrapped_value.ensures (wrapped-signed-mod c.args.negative (digits_value 16 digits)))))

use Rattle.std.proofs.Common.{◌≡◌, ◌%◌, ◌^◌, take}
use Rattle.int_core.specs.Numeral.{digits_value}
use Rattle.int_core.proofs.numeral.wrapped_value.Given as goal

abbrev pub invariant-loop-digit : goal.invariant-loop-digit
invariant-loop-digit l = l.value ≡ digits_value 16 (take l.digit-index l.digits) % 2 ^ 64

use Rattle.std.proofs.Common.{◌≡◌, ◌%◌, ◌^◌, take}
use Rattle.int_core.specs.Numeral.{digits_value}
use Rattle.integer_functions.proofs.digits.wrapped_value.Given as goal

abbrev pub invariant-loop-digit : goal.invariant-loop-digit
invariant-loop-digit l = l.value ≡ digits_value l.base (take l.digit-index l.digits) % 2 ^ 64

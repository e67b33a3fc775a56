-- What the check of a function answers. The type of checked code says that it meets the rules.
use Rattle.std.specs.Prelude.{◌≡◌, Some, Result, Ok, Err}
use Rattle.code_core.specs.Prototype.{Prototype}
use Rattle.chunk_check.specs.declared.fault.CheckFault.{CheckFault}
use Rattle.chunk_check.specs.declared.fault.CheckFault.TheVariants.{Refused, Memory}
use Rattle.chunk_check.specs.Faults.{first_fault}

abbrev pub CheckAnswers : Prototype → Result Prototype CheckFault → Type 0
CheckAnswers p (Ok checked) = checked ≡ p
CheckAnswers p (Err (Refused function pc rule)) = first_fault p ≡ Some (record { function = function; pc = pc; rule = rule })
CheckAnswers p (Err Memory) = ⊥

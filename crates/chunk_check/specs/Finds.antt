-- What a walk through code answers: the first of some faults, or that there is none.
use Rattle.std.specs.Prelude.{◌≡◌, List, [], Some, Result, Ok, Err, slice_get}
use Rattle.chunk_check.specs.declared.fault.CheckFault.{CheckFault}
use Rattle.chunk_check.specs.declared.fault.CheckFault.TheVariants.{Refused, Memory}
use Rattle.chunk_check.specs.Faults.{Fault}

abbrev pub IsFirst : List Fault → CheckFault → Type 0
IsFirst found (Refused function pc rule) = slice_get found 0 ≡ Some (record { function = function; pc = pc; rule = rule })
IsFirst found Memory = ⊥

abbrev pub Finds : {A : Type 0} → List Fault → Result A CheckFault → Type 0
Finds found (Ok x) = found ≡ []
Finds found (Err fault) = IsFirst found fault

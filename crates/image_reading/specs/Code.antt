-- What is told of the bytes of a function.
use Rattle.std.specs.Prelude.{◌≡◌, [], Option, Some, None, cond, Result, Ok, Err}
use Rattle.code_core.specs.Prototype.{Prototype}
use Rattle.chunk_check.specs.Faults.{first_fault}
use Rattle.chunk_format.specs.Reading.{Got, read}
use Rattle.image_reading.specs.declared.fault.ReadFault.{ReadFault}
use Rattle.image_reading.specs.declared.fault.ReadFault.TheVariants.{Refused, Memory}
use Rattle.image_reading.specs.declared.fault.Refusal.TheVariants.{Code}
use Rattle.image_reading.specs.Reader.{no_fault}

-- the function that was read, where nothing was left over
abbrev pub whole : Got Prototype → Option Prototype
whole (read p []) = Some p
whole _ = None

abbrev pub if_checked : Prototype → Option Prototype
if_checked p = cond (no_fault (first_fault p)) (Some p) None

abbrev pub checked : Option Prototype → Option Prototype
checked None = None
checked (Some p) = if_checked p

abbrev pub Tells : Option Prototype → Result Prototype ReadFault → Type 0
Tells found (Ok p) = found ≡ Some p
Tells found (Err (Refused why)) = (found ≡ None) × (why ≡ Code)
Tells found (Err Memory) = Unit {0}

abbrev pub TellsFunction : Got Prototype → Result Prototype ReadFault → Type 0
TellsFunction got = Tells (whole got)

abbrev pub TellsCode : Got Prototype → Result Prototype ReadFault → Type 0
TellsCode got = Tells (checked (whole got))

abbrev pub own : Prototype → Prototype
own p = p

-- The first fault, in the words of the format of images.
use Rattle.std.specs.Prelude.{Some}
use Rattle.image_bytes.specs.Format.{Fault, of_kind}
use Rattle.image_records.specs.Views.{key}
use Rattle.image_reading.specs.declared.fault.Refusal.{Refusal}
use Rattle.image_reading.specs.declared.fault.Refusal.TheVariants.{Signature, Version, CutOff, OutOfRange, OutOfPlace, Code, Missing, OtherSort, Unfit, LeftOver}

abbrev pub fault : Refusal → Fault
fault Signature = of_kind 1
fault Version = of_kind 2
fault CutOff = of_kind 3
fault OutOfRange = of_kind 4
fault OutOfPlace = of_kind 5
fault Code = of_kind 6
fault (Missing name) = record { kind = 7; key = Some (key name) }
fault (OtherSort name) = record { kind = 8; key = Some (key name) }
fault Unfit = of_kind 9
fault LeftOver = of_kind 10

-- What the functions that make a text answer, beside the outcome of a row.
use Rattle.std.specs.Prelude.{◌≡◌, ◌<◌, ℕ, ℤ, List, Option, Some, None, Result, Ok, Err, codes}
use Rattle.std.specs.declared.alloc.Global.{Global}
use Rattle.std.specs.declared.vec.Vec.{Vec}
use Rattle.int_core.specs.Value.{string, Shape, is_known, greatest_string}
use Rattle.library_rows.specs.Plainly.{Outcome, error, too_large}
use Rattle.library_rows.specs.Arguments.{bad_argument, one}
use Rattle.library_rows.specs.Strings.{byte_in}
use Rattle.text_functions.specs.declared.fault.StringFault.{StringFault}
use Rattle.text_functions.specs.declared.fault.StringFault.TheVariants.{TooLarge, Memory}

-- the text is the outcome, or it has no room and the outcome is that error; want of memory says nothing
abbrev pub IsMade : Result (Vec ℕ Global) StringFault → Outcome → Type 0
IsMade (Ok bytes) told = told ≡ one (string bytes.items)
IsMade (Err TooLarge) told = told ≡ error too_large
IsMade (Err Memory) told = Unit {0}

-- a text of so many bytes is refused as too large where it is, else memory ran out
abbrev pub IsFaultOf : ℕ → {A : Type 0} → Result A StringFault → Type 0
IsFaultOf len (Ok x) = Unit {0}
IsFaultOf len (Err TooLarge) = greatest_string < len
IsFaultOf len (Err Memory) = Unit {0}

-- what `char` makes of an integer: its byte, or the error of the argument of any number
abbrev pub IsByteOf : ℤ → Option ℕ → Type 0
IsByteOf n (Some byte) = (i : ℕ) → byte_in i n ≡ Ok byte
IsByteOf n None = (i : ℕ) → byte_in i n ≡ Err (bad_argument i (codes "char") (codes "value out of range"))

-- a text as an argument
abbrev pub text_shape : List ℕ → Shape
text_shape text = is_known (string text)

-- Tables as lists of values at 1, 2, 3 and so on.
use Rattle.std.specs.Prelude.{◌≡◌, ℕ, zero, suc, ◌<◌, ◌≤◌, ◌^◌, ℤ, pos, List, [], ◌∷◌, length, Option, Some, None, Result, Ok, Err}
use Rattle.std.specs.declared.alloc.Global.{Global}
use Rattle.std.specs.declared.vec.Vec.{Vec}
use Rattle.int_core.specs.Heap.{Heap, raw_get}
use Rattle.int_core.specs.Value.{Value, known, integer, Shape, greatest_string}
use Rattle.library_rows.specs.Arguments.{integer_argument}
use Rattle.library_rows.specs.Look.{or_nil}
use Rattle.library_rows.specs.Searches.{natural}
use Rattle.library_arguments.specs.Refusals.{refusal_text}
use Rattle.library_arguments.specs.declared.refusal.Fault.{Fault}
use Rattle.library_arguments.specs.declared.refusal.Fault.TheVariants.{Refused, Memory}
use Rattle.library_arguments.specs.declared.refusal.Refusal.{Refusal}
use Rattle.library_rows.specs.Plainly.{too_large}
use Rattle.text_functions.specs.declared.fault.StringFault.{StringFault}
use Rattle.text_functions.specs.declared.fault.StringFault.TheVariants.{TooLarge, Memory as NoMemory}

-- the value at an integer
abbrev pub item : Heap → Value → ℕ → Value
item H t i = or_nil (raw_get H t (known (integer (pos i))))

-- the values at so many integers from i on
abbrev pub items_from : Heap → Value → (many i : ℕ) → List Value
items_from H t zero i = []
items_from H t (suc many) i = item H t i ∷ items_from H t many (suc i)

-- an integer as a number of items
pub record IsCounted (function : List ℕ) (seen : Shape) (many : ℕ) : Type 0 where
  pub n : ℤ
  pub read : integer_argument function 2 seen ≡ Ok n
  pub many_is : natural n ≡ many
  pub small : many < 2 ^ 63

-- the number of items, or the error
abbrev pub IsCount : List ℕ → Shape → Result ℕ Refusal → Type 0
IsCount function seen (Ok many) = IsCounted function seen many
IsCount function seen (Err why) = integer_argument function 2 seen ≡ Err (refusal_text why)

-- a text, or the error in its place; want of memory says nothing
abbrev pub IsText : Result (Vec ℕ Global) Fault → Result (List ℕ) (List ℕ) → Type 0
IsText (Ok text) told = (told ≡ Ok text.items) × (length text.items ≤ greatest_string)
IsText (Err (Refused why)) told = told ≡ Err (refusal_text why)
IsText (Err Memory) told = Unit {0}

-- the text of an error; want of memory has none
abbrev pub refused_text : Fault → Option (List ℕ)
refused_text (Refused why) = Some (refusal_text why)
refused_text Memory = None

-- the error of a text that is not made
abbrev pub IsFaultOf : StringFault → Fault → Type 0
IsFaultOf TooLarge fault = refused_text fault ≡ Some too_large
IsFaultOf NoMemory fault = refused_text fault ≡ None

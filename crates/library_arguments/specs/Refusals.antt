-- The texts of errors.
use Rattle.std.specs.Prelude.{◌≡◌, ℕ, List, ◌++◌, Option, Some, None, Result, Ok, Err, codes}
use Rattle.library_rows.specs.Arguments.{bad_argument}
use Rattle.library_arguments.specs.declared.refusal.Fault.{Fault}
use Rattle.library_arguments.specs.declared.refusal.Fault.TheVariants.{Refused, Memory}
use Rattle.library_arguments.specs.declared.refusal.Refusal.{Refusal}
use Rattle.library_arguments.specs.declared.refusal.Refusal.TheVariants.{WrongType, BadArgument, Text}

abbrev pub refusal_text : Refusal → List ℕ
refusal_text (WrongType place function wanted got) = bad_argument place function.now (wanted.now ++ codes " expected, got " ++ got.now)
refusal_text (BadArgument place function what) = bad_argument place function.now what.now
refusal_text (Text text) = text.now

-- the text of a fault; want of memory has none
abbrev pub fault_text : Fault → Option (List ℕ)
fault_text (Refused why) = Some (refusal_text why)
fault_text Memory = None

-- an argument is read as the rows do: to the same value, or to the error's text
abbrev pub IsRead : {A B : Type 0} → (A → B) → Result A Refusal → Result B (List ℕ) → Type 0
IsRead view (Ok x) told = told ≡ Ok (view x)
IsRead view (Err why) told = told ≡ Err (refusal_text why)

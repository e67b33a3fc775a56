-- The faults of the functions on texts and patterns, as errors of rows.
use Rattle.std.specs.Prelude.{◌≡◌, ◌<◌, ℕ, List, Option, Some, None, Result, Ok, Err, codes}
use Rattle.int_core.specs.Value.{greatest_string}
use Rattle.lua_pattern.specs.declared.answer.PatternFault.{PatternFault}
use Rattle.lua_pattern.specs.declared.answer.PatternFault.TheVariants as of_pattern
use Rattle.text_functions.specs.declared.fault.StringFault.{StringFault}
use Rattle.text_functions.specs.declared.fault.StringFault.TheVariants as of_string
use Rattle.library_rows.specs.Plainly.{too_large}
use Rattle.library_rows.specs.Searches.{rule_text}
use Rattle.library_arguments.specs.declared.refusal.Fault.{Fault}
use Rattle.library_arguments.specs.declared.refusal.Fault.TheVariants.{Refused, Memory}
use Rattle.library_arguments.specs.Refusals.{refusal_text}

-- the text of a fault; want of memory has none

abbrev pub string_fault_text : StringFault → Option (List ℕ)
string_fault_text of_string.TooLarge = Some too_large
string_fault_text of_string.Memory = None

abbrev pub pattern_fault_text : PatternFault → Option (List ℕ)
pattern_fault_text (of_pattern.Malformed rule) = Some (rule_text rule)
pattern_fault_text of_pattern.TooComplex = Some (codes "pattern too complex")
pattern_fault_text of_pattern.Memory = None

-- a text of so many bytes is refused as too large where it is, else memory ran out
abbrev pub IsNoRoom : ℕ → {A : Type 0} → Result A Fault → Type 0
IsNoRoom len (Ok x) = Unit {0}
IsNoRoom len (Err (Refused why)) = (greatest_string < len) × (refusal_text why ≡ too_large)
IsNoRoom len (Err Memory) = Unit {0}

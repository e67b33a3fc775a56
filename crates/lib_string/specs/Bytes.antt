-- The bytes that `char` puts together, and texts whose bytes are changed.
use Rattle.std.specs.Prelude.{ℕ, List, Result, codes, map, reverse}
use Rattle.int_core.specs.Value.{Shape}
use Rattle.library_rows.specs.Arguments.{integer_argument}
use Rattle.library_rows.specs.Formats.{then_ok}
use Rattle.library_rows.specs.Plainly.{Outcome}
use Rattle.library_rows.specs.Strings.{byte_in, lower_byte, lower_row, reverse_row, upper_byte, upper_row}
use Rattle.lib_string.specs.declared.bytes.Change.{Change}
use Rattle.lib_string.specs.declared.bytes.Change.TheVariants.{Lower, Reverse, Upper}

-- the byte that an argument is, or the error's text
abbrev pub byte_argument : ℕ → Shape → Result ℕ (List ℕ)
byte_argument i s = then_ok (integer_argument (codes "char") i s) (λ n. byte_in i n)

-- changed texts

abbrev pub change_name : Change → List ℕ
change_name Lower = codes "lower"
change_name Reverse = codes "reverse"
change_name Upper = codes "upper"

abbrev pub changed : Change → List ℕ → List ℕ
changed Lower = map lower_byte
changed Reverse = reverse
changed Upper = map upper_byte

abbrev pub change_row : Change → List Shape → Outcome
change_row Lower = lower_row
change_row Reverse = reverse_row
change_row Upper = upper_row

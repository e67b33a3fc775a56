-- The row of each function of this crate.
use Rattle.std.specs.Prelude.{true, false, List}
use Rattle.int_core.specs.Value.{Shape}
use Rattle.library_rows.specs.Codepoints.{utf8_char_row, utf8_codepoint_row, utf8_codes_row, utf8_len_row, utf8_offset_row, walks}
use Rattle.library_rows.specs.Formats.{kinds_row, layout_row}
use Rattle.library_rows.specs.Integers.{math_abs_row, math_fmod_row, math_max_row, math_min_row, math_tointeger_row, math_type_row, math_ult_row}
use Rattle.library_rows.specs.Library.{walk_number, walk_lax_number}
use Rattle.library_rows.specs.Plainly.{Outcome}
use Rattle.library_rows.specs.Searches.{find_row, match_row}
use Rattle.library_rows.specs.Strings.{byte_row, char_row, from_row, len_row, lower_row, rep_row, reverse_row, sub_row, toint_row, tonumber_row, upper_row}
use Rattle.pure_functions.specs.declared.calls.Function.{Function}
use Rattle.pure_functions.specs.declared.calls.Function.TheVariants.{Math, OverTexts}
use Rattle.pure_functions.specs.declared.texts.Function.{Function as TextFunction}
use Rattle.pure_functions.specs.declared.texts.Function.TheVariants.{Byte, Char, Find, From, Kinds, Layout, Len, Lower, Match, Rep, Reverse, Sub, ToInteger as TextInteger, ToNumber, Upper, Utf8Char, Utf8Codepoint, Utf8Codes, Utf8Len, Utf8Offset, Walk, WalkLax}
use Rattle.pure_functions.specs.declared.math.Function.{Function as MathFunction}
use Rattle.pure_functions.specs.declared.math.Function.TheVariants.{Abs, Fmod, Max, Min, ToInteger, TypeOf as MathType, Ult}

abbrev pub math_row : MathFunction → List Shape → Outcome
math_row Abs = math_abs_row
math_row Fmod = math_fmod_row
math_row Max = math_max_row
math_row Min = math_min_row
math_row ToInteger = math_tointeger_row
math_row MathType = math_type_row
math_row Ult = math_ult_row

abbrev pub text_row : TextFunction → List Shape → Outcome
text_row Byte = byte_row
text_row Char = char_row
text_row Find = find_row
text_row From = from_row
text_row Kinds = kinds_row
text_row Layout = layout_row
text_row Len = len_row
text_row Lower = lower_row
text_row Match = match_row
text_row Rep = rep_row
text_row Reverse = reverse_row
text_row Sub = sub_row
text_row TextInteger = toint_row
text_row ToNumber = tonumber_row
text_row Upper = upper_row
text_row Utf8Char = utf8_char_row
text_row Utf8Codepoint = utf8_codepoint_row
text_row Utf8Codes = utf8_codes_row walk_number walk_lax_number
text_row Utf8Len = utf8_len_row
text_row Utf8Offset = utf8_offset_row
text_row Walk = walks false
text_row WalkLax = walks true

abbrev pub plain_row : Function → List Shape → Outcome
plain_row (Math function) = math_row function
plain_row (OverTexts function) = text_row function

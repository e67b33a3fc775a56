-- What functions give without a list.
use Rattle.std.specs.Prelude.{◌≡◌, ℤ, List, [], ◌∷◌, Option, Some, None}
use Rattle.int_core.specs.Value.{Plain, nil, integer, string, Shape, is_known}
use Rattle.library_rows.specs.Plainly.{Outcome, results}
use Rattle.lib_string.specs.declared.quick.Quick.{Quick}
use Rattle.lib_string.specs.declared.quick.Span.{Span}
use Rattle.lib_string.specs.declared.quick.Quick.TheVariants.{Nothing, Integer, Text, Places}

abbrev pub quick_of : Quick → List Plain
quick_of Nothing = nil ∷ []
quick_of (Integer n) = integer n ∷ []
quick_of (Text bytes) = string bytes.now ∷ []
quick_of (Places first last) = integer first ∷ integer last ∷ []

-- what is given, where anything is, is what is told
abbrev pub IsQuick : Option Quick → Outcome → Type 0
IsQuick None told = Unit {0}
IsQuick (Some quick) told = told ≡ results (quick_of quick)

-- what is seen of a text, a place, and a second place or none

abbrev pub place_seen : Option ℤ → Shape
place_seen None = is_known nil
place_seen (Some n) = is_known (integer n)

abbrev pub span_seen : Span → List Shape
span_seen span = is_known (string span.bytes.now) ∷ is_known (integer span.first) ∷ place_seen span.last ∷ []

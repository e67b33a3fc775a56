-- `find`, `match`, and what `gmatch` and `gsub` rest on, by the list of all matches of a pattern (Lua 5.4 manual, 6.4 and 6.4.1).
use Rattle.std.specs.Prelude.{ℕ, zero, suc, ◌+◌, ◌-◌, ℤ, pos, negsuc, Bool, true, false, cond, ◌&&◌, ◌==◌, not, nat_eq, nat_lt, List, [], ◌∷◌, ◌++◌, length, map, take, drop, count_by, Option, Some, None, Result, Ok, Err, codes}
use Rattle.std.specs.List.{list_all, starts_with}
use Rattle.lua_pattern.specs.declared.answer.Capture.{Capture}
use Rattle.lua_pattern.specs.declared.answer.Capture.TheVariants.{Text, Position}
use Rattle.lua_pattern.specs.declared.item.Item.{Item}
use Rattle.lua_pattern.specs.declared.rule.TheConstants.{ENDS_WITH_ESCAPE, MISSING_BRACKET, MISSING_ARGUMENTS, MISSING_SET, NOTHING_TO_CLOSE, UNFINISHED_CAPTURE, TOO_MANY_CAPTURES}
use Rattle.lua_pattern.specs.Answer.{is_counted, first_found}
use Rattle.lua_pattern.specs.Bytes.{begins_with}
use Rattle.lua_pattern.specs.Reading.{items_of}
use Rattle.lua_pattern.specs.Ways.{Found}
use Rattle.int_core.specs.Value.{Plain, integer, string, Shape, holds, greatest_string}
use Rattle.library_rows.specs.Look.{read, written, write_field, make_table, Look, gives, refuses, does}
use Rattle.library_rows.specs.Plainly.{Outcome, results, error, too_large, fits_length}
use Rattle.library_rows.specs.Arguments.{argument, bytes_of, integer_argument, text_argument, integer_or, with, with_look, one, nothing}
use Rattle.library_rows.specs.Strings.{start_place}
use Rattle.library_rows.specs.Formats.{onto, is_decimal}

-- Patterns.

abbrev pub rule_text : ℕ → List ℕ
rule_text rule =
    cond (rule == ENDS_WITH_ESCAPE) (codes "malformed pattern (ends with '%')")
    (cond (rule == MISSING_BRACKET) (codes "malformed pattern (missing ']')")
    (cond (rule == MISSING_ARGUMENTS) (codes "malformed pattern (missing arguments to '%b')")
    (cond (rule == MISSING_SET) (codes "missing '[' after '%f' in pattern")
    (cond (rule == NOTHING_TO_CLOSE) (codes "invalid pattern capture")
    (cond (rule == UNFINISHED_CAPTURE) (codes "unfinished capture")
    (cond (rule == TOO_MANY_CAPTURES) (codes "too many captures") (codes "invalid capture index in pattern")))))))

-- the items of a pattern, or the text of its error
abbrev pub pattern_items : List ℕ → Result (List Item) (List ℕ)
pattern_items p = elim (items_of p) [
  | Err rule ↦ Err (rule_text rule)
  | Ok items ↦ elim (nat_lt 200 (count_by is_counted items)) [ true ↦ Err (codes "pattern too complex") | false ↦ Ok items ]
]

-- a match by its places, from 0: where it begins, where it ends, and its captures
pub record Hit : Type 0 where
  pub start : ℕ
  pub end : ℕ
  pub captures : List Capture

abbrev pub hit_at : ℕ → Found → Hit
hit_at at f = record { start = at; end = f.end; captures = f.captures }

abbrev pub ends_there : Option ℕ → ℕ → Bool
ends_there None end = false
ends_there (Some barred) end = barred == end

abbrev pub counts : Option ℕ → ℕ → Option Found → Option Hit
counts barred at None = None
counts barred at (Some f) = elim (ends_there barred f.end) [ true ↦ None | false ↦ Some (hit_at at f) ]

-- The first match at one of the places from `at` on, the last of which is `left` further. What counts at a place is the first of all matches there,
-- unless it ends at `barred`.
abbrev pub first_hit : Option ℕ → List ℕ → List Item → (at left : ℕ) → Option Hit
first_hit barred s items at zero = counts barred at (first_found s items at)
first_hit barred s items at (suc left) = elim (counts barred at (first_found s items at)) [ Some hit ↦ Some hit | None ↦ first_hit barred s items (at + 1) left ]

-- a `^` before a pattern binds it to the place where the search begins
abbrev pub is_anchored : List ℕ → Bool
is_anchored p = begins_with 94 p

abbrev pub search : List ℕ → List ℕ → ℕ → Result (Option Hit) (List ℕ)
search s p at = elim (is_anchored p) [
  | true ↦ elim (pattern_items (drop 1 p)) [ Err text ↦ Err text | Ok items ↦ Ok (first_hit None s items at 0) ]
  | false ↦ elim (pattern_items p) [ Err text ↦ Err text | Ok items ↦ Ok (first_hit None s items at (length s - at)) ]
]

-- a position counts from 1
abbrev pub capture_value : List ℕ → Capture → Plain
capture_value s (Text start end) = string (take (end - start) (drop start s))
capture_value s (Position at) = integer (pos (at + 1))

abbrev pub captured : List ℕ → Hit → List Plain
captured s hit = map (capture_value s) hit.captures

abbrev pub whole : List ℕ → Hit → Plain
whole s hit = string (take (hit.end - hit.start) (drop hit.start s))

-- the captures, or the whole match where the pattern has none
abbrev pub captured_or_whole : List ℕ → Hit → List Plain
captured_or_whole s hit = elim (captured s hit) [ [] ↦ whole s hit ∷ [] | p ∷ ps ↦ p ∷ ps ]

-- Plain texts.

abbrev pub text_from : List ℕ → (at : ℕ) → List ℕ → Option ℕ
text_from t at [] = elim t [ [] ↦ Some at | b ∷ bs ↦ None ]
text_from t at (c ∷ rest) = elim (starts_with nat_eq (c ∷ rest) t) [ true ↦ Some at | false ↦ text_from t (at + 1) rest ]

-- The functions.

-- both places count from 1, the last one being the last byte's
abbrev pub places : ℕ → ℕ → List Plain
places start end = integer (pos (start + 1)) ∷ integer (pos end) ∷ []

abbrev pub found_text : List ℕ → Option ℕ → Outcome
found_text t None = nothing
found_text t (Some at) = results (places at (at + length t))

abbrev pub found_places : List ℕ → Result (Option Hit) (List ℕ) → Outcome
found_places s (Err text) = error text
found_places s (Ok None) = nothing
found_places s (Ok (Some hit)) = results (places hit.start hit.end ++ captured s hit)

abbrev pub found_match : List ℕ → Result (Option Hit) (List ℕ) → Outcome
found_match s (Err text) = error text
found_match s (Ok None) = nothing
found_match s (Ok (Some hit)) = results (captured_or_whole s hit)

-- a search that would begin past the end finds nothing, whatever the pattern
abbrev pub from_place : List ℕ → ℤ → (ℕ → Outcome) → Outcome
from_place s i k = elim (nat_lt (length s) (start_place (length s) i - 1)) [ true ↦ nothing | false ↦ k (start_place (length s) i - 1) ]

abbrev pub find_row : List Shape → Outcome
find_row ss = with (text_argument (codes "find") 1 (argument ss 1)) (λ s. with (text_argument (codes "find") 2 (argument ss 2)) (λ p.
    with (integer_or (pos 1) (codes "find") 3 (argument ss 3)) (λ i. from_place s i (λ at. elim (holds (argument ss 4)) [
      | true ↦ found_text p (text_from p at (drop at s))
      | false ↦ found_places s (search s p at)
    ]))))

abbrev pub match_row : List Shape → Outcome
match_row ss = with (text_argument (codes "match") 1 (argument ss 1)) (λ s. with (text_argument (codes "match") 2 (argument ss 2)) (λ p.
    with (integer_or (pos 1) (codes "match") 3 (argument ss 3)) (λ i. from_place s i (λ at. found_match s (search s p at)))))

-- Private to the prelude.

abbrev pub natural : ℤ → ℕ
natural (pos n) = n
natural (negsuc n) = 0

abbrev pub barred_end : ℕ → Option ℕ
barred_end zero = None
barred_end (suc end) = Some end

abbrev pub hit_from : List ℕ → ℕ → ℕ → ℕ → Result (List Item) (List ℕ) → Result (Option Hit) (List ℕ)
hit_from s at last left (Err text) = Err text
hit_from s at last left (Ok items) = elim (nat_lt (length s) at) [ true ↦ Ok None | false ↦ Ok (first_hit (barred_end last) s items at left) ]

-- The next match from a place on, from 0, whose next place, from 1, is not `last`. An anchored pattern is tried there alone; in `raw` a `^` stands for
-- itself.
abbrev pub next_hit : List ℕ → List ℕ → ℕ → ℕ → Bool → Result (Option Hit) (List ℕ)
next_hit s p at last raw = elim (is_anchored p && not raw) [
  | true ↦ hit_from s at last 0 (pattern_items (drop 1 p))
  | false ↦ hit_from s at last (length s - at) (pattern_items p)
]

-- rows written into the newest value at hand
abbrev pub writes : List (Plain × Plain) → Look → Look
writes [] k = k
writes (row ∷ rows) k = does write_field (read 0 ∷ written row.0 ∷ written row.1 ∷ []) (λ _. writes rows k)

abbrev pub numbered : ℕ → List Plain → List (Plain × Plain)
numbered i [] = []
numbered i (p ∷ ps) = (integer (pos i), p) ∷ numbered (suc i) ps

-- the whole match at 0, the captures from 1 on, and their number
abbrev pub match_rows : Plain → List Plain → List (Plain × Plain)
match_rows all ps = (integer (pos 0), all) ∷ numbered 1 ps ++ (string (codes "n"), integer (pos (length ps))) ∷ []

-- what is written out is within the limit on strings
abbrev pub if_fit : List Plain → Look → Look
if_fit ps k = elim (list_all fits_length ps) [ true ↦ k | false ↦ refuses too_large ]

abbrev pub gives_hit : List ℕ → Result (Option Hit) (List ℕ) → Look
gives_hit s (Err text) = refuses text
gives_hit s (Ok None) = gives []
gives_hit s (Ok (Some hit)) = if_fit (whole s hit ∷ captured_or_whole s hit) (does make_table [] (λ _.
    writes (match_rows (whole s hit) (captured_or_whole s hit)) (gives (written (integer (pos (hit.start + 1))) ∷ written (integer (pos (hit.end + 1))) ∷ read 0 ∷ []))))

abbrev pub seeks : List Shape → Look
seeks ss = with_look (text_argument (codes "seek") 1 (argument ss 1)) (λ s. with_look (text_argument (codes "seek") 2 (argument ss 2)) (λ p.
    with_look (integer_argument (codes "seek") 3 (argument ss 3)) (λ at. with_look (integer_argument (codes "seek") 4 (argument ss 4)) (λ last.
    gives_hit s (next_hit s p (natural at - 1) (natural last) (holds (argument ss 5)))))))

-- The replacement: `%0` is the whole match, `%1` to `%9` are captures, `%%` is a `%`.

abbrev pub capture_text : Shape → Result (List ℕ) (List ℕ)
capture_text s = elim (bytes_of s) [ None ↦ Err (codes "invalid capture index in replacement string") | Some text ↦ Ok text ]

abbrev pub escaped : List Shape → ℕ → Result (List ℕ) (List ℕ)
escaped captures b =
    elim (b == 37) [
      | true ↦ Ok (37 ∷ [])
      | false ↦ elim (is_decimal b) [ true ↦ capture_text (argument captures (b - 47)) | false ↦ Err (codes "invalid use of '%' in replacement string") ]
    ]

-- where `escape` says that a `%` stood before
abbrev pub expanded : List Shape → (escape : Bool) → List ℕ → ℕ → Result (List ℕ) (List ℕ)
expanded captures false [] room = Ok []
expanded captures true [] room = Err (codes "invalid use of '%' in replacement string")
expanded captures false (b ∷ text) room = elim (b == 37) [ true ↦ expanded captures true text room | false ↦ onto room (b ∷ []) (λ left. expanded captures false text left) ]
expanded captures true (b ∷ text) room = elim (escaped captures b) [ Err why ↦ Err why | Ok bytes ↦ onto room bytes (λ left. expanded captures false text left) ]

abbrev pub expansion : List ℕ → List Shape → Outcome
expansion r captures = with (expanded captures false r greatest_string) (λ text. one (string text))

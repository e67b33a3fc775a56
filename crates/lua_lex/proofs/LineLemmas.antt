-- One step of a count of ends of lines.
use Rattle.std.proofs.Common.{◌≡◌, ℕ, ◌+◌, ◌<◌, List, [], ◌∷◌, length, get_or, drop, ◌++◌, one-add, get_or-drop, drop-drop, add-zero, append_assoc, Bool, true, false, refl, ap, sym, ◌∙◌, arith, take, ◌-◌, ◌≤◌, length-drop}
use Rattle.std.specs.Prelude.{Option, Some, None}
use Rattle.std.specs.Option.{unwrap_or}
use Rattle.std.specs.List.{position_or_len}
use Rattle.std.proofs.lemmas.List.Sums.{position_or_len_is, passes_at_first}
use Rattle.memchr.specs.Find.{IsFirstByte, is_byte2}
use Rattle.lua_lex.specs.Classes.{is_line_end, is_pair, end_len, line_ends, read_lines}

pub line_ends-end : (text : List ℕ) → is_line_end (get_or text 0 0) ≡ true → line_ends text ≡ 1 + line_ends (drop (end_len text) text)
line_ends-end [] h = absurd cc
line_ends-end (byte ∷ []) h = rw h refl
line_ends-end (byte ∷ next ∷ text) h = by_pair (is_pair byte next) refl where
  by_pair : (both : Bool) → is_pair byte next ≡ both → line_ends (byte ∷ next ∷ text) ≡ 1 + line_ends (drop (end_len (byte ∷ next ∷ text)) (byte ∷ next ∷ text))
  by_pair true both = rw (h, both) refl
  by_pair false both = rw (h, both) refl

pub line_ends-other : (text : List ℕ) → is_line_end (get_or text 0 0) ≡ false → line_ends text ≡ line_ends (drop 1 text)
line_ends-other [] h = refl
line_ends-other (byte ∷ []) h = rw h refl
line_ends-other (byte ∷ next ∷ text) h = rw h refl

-- the text in front of what is left
pub take-front : (text : List ℕ) (len : ℕ) → len ≤ length text → take (length text - length (drop len text)) text ≡ take len text
take-front text len h = let same : length text - length (drop len text) ≡ len = omega (arith, length-drop len text) in ap (λ n. take n text) same

false-from_not : (b : Bool) → (b ≡ true → ⊥) → b ≡ false
false-from_not true h = absurd (h refl)
false-from_not false h = refl

-- the first byte of `\n` and `\r`
pub first_line_end : (text : List ℕ) (found : Option ℕ) → IsFirstByte (is_byte2 10 13) text found → unwrap_or found (length text) ≡ position_or_len is_line_end text
first_line_end text None h = sym (position_or_len_is is_line_end text (length text) 0 (omega arith) (λ k low. false-from_not (is_line_end (get_or text k 0)) (h k (omega arith) low)) (λ low. absurd (omega arith)))
first_line_end text (Some at) h = sym (position_or_len_is is_line_end text at 0 (omega (arith, h.0.high)) (λ k low. false-from_not (is_line_end (get_or text k 0)) (h.0.before k (omega arith) low)) (λ low. h.1))

-- up to the first end of line there is none
pub line_ends-plain : (text : List ℕ) → line_ends (drop (position_or_len is_line_end text) text) ≡ line_ends text
line_ends-plain [] = refl
line_ends-plain (byte ∷ text) = by_first (line_ends-plain text) (is_line_end byte) refl where
  by_first : line_ends (drop (position_or_len is_line_end text) text) ≡ line_ends text → (ends : Bool) → is_line_end byte ≡ ends → line_ends (drop (position_or_len is_line_end (byte ∷ text)) (byte ∷ text)) ≡ line_ends (byte ∷ text)
  by_first later true h = rw h refl
  by_first later false h = let none = line_ends-other (byte ∷ text) h in rw (h, one-add) (later ∙ sym none)

-- the first end of line is one
pub at_line_end : (text : List ℕ) (at : ℕ) → at + position_or_len is_line_end (drop at text) < length text → is_line_end (get_or text (at + position_or_len is_line_end (drop at text)) 0) ≡ true
at_line_end text at h =
    let len = position_or_len is_line_end (drop at text) in
    let within : len < length (drop at text) = omega (arith, length-drop at text) in
    ap is_line_end (sym (get_or-drop at text len 0)) ∙ passes_at_first is_line_end (drop at text) 0 within

-- one step of a reading by lines
pub read_lines-end : (text : List ℕ) → is_line_end (get_or text 0 0) ≡ true → read_lines text ≡ 10 ∷ read_lines (drop (end_len text) text)
read_lines-end [] h = absurd cc
read_lines-end (byte ∷ []) h = rw h refl
read_lines-end (byte ∷ next ∷ text) h = by_pair (is_pair byte next) refl where
  by_pair : (both : Bool) → is_pair byte next ≡ both → read_lines (byte ∷ next ∷ text) ≡ 10 ∷ read_lines (drop (end_len (byte ∷ next ∷ text)) (byte ∷ next ∷ text))
  by_pair true both = rw (h, both) refl
  by_pair false both = rw (h, both) refl

read_lines-other : (byte : ℕ) (text : List ℕ) → is_line_end byte ≡ false → read_lines (byte ∷ text) ≡ byte ∷ read_lines text
read_lines-other byte [] h = rw h refl
read_lines-other byte (next ∷ text) h = rw h refl

-- up to the first end of line a text is read as it stands
pub read_lines-plain : (text : List ℕ) → read_lines text ≡ take (position_or_len is_line_end text) text ++ read_lines (drop (position_or_len is_line_end text) text)
read_lines-plain [] = refl
read_lines-plain (byte ∷ text) = by_first (read_lines-plain text) (is_line_end byte) refl where
  by_first : read_lines text ≡ take (position_or_len is_line_end text) text ++ read_lines (drop (position_or_len is_line_end text) text) → (ends : Bool) → is_line_end byte ≡ ends → read_lines (byte ∷ text) ≡ take (position_or_len is_line_end (byte ∷ text)) (byte ∷ text) ++ read_lines (drop (position_or_len is_line_end (byte ∷ text)) (byte ∷ text))
  by_first later true h = rw h refl
  by_first later false h = read_lines-other byte text h ∙ rw (h, one-add) (ap (λ t. byte ∷ t) later)

-- an end of line more, and what stands up to the next
pub read_lines-step : (out text : List ℕ) (at end len : ℕ) → is_line_end (get_or text at 0) ≡ true → end ≡ end_len (drop at text) → len ≡ position_or_len is_line_end (drop (at + end) text) → ((out ++ 10 ∷ []) ++ take len (drop (at + end) text)) ++ read_lines (drop (at + end + len) text) ≡ out ++ read_lines (drop at text)
read_lines-step out text at end len ends end_is len_is =
    let rest = drop (at + end) text in
    let first : get_or (drop at text) 0 0 ≡ get_or text at 0 = get_or-drop at text 0 0 ∙ ap (λ i. get_or text i 0) (add-zero at) in
    let behind : drop (end_len (drop at text)) (drop at text) ≡ rest = drop-drop (end_len (drop at text)) at text ∙ ap (λ n. drop (at + n) text) (sym end_is) in
    let plain : take len rest ++ read_lines (drop len rest) ≡ read_lines rest = ap (λ n. take n rest ++ read_lines (drop n rest)) len_is ∙ sym (read_lines-plain rest) in
    append_assoc (out ++ 10 ∷ []) (take len rest) (read_lines (drop (at + end + len) text))
    ∙ append_assoc out (10 ∷ []) (take len rest ++ read_lines (drop (at + end + len) text))
    ∙ ap (λ t. out ++ 10 ∷ (take len rest ++ read_lines t)) (sym (drop-drop len (at + end) text))
    ∙ ap (λ t. out ++ 10 ∷ t) plain
    ∙ ap (λ t. out ++ 10 ∷ read_lines t) (sym behind)
    ∙ ap (λ t. out ++ t) (sym (read_lines-end (drop at text) (ap is_line_end first ∙ ends)))

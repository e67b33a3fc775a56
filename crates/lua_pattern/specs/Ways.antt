-- How one item of a pattern can match at a place (Lua 5.4 manual, 6.4.1, "Pattern Item" and "Captures").
use Rattle.std.specs.Prelude.{ℕ, zero, suc, ◌+◌, ◌-◌, min, Bool, false, ◌==◌, ◌&&◌, not, nat_eq, if◌then◌else◌, List, [], ◌∷◌, ◌++◌, map, length, take, drop, reverse, slice_get, slice_index, count_by, find, Option, Some, None}
use Rattle.std.specs.List.{range_with_len, prefix_len, starts_with}
use Rattle.std.specs.Option.{option_map, option_map_or, option_and_then, option_to_list}
use Rattle.lua_pattern.specs.declared.answer.Capture.{Capture}
use Rattle.lua_pattern.specs.declared.answer.Capture.TheVariants.{Text, Position}
use Rattle.lua_pattern.specs.declared.class.Class.{Class}
use Rattle.lua_pattern.specs.declared.item.Item.{Item}
use Rattle.lua_pattern.specs.declared.item.Item.TheVariants.{Plain, Repeated, Open, Close, Place}
use Rattle.lua_pattern.specs.declared.item.Plain.{Plain as PlainItem}
use Rattle.lua_pattern.specs.declared.item.Plain.TheVariants.{Single, Balanced, Frontier, Reference, AtEnd}
use Rattle.lua_pattern.specs.declared.item.Repeat.{Repeat}
use Rattle.lua_pattern.specs.declared.item.Repeat.TheVariants.{Optional, ZeroOrMore, OneOrMore, Lazy}
use Rattle.lua_pattern.specs.Sets.{ByteSet, set_has}
use Rattle.lua_pattern.specs.ClassBytes.{class_has}

-- a place behind a match, and the captures so far; a capture that is still open is an empty text
pub record Found : Type 0 where
  pub end : ℕ
  pub captures : List Capture

-- Single bytes and quantifiers.

abbrev pub is_class_at : Class → List ℕ → ℕ → Bool
is_class_at class subject at = option_map_or (class_has class) (slice_get subject at) false

-- how many bytes of a class a text begins with
abbrev pub run_of : Class → List ℕ → ℕ
run_of class text = prefix_len (class_has class) text

-- where a quantifier can end that begins at a place, before a run of so many bytes, in the order of its preference
abbrev pub places : Repeat → ℕ → ℕ → List ℕ
places Optional at run = reverse (range_with_len at (min run 1 + 1))
places ZeroOrMore at run = reverse (range_with_len at (run + 1))
places OneOrMore at run = reverse (range_with_len (at + 1) run)
places Lazy at run = range_with_len at (run + 1)

-- Balanced texts, where a byte that opens adds 1, a byte that closes takes 1 away, and the first byte opens.

-- how much is open after so many bytes behind the first; a byte that opens and closes closes
abbrev pub open_after : ℕ → ℕ → List ℕ → ℕ → ℕ
open_after opening closing text count =
    1 + count_by (λ byte. (byte == opening) && not (byte == closing)) (take count text) - count_by (λ byte. byte == closing) (take count text)

-- the least number of bytes behind the first after which nothing is open
abbrev pub closing_len : ℕ → ℕ → List ℕ → Option ℕ
closing_len opening closing text =
    find (λ count. open_after opening closing text count == 0) (range_with_len 1 (length text))

-- the length of the balanced text at the front of a text
abbrev pub balanced_len : ℕ → ℕ → List ℕ → Option ℕ
balanced_len opening closing [] = None
balanced_len opening closing (byte ∷ text) =
    if byte == opening then option_map (λ count. 1 + count) (closing_len opening closing text) else None

-- Frontiers, for which a zero byte stands before the subject and behind it.

abbrev pub byte_before : List ℕ → ℕ → ℕ
byte_before subject at = if at == 0 then 0 else slice_index subject (at - 1)

abbrev pub is_frontier : List ℕ → ByteSet → ℕ → Bool
is_frontier subject set at =
    not (set_has set (byte_before subject at)) && set_has set (slice_index subject at)

-- References to captures; no text is like a position.

abbrev pub is_text_at : List ℕ → ℕ → List ℕ → Bool
is_text_at subject at text = starts_with nat_eq (drop at subject) text

abbrev pub same_end : List ℕ → ℕ → Capture → Option ℕ
same_end subject at (Position place) = None
same_end subject at (Text start end) =
    if is_text_at subject at (take (end - start) (drop start subject)) then Some (at + (end - start)) else None

-- All items.

-- the one place at which a plain item can end
abbrev pub plain_end : List ℕ → PlainItem → ℕ → List Capture → Option ℕ
plain_end subject (Single class) at captures = if is_class_at class subject at then Some (at + 1) else None
plain_end subject (Balanced opening closing) at captures =
    option_map (λ count. at + count) (balanced_len opening closing (drop at subject))
plain_end subject (Frontier set) at captures = if is_frontier subject set at then Some at else None
plain_end subject (Reference number) at captures = option_and_then (same_end subject at) (slice_get captures number)
plain_end subject AtEnd at captures = if at == length subject then Some at else None

-- the captures where the one of a number ends at a place
abbrev pub ended : List Capture → ℕ → ℕ → List Capture
ended [] number at = []
ended (capture ∷ rest) (suc number) at = capture ∷ ended rest number at
ended (Text start end ∷ rest) zero at = Text start at ∷ rest
ended (Position place ∷ rest) zero at = Position place ∷ rest

-- all the ways in which an item can match, in the order of preference
abbrev pub ways : List ℕ → Item → ℕ → List Capture → List Found
ways subject (Plain plain) at captures =
    map (λ end. record { end = end; captures = captures }) (option_to_list (plain_end subject plain at captures))
ways subject (Repeated class repeat) at captures =
    map (λ end. record { end = end; captures = captures }) (places repeat at (run_of class (drop at subject)))
ways subject Open at captures = record { end = at; captures = captures ++ Text at at ∷ [] } ∷ []
ways subject (Close number) at captures = record { end = at; captures = ended captures number at } ∷ []
ways subject Place at captures = record { end = at; captures = captures ++ Position at ∷ [] } ∷ []

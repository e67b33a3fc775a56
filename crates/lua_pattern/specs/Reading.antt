-- How the bytes of a pattern spell its items, and the first rule that a pattern breaks (Lua 5.4 manual, 6.4.1, "Pattern Item" and "Pattern").
use Rattle.std.specs.Prelude.{ℕ, zero, suc, ◌-◌, Bool, true, false, ◌==◌, ◌&&◌, not, nat_le, if◌then◌else◌, List, [], ◌∷◌, length, drop, slice_index, Option, Some, None, Result, Ok, Err}
use Rattle.lua_pattern.specs.declared.class.Class.{Class}
use Rattle.lua_pattern.specs.declared.class.Class.TheVariants.{Any, Alone, Among}
use Rattle.lua_pattern.specs.declared.class.Part.{Part}
use Rattle.lua_pattern.specs.declared.class.Part.TheVariants.{Byte, Range}
use Rattle.lua_pattern.specs.declared.item.Item.{Item}
use Rattle.lua_pattern.specs.declared.item.Item.TheVariants.{Plain, Repeated, Open, Close, Place}
use Rattle.lua_pattern.specs.declared.item.Plain.TheVariants.{Single, Balanced, Frontier, Reference, AtEnd}
use Rattle.lua_pattern.specs.declared.item.Repeat.TheVariants.{Optional, ZeroOrMore, OneOrMore, Lazy}
use Rattle.lua_pattern.specs.declared.rule.TheConstants.{ENDS_WITH_ESCAPE, MISSING_BRACKET, MISSING_ARGUMENTS, MISSING_SET, NOTHING_TO_CLOSE, UNFINISHED_CAPTURE, TOO_MANY_CAPTURES, INVALID_REFERENCE}
use Rattle.lua_pattern.specs.Bytes.{begins_with}
use Rattle.lua_pattern.specs.Classes.{is_between, part_named}
use Rattle.lua_pattern.specs.Scope.{Scope, closes, empty_scope, ended_before, innermost, is_closed, opens, with_place}
use Rattle.lua_pattern.specs.Sets.{ByteSet}

-- Sets. 37 is `%`, 45 `-`, 93 `]`, 94 `^`.

-- a part of a set, and how many bytes behind its first one it takes
pub record PartRead : Type 0 where
  pub part : Part
  pub more : ℕ

-- a `-` makes a range only before a byte that neither ends the set nor is a `%`
abbrev pub ends_range : List ℕ → Bool
ends_range [] = false
ends_range (last ∷ text) = not (last == 93) && not (last == 37)

-- the part that begins with a byte
abbrev pub part_at : ℕ → List ℕ → PartRead
part_at byte [] = record { part = Byte byte; more = 0 }
part_at byte (next ∷ text) =
    if byte == 37 then record { part = part_named next; more = 1 } else
    if (next == 45) && ends_range text then record { part = Range byte (slice_index text 0); more = 2 } else
    record { part = Byte byte; more = 0 }

-- the parts of a set, and the bytes behind its `]`
pub record PartsRead : Type 0 where
  pub parts : List Part
  pub rest : List ℕ

abbrev pub with_part : Part → Option PartsRead → Option PartsRead
with_part part None = None
with_part part (Some read) = Some (record { parts = part ∷ read.parts; rest = read.rest })

-- the parts up to the next `]`, where so many bytes belong to the part before; there are none where no `]` comes
abbrev pub parts_from : ℕ → List ℕ → Option PartsRead
parts_from more [] = None
parts_from (suc more) (byte ∷ text) = parts_from more text
parts_from zero (byte ∷ text) =
    if byte == 93 then Some (record { parts = []; rest = text }) else
    with_part (part_at byte text).part (parts_from (part_at byte text).more text)

-- the same where a `]` in the first place is a part
abbrev pub first_parts : List ℕ → Option PartsRead
first_parts [] = None
first_parts (byte ∷ text) = with_part (part_at byte text).part (parts_from (part_at byte text).more text)

pub record SetRead : Type 0 where
  pub set : ByteSet
  pub rest : List ℕ

abbrev pub set_of : Bool → Option PartsRead → Option SetRead
set_of inverted None = None
set_of inverted (Some read) = Some (record { set = record { parts = read.parts; inverted = inverted }; rest = read.rest })

-- the set whose `[` stands before the bytes
abbrev pub set_from : List ℕ → Option SetRead
set_from text = if begins_with 94 text then set_of true (first_parts (drop 1 text)) else set_of false (first_parts text)

-- Items.

-- an item, the captures behind it and the bytes behind it
pub record Read : Type 0 where
  pub item : Item
  pub scope : Scope
  pub rest : List ℕ

abbrev pub read_of : Item → Scope → List ℕ → Result Read ℕ
read_of item scope rest = Ok (record { item = item; scope = scope; rest = rest })

-- a class and the quantifier behind it, if one comes: 42 is `*`, 43 `+`, 45 `-`, 63 `?`
abbrev pub class_at : Class → Scope → List ℕ → Result Read ℕ
class_at class scope [] = read_of (Plain (Single class)) scope []
class_at class scope (byte ∷ text) =
    if byte == 42 then read_of (Repeated class ZeroOrMore) scope text else
    if byte == 43 then read_of (Repeated class OneOrMore) scope text else
    if byte == 45 then read_of (Repeated class Lazy) scope text else
    if byte == 63 then read_of (Repeated class Optional) scope text else
    read_of (Plain (Single class)) scope (byte ∷ text)

-- behind a `[`
abbrev pub class_of_set : Scope → Option SetRead → Result Read ℕ
class_of_set scope None = Err MISSING_BRACKET
class_of_set scope (Some read) = class_at (Among read.set) scope read.rest

abbrev pub set_at : Scope → List ℕ → Result Read ℕ
set_at scope text = class_of_set scope (set_from text)

-- behind `%b`
abbrev pub balanced_at : Scope → List ℕ → Result Read ℕ
balanced_at scope [] = Err MISSING_ARGUMENTS
balanced_at scope (opening ∷ []) = Err MISSING_ARGUMENTS
balanced_at scope (opening ∷ closing ∷ text) = read_of (Plain (Balanced opening closing)) scope text

-- behind `%f`: 91 is `[`
abbrev pub frontier_of_set : Scope → Option SetRead → Result Read ℕ
frontier_of_set scope None = Err MISSING_BRACKET
frontier_of_set scope (Some read) = read_of (Plain (Frontier read.set)) scope read.rest

abbrev pub frontier_at : Scope → List ℕ → Result Read ℕ
frontier_at scope text = if begins_with 91 text then frontier_of_set scope (set_from (drop 1 text)) else Err MISSING_SET

-- behind `%` and a digit; `%1` refers to the first capture
abbrev pub reference_at : ℕ → Scope → List ℕ → Result Read ℕ
reference_at digit scope text =
    if nat_le 49 digit && ended_before scope (digit - 49) then read_of (Plain (Reference (digit - 49))) scope text else
    Err INVALID_REFERENCE

-- behind a `%`: 98 is `b`, 102 `f`, 48 to 57 are the digits
abbrev pub escape_at : Scope → List ℕ → Result Read ℕ
escape_at scope [] = Err ENDS_WITH_ESCAPE
escape_at scope (byte ∷ text) =
    if byte == 98 then balanced_at scope text else
    if byte == 102 then frontier_at scope text else
    if is_between 48 57 byte then reference_at byte scope text else
    class_at (Alone (part_named byte)) scope text

-- behind a `(`: 41 is `)`
abbrev pub open_at : Scope → List ℕ → Result Read ℕ
open_at scope text =
    if nat_le 32 scope.opened then Err TOO_MANY_CAPTURES else
    if begins_with 41 text then read_of Place (with_place scope) (drop 1 text) else
    read_of Open (opens scope) text

-- behind a `)`
abbrev pub close_at : Scope → List ℕ → Result Read ℕ
close_at scope text =
    if is_closed scope then Err NOTHING_TO_CLOSE else read_of (Close (innermost scope)) (closes scope) text

-- behind a `$`
abbrev pub dollar_at : Scope → List ℕ → Result Read ℕ
dollar_at scope [] = read_of (Plain AtEnd) scope []
dollar_at scope (byte ∷ text) = class_at (Alone (Byte 36)) scope (byte ∷ text)

-- the item that begins with a byte: 36 is `$`, 37 `%`, 40 `(`, 41 `)`, 46 `.`, 91 `[`
unfoldable pub item_at : Scope → ℕ → List ℕ → Result Read ℕ
item_at scope byte text =
    if byte == 40 then open_at scope text else
    if byte == 41 then close_at scope text else
    if byte == 37 then escape_at scope text else
    if byte == 91 then set_at scope text else
    if byte == 36 then dollar_at scope text else
    if byte == 46 then class_at Any scope text else
    class_at (Alone (Byte byte)) scope text

-- Patterns.

abbrev pub joined : Result Read ℕ → Result (List Item) ℕ → Result (List Item) ℕ
joined (Err rule) items = Err rule
joined (Ok read) (Err rule) = Err rule
joined (Ok read) (Ok items) = Ok (read.item ∷ items)

-- how many of the bytes behind its first one an item takes, and the captures behind it
abbrev pub more_of : Result Read ℕ → List ℕ → ℕ
more_of (Err rule) text = length text
more_of (Ok read) text = length text - length read.rest

abbrev pub scope_of : Result Read ℕ → Scope → Scope
scope_of (Err rule) scope = scope
scope_of (Ok read) scope = read.scope

-- the items of the bytes, where so many of them belong to the item before, or the number of the first rule that is broken
unfoldable pub items_from : ℕ → Scope → List ℕ → Result (List Item) ℕ
items_from more scope [] = if is_closed scope then Ok [] else Err UNFINISHED_CAPTURE
items_from (suc more) scope (byte ∷ text) = items_from more scope text
items_from zero scope (byte ∷ text) =
    joined (item_at scope byte text) (items_from (more_of (item_at scope byte text) text) (scope_of (item_at scope byte text) scope) text)

-- the items of a pattern
abbrev pub items_of : List ℕ → Result (List Item) ℕ
items_of pattern = items_from 0 empty_scope pattern

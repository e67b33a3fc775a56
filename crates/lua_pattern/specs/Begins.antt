-- Where a match of the items of a pattern can begin.
use Rattle.std.specs.Prelude.{◌≡◌, ℕ, ◌≤◌, ◌<◌, Bool, true, false, not, List, slice_get, Option, Some, None}
use Rattle.std.specs.List.{prefix_len}
use Rattle.std.specs.Option.{option_and_then}
use Rattle.lua_pattern.specs.declared.class.Class.{Class}
use Rattle.lua_pattern.specs.declared.item.Item.{Item}
use Rattle.lua_pattern.specs.declared.item.Item.TheVariants.{Plain, Repeated, Open, Close, Place}
use Rattle.lua_pattern.specs.declared.item.Plain.{Plain as PlainItem}
use Rattle.lua_pattern.specs.declared.item.Plain.TheVariants.{Single, Balanced, Frontier, Reference, AtEnd}
use Rattle.lua_pattern.specs.declared.item.Repeat.{Repeat}
use Rattle.lua_pattern.specs.declared.item.Repeat.TheVariants.{Optional, ZeroOrMore, OneOrMore, Lazy}
use Rattle.lua_pattern.specs.Answer.{first_found}
use Rattle.lua_pattern.specs.Ways.{is_class_at}

-- a capture begins or ends, which takes no byte
abbrev pub is_capture : Item → Bool
is_capture Open = true
is_capture (Close number) = true
is_capture Place = true
is_capture _ = false

-- the class of the byte that an item takes in any case

abbrev pub single_class : PlainItem → Option Class
single_class (Single class) = Some class
single_class (Balanced opening closing) = None
single_class (Frontier set) = None
single_class (Reference number) = None
single_class AtEnd = None

abbrev pub repeated_class : Class → Repeat → Option Class
repeated_class class Optional = None
repeated_class class ZeroOrMore = None
repeated_class class OneOrMore = Some class
repeated_class class Lazy = None

abbrev pub needed_class : Item → Option Class
needed_class (Plain plain) = single_class plain
needed_class (Repeated class repeat) = repeated_class class repeat
needed_class Open = None
needed_class (Close number) = None
needed_class Place = None

-- the class of the byte that each match of some items begins with, where the first item that is no capture tells it
abbrev pub first_class : List Item → Option Class
first_class items = option_and_then needed_class (slice_get items (prefix_len is_capture items))

-- the byte of a place is not in such a class
abbrev pub rules_out : Option Class → List ℕ → ℕ → Bool
rules_out None subject at = false
rules_out (Some class) subject at = not (is_class_at class subject at)

-- no match begins from one place up to another one, which is left out
pub record IsPassed (subject : List ℕ) (items : List Item) (from to : ℕ) : Type 0 where
  pub none : (place : ℕ) → from ≤ place → place < to → first_found subject items place ≡ None

-- What the private functions say: the bytes of a run's class, what is known of a text by its kind, how long a mark may be and how a keyword begins.
use Rattle.std.specs.Prelude.{◌≡◌, ℕ, ◌<◌, ◌≤◌, Bool, true, List, length, take, drop, ◌+◌, ◌==◌, ◌&&◌, ◌||◌, if◌then◌else◌, nat_lt, false, slice_index, None}
use Rattle.std.specs.Char.{is_ascii_digit}
use Rattle.int_core.specs.Numeral.{is_space}
use Rattle.lua_lex.specs.declared.class.Class.{Class}
use Rattle.lua_lex.specs.declared.class.Class.TheVariants as class
use Rattle.lua_lex.specs.declared.kind.Kind.{Kind}
use Rattle.lua_lex.specs.declared.kind.Kind.TheVariants.{End, Comment, LongComment, LongString}
use Rattle.lua_lex.specs.Classes.{is_name_byte, is_numeral_byte, is_hex_digit, is_equals, is_in_mark}
use Rattle.lua_lex.specs.Brackets.{level_of, opens_long}
use Rattle.lua_lex.specs.Words.{marks, place_of}

abbrev pub is_in : Class → ℕ → Bool
is_in class.Space byte = is_space byte
is_in class.Name byte = is_name_byte byte
is_in class.Numeral byte = is_numeral_byte byte
is_in class.Digit byte = is_ascii_digit byte
is_in class.HexDigit byte = is_hex_digit byte
is_in class.Equals byte = is_equals byte
is_in class.InMark byte = is_in_mark byte

abbrev pub Begins : Kind → List ℕ → Type 0
Begins End text = Unit {0}
Begins Comment text = 2 ≤ length text
Begins LongComment text = (2 ≤ length text) × (opens_long (drop 2 text) ≡ true)
Begins LongString text = opens_long text ≡ true
Begins _ text = 0 < length text

-- the text begins with the closing long bracket of the level
abbrev pub closes : ℕ → List ℕ → Bool
closes level text = slice_index text 0 == 93 && (level_of text == level && slice_index text (1 + level) == 93)

-- the first closing long bracket of the level stands at this place
pub record IsContent (text : List ℕ) (level len : ℕ) : Type 0 where
  pub closed : closes level (drop len text) ≡ true
  pub before : (at : ℕ) → at < len → closes level (drop at text) ≡ true → ⊥

-- from this length on, no front of the text is a mark
abbrev pub NoneFrom : List ℕ → ℕ → Type 0
NoneFrom text len = (longer : ℕ) → len < longer → longer ≤ 3 → longer ≤ length text → place_of marks (take longer text) ≡ None

-- by these two bytes a keyword begins
abbrev pub begins_keyword : ℕ → ℕ → Bool
begins_keyword first second =
    if first == 97 || first == 117 then second == 110
    else if first == 98 || first == 111 then second == 114
    else if first == 100 || (first == 103 || first == 108) then second == 111
    else if first == 101 then second == 108 || second == 110
    else if first == 102 then second == 97 || (second == 111 || second == 117)
    else if first == 105 then second == 102 || second == 110
    else if first == 110 then second == 105 || second == 111
    else if first == 114 then second == 101
    else if first == 116 then second == 104 || second == 114
    else if first == 119 then second == 104
    else false

-- a word of two bytes at least by whose first two a keyword begins
abbrev pub may_be_keyword : List ℕ → Bool
may_be_keyword word = nat_lt 1 (length word) && begins_keyword (slice_index word 0) (slice_index word 1)

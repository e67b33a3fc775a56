-- What the tokens of a source are, and which place of it is refused (Lua 5.4 manual, 3.1).
-- Bytes stand by their numbers: `"` is 34, `'` 39, `-` 45 and `.` 46.
use Rattle.std.specs.Prelude.{◌≡◌, ◌≢◌, ℕ, ◌+◌, ◌-◌, ◌≤◌, ℤ, Bool, true, false, ◌==◌, ◌||◌, ◌&&◌, List, [], ◌∷◌, ◌++◌, length, take, drop, slice_index, Option, None, Some, if◌then◌else◌, take_while}
use Rattle.std.specs.List.{prefix_len, position_or_len}
use Rattle.std.specs.Char.{is_ascii_digit}
use Rattle.int_core.specs.Numeral.{is_space, SpellsInteger}
use Rattle.lua_lex.specs.declared.token.Token.{Token}
use Rattle.lua_lex.specs.declared.token.Token.TheVariants as made
use Rattle.lua_lex.specs.declared.kind.Kind.{Kind}
use Rattle.lua_lex.specs.declared.kind.Kind.TheVariants.{End, Space, Comment, LongComment, Word, Numeral, ShortString, LongString, Symbol}
use Rattle.lua_lex.specs.Words.{keywords, marks, place_of}
use Rattle.lua_lex.specs.Classes.{is_line_end, is_name_start, is_name_byte, is_numeral_byte, line_ends, read_lines, behind_line_end}
use Rattle.lua_lex.specs.Brackets.{opens_long, LongBracket}
use Rattle.lua_lex.specs.Strings.{Quoted}

-- a numeral begins with a digit, or with `.` and a digit
abbrev pub begins_numeral : List ℕ → Bool
begins_numeral text = is_ascii_digit (slice_index text 0) || (slice_index text 0 == 46 && is_ascii_digit (slice_index text 1))

abbrev pub begins_comment : List ℕ → Bool
begins_comment text = slice_index text 0 == 45 && slice_index text 1 == 45

-- what a comment is by what follows its `--`
abbrev pub comment_kind : List ℕ → Kind
comment_kind text = if opens_long (drop 2 text) then LongComment else Comment

-- what stands at the front of a text, by its first bytes
unfoldable pub kind_of : List ℕ → Kind
kind_of text =
    if length text == 0 then End
    else if is_space (slice_index text 0) then Space
    else if is_name_start (slice_index text 0) then Word
    else if begins_numeral text then Numeral
    else if slice_index text 0 == 34 || slice_index text 0 == 39 then ShortString
    else if begins_comment text then comment_kind text
    else if opens_long text then LongString
    else Symbol

-- The text goes on as the rest behind one piece that is skipped: a byte of white space, or a comment up to the end of its line or of its long bracket.
abbrev pub SkipsOf : Kind → List ℕ → List ℕ → Type 0
SkipsOf Space text rest = rest ≡ drop 1 text
SkipsOf Comment text rest = rest ≡ drop (2 + position_or_len is_line_end (drop 2 text)) text
SkipsOf LongComment text rest = (content : List ℕ) × LongBracket (drop 2 text) content rest
SkipsOf _ text rest = ⊥

abbrev pub Skips : List ℕ → List ℕ → Type 0
Skips text rest = SkipsOf (kind_of text) text rest

-- between the text and the rest all is skipped
pub data Gap : List ℕ → List ℕ → Type 0 where
  nothing : {text : List ℕ} → Gap text text
  piece : {text between rest : List ℕ} → Skips text between → Gap between rest → Gap text rest

-- a keyword, or else a name
abbrev pub word_token : List ℕ → Option ℕ → Token
word_token word (Some number) = made.Keyword number
word_token word None = made.Name word

-- the longest mark at the front of the text
pub record IsMark (text : List ℕ) (number : ℕ) (rest : List ℕ) : Type 0 where
  pub spelling : List ℕ
  pub place : place_of marks spelling ≡ Some number
  pub whole : text ≡ spelling ++ rest
  pub longest : (other after : List ℕ) (place : ℕ) → place_of marks other ≡ Some place → text ≡ other ++ after → length other ≤ length spelling

-- The token stands at the front of the text, and the rest follows it. A word and a numeral are the longest runs of their bytes; a numeral begins with a digit or `.`, so white space and a sign are never part of what it spells.
abbrev pub IsTokenOf : Kind → List ℕ → Token → List ℕ → Type 0
IsTokenOf Word text token rest =
    (token ≡ word_token (take_while is_name_byte text) (place_of keywords (take_while is_name_byte text)))
    × (rest ≡ drop (prefix_len is_name_byte text) text)
IsTokenOf Numeral text token rest =
    (value : ℤ) × SpellsInteger (take_while is_numeral_byte text) value × (token ≡ made.Int value)
    × (rest ≡ drop (prefix_len is_numeral_byte text) text)
IsTokenOf ShortString text token rest =
    (content : List ℕ) × Quoted (slice_index text 0) (drop 1 text) content rest × (token ≡ made.Str content)
IsTokenOf LongString text token rest =
    (content : List ℕ) × LongBracket text content rest × (token ≡ made.Str (read_lines (behind_line_end content)))
IsTokenOf Symbol text token rest = (number : ℕ) × IsMark text number rest × (token ≡ made.Mark number)
IsTokenOf _ text token rest = ⊥

abbrev pub IsToken : List ℕ → Token → List ℕ → Type 0
IsToken text token rest = IsTokenOf (kind_of text) text token rest

-- the line of the rest of a text that begins on a line
abbrev pub line_of : ℕ → List ℕ → List ℕ → ℕ
line_of line text rest = line + line_ends (take (length text - length rest) text)

-- The tokens of a text that begins on a line: skipped text and a token in turn, each with the line of its first byte, and the end.
pub data TokensFrom : ℕ → List ℕ → List (Token × ℕ) → Type 0 where
  ends : {line : ℕ} {text : List ℕ} → Gap text [] → TokensFrom line text ((made.End, line_of line text []) ∷ [])
  goes_on : {line : ℕ} {text : List ℕ} (start rest : List ℕ) (token : Token) (list : List (Token × ℕ)) →
      Gap text start → IsToken start token rest →
      TokensFrom (line_of (line_of line text start) start rest) rest list →
      TokensFrom line text ((token, line_of line text start) ∷ list)

abbrev pub TokensOf : List ℕ → List (Token × ℕ) → Type 0
TokensOf source list = TokensFrom 1 source list

-- a text that is neither at its end, nor skipped, nor a token
pub record IsRefused (text : List ℕ) : Type 0 where
  pub goes_on : text ≢ []
  pub no_gap : (rest : List ℕ) → Skips text rest → ⊥
  pub no_token : (token : Token) (rest : List ℕ) → IsToken text token rest → ⊥

-- the line of the first place that is refused in a text that begins on a line
pub data BadFrom : ℕ → List ℕ → ℕ → Type 0 where
  here : {line : ℕ} {text : List ℕ} (start : List ℕ) → Gap text start → IsRefused start → BadFrom line text (line_of line text start)
  later : {line : ℕ} {text : List ℕ} {bad : ℕ} (start rest : List ℕ) (token : Token) →
      Gap text start → IsToken start token rest →
      BadFrom (line_of (line_of line text start) start rest) rest bad →
      BadFrom line text bad

abbrev pub BadToken : List ℕ → ℕ → Type 0
BadToken source line = BadFrom 1 source line

-- in a list of tokens the end stands last, and nowhere else
abbrev pub is_end : Token → Bool
is_end made.End = true
is_end _ = false

abbrev pub LastWhere : Bool → List (Token × ℕ) → Type 0 → Type 0
LastWhere true list others = list ≡ []
LastWhere false list others = others

abbrev pub EndsOnce : List (Token × ℕ) → Type 0
EndsOnce [] = ⊥
EndsOnce (pair ∷ list) = LastWhere (is_end pair.0) list (EndsOnce list)

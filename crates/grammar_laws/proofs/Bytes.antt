-- Each token but the end has a byte of its own, and `function` has eight.
use Rattle.std.proofs.Common.{◌≡◌, ℕ, suc, ◌+◌, ◌-◌, ◌*◌, ◌≤◌, Bool, true, false, cond, List, [], ◌∷◌, ◌++◌, length, drop, Option, Some, None, refl, sym, ap, ◌∙◌, arith, length-append, length-drop}
use Rattle.std.specs.Prelude.{◌==◌, ◌||◌, ◌&&◌, codes, slice_get, slice_index, take_while, nat_eq, if◌then◌else◌, replicate}
use Rattle.std.specs.List.{prefix_len, position_from, position_or_len}
use Rattle.std.specs.Cmp.Lexicographic.{pointwise, same_text}
use Rattle.std.proofs.lemmas.Bool.Decides.{nat_tests}
use Rattle.std.proofs.lemmas.List.Folds.{length-prefix_len}
use Rattle.std.proofs.lemmas.List.Sums.{prefix_len-le-length}
use Rattle.std.specs.Char.{is_ascii_digit}
use Rattle.int_core.specs.Numeral.{is_space}
use Rattle.token_cursor.specs.declared.word.TheConstants.{FUNCTION}
use Rattle.token_cursor.specs.Words.{Lexeme, is_word}
use Rattle.lua_lex.specs.declared.token.Token.{Token}
use Rattle.lua_lex.specs.declared.token.Token.TheVariants as made
use Rattle.lua_lex.specs.declared.kind.Kind.{Kind}
use Rattle.lua_lex.specs.declared.kind.Kind.TheVariants.{End, Space, Comment, LongComment, Word, Numeral, ShortString, LongString, Symbol}
use Rattle.lua_lex.specs.declared.escape.Escape.{Escape}
use Rattle.lua_lex.specs.declared.escape.Escape.TheVariants as escape
use Rattle.lua_lex.specs.declared.escape.Meaning.{Meaning}
use Rattle.lua_lex.specs.declared.quoted.Element.{Element}
use Rattle.lua_lex.specs.declared.quoted.Element.TheVariants as element
use Rattle.lua_lex.specs.Words.{keywords, marks, place_of}
use Rattle.lua_lex.specs.Classes.{is_line_end, end_len, is_name_start, is_name_byte, is_numeral_byte}
use Rattle.lua_lex.specs.Brackets.{level_of, closer, opens_long, LongBracket}
use Rattle.lua_lex.specs.Strings.{decimal_len, unicode_len, escape_of, element_of, IsEscapeOf, IsElementOf, Quoted}
use Rattle.lua_lex.specs.Strings as strings
use Rattle.grammar_laws.proofs.Claims.{opening}
use Rattle.lua_lex.specs.Lexical.{kind_of, begins_numeral, begins_comment, comment_kind, SkipsOf, Gap, nothing, piece, word_token, IsTokenOf, IsToken, TokensFrom, ends, goes_on}
use Rattle.list_laws.proofs.Tests.{or_left}

-- what is dropped leaves no more

pub dropped : (n : ℕ) (text : List ℕ) {rest : List ℕ} → rest ≡ drop n text → length rest ≤ length text - n
dropped n text e = omega (arith, ap length e, length-drop n text)

-- a long bracket's two ends have two bytes at least

bracket_takes : (text content rest : List ℕ) → LongBracket text content rest → length rest + 2 ≤ length text
bracket_takes text content rest b =
    let level = level_of text in
    let bracket : List ℕ = 93 ∷ [] in
    omega (arith, ap length b.whole, length-drop (2 + level) text, length-append content (closer level ++ rest), length-append (closer level) rest, length-append (replicate level 61) bracket)

-- strings between quotes

pub escape_takes : (kind : Escape) (text : List ℕ) (meaning : Meaning) (rest : List ℕ) → IsEscapeOf kind text meaning rest → length rest ≤ length text
escape_takes (escape.Letter value) text meaning rest h = omega (arith, dropped 1 text h.1)
escape_takes escape.LineEnd text meaning rest h = omega (arith, dropped (end_len text) text h.1)
escape_takes escape.Space text meaning rest h = omega (arith, dropped (1 + prefix_len is_space (drop 1 text)) text h.1)
escape_takes escape.Hexadecimal text meaning rest h = omega (arith, dropped 3 text h.3)
escape_takes escape.Decimal text meaning rest h = omega (arith, dropped (decimal_len text) text h.2)
escape_takes escape.Unicode text meaning rest h = omega (arith, dropped (3 + unicode_len text) text h.2)
escape_takes escape.Unknown text meaning rest h = absurd h

element_takes : (kind : Element) (text bytes rest : List ℕ) → IsElementOf kind text bytes rest → length rest ≤ length text
element_takes element.Plain text bytes rest h = omega (arith, dropped 1 text h.1)
element_takes element.Backslash text bytes rest h = omega (arith, escape_takes (escape_of (slice_index (drop 1 text) 0)) (drop 1 text) h.0 rest h.1, length-drop 1 text)
element_takes _ text bytes rest h = absurd h

quoted_takes : {quote : ℕ} {text content rest : List ℕ} → Quoted quote text content rest → length rest ≤ length text
quoted_takes {text = text} (strings.closes e) = omega (arith, length-drop 1 text)
quoted_takes {quote = quote} {text = text} (strings.goes_on between bytes e h) = omega (arith, element_takes (element_of quote text) text bytes between e, quoted_takes h)

-- what is skipped

pub skip_takes : (kind : Kind) (text rest : List ℕ) → SkipsOf kind text rest → length rest ≤ length text
skip_takes Space text rest h = omega (arith, dropped 1 text h)
skip_takes Comment text rest h = omega (arith, dropped (2 + position_or_len is_line_end (drop 2 text)) text h)
skip_takes LongComment text rest h = omega (arith, bracket_takes (drop 2 text) h.0 rest h.1, length-drop 2 text)
skip_takes _ text rest h = absurd h

pub gap_takes : {text rest : List ℕ} → Gap text rest → length rest ≤ length text
gap_takes nothing = omega arith
gap_takes (piece {text = text} {between = between} h gap) = omega (arith, skip_takes (kind_of text) text between h, gap_takes gap)

-- words

-- the word `function` stands in the place 8 of the keywords, and nowhere else

place_is : (words : List (List ℕ)) (word : List ℕ) (from place : ℕ) → position_from (λ other. pointwise nat_eq other word) from words ≡ Some place → (from ≤ place) × (slice_get words (place - from) ≡ Some word)
place_is [] word from place found = absurd cc
place_is (first ∷ words) word from place found = by (place_is words word (from + 1) place) (pointwise nat_eq first word) refl found
  where
    by : (position_from (λ other. pointwise nat_eq other word) (from + 1) words ≡ Some place → (from + 1 ≤ place) × (slice_get words (place - (from + 1)) ≡ Some word)) → (same : Bool) → pointwise nat_eq first word ≡ same
        → cond same (Some from) (position_from (λ other. pointwise nat_eq other word) (from + 1) words) ≡ Some place → (from ≤ place) × (slice_get (first ∷ words) (place - from) ≡ Some word)
    by later true same found =
        let here : from ≡ place = cc in
        let none : place - from ≡ 0 = omega (arith, here) in
        (omega (arith, here), rw none (ap Some (same_text first word (sym same))))
    by later false same found =
        let rest = later found in
        let one : place - from ≡ suc (place - (from + 1)) = omega (arith, rest.0) in
        (omega (arith, rest.0), rw one rest.1)

function_spelled : (word : List ℕ) → place_of keywords word ≡ Some 8 → length word ≡ 8
unfolding keywords
function_spelled word found =
    let at : Some (codes "function") ≡ Some word = (place_is keywords word 0 8 found).1 in
    let same : codes "function" ≡ word = cc in
    ap length (sym same)

-- the kind of a text, by its tests in their order

abbrev by_tests : (empty space name numeral quote comment : Bool) → (commented : Kind) → (bracket : Bool) → Kind
by_tests empty space name numeral quote comment commented bracket =
    if empty then End else if space then Space else if name then Word else if numeral then Numeral else if quote then ShortString
    else if comment then commented else if bracket then LongString else Symbol

tests_word : (empty space name numeral quote comment : Bool) (commented : Kind) (bracket : Bool) → (commented ≡ Word → ⊥)
    → by_tests empty space name numeral quote comment commented bracket ≡ Word → name ≡ true
tests_word true _ _ _ _ _ k _ no_word is = absurd (cc)
tests_word false true _ _ _ _ k _ no_word is = absurd (cc)
tests_word false false true _ _ _ k _ no_word is = refl
tests_word false false false true _ _ k _ no_word is = absurd (cc)
tests_word false false false false true _ k _ no_word is = absurd (cc)
tests_word false false false false false true k _ no_word is = absurd (no_word is)
tests_word false false false false false false k true no_word is = absurd (cc)
tests_word false false false false false false k false no_word is = absurd (cc)

tests_numeral : (empty space name numeral quote comment : Bool) (commented : Kind) (bracket : Bool) → (commented ≡ Numeral → ⊥)
    → by_tests empty space name numeral quote comment commented bracket ≡ Numeral → numeral ≡ true
tests_numeral true _ _ _ _ _ k _ no_numeral is = absurd (cc)
tests_numeral false true _ _ _ _ k _ no_numeral is = absurd (cc)
tests_numeral false false true _ _ _ k _ no_numeral is = absurd (cc)
tests_numeral false false false true _ _ k _ no_numeral is = refl
tests_numeral false false false false true _ k _ no_numeral is = absurd (cc)
tests_numeral false false false false false true k _ no_numeral is = absurd (no_numeral is)
tests_numeral false false false false false false k true no_numeral is = absurd (cc)
tests_numeral false false false false false false k false no_numeral is = absurd (cc)

comment_no_other : (kind : Kind) → (LongComment ≡ kind → ⊥) → (Comment ≡ kind → ⊥) → (text : List ℕ) → comment_kind text ≡ kind → ⊥
comment_no_other kind long short text is = by (opens_long (drop 2 text)) is
  where
    by : (b : Bool) → (if b then LongComment else Comment) ≡ kind → ⊥
    by true e = long e
    by false e = short e

comment_no_word : (text : List ℕ) → comment_kind text ≡ Word → ⊥
comment_no_word text is = comment_no_other Word (λ e. cc) (λ e. cc) text is

comment_no_numeral : (text : List ℕ) → comment_kind text ≡ Numeral → ⊥
comment_no_numeral text is = comment_no_other Numeral (λ e. cc) (λ e. cc) text is

word_starts : (text : List ℕ) → kind_of text ≡ Word → is_name_start (slice_index text 0) ≡ true
unfolding kind_of
word_starts text is =
    tests_word (length text == 0) (is_space (slice_index text 0)) (is_name_start (slice_index text 0)) (begins_numeral text) (slice_index text 0 == 34 || slice_index text 0 == 39) (begins_comment text)
    (comment_kind text) (opens_long text) (comment_no_word text) is

numeral_starts : (text : List ℕ) → kind_of text ≡ Numeral → begins_numeral text ≡ true
unfolding kind_of
numeral_starts text is =
    tests_numeral (length text == 0) (is_space (slice_index text 0)) (is_name_start (slice_index text 0)) (begins_numeral text) (slice_index text 0 == 34 || slice_index text 0 == 39) (begins_comment text)
    (comment_kind text) (opens_long text) (comment_no_numeral text) is

empty_kind : kind_of [] ≡ End
unfolding kind_of
empty_kind = refl

numeral_passes : (digit point more start : Bool) → (digit || (point && more)) ≡ true → ((start || digit) || point) ≡ true
numeral_passes true point more true e = refl
numeral_passes true point more false e = refl
numeral_passes false true more true e = refl
numeral_passes false true more false e = refl
numeral_passes false false more start e = absurd cc

runs : (p : ℕ → Bool) (x : ℕ) (text : List ℕ) → p x ≡ true → 1 ≤ prefix_len p (x ∷ text)
runs p x text e = by (p x) e
  where
    by : (b : Bool) → b ≡ true → 1 ≤ cond b (1 + prefix_len p text) 0
    by true h = omega arith
    by false h = absurd cc

no_mark_empty : (number : ℕ) → place_of marks [] ≡ Some number → ⊥
unfolding marks
no_mark_empty number e = cc

mark_takes : (spelling : List ℕ) (number : ℕ) → place_of marks spelling ≡ Some number → 1 ≤ length spelling
mark_takes [] number e = absurd (no_mark_empty number e)
mark_takes (x ∷ spelling) number e = omega arith

-- a token takes a byte

token_takes_of : (kind : Kind) (text : List ℕ) (token : Token) (rest : List ℕ) → kind_of text ≡ kind → IsTokenOf kind text token rest → length rest + 1 ≤ length text
token_takes_of Word [] token rest is h = absurd (let bad : End ≡ Word = sym empty_kind ∙ is in cc)
token_takes_of Word (x ∷ text) token rest is h =
    omega (arith, dropped (prefix_len is_name_byte (x ∷ text)) (x ∷ text) h.1, runs is_name_byte x text (or_left (is_name_start x) (is_ascii_digit x) (word_starts (x ∷ text) is)))
token_takes_of Numeral [] token rest is h = absurd (let bad : End ≡ Numeral = sym empty_kind ∙ is in cc)
token_takes_of Numeral (x ∷ text) token rest is h =
    let starts = numeral_passes (is_ascii_digit x) (x == 46) (is_ascii_digit (slice_index (x ∷ text) 1)) (is_name_start x) (numeral_starts (x ∷ text) is) in
    omega (arith, dropped (prefix_len is_numeral_byte (x ∷ text)) (x ∷ text) h.3, runs is_numeral_byte x text starts)
token_takes_of ShortString [] token rest is h = absurd (let bad : End ≡ ShortString = sym empty_kind ∙ is in cc)
token_takes_of ShortString (x ∷ text) token rest is h = omega (arith, quoted_takes h.1, length-drop 1 (x ∷ text))
token_takes_of LongString text token rest is h = omega (arith, bracket_takes text h.0 rest h.1)
token_takes_of Symbol text token rest is h = let m = h.1 in omega (arith, mark_takes m.spelling h.0 m.place, ap length m.whole, length-append m.spelling rest)
token_takes_of _ text token rest is h = absurd h

pub token_takes : (text : List ℕ) (token : Token) (rest : List ℕ) → IsToken text token rest → length rest + 1 ≤ length text
token_takes text token rest h = token_takes_of (kind_of text) text token rest refl h

-- the word `function` takes eight

function_takes_of : (kind : Kind) (text : List ℕ) (token : Token) (rest : List ℕ) → token ≡ made.Keyword 8 → IsTokenOf kind text token rest → length rest + 8 ≤ length text
function_takes_of Word text token rest is h = by (take_while is_name_byte text) (length-prefix_len is_name_byte text) (place_of keywords (take_while is_name_byte text)) refl h.0
  where
    by : (word : List ℕ) → length word ≡ prefix_len is_name_byte text → (o : Option ℕ) → place_of keywords word ≡ o → token ≡ word_token word o → length rest + 8 ≤ length text
    by word long None e t = absurd (let bad : made.Name word ≡ made.Keyword 8 = sym t ∙ is in cc)
    by word long (Some n) e t =
        let same : made.Keyword n ≡ made.Keyword 8 = sym t ∙ is in
        let number : n ≡ 8 = cc in
        let eight = function_spelled word (e ∙ ap Some number) in
        omega (arith, dropped (prefix_len is_name_byte text) text h.1, long, eight, prefix_len-le-length is_name_byte text)
function_takes_of Numeral text token rest is h = absurd (let bad : made.Int h.0 ≡ made.Keyword 8 = sym h.2 ∙ is in cc)
function_takes_of ShortString text token rest is h = absurd (let bad : made.Str h.0 ≡ made.Keyword 8 = sym h.2 ∙ is in cc)
function_takes_of LongString text token rest is h = absurd (let bad = sym h.2 ∙ is in cc)
function_takes_of Symbol text token rest is h = absurd (let bad : made.Mark h.0 ≡ made.Keyword 8 = sym h.2 ∙ is in cc)
function_takes_of _ text token rest is h = absurd h

-- lists of tokens

pub tokens_count : {line : ℕ} {text : List ℕ} {list : List Lexeme} → TokensFrom line text list → length list ≤ length text + 1
tokens_count (ends gap) = omega arith
tokens_count (goes_on start rest token list gap h more) = omega (arith, gap_takes gap, token_takes start token rest h, tokens_count more)

is_function : (t : Token) → is_word FUNCTION t ≡ true → t ≡ made.Keyword 8
is_function (made.Keyword n) e = let same : n ≡ 8 = grind (arith, nat_tests) in ap made.Keyword same
is_function _ e = absurd cc

pub openings_fit : {line : ℕ} {text : List ℕ} {list : List Lexeme} → TokensFrom line text list → 8 * opening list ≤ length text
openings_fit (ends gap) = omega arith
openings_fit (goes_on {text = text} start rest token list gap h more) = by (is_word FUNCTION token) refl (openings_fit more)
  where
    by : (b : Bool) → is_word FUNCTION token ≡ b → 8 * opening list ≤ length rest → 8 * (cond b 1 0 + opening list) ≤ length text
    by true e later = omega (arith, gap_takes gap, function_takes_of (kind_of start) start token rest (is_function token e) h, later)
    by false e later = omega (arith, gap_takes gap, token_takes start token rest h, later)

-- The texts of a source's tokens are no longer than six times the source, so they fit, and their integers have 64 bits.
use Rattle.std.proofs.Common.{ℕ, ◌+◌, ◌*◌, ◌≤◌, Bool, true, false, List, [], ◌∷◌, ◌++◌, length, drop, Option, Some, None, sym, ap, arith, length-append, length-drop, lt-ltb, le-leb, ◌⊎◌, inl, inr, subst, IsTrue}
use Rattle.std.specs.Prelude.{ℤ, pos, negsuc, slice_index, take_while, nat_lt, if◌then◌else◌, FitsSigned}
use Rattle.std.specs.Int.{w64}
use Rattle.std.specs.List.{prefix_len}
use Rattle.std.proofs.lemmas.Int.{SFits-int_wrap}
use Rattle.std.proofs.lemmas.List.Folds.{length-prefix_len}
use Rattle.std.proofs.lemmas.List.Sums.{prefix_len-le-length}
use Rattle.int_core.specs.Numeral.{digits_value, signed, IsDecimal, IsHexadecimal}
use Rattle.int_core.specs.Value.{greatest_string}
use Rattle.code_core.specs.Writable.{signed_fits}
use Rattle.code_checked.specs.Written.{TextFits}
use Rattle.token_cursor.specs.Words.{Lexeme}
use Rattle.lua_lex.specs.declared.token.Token.{Token}
use Rattle.lua_lex.specs.declared.kind.Kind.{Kind}
use Rattle.lua_lex.specs.declared.kind.Kind.TheVariants.{Word, Numeral, ShortString, LongString, Symbol}
use Rattle.lua_lex.specs.declared.escape.Meaning.{Meaning}
use Rattle.lua_lex.specs.declared.escape.Meaning.TheVariants as meant
use Rattle.lua_lex.specs.declared.quoted.Element.{Element}
use Rattle.lua_lex.specs.declared.quoted.Element.TheVariants as element
use Rattle.lua_lex.specs.Words.{keywords, place_of}
use Rattle.lua_lex.specs.Classes.{is_line_end, is_pair, end_len, is_name_byte, is_numeral_byte, read_lines, behind_line_end}
use Rattle.lua_lex.specs.Brackets.{level_of, closer, LongBracket}
use Rattle.lua_lex.specs.Utf8.{sequence, extended_utf8}
use Rattle.lua_lex.specs.Strings.{decimal_len, unicode_len, escape_of, element_of, meaning_bytes, IsEscapeOf, IsElementOf, Quoted}
use Rattle.lua_lex.specs.Strings as strings
use Rattle.lua_lex.specs.Lexical.{kind_of, word_token, IsTokenOf, TokensFrom, ends, goes_on}
use Rattle.grammar_laws.proofs.Walk.{AreKnown}
use Rattle.source_laws.proofs.TextParts.{TokenFits, LexemeFits}
use Rattle.grammar_laws.proofs.Bytes.{escape_takes, gap_takes, dropped}

-- what is dropped leaves no more

-- long brackets

pub record Bracketed (text content rest : List ℕ) : Type 0 where
  pub content_fits : length content ≤ length text
  pub rest_fits : length rest ≤ length text

bracketed : (text content rest : List ℕ) → LongBracket text content rest → Bracketed text content rest
bracketed text content rest b =
    let level = level_of text in
    let whole = ap length b.whole in
    let size = length-drop (2 + level) text in
    let parts = length-append content (closer level ++ rest) in
    let ending = length-append (closer level) rest in
    record { content_fits = omega (arith, whole, size, parts); rest_fits = omega (arith, whole, size, parts, ending) }

-- an end of line is read as one byte

lines_read : (text : List ℕ) → length (read_lines text) ≤ length text
lines_read [] = omega arith
lines_read (byte ∷ []) = omega arith
lines_read (byte ∷ next ∷ text) = by (lines_read text) (lines_read (next ∷ text)) (is_line_end byte) (is_pair byte next)
  where
    by : length (read_lines text) ≤ length text → length (read_lines (next ∷ text)) ≤ length (next ∷ text) → (b c : Bool)
        → length (if b then 10 ∷ (if c then read_lines text else read_lines (next ∷ text)) else byte ∷ read_lines (next ∷ text)) ≤ length (byte ∷ next ∷ text)
    by h k true true = omega (arith, h)
    by h k true false = omega (arith, k)
    by h k false c = omega (arith, k)

first_line_passed : (text : List ℕ) → length (behind_line_end text) ≤ length text
first_line_passed text = by (is_line_end (slice_index text 0))
  where
    by : (b : Bool) → length (if b then drop (end_len text) text else text) ≤ length text
    by true = omega (arith, length-drop (end_len text) text)
    by false = omega arith

-- a character has at most six bytes

utf8_short : (value : ℕ) → length (extended_utf8 value) ≤ 6
unfolding extended_utf8
utf8_short value = by (nat_lt value 0x80) (nat_lt value 0x800) (nat_lt value 0x1_0000) (nat_lt value 0x20_0000) (nat_lt value 0x400_0000)
  where
    by : (a b c d e : Bool) → length (if a then value ∷ [] else if b then sequence 0xc0 1 value else if c then sequence 0xe0 2 value else if d then sequence 0xf0 3 value else if e then sequence 0xf8 4 value else sequence 0xfc 5 value) ≤ 6
    by true b c d e = omega arith
    by false true c d e = omega arith
    by false false true d e = omega arith
    by false false false true e = omega arith
    by false false false false true = omega arith
    by false false false false false = omega arith

meaning_short : (meaning : Meaning) → length (meaning_bytes meaning) ≤ 6
meaning_short meant.Nothing = omega arith
meaning_short (meant.Byte value) = omega arith
meaning_short (meant.Character value) = utf8_short value

-- strings between quotes

element_grows : (kind : Element) (first : ℕ) (text bytes rest : List ℕ) → IsElementOf kind (first ∷ text) bytes rest → length bytes + 6 * length rest ≤ 6 * length (first ∷ text)
element_grows element.Plain first text bytes rest h = omega (arith, ap length h.0, dropped 1 (first ∷ text) h.1)
element_grows element.Backslash first text bytes rest h =
    omega (arith, ap length h.2, meaning_short h.0, escape_takes (escape_of (slice_index (drop 1 (first ∷ text)) 0)) (drop 1 (first ∷ text)) h.0 rest h.1, length-drop 1 (first ∷ text))
element_grows _ first text bytes rest h = absurd h

no_element : (quote : ℕ) (bytes rest : List ℕ) → IsElementOf (element_of quote []) [] bytes rest → ⊥
unfolding element_of
no_element quote bytes rest h = h

element_of_some : (quote : ℕ) (text bytes rest : List ℕ) → IsElementOf (element_of quote text) text bytes rest → length bytes + 6 * length rest ≤ 6 * length text
element_of_some quote [] bytes rest h = absurd (no_element quote bytes rest h)
element_of_some quote (first ∷ text) bytes rest h = element_grows (element_of quote (first ∷ text)) first text bytes rest h

quoted_grows : {quote : ℕ} {text content rest : List ℕ} → Quoted quote text content rest → length content + 6 * length rest ≤ 6 * length text
quoted_grows {text = text} (strings.closes e) = omega (arith, length-drop 1 text)
quoted_grows {quote = quote} {text = text} (strings.goes_on {content = content} between bytes e h) =
    omega (arith, element_of_some quote text bytes between e, quoted_grows h, length-append bytes content)

-- what is skipped

-- tokens

text_fits : (text : List ℕ) → length text ≤ greatest_string → TextFits text
text_fits text h = le-leb (length text) greatest_string h

integer_has_bits : (z : ℤ) → FitsSigned w64 z → IsTrue (signed_fits 63 z)
integer_has_bits (pos n) h = lt-ltb _ _ h.sfits
integer_has_bits (negsuc n) h = lt-ltb _ _ h.sfits

spelled_fits : (negative : Bool) (digits : List ℕ) (z : ℤ) → IsDecimal negative digits z ⊎ IsHexadecimal negative digits z → FitsSigned w64 z
spelled_fits negative digits z (inl d) = d.fits
spelled_fits negative digits z (inr x) = subst (FitsSigned w64) (sym x.value) (SFits-int_wrap w64 (signed negative (digits_value 16 x.rest)))

word_fits : (word : List ℕ) (o : Option ℕ) → length word ≤ greatest_string → TokenFits (word_token word o)
word_fits word None h = text_fits word h
word_fits word (Some number) h = tt

run_short : (p : ℕ → Bool) (text : List ℕ) → length (take_while p text) ≤ length text
run_short p text = omega (arith, length-prefix_len p text, prefix_len-le-length p text)

-- a token fits, and leaves no more than there was
pub record Taken (text : List ℕ) (token : Token) (rest : List ℕ) : Type 0 where
  pub fits : TokenFits token
  pub leaves : length rest ≤ length text

taken : (kind : Kind) (text : List ℕ) (token : Token) (rest : List ℕ) → 6 * length text ≤ greatest_string → IsTokenOf kind text token rest → Taken text token rest
taken Word text token rest small h =
    let short = run_short is_name_byte text in
    record {
      fits = subst TokenFits (sym h.0) (word_fits (take_while is_name_byte text) (place_of keywords (take_while is_name_byte text)) (omega (arith, short, small)));
      leaves = omega (arith, dropped (prefix_len is_name_byte text) text h.1);
    }
taken Numeral text token rest small h =
    let s = h.1 in
    record {
      fits = subst TokenFits (sym h.2) (integer_has_bits h.0 (spelled_fits s.negative s.digits h.0 s.spelled));
      leaves = omega (arith, dropped (prefix_len is_numeral_byte text) text h.3);
    }
taken ShortString text token rest small h =
    let grows = quoted_grows h.1 in
    let size = length-drop 1 text in
    record { fits = subst TokenFits (sym h.2) (text_fits h.0 (omega (arith, grows, size, small))); leaves = omega (arith, grows, size) }
taken LongString text token rest small h =
    let b = bracketed text h.0 rest h.1 in
    let content = b.content_fits in
    let read = lines_read (behind_line_end h.0) in
    let passed = first_line_passed h.0 in
    record { fits = subst TokenFits (sym h.2) (text_fits (read_lines (behind_line_end h.0)) (omega (arith, content, read, passed, small))); leaves = b.rest_fits }
taken Symbol text token rest small h =
    let m = h.1 in
    let whole = ap length m.whole in
    let parts = length-append m.spelling rest in
    record { fits = subst TokenFits (sym h.2) tt; leaves = omega (arith, whole, parts) }
taken _ text token rest small h = absurd h

pub tokens_fit : {line : ℕ} {text : List ℕ} {list : List Lexeme} → 6 * length text ≤ greatest_string → TokensFrom line text list → AreKnown LexemeFits list
tokens_fit small (ends gap) = (tt, tt)
tokens_fit small (goes_on start rest token list gap h more) =
    let before = gap_takes gap in
    let one = taken (kind_of start) start token rest (omega (arith, small, before)) h in
    let leaves = one.leaves in
    (one.fits, tokens_fit (omega (arith, small, before, leaves)) more)

-- Whatever is read of tokens whose lines are at most a greatest one has only such lines, and so has the tree of a source.
use Rattle.std.proofs.Common.{ℕ, ◌+◌, ◌-◌, ◌≤◌, Bool, true, false, List, [], ◌∷◌, length, take, refl, arith, length-take}
use Rattle.std.specs.Prelude.{if◌then◌else◌}
use Rattle.tree_core.specs.Tree as tree
use Rattle.token_cursor.specs.Words.{Lexeme}
use Rattle.lua_lex.specs.Classes.{is_line_end, is_pair, line_ends}
use Rattle.lua_lex.specs.Lexical.{line_of, TokensFrom, ends as at_end, goes_on, TokensOf}
use Rattle.lua_parse.specs.Moves.{a_block, chunk}
use Rattle.lua_parse.specs.Reading.{Derives}
use Rattle.grammar_laws.specs.Lines.{BlockIsWithin}
use Rattle.grammar_laws.proofs.Walk.{AreKnown, goes}
use Rattle.grammar_laws.proofs.LineKeeping.{TokenIsWithin}
use Rattle.grammar_laws.proofs.LineParts.{part_stays}
use Rattle.grammar_laws.proofs.Bytes.{gap_takes, token_takes}

-- the lines of tokens: one more than the ends of lines in front, of which there are no more than bytes

few_ends : (text : List ℕ) → line_ends text ≤ length text
few_ends [] = omega arith
few_ends (byte ∷ []) = by (is_line_end byte)
  where
    by : (b : Bool) → (if b then 1 else 0) ≤ 1
    by true = omega arith
    by false = omega arith
few_ends (byte ∷ next ∷ text) = by (few_ends text) (few_ends (next ∷ text)) (is_line_end byte) (is_pair byte next)
  where
    by : line_ends text ≤ length text → line_ends (next ∷ text) ≤ length (next ∷ text) → (b c : Bool)
        → (if b then (if c then 1 + line_ends text else 1 + line_ends (next ∷ text)) else line_ends (next ∷ text)) ≤ length (byte ∷ next ∷ text)
    by h k true true = omega (arith, h)
    by h k true false = omega (arith, k)
    by h k false c = omega (arith, k)

line_short : (line : ℕ) (text rest : List ℕ) → length rest ≤ length text → line_of line text rest + length rest ≤ line + length text
line_short line text rest h = omega (arith, h, few_ends (take (length text - length rest) text), length-take (length text - length rest) text)

pub tokens_below : {line : ℕ} {text : List ℕ} {list : List Lexeme} (most : ℕ) → line + length text ≤ most → TokensFrom line text list → AreKnown (TokenIsWithin most) list
tokens_below {line = line} {text = text} most h (at_end gap) = (omega (arith, h, line_short line text [] (omega arith)), tt)
tokens_below {line = line} {text = text} most h (goes_on start rest token list gap t more) =
    let begins = line_short line text start (gap_takes gap) in
    let goes = line_short (line_of line text start) start rest (omega (arith, token_takes start token rest t)) in
    (omega (arith, h, begins), tokens_below most (omega (arith, h, begins, goes)) more)

pub tree_within : (source : List ℕ) (tokens : List Lexeme) (tree : tree.Block) → TokensOf source tokens → Derives tokens tree → BlockIsWithin (length source + 1) tree
tree_within source tokens tree t d =
    let most = length source + 1 in
    (goes (part_stays most) (a_block tree) d.height [] d.reads refl (part_stays most chunk 400 tt) (tokens_below most (omega arith) t)).holds

-- The parts of one token.
use Rattle.std.proofs.Common.{◌≡◌, ℕ, ◌+◌, Bool, true, false, List, Option, Some, None, ap, arith}
use Rattle.std.specs.Prelude.{◌&&◌, nat_lt, if◌then◌else◌}
use Rattle.std.proofs.lemmas.Bool.Decides.{nat_tests}
use Rattle.tree_core.specs.Tree as tree
use Rattle.lua_lex.specs.declared.token.Token.{Token}
use Rattle.lua_lex.specs.declared.token.Token.TheVariants as token
use Rattle.token_cursor.specs.declared.word.Word.{Word}
use Rattle.token_cursor.specs.declared.word.Word.TheVariants.{Keyword, Mark}
use Rattle.token_cursor.specs.declared.word.TheConstants.{FALSE, NIL, TRUE, DOTS}
use Rattle.token_cursor.specs.Words.{Lexeme, is_word, name_of}
use Rattle.lua_parse.specs.Words.{literal, constant_of}
use Rattle.lua_parse.specs.Moves.{an_exp, Part, word, opener, name, Move}
use Rattle.lua_parse.specs.Grammar.{expects, name_move, constant_move}
use Rattle.grammar_laws.proofs.Claims.{opens_function, spelling, ExpHolds, Claim, carried, written, IsReady}
use Rattle.grammar_laws.proofs.SizeKeeping.{opened, Keeps, picks, passes, refuses, ends, passes_if}

-- a part of the grammar keeps its claim
abbrev pub Kept : Part → Type 0
Kept part = (room : ℕ) → IsReady part → Keeps part None (expects room part) (carried part) (written part)

spelled : (w : Word) (t : Token) → is_word w t ≡ true → t ≡ spelling w
spelled (Keyword n) (token.Keyword m) is = let same : m ≡ n = grind (arith, nat_tests) in ap token.Keyword same
spelled (Mark n) (token.Mark m) is = let same : m ≡ n = grind (arith, nat_tests) in ap token.Mark same
spelled _ _ is = absurd (cc)

pub word_kept : (w : Word) → Kept (word w)
word_kept w room ready = picks (λ t. passes_if (is_word w t.0) (λ is. ends (omega arith, omega (arith, ap opens_function (spelled w t.0 is)))))

pub opener_kept : (w : Word) (height : ℕ) → Kept (opener w height)
opener_kept w height room ready = picks (λ t. passes_if (is_word w t.0 && nat_lt height room) (λ is. ends (omega arith)))

pub name_kept : Kept name
name_kept room ready = picks (λ t. by t (name_of t.0))
  where
    by : (t : Lexeme) (o : Option (List ℕ)) → Keeps name (Some t) (name_move t.1 o) 0 0
    by t None = refuses
    by t (Some text) = passes (ends (omega arith))

-- an expression of one token

abbrev pub IsLight : Option tree.Exp → Type 0
IsLight None = Unit {0}
IsLight (Some e) = ExpHolds e 1 0

light_if : (b : Bool) (o p : Option tree.Exp) → IsLight o → IsLight p → IsLight (if b then o else p)
light_if true o p h k = h
light_if false o p h k = k

light_literal : (t : Token) (line : ℕ) → IsLight (literal t line)
light_literal (token.Int n) line = (omega arith, omega arith, tt)
light_literal (token.Str bytes) line = (omega arith, omega arith, tt)
light_literal _ line = tt

pub light_constant : (t : Lexeme) → IsLight (constant_of t)
light_constant t =
    light_if (is_word NIL t.0) _ _ (omega arith, omega arith, tt) (light_if (is_word TRUE t.0) _ _ (omega arith, omega arith, tt)
    (light_if (is_word FALSE t.0) _ _ (omega arith, omega arith, tt) (light_if (is_word DOTS t.0) _ _ (omega arith, omega arith, tt) (light_literal t.0 t.1))))

pub constant_keeps : {whole : Part} {known : Option Lexeme} {n m : ℕ} {other : Move} (o : Option tree.Exp) → IsLight o
    → ((e : tree.Exp) → ExpHolds e 1 0 → Claim whole (an_exp e) (n + 1) (m + opened known))
    → Keeps whole known other n m → Keeps whole known (constant_move o other) n m
constant_keeps None light claim otherwise = otherwise
constant_keeps (Some e) light claim otherwise = passes (ends (claim e light))

-- A token that cannot join two operands is an operator of no level.
use Rattle.std.proofs.Common.{◌≡◌, ℕ, Bool, true, false, None, refl, ap, sym, ◌∙◌}
use Rattle.std.specs.Prelude.{◌==◌}
use Rattle.std.proofs.lemmas.Bool.{eqb-true}
use Rattle.lua_lex.specs.declared.token.Token.{Token}
use Rattle.lua_lex.specs.declared.token.Token.TheVariants as token
use Rattle.token_cursor.specs.declared.level.Level.{Level}
use Rattle.token_cursor.specs.declared.level.Level.TheVariants as level
use Rattle.token_cursor.specs.declared.word.Word.{Word}
use Rattle.token_cursor.specs.declared.word.Word.TheVariants.{Keyword, Mark}
use Rattle.token_cursor.specs.declared.word.TheConstants.{AND, OR, PLUS, MINUS, STAR, PERCENT, FLOOR_DIVISION, AMPERSAND, TILDE, BAR, SHIFT_LEFT, SHIFT_RIGHT, EQUAL, NOT_EQUAL, LESS_EQUAL, GREATER_EQUAL, LESS, GREATER, CONCAT}
use Rattle.token_cursor.specs.Words.{is_word, may_join, operator_of}

-- the words of the tokens that may join
abbrev spelled : Word → Token
spelled (Keyword n) = token.Keyword n
spelled (Mark n) = token.Mark n

number_apart : (join : ℕ → Bool) (m n : ℕ) → join m ≡ false → join n ≡ true → (m == n) ≡ false
number_apart join m n h j = by_same (m == n) refl where
  by_same : (same : Bool) → (m == n) ≡ same → (m == n) ≡ false
  by_same false e = e
  by_same true e = let bad : true ≡ false = sym j ∙ ap join (sym (eqb-true m n e)) ∙ h in absurd cc

apart : (t : Token) → may_join t ≡ false → (w : Word) → may_join (spelled w) ≡ true → is_word w t ≡ false
apart (token.Keyword m) h (Keyword n) j = number_apart (λ k. may_join (token.Keyword k)) m n h j
apart (token.Keyword m) h (Mark n) j = refl
apart (token.Mark m) h (Keyword n) j = refl
apart (token.Mark m) h (Mark n) j = number_apart (λ k. may_join (token.Mark k)) m n h j
apart (token.Name text) h (Keyword n) j = refl
apart (token.Name text) h (Mark n) j = refl
apart (token.Int m) h (Keyword n) j = refl
apart (token.Int m) h (Mark n) j = refl
apart (token.Str bytes) h (Keyword n) j = refl
apart (token.Str bytes) h (Mark n) j = refl
apart token.End h (Keyword n) j = refl
apart token.End h (Mark n) j = refl

pub none_joins : (level : Level) (t : Token) → may_join t ≡ false → operator_of level t ≡ None
none_joins level.Or t h = rw (apart t h OR refl) refl
none_joins level.And t h = rw (apart t h AND refl) refl
none_joins level.Comparison t h =
    rw (apart t h LESS refl, apart t h GREATER refl, apart t h LESS_EQUAL refl, apart t h GREATER_EQUAL refl, apart t h NOT_EQUAL refl, apart t h EQUAL refl) refl
none_joins level.BitOr t h = rw (apart t h BAR refl) refl
none_joins level.BitXor t h = rw (apart t h TILDE refl) refl
none_joins level.BitAnd t h = rw (apart t h AMPERSAND refl) refl
none_joins level.Shift t h = rw (apart t h SHIFT_LEFT refl, apart t h SHIFT_RIGHT refl) refl
none_joins level.Concat t h = rw (apart t h CONCAT refl) refl
none_joins level.Sum t h = rw (apart t h PLUS refl, apart t h MINUS refl) refl
none_joins level.Product t h = rw (apart t h STAR refl, apart t h FLOOR_DIVISION refl, apart t h PERCENT refl) refl

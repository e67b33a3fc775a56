-- What a token is for the grammar (Lua 5.4 manual, 3.1, 3.3 and 3.4.8).
use Rattle.std.specs.Prelude.{ℕ, Bool, true, false, ◌==◌, ◌||◌, nat_le, if◌then◌else◌, Option, Some, None, List, [], ◌∷◌}
use Rattle.lua_lex.specs.Lexical.{is_end}
use Rattle.lua_lex.specs.declared.token.Token.{Token}
use Rattle.lua_lex.specs.declared.token.Token.TheVariants as token
use Rattle.tree_core.specs.declared.operator.BinOp.TheVariants.{Add, Sub, Mul, Mod, Idiv, Band, Bor, Bxor, Shl, Shr, Concat, Eq, Ne, Lt, Le, Gt, Ge}
use Rattle.tree_core.specs.declared.operator.UnOp.{UnOp}
use Rattle.tree_core.specs.declared.operator.UnOp.TheVariants as unary
use Rattle.tree_making.specs.declared.operator.Infix.{Infix}
use Rattle.tree_making.specs.declared.operator.Infix.TheVariants as joining
use Rattle.token_cursor.specs.declared.level.Level.{Level}
use Rattle.token_cursor.specs.declared.level.Level.TheVariants as level
use Rattle.token_cursor.specs.declared.start.Start.{Start}
use Rattle.token_cursor.specs.declared.start.Start.TheVariants as start
use Rattle.token_cursor.specs.declared.word.Word.{Word}
use Rattle.token_cursor.specs.declared.word.Word.TheVariants.{Keyword, Mark}
use Rattle.token_cursor.specs.declared.word.TheConstants.{AND, BREAK, DO, ELSE, ELSEIF, END, FOR, FUNCTION, GOTO, IF, LOCAL, NOT, OR, REPEAT, UNTIL, WHILE, PLUS, MINUS, STAR, PERCENT, FLOOR_DIVISION, AMPERSAND, TILDE, BAR, SHIFT_LEFT, SHIFT_RIGHT, LENGTH, EQUAL, NOT_EQUAL, LESS_EQUAL, GREATER_EQUAL, LESS, GREATER, OPEN_ROUND, OPEN_CURLY, OPEN_SQUARE, LABEL, SEMICOLON, COLON, COMMA, DOT, CONCAT}

-- a token and its line
abbrev pub Lexeme : Type 0
Lexeme = Token × ℕ

-- the first of the tokens
abbrev pub first : List Lexeme → Lexeme
first [] = (token.End, 0)
first (t ∷ ts) = t

-- the token spells this word
abbrev pub is_word : Word → Token → Bool
is_word (Keyword n) (token.Keyword m) = m == n
is_word (Mark n) (token.Mark m) = m == n
is_word _ _ = false

abbrev pub is_string : Token → Bool
is_string (token.Str bytes) = true
is_string _ = false

abbrev pub name_of : Token → Option (List ℕ)
name_of (token.Name text) = Some text
name_of _ = None

abbrev pub string_of : Token → Option (List ℕ)
string_of (token.Str bytes) = Some bytes
string_of _ = None

-- a block ends before `end`, `else`, `elseif`, `until` and the end
abbrev pub ends_block : Token → Bool
ends_block t = is_end t || is_word END t || is_word ELSE t || is_word ELSEIF t || is_word UNTIL t

-- `.` Name, `[` exp `]`, `:` Name args and args begin so
abbrev pub begins_suffix : Token → Bool
begins_suffix t = is_word DOT t || is_word OPEN_SQUARE t || is_word COLON t || is_word OPEN_ROUND t || is_word OPEN_CURLY t || is_string t

abbrev pub is_separator : Token → Bool
is_separator t = is_word COMMA t || is_word SEMICOLON t

-- the operators of each level of precedence, from low to high
abbrev pub operator_of : Level → Token → Option Infix
operator_of level.Or t = if is_word OR t then Some joining.Or else None
operator_of level.And t = if is_word AND t then Some joining.And else None
operator_of level.Comparison t =
    if is_word LESS t then Some (joining.Binary Lt)
    else if is_word GREATER t then Some (joining.Binary Gt)
    else if is_word LESS_EQUAL t then Some (joining.Binary Le)
    else if is_word GREATER_EQUAL t then Some (joining.Binary Ge)
    else if is_word NOT_EQUAL t then Some (joining.Binary Ne)
    else if is_word EQUAL t then Some (joining.Binary Eq)
    else None
operator_of level.BitOr t = if is_word BAR t then Some (joining.Binary Bor) else None
operator_of level.BitXor t = if is_word TILDE t then Some (joining.Binary Bxor) else None
operator_of level.BitAnd t = if is_word AMPERSAND t then Some (joining.Binary Band) else None
operator_of level.Shift t =
    if is_word SHIFT_LEFT t then Some (joining.Binary Shl)
    else if is_word SHIFT_RIGHT t then Some (joining.Binary Shr)
    else None
operator_of level.Concat t = if is_word CONCAT t then Some (joining.Binary Concat) else None
operator_of level.Sum t =
    if is_word PLUS t then Some (joining.Binary Add)
    else if is_word MINUS t then Some (joining.Binary Sub)
    else None
operator_of level.Product t =
    if is_word STAR t then Some (joining.Binary Mul)
    else if is_word FLOOR_DIVISION t then Some (joining.Binary Idiv)
    else if is_word PERCENT t then Some (joining.Binary Mod)
    else None

-- the tokens that may be an operator of some level: `and`, `or`, `..`, and the marks up to `>`
abbrev pub may_join : Token → Bool
may_join (token.Keyword n) = n == 0 || n == 15
may_join (token.Mark n) = nat_le n 16 || n == 29
may_join _ = false

-- the levels in their order

abbrev pub rank : Level → ℕ
rank level.Or = 0
rank level.And = 1
rank level.Comparison = 2
rank level.BitOr = 3
rank level.BitXor = 4
rank level.BitAnd = 5
rank level.Shift = 6
rank level.Concat = 7
rank level.Sum = 8
rank level.Product = 9

abbrev pub looser : Level → Level
looser level.Or = level.Or
looser level.And = level.Or
looser level.Comparison = level.And
looser level.BitOr = level.Comparison
looser level.BitXor = level.BitOr
looser level.BitAnd = level.BitXor
looser level.Shift = level.BitAnd
looser level.Concat = level.Shift
looser level.Sum = level.Concat
looser level.Product = level.Sum

-- the operators before one operand
abbrev pub unary_of : Token → Option UnOp
unary_of t =
    if is_word NOT t then Some unary.Not
    else if is_word LENGTH t then Some unary.Len
    else if is_word MINUS t then Some unary.Neg
    else if is_word TILDE t then Some unary.BitNot
    else None

-- what a statement begins with
abbrev pub start_of : Token → Start
start_of t =
    if is_word SEMICOLON t then start.Empty
    else if is_word LABEL t then start.Label
    else if is_word BREAK t then start.Break
    else if is_word GOTO t then start.Goto
    else if is_word DO t then start.Do
    else if is_word WHILE t then start.While
    else if is_word REPEAT t then start.Repeat
    else if is_word IF t then start.If
    else if is_word FOR t then start.For
    else if is_word FUNCTION t then start.Function
    else if is_word LOCAL t then start.Local
    else start.Prefix

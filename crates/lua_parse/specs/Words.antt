-- What a token stands for by itself (Lua 5.4 manual, 3.1, 3.3.7 and 3.4).
use Rattle.std.specs.Prelude.{ℕ, if◌then◌else◌, Option, Some, None, List, codes, nat_eq}
use Rattle.std.specs.Cmp.Lexicographic.{pointwise}
use Rattle.lua_lex.specs.declared.token.Token.{Token}
use Rattle.lua_lex.specs.declared.token.Token.TheVariants as token
use Rattle.tree_core.specs.declared.name.Attrib.{Attrib}
use Rattle.tree_core.specs.declared.name.Attrib.TheVariants as attrib
use Rattle.tree_core.specs.Tree.{Exp, Nil, True, False, Int, Str, Vararg}
use Rattle.token_cursor.specs.Words.{Lexeme, is_word}
use Rattle.token_cursor.specs.declared.word.TheConstants.{FALSE, NIL, TRUE, DOTS}

-- a numeral or a literal string
abbrev pub literal : Token → ℕ → Option Exp
literal (token.Int n) line = Some (Int line n)
literal (token.Str bytes) line = Some (Str line bytes)
literal _ line = None

-- an expression of one token
abbrev pub constant_of : Lexeme → Option Exp
constant_of t =
    if is_word NIL t.0 then Some (Nil t.1)
    else if is_word TRUE t.0 then Some (True t.1)
    else if is_word FALSE t.0 then Some (False t.1)
    else if is_word DOTS t.0 then Some (Vararg t.1)
    else literal t.0 t.1

-- the attribute that is spelled so
abbrev pub attrib_of : List ℕ → Attrib
attrib_of text = if pointwise nat_eq text (codes "const") then attrib.Const else if pointwise nat_eq text (codes "close") then attrib.Close else attrib.Other text

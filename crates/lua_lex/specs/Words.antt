-- The keywords and the other fixed tokens, numbered by their places in these lists (Lua 5.4 manual, 3.1).
use Rattle.std.specs.Prelude.{ℕ, List, [], ◌∷◌, codes, nat_eq, Option}
use Rattle.std.specs.List.{position_from}
use Rattle.std.specs.Cmp.Lexicographic.{pointwise}

unfoldable pub keywords : List (List ℕ)
keywords =
    codes "and" ∷ codes "break" ∷ codes "do" ∷ codes "else" ∷ codes "elseif" ∷ codes "end"
    ∷ codes "false" ∷ codes "for" ∷ codes "function" ∷ codes "goto" ∷ codes "if" ∷ codes "in"
    ∷ codes "local" ∷ codes "nil" ∷ codes "not" ∷ codes "or" ∷ codes "repeat" ∷ codes "return"
    ∷ codes "then" ∷ codes "true" ∷ codes "until" ∷ codes "while" ∷ []

unfoldable pub marks : List (List ℕ)
marks =
    codes "+" ∷ codes "-" ∷ codes "*" ∷ codes "%" ∷ codes "//" ∷ codes "&" ∷ codes "~" ∷ codes "|"
    ∷ codes "<<" ∷ codes ">>" ∷ codes "#" ∷ codes "==" ∷ codes "~=" ∷ codes "<=" ∷ codes ">="
    ∷ codes "<" ∷ codes ">" ∷ codes "=" ∷ codes "(" ∷ codes ")" ∷ codes "{" ∷ codes "}"
    ∷ codes "[" ∷ codes "]" ∷ codes "::" ∷ codes ";" ∷ codes ":" ∷ codes "," ∷ codes "."
    ∷ codes ".." ∷ codes "..." ∷ []

-- the place of a word in a list of words
abbrev pub place_of : List (List ℕ) → List ℕ → Option ℕ
place_of words word = position_from (λ other. pointwise nat_eq other word) 0 words

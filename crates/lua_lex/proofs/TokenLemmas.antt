-- One token, and one piece of skipped text, stands at the front of a text at most.
use Rattle.std.proofs.Common.{◌≡◌, ℕ, List, [], length, take, drop, Some, refl, ap, sym, ◌∙◌, subst, arith}
use Rattle.std.proofs.lemmas.List.{take_at, drop_at}
use Rattle.lua_lex.specs.declared.token.Token.{Token}
use Rattle.lua_lex.specs.declared.token.Token.TheVariants.{Int, Str, Mark}
use Rattle.lua_lex.specs.declared.kind.Kind.{Kind}
use Rattle.lua_lex.specs.declared.kind.Kind.TheVariants.{End, Space, Comment, LongComment, Word, Numeral, ShortString, LongString, Symbol}
use Rattle.std.specs.Prelude.{take_while}
use Rattle.int_core.proofs.SpellsLemmas.{SpellsInteger-same}
use Rattle.lua_lex.specs.Classes.{is_numeral_byte, read_lines, behind_line_end}
use Rattle.lua_lex.specs.Words.{marks, place_of}
use Rattle.lua_lex.specs.Lexical.{kind_of, Skips, SkipsOf, Gap, nothing, piece, IsMark, IsToken, IsTokenOf}
use Rattle.lua_lex.proofs.BracketLemmas.{one_bracket}
use Rattle.lua_lex.proofs.StringLemmas.{one_quoted}

pub record Same (token other : Token) (rest rest' : List ℕ) : Type 0 where
  pub tokens : token ≡ other
  pub rests : rest ≡ rest'

-- the longest mark is one
pub one_mark : (text : List ℕ) (number number' : ℕ) (rest rest' : List ℕ) → IsMark text number rest → IsMark text number' rest' → Same (Mark number) (Mark number') rest rest'
one_mark text number number' rest rest' m n =
    let lengths : length m.spelling ≡ length n.spelling = omega (arith, m.longest n.spelling rest' number' n.place n.whole, n.longest m.spelling rest number m.place m.whole) in
    let spellings : m.spelling ≡ n.spelling = sym (take_at m.spelling rest (length n.spelling) lengths) ∙ ap (take (length n.spelling)) (sym m.whole ∙ n.whole) ∙ take_at n.spelling rest' (length n.spelling) refl in
    let places : Some number ≡ Some number' = sym m.place ∙ ap (λ s. place_of marks s) spellings ∙ n.place in
    record {
      tokens = cc;
      rests = sym (drop_at m.spelling rest (length n.spelling) lengths) ∙ ap (drop (length n.spelling)) (sym m.whole ∙ n.whole) ∙ drop_at n.spelling rest' (length n.spelling) refl;
    }

one_token_of : (kind : Kind) (text : List ℕ) (token other : Token) (rest rest' : List ℕ) → IsTokenOf kind text token rest → IsTokenOf kind text other rest' → Same token other rest rest'
one_token_of Word text token other rest rest' t u = record { tokens = t.0 ∙ sym u.0; rests = t.1 ∙ sym u.1 }
one_token_of Numeral text token other rest rest' t u =
    let values = SpellsInteger-same (take_while is_numeral_byte text) t.0 u.0 t.1 u.1 in
    record { tokens = t.2 ∙ ap Int values ∙ sym u.2; rests = t.3 ∙ sym u.3 }
one_token_of Symbol text token other rest rest' t u =
    let same = one_mark text t.0 u.0 rest rest' t.1 u.1 in
    record { tokens = t.2 ∙ same.tokens ∙ sym u.2; rests = same.rests }
one_token_of ShortString text token other rest rest' t u =
    let same = one_quoted t.1 u.1 in
    record { tokens = t.2 ∙ ap Str same.contents ∙ sym u.2; rests = same.rests }
one_token_of LongString text token other rest rest' t u =
    let same = one_bracket text t.0 u.0 rest rest' t.1 u.1 in
    record { tokens = t.2 ∙ ap (λ c. Str (read_lines (behind_line_end c))) same.contents ∙ sym u.2; rests = same.rests }
one_token_of _ text token other rest rest' t u = absurd t

pub one_token : (text : List ℕ) (token other : Token) (rest rest' : List ℕ) → IsToken text token rest → IsToken text other rest' → Same token other rest rest'
one_token text = one_token_of (kind_of text) text

one_skip_of : (kind : Kind) (text rest rest' : List ℕ) → SkipsOf kind text rest → SkipsOf kind text rest' → rest ≡ rest'
one_skip_of Space text rest rest' s t = s ∙ sym t
one_skip_of Comment text rest rest' s t = s ∙ sym t
one_skip_of LongComment text rest rest' s t = (one_bracket (drop 2 text) s.0 t.0 rest rest' s.1 t.1).rests
one_skip_of _ text rest rest' s t = absurd s

pub one_skip : (text rest rest' : List ℕ) → Skips text rest → Skips text rest' → rest ≡ rest'
one_skip text = one_skip_of (kind_of text) text

-- what begins a token is not skipped
not_both_of : (kind : Kind) (text rest rest' : List ℕ) (token : Token) → SkipsOf kind text rest → IsTokenOf kind text token rest' → ⊥
not_both_of Space text rest rest' token s t = t
not_both_of Comment text rest rest' token s t = t
not_both_of LongComment text rest rest' token s t = t
not_both_of End text rest rest' token s t = t
not_both_of _ text rest rest' token s t = s

pub not_both : (text rest rest' : List ℕ) (token : Token) → Skips text rest → IsToken text token rest' → ⊥
not_both text = not_both_of (kind_of text) text

-- nothing is skipped at the text
abbrev pub Stops : List ℕ → Type 0
Stops text = (rest : List ℕ) → Skips text rest → ⊥

-- the end is neither skipped nor a token
kind_of-end : kind_of [] ≡ End
unfolding kind_of
kind_of-end = refl

pub end_stops : Stops []
end_stops rest s = let h : SkipsOf End [] rest = subst (λ kind. SkipsOf kind [] rest) kind_of-end s in h

pub no_end_token : (token : Token) (rest : List ℕ) → IsToken [] token rest → ⊥
no_end_token token rest t = let h : IsTokenOf End [] token rest = subst (λ kind. IsTokenOf kind [] token rest) kind_of-end t in h

-- skipped text ends at one place
pub one_gap : {text start : List ℕ} (start' : List ℕ) → Gap text start → Gap text start' → Stops start → Stops start' → start ≡ start'
one_gap start' nothing nothing stops stops' = refl
one_gap start' nothing (piece {between = between} skips gap) stops stops' = absurd (stops between skips)
one_gap start' (piece {between = between} skips gap) nothing stops stops' = absurd (stops' between skips)
one_gap start' (piece {text = text} {between = between} {rest = rest} skips gap) (piece {between = between'} skips' gap') stops stops' =
    let same = one_skip text between between' skips skips' in
    one_gap start' gap (subst (λ t. Gap t start') (sym same) gap') stops stops'

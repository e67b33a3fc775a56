-- The bracket by the place of its closing one.
use Rattle.std.proofs.Common.{◌≡◌, ℕ, ◌+◌, List, drop, take, true, sym, ap, ◌∙◌, subst}
use Rattle.lua_lex.specs.Brackets.{level_of, LongBracket}
use Rattle.lua_lex.specs.Inner.{closes, IsContent}
use Rattle.lua_lex.proofs.BracketLemmas.{bracket_is, no_bracket}
use Rattle.lua_lex.proofs.bracket.long_bracket.Goals as goal

inside_is : (text inside : List ℕ) (level : ℕ) → level ≡ level_of text → inside ≡ drop (2 + level) text → inside ≡ drop (2 + level_of text) text
inside_is text inside level e is = is ∙ ap (λ n. drop (2 + n) text) e

found_in : (text inside : List ℕ) (level len : ℕ) → level ≡ level_of text → inside ≡ drop (2 + level) text → IsContent inside level len → LongBracket text (take len inside) (drop (2 + level + len + (2 + level)) text)
found_in text inside level len e is found =
    let is' = inside_is text inside level e is in
    let found' : IsContent (drop (2 + level_of text) text) (level_of text) len = subst (λ n. IsContent (drop (2 + level_of text) text) n len) e (subst (λ t. IsContent t level len) is' found) in
    subst (λ n. LongBracket text (take len inside) (drop (2 + n + len + (2 + n)) text)) (sym e) (subst (λ t. LongBracket text (take len t) (drop (2 + level_of text + len + (2 + level_of text)) text)) (sym is') (bracket_is text len found'))

none_in : (text inside : List ℕ) (level : ℕ) → level ≡ level_of text → inside ≡ drop (2 + level) text → ((at : ℕ) → closes level (drop at inside) ≡ true → ⊥) → (content rest : List ℕ) → LongBracket text content rest → ⊥
none_in text inside level e is none =
    let is' = inside_is text inside level e is in
    no_bracket text (λ at closed. none at (ap (λ t. closes level (drop at t)) is' ∙ ap (λ n. closes n (drop at (drop (2 + level_of text) text))) e ∙ closed))

pub returns-in_err-len-clause-none : goal.returns-in_err-len-clause-none
returns-in_err-len-clause-none c = rw c.from_residual.ensures (none_in c.args.text.now c.behind-inside.result.now c.level_of-level.result c.level_of-level.ensures.value c.behind-inside.ensures c.in_err-len.ensures.none)

pub returns-clause-found : goal.returns-clause-found
returns-clause-found c = found_in c.args.text.now c.behind-inside.result.now c.level_of-level.result c.in_ok-len.len c.level_of-level.ensures.value c.behind-inside.ensures c.in_ok-len.ensures.found

-- What begins one kind of token and is none, is no token.
use Rattle.std.proofs.Common.{ℕ, List, subst}
use Rattle.std.specs.Prelude.{IfNone, IfOk}
use Rattle.lua_lex.specs.declared.kind.Kind.{Kind}
use Rattle.lua_lex.specs.declared.token.Token.{Token}
use Rattle.lua_lex.specs.Lexical.{IsTokenOf}
use Rattle.lua_lex.proofs.scan.token_at.Goals as goal

abbrev NoTokenOf : Kind → List ℕ → Type 0
NoTokenOf kind text = (token : Token) (rest : List ℕ) → IsTokenOf kind text token rest → ⊥

pub returns-in-Numeral-clause-none : goal.returns-in-Numeral-clause-none
returns-in-Numeral-clause-none c = subst (λ kind. IfNone c.numeral.result (NoTokenOf kind c.args.text.now)) c.in-Numeral.ensures.value c.numeral.ensures.none

pub returns-in-ShortString-clause-none : goal.returns-in-ShortString-clause-none
returns-in-ShortString-clause-none c = subst (λ kind. IfOk c.short_string.result (λ answer. IfNone answer (NoTokenOf kind c.args.text.now))) c.in-ShortString.ensures.value c.short_string.ensures.none

pub returns-in-LongString-clause-none : goal.returns-in-LongString-clause-none
returns-in-LongString-clause-none c = subst (λ kind. IfOk c.long_string.result (λ answer. IfNone answer (NoTokenOf kind c.args.text.now))) c.in-LongString.ensures.value c.long_string.ensures.none

pub returns-in-Symbol-clause-none : goal.returns-in-Symbol-clause-none
returns-in-Symbol-clause-none c = subst (λ kind. IfNone c.mark.result (NoTokenOf kind c.args.text.now)) c.in-Symbol.ensures.value c.mark.ensures.none

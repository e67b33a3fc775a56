use Rattle.std.proofs.Common.{◌≡◌, [], ◌∷◌, None, refl, sym, ap, ap₂, ◌∙◌}
use Rattle.lua_lex.specs.declared.token.Token.{Token}
use Rattle.lua_lex.specs.declared.token.Token.TheVariants as token
use Rattle.int_core.specs.declared.list.Bytes.{Bytes}
use Rattle.tree_core.specs.Tree as tree
use Rattle.token_cursor.specs.Words.{string_of, first}
use Rattle.lua_parse.specs.Moves.{some_exps, string_argument}
use Rattle.lua_parse.specs.Grammar.{string_move}
use Rattle.lua_parse.proofs.Steps.{starts, picked, passed, turned, refused, ended_as}
use Rattle.lua_parse.proofs.suffix.string_argument.Goals as goal

no_string : (t : Token) → ((x : Bytes) → t ≡ token.Str x → ⊥) → string_of t ≡ None
no_string (token.Str x) h = absurd (h x refl)
no_string _ h = refl

pub returns-in_default : goal.returns-in_default
returns-in_default c =
    let l1 = picked (starts string_argument 0 c.args.cursor.now) c.peek.ensures.more in
    record { reads = record { tells = refused (turned l1 (ap (string_move (first c.args.cursor.now).1) (ap string_of (sym c.peek.ensures.is) ∙ no_string c.peek.result.now c.in_default.not-Str))) c.peek.ensures.more }; bound = tt }

pub returns-clause-reads : goal.returns-clause-reads
returns-clause-reads c =
    let l1 = picked (starts string_argument 0 c.args.cursor.now) c.peek.ensures.more in
    let l2 = turned l1 (ap (string_move (first c.args.cursor.now).1) (ap string_of (sym c.peek.ensures.is ∙ c.in-Str.is))) in
    let l3 = passed l2 c.peek.ensures.more (c.skip.ensures) in
    record { tells = ended_as l3 (ap some_exps (c.in_ok-one_exp.ensures.node ∙ ap (λ e. e ∷ []) (c.in_ok-value.ensures.node ∙ ap₂ tree.Str c.line-line.ensures.is c.in_ok-copy.ensures))) (c.in_ok-one_exp.ensures.levels ∙ c.in_ok-value.ensures.levels) }

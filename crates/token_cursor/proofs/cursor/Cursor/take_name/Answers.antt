use Rattle.std.proofs.Common.{◌≡◌, ◌+◌, ◌<◌, ◌^◌, drop, true, length, sym, ap, subst, ◌∙◌, arith}
use Rattle.std.specs.Prelude.{is_some, if◌then◌else◌}
use Rattle.std.specs.Option.{option_map}
use Rattle.std.proofs.lemmas.List.{drop-set-lt, length-set}
use Rattle.lua_lex.specs.declared.token.Token.TheVariants.{End}
use Rattle.lua_lex.specs.Lexical.{EndsOnce}
use Rattle.token_cursor.specs.Words.{Lexeme, first, name_of}
use Rattle.token_cursor.proofs.CursorLemmas.{ends_behind, first_token, drop_more, name_not_end}
use Rattle.token_cursor.proofs.cursor.Cursor.take_name.Goals as goal

pub invariant_of-self : goal.invariant_of-self
invariant_of-self c =
    let at = c.self.inside.at in
    let tokens = c.self.inside.tokens in
    let is_name : is_some (name_of (first (drop at tokens)).0) ≡ true = ap (λ t. is_some (name_of t)) (ap (λ ts. (first ts).0) c.self.view_is ∙ sym c.peek.ensures.is) ∙ sym c.is_name.ensures ∙ c.if-not-is_name.false in
    let rest : drop (at + 1) c.take-token.new.self ≡ drop (at + 1) tokens = ap (drop (at + 1)) c.take-token.ensures.left ∙ drop-set-lt (at + 1) tokens at (End, 0) (omega arith) in
    let count : length c.take-token.new.self ≡ length tokens = ap length c.take-token.ensures.left ∙ length-set tokens at (End, 0) in
    (subst EndsOnce (sym rest) (ends_behind at tokens c.self.invariant.0 (name_not_end (first (drop at tokens)).0 is_name)), subst (λ n. n < 2 ^ 32) (sym count) c.self.invariant.1)

pub returns-clause-is : goal.returns-clause-is
returns-clause-is c =
    let token = first_token c.self.inside.at c.self.inside.tokens c.take-token.result.0 (ap (option_map (λ (pair : Lexeme). pair.0)) c.take-token.ensures.is) in
    c.into_name.ensures ∙ ap name_of (token ∙ ap (λ ts. (first ts).0) c.self.view_is)

pub returns-clause-passed : goal.returns-clause-passed
returns-clause-passed c =
    let at = c.self.inside.at in
    let tokens = c.self.inside.tokens in
    let is_name : is_some (name_of (first c.args.self.now).0) ≡ true = ap (λ t. is_some (name_of t)) (sym c.peek.ensures.is) ∙ sym c.is_name.ensures ∙ c.if-not-is_name.false in
    let rest : drop (at + 1) c.take-token.new.self ≡ drop (at + 1) tokens = ap (drop (at + 1)) c.take-token.ensures.left ∙ drop-set-lt (at + 1) tokens at (End, 0) (omega arith) in
    rest ∙ drop_more at tokens ∙ ap (drop 1) c.self.view_is ∙ sym (ap (λ b. if b then drop 1 c.args.self.now else c.args.self.now) is_name)

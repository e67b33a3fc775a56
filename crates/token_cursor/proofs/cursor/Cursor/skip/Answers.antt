use Rattle.std.proofs.Common.{◌≡◌, false, drop, ap, ◌∙◌}
use Rattle.lua_lex.specs.Lexical.{is_end}
use Rattle.token_cursor.specs.Words.{first}
use Rattle.token_cursor.proofs.CursorLemmas.{ends_behind, drop_more}
use Rattle.token_cursor.proofs.cursor.Cursor.skip.Goals as goal

pub invariant_of-self : goal.invariant_of-self
invariant_of-self c =
    let not_end : is_end (first (drop c.self.inside.at c.self.inside.tokens)).0 ≡ false = ap (λ ts. is_end (first ts).0) c.self.view_is ∙ c.requires in
    (ends_behind c.self.inside.at c.self.inside.tokens c.self.invariant.0 not_end, c.self.invariant.1)

pub returns : goal.returns
returns c = drop_more c.self.inside.at c.self.inside.tokens ∙ ap (drop 1) c.self.view_is

use Rattle.std.proofs.Common.{ap, ◌∙◌}
use Rattle.token_cursor.specs.Words.{first}
use Rattle.token_cursor.proofs.CursorLemmas.{first_token}
use Rattle.token_cursor.proofs.cursor.Cursor.peek.Goals as goal

pub returns-clause-is : goal.returns-clause-is
returns-clause-is c = first_token c.self.inside.at c.self.inside.tokens c.token.result.now c.token.ensures ∙ ap (λ ts. (first ts).0) c.self.view_is

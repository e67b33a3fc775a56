use Rattle.std.proofs.Common.{ap, ◌∙◌}
use Rattle.token_cursor.specs.Words.{first}
use Rattle.token_cursor.proofs.CursorLemmas.{first_line}
use Rattle.token_cursor.proofs.cursor.Cursor.line.Goals as goal

pub returns-clause-is : goal.returns-clause-is
returns-clause-is c = first_line c.self.inside.at c.self.inside.tokens c.line.result c.line.ensures ∙ ap (λ ts. (first ts).1) c.self.view_is

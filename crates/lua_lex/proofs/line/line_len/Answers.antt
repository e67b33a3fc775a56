use Rattle.std.proofs.Common.{◌∙◌}
use Rattle.lua_lex.proofs.LineLemmas.{first_line_end}
use Rattle.lua_lex.proofs.line.line_len.Goals as goal

pub returns-clause-value : goal.returns-clause-value
returns-clause-value c = c.unwrap_or.ensures ∙ first_line_end c.args.text.now c.memchr2.result c.memchr2.ensures

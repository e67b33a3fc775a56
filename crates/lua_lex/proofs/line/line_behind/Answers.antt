use Rattle.std.proofs.Common.{ap, sym, ◌∙◌, ◌+◌, ◌≡◌, take, rules}
use Rattle.lua_lex.specs.Classes.{line_ends}
use Rattle.lua_lex.proofs.LineLemmas.{take-front}
use Rattle.lua_lex.proofs.line.line_behind.Goals as goal

pub returns-clause-value : goal.returns-clause-value
returns-clause-value c =
    let counted : c.line_ends.result ≡ line_ends (take c.args.len c.args.text.now) = search rules in
    ap (λ n. c.args.line + n) (counted ∙ ap line_ends (sym (take-front c.args.text.now c.args.len c.requires.in_range)))

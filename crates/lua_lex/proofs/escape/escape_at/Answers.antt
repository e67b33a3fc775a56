use Rattle.std.proofs.Common.{◌≡◌, rules}
use Rattle.std.specs.Prelude.{slice_get, None}
use Rattle.lua_lex.proofs.StringLemmas.{no_escape_in}
use Rattle.lua_lex.proofs.escape.escape_at.Goals as goal

-- at the end there is no escape
pub returns-in_err-first-clause-none : goal.returns-in_err-first-clause-none
returns-in_err-first-clause-none c =
    let none : slice_get c.args.text.now 0 ≡ None = search rules in
    rw c.from_residual.ensures (no_escape_in c.args.text.now none)

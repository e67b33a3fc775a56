use Rattle.std.proofs.Common.{sym, ◌∙◌, ap, arith}
use Rattle.std.proofs.lemmas.Int.{to_z_pos}
use Rattle.std.specs.Prelude.{pos}
use Rattle.std.specs.Int.{w64}
use Rattle.table_core.proofs.BorderLemmas.{border-few, border-known}
use Rattle.table_core.proofs.table.Table.border.Goals as goal

pub overflow_cast-result : goal.overflow_cast-result
overflow_cast-result c = omega (arith, border-few c.self.inside.rows c.self.inside.border c.self.invariant.1 c.self.invariant.0.few)

pub returns-clause-value : goal.returns-clause-value
returns-clause-value c =
    let rows = c.self.inside.rows in
    let n = c.self.inside.border in
    rw (← c.self.view_is)
    (to_z_pos w64 n (border-few rows n c.self.invariant.1 c.self.invariant.0.few) ∙ ap pos (sym (border-known rows n c.self.invariant.1)))

pub returns-clause-least : goal.returns-clause-least
returns-clause-least c =
    let rows = c.self.inside.rows in
    let n = c.self.inside.border in
    rw (← c.self.view_is)
    (n, to_z_pos w64 n (border-few rows n c.self.invariant.1 c.self.invariant.0.few), c.self.invariant.1)

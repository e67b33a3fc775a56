use Rattle.std.proofs.Common.{arith}
use Rattle.table_core.proofs.SplitLemmas.{length-all}
use Rattle.table_core.proofs.rows.Rows.len.Goals as goal

pub returns-clause-len : goal.returns-clause-len
returns-clause-len c =
    rw (← c.self.view_is) (omega (arith, c.len.ensures, c.len-2.ensures, c.self.inside.array.ok.0, length-all c.self.inside.array.items c.self.inside.keyed c.self.invariant))

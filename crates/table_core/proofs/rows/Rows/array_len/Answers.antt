use Rattle.std.proofs.Common.{◌≡◌, length, subst, arith}
use Rattle.table_core.specs.Places.{IsNumberedPrefix}
use Rattle.table_core.proofs.SplitLemmas.{array-prefix}
use Rattle.table_core.proofs.rows.Rows.array_len.Goals as goal

pub returns : goal.returns
returns c =
    let size : length c.self.inside.array.items ≡ c.len.result = omega (arith, c.len.ensures, c.self.inside.array.ok.0) in
    rw (← c.self.view_is) (subst (IsNumberedPrefix _) size (array-prefix c.self.inside.array.items c.self.inside.keyed c.self.invariant))

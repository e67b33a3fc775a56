use Rattle.std.proofs.Common.{◌≡◌, ◌+◌, ◌-◌, ◌<◌, length, arith}
use Rattle.table_core.proofs.SplitLemmas.{array-row, keyed-row, length-all}
use Rattle.table_core.proofs.rows.Rows.row.Goals as goal

pub returns-then-at-len : goal.returns-then-at-len
returns-then-at-len c =
    let array = c.self.inside.array.items in
    let within : c.args.at < length array = omega (arith, c.len.ensures, c.self.inside.array.ok.0, c.if-at-len.true) in
    rw (← c.self.view_is) (array-row array c.self.inside.keyed c.args.at c.integer_after.result c.index.result.now within c.integer_after.ensures c.index.ensures)

pub row-requires : goal.row-requires
row-requires c =
    omega (arith, c.len.ensures, c.self.inside.array.ok.0, c.if-at-len.false, length-all c.self.inside.array.items c.self.inside.keyed c.self.invariant, rw (← c.self.view_is) at c.requires)

pub returns : goal.returns
returns c =
    let array = c.self.inside.array.items in
    let is : c.args.at ≡ length array + (c.args.at - c.len-2.result) = omega (arith, c.len.ensures, c.len-2.ensures, c.self.inside.array.ok.0, c.if-at-len.false) in
    rw (← c.self.view_is) (keyed-row array c.self.inside.keyed c.args.at (c.args.at - c.len-2.result) c.row.result c.row.ensures is)

use Rattle.std.proofs.Common.{◌<◌, ◌≤◌, length, arith}
use Rattle.table_core.proofs.SplitLemmas.{array-lookup, keyed-lookup, not-in-array}
use Rattle.table_core.proofs.rows.Rows.found.Goals as goal

pub returns-then-at-len : goal.returns-then-at-len
returns-then-at-len c =
    let array = c.self.inside.array.items in
    let within : c.place_of-at.result < length array = omega (arith, c.len.ensures, c.self.inside.array.ok.0, c.if-at-len.true) in
    rw (← c.self.view_is) (array-lookup array c.self.inside.keyed c.self.invariant c.args.key c.place_of-at.result c.index.result.now c.place_of-at.ensures within c.index.ensures)

pub returns : goal.returns
returns c =
    let array = c.self.inside.array.items in
    let past : length array ≤ c.place_of-at.result = omega (arith, c.len.ensures, c.self.inside.array.ok.0, c.if-at-len.false) in
    rw (← c.self.view_is)
    (keyed-lookup array c.self.inside.keyed c.self.invariant c.args.key c.value.result (not-in-array array c.self.inside.keyed c.self.invariant c.args.key c.place_of-at.result c.place_of-at.ensures past) c.value.ensures)

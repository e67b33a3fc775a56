use Rattle.std.proofs.Common.{◌≡◌, ◌+◌, ◌<◌, ◌≤◌, Some, length, ◌∙◌, ap, arith}
use Rattle.table_core.proofs.PlaceLemmas.{within-at}
use Rattle.table_core.proofs.SplitLemmas.{array-position, keyed-position, length-all, no-position, not-in-array}
use Rattle.table_core.proofs.rows.Rows.find.Goals as goal

pub returns-then-at-len-clause-place : goal.returns-then-at-len-clause-place
returns-then-at-len-clause-place c =
    let array = c.self.inside.array.items in
    let within : c.place_of-at.result < length array = omega (arith, c.len.ensures, c.self.inside.array.ok.0, c.if-at-len.true) in
    rw (← c.self.view_is) (array-position array c.self.inside.keyed c.self.invariant c.args.key c.place_of-at.result c.place_of-at.ensures within)

pub returns-then-at-len-clause-within : goal.returns-then-at-len-clause-within
returns-then-at-len-clause-within c =
    rw (← c.self.view_is) (omega (arith, c.len.ensures, c.self.inside.array.ok.0, c.if-at-len.true, length-all c.self.inside.array.items c.self.inside.keyed c.self.invariant))

pub overflow_add-result : goal.overflow_add-result
overflow_add-result c =
    let there = within-at c.self.inside.keyed c.in-Some.at (c.args.key, c.in-Some.ensures.value) c.in-Some.ensures.found in
    omega (arith, there, c.len-in-Some.ensures, c.self.inside.array.ok.0, c.self.invariant.few)

pub returns-in-Some-clause-place : goal.returns-in-Some-clause-place
returns-in-Some-clause-place c =
    let array = c.self.inside.array.items in
    let size : c.len-in-Some.result ≡ length array = omega (arith, c.len-in-Some.ensures, c.self.inside.array.ok.0) in
    rw (← c.self.view_is) (ap (λ n. Some (n + c.in-Some.at)) size ∙ keyed-position array c.self.inside.keyed c.self.invariant c.args.key c.in-Some.at c.in-Some.ensures)

pub returns-in-Some-clause-within : goal.returns-in-Some-clause-within
returns-in-Some-clause-within c =
    let there = within-at c.self.inside.keyed c.in-Some.at (c.args.key, c.in-Some.ensures.value) c.in-Some.ensures.found in
    rw (← c.self.view_is) (omega (arith, there, c.len-in-Some.ensures, c.self.inside.array.ok.0, length-all c.self.inside.array.items c.self.inside.keyed c.self.invariant))

pub returns-in-None-clause-place : goal.returns-in-None-clause-place
returns-in-None-clause-place c =
    let array = c.self.inside.array.items in
    let past : length array ≤ c.place_of-at.result = omega (arith, c.len.ensures, c.self.inside.array.ok.0, c.if-at-len.false) in
    rw (← c.self.view_is) (no-position array c.self.inside.keyed c.self.invariant c.args.key (not-in-array array c.self.inside.keyed c.self.invariant c.args.key c.place_of-at.result c.place_of-at.ensures past) c.in-None.ensures)

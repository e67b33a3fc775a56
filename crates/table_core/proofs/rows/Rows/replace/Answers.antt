use Rattle.std.proofs.Common.{◌<◌, ◌≤◌, Some, length, ◌∙◌, ap, arith}
use Rattle.table_core.proofs.SplitLemmas.{array-lookup, array-now, past-written}
use Rattle.table_core.proofs.rows.Rows.replace.Goals as goal

pub invariant_of-self : goal.invariant_of-self
invariant_of-self c =
    let array = c.self.inside.array.items in
    let within : c.place_of-at.result < length array = omega (arith, c.len.ensures, c.self.inside.array.ok.0, c.if-at-len.true) in
    rw c.replace.ensures.after
    (array-now array c.self.inside.keyed c.self.invariant c.args.key c.place_of-at.result c.index_mut.result.now c.args.value c.place_of-at.ensures within c.index_mut.ensures.value).1

pub returns-then-at-len-clause-was : goal.returns-then-at-len-clause-was
returns-then-at-len-clause-was c =
    let array = c.self.inside.array.items in
    let within : c.place_of-at.result < length array = omega (arith, c.len.ensures, c.self.inside.array.ok.0, c.if-at-len.true) in
    rw (← c.self.view_is)
    (ap Some c.replace.ensures.value ∙ array-lookup array c.self.inside.keyed c.self.invariant c.args.key c.place_of-at.result c.index_mut.result.now c.place_of-at.ensures within c.index_mut.ensures.value)

pub returns-then-at-len-clause-now : goal.returns-then-at-len-clause-now
returns-then-at-len-clause-now c =
    let array = c.self.inside.array.items in
    let within : c.place_of-at.result < length array = omega (arith, c.len.ensures, c.self.inside.array.ok.0, c.if-at-len.true) in
    rw (← c.self.view_is, c.replace.ensures.after)
    (array-now array c.self.inside.keyed c.self.invariant c.args.key c.place_of-at.result c.index_mut.result.now c.args.value c.place_of-at.ensures within c.index_mut.ensures.value).0

pub invariant_of-self-2 : goal.invariant_of-self-2
invariant_of-self-2 c =
    let array = c.self.inside.array.items in
    let past : length array ≤ c.place_of-at.result = omega (arith, c.len.ensures, c.self.inside.array.ok.0, c.if-at-len.false) in
    (past-written array c.self.inside.keyed c.replace-2.new.self c.self.invariant c.args.key c.args.value c.replace-2.result c.place_of-at.result c.place_of-at.ensures past c.replace-2.ensures.found c.replace-2.ensures.absent c.replace-2.ensures.same).split

pub returns-clause-was : goal.returns-clause-was
returns-clause-was c =
    let array = c.self.inside.array.items in
    let past : length array ≤ c.place_of-at.result = omega (arith, c.len.ensures, c.self.inside.array.ok.0, c.if-at-len.false) in
    rw (← c.self.view_is) (past-written array c.self.inside.keyed c.replace-2.new.self c.self.invariant c.args.key c.args.value c.replace-2.result c.place_of-at.result c.place_of-at.ensures past c.replace-2.ensures.found c.replace-2.ensures.absent c.replace-2.ensures.same).was

pub returns-clause-now : goal.returns-clause-now
returns-clause-now c =
    let array = c.self.inside.array.items in
    let past : length array ≤ c.place_of-at.result = omega (arith, c.len.ensures, c.self.inside.array.ok.0, c.if-at-len.false) in
    rw (← c.self.view_is) (past-written array c.self.inside.keyed c.replace-2.new.self c.self.invariant c.args.key c.args.value c.replace-2.result c.place_of-at.result c.place_of-at.ensures past c.replace-2.ensures.found c.replace-2.ensures.absent c.replace-2.ensures.same).now

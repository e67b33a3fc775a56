use Rattle.std.proofs.Common.{arith}
use Rattle.std.proofs.lemmas.Option.{slice_get_read}
use Rattle.table_core.proofs.NumberedLemmas.{absent-before}
use Rattle.table_core.proofs.keyed.indexed.Goals as goal

pub push-requires : goal.push-requires
push-requires c =
    let few = c.args.few.now in
    let row = c.index.result.now in
    let found = slice_get_read few.items few.len c.loop-at.at row few.ok.0 (omega (arith, c.loop-at-test.true, c.len-at-end.ensures)) c.index.ensures in
    rw (c.deref_mut.ensures.value, c.loop-at.invariant, c.of.ensures) (absent-before few.items c.loop-at.at row.0 row.1 c.requires found)

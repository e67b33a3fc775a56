use Rattle.std.proofs.Common.{◌+◌, ◌-◌, ◌∙◌, sym, ap, arith}
use Rattle.library_rows.specs.Codepoints.{sequences_back}
use Rattle.utf8_core.proofs.Places.{back_more}
use Rattle.utf8_core.proofs.offsets.back.Goals as goal

pub loop-preserved : goal.loop-preserved
loop-preserved c =
    let before = c.sequence_start-place.ensures.before in (
      omega (arith, before),
      c.loop.invariant.1 ∙ back_more c.args.text.now c.args.many c.loop.counter c.loop.place c.loop-test.true (omega arith)
          ∙ ap (sequences_back c.args.text.now (c.args.many - (c.loop.counter + 1))) (sym c.sequence_start-place.ensures.start),
    )

use Rattle.std.proofs.Common.{◌+◌, ◌-◌, ◌∙◌, ℕ, List, length, sym, ap, length-drop, arith}
use Rattle.std.specs.List.{prefix_len}
use Rattle.library_rows.specs.Codepoints.{is_continuation, sequences_on}
use Rattle.utf8_core.proofs.Places.{on_more}
use Rattle.utf8_core.proofs.offsets.forward.Goals as goal

pub loop-preserved : goal.loop-preserved
loop-preserved c =
    let within = c.continued.ensures.within in
    let part = ap (λ (t : List ℕ). length t) c.behind.ensures in
    let whole = length-drop (c.loop.place + 1) c.args.text.now in (
      omega (arith, within, whole, part),
      c.loop.invariant.1 ∙ on_more c.args.text.now c.args.many c.loop.counter c.loop.place c.loop-test.true (omega arith)
          ∙ ap (λ k. sequences_on c.args.text.now (c.args.many - (c.loop.counter + 1)) (c.loop.place + (1 + k))) (sym (c.continued.ensures.value ∙ ap (prefix_len is_continuation) c.behind.ensures)),
    )

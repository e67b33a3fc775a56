use Rattle.std.proofs.Common.{ap, ◌∙◌, ◌++◌}
use Rattle.text_functions.proofs.Copies.{one_more_copy}
use Rattle.text_functions.proofs.repeat.append_copies.Goals as goal

pub loop-preserved : goal.loop-preserved
loop-preserved c =
    c.in_ok-extend_from_slice-2.ensures.items ∙ ap (λ bytes. bytes ++ c.args.text.now) c.in_ok-extend_from_slice.ensures.items
    ∙ one_more_copy c.args.bytes.now.items c.args.text.now c.args.between.now c.loop.bytes.items c.loop.counter c.loop.invariant

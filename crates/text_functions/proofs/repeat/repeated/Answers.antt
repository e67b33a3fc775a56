use Rattle.std.proofs.Common.{arith, ap, sym, ◌∙◌}
use Rattle.int_core.specs.Value.{string}
use Rattle.library_rows.specs.Arguments.{one}
use Rattle.text_functions.proofs.Copies.{no_copies}
use Rattle.text_functions.proofs.repeat.repeated.Goals as goal

pub returns-then-saturating_add-eq0 : goal.returns-then-saturating_add-eq0
returns-then-saturating_add-eq0 c =
    no_copies c.args.text.now c.args.between.now c.args.count (omega arith) (omega arith) ∙ ap (λ bytes. one (string bytes)) (sym c.new-then-saturating_add-eq0.ensures.items)

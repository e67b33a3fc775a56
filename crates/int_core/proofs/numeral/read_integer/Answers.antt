use Rattle.int_core.proofs.SpellsLemmas.{found-by_value, only-by_value}
use Rattle.int_core.proofs.numeral.read_integer.Goals as goal

pub returns-clause-found : goal.returns-clause-found
returns-clause-found c =
    found-by_value c.args.text.now c.spaceless.result
    (rw (c.split_at.ensures.back, c.space_len.ensures.value) at c.spaceless.ensures)

pub returns-clause-only : goal.returns-clause-only
returns-clause-only c =
    only-by_value c.args.text.now c.spaceless.result
    (rw (c.split_at.ensures.back, c.space_len.ensures.value) at c.spaceless.ensures)

use Rattle.pure_functions.proofs.QuickRows.{text_told}
use Rattle.pure_functions.proofs.quick.there.Goals as goal

pub returns-in-Some : goal.returns-in-Some
returns-in-Some c = text_told c.args.world.now c.in-Some.id c.args.bytes.now c.in-Some.ensures.found c.len.ensures.short

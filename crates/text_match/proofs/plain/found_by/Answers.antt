use Rattle.text_match.proofs.Needles.{no_byte}
use Rattle.text_match.proofs.plain.found_by.Goals as goal

pub returns-in-None : goal.returns-in-None
returns-in-None c = no_byte c.args.rest.now c.args.text.now c.args.first c.requires c.in-None.ensures

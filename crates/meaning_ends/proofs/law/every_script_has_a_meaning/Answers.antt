use Rattle.meaning_ends.proofs.Ends.{has_meaning}
use Rattle.meaning_ends.proofs.law.every_script_has_a_meaning.Goals as goal

pub returns : goal.returns
returns c = has_meaning

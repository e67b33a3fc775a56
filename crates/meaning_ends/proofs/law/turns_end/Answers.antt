use Rattle.meaning_ends.proofs.Ends.{turn_ends}
use Rattle.meaning_ends.proofs.law.turns_end.Goals as goal

pub returns : goal.returns
returns c = turn_ends

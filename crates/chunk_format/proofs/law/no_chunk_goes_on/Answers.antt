use Rattle.chunk_format.proofs.SpelledFunctions.{none_goes_on}
use Rattle.chunk_format.proofs.law.no_chunk_goes_on.Goals as goal

pub returns : goal.returns
returns c = none_goes_on

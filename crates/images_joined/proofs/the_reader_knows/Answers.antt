use Rattle.images_joined.proofs.Goes.{reader_knows, session_reader_knows}
use Rattle.images_joined.proofs.the_reader_knows.Goals as goal

pub returns-clause-knows : goal.returns-clause-knows
returns-clause-knows c = reader_knows c.readers_know.ensures

pub returns-clause-libraries : goal.returns-clause-libraries
returns-clause-libraries c = session_reader_knows c.readers_know.ensures

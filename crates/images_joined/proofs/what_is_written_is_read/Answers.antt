use Rattle.images_joined.proofs.Joined.{written_is_held, written_is_read}
use Rattle.images_joined.proofs.what_is_written_is_read.Goals as goal

pub returns-clause-held : goal.returns-clause-held
returns-clause-held c = written_is_held

pub returns-clause-read : goal.returns-clause-read
returns-clause-read c = written_is_read c.written_worlds_are_savable.ensures c.readers_know.ensures c.written_images_stand.ensures.accepted

use Rattle.images_joined.proofs.Inverted.{inverse_can_load, read_by_inverse}
use Rattle.images_joined.proofs.what_is_written_is_read_by_the_inverse.Goals as goal

pub returns-clause-read : goal.returns-clause-read
returns-clause-read c = read_by_inverse c.what_is_written_is_read.ensures.read

pub returns-clause-loads : goal.returns-clause-loads
returns-clause-loads c = inverse_can_load

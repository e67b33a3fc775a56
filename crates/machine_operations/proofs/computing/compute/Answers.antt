use Rattle.std.proofs.Common.{arith}
use Rattle.machine_operations.proofs.computing.compute.Goals as goal

pub advance-requires-clause-order : goal.advance-requires-clause-order
advance-requires-clause-order c = c.requires.stands.sound.order

pub advance-requires-clause-at : goal.advance-requires-clause-at
advance-requires-clause-at c = c.requires.stands.at

pub advance-requires-clause-room : goal.advance-requires-clause-room
advance-requires-clause-room c = omega (arith, c.requires.stands.room)

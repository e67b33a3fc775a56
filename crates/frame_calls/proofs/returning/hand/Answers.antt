use Rattle.frame_calls.proofs.Takers.{both_changes, registers_kept, top_after}
use Rattle.frame_calls.proofs.returning.hand.Goals as goal

pub put-requires-clause-room : goal.put-requires-clause-room
put-requires-clause-room c = registers_kept c.requires.room

pub set_wait-requires : goal.set_wait-requires
set_wait-requires c = top_after c.requires.room c.put.ensures

pub set_pc-requires : goal.set_pc-requires
set_pc-requires c = top_after c.requires.room (both_changes c.put.ensures c.set_wait.ensures)

pub returns : goal.returns
returns c = both_changes (both_changes c.put.ensures c.set_wait.ensures) c.set_pc.ensures

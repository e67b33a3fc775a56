use Rattle.machine_moves.specs.Ending.{ending_of}
use Rattle.machine_primitives.proofs.Reading.{no_row, safe_by, steps_read}
use Rattle.machine_primitives.proofs.primitives.primitive.Goals as goal

pub unreachable-requires : goal.unreachable-requires
unreachable-requires c = no_row c.args.number c.in-None.ensures.none c.requires.safe

pub call-requires-clause-safe : goal.call-requires-clause-safe
call-requires-clause-safe c = safe_by c.args.number c.in-Some.called c.in-Some.ensures.some c.requires.safe

pub returns-clause-steps : goal.returns-clause-steps
returns-clause-steps c = steps_read c.args.number c.in-Some.called (ending_of c.in_ok-ending-in-Some.ending) c.in-Some.ensures.some c.in_ok-ending-in-Some.ensures.leads

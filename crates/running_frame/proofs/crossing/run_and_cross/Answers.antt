use Rattle.running_frame.proofs.Advanced.{advances_then}
use Rattle.running_frame.proofs.Remembered.{nothing_holds}
use Rattle.running_frame.proofs.crossing.run_and_cross.Goals as goal

pub run_round-pc-requires : goal.run_round-pc-requires
run_round-pc-requires g c = (c.requires.0, (nothing_holds g.g.around c.args.function.object.now.cells.items c.args.cells.now.objects c.args.memo.now c.requires.1.1, c.requires.1.0.own))

pub leave_or_go_on-requires : goal.leave_or_go_on-requires
leave_or_go_on-requires g c = (c.run_round-pc.ensures.runs, c.requires.1.0)

pub returns : goal.returns
returns g c = advances_then c.run_round-pc.ensures.goes c.leave_or_go_on.ensures

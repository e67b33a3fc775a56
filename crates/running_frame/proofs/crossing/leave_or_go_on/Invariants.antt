use Rattle.running_frame.proofs.crossing.leave_or_go_on.Given as goal

abbrev pub ghost-read_or_ask : goal.ghost-read_or_ask
ghost-read_or_ask g a = g.g

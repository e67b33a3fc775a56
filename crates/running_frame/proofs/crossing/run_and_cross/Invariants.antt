use Rattle.running_frame.proofs.crossing.run_and_cross.Given as goal

abbrev pub ghost-run_round : goal.ghost-run_round
ghost-run_round g a = g.g

abbrev pub ghost-leave_or_go_on : goal.ghost-leave_or_go_on
ghost-leave_or_go_on g a = g.g

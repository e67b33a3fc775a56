use Rattle.running_frame.proofs.crossing.cross_frame.Given as goal

abbrev pub ghost-run_and_cross : goal.ghost-run_and_cross
ghost-run_and_cross g a = g.g

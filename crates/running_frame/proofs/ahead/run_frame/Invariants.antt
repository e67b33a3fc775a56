use Rattle.running_frame.proofs.ahead.run_frame.Given as goal

abbrev pub ghost-run_frame_on_top : goal.ghost-run_frame_on_top
ghost-run_frame_on_top g a = g.g

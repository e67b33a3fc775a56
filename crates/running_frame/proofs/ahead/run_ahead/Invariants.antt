use Rattle.running_frame.proofs.ahead.run_ahead.Given as goal

abbrev pub ghost-run_frames : goal.ghost-run_frames
ghost-run_frames g a = g.rows

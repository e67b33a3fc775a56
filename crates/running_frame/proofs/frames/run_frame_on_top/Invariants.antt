use Rattle.running_frame.proofs.frames.run_frame_on_top.Given as goal

abbrev pub ghost-run_stack : goal.ghost-run_stack
ghost-run_stack g a = g.g

use Rattle.running_frame.proofs.ahead.cross_frames.Given as goal

abbrev pub ghost-cross_stack : goal.ghost-cross_stack
ghost-cross_stack g a = g.outside

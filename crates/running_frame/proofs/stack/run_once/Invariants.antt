use Rattle.running_frame.proofs.stack.run_once.Given as goal

abbrev pub ghost-run_frame : goal.ghost-run_frame
ghost-run_frame g a = g.g

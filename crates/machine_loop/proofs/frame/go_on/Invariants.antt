use Rattle.machine_loop.proofs.frame.go_on.Given as goal

abbrev pub ghost-step_frame : goal.ghost-step_frame
ghost-step_frame g a = g.g

use Rattle.running_frame.proofs.stack.run_stack.Given as goal

abbrev pub ghost-run_rounds : goal.ghost-run_rounds
ghost-run_rounds g a = g.g

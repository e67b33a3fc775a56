use Rattle.running_frame.proofs.stack.go_between.Given as goal

abbrev pub ghost-remember : goal.ghost-remember
ghost-remember g a = g.g

abbrev pub ghost-pass_between : goal.ghost-pass_between
ghost-pass_between g a = g.g

use Rattle.running_frame.proofs.stack.pass_between.Given as goal

abbrev pub ghost-read_between : goal.ghost-read_between
ghost-read_between g a = g.g

abbrev pub ghost-pass_close : goal.ghost-pass_close
ghost-pass_close g a = g.g

use Rattle.running_frame.proofs.stack.read_between.Given as goal

abbrev pub ghost-read_open : goal.ghost-read_open
ghost-read_open g a = g.g

abbrev pub ghost-read_inherited : goal.ghost-read_inherited
ghost-read_inherited g a = g.g

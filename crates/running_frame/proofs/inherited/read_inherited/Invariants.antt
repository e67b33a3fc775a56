use Rattle.running_frame.proofs.inherited.read_inherited.Given as goal

abbrev pub ghost-get_inherited : goal.ghost-get_inherited
ghost-get_inherited g a = g.g

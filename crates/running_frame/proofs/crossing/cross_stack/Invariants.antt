use Rattle.running_frame.proofs.crossing.cross_stack.Given as goal

abbrev pub ghost-cross_all : goal.ghost-cross_all
ghost-cross_all g a = g.outside

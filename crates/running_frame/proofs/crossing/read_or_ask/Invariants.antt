use Rattle.running_frame.proofs.crossing.read_or_ask.Given as goal

abbrev pub ghost-read_inherited : goal.ghost-read_inherited
ghost-read_inherited g a = g.g

abbrev pub ghost-ask_next : goal.ghost-ask_next
ghost-ask_next g a = g.g

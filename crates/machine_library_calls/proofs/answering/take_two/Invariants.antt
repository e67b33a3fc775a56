use Rattle.machine_library_calls.proofs.answering.take_two.Given as goal

abbrev pub ghost-take_values : goal.ghost-take_values
ghost-take_values g a = g.begun

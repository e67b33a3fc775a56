use Rattle.machine_library_calls.proofs.primitives.call_now.Given as goal

abbrev pub ghost-take_answer : goal.ghost-take_answer
ghost-take_answer g a = g.begun

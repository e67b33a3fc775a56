use Rattle.machine_library_calls.proofs.answering.take_values.Given as goal

abbrev pub ghost-wake_with : goal.ghost-wake_with
ghost-wake_with g a = g.begun

abbrev pub ghost-take_below : goal.ghost-take_below
ghost-take_below g a = g.begun
